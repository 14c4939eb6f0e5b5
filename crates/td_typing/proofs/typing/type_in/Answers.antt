use Rattle.td_schema.specs.Scopes.{visible}
use Rattle.td_typing.proofs.Told.{typed, refused}
use Rattle.td_typing.proofs.typing.type_in.Goals as goal

pub returns : goal.returns
returns c = record {
  typed = typed c.args.schema.now (visible c.args.scope.now) c.args.expr.now c.typing.result c.typing.ensures;
  refused = refused c.args.schema.now (visible c.args.scope.now) c.args.expr.now c.typing.result c.typing.ensures;
}
