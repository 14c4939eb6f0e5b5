use Rattle.std.proofs.Common.{map}
use Rattle.td_schema.proofs.Found.{relvar_refused, relvar_taken}
use Rattle.td_schema.proofs.schema.Schema.add_relvar.Goals as goal

pub returns-then-contains_key-clause-ill_typed : goal.returns-then-contains_key-clause-ill_typed
returns-then-contains_key-clause-ill_typed c =
    λ _. relvar_refused (map (λ e. e.1) c.self.inside.possreps.entries) c.self.inside.relvars.entries c.args.self.now c.self.view_is c.args.name c.args.heading c.contains_key.result c.contains_key.ensures c.if-contains_key.true

pub returns-clause-ok : goal.returns-clause-ok
returns-clause-ok c =
    relvar_taken (map (λ e. e.1) c.self.inside.possreps.entries) c.self.inside.relvars.entries c.args.self.now c.self.view_is c.args.name c.args.heading c.contains_key.result c.contains_key.ensures c.if-contains_key.false _ c.in-Ok.ensures.ok
