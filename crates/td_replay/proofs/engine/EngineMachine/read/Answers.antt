use Rattle.std.proofs.Common.{◌≡◌, subst}
use Rattle.td_semantics.specs.Databases.{DatabaseData}
use Rattle.td_replay.proofs.Making.{read_so}
use Rattle.td_replay.proofs.engine.EngineMachine.read.Goals as goal

pub returns : goal.returns
returns c =
    read_so c.args.self.now.catalogue c.catalogue.result.now c.args.entry.now.dialect c.as_str-text.result.now c.args.entry.now.text c.read.result
    (subst (λ (z : DatabaseData). c.catalogue.result.now ≡ z.catalogue) c.self.view_is c.catalogue.ensures.same)
    c.as_str-text.ensures c.read.ensures
