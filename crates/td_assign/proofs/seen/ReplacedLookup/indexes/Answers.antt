use Rattle.std.proofs.Common.{sym, ap, subst}
use Rattle.td_eval.specs.Keyed.{AreByKeys}
use Rattle.td_semantics.specs.Databases.{stored_relvars}
use Rattle.td_semantics.specs.Given.{or_old}
use Rattle.td_assign.proofs.seen.ReplacedLookup.indexes.Goals as goal

pub returns-in-None : goal.returns-in-None
returns-in-None c =
    let m = stored_relvars c.args.self.now.database.now.stored c.args.relvar in
    subst (λ r. AreByKeys r c.indexes.result.now) (sym (ap (λ o. or_old o m) c.in-None.ensures)) c.indexes.ensures
