use Rattle.std.proofs.Common.{sym, subst}
use Rattle.td_semantics.specs.Databases.{IsDatabase}
use Rattle.td_relvars.proofs.Stores.{empty_database}
use Rattle.td_relvars.proofs.database.Database.empty.Goals as goal

pub invariant_of-result : goal.invariant_of-result
invariant_of-result c = (
  subst (λ xs. IsDatabase (record { catalogue = c.args.catalogue; stored = xs })) (sym c.in_ok-stored.ensures.empty) (empty_database c.args.catalogue c.all_empty.ensures.defined),
  c.in_ok-stored.ensures.keys,
)
