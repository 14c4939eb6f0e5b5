use Rattle.std.proofs.Common.{sym, subst}
use Rattle.td_semantics.specs.Databases.{IsDatabase}
use Rattle.td_relvars.specs.ForProofs.Kept.{AreFirst, keys_of, rows_of}
use Rattle.td_relvars.proofs.database.Database.count_reads.Goals as goal

pub invariant_of-self : goal.invariant_of-self
invariant_of-self c =
    let s = c.self.inside in
    subst (λ xs. IsDatabase (record { catalogue = s.catalogue; stored = rows_of xs }) × AreFirst s.catalogue (keys_of xs)) (sym c.count_reads_at.ensures) c.self.invariant
