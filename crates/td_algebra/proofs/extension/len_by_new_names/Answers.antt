use Rattle.std.proofs.Common.{length, refl, sym, ap, subst}
use Rattle.td_tuples.specs.Items.{extended_columns}
use Rattle.td_algebra.specs.Counts.{IsLengthOf}
use Rattle.td_algebra.specs.declared.errors.Stop.{Stop}
use Rattle.td_algebra.specs.Extending.{Extended, RaisedBy}
use Rattle.td_algebra.proofs.NewNames.{check_fails, new_counted}
use Rattle.td_algebra.proofs.extension.len_by_new_names.Goals as goal

pub returns-in-Err : goal.returns-in-Err
returns-in-Err g c = λ m means.
    let items = c.args.items.now in
    let r = c.args.relation.now in
    check_fails m items r (IsLengthOf (extended_columns items r.heading) (Extended m items r)) c.in-Err.fault ((rw c.tuples.ensures.all at c.in-Err.ensures) m means)

pub returns-in-Ok : goal.returns-in-Ok
returns-in-Ok g c = λ m means.
    let items = c.args.items.now in
    let r = c.args.relation.now in
    subst (λ n. ((e : Stop) → RaisedBy m items r e → ⊥) × IsLengthOf (extended_columns items r.heading) (Extended m items r) n) (ap length (sym c.tuples-in-Ok.ensures.all)) (new_counted m items r.heading c.requires.new r refl c.tuples.ensures.rows ((rw c.tuples.ensures.all at c.in-Ok.ensures) m means))
