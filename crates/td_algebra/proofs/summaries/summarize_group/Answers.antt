use Rattle.std.proofs.Common.{IfSome, Vec, Global, Err, sym, subst}
use Rattle.std.specs.List.{All}
use Rattle.td_values.specs.Data.{Datum, Attrs}
use Rattle.td_algebra.specs.Raising.{Answers, all_of, and_then}
use Rattle.td_algebra.specs.Extending.{TakesBoth, Means}
use Rattle.td_algebra.specs.Summaries.{over_term, fold_of}
use Rattle.td_algebra.proofs.Folds.{fails_so}
use Rattle.td_algebra.proofs.summaries.summarize_group.Goals as goal

pub values_at-requires : goal.values_at-requires
values_at-requires g c =
    subst (λ o. All (λ (t : Attrs). IfSome o (λ e. TakesBoth (λ p q. g.F.Fn.pre c.args.f.now (p, (q, tt))) e t)) c.args.tuples.now) (sym c.in-Some.ensures) c.requires

pub returns-in-Ok : goal.returns-in-Ok
returns-in-Ok g c = λ m means.
    let s = c.args.summary.now in
    let ts = c.args.tuples.now in
    let told = c.in-Ok.ensures m (subst (λ o. All (λ (t : Attrs). IfSome o (λ e. Means (λ p q. g.F.Fn.post c.args.f.now (p, (q, tt))) m e t)) c.args.tuples.now) (sym c.in-Some.ensures) means) in
    subst (λ o. Answers c.fold_values.result (over_term m ts s o)) c.in-Some.ensures
    (subst (λ r. Answers c.fold_values.result (and_then r (fold_of s))) (sym told) (rw c.deref.ensures.value at c.fold_values.ensures))

pub returns-in-Err : goal.returns-in-Err
returns-in-Err g c = λ m means.
    let s = c.args.summary.now in
    let ts = c.args.tuples.now in
    let told = c.in-Err.ensures m (subst (λ o. All (λ (t : Attrs). IfSome o (λ e. Means (λ p q. g.F.Fn.post c.args.f.now (p, (q, tt))) m e t)) c.args.tuples.now) (sym c.in-Some.ensures) means) in
    subst (λ o. Answers (Err c.in-Err.fault) (over_term m ts s o)) c.in-Some.ensures
    (fails_so (λ (v : Vec Datum Global). v.items) c.in-Err.fault (all_of (m c.in-Some.term.now) ts) (fold_of s) told)
