use Rattle.std.proofs.Common.{sym, subst}
use Rattle.std.specs.List.{All}
use Rattle.td_values.specs.Data.{Attrs}
use Rattle.td_algebra.specs.Raising.{Answers}
use Rattle.td_algebra.specs.Extending.{TakesBoth, Means}
use Rattle.td_algebra.specs.Summaries.{OfTerm, summary_over}
use Rattle.td_algebra.proofs.summarization.extend_by_group.Goals as goal

pub extend_tuple-requires : goal.extend_tuple-requires
extend_tuple-requires g c = λ i x among p q is_term is_tuple.
    λ j t at. subst (OfTerm (λ e. TakesBoth (λ a b. g.F.Fn.pre c.args.f.now (a, (b, tt))) e _)) (sym is_term) (c.requires j t at i x among)

pub returns-clause-means : goal.returns-clause-means
returns-clause-means g c = λ m means.
    let group = c.args.group.now in
    c.extend_tuple.ensures.means (λ s u. summary_over m group s) (λ i x among p q a is_term is_tuple gave.
    let P : Attrs → Type 0 = λ t. OfTerm (λ e. Means (λ y z. g.F.Fn.post c.args.f.now (y, (z, tt))) m e t) p.now in
    let all : All P group = λ j t at. subst (OfTerm (λ e. Means (λ y z. g.F.Fn.post c.args.f.now (y, (z, tt))) m e _)) (sym is_term) (means j t at i x among) in
    subst (λ s. Answers a (summary_over m group s)) is_term (gave m all))
