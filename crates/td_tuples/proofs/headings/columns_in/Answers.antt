use Rattle.std.proofs.Common.{ℕ, List, ap, ◌∙◌}
use Rattle.td_tuples.specs.Parts.{columns_in}
use Rattle.td_tuples.proofs.Searches.{columns_in-permuted}
use Rattle.td_tuples.proofs.headings.columns_in.Goals as goal

pub returns : goal.returns
returns c =
    let h = c.args.heading.now in
    c.in_ok-part.ensures ∙ ap (λ (ns : List (List ℕ)). columns_in ns h) c.deref.ensures.value ∙ columns_in-permuted c.args.names.now c.in_ok-sorted.sorted.items c.in_ok-sorted.ensures.same h
