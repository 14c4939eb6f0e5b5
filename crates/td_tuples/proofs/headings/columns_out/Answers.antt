use Rattle.std.proofs.Common.{ℕ, List, ap, ◌∙◌}
use Rattle.td_tuples.specs.Parts.{columns_out}
use Rattle.td_tuples.proofs.Searches.{columns_out-permuted}
use Rattle.td_tuples.proofs.headings.columns_out.Goals as goal

pub returns : goal.returns
returns c =
    let h = c.args.heading.now in
    c.in_ok-part.ensures ∙ ap (λ (ns : List (List ℕ)). columns_out ns h) c.deref.ensures.value ∙ columns_out-permuted c.args.names.now c.in_ok-sorted.sorted.items c.in_ok-sorted.ensures.same h
