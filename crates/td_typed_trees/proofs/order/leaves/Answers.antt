use Rattle.std.proofs.Common.{sym, ap, ◌∙◌}
use Rattle.std.proofs.lemmas.Map.Lookups.{exact_bytes}
use Rattle.td_typed_trees.specs.declared.tree.Typed.TheVariants as t
use Rattle.td_typed_trees.proofs.order.leaves.Goals as goal

pub returns-in-Text-Text : goal.returns-in-Text-Text
returns-in-Text-Text c = λ h.
    c.in-Text-Text.is-0 ∙ (ap t.Text (exact_bytes _ _ (sym c.compare.ensures ∙ h)) ∙ sym c.in-Text-Text.is-1)

pub returns-in-Local-Local : goal.returns-in-Local-Local
returns-in-Local-Local c = λ h.
    c.in-Local-Local.is-0 ∙ (ap t.Local (exact_bytes _ _ (sym c.compare-in-Local-Local.ensures ∙ h)) ∙ sym c.in-Local-Local.is-1)
