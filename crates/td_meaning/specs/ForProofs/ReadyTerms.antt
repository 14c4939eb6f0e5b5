-- Terms made ready for a walk over tuples: an attribute or a value, an operation on two of these, or as they are.
use Rattle.std.specs.Prelude.{◌≡◌, ℕ, max, List, [], ◌∷◌, Result}
use Rattle.td_values.specs.Data.{Datum, Attrs}
use Rattle.td_values.specs.Headings.{Header}
use Rattle.td_tuples.specs.Parts.{Fits}
use Rattle.td_tuples.specs.declared.items.Item.{Item}
use Rattle.td_tuples.specs.declared.items.Summary.{Summary}
use Rattle.td_tuples.specs.declared.items.Summary.TheVariants as summary
use Rattle.td_typed_trees.specs.declared.tree.Typed.{Typed}
use Rattle.td_algebra.specs.declared.errors.Stop.{Stop}
use Rattle.td_algebra.specs.Raising.{and_then}
use Rattle.td_operators.specs.Operators.{operate}
use Rattle.td_meaning.specs.declared.ready.ReadyTerm.{ReadyTerm}
use Rattle.td_meaning.specs.declared.ready.ReadyTerm.TheVariants as ready
use Rattle.td_meaning.specs.ForProofs.Checks.{side_value}
use Rattle.td_meaning.specs.ForProofs.Levels.{levels}
use Rattle.td_meaning.specs.ForProofs.Over.{Means}
use Rattle.td_meaning.specs.Mean.{Names, within}

-- the term's value at a tuple
unfoldable pub ready_value : Means → Names → ReadyTerm → Attrs → Result Datum Stop
ready_value m names (ready.Side s) t = side_value t s
ready_value m names (ready.Operation o a b) t = and_then (side_value t a) (λ d. and_then (side_value t b) (operate o d))
ready_value m names (ready.Other e) t = m e.now (within t names)

-- it is the expression's at each tuple of the heading
abbrev pub IsReady : Means → Names → Header → Typed → ReadyTerm → Type 0
IsReady m names h a r = (t : Attrs) → Fits h t → ready_value m names r t ≡ m a (within t names)

-- the same summary of such a term
abbrev pub IsReadySummary : Means → Names → Header → Summary Typed → Summary ReadyTerm → Type 0
IsReadySummary m names h summary.Count summary.Count = Unit {0}
IsReadySummary m names h (summary.Sum a) (summary.Sum r) = IsReady m names h a r
IsReadySummary m names h (summary.Max a) (summary.Max r) = IsReady m names h a r
IsReadySummary m names h (summary.Min a) (summary.Min r) = IsReady m names h a r
IsReadySummary m names h (summary.And a) (summary.And r) = IsReady m names h a r
IsReadySummary m names h (summary.Or a) (summary.Or r) = IsReady m names h a r
IsReadySummary m names h s r = ⊥

-- items of the same names and types, each of which has such a term
abbrev pub AreReady : {E F : Type 0} → (E → F → Type 0) → List (Item E) → List (Item F) → Type 0
AreReady R [] [] = Unit {0}
AreReady R (i ∷ is) (j ∷ js) = (j.name ≡ i.name) × (j.ty ≡ i.ty) × R i.term j.term × AreReady R is js
AreReady R is js = ⊥

-- ---- how deep their expressions are
abbrev pub ready_levels : ReadyTerm → ℕ
ready_levels (ready.Side s) = 0
ready_levels (ready.Operation o a b) = 0
ready_levels (ready.Other e) = levels e.now

abbrev pub summary_depth : Summary ReadyTerm → ℕ
summary_depth summary.Count = 0
summary_depth (summary.Sum r) = ready_levels r
summary_depth (summary.Max r) = ready_levels r
summary_depth (summary.Min r) = ready_levels r
summary_depth (summary.And r) = ready_levels r
summary_depth (summary.Or r) = ready_levels r

abbrev pub deepest_item : List (Item ReadyTerm) → ℕ
deepest_item [] = 0
deepest_item (i ∷ is) = max (ready_levels i.term) (deepest_item is)

abbrev pub deepest_summary : List (Item (Summary ReadyTerm)) → ℕ
deepest_summary [] = 0
deepest_summary (i ∷ is) = max (summary_depth i.term) (deepest_summary is)
