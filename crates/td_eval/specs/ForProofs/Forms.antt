-- Expressions that take tuples out of a relvar, or put changed ones in their place: their trees, and what they mean.
use Rattle.std.specs.Prelude.{◌≡◌, ℕ, List, Result, Ok, Err}
use Rattle.td_values.specs.Rows.{RowsData}
use Rattle.td_relations.specs.Deltas.{DeltaData, IsDifference}
use Rattle.td_syntax.specs.declared.tree.BinaryOperator.TheVariants as binary
use Rattle.td_syntax.specs.declared.tree.UnaryOperator.TheVariants as unary
use Rattle.td_typed_trees.specs.declared.tree.Typed.{Typed}
use Rattle.td_typed_trees.specs.declared.tree.Typed.TheVariants as typed
use Rattle.td_tuples.specs.declared.items.Item.{Item}
use Rattle.td_algebra.specs.Functions.{extended, minus_of, restricted, union_of}
use Rattle.td_algebra.specs.Raising.{and_then}
use Rattle.td_algebra.specs.declared.errors.Fault.{Fault}
use Rattle.td_algebra.specs.declared.errors.Fault.TheVariants.{Raised, OutOfMemory, Wanting}
use Rattle.td_algebra.specs.declared.errors.Stop.{Stop}
use Rattle.td_meaning.specs.ForProofs.Over.{terms}
use Rattle.td_meaning.specs.Mean.{Meaning, truth_at}
use Rattle.td_operators.specs.Operators.{if_alike}
use Rattle.td_semantics.specs.Meanings.{no_names}
use Rattle.td_eval.specs.Changed.{after}
use Rattle.td_eval.specs.declared.forms.Form.{Form}
use Rattle.td_eval.specs.declared.forms.Form.TheVariants.{Less, Changed}

-- the tuples of the relvar of which the condition is false
abbrev pub rest_tree : ℕ → Typed → Typed
rest_tree n c = typed.Where (typed.Relvar n) (typed.Unary unary.Not c)

-- those of which it is true, changed
abbrev pub changed_tree : ℕ → Typed → List (Item Typed) → Typed
changed_tree n c xs = typed.Extend (typed.Where (typed.Relvar n) c) xs

abbrev pub form_tree : ℕ → Form → Typed
form_tree n (Less c) = rest_tree n c.now
form_tree n (Changed x) = typed.Binary binary.Union (rest_tree n x.condition.now) (changed_tree n x.condition.now x.items.now)

-- the tuples of which the condition is true, and these with their new values, where a tree means this
abbrev pub chosen : (Typed → Meaning) → Typed → RowsData → Result RowsData Stop
chosen m c r = restricted (truth_at (m c) no_names) r

abbrev pub renewed : (Typed → Meaning) → List (Item Typed) → RowsData → Result RowsData Stop
renewed m xs g = extended (terms m no_names) xs g

-- what is left of the relation, and that with the new tuples
abbrev pub form_means : (Typed → Meaning) → RowsData → Form → Result RowsData Stop
form_means m r (Less c) = and_then (chosen m c.now r) (λ g. Ok (minus_of r g))
form_means m r (Changed x) = and_then (chosen m x.condition.now r) (λ g. and_then (renewed m x.items.now g) (λ s. if_alike r s (union_of (minus_of r g) s)))

-- the change that makes it of the relation, or the error that it raises
abbrev pub TellsForm : {W : Type 0} → RowsData → Result RowsData Stop → Result DeltaData (Fault W) → Type 0
TellsForm r m (Ok d) = (m ≡ Ok (after r d)) × IsDifference r (after r d) d
TellsForm r m (Err (Raised e)) = m ≡ Err e
TellsForm r m (Err OutOfMemory) = Unit {0}
TellsForm r m (Err (Wanting w)) = Unit {0}
