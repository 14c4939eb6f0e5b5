-- What is told of the reader is told of the grammar that it decides, and the other way round.
use Rattle.std.proofs.Common.{◌≡◌, ◌↔◌, Option, Some, None, Result, Ok, Err, refl, sym, ◌∙◌}
use Rattle.std.specs.Prelude.{IfOk}
use Rattle.td_grammar.specs.declared.error.ReadError.{ReadError}
use Rattle.td_grammar.specs.declared.error.ReadError.TheVariants.{Syntax, OutOfMemory}
use Rattle.td_grammar.specs.ForProofs.Readings.{Tells}
use Rattle.td_grammar.proofs.Places.{none_some}

pub tree_told : {A : Type 0} (o : Option A) (Is : A → Type 0) → ((a : A) → (o ≡ Some a) ↔ Is a) → (r : Result A ReadError) → Tells o r → IfOk r Is
tree_told o Is d (Ok a) h = (d a).0 h
tree_told o Is d (Err e) h = tt

pub none_told : {A : Type 0} (o : Option A) (Is : A → Type 0) → ((a : A) → (o ≡ Some a) ↔ Is a) → (r : Result A ReadError) → Tells o r → r ≡ Err Syntax → (a : A) → ¬ (Is a)
none_told o Is d (Ok b) h e a is = absurd (let no : ⊥ = cc in no)
none_told o Is d (Err Syntax) h e a is = none_some (sym h ∙ (d a).1 is)
none_told o Is d (Err OutOfMemory) h e a is = absurd (let no : ⊥ = cc in no)

no_tree : {A : Type 0} (o : Option A) → ((a : A) → o ≡ Some a → ⊥) → o ≡ None
no_tree None h = refl
no_tree (Some a) h = absurd (h a refl)

-- For a caller that speaks of the reader.
pub tells : {A : Type 0} (o : Option A) (Is : A → Type 0) → ((a : A) → (o ≡ Some a) ↔ Is a) → (r : Result A ReadError) → IfOk r Is → (r ≡ Err Syntax → (a : A) → ¬ (Is a)) → Tells o r
tells o Is d (Ok a) tree none = (d a).1 tree
tells o Is d (Err Syntax) tree none = no_tree o (λ a e. none refl a ((d a).0 e))
tells o Is d (Err OutOfMemory) tree none = tt
