-- Whether there is a tree, from what a reader answers.
use Rattle.std.proofs.Common.{◌≡◌, Bool, true, false, Result, Ok, Err, is_ok, refl}
use Rattle.std.specs.Prelude.{IfOk}
use Rattle.std.specs.declared.alloc.AllocError.{AllocError}
use Rattle.td_grammar.specs.declared.error.ReadError.{ReadError}
use Rattle.td_grammar.specs.declared.error.ReadError.TheVariants.{Syntax}

has_tree : {T : Type 0} (P : T → Type 0) (D : Bool → Type 0) → ((t : T) → P t → D true) → (r : Result T ReadError) → is_ok r ≡ true → IfOk r P → D true
has_tree P D with_one (Ok t) is h = with_one t h
has_tree P D with_one (Err e) is h = absurd cc

pub decided : {T : Type 0} (P : T → Type 0) (D : Bool → Type 0) → ((t : T) → P t → D true) → (((t : T) → ¬ (P t)) → D false)
    → (r : Result T ReadError) (told : Result Bool AllocError)
    → (told ≡ Ok true → is_ok r ≡ true) → (told ≡ Ok false → r ≡ Err Syntax)
    → IfOk r P → (r ≡ Err Syntax → (t : T) → ¬ (P t)) → IfOk told D
decided P D with_one without r (Ok true) found missed h none = has_tree P D with_one r (found refl) h
decided P D with_one without r (Ok false) found missed h none = without (none (missed refl))
decided P D with_one without r (Err e) found missed h none = tt
