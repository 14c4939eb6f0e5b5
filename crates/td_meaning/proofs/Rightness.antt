-- Lists of parts whose values are right.
use Rattle.std.proofs.Common.{◌≡◌, ℕ, List, [], ◌∷◌, Vec, Global, Option, None, Some, IfSome, Result, Ok, Err, refl, ap, sym, ◌∙◌, take, drop, subst, inl, ⊎_elim, arith}
use Rattle.std.specs.List.{Contains, insert}
use Rattle.std.proofs.lemmas.List.{take-append-drop}
use Rattle.std.proofs.lemmas.List.Elements.{Contains-append_cases, Contains-append_left, Contains-append_right, Contains-push_cases}
use Rattle.td_meaning.specs.declared.environment.Environment.{Environment}
use Rattle.td_meaning.specs.declared.parts.HoistedTerm.{HoistedTerm}
use Rattle.td_values.specs.Data.{Datum}
use Rattle.td_typed_trees.specs.declared.tree.Typed.{Typed}
use Rattle.td_algebra.specs.declared.errors.Fault.{Fault}
use Rattle.td_algebra.specs.declared.errors.Fault.TheVariants.{Raised}
use Rattle.td_algebra.specs.declared.errors.Stop.{Stop}
use Rattle.td_algebra.specs.Raising.{Answers}
use Rattle.td_values.specs.declared.raises.Raise.TheVariants.{Overflow}
use Rattle.td_algebra.specs.declared.errors.Stop.TheVariants.{Untyped, Error}
use Rattle.td_meaning.specs.Mean.{Names}
use Rattle.td_meaning.specs.Parts.{AreRight, IsRight}
use Rattle.td_meaning.specs.Seen.{mean_in, relvars_there}
use Rattle.td_meaning.specs.Selections.{selection}
use Rattle.td_meaning.proofs.Fewer.{steady}

pub right_with : (env : Environment) (ps : List HoistedTerm) (i : ℕ) (p : HoistedTerm) → AreRight env ps → IsRight env p → AreRight env (insert ps i p)
right_with env ps i p old new q among =
    ⊎_elim
    (λ front. old q (subst (λ l. Contains l q) (take-append-drop i ps) (Contains-append_left (take i ps) (drop i ps) q front)))
    (λ rest. ⊎_elim
    (λ one. ⊎_elim (λ none. none_there q none) (λ same. subst (IsRight env) same new) (Contains-push_cases [] p q one))
    (λ behind. old q (subst (λ l. Contains l q) (take-append-drop i ps) (Contains-append_right (take i ps) (drop i ps) q behind)))
    (Contains-append_cases (p ∷ []) (drop i ps) q rest))
    (Contains-append_cases (take i ps) (p ∷ drop i ps) q among)
  where
    none_there : (q : HoistedTerm) → Contains [] q → IsRight env q
    none_there q h = absurd (omega (arith, h.1))

pub right_in_slice : (env : Environment) (o : Option (Vec HoistedTerm Global)) (v : Vec HoistedTerm Global) (ps : List HoistedTerm) → IfSome o (λ w. AreRight env w.items) → o ≡ Some v → ps ≡ v.items → AreRight env ps
right_in_slice env o v ps right is same = subst (AreRight env) (sym same) (subst (λ p. IfSome p (λ w. AreRight env w.items)) is right)

-- what an expression means where no name stands for anything it means wherever it stands
closed_means : (env : Environment) (a : Typed) (w : Result Datum Stop) → mean_in env a (λ x. None) ≡ w → (w ≡ Err Untyped → ⊥) → (names : Names) → mean_in env a names ≡ w
closed_means env a w is typed names =
    ⊎_elim (λ wants. absurd (typed (sym is ∙ wants))) (λ same. sym same ∙ is)
    (steady (relvars_there env) (selection env.selectors.now) a (λ x. None) names (λ x. inl refl))

told : Result Datum Stop → Type 0
told (Ok d) = Unit {0}
told (Err e) = ⊥

stop_of : Result Datum Stop → Stop
stop_of (Ok d) = Error Overflow
stop_of (Err e) = e

pub value_means : (env : Environment) (a : Typed) (d : Datum) → mean_in env a (λ x. None) ≡ Ok d → (names : Names) → mean_in env a names ≡ Ok d
unfolding told
value_means env a d is names = closed_means env a (Ok d) is (λ e. subst told e tt) names

pub error_means : (env : Environment) (a : Typed) (e : Stop) → mean_in env a (λ x. None) ≡ Err e → (e ≡ Untyped → ⊥) → (names : Names) → mean_in env a names ≡ Err e
unfolding stop_of
error_means env a e is typed names = closed_means env a (Err e) is (λ same. typed (ap stop_of same)) names

pub told_error : {W : Type 0} (f : Fault W) (e : Stop) (m : Result Datum Stop) → f ≡ Raised e → Answers {A = Datum} (Err f) m → m ≡ Err e
told_error f e m is answers = subst (λ g. Answers {A = Datum} (Err g) m) is answers
