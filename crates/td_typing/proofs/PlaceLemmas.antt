-- What loops over places need.
use Rattle.std.proofs.Common.{◌≡◌, ◌≤◌, ◌<◌, ℕ, zero, suc, nat_eq, List, [], ◌∷◌, length, get_or, drop, Some, refl, ap, sym, ◌∙◌, arith}
use Rattle.std.proofs.Math.Dec.{eqb-suc-zero, eqb-zero-suc, eqb-suc-suc}
use Rattle.std.specs.FinMap as by_name
use Rattle.td_values.specs.Data.{Ty}
use Rattle.td_values.specs.Headings.{Header}
use Rattle.td_values.specs.View.{ty_of}
use Rattle.td_values.specs.declared.TypeKind.{TypeKind}
use Rattle.td_syntax.specs.declared.tree.Named.{Named}
use Rattle.td_typed_trees.specs.declared.tree.Typed.TheVariants as t
use Rattle.td_typed_trees.specs.declared.tree.Typing.{Typing}
use Rattle.td_schema.specs.Results.{where_some}
use Rattle.td_schema.specs.Kinds.{Name, kind_of}
use Rattle.td_typing.specs.Trees.{typing}
use Rattle.td_typing.specs.ForProofs.Infer.{fit, lone, lone_term}
use Rattle.td_schema.proofs.KindLemmas.{kind_back}

-- where one of the lists ends, they fit if they are as long
pub fit_ended : (i : ℕ) (ks : List TypeKind) (cs : List (Named TypeKind)) → i ≤ length ks → i ≤ length cs → (i < length ks → i < length cs → ⊥) → nat_eq (length ks) (length cs) ≡ fit (drop i ks) (drop i cs)
fit_ended zero [] [] p q h = refl
fit_ended zero [] (c ∷ cs) p q h = eqb-zero-suc (length cs)
fit_ended zero (k ∷ ks) [] p q h = eqb-suc-zero (length ks)
fit_ended zero (k ∷ ks) (c ∷ cs) p q h = absurd (h (omega arith) (omega arith))
fit_ended (suc i) [] cs p q h = absurd (omega arith)
fit_ended (suc i) (k ∷ ks) [] p q h = absurd (omega arith)
fit_ended (suc i) (k ∷ ks) (c ∷ cs) p q h = eqb-suc-suc (length ks) (length cs) ∙ fit_ended i ks cs (omega arith) (omega arith) (λ a b. h (omega arith) (omega arith))

lone_first : (xs : List (Name × Ty)) (a b : Name × Ty) → 1 ≤ length xs → length xs < 2 → lone xs ≡ Some ((get_or xs 0 a).0, (get_or xs 0 b).1)
lone_first [] a b p q = absurd (omega arith)
lone_first (x ∷ []) a b p q = refl
lone_first (x ∷ y ∷ xs) a b p q = absurd (omega arith)

-- the one attribute, as it is read
pub lone_is : (h : Header) (xs : List (Name × Ty)) (a b : Name × Ty) (n : Name) (k : TypeKind) (y : Typing) → xs ≡ by_name.entries h → 1 ≤ length xs → length xs < 2 → n ≡ (get_or xs 0 a).0 → ty_of k ≡ (get_or xs 0 b).1 → y ≡ typing (t.Local n) k → lone_term h ≡ Some y
unfolding lone_term
lone_is h xs a b n k y is p q name ty made =
    ap (λ es. where_some (lone es) (λ f. Some (typing (t.Local f.0) (kind_of f.1)))) (sym is)
    ∙ ap (λ o. where_some o (λ f. Some (typing (t.Local f.0) (kind_of f.1)))) (lone_first xs a b p q)
    ∙ ap (λ m. Some (typing (t.Local m) (kind_of (get_or xs 0 b).1))) (sym name)
    ∙ ap (λ j. Some (typing (t.Local n) j)) (ap kind_of (sym ty) ∙ kind_back k)
    ∙ ap Some (sym made)
