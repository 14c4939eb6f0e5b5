-- What is told of the base relvars that constraints read.
use Rattle.std.proofs.Common.{◌≡◌, ◌+◌, ◌<◌, ℕ, true, List, [], ◌∷◌, ◌++◌, Option, Some, None, length, slice_get, refl, sym, ap, ◌∙◌, subst, arith}
use Rattle.std.proofs.lemmas.List.{length-append}
use Rattle.std.proofs.lemmas.Option.{slice_get-get_or, slice_get_within}
use Rattle.td_typed_trees.specs.declared.expression.Expression.{Expression}
use Rattle.td_typed_trees.specs.declared.tree.Typed.{Typed}
use Rattle.td_values.specs.declared.TypeKind.TheVariants as kind
use Rattle.td_headings.specs.Catalogues.{CatalogueData}
use Rattle.td_headings.specs.Definitions.{Defined}
use Rattle.td_headings.specs.Expressions.{IsClosedExpression, IsConstraint, constraint_at}
use Rattle.td_headings.specs.Reached.{ReadsRelvar}
use Rattle.td_headings.specs.ForProofs.KeptConstraints.{AreKept}
use Rattle.td_headings.specs.ForProofs.RelvarsRead.{AreTold, AreToldOf, TellsReads, may_be}
use Rattle.td_headings.specs.declared.relvars_read.RelvarsRead.{RelvarsRead}
use Rattle.td_headings.proofs.Placed.{front_or_last}
use Rattle.td_headings.proofs.ReadLemmas.{reads_those}
use Rattle.td_headings.proofs.WellTyped.{all_typed}

pub none_told_of : (c : CatalogueData) → AreToldOf c []
none_told_of c k y is = cc

pub none_told : AreTold [] []
none_told = record { many = refl; told = λ k x y is also. cc }

pub one_told : (xs : List (Option Expression)) (ys : List RelvarsRead) (x : Option Expression) (y : RelvarsRead) → AreTold xs ys → TellsReads x y → AreTold (xs ++ x ∷ []) (ys ++ y ∷ [])
one_told xs ys x y all one = record {
  many = length-append ys (y ∷ []) ∙ ap (λ n. n + 1) all.many ∙ sym (length-append xs (x ∷ []));
  told = λ k u v is also.
      front_or_last xs x k u is
      (λ front. front_or_last ys y k v also (all.told k u v front) (λ at same. absurd (let low : k < length xs = slice_get_within xs k u front in let many = all.many in omega (arith, low, at, many))))
      (λ at same. front_or_last ys y k v also
      (λ front. absurd (let low : k < length ys = slice_get_within ys k v front in let many = all.many in omega (arith, low, at, many)))
      (λ there is_y. subst (λ w. TellsReads w v) same (subst (TellsReads x) is_y one)));
}

pub told_of : (c : CatalogueData) (xs : List (Option Expression)) (ys : List RelvarsRead) → Defined c → AreKept c xs → AreTold xs ys → AreToldOf c ys
told_of c xs ys defined kept all k y is u tree n read = by (slice_get xs k) refl
  where
    read_of : (x : Expression) → IsClosedExpression c u kind.Boolean x → slice_get xs k ≡ Some (Some x) → may_be y n ≡ true
    read_of x closed e = all.told k (Some x) y e is n (((reads_those c (all_typed c defined) x closed.under).members n).1 (subst (λ (t : Typed). ReadsRelvar c.origins t n) (sym closed.tree) read))

    by : (o : Option (Option Expression)) → slice_get xs k ≡ o → may_be y n ≡ true
    by None e =
        let low : k < length ys = slice_get_within ys k y is in
        let many = all.many in
        let some = slice_get-get_or xs k None (omega (arith, low, many)) in
        cc
    by (Some None) e = all.told k None y e is n
    by (Some (Some x)) e = read_of x (subst (λ t. IsConstraint c t x) tree (kept k x e)) e
