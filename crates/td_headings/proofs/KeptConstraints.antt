-- Expressions that a catalogue keeps.
use Rattle.std.proofs.Common.{◌≡◌, List, [], ◌∷◌, ◌++◌, Option, Some, None, MatchOption, length, sym, subst}
use Rattle.td_typed_trees.specs.declared.expression.Expression.{Expression}
use Rattle.td_headings.specs.Catalogues.{CatalogueData}
use Rattle.td_headings.specs.Expressions.{IsConstraint, constraint_at}
use Rattle.td_headings.specs.ForProofs.KeptConstraints.{AreKept}
use Rattle.td_headings.proofs.Placed.{front_or_last}

pub none_kept : (c : CatalogueData) → AreKept c []
none_kept c n x is = cc

-- the expression of the next test, if it is a constraint
abbrev pub IsNext : CatalogueData → List (Option Expression) → Option Expression → Type 0
IsNext c xs o = MatchOption o (constraint_at c (length xs) ≡ None) (IsConstraint c (constraint_at c (length xs)))

pub one_kept : (c : CatalogueData) (xs : List (Option Expression)) (o : Option Expression) → AreKept c xs → IsNext c xs o → AreKept c (xs ++ o ∷ [])
one_kept c xs o kept told n x is =
    front_or_last xs o n (Some x) is (kept n x)
    (λ at same. subst (λ m. IsConstraint c (constraint_at c m) x) (sym at) (subst (IsNext c xs) same told))
