-- Written types, by their forms.
use Rattle.std.proofs.Common.{◌≡◌, List, [], ◌∷◌, ◌++◌, append_assoc, Option, None, Some, refl, sym, ap, ◌∙◌}
use Rattle.std.proofs.lemmas.List.{append-nil}
use Rattle.td_values.specs.declared.TypeKind.{TypeKind}
use Rattle.td_values.specs.declared.TypeKind.TheVariants as kind
use Rattle.td_syntax.specs.declared.tree.Named.{Named}
use Rattle.td_syntax.specs.declared.tree.TypeExpr.{TypeExpr}
use Rattle.td_syntax.specs.declared.tree.TypeExpr.TheVariants as t
use Rattle.td_syntax.specs.declared.tree.TypeExpr.TheOpen.{TypeExpr-F}
use Rattle.td_syntax.specs.declared.tree.TypeExpr.TheFolds.{fold-roll-TypeExpr}
use Rattle.td_schema.specs.declared.error.TypeError.{TypeError}
use Rattle.td_schema.specs.declared.error.TypeError.TheVariants.{IllTyped, OutOfMemory}
use Rattle.td_schema.specs.Results.{Fails, where_some}
use Rattle.td_schema.specs.Schemas.{SchemaData}
use Rattle.td_schema.specs.Written.{written, written_step, all_named, distinct_columns, heading_written}

-- where there is nothing, nothing is made of it
pub still_fails : {A B : Type 0} (o : Option A) (f : A → Option B) (e : TypeError) → Fails e o → Fails e (where_some o f)
still_fails o f OutOfMemory h = tt
still_fails o f IllTyped h = ap (λ p. where_some p f) h

-- those that are done, and what the others become
module _ {A B : Type 0} (f : A → Option B) where
  abbrev pub all_after : List (Named B) → List (Named A) → Option (List (Named B))
  all_after done [] = Some done
  all_after done (x ∷ xs) = where_some (f x.value) (λ y. all_after (done ++ record { name = x.name; value = y } ∷ []) xs)

  behind : (done : List (Named B)) (xs : List (Named A)) → all_after done xs ≡ where_some (all_named f xs) (λ ys. Some (done ++ ys))
  behind done [] = ap Some (sym (append-nil done))
  behind done (x ∷ xs) = by (f x.value) (λ y. behind (done ++ record { name = x.name; value = y } ∷ []) xs)
    where
      joined : (n : Named B) (o : Option (List (Named B))) → where_some o (λ ys. Some ((done ++ n ∷ []) ++ ys)) ≡ where_some (where_some o (λ ys. Some (n ∷ ys))) (λ ys. Some (done ++ ys))
      joined n None = refl
      joined n (Some ys) = ap Some (append_assoc done (n ∷ []) ys)

      by : (o : Option B) → ((y : B) → all_after (done ++ record { name = x.name; value = y } ∷ []) xs ≡ where_some (all_named f xs) (λ ys. Some ((done ++ record { name = x.name; value = y } ∷ []) ++ ys))) → where_some o (λ y. all_after (done ++ record { name = x.name; value = y } ∷ []) xs) ≡ where_some (where_some o (λ y. where_some (all_named f xs) (λ ys. Some (record { name = x.name; value = y } ∷ ys)))) (λ ys. Some (done ++ ys))
      by None rest = refl
      by (Some y) rest = rest y ∙ joined (record { name = x.name; value = y }) (all_named f xs)

  pub from_first : (xs : List (Named A)) → all_named f xs ≡ all_after [] xs
  from_first xs = sym (behind [] xs ∙ itself (all_named f xs))
    where
      itself : (o : Option (List (Named B))) → where_some o (λ ys. Some ([] ++ ys)) ≡ o
      itself None = refl
      itself (Some ys) = refl

module _ (cat : SchemaData) where
  abbrev parts : List (Named TypeExpr) → List (Named (Option TypeKind))
  parts [] = []
  parts (x ∷ xs) = record { name = x.name; value = written cat x.value } ∷ parts xs

  by_part : (xs : List (Named TypeExpr)) → all_named (λ k. k) (parts xs) ≡ all_named (written cat) xs
  by_part [] = refl
  by_part (x ∷ xs) = ap (λ r. where_some (written cat x.value) (λ y. where_some r (λ ys. Some (record { name = x.name; value = y } ∷ ys)))) (by_part xs)

  heading : (xs : List (Named TypeExpr)) → where_some (all_named (λ k. k) (parts xs)) distinct_columns ≡ heading_written cat xs
  unfolding heading_written
  heading xs = ap (λ o. where_some o distinct_columns) (by_part xs)

  pub of_tuple : (xs : List (Named TypeExpr)) → written cat (t.Tuple xs) ≡ where_some (heading_written cat xs) (λ h. Some (kind.Tuple h))
  of_tuple xs =
      ap (written cat) (sym (t.rolls-Tuple xs)) ∙ fold-roll-TypeExpr (Option TypeKind) (written_step cat) (TypeExpr-F.Tuple xs)
      ∙ ap (λ o. where_some o (λ h. Some (kind.Tuple h))) (heading xs)

  pub of_relation : (xs : List (Named TypeExpr)) → written cat (t.Relation xs) ≡ where_some (heading_written cat xs) (λ h. Some (kind.Relation h))
  of_relation xs =
      ap (written cat) (sym (t.rolls-Relation xs)) ∙ fold-roll-TypeExpr (Option TypeKind) (written_step cat) (TypeExpr-F.Relation xs)
      ∙ ap (λ o. where_some o (λ h. Some (kind.Relation h))) (heading xs)
