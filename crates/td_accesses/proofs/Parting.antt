-- Statements that do not meet what is accessed.
use Rattle.std.proofs.Common.{◌≡◌, ◌↔◌, ◌<◌, ◌⊎◌, get_or, inl, inr, ℕ, Some, slice_get, Bool, true, false, IsTrue, List, [], ◌∷◌, length, sym, ◌∙◌, subst, true≢false, arith}
use Rattle.std.specs.List.{All, Contains, filter}
use Rattle.std.specs.Ordering.{eq_by_cmp}
use Rattle.std.proofs.lemmas.List.Elements.{All-contains}
use Rattle.td_values.specs.Data.{Attrs}
use Rattle.td_values.specs.Order.{attrs_order}
use Rattle.td_values.specs.Rows.{RowsData}
use Rattle.td_tuples.specs.Parts.{cut}
use Rattle.td_relations.specs.Sets.{Has, IsRelationOf}
use Rattle.td_algebra.specs.KeyIndexes.{KeyIndexData, has_named, values_named}
use Rattle.td_algebra.specs.Keys.{shares_part}
use Rattle.td_algebra.proofs.ByKey.{values_of_part}
use Rattle.td_algebra.proofs.Lists.{In, contains_in, filter_in, in_contains}
use Rattle.td_algebra.proofs.Made.{has_in}
use Rattle.td_algebra.proofs.PlacedParts.{itself}
use Rattle.td_headings.specs.Catalogues.{CatalogueData}
use Rattle.td_headings.specs.declared.defined.Test.TheVariants as test
use Rattle.td_typed_trees.specs.declared.tree.Typed.{Typed}
use Rattle.td_incremental.specs.Growth.{IsUnread}
use Rattle.td_incremental.specs.Safety.{IsSafe}
use Rattle.td_incremental.specs.declared.references.Reference.{Reference}
use Rattle.td_insertions.specs.Insertions.{Inserts}
use Rattle.td_accesses.specs.Commuting.{AllJudgeBeside, AreApart, RefersElsewhere}
use Rattle.td_accesses.specs.Covering.{KeepsWithin}
use Rattle.td_accesses.specs.Dependencies.{TellsDependency, TellsDependencies}
use Rattle.td_accesses.specs.ForProofs.Accessed.{DiffersFrom, IsBeside, IsClearOf}
use Rattle.td_accesses.specs.ForProofs.Growing.{IsElsewhere, LacksPart, LacksParts}
use Rattle.td_accesses.specs.declared.accesses.Insertions.{Insertions}
use Rattle.td_accesses.specs.declared.dependencies.RelvarDependencies.{RelvarDependencies}

-- ---- places
none_in_both : (r : Bool) (xs ys : List ℕ) → IsTrue r ↔ ((n : ℕ) × Contains ys n × Contains xs n) → r ≡ false → (n : ℕ) → Contains xs n → Contains ys n → ⊥
none_in_both r xs ys told no_one n one other = true≢false (sym (told.1 (n, other, one)) ∙ no_one)

pub are_apart : (p q : Bool) (reads writes other_reads other_writes : List ℕ) → IsTrue p ↔ ((n : ℕ) × Contains other_reads n × Contains writes n) → IsTrue q ↔ ((n : ℕ) × Contains reads n × Contains other_writes n) → p ≡ false → q ≡ false
    → (c : CatalogueData) (k l : ℕ) (a b : List ℕ) → KeepsWithin c k a reads writes → KeepsWithin c l b other_reads other_writes → AreApart c k a l b
are_apart p q reads writes other_reads other_writes first second not_first not_second c k l a b one other = record {
  first = λ n target in_print. none_in_both p writes other_reads first not_first n (one.targets n target) (other.footprint n in_print);
  second = λ n target in_print. none_in_both q other_writes reads second not_second n (other.targets n target) (one.footprint n in_print);
}

-- ---- tuples
none_left : (xs : List Attrs) (t : Attrs) → length xs ≡ 0 → In t xs → ⊥
none_left [] t none h = h
none_left (x ∷ xs) t none h = omega (arith, none)

pub lacks_part : (x : KeyIndexData) (t : Attrs) (found : List Attrs) → found ≡ filter (shares_part x.key t) x.tuples → length found ≡ 0 → LacksPart x t
lacks_part x t found is none = record {
  none = λ u there same.
      let shares : shares_part x.key t u ≡ true = subst (λ (w : Attrs). eq_by_cmp attrs_order (cut x.key u) w ≡ true) same (itself (cut x.key u)) in
      none_left found u none (subst (In u) (sym is) (filter_in (shares_part x.key t) x.tuples u (contains_in x.tuples u there) shares));
}

pub lacks_parts : (s : RowsData) (x : KeyIndexData) (ts : List Attrs) → ts ≡ s.tuples → All (LacksPart x) ts → LacksParts s x
lacks_parts s x ts same all = record {
  none = λ t u has. (All-contains (LacksPart x) ts t all (subst (λ (us : List Attrs). Contains us t) (sym same) (in_contains s.tuples t (has_in s t has)))).none u;
}

-- ---- insertions
pub differs : (ts : List RelvarDependencies) (reads writes : List ℕ) (n : ℕ) (s : RowsData) (g : Insertions) → g.relvar ≡ n → All (LacksParts s) g.indexes.items → DiffersFrom ts reads writes n s g
differs ts reads writes n s g same lack = record {
  commute = λ c k l a b dependencies among within inserts. inr (inl (record {
    relvar = g.relvar;
    one = among.tuples;
    other = s;
    first = among.inserts;
    second = subst (λ m. Inserts c l b m s) (sym same) inserts;
    judge = among.judge;
    differ = record {
      key = among.key;
      has_key = among.has_key;
      differ = λ ks u v there had has alike.
          let x = among.kept ks there in
          (All-contains (LacksParts s) g.indexes.items x.0 lack x.1).none v u has (x.3 u had) (subst (λ (names : List (List ℕ)). cut names u ≡ cut names v) (sym x.2) alike);
    };
  }));
}

-- ---- insertions into another relvar
pub lacks_values : (x : KeyIndexData) (t : Attrs) (found : RowsData) → IsRelationOf x.heading (λ u. Contains x.tuples u × (has_named x.key t u ≡ true)) found → length found.tuples ≡ 0 → LacksPart x t
lacks_values x t found is none = record {
  none = λ u there same.
      let shares : has_named x.key t u ≡ true = subst (λ (w : Attrs). eq_by_cmp attrs_order (values_named x.key u) w ≡ true) (values_of_part u t x.key same) (itself (values_named x.key u)) in
      none_left found.tuples u none (has_in found u (is.all u (there, shares)));
}

pub is_elsewhere : (n : ℕ) (xs : List KeyIndexData) (s : RowsData) (r : Reference) (i : ℕ) (x : KeyIndexData) → i < length xs → x ≡ get_or xs i x → x.key ≡ r.names.items → (ts : List Attrs) → ts ≡ s.tuples → All (LacksPart x) ts → IsElsewhere n xs s r
is_elsewhere n xs s r i x lt at key ts same all = record { lacks = λ to. (x, (i, lt, sym at), key, lacks_parts s x ts same all) }

-- what the dependencies of the relvar at m say of the one at n, which is not bound, where each reference to it is elsewhere
module _ (c : CatalogueData) (m n : ℕ) (x : RelvarDependencies) (apart : m ≡ n → ⊥) (suited : x.is_suited ≡ true) (free : Contains x.bound.items n → ⊥) where
  judged_beside : (s t : RowsData) → ((r : Reference) → Contains x.references.items r → r.relvar ≡ n → (a b : Attrs) → Has s a → Has t b → cut r.names.items a ≡ cut r.names.items b → ⊥)
      → ((y : List ℕ) (u : Typed) → Contains c.tests (test.Constraint y u) → TellsDependencies c m u x) → AllJudgeBeside c m n s t
  judged_beside s t elsewhere dependencies y u there = by ((dependencies y u there).told suited n apart)
    where
      by : TellsDependency c m n u x → IsUnread c n u ⊎ (IsSafe c m u ⊎ RefersElsewhere c m n s t u)
      by (inl unread) = inl unread
      by (inr (inl safe)) = inr (inl safe)
      by (inr (inr (watched, inl bound))) = absurd (free bound)
      by (inr (inr (watched, inr (r, in_it, is)))) = inr (inr (record { names = r.names.items; refers = is.refers; watched = watched; apart = elsewhere r in_it is.relvar }))

pub besides : (ts : List RelvarDependencies) (n : ℕ) (s : RowsData) (g : Insertions) (own other : RelvarDependencies) → slice_get ts n ≡ Some own → slice_get ts g.relvar ≡ Some other → own.is_suited ≡ true → other.is_suited ≡ true
    → (Contains own.bound.items g.relvar → ⊥) → (Contains other.bound.items n → ⊥) → All (IsElsewhere g.relvar g.links.items s) own.references.items → All (IsElsewhere n g.links.items s) other.references.items → IsBeside ts n s g
besides ts n s g own other own_there other_there suits suited free released one two = record {
  apart = λ c k l a b dependencies off among inserts.
      let t = among.tuples in
      record {
        relvar = g.relvar;
        other_relvar = n;
        apart = off;
        one = t;
        other = s;
        first = among.inserts;
        second = inserts;
        first_judged = judged_beside c g.relvar n other off suited released t s
            (λ r in_it to u v had has same.
            let x = (All-contains (IsElsewhere n g.links.items s) other.references.items r two in_it).lacks to in
            x.3.none v u has (among.linked x.0 x.1 u had) (subst (λ (names : List (List ℕ)). cut names u ≡ cut names v) (sym x.2) same))
            (λ y u there. dependencies g.relvar other other_there y u there);
        second_judged = judged_beside c n g.relvar own (λ e. off (sym e)) suits free s t
            (λ r in_it to u v has had same.
            let x = (All-contains (IsElsewhere g.relvar g.links.items s) own.references.items r one in_it).lacks to in
            x.3.none u v has (among.linked x.0 x.1 v had) (subst (λ (names : List (List ℕ)). cut names v ≡ cut names u) (sym x.2) (sym same)))
            (λ y u there. dependencies n own own_there y u there);
      };
}

-- one that does not meet the insertions, and one beside them
pub clears : (ts : List RelvarDependencies) (reads writes : List ℕ) (n : ℕ) (s : RowsData) (g : Insertions) → IsClearOf reads writes g → DiffersFrom ts reads writes n s g
clears ts reads writes n s g clear = record { commute = λ c k l a b dependencies among within inserts. inl (clear.apart c k l a b among within) }

pub stands_beside : (ts : List RelvarDependencies) (reads writes : List ℕ) (n : ℕ) (s : RowsData) (g : Insertions) → (g.relvar ≡ n → ⊥) → IsBeside ts n s g → DiffersFrom ts reads writes n s g
stands_beside ts reads writes n s g off is = record { commute = λ c k l a b dependencies among within inserts. inr (inr (is.apart c k l a b dependencies off among inserts)) }
