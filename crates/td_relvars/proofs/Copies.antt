-- Copies of what some relvars have, put back.
use Rattle.std.proofs.Common.{◌≡◌, ⊎_elim, ℕ, zero, suc, ◌<◌, Bool, true, false, List, [], ◌∷◌, length, Option, None, Some, slice_get, refl, ap, sym, ◌∙◌, subst, arith}
use Rattle.std.specs.List.{All, Contains, cons_option}
use Rattle.std.specs.Option.{option_flatten}
use Rattle.std.proofs.lemmas.Bool.{cases_eq}
use Rattle.std.proofs.lemmas.List.Elements.{All-cons, All-nil}
use Rattle.td_values.specs.Rows.{RowsData}
use Rattle.td_headings.specs.Catalogues.{CatalogueData}
use Rattle.td_headings.specs.Reached.{is_base}
use Rattle.td_semantics.specs.Databases.{Belongs, DatabaseData, IsDatabase, Stored, at_place, with_relation, stored_at, stored_relvars}
use Rattle.td_relvars.specs.Laws.{PartBelongs, PutBackRestores}
use Rattle.td_relvars.specs.Parts.{copy_of, part_of, put_part}
use Rattle.td_relvars.proofs.Kept.{base_has, belongs}
use Rattle.td_relvars.proofs.Places.{one_store}
use Rattle.td_relvars.proofs.Stores.{looked_up, not_stored, put_length, put_other, put_there}

-- ---- what is copied belongs
abbrev Own : CatalogueData → ℕ × RowsData → Type 0
Own c p = Belongs c p.0 p.1

one_belongs :
    (d : DatabaseData) (n : ℕ) (ps : List (ℕ × RowsData)) → IsDatabase d → All (Own d.catalogue) ps
    → (o : Option RowsData) → stored_at d n ≡ o → All (Own d.catalogue) (cons_option (copy_of n o) ps)
one_belongs d n ps is rest None e = rest
one_belongs d n ps is rest (Some r) e =
    All-cons (Own d.catalogue) (n, r) ps (belongs d is n r (looked_up (slice_get d.stored n) r e)) rest

pub part_belongs : PartBelongs
part_belongs d [] is = All-nil (Own d.catalogue)
part_belongs d (n ∷ ns) is = one_belongs d n (part_of d.stored ns) is (part_belongs d ns is) (stored_at d n) refl

-- ---- what is put back
-- where the one has nothing, the other has nothing
abbrev NothingElse : Stored → Stored → Type 0
NothingElse s t = (n : ℕ) → option_flatten (slice_get s n) ≡ None → option_flatten (slice_get t n) ≡ None

-- the same is stored at each other place
abbrev SameElsewhere : Stored → Stored → List ℕ → Type 0
SameElsewhere s t ns = (n : ℕ) → (Contains ns n → ⊥) → stored_relvars s n ≡ stored_relvars t n

nothing : (o : Option (Option RowsData)) → option_flatten o ≡ None → at_place o ≡ at_place None
nothing None e = refl
nothing (Some None) e = refl
nothing (Some (Some r)) e = cc

some_within : (xs : Stored) (n : ℕ) (r : RowsData) → option_flatten (slice_get xs n) ≡ Some r → n < length xs
some_within [] n r e = cc
some_within (x ∷ xs) zero r e = omega arith
some_within (x ∷ xs) (suc n) r e = let lt = some_within xs n r e in omega (arith, lt)

there_cases : (n m : ℕ) (ns : List ℕ) → (n ≡ m → ⊥) → (Contains ns m → ⊥) → Contains (n ∷ ns) m → ⊥
there_cases n m ns apart never (zero, lt, is) = apart is
there_cases n m ns apart never (suc k, lt, is) = never (k, omega (arith, lt), is)

-- one place less
module _
    (s t : Stored) (n : ℕ) (ns : List ℕ)
    (each : length s ≡ length t) (none : NothingElse s t) (same : SameElsewhere s t (n ∷ ns)) where
  passed : option_flatten (slice_get s n) ≡ None → SameElsewhere s t ns
  passed e m never = ⊎_elim
      (λ here. subst (λ k. stored_relvars s k ≡ stored_relvars t k) here
      (nothing (slice_get s n) e ∙ sym (nothing (slice_get t n) (none n e))))
      (λ apart. same m (there_cases n m ns apart never))
      (cases_eq n m)

  module _ (r : RowsData) (e : option_flatten (slice_get s n) ≡ Some r) where
    there : slice_get (with_relation n r t) n ≡ Some (Some r)
    there = let lt = some_within s n r e in put_there n r t (omega (arith, lt, each))

    put_same : SameElsewhere s (with_relation n r t) ns
    put_same m never = ⊎_elim
        (λ here. subst (λ k. stored_relvars s k ≡ stored_relvars (with_relation n r t) k) here
        (looked_up (slice_get s n) r e ∙ sym (ap at_place there)))
        (λ apart. same m (there_cases n m ns apart never) ∙ sym (ap at_place (put_other n m r t apart)))
        (cases_eq n m)

    put_none : NothingElse s (with_relation n r t)
    put_none m k = ⊎_elim
        (λ here. let no : Some r ≡ None = sym e ∙ ap (λ z. option_flatten (slice_get s z)) here ∙ k in cc)
        (λ apart. ap option_flatten (put_other n m r t apart) ∙ none m k)
        (cases_eq n m)

abbrev Restored : Stored → Stored → List ℕ → Type 0
Restored s t ns = length s ≡ length t → NothingElse s t → SameElsewhere s t ns → put_part (part_of s ns) t ≡ s

one_more :
    (s t : Stored) (n : ℕ) (ns : List ℕ) → length s ≡ length t → NothingElse s t → SameElsewhere s t (n ∷ ns)
    → ((u : Stored) → Restored s u ns) → (o : Option RowsData) → option_flatten (slice_get s n) ≡ o
    → put_part (cons_option (copy_of n o) (part_of s ns)) t ≡ s
one_more s t n ns each none same rest None e = rest t each none (passed s t n ns each none same e)
one_more s t n ns each none same rest (Some r) e =
    let length_is = each ∙ sym (put_length n r t) in
    rest (with_relation n r t) length_is (put_none s t n ns each none same r e) (put_same s t n ns each none same r e)

-- stores of one length that have something at the same places
pub restored : (s t : Stored) (ns : List ℕ) → Restored s t ns
restored s t [] each none same = sym (one_store s t each (λ n. same n (λ h. absurd (omega (arith, h.1)))))
restored s t (n ∷ ns) each none same =
    one_more s t n ns each none same (λ u. restored s u ns) (option_flatten (slice_get s n)) refl

-- databases of one catalogue have something at the same places
none_both :
    (s t : DatabaseData) → IsDatabase s → IsDatabase t → s.catalogue ≡ t.catalogue → NothingElse s.stored t.stored
none_both s t a b one n e = by (is_base (slice_get s.catalogue.origins n)) refl
  where
    by : (k : Bool) → is_base (slice_get s.catalogue.origins n) ≡ k → stored_at t n ≡ None
    by false virtual =
        b.nothing_else n (ap (λ (c : CatalogueData). is_base (slice_get c.origins n)) (sym one) ∙ virtual)
    by true base = let has = base_has s a n base in not_stored (slice_get s.stored n) has.0 has.1 e

pub put_back_restores : PutBackRestores
put_back_restores s t ns a b one same =
    let each = a.each ∙ ap (λ (c : CatalogueData). length c.origins) one ∙ sym b.each in
    let stored = restored s.stored t.stored ns each (none_both s t a b one) same in
    let catalogue = sym one in
    λ i. record { catalogue = catalogue i; stored = stored i }
