-- A sorted list of entries, walked once: its repeats are neighbours, and its clashes are found by the greatest number
-- so far of each site.
use Rattle.std.proofs.Common.{◌≡◌, ◌+◌, ◌≢◌, ℕ, suc, ◌-◌, ◌<◌, ◌≤◌, Bool, true, false, ◌&&◌, ◌||◌, cond, if◌then◌else◌, eqb, ltb, leb, List, [], ◌∷◌, ◌++◌, length, get_or, max, Option, Some, None, Vec, Global, refl, sym, ap, subst, ◌∙◌, inl, inr, arith, take, drop}
use mathlib.Core.Bool.{false≢true}
use Rattle.std.specs.List.{list_any, list_all, slice_get}
use Rattle.std.specs.List.Sorted.{IsSortedBy, IsPermutation}
use Rattle.std.specs.Cmp.{IsStrictWeakOrder}
use Rattle.std.specs.Option.{MatchOption}
use Rattle.std.specs.BTreeMap as tree
use Rattle.std.specs.Ordering.{is_lt, ordering_then, nat_cmp}
use Rattle.std.specs.declared.cmp.Ordering.TheVariants.{Less, Equal, Greater}
use Rattle.std.proofs.lemmas.Bool.Decides.{nat_tests}
use Rattle.std.proofs.lemmas.List.{append_assoc, take_more}
use Rattle.std.proofs.lemmas.List.Folds.{list_all-append, list_any-append}
use Rattle.std.proofs.lemmas.List.Sorted.{sorted_far, list_any-IsPermutation, All-permutation}
use Rattle.std.proofs.lemmas.List.Sums.{AllPass-from_list_all, list_all-from_AllPass}
use Rattle.std.proofs.lemmas.Option.{slice_get-get_or}
use Rattle.std.proofs.Math.ListN.{get_or-append}
use Rattle.std.proofs.Math.Seq.{get_or-append_seam, split_at}
use Rattle.std.proofs.lemmas.Bool.{or_parts, and_from, cases_Bool, or_cases, or_left, or_right}
use Rattle.td_stamps.specs.declared.entry.Entry.{Entry}
use Rattle.td_stamps.specs.Entries.{same, clash, before, in_range}
use Rattle.td_stamps.specs.Sets.{has, put, union, apart, is_set, NoClash}
use Rattle.td_stamps.specs.Checks.{first_clash, last_seq}
use Rattle.td_stamps.specs.ForProofs.{Joins}
use Rattle.td_stamps.proofs.EntryLemmas.{same-is, same-refl, tied, before-trans, before-asym, before-irrefl}
use Rattle.td_stamps.proofs.SetLemmas.{first_holds, rest_holds, first_fails, rest_fails, set-put, any-put, AddsUp, adds_up, joins}
use Rattle.td_stamps.proofs.Places.{union-push}
use Rattle.td_stamps.proofs.Merges.{head_has, none_clash, set_free, same_set, all_has, merged, no_first_clash}
use Rattle.td_stamps.proofs.Next.{other_site, later_free, seq_at_most}

-- the order of stamps, as `cmp` has it, is stamp order
pub less_is_before : (a b : Entry) → is_lt (ordering_then (nat_cmp a.clock b.clock) (nat_cmp a.site b.site)) ≡ before a b
less_is_before a b = elim (ltb a.clock b.clock) as (λ t. is_lt (ordering_then (cond t Less (cond (eqb a.clock b.clock) Equal Greater)) (nat_cmp a.site b.site)) ≡ (t || (eqb a.clock b.clock && ltb a.site b.site))) [
  | true ↦ refl
  | false ↦ elim (eqb a.clock b.clock) as (λ t. is_lt (ordering_then (cond t Equal Greater) (nat_cmp a.site b.site)) ≡ (t && ltb a.site b.site)) [
    | true ↦ elim (ltb a.site b.site) as (λ t. is_lt (cond t Less (cond (eqb a.site b.site) Equal Greater)) ≡ t) [
      | true ↦ refl
      | false ↦ elim (eqb a.site b.site) as (λ t. is_lt (cond t Equal Greater) ≡ false) [ true ↦ refl | false ↦ refl ]
    ]
    | false ↦ refl
  ]
]

pub stamp_order : IsStrictWeakOrder before
stamp_order = record {
  one_way = before-asym;
  chain = λ x y z p q. grind (arith, nat_tests);
}

-- the place of a member
pub place_of : (xs : List Entry) (x : Entry) → has xs x ≡ true → (i : ℕ) × (i < length xs) × ((d : Entry) → get_or xs i d ≡ x)
place_of [] x in' = absurd (false≢true in')
place_of (y ∷ ys) x in' = elim (or_cases _ _ in') [
  | inl is ↦ (0, omega arith, λ d. sym (same-is x y is))
  | inr later ↦ let rest = place_of ys x later in (suc rest.0, omega (arith, rest.1), λ d. rest.2 d)
]

-- none that stands before an entry of a sorted list comes after it
pub none_after : (ys : List Entry) (e : Entry) (rest : List Entry) → IsSortedBy before (ys ++ e ∷ rest) → (x : Entry) → has ys x ≡ true → before e x ≡ false
none_after ys e rest sorted x in' =
    let place = place_of ys x in' in
    let far = sorted_far before stamp_order (ys ++ e ∷ rest) sorted place.0 (length ys) e (omega (arith, place.1)) (within ys e rest) in
    rw (get_or-append_seam ys e rest e, get_or-append ys (e ∷ rest) e place.0 place.1, place.2 e) at far
  where
    within : (ys : List Entry) (e : Entry) (rest : List Entry) → length ys < length (ys ++ e ∷ rest)
    within [] e rest = omega arith
    within (y ∷ ys) e rest = let more = within ys e rest in omega arith

-- the first clash, where there is none among the first entries
pub first_clash-push : (seen es : List Entry) (e : Entry) → first_clash seen es ≡ None → list_any (clash e) seen ≡ false → list_any (clash e) es ≡ false → first_clash seen (es ++ e ∷ []) ≡ None
first_clash-push seen [] e clear none_seen none = rw none_seen refl
first_clash-push seen (x ∷ es) e clear none_seen none =
    elim (list_any (clash x) seen) as (λ b. (if b then Some x else first_clash (seen ++ x ∷ []) es) ≡ None → (if b then Some x else first_clash (seen ++ x ∷ []) (es ++ e ∷ [])) ≡ None) [
      | true ↦ λ h. h
      | false ↦ λ h. first_clash-push (seen ++ x ∷ []) es e h (list_any-append (clash e) seen (x ∷ []) ∙ both_false _ _ none_seen (ap (λ b. b || false) (first_fails _ _ none))) (rest_fails _ _ none)
    ] clear
  where
    both_false : (a b : Bool) → a ≡ false → b ≡ false → (a || b) ≡ false
    both_false a b p q = ap (λ t. t || b) p ∙ q

-- a clash with one of those before it refuses
pub first_clash-hit : (seen es : List Entry) (e : Entry) (rest : List Entry) → list_any (clash e) (seen ++ es) ≡ true → first_clash seen (es ++ e ∷ rest) ≡ None → ⊥
first_clash-hit seen [] e rest hit clear =
    elim (list_any (clash e) seen) as (λ b. b ≡ true → (if b then Some e else first_clash (seen ++ e ∷ []) rest) ≡ None → ⊥) [
      | true ↦ λ _ h. cc
      | false ↦ λ no _. false≢true no
    ] (ap (list_any (clash e)) (sym (nil seen)) ∙ hit) clear
  where
    nil : (l : List Entry) → l ++ [] ≡ l
    nil [] = refl
    nil (x ∷ l) = ap (λ t. x ∷ t) (nil l)
first_clash-hit seen (x ∷ es) e rest hit clear =
    elim (list_any (clash x) seen) as (λ b. (if b then Some x else first_clash (seen ++ x ∷ []) (es ++ e ∷ rest)) ≡ None → ⊥) [
      | true ↦ λ h. cc
      | false ↦ λ h. first_clash-hit (seen ++ x ∷ []) es e rest (ap (list_any (clash e)) (append_assoc seen (x ∷ []) es) ∙ hit) h
    ] clear

-- a member put in again changes nothing
pub put_again : (e : Entry) (xs : List Entry) → is_set xs ≡ true → has xs e ≡ true → put e xs ≡ xs
put_again e xs set in' =
    let none = none_clash e xs (λ x held. set_free xs set e x in' held) in
    same_set (put e xs) xs (set-put e xs set none) set (λ z. any-put (same z) e xs none ∙ absorbed z (same z e) refl)
  where
    absorbed : (z : Entry) (b : Bool) → same z e ≡ b → (b || has xs z) ≡ has xs z
    absorbed z true is = sym (subst (λ (v : Entry). has xs v ≡ true) (sym (same-is z e is)) in')
    absorbed z false is = refl

-- an entry that comes after all is put last
pub put_after : (e : Entry) (xs : List Entry) → list_all (λ x. before x e) xs ≡ true → put e xs ≡ xs ++ e ∷ []
put_after e [] all = refl
put_after e (x ∷ xs) all =
    let later : before x e ≡ true = first_holds _ _ all in
    let first : before e x ≡ false = before-asym x e later in
    rw (first, later) (ap (λ l. x ∷ l) (put_after e xs (rest_holds _ _ all)))

-- the last of a list
pub split_last : (xs : List Entry) (l : Entry) → slice_get xs (length xs - 1) ≡ Some l → (front : List Entry) × (xs ≡ front ++ l ∷ [])
split_last [] l at = absurd (cc)
split_last (x ∷ []) l at = let is : x ≡ l = cc in ([], ap (λ (v : Entry). v ∷ []) is)
split_last (x ∷ y ∷ ys) l at =
    let rest = split_last (y ∷ ys) l (shift at) in
    (x ∷ rest.0, ap (λ t. x ∷ t) rest.1)
  where
    shift : slice_get (x ∷ y ∷ ys) (length (x ∷ y ∷ ys) - 1) ≡ Some l → slice_get (y ∷ ys) (length (y ∷ ys) - 1) ≡ Some l
    shift h = rw (let q : length (x ∷ y ∷ ys) - 1 ≡ suc (length (y ∷ ys) - 1) = omega arith in q) at h

-- a set is before its last
before_last : (front : List Entry) (l : Entry) → is_set (front ++ l ∷ []) ≡ true → list_all (λ x. before x l) front ≡ true
before_last [] l set = refl
before_last (x ∷ front) l set = and_from _ _ (here x front (first_holds _ _ set)) (before_last front l (rest_holds _ _ set))
  where
    here : (x : Entry) (ys : List Entry) → list_all (apart x) (ys ++ l ∷ []) ≡ true → before x l ≡ true
    here x [] all = first_holds _ _ (first_holds _ _ all)
    here x (y ∷ ys) all = here x ys (rest_holds _ _ all)

later_than_all : (l e : Entry) (xs : List Entry) → before l e ≡ true → list_all (λ x. before x l) xs ≡ true → list_all (λ x. before x e) xs ≡ true
later_than_all l e [] first all = refl
later_than_all l e (x ∷ xs) first all = and_from _ _ (before-trans x l e (first_holds _ _ all) first) (later_than_all l e xs first (rest_holds _ _ all))

-- what comes after the last of a set comes after all of it
pub after_last : (xs : List Entry) (l e : Entry) → is_set xs ≡ true → slice_get xs (length xs - 1) ≡ Some l → before l e ≡ true → list_all (λ x. before x e) xs ≡ true
after_last xs l e set at first =
    let parts = split_last xs l at in
    let set' : is_set (parts.0 ++ l ∷ []) ≡ true = subst (λ t. is_set t ≡ true) parts.1 set in
    let front = later_than_all l e parts.0 first (before_last parts.0 l set') in
    subst (λ t. list_all (λ x. before x e) t ≡ true) (sym parts.1) (list_all-append (λ x. before x e) parts.0 (l ∷ []) ∙ and_from _ _ front (and_from _ _ first refl))

-- the last is a member
pub last_has : (xs : List Entry) (l : Entry) → slice_get xs (length xs - 1) ≡ Some l → has xs l ≡ true
last_has xs l at =
    let parts = split_last xs l at in
    subst (λ t. has t l ≡ true) (sym parts.1) (list_any-append (same l) parts.0 (l ∷ []) ∙ or_right _ _ (head_has l []))

-- some entry of a site has its greatest number
pub last_seq_held : (n : ℕ) (xs : List Entry) → 1 ≤ last_seq n xs → (x : Entry) × (has xs x ≡ true) × (x.site ≡ n) × (x.seq ≡ last_seq n xs)
last_seq_held n [] some = absurd (omega arith)
last_seq_held n (x ∷ xs) some = elim (eqb x.site n) as (λ b. eqb x.site n ≡ b → 1 ≤ (if b then max x.seq (last_seq n xs) else last_seq n xs) → (y : Entry) × (has (x ∷ xs) y ≡ true) × (y.site ≡ n) × (y.seq ≡ (if b then max x.seq (last_seq n xs) else last_seq n xs))) [
  | true ↦ λ is some. elim (cases_Bool (leb (last_seq n xs) x.seq)) [
    | inl more ↦ (x, head_has x xs, grind (arith, nat_tests), grind (arith, nat_tests))
    | inr less ↦ let rest = last_seq_held n xs (grind (arith, nat_tests)) in (rest.0, or_right _ _ rest.1, rest.2, rest.3 ∙ grind (arith, nat_tests))
  ]
  | false ↦ λ _ some. let rest = last_seq_held n xs some in (rest.0, or_right _ _ rest.1, rest.2, rest.3)
] refl some

-- a member that clashes
any_of : (e x : Entry) (ys : List Entry) → has ys x ≡ true → clash e x ≡ true → list_any (clash e) ys ≡ true
any_of e x [] in' hit = absurd (false≢true in')
any_of e x (y ∷ ys) in' hit = elim (or_cases _ _ in') [
  | inl is ↦ or_left _ _ (subst (λ (v : Entry). clash e v ≡ true) (same-is x y is) hit)
  | inr later ↦ or_right _ _ (any_of e x ys later hit)
]

-- an entry after all of a set whose number is not above its site's greatest clashes with one of them
pub number_clashes : (xs : List Entry) (e : Entry) → list_all (λ x. before x e) xs ≡ true → 1 ≤ e.seq → e.seq ≤ last_seq e.site xs → list_any (clash e) xs ≡ true
number_clashes xs e all fits low =
    let found = last_seq_held e.site xs (omega arith) in
    any_of e found.0 xs found.1 (clashing found.0 (all_has (λ x. before x e) xs found.0 all found.1) found.2 (rw (sym found.3) at low))
  where
    clashing : (x : Entry) → before x e ≡ true → x.site ≡ e.site → e.seq ≤ x.seq → clash e x ≡ true
    clashing x first site low = elim (cases_Bool (same e x)) [
      | inl is ↦ absurd (false≢true (sym (before-irrefl x) ∙ subst (λ (v : Entry). before x v ≡ true) (same-is e x is) first))
      | inr differs ↦ grind (arith, nat_tests)
    ]

-- and one whose number is above it clashes with none
pub number_free : (xs : List Entry) (e : Entry) → list_all (λ x. before x e) xs ≡ true → last_seq e.site xs < e.seq → list_any (clash e) xs ≡ false
number_free xs e all high = none_clash e xs (λ x in'. elim (cases_Bool (eqb x.site e.site)) [
  | inl is ↦ let at : x.site ≡ e.site = grind (arith, nat_tests) in let first = all_has (λ x. before x e) xs x all in' in later_free e x (omega (arith, seq_at_most e.site xs x in' at)) (grind (arith, nat_tests))
  | inr differs ↦ other_site e x (λ (at : e.site ≡ x.site). absurd (grind (arith, nat_tests)))
])

-- the greatest numbers with one entry more at the end
pub last_seq-push : (n : ℕ) (xs : List Entry) (e : Entry) → last_seq n (xs ++ e ∷ []) ≡ (if eqb e.site n then max (last_seq n xs) e.seq else last_seq n xs)
last_seq-push n [] e = elim (eqb e.site n) as (λ b. (if b then max e.seq 0 else 0) ≡ (if b then max 0 e.seq else 0)) [ true ↦ omega arith | false ↦ refl ]
last_seq-push n (x ∷ xs) e = rw (last_seq-push n xs e) (elim (eqb x.site n) as (λ a. (if a then max x.seq (if eqb e.site n then max (last_seq n xs) e.seq else last_seq n xs) else (if eqb e.site n then max (last_seq n xs) e.seq else last_seq n xs)) ≡ (if eqb e.site n then max (if a then max x.seq (last_seq n xs) else last_seq n xs) e.seq else (if a then max x.seq (last_seq n xs) else last_seq n xs))) [
  | true ↦ elim (eqb e.site n) as (λ b. max x.seq (if b then max (last_seq n xs) e.seq else last_seq n xs) ≡ (if b then max (max x.seq (last_seq n xs)) e.seq else max x.seq (last_seq n xs))) [ true ↦ omega arith | false ↦ refl ]
  | false ↦ refl
])

-- a list with no last is empty
pub no_last : (xs : List Entry) → slice_get xs (length xs - 1) ≡ None → xs ≡ []
no_last [] at = refl
no_last (x ∷ xs) at = absurd (none_some (sym at ∙ slice_get-get_or (x ∷ xs) (length (x ∷ xs) - 1) x (omega arith)))
  where
    none_some : {y : Entry} → None ≡ Some y → ⊥
    none_some h = cc

-- one step of the walk: ys are walked and have no clash, e comes next
module _ (ys : List Entry) (e : Entry) (rest : List Entry) (sorted : IsSortedBy before (ys ++ e ∷ rest)) (clear : first_clash [] ys ≡ None) where
  so_far : AddsUp [] [] ys
  so_far = adds_up [] [] ys (λ p. refl) refl clear

  pub so_far_set : is_set (union [] ys) ≡ true
  so_far_set = let up = so_far in up.set

  hit : list_any (clash e) (union [] ys) ≡ true → first_clash [] (ys ++ e ∷ rest) ≡ None → ⊥
  hit h = let up = so_far in first_clash-hit [] ys e rest (sym (up.members (clash e)) ∙ h)

  more : list_any (clash e) (union [] ys) ≡ false → first_clash [] (ys ++ e ∷ []) ≡ None
  more h = let up = so_far in first_clash-push [] ys e clear refl (sym (up.members (clash e)) ∙ h)

  -- the entry is the last one again
  pub again : (l : Entry) → slice_get (union [] ys) (length (union [] ys) - 1) ≡ Some l → same l e ≡ true → (first_clash [] (ys ++ e ∷ []) ≡ None) × (union [] ys ≡ union [] (ys ++ e ∷ []))
  again l at is =
      let held : has (union [] ys) e ≡ true = subst (λ (v : Entry). has (union [] ys) v ≡ true) (same-is l e is) (last_has (union [] ys) l at) in
      (more (none_clash e (union [] ys) (λ x in'. set_free (union [] ys) so_far_set e x held in')), sym (put_again e (union [] ys) so_far_set held) ∙ sym (union-push [] ys e))

  -- it has the last one's stamp, and is another
  pub tied_to_last : (l : Entry) → slice_get (union [] ys) (length (union [] ys) - 1) ≡ Some l → same l e ≡ false → before l e ≡ false → first_clash [] (ys ++ e ∷ rest) ≡ None → ⊥
  tied_to_last l at differs not_before =
      let up = so_far in
      let held = last_has (union [] ys) l at in
      let not_after = none_after ys e rest sorted l (sym (up.members (same l)) ∙ held) in
      hit (any_of e l (union [] ys) held (clashing not_after))
    where
      clashing : before e l ≡ false → clash e l ≡ true
      clashing not_after = elim (cases_Bool (clash e l)) [
        | inl is ↦ is
        | inr none ↦ absurd (false≢true (sym differs ∙ subst (λ (v : Entry). same l v ≡ true) (sym (tied e l not_after not_before none)) (same-refl l)))
      ]

  -- its number is not above those of its site
  pub number_taken : list_all (λ x. before x e) (union [] ys) ≡ true → 1 ≤ e.seq → e.seq ≤ last_seq e.site (union [] ys) → first_clash [] (ys ++ e ∷ rest) ≡ None → ⊥
  number_taken after fits low = hit (number_clashes (union [] ys) e after fits low)

  -- it comes after all, with a number above those of its site
  pub fits_last : list_all (λ x. before x e) (union [] ys) ≡ true → last_seq e.site (union [] ys) < e.seq → (first_clash [] (ys ++ e ∷ []) ≡ None) × (union [] ys ++ e ∷ [] ≡ union [] (ys ++ e ∷ []))
  fits_last after high = (more (number_free (union [] ys) e after high), sym (put_after e (union [] ys) after) ∙ sym (union-push [] ys e))

-- the range of an entry in the midst of others
pub number_from_one : (ys : List Entry) (e : Entry) (rest : List Entry) → list_all in_range (ys ++ e ∷ rest) ≡ true → 1 ≤ e.seq
number_from_one ys e rest all =
    let parts : (list_all in_range ys && (in_range e && list_all in_range rest)) ≡ true = sym (list_all-append in_range ys (e ∷ rest)) ∙ all in
    let range : in_range e ≡ true = first_holds (in_range e) (list_all in_range rest) (rest_holds (list_all in_range ys) (in_range e && list_all in_range rest) parts) in
    grind (arith, nat_tests)

-- an option that is no value is none
pub none_of : {X : Type 0} (o : Option X) → ((x : X) → o ≡ Some x → ⊥) → o ≡ None
none_of None h = refl
none_of (Some x) h = absurd (h x refl)

-- where a map by numbers finds a key
pub at_number : (m n : ℕ) → tree.is_at (nat_cmp m) n ≡ eqb m n
at_number m n = elim (cases_Bool (ltb m n)) [
  | inl less ↦ let differ : eqb m n ≡ false = grind (arith, nat_tests) in rw (less, differ) refl
  | inr not_less ↦ rw not_less (elim (eqb m n) as (λ b. tree.is_at (λ _. cond b Equal Greater) n ≡ b) [ true ↦ refl | false ↦ refl ])
]

-- the greatest numbers, kept by site in a list, with one entry more
pub latest_push : (ns ms : List ℕ) (xs : List Entry) (e : Entry) → ((q : ℕ) → get_or ns q 0 ≡ last_seq q xs) → last_seq e.site xs < e.seq
    → ((q : ℕ) → get_or ms q 0 ≡ (if eqb e.site q then e.seq else get_or ns q 0)) → (q : ℕ) → get_or ms q 0 ≡ last_seq q (xs ++ e ∷ [])
latest_push ns ms xs e kept high puts q =
    puts q
    ∙ (elim (eqb e.site q) as (λ b. eqb e.site q ≡ b → (if b then e.seq else get_or ns q 0) ≡ (if b then max (last_seq q xs) e.seq else last_seq q xs)) [
      | true ↦ λ is. let here : e.site ≡ q = grind (arith, nat_tests) in let less = subst (λ n. last_seq n xs < e.seq) here high in omega arith
      | false ↦ λ _. kept q
    ] refl)
    ∙ sym (last_seq-push q xs e)

-- a set and a batch, and all their entries in another order
module _ (held batch all : List Entry) (set : is_set held ≡ true) (moved : IsPermutation (held ++ batch) all) where
  moved_has : (z : Entry) → has (held ++ batch) z ≡ has all z
  moved_has z = list_any-IsPermutation (same z) (held ++ batch) all moved

  -- without a clash in this order there is none in theirs, and the unions are one
  pub clear_in_order : first_clash [] all ≡ None → (first_clash held batch ≡ None) × (union [] all ≡ union held batch)
  clear_in_order clear =
      let up = adds_up [] [] all (λ p. refl) refl clear in
      let free : NoClash (held ++ batch) = λ x y in_x in_y. set_free (union [] all) up.set x y (up.members (same x) ∙ sym (moved_has x) ∙ in_x) (up.members (same y) ∙ sym (moved_has y) ∙ in_y) in
      let both = merged held batch set free in
      (no_first_clash held batch free, same_set (union [] all) (union held batch) up.set both.set (λ z. up.members (same z) ∙ sym (moved_has z) ∙ list_any-append (same z) held batch ∙ sym (both.members (same z))))

  -- a clash in this order is one in theirs
  pub clash_in_order : (first_clash [] all ≡ None → ⊥) → first_clash held batch ≡ None → ⊥
  clash_in_order hit clear =
      let up = adds_up held held batch (λ p. refl) set clear in
      let in_union : (z : Entry) → has all z ≡ true → has (union held batch) z ≡ true = λ z in'. up.members (same z) ∙ sym (list_any-append (same z) held batch) ∙ moved_has z ∙ in' in
      hit (no_first_clash [] all (λ x y in_x in_y. set_free (union held batch) up.set x y (in_union x in_x) (in_union y in_y)))

  -- what holds of all of both holds of all of these
  pub moved_all : (p : Entry → Bool) → list_all p held ≡ true → list_all p batch ≡ true → list_all p all ≡ true
  moved_all p in_held in_batch = list_all-from_AllPass p all (All-permutation (λ x. p x ≡ true) (held ++ batch) all moved (AllPass-from_list_all p (held ++ batch) (list_all-append p held batch ∙ and_from _ _ in_held in_batch)))

  pub joined_in_order : list_all in_range held ≡ true → list_all in_range batch ≡ true
      → (o : Option (Vec Entry Global)) → MatchOption o (first_clash [] all ≢ None) (λ v. (first_clash [] all ≡ None) × (v.items ≡ union [] all))
      → MatchOption o (first_clash held batch ≢ None) (λ v. Joins held batch v.items)
  joined_in_order in_held in_batch None hit = clash_in_order hit
  joined_in_order in_held in_batch (Some v) parts = let ok = clear_in_order parts.0 in subst (Joins held batch) (sym (parts.1 ∙ ok.1)) (joins held batch set in_held in_batch ok.0)

-- a set and one entry
pub joined_one : (held : List Entry) (e : Entry) → is_set held ≡ true → list_all in_range held ≡ true → list_all in_range (e ∷ []) ≡ true
    → (o : Option (Vec Entry Global)) → MatchOption o (list_any (clash e) held ≡ true) (λ v. (list_any (clash e) held ≡ false) × (v.items ≡ put e held))
    → MatchOption o (first_clash held (e ∷ []) ≢ None) (λ v. Joins held (e ∷ []) v.items)
joined_one held e set in_held in_e None hit = λ clear. first_clash-hit held [] e [] (list_any-append (clash e) held [] ∙ ap (λ b. b || false) hit) clear
joined_one held e set in_held in_e (Some v) parts = subst (Joins held (e ∷ [])) (sym parts.1) (joins held (e ∷ []) set in_held in_e (rw parts.0 refl))

-- the first that clashes, where there is no clash before it
first_clash-at : (seen es : List Entry) (e : Entry) (rest : List Entry) → first_clash seen es ≡ None → list_any (clash e) (seen ++ es) ≡ true → first_clash seen (es ++ e ∷ rest) ≡ Some e
first_clash-at seen [] e rest clear hit = let here : list_any (clash e) seen ≡ true = ap (list_any (clash e)) (sym (append-nil seen)) ∙ hit in rw here refl
  where
    append-nil : (l : List Entry) → l ++ [] ≡ l
    append-nil [] = refl
    append-nil (x ∷ l) = ap (λ t. x ∷ t) (append-nil l)
first_clash-at seen (x ∷ es) e rest clear hit =
    elim (list_any (clash x) seen) as (λ b. (if b then Some x else first_clash (seen ++ x ∷ []) es) ≡ None → (if b then Some x else first_clash (seen ++ x ∷ []) (es ++ e ∷ rest)) ≡ Some e) [
      | true ↦ λ h. cc
      | false ↦ λ h. first_clash-at (seen ++ x ∷ []) es e rest h (ap (list_any (clash e)) (append_assoc seen (x ∷ []) es) ∙ hit)
    ] clear

-- between a front without a clash and the next longer one that has a clash stands the first that clashes
pub clash_between : (held batch : List Entry) (k : ℕ) (e : Entry) → k < length batch → e ≡ get_or batch k e → first_clash held (take k batch) ≡ None → (first_clash held (take (k + 1) batch) ≡ None → ⊥)
    → first_clash held batch ≡ Some e
clash_between held batch k e within is clear clashing =
    let front = take k batch in
    let whole : batch ≡ front ++ e ∷ drop (suc k) batch = split_at batch k e within ∙ ap (λ (v : Entry). front ++ v ∷ drop (suc k) batch) (sym is) in
    let longer : take (k + 1) batch ≡ front ++ e ∷ [] = take_more batch k e within ∙ ap (λ (v : Entry). front ++ v ∷ []) (sym is) in
    elim (cases_Bool (list_any (clash e) (held ++ front))) [
      | inl hit ↦ ap (first_clash held) whole ∙ first_clash-at held front e (drop (suc k) batch) clear hit
      | inr none ↦
          let parts = or_parts _ _ (sym (list_any-append (clash e) held front) ∙ none) in
          absurd (clashing (ap (first_clash held) longer ∙ first_clash-push held front e clear parts.0 parts.1))
    ]
