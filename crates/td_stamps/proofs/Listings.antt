-- A version vector that is seen through the list of its sites and numbers, and the set without its last entry.
use Rattle.std.proofs.Common.{◌≡◌, ℕ, ◌≤◌, true, ◌&&◌, nat_le, cond, List, [], ◌∷◌, ◌++◌, length, T, Some, refl, sym, ap, subst, ◌∙◌, arith}
use Rattle.std.specs.BTreeMap.{is_at, insert_entry}
use Rattle.std.specs.Cmp.{nat_cmp_total}
use Rattle.std.specs.declared.cmp.Ordering.TheVariants.{Less, Equal, Greater}
use Rattle.std.specs.FinMap as map
use Rattle.std.specs.FinMap.Entries.{by_order, is_sorted-put}
use Rattle.std.specs.Map.{lookup}
use Rattle.std.specs.Ordering.{nat_cmp, is_eq, match_ordering}
use Rattle.std.proofs.lemmas.Bool.{and_from}
use Rattle.std.proofs.lemmas.Bool.Decides.{nat_tests}
use Rattle.std.proofs.lemmas.List.Folds.{list_all-append}
use Rattle.td_stamps.specs.declared.entry.Entry.{Entry}
use Rattle.td_stamps.specs.Sets.{apart, is_set}
use Rattle.td_stamps.specs.Vectors.{VersionVector, from_one}
use Rattle.td_stamps.proofs.SetLemmas.{first_holds, rest_holds}

-- what a tree finds is what a search of its entries finds
searched : (q : ℕ) (es : List (ℕ × ℕ)) → lookup (is_at (nat_cmp q)) es ≡ map.find nat_cmp q es
searched q [] = refl
searched q (e ∷ es) = ap (cond (is_eq (nat_cmp q e.0)) (Some e.1)) (searched q es)

-- and where it puts an entry is where a map puts it
put_alike : (k n : ℕ) (es : List (ℕ × ℕ)) → insert_entry nat_cmp es k n ≡ map.put nat_cmp k n es
put_alike k n [] = refl
put_alike k n (e ∷ es) = elim (nat_cmp k e.0) as (λ r. match_ordering r ((k, n) ∷ e ∷ es) ((e.0, n) ∷ es) (e ∷ insert_entry nat_cmp es k n) ≡ by_order r ((k, n) ∷ e ∷ es) ((e.0, n) ∷ es) (e ∷ map.put nat_cmp k n es)) [
  | Less ↦ refl
  | Equal ↦ refl
  | Greater ↦ ap (λ t. e ∷ t) (put_alike k n es)
]

-- a site and a number from 1 on leave all so
from_one-put : (k n : ℕ) (es : List (ℕ × ℕ)) → 1 ≤ k → 1 ≤ n → from_one es ≡ true → from_one (map.put nat_cmp k n es) ≡ true
from_one-put k n [] site number all = grind (arith, nat_tests)
from_one-put k n (e ∷ es) site number all =
    let here : (nat_le 1 e.0 && nat_le 1 e.1) ≡ true = first_holds (nat_le 1 e.0 && nat_le 1 e.1) (from_one es) all in
    let rest : from_one es ≡ true = rest_holds (nat_le 1 e.0 && nat_le 1 e.1) (from_one es) all in
    let one : (nat_le 1 k && nat_le 1 n) ≡ true = grind (arith, nat_tests) in
    let changed : (nat_le 1 e.0 && nat_le 1 n) ≡ true = grind (arith, nat_tests) in
    elim (nat_cmp k e.0) as (λ r. from_one (by_order r ((k, n) ∷ e ∷ es) ((e.0, n) ∷ es) (e ∷ map.put nat_cmp k n es)) ≡ true) [
      | Less ↦ and_from (nat_le 1 k && nat_le 1 n) (from_one (e ∷ es)) one all
      | Equal ↦ and_from (nat_le 1 e.0 && nat_le 1 n) (from_one es) changed rest
      | Greater ↦ and_from (nat_le 1 e.0 && nat_le 1 e.1) (from_one (map.put nat_cmp k n es)) here (from_one-put k n es site number rest)
    ]

module _ {v : VersionVector} (es : List (ℕ × ℕ)) (sorted : T (map.is_sorted nat_cmp es)) (view : map.from_sorted es ≡ v) where
  pub entries_seen : map.entries v ≡ es
  entries_seen = sym (ap map.entries view) ∙ map.entries-from_sorted nat_cmp es sorted

  pub get_seen : (q : ℕ) → lookup (is_at (nat_cmp q)) es ≡ map.get v q
  get_seen q = searched q es ∙ sym (map.get-from_sorted nat_cmp es q sorted) ∙ ap (λ m. map.get m q) view

  pub len_seen : length es ≡ map.len v
  len_seen = ap length (sym entries_seen) ∙ sym (map.len-entries v)

  -- one entry more, or another number
  module _ (fs : List (ℕ × ℕ)) (k n : ℕ) (is : fs ≡ insert_entry nat_cmp es k n) where
    pub still_sorted : T (map.is_sorted nat_cmp fs)
    still_sorted = subst (λ t. T (map.is_sorted nat_cmp t)) (sym (is ∙ put_alike k n es)) (is_sorted-put nat_cmp nat_cmp_total k n es sorted)

    pub still_from_one : 1 ≤ k → 1 ≤ n → from_one es ≡ true → from_one fs ≡ true
    still_from_one site number all = ap from_one (is ∙ put_alike k n es) ∙ from_one-put k n es site number all

    pub inserted : map.from_sorted fs ≡ map.insert v k n
    inserted = map.same_entries_map _ _ (map.entries-from_sorted nat_cmp fs still_sorted ∙ is ∙ put_alike k n es ∙ ap (map.put nat_cmp k n) (sym entries_seen) ∙ sym (map.entries-insert nat_cmp_total v k n))

-- no entries make the empty vector
pub none_seen : (es : List (ℕ × ℕ)) → es ≡ [] → map.from_sorted {X = ℕ} {R = nat_cmp} es ≡ map.empty
none_seen es is = ap map.from_sorted is ∙ map.empty_of_len (map.from_sorted []) (map.len-entries (map.from_sorted []) ∙ ap length (map.entries-from_sorted nat_cmp [] tt))

-- the front of a set is a set
pub set_front : (xs ys : List Entry) → is_set (xs ++ ys) ≡ true → is_set xs ≡ true
set_front [] ys set = refl
set_front (x ∷ xs) ys set = and_from _ _ (first_holds _ _ (sym (list_all-append (apart x) xs ys) ∙ first_holds _ _ set)) (set_front xs ys (rest_holds _ _ set))
