-- The sites of a tree, and the pairs of its list.
use Rattle.std.proofs.Common.{◌≡◌, ◌⊎◌, inl, inr, ℕ, Bool, true, ◌&&◌, eqb, List, [], ◌∷◌, map, reverse, refl, sym, ap, ◌∙◌}
use Rattle.std.specs.List.{list_all}
use Rattle.std.proofs.lemmas.Bool.{and_from, and_parts, eqb-true, or_cases, or_left, or_right}
use Rattle.std.proofs.lemmas.List.{reverse-append}
use Rattle.std.proofs.lemmas.List.Folds.{list_all-append}
use Rattle.td_convergence.specs.Trees.{LeavesFirst, is_among, on_tree}
use Rattle.td_convergence.proofs.Joining.{same_number}

-- ---- sites

pub among_cases : (n m : ℕ) (ms : List ℕ) → is_among n (m ∷ ms) ≡ true → (n ≡ m) ⊎ (is_among n ms ≡ true)
among_cases n m ms is = elim (or_cases (eqb m n) (is_among n ms) is) [
  | inl is_first ↦ inl (sym (eqb-true m n is_first))
  | inr later ↦ inr later
]

pub first_among : (n : ℕ) (ms : List ℕ) → is_among n (n ∷ ms) ≡ true
first_among n ms = or_left (eqb n n) (is_among n ms) (same_number n)

-- the first of the first pair, or a site of the rest of the tree
pub tree_cases : (n root : ℕ) (p : ℕ × ℕ) (ps : List (ℕ × ℕ)) → is_among n (on_tree root (p ∷ ps)) ≡ true
    → (n ≡ p.0) ⊎ (is_among n (on_tree root ps) ≡ true)
tree_cases n root p ps among =
    let firsts = map (λ (q : ℕ × ℕ). q.0) ps in
    elim (or_cases (eqb root n) (is_among n (p.0 ∷ firsts)) among) [
      | inl is_root ↦ inr (or_left (eqb root n) (is_among n firsts) is_root)
      | inr later ↦ elim (among_cases n p.0 firsts later) [
        | inl is_first ↦ inl is_first
        | inr rest ↦ inr (or_right (eqb root n) (is_among n firsts) rest)
      ]
    ]

-- which has no more sites than the whole
tree_more : (n root : ℕ) (p : ℕ × ℕ) (ps : List (ℕ × ℕ)) → is_among n (on_tree root ps) ≡ true
    → is_among n (on_tree root (p ∷ ps)) ≡ true
tree_more n root p ps among =
    let firsts = map (λ (q : ℕ × ℕ). q.0) ps in
    elim (or_cases (eqb root n) (is_among n firsts) among) [
      | inl is_root ↦ or_left (eqb root n) (is_among n (p.0 ∷ firsts)) is_root
      | inr later ↦ or_right (eqb root n) (is_among n (p.0 ∷ firsts)) (or_right (eqb p.0 n) (is_among n firsts) later)
    ]

-- ---- pairs

abbrev pub both_among : List ℕ → ℕ × ℕ → Bool
both_among ns p = is_among p.0 ns && is_among p.1 ns

pub all_reverse : (test : ℕ × ℕ → Bool) (ps : List (ℕ × ℕ))
    → list_all test ps ≡ true → list_all test (reverse ps) ≡ true
all_reverse test [] all = refl
all_reverse test (p ∷ ps) all =
    let parts = and_parts (test p) (list_all test ps) all in
    ap (list_all test) (reverse-append (p ∷ []) ps) ∙ list_all-append test (reverse ps) (p ∷ [])
    ∙ and_from (list_all test (reverse ps)) (test p && true) (all_reverse test ps parts.1)
    (and_from (test p) true parts.0 refl)

-- more sites have both of each pair too
among_more : (ns ms : List ℕ) → ((n : ℕ) → is_among n ns ≡ true → is_among n ms ≡ true) → (ps : List (ℕ × ℕ))
    → list_all (both_among ns) ps ≡ true → list_all (both_among ms) ps ≡ true
among_more ns ms more [] all = refl
among_more ns ms more (p ∷ ps) all =
    let parts = and_parts (both_among ns p) (list_all (both_among ns) ps) all in
    let both = and_parts (is_among p.0 ns) (is_among p.1 ns) parts.0 in
    and_from (both_among ms p) (list_all (both_among ms) ps)
    (and_from (is_among p.0 ms) (is_among p.1 ms) (more p.0 both.0) (more p.1 both.1))
    (among_more ns ms more ps parts.1)

-- both of each pair of a tree are its sites
pub tree_has_pairs : (root : ℕ) (tree : List (ℕ × ℕ)) → LeavesFirst root tree
    → list_all (both_among (on_tree root tree)) tree ≡ true
tree_has_pairs root [] order = refl
tree_has_pairs root (p ∷ ps) order =
    let ns = on_tree root (p ∷ ps) in
    let firsts = map (λ (q : ℕ × ℕ). q.0) ps in
    let own = or_right (eqb root p.0) (is_among p.0 (p.0 ∷ firsts)) (first_among p.0 firsts) in
    and_from (both_among ns p) (list_all (both_among ns) ps)
    (and_from (is_among p.0 ns) (is_among p.1 ns) own (tree_more p.1 root p ps order.0))
    (among_more (on_tree root ps) ns (λ n. tree_more n root p ps) ps (tree_has_pairs root ps order.1))
