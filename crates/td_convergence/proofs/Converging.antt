-- What meetings along a tree leave.
use Rattle.std.proofs.Common.{◌≡◌, inl, inr, ℕ, Bool, true, eqb, List, [], ◌∷◌, ◌++◌, reverse, sym, subst, ◌∙◌}
use mathlib.Core.Bool.{false≢true}
use Rattle.std.specs.List.{list_all, list_any}
use Rattle.std.proofs.lemmas.Bool.{and_parts, or_cases, or_left, or_right}
use Rattle.std.proofs.lemmas.Bool.Decides.{same_from_decides}
use Rattle.std.proofs.lemmas.List.{reverse-append}
use Rattle.td_stamps.specs.Sets.{has}
use Rattle.td_stamps.specs.declared.entry.Entry.{Entry}
use Rattle.td_replica.specs.Seen.{IsSound}
use Rattle.td_convergence.specs.Trees.{Numbered, MeetInTurn, none_met, next_met, LeavesFirst, NoneClash, on_tree, is_among}
use Rattle.td_convergence.specs.Laws.{ConvergedHoldTheSame, Convergence}
use Rattle.td_convergence.proofs.Among.{all_reverse, among_cases, both_among, first_among, tree_cases, tree_has_pairs}
use Rattle.td_convergence.proofs.Joining.{AllHeld, Joined, joined}
use Rattle.td_convergence.proofs.Scripts.{one_script, scripts_stay}
use Rattle.td_convergence.proofs.Turns.{kept, split}

-- ---- to the root and back

-- after the meetings towards the root it has what any site of the tree had
comes_up : (root : ℕ) (tree : List (ℕ × ℕ)) (w u : Numbered) → LeavesFirst root tree → AllHeld w → NoneClash w
    → MeetInTurn w tree u → (n : ℕ) → is_among n (on_tree root tree) ≡ true
    → (e : Entry) → has (w n).entries e ≡ true → has (u root).entries e ≡ true
comes_up root [] w u order held free (none_met) n among e had = elim (among_cases n root [] among) [
  | inl is ↦ subst (λ m. has (w m).entries e ≡ true) is had
  | inr none ↦ absurd (false≢true none)
]
comes_up root (p ∷ ps) w u order held free (next_met told rest) n among e had =
    let one = joined w p held free told in
    let up = comes_up root ps _ u order.1 one.held one.free rest in
    elim (tree_cases n root p ps among) [
      | inl is ↦ up p.1 order.0 e (one.up e (subst (λ m. has (w m).entries e ≡ true) is had))
      | inr later ↦ up n later e (one.grows n e had)
    ]

-- after the meetings of the tree from the root each site has what the root had
goes_down : (root : ℕ) (tree : List (ℕ × ℕ)) (w u : Numbered) → LeavesFirst root tree → AllHeld w → NoneClash w
    → MeetInTurn w (reverse tree) u → (n : ℕ) → is_among n (on_tree root tree) ≡ true
    → (e : Entry) → has (w root).entries e ≡ true → has (u n).entries e ≡ true
goes_down root [] w u order held free (none_met) n among e had = elim (among_cases n root [] among) [
  | inl is ↦ subst (λ m. has (w m).entries e ≡ true) (sym is) had
  | inr none ↦ absurd (false≢true none)
]
goes_down root (p ∷ ps) w u order held free met n among e had =
    let in_parts = subst (λ (qs : List (ℕ × ℕ)). MeetInTurn w qs u) (reverse-append (p ∷ []) ps) met in
    let (v, front, back) = split (reverse ps) (p ∷ []) w u in_parts in
    let before = kept (reverse ps) w v held free front in
    let down = goes_down root ps w v order.1 held free front in
    elim (tree_cases n root p ps among) [
      | inl is ↦ subst (λ m. has (u m).entries e ≡ true) (sym is)
          (last p v u before.held before.free back e (down p.1 order.0 e had))
      | inr later ↦ (kept (p ∷ []) v u before.held before.free back).grows n e (down n later e had)
    ]
  where
    last : (p : ℕ × ℕ) (v u : Numbered) → AllHeld v → NoneClash v → MeetInTurn v (p ∷ []) u
        → (e : Entry) → has (v p.1).entries e ≡ true → has (u p.0).entries e ≡ true
    last p v u held free (next_met told rest) e had =
        let one = joined v p held free told in
        (kept [] _ u one.held one.free rest).grows p.0 e (one.down e had)

-- ---- and nothing else

abbrev any_has : Numbered → List ℕ → Entry → Bool
any_has w ns e = list_any (λ m. has (w m).entries e) ns

of_any : (w : Numbered) (ns : List ℕ) (e : Entry) → any_has w ns e ≡ true
    → (m : ℕ) × (is_among m ns ≡ true) × (has (w m).entries e ≡ true)
of_any w [] e none = absurd (false≢true none)
of_any w (n ∷ ns) e is = elim (or_cases (has (w n).entries e) (any_has w ns e) is) [
  | inl had ↦ (n, first_among n ns, had)
  | inr later ↦
      let (m, among, had) = of_any w ns e later in (m, or_right (eqb n m) (is_among m ns) among, had)
]

to_any : (w : Numbered) (ns : List ℕ) (e : Entry) (m : ℕ) → is_among m ns ≡ true → has (w m).entries e ≡ true
    → any_has w ns e ≡ true
to_any w [] e m none had = absurd (false≢true none)
to_any w (n ∷ ns) e m among had = elim (among_cases m n ns among) [
  | inl is ↦
      or_left (has (w n).entries e) (any_has w ns e) (subst (λ k. has (w k).entries e ≡ true) is had)
  | inr later ↦ or_right (has (w n).entries e) (any_has w ns e) (to_any w ns e m later had)
]

-- what one of some sites has after two of them met, one of them had
any_before : (w v : Numbered) (p : ℕ × ℕ) (ns : List ℕ) → Joined w p v → both_among ns p ≡ true
    → (e : Entry) → any_has v ns e ≡ true → any_has w ns e ≡ true
any_before w v p ns one among e any =
    let both = and_parts (is_among p.0 ns) (is_among p.1 ns) among in
    let (m, is_one, had) = of_any v ns e any in
    elim (one.from m e had) [
      | inl own ↦ to_any w ns e m is_one own
      | inr of_two ↦ elim of_two [
        | inl first ↦ to_any w ns e p.0 both.0 first
        | inr second ↦ to_any w ns e p.1 both.1 second
      ]
    ]

-- and so after they met in turn
nothing_else : (ns : List ℕ) (ps : List (ℕ × ℕ)) (w u : Numbered) → list_all (both_among ns) ps ≡ true
    → AllHeld w → NoneClash w → MeetInTurn w ps u
    → (e : Entry) → any_has u ns e ≡ true → any_has w ns e ≡ true
nothing_else ns [] w u pairs held free (none_met) e any = any
nothing_else ns (p ∷ ps) w u pairs held free (next_met told rest) e any =
    let one = joined w p held free told in
    let parts = and_parts (both_among ns p) (list_all (both_among ns) ps) pairs in
    any_before w _ p ns one parts.0 e (nothing_else ns ps _ u parts.1 one.held one.free rest e any)

-- ---- the laws

all_held : (w : Numbered) → ((n : ℕ) → IsSound (w n)) → AllHeld w
all_held w sound n = record { set = (sound n).set; ranges = (sound n).ranges }

pub converges : Convergence
converges root tree w u along n among e =
    let ns = on_tree root tree in
    let order = along.order in
    let free = along.free in
    let held = all_held w along.sound in
    let (v, front, back) = split tree (reverse tree) w u along.met in
    let half = kept tree w v held free front in
    let pairs = tree_has_pairs root tree order in
    let pairs_back = all_reverse (both_among ns) tree pairs in
    let was : has (u n).entries e ≡ true → any_has w ns e ≡ true = λ has_it.
    nothing_else ns tree w v pairs held free front e
    (nothing_else ns (reverse tree) v u pairs_back half.held half.free back e (to_any u ns e n among has_it)) in
    let comes : any_has w ns e ≡ true → has (u n).entries e ≡ true = λ any.
    let (m, is_one, had) = of_any w ns e any in
    let at_root = comes_up root tree w v order held free front m is_one e had in
    goes_down root tree v u order half.held half.free back n among e at_root in
    same_from_decides (has (u n).entries e) (any_has w ns e) (was, comes) (λ any. any, λ any. any)

pub hold_the_same : ConvergedHoldTheSame
hold_the_same root tree w u along one other is_one is_other =
    let left = kept (tree ++ reverse tree) w u (all_held w along.sound) along.free along.met in
    let (v, front, back) = split tree (reverse tree) w u along.met in
    let script = λ (n : ℕ) (among : is_among n (on_tree root tree) ≡ true).
    scripts_stay (tree ++ reverse tree) w u along.met n ∙ one_script root tree w v along.order front n among in
    let all = converges root tree w u along in
    record {
      script = script one is_one ∙ sym (script other is_other);
      one_set = (left.held one).set;
      other_set = (left.held other).set;
      members = λ e. all one is_one e ∙ sym (all other is_other e);
    }
