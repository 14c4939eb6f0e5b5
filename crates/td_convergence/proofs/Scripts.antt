-- The scripts of the sites of a tree.
use Rattle.std.proofs.Common.{◌≡◌, ℕ, true, List, [], ◌∷◌, inl, inr, refl, sym, ap, ◌∙◌}
use mathlib.Core.Bool.{false≢true}
use Rattle.td_replica.specs.Seen.{Seen}
use Rattle.td_meeting.specs.Meetings.{MeetsWhole}
use Rattle.td_meeting.specs.declared.meeting.Met.{Met}
use Rattle.td_convergence.specs.Trees.{Numbered, MeetInTurn, none_met, next_met, LeavesFirst, is_among, on_tree, with_two}
use Rattle.td_convergence.proofs.Among.{among_cases, tree_cases}
use Rattle.td_convergence.proofs.Joining.{two_cases}

-- a meeting changes no site's script
script_stays : (w : Numbered) (p : ℕ × ℕ) (met : Met) (after other : Seen)
    → MeetsWhole (w p.0) (w p.1) met after other → (n : ℕ) → (with_two w p after other n).script ≡ (w n).script
script_stays w p met after other told n =
    let of_number = λ (m : ℕ) (is : n ≡ m). ap (λ k. (w k).script) (sym is) in
    two_cases w p after other n (λ (s : Seen). s.script ≡ (w n).script)
    (λ is. ap (λ (s : Seen). s.script) told.first.takes.union ∙ of_number p.0 is)
    (λ is. ap (λ (s : Seen). s.script) told.second.takes.union ∙ of_number p.1 is)
    (λ _ _. refl)

pub scripts_stay : (ps : List (ℕ × ℕ)) (w u : Numbered) → MeetInTurn w ps u → (n : ℕ) → (u n).script ≡ (w n).script
scripts_stay [] w u (none_met) n = refl
scripts_stay (p ∷ ps) w u (next_met {met = met} {after = after} {other = other} told rest) n =
    scripts_stay ps _ u rest n ∙ script_stays w p met after other told n

-- and sites meet only with one of their own, so each of a tree has the root's
pub one_script : (root : ℕ) (tree : List (ℕ × ℕ)) (w u : Numbered) → LeavesFirst root tree → MeetInTurn w tree u
    → (n : ℕ) → is_among n (on_tree root tree) ≡ true → (w n).script ≡ (w root).script
one_script root [] w u order (none_met) n among = elim (among_cases n root [] among) [
  | inl is ↦ ap (λ k. (w k).script) is
  | inr none ↦ absurd (false≢true none)
]
one_script root (p ∷ ps) w u order (next_met {met = met} {after = after} {other = other} told rest) n among =
    let stays = script_stays w p met after other told in
    let later : (m : ℕ) → is_among m (on_tree root ps) ≡ true → (w m).script ≡ (w root).script =
    λ m is_later. sym (stays m) ∙ one_script root ps _ u order.1 rest m is_later ∙ stays root in
    elim (tree_cases n root p ps among) [
      | inl is ↦ ap (λ k. (w k).script) is ∙ told.two.0 ∙ later p.1 order.0
      | inr is_later ↦ later n is_later
    ]
