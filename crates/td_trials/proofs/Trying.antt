-- A statement that is issued has the outcome of its trial, since a list of entries has one history.
use Rattle.std.proofs.Common.{◌≡◌, ℕ, List, [], ◌∷◌, ◌++◌, Result, Ok, refl, sym, ap, ◌∙◌, subst}
use Rattle.td_stamps.specs.declared.entry.Entry.{Entry}
use Rattle.td_stamps.specs.declared.entry.Stamp.{Stamp}
use Rattle.td_semantics.specs.declared.outcome.Outcome.{Outcome}
use Rattle.td_replica.specs.Calls.{IssuesEntry, entry_of}
use Rattle.td_replica.specs.Seen.{AreOutcomes, Seen, with_entries}
use Rattle.td_replica.specs.declared.calls.Issued.{Issued}
use Rattle.td_replica.specs.declared.refusal.IssueError.{IssueError}
use Rattle.td_replica.proofs.Agreeing.{history_is_unique}
use Rattle.td_trials.specs.Laws.{IssueDoesAsTried}

-- ---- the last of a list
abbrev last_or : {A : Type 0} → A → List A → A
last_or z [] = z
last_or z (x ∷ xs) = last_or x xs

last_appended : {A : Type 0} (z : A) (xs : List A) (x : A) → last_or z (xs ++ x ∷ []) ≡ x
last_appended z [] x = refl
last_appended z (y ∷ xs) x = last_appended y xs x

one_last : {A : Type 0} (xs ys : List A) (x y : A) → xs ++ x ∷ [] ≡ ys ++ y ∷ [] → x ≡ y
one_last xs ys x y h = sym (last_appended x xs x) ∙ ap (last_or x) h ∙ last_appended x ys y

ok_same : (a b : Entry) → ◌≡◌ {A = Result Entry IssueError} (Ok a) (Ok b) → a ≡ b
ok_same a b h = cc

one_outcome : (s : Seen) (text : List ℕ) (i j : Issued) (after later : Seen) → IssuesEntry s text i after → IssuesEntry s text j later → j.outcome ≡ i.outcome
one_outcome s text i j after later p q =
    let entries : q.entry ≡ p.entry = ok_same q.entry p.entry (sym q.next ∙ p.next) in
    let states : later ≡ after = q.last ∙ ap (λ (e : Entry). with_entries s (s.entries ++ e ∷ [])) entries ∙ sym p.last in
    let were = q.before ++ (j.stamp, j.outcome) ∷ [] in
    let are = subst (λ (z : Seen). AreOutcomes z were) states q.are in
    let same = history_is_unique after.script after.entries were (p.before ++ (i.stamp, i.outcome) ∷ []) are.0 p.are.0 are.1 p.are.1 in
    ap (λ (x : Stamp × Outcome). x.1) (one_last q.before p.before (j.stamp, j.outcome) (i.stamp, i.outcome) same.0)

pub issue_does_as_tried : IssueDoesAsTried
issue_does_as_tried s text outcome tried issued after issues =
    one_outcome s text tried.0 issued tried.1 after tried.2 issues ∙ tried.3
