-- A site holds what it held, whatever a call answers.
use Rattle.std.proofs.Common.{◌≡◌, ℕ, true, List, [], ◌∷◌, Result, Ok, Err, IsOk, refl, sym, ap, subst, ◌∙◌}
use Rattle.std.proofs.lemmas.Bool.{or_left}
use Rattle.td_stamps.specs.Checks.{check_of}
use Rattle.td_stamps.specs.Entries.{same}
use Rattle.td_stamps.specs.Sets.{has, is_set, union}
use Rattle.td_stamps.specs.declared.entry.Entry.{Entry}
use Rattle.td_stamps.specs.declared.errors.CheckError.{CheckError}
use Rattle.td_stamps.proofs.Merges.{has-append_left}
use Rattle.td_stamps.proofs.SetLemmas.{adds_up, fits}
use Rattle.td_replica.specs.Calls.{Issues, Takes}
use Rattle.td_replica.specs.Seen.{IsSound, Seen}
use Rattle.td_replica.specs.declared.calls.Issued.{Issued}
use Rattle.td_replica.specs.declared.calls.Taken.{Taken}
use Rattle.td_replica.specs.declared.refusal.IssueError.{IssueError}
use Rattle.td_replica.specs.declared.refusal.IssueError.TheVariants as issue_error
use Rattle.td_replica.specs.declared.refusal.TakeError.{TakeError}
use Rattle.td_replica.specs.declared.refusal.TakeError.TheVariants as take_error
use Rattle.td_digested_sites.specs.Growth.{StaysHeld}

-- the entries of the second site are these
has_after : (after t : Seen) (e : Entry) → after ≡ t → has t.entries e ≡ true → has after.entries e ≡ true
has_after after t e is held = subst (λ (u : Seen). has u.entries e ≡ true) (sym is) held

issue_stays : (s after : Seen) (text : List ℕ) (r : Result Issued IssueError) → Issues s text r after → (e : Entry) → has s.entries e ≡ true → has after.entries e ≡ true
issue_stays s after text (Ok i) told e held = has_after after _ e told.last (has-append_left s.entries (told.entry ∷ []) e held)
issue_stays s after text (Err issue_error.Broken) told e held = has_after after s e told.1 held
issue_stays s after text (Err issue_error.Syntax) told e held = has_after after s e told.0.1 held
issue_stays s after text (Err issue_error.IllTyped) told e held = has_after after s e told.0.1 held
issue_stays s after text (Err issue_error.ClockEnd) told e held = has_after after s e told.0.1 held
issue_stays s after text (Err issue_error.Full) told e held = has_after after s e told.0.1 held
issue_stays s after text (Err issue_error.OutOfMemory) told e held = has_after after s e told.0.1 held
issue_stays s after text (Err issue_error.JournalWrite) told e held = has_after after _ e told.3.1 (has-append_left s.entries (told.1 ∷ []) e held)

pub issue_grows : (s after : Seen) (text : List ℕ) (r : Result Issued IssueError) → IsSound s → IsSound after → Issues s text r after → StaysHeld s after
issue_grows s after text r was now told = record { was_set = was.set; set = now.set; ranges = now.ranges; stays = issue_stays s after text r told }

union_has : (s : Seen) (batch : List Entry) (n : ℕ) (e : Entry) → is_set s.entries ≡ true → check_of s.entries s.limit batch ≡ Ok n → has s.entries e ≡ true → has (union s.entries batch) e ≡ true
union_has s batch n e set checked held =
    let fit = fits s.entries s.limit batch (subst (λ (r : Result ℕ CheckError). IsOk r) (sym checked) refl) in
    (adds_up s.entries s.entries batch (λ p. refl) set fit.clear).members (same e) ∙ or_left (has s.entries e) (has batch e) held

take_stays : (s after : Seen) (batch : List Entry) (r : Result Taken TakeError) → is_set s.entries ≡ true → Takes s batch r after → (e : Entry) → has s.entries e ≡ true → has after.entries e ≡ true
take_stays s after batch (Ok t) set told e held = has_after after _ e told.union (union_has s batch t.fresh e set told.fresh held)
take_stays s after batch (Err take_error.Broken) set told e held = has_after after s e told.1 held
take_stays s after batch (Err take_error.BadEntry) set told e held = has_after after s e told.0.1 held
take_stays s after batch (Err (take_error.Clash site seq)) set told e held = has_after after s e told.0.1 held
take_stays s after batch (Err take_error.Full) set told e held = has_after after s e told.0.1 held
take_stays s after batch (Err take_error.OutOfMemory) set told e held = has_after after s e told.0.1 held
take_stays s after batch (Err take_error.JournalWrite) set told e held = has_after after _ e told.3.1 (union_has s batch told.0 e set told.1 held)

pub take_grows : (s after : Seen) (batch : List Entry) (r : Result Taken TakeError) → IsSound s → IsSound after → Takes s batch r after → StaysHeld s after
take_grows s after batch r was now told = record { was_set = was.set; set = now.set; ranges = now.ranges; stays = take_stays s after batch r was.set told }
