-- Where its journal failed, a keeper leaves a front of the journal of what its site holds then.
use Rattle.std.proofs.Common.{◌≡◌, ◌≤◌, ◌+◌, ℕ, false, List, [], ◌∷◌, ◌++◌, length, take, None, Option, Some, refl, sym, ap, subst, ◌∙◌, append_assoc, arith, length-append, take_at}
use Rattle.std.specs.Io.KnownBytes.{Appends}
use Rattle.td_io.specs.Streams.{AppendsFront}
use Rattle.td_io.specs.Views.{Output}
use Rattle.td_stamps.specs.Checks.{fresh_of}
use Rattle.td_stamps.specs.Sets.{NoClash, union}
use Rattle.td_stamps.specs.declared.entry.Entry.{Entry}
use Rattle.td_stamps.proofs.Fresh.{fresh_are_counted, fresh_suffice}
use Rattle.td_stamps.proofs.Merges.{clash_is_found, fresh_is_growth}
use Rattle.td_stamps.proofs.Next.{next_comes_last}
use Rattle.td_frames.specs.Spelling.{entry_frames}
use Rattle.td_frames.specs.declared.version.Version.TheVariants.{Second}
use Rattle.td_replica.specs.Seen.{Seen, with_entries}
use Rattle.td_journal.specs.Keepers.{FailedIssueLeavesFront, FailedTakeLeavesFront, IsJournal, LeavesFront}
use Rattle.td_journal.specs.Keeping.{LeavesPart}
use Rattle.td_journal.specs.Views.{kept}
use Rattle.td_journal.proofs.Checked.{passes}
use Rattle.td_journal.proofs.Framed.{is_next}
use Rattle.td_journal.proofs.Grown.{grows, last_same}

front_held : (old new : Option (List ℕ)) (bytes frames : List ℕ) → old ≡ Some bytes → AppendsFront old new frames → (k : ℕ) × (length bytes ≤ k) × (new ≡ Some (take k (bytes ++ frames)))
front_held old None bytes frames is (front, rest, split, appended) = absurd (subst (λ (o : Option (List ℕ)). Appends o None front) is appended)
front_held old (Some all) bytes frames is (front, rest, split, appended) =
    let all_is : all ≡ bytes ++ front = subst (λ (o : Option (List ℕ)). Appends o (Some all) front) is appended in
    let whole : bytes ++ frames ≡ (bytes ++ front) ++ rest = ap (λ (l : List ℕ). bytes ++ l) split ∙ sym (append_assoc bytes front rest) in
    let k = length (bytes ++ front) in (
      k,
      omega (arith, length-append bytes front),
      ap Some (all_is ∙ sym (ap (take k) whole ∙ take_at (bytes ++ front) rest k refl)),
    )

closed : (s : Seen) (bytes : List ℕ) → IsJournal s bytes → IsJournal (kept false s) bytes
closed s bytes j = record { entries = j.entries; spelled = j.spelled; has = j.has; holds = j.holds; once = j.once }

leaves : (s after : Seen) (fresh : List Entry) (bytes : List ℕ) (old new : Output) → old.held ≡ Some bytes → IsJournal s bytes → after ≡ with_entries (kept false s) (union s.entries fresh)
    → length (union s.entries fresh) ≡ length fresh + length s.entries → LeavesPart fresh old new → LeavesFront bytes after new
leaves s after fresh bytes old new held j is count (front, has) =
    let (k, beyond, left) = front_held old.held new.held bytes (entry_frames Second fresh) held front in
    (bytes ++ entry_frames Second fresh, grows (kept false s) after fresh bytes (closed s bytes j) has is count, k, beyond, left)

pub failed_issue : FailedIssueLeavesFront
failed_issue s after text bytes old new held j (statement, e, next, closes) (x, is, front) =
    let after_is : after.entries ≡ s.entries ++ e ∷ [] = ap (λ (t : Seen). t.entries) closes.1 in
    let same : x ≡ e = last_same s.entries x e (sym is ∙ after_is) in
    let n = is_next s text e next in
    let last : union s.entries (e ∷ []) ≡ s.entries ++ e ∷ [] = (next_comes_last s.site s.entries e n.site n.next).2 in
    let count : length (union s.entries (e ∷ [])) ≡ 1 + length s.entries = omega (arith, ap length last, length-append s.entries (e ∷ [])) in
    leaves s after (e ∷ []) bytes old new held j (closes.1 ∙ ap (with_entries (kept false s)) (sym last)) count (subst (λ (y : Entry). LeavesPart (y ∷ []) old new) same front)

pub failed_take : FailedTakeLeavesFront
failed_take s after batch bytes old new sound held j (n, check, some, closes) left =
    let fresh = fresh_of s.entries batch in
    let free : NoClash (s.entries ++ batch) = (clash_is_found s.entries batch sound.set).0 (passes s.entries s.limit batch n check).clear in
    let same : union s.entries fresh ≡ union s.entries batch = fresh_suffice s.entries batch sound.set free in
    let count : length (union s.entries fresh) ≡ length fresh + length s.entries =
    ap length same ∙ fresh_is_growth s.entries batch sound.set free ∙ ap (λ (m : ℕ). m + length s.entries) (sym (fresh_are_counted s.entries batch)) in
    leaves s after fresh bytes old new held j (closes.1 ∙ ap (with_entries (kept false s)) (sym same)) count left
