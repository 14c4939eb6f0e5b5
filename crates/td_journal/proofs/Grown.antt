-- The journal of a keeper grows with what it holds.
use Rattle.std.proofs.Common.{◌≡◌, ◌≤◌, ◌+◌, ℕ, true, true≢false, leb, List, [], ◌∷◌, ◌++◌, length, get_or, take, drop, None, Option, Some, Ok, Err, refl, sym, ap, subst, ◌∙◌, append_assoc, arith, length-append}
use Rattle.std.specs.List.{AllByRecursion}
use Rattle.std.specs.Io.KnownBytes.{Appends}
use Rattle.std.proofs.lemmas.Bool.{leb-true, and_parts}
use Rattle.std.proofs.lemmas.List.Concat.{flat_map-append}
use Rattle.td_io.specs.Views.{Output}
use Rattle.td_stamps.specs.Checks.{fresh_of}
use Rattle.td_stamps.specs.Sets.{NoClash, is_set, put, union}
use Rattle.td_stamps.specs.declared.entry.Entry.{Entry}
use Rattle.td_stamps.proofs.Fresh.{fresh_are_counted, fresh_suffice}
use Rattle.td_stamps.proofs.Merges.{clash_is_found, fresh_is_growth, same_members, set_free, union_has_both, union_is_set}
use Rattle.td_frames.specs.Spelling.{HasFrame, entry_frame, entry_frames}
use Rattle.td_frames.specs.declared.version.Version.TheVariants.{Second}
use Rattle.td_replica.specs.Calls.{IssuesEntry, TakesBatch}
use Rattle.td_replica.specs.Seen.{Seen, IsSound, with_entries}
use Rattle.td_replica.specs.declared.calls.Issued.{Issued}
use Rattle.td_replica.specs.declared.calls.Taken.{Taken}
use Rattle.td_replica.specs.declared.refusal.IssueError.TheVariants as issue_error
use Rattle.td_replica.specs.declared.refusal.TakeError.TheVariants as take_error
use Rattle.td_journal.specs.Keepers.{IsJournal, IssueKeepsJournal, JournalSaysAll, StartsJournal, TakeKeepsJournal}
use Rattle.td_journal.specs.Keeping.{Accepts}
use Rattle.td_journal.specs.Laws.{left_of}
use Rattle.td_journal.specs.Reading.{journal_at}
use Rattle.td_journal.specs.Spelling.{header, journal}
use Rattle.td_journal.proofs.Checked.{passes}
use Rattle.td_journal.proofs.Cut.{cut_is_read, is_read_again}
use Rattle.td_journal.proofs.Framed.{all_beside}

grown : (old new : Option (List ℕ)) (xs bytes : List ℕ) → old ≡ Some xs → Appends old new bytes → new ≡ Some (xs ++ bytes)
grown old None xs bytes is h = absurd (subst (λ (o : Option (List ℕ)). Appends o None bytes) is h)
grown old (Some ys) xs bytes is h = ap Some (subst (λ (o : Option (List ℕ)). Appends o (Some ys) bytes) is h)

pub union_beside : (ys xs zs : List Entry) → union xs (ys ++ zs) ≡ union (union xs ys) zs
union_beside [] xs zs = refl
union_beside (y ∷ ys) xs zs = union_beside ys (put y xs) zs

of_nothing : (es : List Entry) → is_set es ≡ true → union [] es ≡ es
of_nothing es set =
    let free : NoClash ([] ++ es) = set_free es set in
    same_members (union [] es) es (union_is_set [] es refl free) set (λ e. union_has_both [] es refl free e)

-- with more entries, which the site then holds
pub grows : (s after : Seen) (fresh : List Entry) (bytes : List ℕ) → IsJournal s bytes → AllByRecursion (HasFrame Second) fresh → after ≡ with_entries s (union s.entries fresh)
    → length (union s.entries fresh) ≡ length fresh + length s.entries → IsJournal after (bytes ++ entry_frames Second fresh)
grows s after fresh bytes j has is count =
    let all = j.entries ++ fresh in
    let spelled : bytes ++ entry_frames Second fresh ≡ journal Second s.site s.script all =
    ap (λ (l : List ℕ). l ++ entry_frames Second fresh) j.spelled ∙ append_assoc (header Second s.site s.script) (entry_frames Second j.entries) (entry_frames Second fresh)
    ∙ ap (λ (l : List ℕ). header Second s.site s.script ++ l) (sym (flat_map-append (entry_frame Second) j.entries fresh)) in
    let holds : union [] all ≡ union s.entries fresh = union_beside j.entries [] fresh ∙ ap (λ (l : List Entry). union l fresh) j.holds in
    let once : length all ≡ length (union s.entries fresh) = omega (arith, length-append j.entries fresh, j.once, count) in
    let whole : IsJournal (with_entries s (union s.entries fresh)) (bytes ++ entry_frames Second fresh) =
    record { entries = all; spelled = spelled; has = all_beside (HasFrame Second) j.entries fresh j.has has; holds = holds; once = once } in
    subst (λ (t : Seen). IsJournal t (bytes ++ entry_frames Second fresh)) (sym is) whole

-- with these accepted
accepts : (s after : Seen) (fresh : List Entry) (bytes : List ℕ) (old new : Output) → old.held ≡ Some bytes → IsJournal s bytes → after ≡ with_entries s (union s.entries fresh)
    → length (union s.entries fresh) ≡ length fresh + length s.entries → Accepts fresh old new → (more : List ℕ) × (new.held ≡ Some more) × IsJournal after more
accepts s after [] bytes old new held j is count same = (bytes, ap (λ (o : Output). o.held) same ∙ held, subst (λ (t : Seen). IsJournal t bytes) (sym is) j)
accepts s after (e ∷ es) bytes old new held j is count (written, has) =
    (bytes ++ entry_frames Second (e ∷ es), grown old.held new.held bytes (entry_frames Second (e ∷ es)) held written.0.0, grows s after (e ∷ es) bytes j has is count)

-- nothing was accepted
stays : (s after : Seen) (bytes : List ℕ) (old new : Output) → old.held ≡ Some bytes → IsJournal s bytes → after ≡ s → new ≡ old → (more : List ℕ) × (new.held ≡ Some more) × IsJournal after more
stays s after bytes old new held j is same = (bytes, ap (λ (o : Output). o.held) same ∙ held, subst (λ (t : Seen). IsJournal t bytes) (sym is) j)

pub starts_journal : StartsJournal
starts_journal s old new sound held (live, written, has) = (
  journal Second s.site s.script s.entries,
  grown old.held new.held [] (journal Second s.site s.script s.entries) held written.0.0,
  record { entries = s.entries; spelled = refl; has = has; holds = of_nothing s.entries sound.set; once = refl },
)

-- ---- issue

pub last_same : (xs : List Entry) (a b : Entry) → xs ++ a ∷ [] ≡ xs ++ b ∷ [] → a ≡ b
last_same [] a b e = ap (λ (l : List Entry). get_or l 0 a) e
last_same (x ∷ xs) a b e = last_same xs a b (ap (λ (l : List Entry). drop 1 l) e)

one_issued : (s after : Seen) (text bytes : List ℕ) (i : Issued) (e : Entry) (old new : Output) → old.held ≡ Some bytes → IsJournal s bytes → IssuesEntry s text i after
    → after.entries ≡ s.entries ++ e ∷ [] → Accepts (e ∷ []) old new → (more : List ℕ) × (new.held ≡ Some more) × IsJournal after more
one_issued s after text bytes i e old new held j h is written =
    let last : after.entries ≡ s.entries ++ h.entry ∷ [] = ap (λ (t : Seen). t.entries) h.last in
    let same : h.entry ≡ e = last_same s.entries h.entry e (sym last ∙ is) in
    let union_is : s.entries ++ h.entry ∷ [] ≡ union s.entries (e ∷ []) = sym last ∙ h.union ∙ ap (λ (x : Entry). union s.entries (x ∷ [])) same in
    let count : length (union s.entries (e ∷ [])) ≡ 1 + length s.entries = omega (arith, ap length (sym union_is), length-append s.entries (h.entry ∷ [])) in
    accepts s after (e ∷ []) bytes old new held j (h.last ∙ ap (with_entries s) union_is) count written

pub issue_keeps : IssueKeepsJournal
issue_keeps s after text bytes (Ok i) old new held j h (e, is, written) live open' = one_issued s after text bytes i e old new held j h is written
issue_keeps s after text bytes (Err issue_error.Broken) old new held j h same live open' = absurd (true≢false (sym live ∙ h.0))
issue_keeps s after text bytes (Err issue_error.Syntax) old new held j h same live open' = stays s after bytes old new held j h.0.1 same
issue_keeps s after text bytes (Err issue_error.IllTyped) old new held j h same live open' = stays s after bytes old new held j h.0.1 same
issue_keeps s after text bytes (Err issue_error.ClockEnd) old new held j h same live open' = stays s after bytes old new held j h.0.1 same
issue_keeps s after text bytes (Err issue_error.Full) old new held j h same live open' = stays s after bytes old new held j h.0.1 same
issue_keeps s after text bytes (Err issue_error.OutOfMemory) old new held j h same live open' = stays s after bytes old new held j h.0.1 same
issue_keeps s after text bytes (Err issue_error.JournalWrite) old new held j (statement, e, next, closes) same live open' = absurd (true≢false (sym open' ∙ ap (λ (t : Seen). t.live) closes.1))

-- ---- take

some_taken : (s after : Seen) (batch : List Entry) (bytes : List ℕ) (t : Taken) (old new : Output) → IsSound s → old.held ≡ Some bytes → IsJournal s bytes → TakesBatch s batch t after
    → Accepts (fresh_of s.entries batch) old new → (more : List ℕ) × (new.held ≡ Some more) × IsJournal after more
some_taken s after batch bytes t old new sound held j h written =
    let fresh = fresh_of s.entries batch in
    let free : NoClash (s.entries ++ batch) = (clash_is_found s.entries batch sound.set).0 (passes s.entries s.limit batch t.fresh h.fresh).clear in
    let same : union s.entries fresh ≡ union s.entries batch = fresh_suffice s.entries batch sound.set free in
    let count : length (union s.entries fresh) ≡ length fresh + length s.entries =
    ap length same ∙ fresh_is_growth s.entries batch sound.set free ∙ ap (λ (n : ℕ). n + length s.entries) (sym (fresh_are_counted s.entries batch)) in
    accepts s after fresh bytes old new held j (h.union ∙ ap (with_entries s) (sym same)) count written

pub take_keeps : TakeKeepsJournal
take_keeps s after batch bytes (Ok t) old new sound held j h written live open' = some_taken s after batch bytes t old new sound held j h written
take_keeps s after batch bytes (Err take_error.Broken) old new sound held j h same live open' = absurd (true≢false (sym live ∙ h.0))
take_keeps s after batch bytes (Err take_error.BadEntry) old new sound held j h same live open' = stays s after bytes old new held j h.0.1 same
take_keeps s after batch bytes (Err (take_error.Clash site seq)) old new sound held j h same live open' = stays s after bytes old new held j h.0.1 same
take_keeps s after batch bytes (Err take_error.Full) old new sound held j h same live open' = stays s after bytes old new held j h.0.1 same
take_keeps s after batch bytes (Err take_error.OutOfMemory) old new sound held j h same live open' = stays s after bytes old new held j h.0.1 same
take_keeps s after batch bytes (Err take_error.JournalWrite) old new sound held j (n, check, fresh, closes) same live open' = absurd (true≢false (sym open' ∙ ap (λ (t : Seen). t.live) closes.1))

-- ---- reading

pub says_all : JournalSaysAll
says_all v s bytes sound j =
    let es = j.entries in
    let limit : s.limit ≤ 100000 = leb-true s.limit 100000 (and_parts (leb 1 s.limit) (leb s.limit 100000) sound.limit).1 in
    let few : length es ≤ 100000 = omega (arith, limit, j.once, sound.within) in (
      es,
      j.holds,
      subst (λ (b : List ℕ). journal_at s.site s.script b ≡ Ok (es, length b, v)) (sym j.spelled) (is_read_again v s.site s.script es few j.has),
      λ k. subst (λ (b : List ℕ). journal_at s.site s.script (take k b) ≡ Ok (left_of v s.site s.script es k)) (sym j.spelled) (cut_is_read v s.site s.script es k few j.has),
    )
