-- A site that was reopened goes on with what stands whole of its journal.
use Rattle.std.proofs.Common.{◌≡◌, ℕ, ◌+◌, ◌-◌, ◌<◌, ◌≤◌, Bool, true, false, leb, if◌then◌else◌, ◌⊎◌, inl, inr, List, [], ◌∷◌, ◌++◌, length, take, None, Some, Option, Result, Ok, Err, refl, sym, ap, subst, ◌∙◌, append_assoc, append-nil, arith, length-append, take_at}
use Rattle.std.specs.List.{AllByRecursion}
use Rattle.std.specs.Io.KnownBytes.{Consumes, IsAtEnd}
use Rattle.std.proofs.lemmas.Bool.{cases_lt, le-ltb, leb-true, lt-ltb, and_parts}
use Rattle.td_stamps.specs.Entries.{before}
use Rattle.td_stamps.specs.Sets.{put, union}
use Rattle.td_stamps.specs.declared.entry.Entry.{Entry}
use Rattle.td_frames.specs.Spelling.{HasFrame, entry_frame, entry_frames}
use Rattle.td_frames.specs.declared.version.Version.{Version}
use Rattle.td_frames.specs.declared.version.Version.TheVariants.{Second}
use Rattle.td_replica.specs.NewSites.{newly_opened}
use Rattle.td_replica.specs.Seen.{Seen, with_entries}
use Rattle.td_journal.specs.declared.error.JournalError.{JournalError}
use Rattle.td_journal.specs.Keepers.{IsJournal, ReopenedHasJournal}
use Rattle.td_journal.specs.Laws.{left_of, whole}
use Rattle.td_journal.specs.Reading.{JournalContents, journal_at}
use Rattle.td_journal.specs.Spelling.{header, journal}
use Rattle.td_journal.proofs.Cut.{cut_is_read, frames_first, nothing_left, take_beyond}
use Rattle.td_journal.proofs.Grown.{union_beside}

-- ---- no entry has two frames

one_put : (e : Entry) (xs : List Entry) → length (put e xs) ≤ 1 + length xs
one_put e [] = omega arith
one_put e (x ∷ xs) = by (before e x) (before x e) (one_put e xs)
  where
    by : (b c : Bool) → length (put e xs) ≤ 1 + length xs → length (if b then e ∷ x ∷ xs else (if c then x ∷ put e xs else x ∷ xs)) ≤ 1 + length (x ∷ xs)
    by true c h = omega arith
    by false true h = omega (arith, h)
    by false false h = omega arith

all_put : (ys xs : List Entry) → length (union xs ys) ≤ length xs + length ys
all_put [] xs = omega arith
all_put (y ∷ ys) xs = omega (arith, all_put ys (put y xs), one_put y xs)

front_once : (front back : List Entry) → length (union [] (front ++ back)) ≡ length (front ++ back) → length front ≡ length (union [] front)
front_once front back once = omega (arith, once, ap length (union_beside front [] back), all_put back (union [] front), all_put front [], length-append front back)

-- ---- what stands whole is a front

front_of : (es : List Entry) (n : ℕ) → (back : List Entry) × (es ≡ whole Second es n ++ back)
front_of [] n = ([], refl)
front_of (e ∷ es) n = by (cases_lt n (length (entry_frame Second e))) (front_of es (n - length (entry_frame Second e)))
  where
    by : (n < length (entry_frame Second e)) ⊎ (length (entry_frame Second e) ≤ n) → ((back : List Entry) × (es ≡ whole Second es (n - length (entry_frame Second e)) ++ back))
        → (back : List Entry) × (e ∷ es ≡ whole Second (e ∷ es) n ++ back)
    by (inl within) rest = (e ∷ es, rw (lt-ltb n (length (entry_frame Second e)) within) refl)
    by (inr beyond) (back, is) = (back, rw (le-ltb n (length (entry_frame Second e)) beyond) (ap (λ (l : List Entry). e ∷ l) is))

torn_of : (es : List Entry) (n : ℕ) → (torn : List ℕ) × (take n (entry_frames Second es) ≡ entry_frames Second (whole Second es n) ++ torn)
torn_of [] n = ([], nothing_left Second n)
torn_of (e ∷ es) n = by (cases_lt n (length (entry_frame Second e))) (torn_of es (n - length (entry_frame Second e)))
  where
    by : (n < length (entry_frame Second e)) ⊎ (length (entry_frame Second e) ≤ n)
        → ((torn : List ℕ) × (take (n - length (entry_frame Second e)) (entry_frames Second es) ≡ entry_frames Second (whole Second es (n - length (entry_frame Second e))) ++ torn))
        → (torn : List ℕ) × (take n (entry_frames Second (e ∷ es)) ≡ entry_frames Second (whole Second (e ∷ es) n) ++ torn)
    by (inl within) rest = (take n (entry_frames Second (e ∷ es)), rw (lt-ltb n (length (entry_frame Second e)) within) refl)
    by (inr beyond) (torn, is) =
        let front = entry_frame Second e in
        let left = whole Second es (n - length front) in
        let apart : take n (entry_frames Second (e ∷ es)) ≡ entry_frames Second (e ∷ left) ++ torn =
        ap (take n) (frames_first Second e es) ∙ take_beyond front (entry_frames Second es) n beyond ∙ ap (λ (l : List ℕ). front ++ l) is ∙ sym (append_assoc front (entry_frames Second left) torn)
        ∙ ap (λ (l : List ℕ). l ++ torn) (sym (frames_first Second e left)) in
        (torn, rw (le-ltb n (length (entry_frame Second e)) beyond) apart)

front_has : (P : Entry → Type 0) (front back : List Entry) → AllByRecursion P (front ++ back) → AllByRecursion P front
front_has P [] back all = tt
front_has P (x ∷ xs) back all = (all.0, front_has P xs back all.1)

-- ---- what was read

pub all_read : (old new : Option (List ℕ)) (bytes front : List ℕ) → old ≡ Some front → Consumes old new bytes → IsAtEnd new → bytes ≡ front
all_read old None bytes front is h end = absurd (subst (λ (o : Option (List ℕ)). Consumes o None bytes) is h)
all_read old (Some rest) bytes front is h end =
    let split : front ≡ bytes ++ rest = subst (λ (o : Option (List ℕ)). Consumes o (Some rest) bytes) is h in
    sym (split ∙ ap (λ (l : List ℕ). bytes ++ l) end ∙ append-nil bytes)

abbrev entries_in : Result JournalContents JournalError → List Entry
entries_in (Ok x) = x.0
entries_in (Err e) = []

abbrev pub version_in : Result JournalContents JournalError → Version
version_in (Ok x) = x.2
version_in (Err e) = Second

abbrev pub whole_in : Result JournalContents JournalError → ℕ
whole_in (Ok x) = x.1
whole_in (Err e) = 0

-- the journal of the front that stands whole
whole_journal : (s : Seen) (bytes front : List ℕ) (k limit : ℕ) → (j : IsJournal s bytes) → length (header Second s.site s.script) ≤ k → front ≡ take k bytes
    → IsJournal (with_entries (newly_opened s.script s.site limit) (union [] (whole Second j.entries (k - length (header Second s.site s.script)))))
    (take (length (journal Second s.site s.script (whole Second j.entries (k - length (header Second s.site s.script))))) front)
whole_journal s bytes front k limit j beyond is =
    let head = header Second s.site s.script in
    let es = j.entries in
    let left = whole Second es (k - length head) in
    let (torn, split) = torn_of es (k - length head) in
    let (back, apart) = front_of es (k - length head) in
    let front_is : front ≡ journal Second s.site s.script left ++ torn =
    is ∙ ap (take k) j.spelled ∙ take_beyond head (entry_frames Second es) k beyond ∙ ap (λ (l : List ℕ). head ++ l) split ∙ sym (append_assoc head (entry_frames Second left) torn) in
    let spelled : take (length (journal Second s.site s.script left)) front ≡ journal Second s.site s.script left =
    ap (take (length (journal Second s.site s.script left))) front_is ∙ take_at (journal Second s.site s.script left) torn (length (journal Second s.site s.script left)) refl in
    let once : length (union [] (left ++ back)) ≡ length (left ++ back) = subst (λ (l : List Entry). length (union [] l) ≡ length l) apart (ap length j.holds ∙ sym j.once) in
    record {
      entries = left;
      spelled = spelled;
      has = front_has (HasFrame Second) left back (subst (AllByRecursion (HasFrame Second)) apart j.has);
      holds = refl;
      once = front_once left back once;
    }

pub reopened_has : ReopenedHasJournal
reopened_has s after bytes front k limit n version old new sound j beyond is held r =
    let head = header Second s.site s.script in
    let es = j.entries in
    let left = whole Second es (k - length head) in
    let limited : s.limit ≤ 100000 = leb-true s.limit 100000 (and_parts (leb 1 s.limit) (leb s.limit 100000) sound.limit).1 in
    let few : length es ≤ 100000 = omega (arith, limited, j.once, sound.within) in
    let read : r.bytes ≡ take k (journal Second s.site s.script es) = all_read old.left new.left r.bytes front held r.reads.0 r.all ∙ is ∙ ap (take k) j.spelled in
    let cut : left_of Second s.site s.script es k ≡ (left, length (journal Second s.site s.script left), Second) = rw (le-ltb k (length head) beyond) refl in
    let says : ◌≡◌ {A = Result JournalContents JournalError} (Ok (r.entries, n, version)) (Ok (left, length (journal Second s.site s.script left), Second)) =
    sym r.says ∙ ap (journal_at s.site s.script) read ∙ cut_is_read Second s.site s.script es k few j.has ∙ ap Ok cut in
    let entries_are : r.entries ≡ left = ap entries_in says in
    let whole_is : n ≡ length (journal Second s.site s.script left) = ap whole_in says in
    let after_is : after ≡ with_entries (newly_opened s.script s.site limit) (union [] left) = r.holds ∙ ap (λ (l : List Entry). with_entries (newly_opened s.script s.site limit) (union [] l)) entries_are in
    subst (λ (t : Seen). IsJournal t (take n front)) (sym after_is)
    (subst (λ (m : ℕ). IsJournal (with_entries (newly_opened s.script s.site limit) (union [] left)) (take m front)) (sym whole_is) (whole_journal s bytes front k limit j beyond is))
