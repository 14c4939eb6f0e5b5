-- A site that goes on with what it came back from has the journal of what it holds.
use Rattle.std.proofs.Common.{◌≡◌, ◌⊎◌, inl, inr, ◌<◌, ◌≤◌, leb, ℕ, zero, suc, List, length, take, None, Some, Option, Result, Ok, refl, sym, ap, subst, ◌∙◌, ⊎_elim, arith}
use Rattle.std.proofs.lemmas.Bool.{cases_lt, leb-true, le-ltb, lt-ltb, and_parts}
use Rattle.td_io.specs.Views.{Input, Output}
use Rattle.td_replica.specs.Seen.{Seen, IsSound}
use Rattle.td_frames.specs.declared.version.Version.{Version}
use Rattle.td_frames.specs.declared.version.Version.TheVariants.{First, Second}
use Rattle.td_journal.specs.declared.error.JournalError.{JournalError}
use Rattle.td_journal.specs.Keepers.{IsJournal, IsJournalOf}
use Rattle.td_journal.specs.Laws.{left_of}
use Rattle.td_journal.specs.Reading.{JournalContents, journal_at}
use Rattle.td_journal.specs.Reopening.{ReopensSite}
use Rattle.td_journal.specs.Spelling.{header, journal}
use Rattle.td_journal.specs.Stores.{IsCutTo, IsGoneOnWith, IsMadeAnew, KeptHasJournal}
use Rattle.td_journal.proofs.Cut.{cut_is_read}
use Rattle.td_journal.proofs.GoesOn.{all_read, reopened_has, version_in, whole_in}
use Rattle.td_journal.proofs.Grown.{starts_journal}

cut_of : (n : ℕ) (front : List ℕ) (held : Option (List ℕ)) → IsCutTo n (Some front) held → held ≡ Some (take n front)
cut_of n front None is = absurd is
cut_of n front (Some left) is = ap Some is

-- of what was made anew, begun where nothing stood, or kept, the writer has the journal
abbrev HasAll : Seen → Output → Type 0
HasAll after w = (all : List ℕ) × (w.held ≡ Some all) × IsJournal after all

anew_has : (front : List ℕ) (after : Seen) (w : Output) → IsSound after → IsMadeAnew (Some front) after w → HasAll after w
anew_has front after w sound (empty, is, begun, starts, same) =
    let (all, held, j) = starts_journal after empty begun sound (cut_of 0 front empty.held is) starts in
    (all, same ∙ held, j)

gone_on_has : (v : Version) (n : ℕ) (front : List ℕ) (after : Seen) (w : Output) → IsSound after → (v ≡ First) ⊎ ((n ≡ 0) ⊎ IsJournal after (take n front)) → IsGoneOnWith v n (Some front) after w
    → HasAll after w
gone_on_has First n front after w sound has is = anew_has front after w sound is
gone_on_has Second zero front after w sound has (cut, is, starts) = starts_journal after cut w sound (cut_of 0 front cut.held is) starts
gone_on_has Second (suc n) front after w sound (inl first) is = absurd cc
gone_on_has Second (suc n) front after w sound (inr (inl none)) is = absurd (omega (arith, none))
gone_on_has Second (suc n) front after w sound (inr (inr j)) is = (take (suc n) front, cut_of (suc n) front w.held is, j)

-- what was read of a front of a journal
read_as : (v : Version) (s after : Seen) (bytes front : List ℕ) (k limit n : ℕ) (version : Version) (old new : Input) → IsSound s → (j : IsJournalOf v s bytes) → front ≡ take k bytes
    → old.left ≡ Some front → (r : ReopensSite s.script s.site limit old new after n version)
    → ◌≡◌ {A = Result JournalContents JournalError} (Ok (r.entries, n, version)) (Ok (left_of v s.site s.script j.entries k))
read_as v s after bytes front k limit n version old new sound j is held r =
    let es = j.entries in
    let limited : s.limit ≤ 100000 = leb-true s.limit 100000 (and_parts (leb 1 s.limit) (leb s.limit 100000) sound.limit).1 in
    let few : length es ≤ 100000 = omega (arith, limited, j.once, sound.within) in
    let read : r.bytes ≡ take k (journal v s.site s.script es) = all_read old.left new.left r.bytes front held r.reads.0 r.all ∙ is ∙ ap (take k) j.spelled in
    sym r.says ∙ ap (journal_at s.site s.script) read ∙ cut_is_read v s.site s.script es k few j.has

-- nothing stands whole of a header that is cut
nothing_left_of : (v : Version) (s : Seen) (bytes : List ℕ) (k : ℕ) → (j : IsJournalOf v s bytes) → k < length (header v s.site s.script) → whole_in (Ok (left_of v s.site s.script j.entries k)) ≡ 0
nothing_left_of v s bytes k j short = rw (lt-ltb k (length (header v s.site s.script)) short) refl

version_left_of : (v : Version) (s : Seen) (bytes : List ℕ) (k : ℕ) → (j : IsJournalOf v s bytes) → length (header v s.site s.script) ≤ k → version_in (Ok (left_of v s.site s.script j.entries k)) ≡ v
version_left_of v s bytes k j beyond = rw (le-ltb k (length (header v s.site s.script)) beyond) refl

module _ (s new after : Seen) (bytes front : List ℕ) (k limit n : ℕ) (version : Version) (old mid : Input) (sound : IsSound s) (is : front ≡ take k bytes) (held : old.left ≡ Some front)
    (r : ReopensSite s.script s.site limit old mid after n version) where
  behind : (v : Version) → IsJournalOf v s bytes → length (header v s.site s.script) ≤ k → (version ≡ First) ⊎ ((n ≡ 0) ⊎ IsJournal after (take n front))
  behind First j beyond = inl (ap version_in (read_as First s after bytes front k limit n version old mid sound j is held r) ∙ version_left_of First s bytes k j beyond)
  behind Second j beyond = inr (inr (reopened_has s after bytes front k limit n version old mid sound j beyond is held r))

  left_whole : (v : Version) → IsJournalOf v s bytes → (version ≡ First) ⊎ ((n ≡ 0) ⊎ IsJournal after (take n front))
  left_whole v j =
      ⊎_elim (λ short. inr (inl (ap whole_in (read_as v s after bytes front k limit n version old mid sound j is held r) ∙ nothing_left_of v s bytes k j short)))
      (behind v j)
      (cases_lt k (length (header v s.site s.script)))

pub kept_has : KeptHasJournal
kept_has v s new after bytes front k w sound j is script site holds g =
    let old : Input = record { left = Some front; failures = g.failures } in
    let reopens : ReopensSite s.script s.site new.limit old g.read after g.whole g.version =
    subst (λ (m : ℕ). ReopensSite s.script m new.limit old g.read after g.whole g.version) site
    (subst (λ (t : List ℕ). ReopensSite t new.site new.limit old g.read after g.whole g.version) script g.reopens) in
    gone_on_has g.version g.whole front after w holds (left_whole s new after bytes front k new.limit g.whole g.version old g.read sound is refl reopens v j) g.goes_on
