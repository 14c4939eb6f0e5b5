-- The bytes of cut meetings: what comes of the bytes that a step wrote is a front of them, and the site that reads it
-- takes the entries that came whole.
use Rattle.std.specs.Prelude.{◌≡◌, ◌≢◌, ◌≤◌, ◌⊎◌, ℕ, Bool, true, List, [], ◌++◌, length, take}
use Rattle.std.specs.Prelude.{Option, Some, Result, Ok, Err}
use Rattle.std.specs.List.{AllByRecursion, filter}
use Rattle.td_stamps.specs.Sets.{has}
use Rattle.td_stamps.specs.Vectors.{IsVector, VersionVector, after_vector}
use Rattle.td_stamps.specs.declared.entry.Entry.{Entry}
use Rattle.td_frames.specs.Reading.{Miss, short, entries_at}
use Rattle.td_frames.specs.Spelling.{HasFrame, entry_frames, stream}
use Rattle.td_frames.specs.declared.error.FrameError.{FrameError}
use Rattle.td_frames.specs.declared.error.FrameError.TheVariants.{Cut}
use Rattle.td_frames.specs.declared.version.Version.{Version}
use Rattle.td_frames.specs.declared.version.Version.TheVariants.{Second}
use Rattle.td_replica.specs.Seen.{Seen, IsSound}
use Rattle.td_replica.specs.declared.calls.Taken.{Taken}
use Rattle.td_meeting.specs.Steps.{Answered, Finished, Greeted, LinkData, Settled}
use Rattle.td_meeting.specs.Writing.{Greets}
use Rattle.td_meeting.specs.declared.error.MeetingError.TheVariants.{Frame}
use Rattle.td_agreement.specs.Interleaved.{Arrives}
use Rattle.td_agreement.specs.Progress.{TakesSome}

-- A front of the bytes of a stream is read as a front of its entries, which has those whose frames are whole, and as a
-- cut stream where bytes lack.
abbrev pub CutStreamIsFront : Type 0
CutStreamIsFront =
    (v : Version) (most : ℕ) (xs es : List Entry) (bytes rest : List ℕ) (ending : Result (List ℕ) Miss)
    → length xs ≤ most → AllByRecursion (HasFrame v) xs → bytes ++ rest ≡ stream v xs
    → entries_at v most bytes ≡ (es, ending) → (es ≡ take (length es) xs) × (rest ≢ [] → ending ≡ Err short)
    × ((n : ℕ) (part : List ℕ) → n ≤ length xs → bytes ≡ entry_frames v (take n xs) ++ part → n ≤ length es)

-- what a site sends after a version vector, of the entries that pass a test
abbrev pub kept_after : (Entry → Bool) → VersionVector → Seen → List Entry
kept_after keep v t = filter keep (after_vector v t.entries)

-- the site takes a front of what the other one sends it, of which so many entries are new
abbrev pub GainsSome : (Entry → Bool) → Seen → Seen → ℕ → Seen → Type 0
GainsSome keep s t fresh after = (gains : Taken) × TakesSome keep s t gains after × (fresh ≡ gains.fresh)

-- nothing was taken, or a front of what the other one sends
abbrev pub GainsAtMost : (Entry → Bool) → Seen → Seen → ℕ → Seen → Type 0
GainsAtMost keep s t fresh after = ((after ≡ s) × (fresh ≡ 0)) ⊎ GainsSome keep s t fresh after

-- Where a front of what another site sends by the site's version vector comes to `finish`, and that tells which field
-- of a frame it misses, the site took a front of the entries.
abbrev pub CutFinishTakesSome : Type 0
CutFinishTakesSome =
    (keep : Entry → Bool) (s t : Seen) (v : VersionVector) (came lost : List ℕ) (rest : Option (List ℕ))
    (e : FrameError) (old new fresh : ℕ) (after : Seen) → IsSound t → IsVector s.entries v
    → AllByRecursion (HasFrame Second) (kept_after keep v t)
    → came ++ lost ≡ stream Second (kept_after keep v t)
    → Finished s (Some came) rest old new (Err (Frame e fresh)) after → GainsSome keep s t fresh after

-- an entry of what is sent, whose frame is whole in these bytes
abbrev pub ComesWhole : (Entry → Bool) → VersionVector → Seen → List ℕ → Entry → Type 0
ComesWhole keep v t came x =
    (n : ℕ) × (part : List ℕ) × (came ≡ entry_frames Second (take n (kept_after keep v t)) ++ part)
    × (has (take n (kept_after keep v t)) x ≡ true)

-- Where the bytes just ended, and no read failed, the site then holds each entry that came whole.
abbrev pub CutFinishLosesNone : Type 0
CutFinishLosesNone =
    (keep : Entry → Bool) (s t : Seen) (v : VersionVector) (came lost : List ℕ) (rest : Option (List ℕ))
    (old new fresh : ℕ) (after : Seen) (x : Entry) → IsSound s → IsSound t
    → AllByRecursion (HasFrame Second) (kept_after keep v t) → came ++ lost ≡ stream Second (kept_after keep v t)
    → ComesWhole keep v t came x → Finished s (Some came) rest old new (Err (Frame Cut fresh)) after
    → has after.entries x ≡ true

-- And where a front of the greeting and of what is sent behind it comes to `settle`, the site took nothing or that.
abbrev pub CutSettleTakesSome : Type 0
CutSettleTakesSome =
    (keep : Entry → Bool) (s t : Seen) (v : VersionVector) (own came lost : List ℕ) (old new : LinkData)
    (e : FrameError) (fresh : ℕ) (after : Seen) → IsSound t → IsVector s.entries v → Greets t own
    → AllByRecursion (HasFrame Second) (kept_after keep v t) → old.left ≡ Some came
    → came ++ lost ≡ own ++ stream Second (kept_after keep v t)
    → Settled s old (Err (Frame e fresh)) new after → GainsAtMost keep s t fresh after

-- Where the greeting came whole before the bytes just ended, `settle` so leaves the site with each entry that did.
abbrev pub CutSettleLosesNone : Type 0
CutSettleLosesNone =
    (keep : Entry → Bool) (s t : Seen) (v : VersionVector) (own came more lost : List ℕ) (old new : LinkData)
    (fresh : ℕ) (after : Seen) (x : Entry) → IsSound s → IsSound t → Greets t own
    → AllByRecursion (HasFrame Second) (kept_after keep v t) → old.left ≡ Some came → came ≡ own ++ more
    → more ++ lost ≡ stream Second (kept_after keep v t) → ComesWhole keep v t more x
    → Settled s old (Err (Frame Cut fresh)) new after → has after.entries x ≡ true

-- ---- the steps

-- of what a step wrote to its link, behind what was there, a front comes over another link, and the rest is lost
pub record ArrivesCut (old new other : LinkData) : Type 0 where
  pub before : List ℕ
  pub came : List ℕ
  pub lost : List ℕ
  pub was_held : old.held ≡ Some before
  pub is_held : new.held ≡ Some (before ++ (came ++ lost))
  pub comes : other.left ≡ Some came

-- Two sites meet by the first three steps, with no other call between those of a site: what the second one answers is
-- cut on its way, and `settle` tells which field of a frame it misses. The links are told in the order of the steps.
pub record MeetUntilCutAnswer (s t : Seen) (e : FrameError) (fresh : ℕ) (after : Seen) : Type 0 where
  pub links : ℕ → LinkData
  pub greeted : Greeted s (links 0) (Ok tt) (links 1)
  pub greeting : Arrives (links 0) (links 1) (links 2)
  pub answered : Answered t (links 2) (Ok tt) (links 3)
  pub answer : ArrivesCut (links 2) (links 3) (links 4)
  pub settled : Settled s (links 4) (Err (Frame e fresh)) (links 5) after

-- Two sites meet by the four steps, with no other call between those of a site: what the first one sends back is cut on
-- its way, and `finish` tells which field of a frame it misses.
pub record MeetUntilCutReply (s t : Seen) (gains : Taken) (e : FrameError) (fresh : ℕ) (after other : Seen)
    : Type 0 where
  pub links : ℕ → LinkData
  pub greeted : Greeted s (links 0) (Ok tt) (links 1)
  pub greeting : Arrives (links 0) (links 1) (links 2)
  pub answered : Answered t (links 2) (Ok tt) (links 3)
  pub answer : Arrives (links 2) (links 3) (links 4)
  pub settled : Settled s (links 4) (Ok gains) (links 5) after
  pub reply : ArrivesCut (links 4) (links 5) (links 6)
  pub finished :
      Finished t (links 6).left (links 7).left (links 6).failures (links 7).failures (Err (Frame e fresh)) other

abbrev pub every : Entry → Bool
every e = true

-- the first site stays as it was, or takes a front of what the second one sends it
abbrev pub CutAnswerTakesSome : Type 0
CutAnswerTakesSome =
    (s t after : Seen) (e : FrameError) (fresh : ℕ) → IsSound t → MeetUntilCutAnswer s t e fresh after
    → GainsAtMost every s t fresh after

-- the second site takes a front of what the first one, as it is then, sends it
abbrev pub CutReplyTakesSome : Type 0
CutReplyTakesSome =
    (s t after other : Seen) (gains : Taken) (e : FrameError) (fresh : ℕ) → IsSound s
    → MeetUntilCutReply s t gains e fresh after other → GainsSome every t after fresh other
