-- The laws of frames.
use Rattle.std.specs.Prelude.{◌≡◌, ◌<◌, ◌≤◌, ℕ, List, ◌++◌, length, Some, Ok, slice_index}
use Rattle.std.specs.List.{AllByRecursion}
use Rattle.std.specs.FinMap as by_site
use Rattle.td_stamps.specs.declared.entry.Entry.{Entry}
use Rattle.td_stamps.specs.Vectors.{VersionVector}
use Rattle.td_frames.specs.declared.greeting.Greeting.{Greeting}
use Rattle.td_frames.specs.declared.version.Version.{Version}
use Rattle.td_frames.specs.Spelling.{HasFrame, HasGreeting, entry_frame, greeting_frame, stream}
use Rattle.td_frames.specs.Reading.{entries_at, frame_at, greeting_at}

abbrev pub FrameIsReadAgain : Type 0
FrameIsReadAgain = (v : Version) (e : Entry) (more : List ℕ) → HasFrame v e → frame_at v (entry_frame v e ++ more) ≡ Ok (Some e, more)

-- numbers that are bytes
abbrev pub AreBytes : List ℕ → Type 0
AreBytes bs = (i : ℕ) → slice_index bs i < 256

-- what is read as an entry was spelled so
abbrev pub FrameWasSpelled : Type 0
FrameWasSpelled = (v : Version) (bytes rest : List ℕ) (e : Entry) → AreBytes bytes → frame_at v bytes ≡ Ok (Some e, rest) → bytes ≡ entry_frame v e ++ rest

-- a greeting that is written is read, whatever follows
abbrev pub GreetingIsReadAgain : Type 0
GreetingIsReadAgain = (site : ℕ) (script : List ℕ) (v : VersionVector) (more : List ℕ) → HasGreeting site script v
    → greeting_at (greeting_frame site script (by_site.entries v) ++ more) ≡ Ok (record { site = site; script = script; vector = v }, more)

-- what is read as a greeting was spelled so
abbrev pub GreetingWasSpelled : Type 0
GreetingWasSpelled = (bytes rest : List ℕ) (g : Greeting) → AreBytes bytes → greeting_at bytes ≡ Ok (g, rest) → bytes ≡ greeting_frame g.site g.script (by_site.entries g.vector) ++ rest

-- a stream of entries that is written is read, whatever follows, where no more than so many entries are allowed
abbrev pub StreamIsReadAgain : Type 0
StreamIsReadAgain = (v : Version) (most : ℕ) (es : List Entry) (more : List ℕ) → length es ≤ most → AllByRecursion (HasFrame v) es → entries_at v most (stream v es ++ more) ≡ (es, Ok more)
