-- What the extents say of greetings and streams.
use Rattle.std.specs.Prelude.{◌≡◌, ◌+◌, ◌<◌, ◌≤◌, ℕ, List, ◌++◌, length, Ok, Err}
use Rattle.std.specs.List.{AllByRecursion}
use Rattle.std.specs.FinMap as by_site
use Rattle.td_stamps.specs.declared.entry.Entry.{Entry}
use Rattle.td_stamps.specs.Vectors.{VersionVector}
use Rattle.td_frames.specs.declared.greeting.Greeting.{Greeting}
use Rattle.td_frames.specs.declared.version.Version.TheVariants.{Second}
use Rattle.td_frames.specs.Spelling.{HasFrame, HasGreeting, greeting_frame, stream}
use Rattle.td_frames.specs.Reading.{bad, entries_at, greeting_at, most_entries}
use Rattle.td_stream_bounds.specs.declared.extent.Extent.TheVariants.{Open, Whole, Never}
use Rattle.td_stream_bounds.specs.Extents.{greeting_extent, stream_extent}

-- ---- greetings

-- one that is written reaches to its end, whatever follows
abbrev pub GreetingsAreFound : Type 0
GreetingsAreFound = (site : ℕ) (script : List ℕ) (v : VersionVector) (more : List ℕ) → HasGreeting site script v
    → greeting_extent (greeting_frame site script (by_site.entries v) ++ more) ≡ Whole (length (greeting_frame site script (by_site.entries v)))

-- of one that is written each proper front is open
abbrev pub FrontsOfGreetingsAreOpen : Type 0
FrontsOfGreetingsAreOpen = (site : ℕ) (script : List ℕ) (v : VersionVector) (front rest : List ℕ) → HasGreeting site script v
    → front ++ rest ≡ greeting_frame site script (by_site.entries v) → 0 < length rest → greeting_extent front ≡ Open

-- Never: none that is read begins so, whatever follows
abbrev pub NoGreetingFollows : Type 0
NoGreetingFollows = (bytes more rest : List ℕ) (g : Greeting) → greeting_extent bytes ≡ Never → greeting_at (bytes ++ more) ≡ Ok (g, rest) → ⊥

-- ---- streams of entries, of which these are the bytes from an offset on

-- one that is written reaches to its end, whatever follows
abbrev pub EntriesAreFound : Type 0
EntriesAreFound = (at : ℕ) (es : List Entry) (more : List ℕ) → length es ≤ most_entries → AllByRecursion (HasFrame Second) es
    → stream_extent most_entries at (stream Second es ++ more) ≡ Whole (at + length (stream Second es))

-- of one that is written each proper front is open
abbrev pub FrontsOfEntriesAreOpen : Type 0
FrontsOfEntriesAreOpen = (at : ℕ) (es : List Entry) (front rest : List ℕ) → length es ≤ most_entries → AllByRecursion (HasFrame Second) es
    → front ++ rest ≡ stream Second es → 0 < length rest → stream_extent most_entries at front ≡ Open

-- Never: its reader refuses it for the value of a field, whatever follows
abbrev pub NoStreamFollows : Type 0
NoStreamFollows = (at : ℕ) (bytes more : List ℕ) → stream_extent most_entries at bytes ≡ Never → (entries_at Second most_entries (bytes ++ more)).1 ≡ Err bad
