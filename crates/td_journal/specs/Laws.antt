-- The laws of journals, which hold in each version.
use Rattle.std.specs.Prelude.{◌≡◌, ℕ, ◌-◌, ◌≤◌, nat_lt, List, [], ◌∷◌, length, take, Ok, if◌then◌else◌}
use Rattle.std.specs.List.{AllByRecursion}
use Rattle.td_stamps.specs.declared.entry.Entry.{Entry}
use Rattle.td_frames.specs.Reading.{most_entries}
use Rattle.td_frames.specs.Spelling.{HasFrame, entry_frame}
use Rattle.td_frames.specs.declared.version.Version.{Version}
use Rattle.td_frames.specs.declared.version.Version.TheVariants.{Second}
use Rattle.td_journal.specs.Spelling.{header, journal}
use Rattle.td_journal.specs.Reading.{JournalContents, journal_at}

-- the entries whose frames stand whole within so many bytes
abbrev pub whole : Version → List Entry → ℕ → List Entry
whole v [] k = []
whole v (e ∷ es) k = if nat_lt k (length (entry_frame v e)) then [] else e ∷ whole v es (k - length (entry_frame v e))

-- what is left of a journal that is cut after so many bytes: nothing, where that is inside its header, and else the
-- entries whose frames stand whole; and how many bytes the header and these frames have
abbrev pub left_of : Version → ℕ → List ℕ → List Entry → ℕ → JournalContents
left_of v site script es k =
    if nat_lt k (length (header v site script)) then ([], 0, Second)
    else (whole v es (k - length (header v site script)), length (journal v site script (whole v es (k - length (header v site script)))), v)

-- a journal that is cut, after whatever byte, is read as what is left of it
abbrev pub CutJournalIsRead : Type 0
CutJournalIsRead =
    (v : Version) (site : ℕ) (script : List ℕ) (es : List Entry) (k : ℕ) → length es ≤ most_entries → AllByRecursion (HasFrame v) es
    → journal_at site script (take k (journal v site script es)) ≡ Ok (left_of v site script es k)

-- one that is not cut is read whole
abbrev pub JournalIsReadAgain : Type 0
JournalIsReadAgain =
    (v : Version) (site : ℕ) (script : List ℕ) (es : List Entry) → length es ≤ most_entries → AllByRecursion (HasFrame v) es
    → journal_at site script (journal v site script es) ≡ Ok (es, length (journal v site script es), v)
