-- What a run has read of its input, and why it reads no more; what it has written.
use Rattle.std.specs.Prelude.{◌≡◌, ◌⊎◌, ℕ, ◌-◌, ◌^◌, true, List, length}
use Rattle.std.specs.Io.KnownBytes.{Appends, Consumes}
use Rattle.td_io.specs.Counted.{counted}
use Rattle.td_io.specs.Views.{Input, Output}

-- the bytes were read, and no failure was counted
abbrev pub ReadsBytes : List ℕ → Input → Input → Type 0
ReadsBytes bytes from after = Consumes from.left after.left bytes × (after.failures ≡ from.failures)

-- the most reads that a run makes; each gives one byte
abbrev pub most_reads : ℕ
most_reads = 2 ^ 64 - 1

-- how many of the reads are left behind the bytes
abbrev pub reads_left : List ℕ → ℕ
reads_left bytes = most_reads - length bytes

-- the bytes were read, and then a failure was counted, or no reads were left
abbrev pub ReadsNoMore : ℕ → List ℕ → Input → Input → Type 0
ReadsNoMore spare bytes from after =
    Consumes from.left after.left bytes × ((after.failures ≡ counted from.failures) ⊎ ((after.failures ≡ from.failures) × (spare ≡ 0)))

-- all of the text was written
abbrev pub AppendsText : List ℕ → Output → Output → Type 0
AppendsText text w after = Appends w.held after.held text × (after.faults ≡ w.faults)

-- all of the text was written, and where what was written before had been handed on, so has this
abbrev pub WritesText : List ℕ → Output → Output → Type 0
WritesText text w after = Appends w.held after.held text × (after.faults ≡ w.faults) × (w.is_flushed ≡ true → after.is_flushed ≡ true)

-- all of the text was written, and the writer failed as it was to be handed on
abbrev pub HandsOnNot : List ℕ → Output → Output → Type 0
HandsOnNot text w after = Appends w.held after.held text × (after.faults ≡ counted w.faults)
