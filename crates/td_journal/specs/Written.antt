-- What a call wrote to a journal: all of some bytes, of which a failure counts and leaves a front.
use Rattle.std.specs.Prelude.{◌≡◌, ℕ, true, List}
use Rattle.std.specs.Io.KnownBytes.{Appends}
use Rattle.td_io.specs.Counted.{counted}
use Rattle.td_io.specs.Streams.{AppendsFront}
use Rattle.td_io.specs.Views.{Output}

-- all of them, and no failure was counted
abbrev pub WritesAll : Output → Output → List ℕ → Type 0
WritesAll old new bytes = Appends old.held new.held bytes × (new.faults ≡ old.faults)

-- and they were handed on
abbrev pub HandsOn : Output → Output → List ℕ → Type 0
HandsOn old new bytes = WritesAll old new bytes × (new.is_flushed ≡ true)

-- a front of them, and a failure was counted
abbrev pub WritesPart : Output → Output → List ℕ → Type 0
WritesPart old new bytes = AppendsFront old.held new.held bytes × (new.faults ≡ counted old.faults)
