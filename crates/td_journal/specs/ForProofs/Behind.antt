-- What a keeper writes that goes on behind so many bytes: nothing, or the journal's beginning where there are none.
use Rattle.std.specs.Prelude.{◌≡◌, ℕ, zero, suc}
use Rattle.td_io.specs.Views.{Output, output_of}
use Rattle.td_io.specs.declared.streams.Sink as sink
use Rattle.td_replica.specs.Seen.{Seen}
use Rattle.td_journal.specs.Keeping.{Starts, StartsNot}
use Rattle.td_journal.specs.declared.keeper.StartError.TheVariants.{WriteFault}

abbrev pub IsBehind : ℕ → Seen → Output → Output → Type 0
IsBehind zero s cut w = Starts s cut w
IsBehind (suc n) s cut w = w ≡ cut

-- there are none, and what was to be begun was not written: the writer has counted a failure
abbrev pub BeginsNone : {W : Type 0} → sink.Ghosts W → ℕ → Seen → W → Type 0
BeginsNone {W} writer n s cut = (n ≡ 0) × (w : W) × StartsNot s WriteFault (output_of writer cut) (output_of writer w)
