-- Words that only proofs and private functions use.
use Rattle.std.specs.Prelude.{◌≡◌, ◌<◌, ◌≤◌, ℕ, true, List, ◌++◌, length, Option, Result, Ok, Err}
use Rattle.std.specs.FinMap as by_site
use Rattle.std.specs.Io.KnownBytes.{IsAtEnd}
use Rattle.td_io.specs.Counted.{counted}
use Rattle.td_stamps.specs.Vectors.{VersionVector}
use Rattle.td_frames.specs.Reading.{Miss, ToldErr, number_at, site_at, then_at}
use Rattle.td_frames.specs.declared.error.FrameError.{FrameError}
use Rattle.td_frames.specs.declared.error.FrameError.TheVariants.{OutOfMemory, ReadFault, Cut}

-- no site of the vector comes after this one
abbrev pub AreAtMost : ℕ → VersionVector → Type 0
AreAtMost last v = (s : ℕ) → by_site.contains_key v s ≡ true → s ≤ last

-- a site after the last one and its number, and the vector with them
abbrev pub place_at : ℕ → VersionVector → List ℕ → Result ((ℕ × VersionVector) × List ℕ) Miss
place_at last v bytes = then_at (site_at last bytes) (λ s rest. then_at (number_at rest) (λ n more. Ok ((s, by_site.insert v s n), more)))

abbrev pub PlaceRead : ℕ → VersionVector → List ℕ → Result ℕ FrameError → VersionVector → Option (List ℕ) → ℕ → ℕ → Type 0
PlaceRead last v bytes (Ok s) after left old new = ((more : List ℕ) → place_at last v (bytes ++ more) ≡ Ok ((s, after), more)) × AreAtMost s after × (new ≡ old)
PlaceRead last v bytes (Err e) after left old new = ToldErr e (place_at last v bytes) left old new

-- a field of so many bytes wasn't there whole, or there was no memory for it
abbrev pub Unfilled : FrameError → ℕ → List ℕ → Option (List ℕ) → ℕ → ℕ → Type 0
Unfilled OutOfMemory count bytes left old new = new ≡ old
Unfilled ReadFault count bytes left old new = (length bytes < count) × (new ≡ counted old)
Unfilled Cut count bytes left old new = (length bytes < count) × IsAtEnd left × (new ≡ old)
Unfilled e count bytes left old new = ⊥
