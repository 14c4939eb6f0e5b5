-- What a site writes to another one.
use Rattle.std.specs.Prelude.{◌≡◌, ℕ, List}
use Rattle.std.specs.FinMap as by_site
use Rattle.td_stamps.specs.Vectors.{VersionVector, IsVector, after_vector}
use Rattle.td_frames.specs.Spelling.{HasGreeting, greeting_frame, stream}
use Rattle.td_frames.specs.declared.version.Version.TheVariants.{Second}
use Rattle.td_replica.specs.Seen.{Seen}

-- its greeting: its number, its script, and its version vector
pub record Greets (s : Seen) (bytes : List ℕ) : Type 0 where
  pub vector : VersionVector
  pub is : IsVector s.entries vector
  pub has : HasGreeting s.site s.script vector
  pub spelled : bytes ≡ greeting_frame s.site s.script (by_site.entries vector)

-- what it holds after a version vector, in stamp order, and the end
abbrev pub sends : Seen → VersionVector → List ℕ
sends s v = stream Second (after_vector v s.entries)
