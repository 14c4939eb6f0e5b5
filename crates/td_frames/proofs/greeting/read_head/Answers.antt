use Rattle.std.proofs.Common.{ℕ, List, ◌++◌, Result, Err}
use Rattle.std.proofs.KnownBytes.{Consumes-trans}
use Rattle.td_frames.specs.Reading.{Miss, magic_at, version_at, site_at, then_at}
use Rattle.td_frames.proofs.InTurn.{reads_then, told_then}
use Rattle.td_frames.proofs.greeting.read_head.Goals as goal

abbrev site_then : Unit {0} → List ℕ → Result (ℕ × List ℕ) Miss
site_then u c = site_at 0 c

abbrev version_then : Unit {0} → List ℕ → Result (ℕ × List ℕ) Miss
version_then u b = then_at (version_at b) site_then

pub returns-in-Err-clause-told : goal.returns-in-Err-clause-told
returns-in-Err-clause-told g c =
    let (bytes, taken, told) = c.in-Err.ensures.told in
    (bytes, taken, told_then c.in-Err.e (magic_at bytes) version_then _ _ _ told)

pub returns-in-Err-read_version-clause-told : goal.returns-in-Err-read_version-clause-told
returns-in-Err-read_version-clause-told g c =
    let (first, taken, told) = c.in-Ok.ensures.told in
    let (second, more, rest) = c.in-Err-read_version.ensures.told in (
      first ++ second,
      Consumes-trans _ _ _ _ _ taken more,
      reads_then magic_at version_then tt first second (Err c.in-Err-read_version.e) _ _ _ _ told.0 told.1 (told_then c.in-Err-read_version.e (version_at second) site_then _ _ _ rest),
    )

pub returns-clause-told : goal.returns-clause-told
returns-clause-told g c =
    let (first, taken, told) = c.in-Ok.ensures.told in
    let (second, more, versions) = c.in-Ok-read_version.ensures.told in
    let (third, last, rest) = c.read_site.ensures.told in
    let after = reads_then version_at site_then tt second third c.read_site.result (g.S.Source.left c.read_site.new.source) (g.S.Source.failures c.read_magic.new.source) _ _ versions.0 versions.1 rest in (
      first ++ (second ++ third),
      Consumes-trans _ _ _ _ _ taken (Consumes-trans _ _ _ _ _ more last),
      reads_then magic_at version_then tt first (second ++ third) c.read_site.result _ _ _ _ told.0 told.1 after,
    )
