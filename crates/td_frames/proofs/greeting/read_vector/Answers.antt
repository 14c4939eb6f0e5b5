use Rattle.std.proofs.Common.{◌++◌}
use Rattle.std.proofs.KnownBytes.{Consumes-trans}
use Rattle.std.specs.FinMap as by_site
use Rattle.td_frames.specs.Reading.{count_at, sites_at}
use Rattle.td_frames.proofs.InTurn.{reads_then, told_then}
use Rattle.td_frames.proofs.greeting.read_vector.Goals as goal

pub returns-in-Ok-clause-told : goal.returns-in-Ok-clause-told
returns-in-Ok-clause-told g c =
    let (first, taken, told) = c.in-Ok.ensures.told in
    let (second, more, rest) = c.read_places.ensures.told in
    (first ++ second, Consumes-trans _ _ _ _ _ taken more, reads_then count_at (λ k b. sites_at k 0 by_site.empty b) c.in-Ok.count first second c.read_places.result _ _ _ _ told.0 told.1 rest)

pub returns-in-Err-clause-told : goal.returns-in-Err-clause-told
returns-in-Err-clause-told g c =
    let (bytes, taken, told) = c.in-Err.ensures.told in
    (bytes, taken, told_then c.in-Err.e (count_at bytes) (λ k b. sites_at k 0 by_site.empty b) _ _ _ told)
