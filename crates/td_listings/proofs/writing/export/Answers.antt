use Rattle.std.proofs.Common.{refl}
use Rattle.td_listings.proofs.writing.export.Goals as goal

pub returns-in-Err-OutOfMemory-clause-writes : goal.returns-in-Err-OutOfMemory-clause-writes
returns-in-Err-OutOfMemory-clause-writes g c = let history = c.history_is_sound.ensures.told.1 in (history.opening.catalogue, history.opens.script, refl)
