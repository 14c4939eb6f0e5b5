-- What every site keeps to.
use Rattle.std.proofs.Common.{◌≤◌, length}
use Rattle.td_replica.specs.Seen.{Seen, IsSound}

pub script_is_short : (s : Seen) → IsSound s → length s.script ≤ 65536
script_is_short s is = is.told.1.opens.script.reads.short
