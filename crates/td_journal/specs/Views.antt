-- What a keeper is seen as: the site that it keeps, the writer of its journal, and whether this has not failed. A
-- journal is seen as its writer.
use Rattle.std.specs.Prelude.{◌≡◌, ◌⊎◌, Bool, ◌&&◌}
use Rattle.td_io.specs.Counted.{counted}
use Rattle.td_io.specs.declared.streams.Sink as sink
use Rattle.td_replica.specs.Seen.{Seen}
use Rattle.td_replica.specs.declared.replica.Replica as replica

pub record KeeperData (R W : Type 0) : Type 0 where
  pub replica : R
  pub writer : W
  pub is_open : Bool

-- it is open while its site is and its journal has not failed
abbrev pub kept : Bool → Seen → Seen
kept is_open s = record { script = s.script; site = s.site; limit = s.limit; entries = s.entries; live = is_open && s.live }

abbrev pub seen_of : {R W : Type 0} → replica.Ghosts R → KeeperData R W → Seen
seen_of site k = kept k.is_open (site.seen k.replica)

-- its own writer has counted a failure, or the journal of a keeper within has failed
abbrev pub JournalFails : {R W : Type 0} → replica.Ghosts R → sink.Ghosts W → KeeperData R W → KeeperData R W → Type 0
JournalFails site writer old new = (writer.faults new.writer ≡ counted (writer.faults old.writer)) ⊎ site.failed old.replica new.replica
