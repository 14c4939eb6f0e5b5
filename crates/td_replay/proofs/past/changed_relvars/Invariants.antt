use Rattle.std.proofs.Common.{◌≡◌, take}
use Rattle.std.specs.List.{filter}
use Rattle.td_replay.specs.ForProofs.Past.{is_changed_in}
use Rattle.td_replay.proofs.past.changed_relvars.Given as goal

abbrev pub invariant-loop-relvar : goal.invariant-loop-relvar
invariant-loop-relvar l = l.changed.items ≡ filter (is_changed_in l.log) (take l.relvar-index l.relvars)
