use Rattle.std.proofs.Common.{◌≡◌, take}
use Rattle.std.specs.List.{filter}
use Rattle.td_incremental.specs.ForProofs.Referring.{is_shared}
use Rattle.td_incremental.proofs.references.shared_names.Given as goal

abbrev pub invariant-loop-name : goal.invariant-loop-name
invariant-loop-name l = l.shared.items ≡ filter (is_shared l.one l.other l.others) (take l.name-index l.names)
