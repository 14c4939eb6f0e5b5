use Rattle.std.proofs.Common.{◌≡◌, None, drop}
use Rattle.std.specs.Option.{option_copied}
use Rattle.td_schema.specs.ForProofs.Latest.{latest}
use Rattle.td_schema.proofs.scope.latest_kind.Given as goal

abbrev pub invariant-loop-named : goal.invariant-loop-named
invariant-loop-named l = latest l.names l.name None ≡ latest (drop l.named-index l.names) l.name (option_copied l.found)
