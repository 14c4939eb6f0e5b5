use Rattle.std.proofs.Common.{◌≡◌, ◌++◌, take, string_bytes}
use Rattle.std.specs.List.{flat_map}
use Rattle.td_listings.specs.Texts as spec
use Rattle.td_listings.proofs.listings.show_refused.Given as goal

abbrev pub invariant-loop-told : goal.invariant-loop-told
invariant-loop-told l = string_bytes l.out ≡ string_bytes l.initial.out ++ flat_map spec.refused_line (take l.told-index l.outcomes)
