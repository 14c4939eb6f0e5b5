use Rattle.std.proofs.Common.{◌≡◌, ◌+◌, ◌-◌, ◌<◌, ◌^◌, drop}
use Rattle.td_relations.specs.ForProofs.Abbreviations.{number_of}
use Rattle.td_relations.proofs.abbreviations.number_of.Given as goal

abbrev pub invariant-loop-at : goal.invariant-loop-at
invariant-loop-at l = record {
  small : l.number < 257 ^ (l.at - l.from);
  spells : number_of l.number (l.from + 7 - l.at) (drop l.at l.bytes) ≡ number_of 0 7 (drop l.from l.bytes);
}
