use Rattle.std.proofs.Common.{All, take}
use Rattle.td_accesses.specs.ForProofs.Growing.{IsElsewhere}
use Rattle.td_accesses.proofs.links.refer_elsewhere.Given as goal

abbrev pub invariant-loop-reference : goal.invariant-loop-reference
invariant-loop-reference l = All (IsElsewhere l.relvar l.links l.relation) (take l.reference-index l.references)
