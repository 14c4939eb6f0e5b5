use Rattle.td_accesses.specs.ForProofs.Growing.{AreLinked}
use Rattle.td_accesses.proofs.links.referring_links.Given as goal

abbrev pub invariant-loop-own : goal.invariant-loop-own
invariant-loop-own l = AreLinked l.relation l.links.items
