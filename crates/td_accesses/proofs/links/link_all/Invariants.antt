use Rattle.td_accesses.specs.ForProofs.Growing.{AreLinked}
use Rattle.td_accesses.proofs.links.link_all.Given as goal

abbrev pub invariant-loop-reference : goal.invariant-loop-reference
invariant-loop-reference l = AreLinked l.relation l.initial.links.items → AreLinked l.relation l.links.items
