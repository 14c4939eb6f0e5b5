use Rattle.std.proofs.Common.{drop}
use Rattle.td_semantics.proofs.Defining.{Walked}
use Rattle.td_semantics.proofs.catalogue.define_all.Given as goal

abbrev pub invariant-loop-definition : goal.invariant-loop-definition
invariant-loop-definition l = Walked l.definitions (drop l.definition-index l.definitions) l.catalogue
