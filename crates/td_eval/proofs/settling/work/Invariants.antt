use Rattle.td_meaning.specs.Parts.{AreRight}
use Rattle.td_eval.proofs.settling.work.Given as goal

abbrev pub invariant-loop : goal.invariant-loop
invariant-loop l = AreRight l.env l.findings.parts.items
