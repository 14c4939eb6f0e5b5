use Rattle.std.proofs.Common.{List, subst}
use Rattle.td_headings.specs.declared.defined.Test.{Test}
use Rattle.td_accesses.specs.ForProofs.Growing.{HasKey}
use Rattle.td_accesses.proofs.Depending.{suited}
use Rattle.td_accesses.proofs.accesses.suits.Goals as goal

pub returns-then-own : goal.returns-then-own
returns-then-own c = λ has.
    let n = c.args.relvar in
    suited c.args.catalogue.now c.args.dependencies.now.relvars.items n c.in-Some.own.now c.requires c.in-Some.ensures c.if-own.true (subst (λ (ts : List Test). HasKey ts n) c.tests.ensures.tests (c.has_key.ensures has))
