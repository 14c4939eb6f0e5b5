use Rattle.std.proofs.Common.{subst}
use Rattle.td_relations.specs.ForProofs.Places.{AreAbove, AreBelow}
use Rattle.td_relations.specs.Sets.{IsAt}
use Rattle.td_relations.proofs.Between.{over_ascends, over_members}
use Rattle.td_relations.proofs.places.exchange_one.Goals as goal

pub returns-in-Some-clause-ascending : goal.returns-in-Some-clause-ascending
returns-in-Some-clause-ascending c =
    let same = c.deref.ensures.value in
    let at = subst (λ ts. IsAt ts c.args.gone.now c.in-Some.at) same c.in-Some.ensures.is in
    let below = subst (λ ts. AreBelow ts c.in-Some.at c.args.more) same c.in-Some.ensures.below in
    let above = subst (λ ts. AreAbove ts c.in-Some.at c.args.more) same c.in-Some.ensures.above in
    over_ascends c.args.tuples.now.items c.in-Some.at c.args.gone.now c.args.more c.requires.ascends at.in_range below above

pub returns-in-Some-clause-members : goal.returns-in-Some-clause-members
returns-in-Some-clause-members c =
    let at = subst (λ ts. IsAt ts c.args.gone.now c.in-Some.at) c.deref.ensures.value c.in-Some.ensures.is in
    over_members c.args.tuples.now.items c.in-Some.at c.args.gone.now c.args.more c.requires.ascends at.in_range at.is
