use Rattle.std.proofs.Common.{List, sym, subst}
use Rattle.td_algebra.specs.KeyIndexes.{KeyIndexData}
use Rattle.td_accesses.specs.ForProofs.Growing.{AreLinked}
use Rattle.td_accesses.proofs.Growing.{linked_more}
use Rattle.td_accesses.proofs.links.link_by.Goals as goal

pub returns-in_ok-push : goal.returns-in_ok-push
returns-in_ok-push c = λ linked.
    let s = c.args.relation.now in
    subst (AreLinked s) (sym {A = List KeyIndexData} c.in_ok-push.ensures.items) (linked_more c.args.names.now s c.args.links.now.items c.in_ok-new.field-0 c.in_ok-new.ensures linked)
