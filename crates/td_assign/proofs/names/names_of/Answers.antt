use Rattle.std.proofs.Common.{List, ℕ, ◌++◌, subst, ◌∙◌}
use Rattle.td_assign.specs.ForProofs.Names.{Gathers, ReadsWith}
use Rattle.td_assign.proofs.Naming.{footprint_those}
use Rattle.td_assign.proofs.names.names_of.Goals as goal

pub returns-clause-footprint : goal.returns-clause-footprint
returns-clause-footprint c =
    let k = c.args.catalogue.now in
    let x = c.args.statement.now in
    let ts = c.in_ok-targets.targets.items in
    let needed = c.in_ok-needed.needed.items in
    let gathers = subst (λ (ns : List ℕ). Gathers (ReadsWith k ns) k.tests needed) c.deref-2.ensures.value c.in_ok-needed.ensures.places in
    let begun = c.in_ok-places.ensures.items ∙ c.deref.ensures.value in
    footprint_those k x c.requires c.in_ok-needed.ensures.defined ts needed c.in_ok-targets.ensures gathers c.in_order-footprint.result.items c.append-3.new.self.items
    (c.in_ok-append-3.ensures.items ∙ (λ i. (c.in_ok-append-2.ensures.items ∙ (λ j. (c.in_ok-append.ensures.items ∙ (λ l. begun l ++ needed)) j ++ c.in_ok-decides.ensures j)) i ++ c.in_ok-read.ensures i)) c.in_order-footprint.ensures
