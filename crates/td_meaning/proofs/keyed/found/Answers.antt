use Rattle.std.proofs.Common.{List, ℕ, subst}
use Rattle.td_values.specs.Headings.{Header}
use Rattle.td_meaning.specs.ForProofs.Pinned.{ArePinned}
use Rattle.td_meaning.proofs.Pinning.{narrows}
use Rattle.td_meaning.proofs.keyed.found.Goals as goal

pub returns-in_ok-found-in-Some : goal.returns-in_ok-found-in-Some
returns-in_ok-found-in-Some c =
    let r = c.args.relation.now in
    let cs = c.args.checks.now in
    let x = c.args.index.now in
    let fs = c.in-Some.values.items in
    let pinned = rw c.in-Some.is at c.in_ok-values.ensures in
    let are = subst (λ (h : Header). ArePinned h cs x.key fs) c.heading.ensures (subst (λ (key : List (List ℕ)). ArePinned c.heading.result.now cs key fs) c.key.ensures pinned) in
    narrows r cs x fs c.in_ok-sought-in-Some.sought c.in_ok-found-in-Some.field-0 c.rows_fit.ensures c.requires are c.in_ok-sought-in-Some.ensures c.in_ok-found-in-Some.ensures
