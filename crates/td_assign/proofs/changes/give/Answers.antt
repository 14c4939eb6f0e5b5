use Rattle.std.proofs.Common.{position, ap, sym, ◌∙◌}
use Rattle.td_assign.specs.ForProofs.Given.{is_target}
use Rattle.td_assign.proofs.Giving.{put_behind, put_found}
use Rattle.td_assign.proofs.changes.give.Goals as goal

pub returns-in-Some : goal.returns-in-Some
returns-in-Some c =
    let n = c.args.target in
    let xs = c.args.changes.now.items in
    put_found n c.args.relation xs c.in-Some.at (sym (ap (position (is_target n)) c.deref.ensures.value) ∙ sym c.place_of.ensures ∙ c.in-Some.is)

pub returns-in_ok-push-in-None : goal.returns-in_ok-push-in-None
returns-in_ok-push-in-None c =
    let n = c.args.target in
    let xs = c.args.changes.now.items in
    c.in_ok-push-in-None.ensures.items ∙ put_behind n c.args.relation xs (sym (ap (position (is_target n)) c.deref.ensures.value) ∙ sym c.place_of.ensures ∙ c.in-None.is)
