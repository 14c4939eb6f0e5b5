use Rattle.std.proofs.Common.{rules, ◌≡◌, true, false, ◌∙◌}
use Rattle.td_checked_meetings.specs.Scopes.{is_left_out}
use Rattle.td_checked_meetings.proofs.Sequences.{of_others-kept, of_others-left_out}
use Rattle.td_checked_meetings.proofs.sifting.add_other.Goals as goal

pub returns-then-leaves_out : goal.returns-then-leaves_out
returns-then-leaves_out c =
    let is : is_left_out c.args.scope.now.left_out.items c.args.entry ≡ true = search rules in
    of_others-left_out c.args.scope.now.left_out.items c.args.entry c.args.others.now.items is

pub returns : goal.returns
returns c =
    let is : is_left_out c.args.scope.now.left_out.items c.args.entry ≡ false = search rules in
    c.in_ok-push.ensures.items ∙ of_others-kept c.args.scope.now.left_out.items c.args.entry c.args.others.now.items is
