use Rattle.std.proofs.Common.{rules, ◌≡◌, true, false, Option, sym, subst, ◌∙◌}
use Rattle.td_checked_meetings.specs.ForProofs.{IsSequenced}
use Rattle.td_checked_meetings.specs.declared.sifting.Beyond.{Beyond}
use Rattle.td_checked_meetings.proofs.Sequences.{with_beyond, with_following}
use Rattle.td_checked_meetings.proofs.sifting.add_following.Goals as goal

pub returns-then-not-follows : goal.returns-then-not-follows
returns-then-not-follows c = λ all rest so_far.
    let v = c.args.vector.now in
    let done = c.args.following.now.items in
    let none : c.follows.result ≡ false = search rules in
    subst (λ (b : Option Beyond). IsSequenced v all rest c.args.numbers.now done b) (sym c.or.ensures)
    (with_beyond v all rest c.args.entry c.args.numbers.now done c.args.beyond so_far (sym (c.follows.ensures done so_far.numbers_last) ∙ none))

pub returns : goal.returns
returns c = λ all rest so_far.
    let v = c.args.vector.now in
    let e = c.args.entry in
    let done = c.args.following.now.items in
    let held : c.follows.result ≡ true = search rules in
    with_following v all rest e c.args.numbers.now done c.args.beyond so_far c.note_number.new.numbers c.push.new.self.items (sym (c.follows.ensures done so_far.numbers_last) ∙ held) (c.in_ok-note_number.ensures done so_far.numbers_last) c.in_ok-push.ensures.items
