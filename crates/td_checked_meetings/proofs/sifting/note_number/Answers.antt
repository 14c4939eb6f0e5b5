use Rattle.std.proofs.Common.{rules, ◌≡◌, max}
use Rattle.td_checked_meetings.specs.ForProofs.{last_number}
use Rattle.td_checked_meetings.proofs.Sequences.{last_noted}
use Rattle.td_checked_meetings.proofs.sifting.note_number.Goals as goal

pub returns : goal.returns
returns c = λ earlier last.
    let e = c.args.entry.now in
    let number : c.max-number.result ≡ max e.seq (last_number c.args.numbers.now e.site) = search rules in
    last_noted earlier c.args.numbers.now e c.max-number.result last number c.insert.new.self c.in_ok-insert.ensures.updates.0
