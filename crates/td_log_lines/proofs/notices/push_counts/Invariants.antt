use Rattle.std.proofs.Common.{◌≡◌, ◌++◌, string_bytes, take}
use Rattle.td_log_lines.specs.Notices.{lines_text, counts}
use Rattle.td_log_lines.proofs.notices.push_counts.Given as goal

abbrev pub invariant-loop-at : goal.invariant-loop-at
invariant-loop-at l =
    string_bytes l.out
    ≡ string_bytes l.initial.out ++ lines_text l.time (counts l.is_last l.now (take l.at l.notices))
