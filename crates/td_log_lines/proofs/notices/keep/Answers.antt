use Rattle.std.proofs.Common.{rules, not}
use Rattle.std.proofs.lemmas.Fn.{filter_same}
use Rattle.td_log_lines.specs.Notices.{PrintedText, has_ended}
use Rattle.td_log_lines.proofs.notices.keep.Goals as goal

pub returns-clause-kept : goal.returns-clause-kept
returns-clause-kept c =
    filter_same _ (λ (n : PrintedText). not (has_ended c.args.now n)) _
    (λ x b f' called. (search rules, search rules)) _ _ c.retain.ensures.filtered
