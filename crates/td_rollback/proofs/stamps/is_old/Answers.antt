use Rattle.std.proofs.Common.{◌∙◌}
use Rattle.td_rollback.proofs.More.{same_by_stamp}
use Rattle.td_rollback.proofs.stamps.is_old.Goals as goal

pub returns : goal.returns
returns c =
    let more = c.requires in
    c.is_tied.ensures ∙ same_by_stamp more.0 more.1 c.args.entry.now c.args.old.now more.2 more.3 more.4
