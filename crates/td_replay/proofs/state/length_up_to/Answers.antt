use Rattle.std.proofs.Common.{ap, ◌∙◌}
use Rattle.td_algebra.proofs.Runs.{same_at}
use Rattle.td_stamps.specs.Entries.{stamp_of}
use Rattle.td_replay.proofs.Earlier.{apart_stamps, nowhere_else}
use Rattle.td_replay.proofs.state.length_up_to.Goals as goal

pub returns : goal.returns
returns c =
    let es = c.args.entries.now in
    let at = c.args.at in
    let i = c.count_before-place.result in
    let e = c.index-entries-place.result in
    nowhere_else at es i c.requires c.count_before-place.ensures.place
    (λ within d same.
    let here = ap stamp_of (c.index-entries-place.is ∙ same_at es i e d within) ∙ same in
    apart_stamps c.stamp.result at c.eq.result c.if-eq.false c.eq.ensures (c.stamp.ensures ∙ here))
