use Rattle.td_tuples.specs.Nestings.{opened_columns}
use Rattle.td_algebra.proofs.Openings.{ungrouped}
use Rattle.td_algebra.proofs.opening.ungroup.Goals as goal

pub returns : goal.returns
returns c =
    let r = c.args.r.now in
    ungrouped c.args.name.now r c.in_ok-opened.ensures.rows (opened_columns c.args.name.now r.heading) c.in_ok-opened.opened c.requires c.in_ok-opened.ensures.opened
