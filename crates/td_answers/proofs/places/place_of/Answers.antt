use Rattle.std.proofs.Common.{sym, ◌∙◌}
use Rattle.td_answers.proofs.Placing.{reached, reaches_on, reaches_start}
use Rattle.td_answers.proofs.places.place_of.Goals as goal

pub loop-at-init : goal.loop-at-init
loop-at-init g c = reaches_start g.R.Replica.seen c.args.number c.args.sites.now

pub returns-then-from-number-clause-place : goal.returns-then-from-number-clause-place
returns-then-from-number-clause-place g c =
    reached g.R.Replica.seen c.args.number c.args.sites.now c.loop-at.at c.index-sites-at.result c.loop-at-test.true c.index-sites-at.is
    (sym c.site.ensures.number ∙ sym c.from.ensures ∙ c.if-from-number.true) c.loop-at.invariant

pub loop-at-preserved : goal.loop-at-preserved
loop-at-preserved g c =
    reaches_on g.R.Replica.seen c.args.number c.args.sites.now c.loop-at.at c.index-sites-at.result c.loop-at-test.true c.index-sites-at.is
    (λ same. c.if-from-number.false (c.from.ensures ∙ c.site.ensures.number ∙ same)) c.loop-at.invariant
