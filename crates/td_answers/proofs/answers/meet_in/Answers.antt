use Rattle.std.proofs.Common.{map}
use Rattle.td_answers.proofs.Drawing.{meets_in}
use Rattle.td_answers.proofs.Saying.{says_more}
use Rattle.td_answers.proofs.Staying.{all_stay}
use Rattle.td_answers.proofs.answers.meet_in.Goals as goal

pub returns-in-Some-Some-clause-answered : goal.returns-in-Some-Some-clause-answered
returns-in-Some-Some-clause-answered g c =
    says_more _ _ c.meet_at.result
    (λ text. meets_in c.args.first c.args.second (map g.R.Replica.seen c.args.sites.now) c.in-Some-Some.a c.in-Some-Some.b text (map g.R.Replica.seen c.meet_at.new.sites) c.in-Some-Some.ensures.place c.in-Some-Some.ensures'.place c.if-a-b.true)
    c.meet_at.ensures.answered

pub returns-in_default-clause-journaled : goal.returns-in_default-clause-journaled
returns-in_default-clause-journaled g c = all_stay g.R.Replica.journaled c.args.sites.now
