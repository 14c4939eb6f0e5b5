use Rattle.td_answers.proofs.Placing.{found}
use Rattle.td_answers.proofs.places.site_in.Goals as goal

pub returns-in-Some : goal.returns-in-Some
returns-in-Some g c =
    (c.in-Some.at, found g.R.Replica.seen c.args.number c.args.sites.now c.in-Some.at c.index-sites-at.result c.in-Some.ensures.place c.in-Some.ensures.within c.index-sites-at.is)
