use Rattle.td_answers.proofs.Placing.{site_of_script}
use Rattle.td_answers.proofs.answers.listing_in.Goals as goal

pub listing-requires : goal.listing-requires
listing-requires g c = site_of_script _ c.args.number _ (g.R.Replica.seen c.in-Some.site.now) c.requires c.in-Some.ensures
