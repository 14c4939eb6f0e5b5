use Rattle.td_listings.proofs.Agree as agree
use Rattle.td_listings.proofs.laws.listings_agree.Goals as goal

pub returns : goal.returns
returns c = record {
  listings = agree.listings c.sites_agree.ensures c.union_has_both.ensures.same_list;
  logs = agree.logs c.sites_agree.ensures c.union_has_both.ensures.same_list;
  tables = agree.tables c.sites_agree.ensures c.union_has_both.ensures.same_list;
}
