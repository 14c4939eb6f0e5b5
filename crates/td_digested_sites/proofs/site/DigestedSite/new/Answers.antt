use Rattle.td_digested_sites.proofs.site.DigestedSite.new.Goals as goal

pub invariant_of-result : goal.invariant_of-result
invariant_of-result g c = c.new.ensures (g.R.Replica.seen c.args.site).entries
