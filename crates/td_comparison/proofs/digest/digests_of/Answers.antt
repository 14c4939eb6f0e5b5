use Rattle.td_comparison.proofs.digest.digests_of.Goals as goal

pub hash_places-requires-clause-known : goal.hash_places-requires-clause-known
hash_places-requires-clause-known c = c.new.ensures c.args.held.now.entries
