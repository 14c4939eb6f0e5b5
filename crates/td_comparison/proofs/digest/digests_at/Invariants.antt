use Rattle.std.proofs.Common.{◌≡◌, List, true, map, take, drop}
use Rattle.td_stamps.specs.Sets.{is_set}
use Rattle.td_stamps.specs.declared.entry.Entry.{Entry}
use Rattle.td_comparison.specs.Digests.{site_digest}
use Rattle.td_comparison.specs.ForProofs.{feed_places, missing}
use Rattle.td_comparison.specs.Hashed.{AreHashed, ArePrefixesOf}
use Rattle.td_comparison.proofs.digest.digests_at.Given as goal

abbrev pub invariant-loop-site : goal.invariant-loop-site
invariant-loop-site l = record {
  rest : feed_places (drop l.next l.feeds) ≡ missing l.known (drop l.site-index l.places);
  digests : (xs : List Entry) → is_set xs ≡ true → ArePrefixesOf xs l.known → AreHashed xs l.feeds → l.digests.items ≡ map (site_digest xs) (take l.site-index l.places);
}
