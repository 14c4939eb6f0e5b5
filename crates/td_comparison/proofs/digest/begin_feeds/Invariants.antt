use Rattle.std.proofs.Common.{◌≡◌, List, true, [], take}
use Rattle.std.specs.List.{list_all}
use Rattle.td_stamps.specs.Entries.{in_range}
use Rattle.td_stamps.specs.declared.entry.Entry.{Entry}
use Rattle.td_comparison.specs.ForProofs.{feed_places, missing}
use Rattle.td_comparison.specs.Hashed.{AreFed, ArePrefixesOf}
use Rattle.td_comparison.proofs.digest.begin_feeds.Given as goal

abbrev pub invariant-loop-site : goal.invariant-loop-site
invariant-loop-site l = record {
  places : feed_places l.feeds.items ≡ missing l.known (take l.site-index l.places);
  fed : (xs : List Entry) → list_all in_range xs ≡ true → ArePrefixesOf xs l.known → AreFed xs [] l.feeds.items;
}
