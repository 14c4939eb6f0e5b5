use Rattle.std.proofs.Common.{◌≡◌, List, true}
use Rattle.std.specs.Vec.Iter.{into_iter_items}
use Rattle.td_stamps.specs.Sets.{is_set}
use Rattle.td_stamps.specs.declared.entry.Entry.{Entry}
use Rattle.td_comparison.specs.Hashed.{AreHashed, ArePrefixesOf}
use Rattle.td_comparison.proofs.prefixes.SitePrefixes.keep.Given as goal

abbrev pub invariant-loop-feed : goal.invariant-loop-feed
invariant-loop-feed l = (xs : List Entry) → is_set xs ≡ true → AreHashed xs l.fn.feeds.items → ArePrefixesOf xs l.initial.self
    → AreHashed xs (into_iter_items l.feed-iterator) × ArePrefixesOf xs l.self
