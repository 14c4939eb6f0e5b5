use Rattle.std.proofs.Common.{◌≡◌, [], take}
use Rattle.td_comparison.specs.ForProofs.{feed_places}
use Rattle.td_comparison.specs.Hashed.{AreFed}
use Rattle.td_comparison.proofs.digest.feed_held.Given as goal

abbrev pub invariant-loop-entry : goal.invariant-loop-entry
invariant-loop-entry l = record {
  fed : AreFed l.entries [] l.initial.feeds.items → AreFed l.entries (take l.entry-index l.entries) l.feeds.items;
  places : feed_places l.feeds.items ≡ feed_places l.initial.feeds.items;
}
