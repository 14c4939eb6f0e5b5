use Rattle.std.proofs.Common.{ℕ, List, sym, ap, subst, ◌∙◌}
use Rattle.td_comparison.specs.Digests.{rises}
use Rattle.td_comparison.specs.ForProofs.{place_sites}
use Rattle.td_comparison.specs.Hashed.{AreHashed}
use Rattle.td_comparison.proofs.Missing.{missing_rise}
use Rattle.td_comparison.proofs.digest.hash_places.Goals as goal

pub feed_held-feeds-requires : goal.feed_held-feeds-requires
feed_held-feeds-requires c = ap (λ (l : List (ℕ × ℕ)). rises 0 (place_sites l)) c.in_ok-begin_feeds.ensures.places ∙ missing_rise c.args.known.now c.args.places.now c.requires.rises

pub returns-clause-digests : goal.returns-clause-digests
returns-clause-digests c =
    let xs = c.args.held.now.entries in
    let hashed = c.feed_held-feeds.ensures.fed (c.in_ok-begin_feeds.ensures.fed xs c.feed_held-feeds.ensures.ranges c.requires.known) in
    c.in_ok-digests.ensures xs c.feed_held-feeds.ensures.set c.requires.known (subst (AreHashed xs) (sym c.deref.ensures.value) hashed)

pub returns-clause-feeds : goal.returns-clause-feeds
returns-clause-feeds c =
    let xs = c.args.held.now.entries in
    c.feed_held-feeds.ensures.fed (c.in_ok-begin_feeds.ensures.fed xs c.feed_held-feeds.ensures.ranges c.requires.known)
