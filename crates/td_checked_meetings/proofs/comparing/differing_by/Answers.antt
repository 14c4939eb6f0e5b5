use Rattle.std.proofs.Common.{rules, List, IfOk, sym, subst}
use Rattle.td_stamps.specs.declared.entry.Entry.{Entry}
use Rattle.td_comparison.specs.Hashed.{AreHashed, ArePrefixesOf}
use Rattle.td_checked_meetings.specs.ForProofs.{IsOfOther}
use Rattle.td_checked_meetings.proofs.Comparisons.{differ, few}
use Rattle.td_checked_meetings.proofs.comparing.differing_by.Goals as goal

pub differing_sites-requires-clause-known : goal.differing_sites-requires-clause-known
differing_sites-requires-clause-known g c = subst (λ (l : List Entry). ArePrefixesOf l c.prefixes.result.now) (sym c.requires.holding) c.prefixes.ensures

pub returns-then-is_of_another : goal.returns-then-is_of_another
returns-then-is_of_another g c =
    let s = g.R.Replica.seen c.args.site.now in
    let other : IsOfOther s c.args.answer.now = search rules in
    record {
      differ = differ s c.args.vector.now c.args.answer.now c.differing_sites.result (λ d. d.sites.items) c.args.held.now.entries c.deref.result.now c.requires.holding c.deref.ensures.value other c.differing_sites.ensures.sites;
      few = few c.args.vector.now c.differing_sites.result (λ d. d.sites.items) c.args.held.now.entries c.deref.result.now c.args.answer.now.digests.items c.deref.ensures.value c.differing_sites.ensures.sites;
      feeds = subst (λ (l : List Entry). IfOk c.differing_sites.result (λ d. AreHashed l d.feeds.items)) c.requires.holding c.differing_sites.ensures.feeds;
    }

pub returns-clause-differ : goal.returns-clause-differ
returns-clause-differ g c =
    let s = g.R.Replica.seen c.args.site.now in
    let none : IsOfOther s c.args.answer.now → ⊥ = search rules in
    record { compared = λ other. absurd (none other); not_compared = λ _. c.new.ensures.items }

pub returns-clause-feeds : goal.returns-clause-feeds
returns-clause-feeds g c = subst (AreHashed (g.R.Replica.seen c.args.site.now).entries) (sym c.new-2.ensures.items) tt
