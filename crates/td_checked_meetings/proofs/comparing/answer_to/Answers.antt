use Rattle.std.proofs.Common.{rules, List, IfOk, sym, subst}
use Rattle.td_stamps.specs.declared.entry.Entry.{Entry}
use Rattle.td_comparison.specs.Hashed.{AreHashed, ArePrefixesOf}
use Rattle.td_checked_meetings.specs.ForProofs.{IsOfOther}
use Rattle.td_checked_meetings.proofs.Comparisons.{answered}
use Rattle.td_checked_meetings.proofs.comparing.answer_to.Goals as goal

pub answer-requires-clause-known : goal.answer-requires-clause-known
answer-requires-clause-known g c = subst (λ (l : List Entry). ArePrefixesOf l c.prefixes-known.result.now) (sym c.requires.holding) c.prefixes-known.ensures

pub returns-then-is_of_another-clause-finds : goal.returns-then-is_of_another-clause-finds
returns-then-is_of_another-clause-finds g c =
    let other : IsOfOther (g.R.Replica.seen c.args.site.now) c.args.comparison.now = search rules in
    answered (g.R.Replica.seen c.args.site.now) c.args.vector.now c.args.comparison.now c.answer.result c.args.held.now.entries c.deref.result.now c.requires.holding c.deref.ensures.value other c.answer.ensures.digests c.answer.ensures.differing

pub returns-then-is_of_another-clause-feeds : goal.returns-then-is_of_another-clause-feeds
returns-then-is_of_another-clause-feeds g c = subst (λ (l : List Entry). IfOk c.answer.result (λ f. AreHashed l f.feeds.items)) c.requires.holding c.answer.ensures.feeds

pub returns-clause-finds : goal.returns-clause-finds
returns-clause-finds g c =
    let s = g.R.Replica.seen c.args.site.now in
    let none : IsOfOther s c.args.comparison.now → ⊥ = search rules in
    record { compared = λ other. absurd (none other); not_compared = λ _. (c.new.ensures.items, c.new-2.ensures.items) }

pub returns-clause-feeds : goal.returns-clause-feeds
returns-clause-feeds g c = subst (AreHashed (g.R.Replica.seen c.args.site.now).entries) (sym c.new-3.ensures.items) tt
