use Rattle.std.proofs.Common.{rules, ◌<◌, List, length, get_or, set, Ok, Err, sym, ap, subst, ◌∙◌}
use Rattle.std.specs.List.Sorted.{IsBinarySearchResult}
use Rattle.std.specs.Ordering.{nat_cmp}
use Rattle.std.proofs.lemmas.List.{map-set, set-get_or}
use Rattle.std.proofs.lemmas.List.Sorted.{answers_always}
use Rattle.td_comparison.specs.declared.digest.SiteFeed.{SiteFeed}
use Rattle.td_comparison.specs.ForProofs.{feed_place, feed_places}
use Rattle.td_comparison.specs.Hashed.{IsFed}
use Rattle.td_comparison.proofs.Feeds.{found_at, none_fed, not_found, one_fed}
use Rattle.td_comparison.proofs.digest.add_to_feeds.Goals as goal

pub add_entry-requires-clause-site : goal.add_entry-requires-clause-site
add_entry-requires-clause-site c =
    let found = c.in-Ok.ensures.position (λ (f : SiteFeed). f.site) (answers_always _ _ _ (λ f a r g called. search rules)) in
    let fs = c.args.feeds.now.items in
    let i = c.in-Ok.at in
    let there = subst (λ (l : List SiteFeed). IsBinarySearchResult (λ f. nat_cmp f.site c.args.entry.now.site) l (Ok i)) c.deref.ensures.value found in
    sym (ap (λ (f : SiteFeed). f.site) c.index_mut.ensures.value ∙ found_at c.args.entry.now.site fs i there c.index_mut.result.now)

pub returns-in-Ok-clause-fed : goal.returns-in-Ok-clause-fed
returns-in-Ok-clause-fed c = λ xs came number fed.
    let found = c.in-Ok.ensures.position (λ (f : SiteFeed). f.site) (answers_always _ _ _ (λ f a r g called. search rules)) in
    let fs = c.args.feeds.now.items in
    let i = c.in-Ok.at in
    let d = c.index_mut.result.now in
    let there = subst (λ (l : List SiteFeed). IsBinarySearchResult (λ f. nat_cmp f.site c.args.entry.now.site) l (Ok i)) c.deref.ensures.value found in
    let within = subst (λ (l : List SiteFeed). i < length l) c.deref.ensures.value c.in-Ok.ensures.bound in
    one_fed 0 fs i d c.add_entry.new.feed xs came c.args.entry.now within c.requires.rises (found_at c.args.entry.now.site fs i there d)
    (λ (old : IsFed xs came (get_or fs i d)). c.add_entry.ensures.fed xs came number (subst (IsFed xs came) (sym c.index_mut.ensures.value) old)) fed

pub returns-in-Ok-clause-places : goal.returns-in-Ok-clause-places
returns-in-Ok-clause-places c =
    let fs = c.args.feeds.now.items in
    let i = c.in-Ok.at in
    let d = c.index_mut.result.now in
    map-set feed_place fs i c.add_entry.new.feed ∙ ap (set (feed_places fs) i) (c.add_entry.ensures.place ∙ ap feed_place c.index_mut.ensures.value)
    ∙ sym (map-set feed_place fs i (get_or fs i d)) ∙ ap feed_places (set-get_or fs i d)

pub returns-in_default-clause-fed : goal.returns-in_default-clause-fed
returns-in_default-clause-fed c = λ xs came number fed.
    let known = c.in_default.ensures.position (λ (f : SiteFeed). f.site) (answers_always _ _ _ (λ f a r g called. search rules)) in
    let there = subst (λ (l : List SiteFeed). IsBinarySearchResult (λ f. nat_cmp f.site c.args.entry.now.site) l (Err c.in_default.field-0)) c.deref.ensures.value known in
    none_fed c.args.feeds.now.items xs came c.args.entry.now (not_found c.args.entry.now.site c.args.feeds.now.items c.in_default.field-0 c.requires.rises there) fed
