use Rattle.std.proofs.Common.{rules, ◌≡◌, List, [], ◌∷◌, ◌++◌, true, false, Vec, Global, get_or, sym, ap, subst, ◌∙◌}
use Rattle.td_comparison.specs.ForProofs.{feed_places, is_hashed}
use Rattle.td_comparison.specs.Hashed.{AreFed}
use Rattle.td_comparison.specs.declared.digest.SiteFeed.{SiteFeed}
use Rattle.td_comparison.proofs.Missing.{fed_more, with_feed, without_feed}
use Rattle.td_comparison.proofs.digest.begin_feeds.Goals as goal
use Rattle.td_comparison.proofs.digest.begin_feeds.Goals.{then-is_none+in_ok-begin_feed+in_ok-push, else-is_none}

pub loop-site-preserved : goal.loop-site-preserved
loop-site-preserved c =
    let i = c.loop-site.site-index in
    let ps = c.args.places.now in
    let known = c.args.known.now in
    let p = get_or ps i (0, 0) in
    let so_far = c.loop-site.invariant in
    elim c.if-is_none.branch [
      | then-is_none+in_ok-begin_feed+in_ok-push w ↦
          let not : is_hashed known p ≡ false = search (rules, w.if-is_none, c.at.ensures.kept, c.is_none.ensures) in
          let items : c.if-is_none.feeds.items ≡ c.loop-site.feeds.items ++ w.in_ok-begin_feed.field-0 ∷ [] = ap (λ (v : Vec SiteFeed Global). v.items) w.feeds-is ∙ w.in_ok-push.ensures.items in
          record {
            places = with_feed known ps i (0, 0) c.loop-site.feeds.items c.if-is_none.feeds.items w.in_ok-begin_feed.field-0 c.loop-site-test.true not so_far.places items w.in_ok-begin_feed.ensures.place;
            fed = λ xs ranges before. subst (AreFed xs []) (sym items) (fed_more xs [] c.loop-site.feeds.items w.in_ok-begin_feed.field-0 (so_far.fed xs ranges before) (w.in_ok-begin_feed.ensures.fed xs ranges before));
          }
      | else-is_none w ↦
          let is : is_hashed known p ≡ true = search (rules, w.if-is_none, c.at.ensures.kept, c.is_none.ensures) in
          let items : c.if-is_none.feeds.items ≡ c.loop-site.feeds.items = ap (λ (v : Vec SiteFeed Global). v.items) w.feeds-is in
          record {
            places = ap (λ (l : List SiteFeed). feed_places l) items ∙ without_feed known ps i (0, 0) c.loop-site.feeds.items c.loop-site-test.true is so_far.places;
            fed = λ xs ranges before. subst (AreFed xs []) (sym items) (so_far.fed xs ranges before);
          }
    ]
