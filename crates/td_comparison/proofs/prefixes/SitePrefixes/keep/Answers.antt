use Rattle.std.proofs.Common.{subst}
use Rattle.td_comparison.specs.Hashed.{AreHashed}
use Rattle.td_comparison.proofs.prefixes.SitePrefixes.keep.Goals as goal

pub loop-feed-preserved : goal.loop-feed-preserved
loop-feed-preserved c = λ xs set hashed before.
    let so_far = c.loop-feed.invariant xs set hashed before in
    let both = subst (AreHashed xs) c.in-Some.ensures.steps.0 so_far.0 in
    (both.1, c.keep_feed.ensures xs set both.0 so_far.1)

pub returns-then-is_err : goal.returns-then-is_err
returns-then-is_err c = λ xs set hashed before.
    let so_far = c.loop-feed.invariant xs set hashed before in
    let both = subst (AreHashed xs) c.in-Some.ensures.steps.0 so_far.0 in
    c.keep_feed.ensures xs set both.0 so_far.1

pub returns : goal.returns
returns c = λ xs set hashed before. (c.loop-feed.invariant xs set hashed before).1
