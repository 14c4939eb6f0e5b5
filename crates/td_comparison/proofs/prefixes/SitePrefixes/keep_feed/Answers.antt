use Rattle.std.proofs.Common.{rules, ◌≤◌, sym, ap, ◌∙◌, nat_cmp}
use Rattle.std.specs.BTreeMap.{is_at}
use Rattle.std.specs.Map.{lookup}
use Rattle.td_comparison.proofs.Keeping.{kept_with, prefix_of}
use Rattle.td_comparison.proofs.prefixes.SitePrefixes.keep_feed.Goals as goal

pub returns-in_err-insert : goal.returns-in_err-insert
returns-in_err-insert c = λ xs set fed before site p found. before site p (sym (ap (lookup (is_at (nat_cmp site))) c.in_err-insert.ensures.err) ∙ found)

pub returns : goal.returns
returns c = λ xs set fed before.
    let f = c.args.feed in
    let whole : f.number ≤ f.last = search rules in
    kept_with xs c.args.self.now.by_site c.insert.new.self f.site (record { number = f.number; hasher = f.hasher }) c.in_ok-insert.ensures.updates.0 (prefix_of xs f set whole fed) before
