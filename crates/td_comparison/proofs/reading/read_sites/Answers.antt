use Rattle.std.proofs.Common.{◌≡◌, ℕ, List, ◌∷◌, ◌++◌, [], ap, ◌∙◌, arith}
use Rattle.td_comparison.specs.Messages.{short_at, sites_in}
use Rattle.td_comparison.proofs.Pieces.{site_end, site_more}
use Rattle.td_comparison.proofs.reading.read_sites.Goals as goal

pub loop-site-preserved : goal.loop-site-preserved
loop-site-preserved c =
    let steps = c.in-Some.ensures.steps in
    let so_far = c.loop-site.invariant.left in
    let size = c.loop-site.invariant.size in
    let done = c.loop-site.sites.items in
    let all = site_more so_far.0 c.args.count done c.loop-site.site-iterator.rest.now c.in-Some.site.now c.next.new.self.rest.now c.args.bytes.now steps.1.0 (steps.1.1 ∙ size) so_far.1 so_far.2 in
    let items : c.push.new.self.items ≡ done ++ short_at 0 c.in-Some.site.now ∷ [] = c.in_ok-push.ensures.items ∙ ap (λ (d : ℕ). done ++ d ∷ []) c.short_at.ensures in
    record {
      left = (all.0, all.1, ap (λ (l : List ℕ). l ++ sites_in all.0 c.next.new.self.rest.now) items ∙ all.2);
      size = steps.0 ∙ size;
    }

pub returns : goal.returns
returns c =
    let steps = c.in-None.ensures.steps in
    let so_far = c.loop-site.invariant.left in
    site_end so_far.0 c.args.count c.loop-site.sites.items c.loop-site.site-iterator.rest.now c.args.bytes.now (omega (arith, steps.1.0, c.loop-site.invariant.size)) so_far.1 so_far.2
