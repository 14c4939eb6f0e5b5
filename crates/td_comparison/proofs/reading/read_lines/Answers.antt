use Rattle.std.proofs.Common.{◌≡◌, List, ◌∷◌, ◌++◌, [], ap, ◌∙◌, arith}
use Rattle.td_comparison.specs.declared.digest.SiteDigest.{SiteDigest}
use Rattle.td_comparison.specs.Messages.{line_in, lines_in}
use Rattle.td_comparison.proofs.Pieces.{line_end, line_more}
use Rattle.td_comparison.proofs.reading.read_lines.Goals as goal

pub loop-line-preserved : goal.loop-line-preserved
loop-line-preserved c =
    let steps = c.in-Some.ensures.steps in
    let so_far = c.loop-line.invariant.left in
    let size = c.loop-line.invariant.size in
    let done = c.loop-line.digests.items in
    let all = line_more so_far.0 c.args.count done c.loop-line.line-iterator.rest.now c.in-Some.line.now c.next.new.self.rest.now c.args.bytes.now steps.1.0 (steps.1.1 ∙ size) so_far.1 so_far.2 in
    let items : c.push.new.self.items ≡ done ++ line_in c.in-Some.line.now ∷ [] = c.in_ok-push.ensures.items ∙ ap (λ (d : SiteDigest). done ++ d ∷ []) c.line_in.ensures in
    record {
      left = (all.0, all.1, ap (λ (l : List SiteDigest). l ++ lines_in all.0 c.next.new.self.rest.now) items ∙ all.2);
      size = steps.0 ∙ size;
    }

pub returns : goal.returns
returns c =
    let steps = c.in-None.ensures.steps in
    let so_far = c.loop-line.invariant.left in
    line_end so_far.0 c.args.count c.loop-line.digests.items c.loop-line.line-iterator.rest.now c.args.bytes.now (omega (arith, steps.1.0, c.loop-line.invariant.size)) so_far.1 so_far.2
