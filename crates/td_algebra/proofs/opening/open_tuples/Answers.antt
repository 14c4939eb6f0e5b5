use Rattle.std.proofs.Common.{◌<◌, length, get_or, ap, ◌∙◌, subst, arith}
use Rattle.std.specs.List.{All}
use Rattle.std.proofs.lemmas.List.Elements.{All-more}
use Rattle.td_values.specs.Data.{Attrs}
use Rattle.td_values.specs.Whole.{heading_of}
use Rattle.td_tuples.specs.Parts.{Fits, names_of}
use Rattle.td_tuples.specs.Nestings.{inner_columns}
use Rattle.td_algebra.specs.ForProofs.Opened.{opened, tuples_at}
use Rattle.td_algebra.proofs.Pairs.{one_more}
use Rattle.td_algebra.proofs.opening.open_tuples.Goals as goal

pub loop-t-preserved : goal.loop-t-preserved
loop-t-preserved c =
    let r = c.args.r.now in
    let n = c.args.name.now in
    let P : Attrs → Type 0 = λ t. All (Fits (inner_columns n r.heading)) (tuples_at n t) in
    let xs = c.tuples-t-items.result.now in
    let i = c.loop-t.t-index in
    let t = c.t-item.result in
    let here : i < length r.tuples = omega (arith, ap length c.tuples-t-items.ensures.all) in
    let fits : Fits r.heading t = ap heading_of (c.t-item.is ∙ ap (λ ys. get_or ys i t) c.tuples-t-items.ensures.all) ∙ c.tuples-t-items.ensures.rows.fit i t here in
    record {
      opened = one_more (opened (names_of c.args.outer.now) n) xs i t c.loop-t.out.items _ (omega arith) c.t-item.is c.loop-t.invariant.opened c.in_ok-add_opened.ensures.opened;
      fit = All-more P xs i t (omega arith) c.loop-t.invariant.fit (subst P c.t-item.is (c.in_ok-add_opened.ensures.fit r.heading fits));
    }
