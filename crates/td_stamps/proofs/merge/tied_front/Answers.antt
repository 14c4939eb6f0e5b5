use Rattle.std.proofs.Common.{◌≡◌, ◌+◌, suc, drop, sym, ◌∙◌, arith}
use Rattle.td_stamps.specs.ForProofs.{tied_front}
use Rattle.td_stamps.proofs.Fronts.{tied_next, untied_next, none_behind}
use Rattle.td_stamps.proofs.merge.tied_front.Goals as goal

pub loop-i-preserved : goal.loop-i-preserved
loop-i-preserved c =
    let xs = c.args.held.now in
    let ys = c.args.joined.now in
    let i = c.loop-i.i in
    let next : tied_front (drop i xs) (drop i ys) ≡ suc (tied_front (drop (i + 1) xs) (drop (i + 1) ys)) =
    tied_next xs ys i c.index-held-i.result c.index-joined-i.result (omega arith) (omega arith) c.index-held-i.is c.index-joined-i.is (sym c.is_tied.ensures ∙ c.if-not-is_tied.false) in
    let so_far = c.loop-i.invariant in
    omega arith

pub returns-then-not-is_tied : goal.returns-then-not-is_tied
returns-then-not-is_tied c =
    let xs = c.args.held.now in
    let ys = c.args.joined.now in
    let i = c.loop-i.i in
    let none : tied_front (drop i xs) (drop i ys) ≡ 0 =
    untied_next xs ys i c.index-held-i.result c.index-joined-i.result (omega arith) (omega arith) c.index-held-i.is c.index-joined-i.is (sym c.is_tied.ensures ∙ c.if-not-is_tied.true) in
    let so_far = c.loop-i.invariant in
    omega arith

pub returns : goal.returns
returns c =
    let xs = c.args.held.now in
    let ys = c.args.joined.now in
    let i = c.loop-i.i in
    let none : tied_front (drop i xs) (drop i ys) ≡ 0 = none_behind xs ys i (omega arith) in
    let so_far = c.loop-i.invariant in
    omega arith
