use Rattle.std.proofs.Common.{ℕ, ◌+◌, drop, refl, ap, ◌∙◌, arith}
use Rattle.std.proofs.lemmas.List.{drop_all}
use Rattle.td_relations.specs.Deltas.{DeltaData}
use Rattle.td_relvars.specs.Parts.{PartData}
use Rattle.td_assign.proofs.PartUndone.{all_undone, comes, fits_next, none_undone, one_undone}
use Rattle.td_assign.proofs.undoing.undo_part.Goals as goal

pub loop-relvar-init : goal.loop-relvar-init
loop-relvar-init c = record { undone = none_undone c.args.part.now.copies c.args.delta.now c.requires; keys = refl }

pub change_back-requires : goal.change_back-requires
change_back-requires c =
    let old = c.args.part.now.copies in
    let ds = c.args.delta.now in
    let l = c.loop-relvar in
    let i = l.relvar-index in
    let x : ℕ × DeltaData = c.loop-relvar-item.result in
    let lt = c.loop-relvar-test.true in
    fits_next old ds (drop (i + 1) ds) x l.part.copies (comes old l.part.copies ds ds i x (omega (arith, lt)) c.loop-relvar-item.is l.invariant.undone)

pub loop-relvar-preserved : goal.loop-relvar-preserved
loop-relvar-preserved c =
    let old = c.args.part.now.copies in
    let ds = c.args.delta.now in
    let l = c.loop-relvar in
    let i = l.relvar-index in
    let x : ℕ × DeltaData = c.loop-relvar-item.result in
    let lt = c.loop-relvar-test.true in
    record {
      undone = one_undone old ds (drop (i + 1) ds) x l.part.copies (comes old l.part.copies ds ds i x (omega (arith, lt)) c.loop-relvar-item.is l.invariant.undone) c.change_back.new.self.copies (ap (λ (p : PartData). p.copies) c.in_ok-change_back.ensures);
      keys = ap (λ (p : PartData). p.keys) c.in_ok-change_back.ensures ∙ l.invariant.keys;
    }

pub returns : goal.returns
returns c =
    let l = c.loop-relvar in
    let ds = c.args.delta.now in
    let ge = c.loop-relvar-test.false in
    let copies = all_undone c.args.part.now.copies l.part.copies ds (drop l.relvar-index ds) (drop_all l.relvar-index ds (omega (arith, ge))) l.invariant.undone in
    λ i. record { copies = copies i; keys = l.invariant.keys i }
