use Rattle.std.proofs.Common.{◌≡◌, ◌≤◌, ◌<◌, ℕ, add-one, get_or, length, refl, slice_set, ap, sym, ◌∙◌, arith}
use Rattle.std.proofs.Math.ListN.{get_or-map}
use Rattle.std.proofs.Math.Seq.{map-set_same}
use Rattle.std.proofs.lemmas.List.{length-map, map-set}
use Rattle.td_values.specs.Rows.{RowsData}
use Rattle.td_relations.specs.Deltas.{inverse_of}
use Rattle.td_bases.specs.Bases.{BaseData}
use Rattle.td_relvars.specs.ForProofs.Kept.{rows_copied, copies_of}
use Rattle.td_relvars.specs.Parts.{Copies, changed_if}
use Rattle.td_relvars.proofs.PartLemmas.{changed_until, next_fits, until_all, until_many, until_next, until_there}
use Rattle.td_relvars.proofs.parts.change_back_copies.Goals as goal

pub change_back_copy-requires : goal.change_back_copy-requires
change_back_copy-requires c =
    let n = c.args.relvar in
    let x = inverse_of c.args.delta.now in
    let old = copies_of c.args.bases.now.items in
    let l = c.loop-at in
    let q = c.index_mut.result.now in
    let many : length (copies_of l.bases.items) ≡ length old = ap length l.invariant.rows ∙ until_many n x l.at old in
    let long = length-map l.bases.items rows_copied in
    let same = length-map c.args.bases.now.items rows_copied in
    let lt : l.at < length old = omega (arith, many, long, same) in
    let here : rows_copied q ≡ get_or (copies_of l.bases.items) l.at (rows_copied q) = ap rows_copied c.index_mut.ensures.value ∙ sym (get_or-map rows_copied l.bases.items l.at q) in
    next_fits n x l.at old c.args.delta.now c.requires (rows_copied q) lt (here ∙ ap (λ (ps : Copies). get_or ps l.at (rows_copied q)) l.invariant.rows)

pub loop-at-preserved : goal.loop-at-preserved
loop-at-preserved c =
    let n = c.args.relvar in
    let x = inverse_of c.args.delta.now in
    let old = copies_of c.args.bases.now.items in
    let l = c.loop-at in
    let q = c.index_mut.result.now in
    let new = c.change_back_copy.new.copy in
    let many : length (copies_of l.bases.items) ≡ length old = ap length l.invariant.rows ∙ until_many n x l.at old in
    let long = length-map l.bases.items rows_copied in
    let same = length-map c.args.bases.now.items rows_copied in
    let lt : l.at < length old = omega (arith, many, long, same) in
    let here : rows_copied q ≡ get_or (copies_of l.bases.items) l.at (rows_copied q) = ap rows_copied c.index_mut.ensures.value ∙ sym (get_or-map rows_copied l.bases.items l.at q) in
    let was = here ∙ ap (λ (ps : Copies). get_or ps l.at (rows_copied q)) l.invariant.rows ∙ until_there n x l.at old (rows_copied q) in
    record {
      rows =
          map-set rows_copied l.bases.items l.at new
          ∙ ap (λ (p : ℕ × RowsData). slice_set (copies_of l.bases.items) l.at p) (c.in_ok-change_back_copy.ensures.rows ∙ ap (changed_if n x) was)
          ∙ ap (λ (ps : Copies). slice_set ps l.at (changed_if n x (get_or old l.at (rows_copied q)))) l.invariant.rows
          ∙ until_next n x l.at old (rows_copied q) lt
          ∙ ap (λ (k : ℕ). changed_until n x k old) (sym (add-one l.at));
      keys = map-set_same (λ (p : ℕ × BaseData). p.1.key) l.bases.items l.at new q (c.in_ok-change_back_copy.ensures.key ∙ ap (λ (p : ℕ × BaseData). p.1.key) c.index_mut.ensures.value) ∙ l.invariant.keys;
    }

pub returns-clause-rows : goal.returns-clause-rows
returns-clause-rows c =
    let n = c.args.relvar in
    let x = inverse_of c.args.delta.now in
    let old = copies_of c.args.bases.now.items in
    let l = c.loop-at in
    let many : length (copies_of l.bases.items) ≡ length old = ap length l.invariant.rows ∙ until_many n x l.at old in
    let long = length-map l.bases.items rows_copied in
    let same = length-map c.args.bases.now.items rows_copied in
    let all : length old ≤ l.at = omega (arith, many, long, same) in
    l.invariant.rows ∙ until_all n x l.at old all

pub returns-clause-keys : goal.returns-clause-keys
returns-clause-keys c = c.loop-at.invariant.keys
