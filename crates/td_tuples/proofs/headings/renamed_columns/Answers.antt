use Rattle.std.proofs.Common.{take, map, ap, ◌∙◌, arith}
use Rattle.std.specs.FinMap as by_name
use Rattle.std.proofs.lemmas.List.{take_all}
use Rattle.td_tuples.specs.Renamings.{with_new_name}
use Rattle.td_tuples.proofs.Steps.{added, taken_map}
use Rattle.td_tuples.proofs.headings.renamed_columns.Goals as goal

pub loop-name-preserved : goal.loop-name-preserved
loop-name-preserved c =
    let items = c.args.items.now in
    let es = c.fields-name-items.result.now in
    let i = c.loop-name.name-index in
    let x = c.loop-name-item.result in
    added (map (with_new_name items) (take i es)) (with_new_name items x) _ _ _ _ _ c.in_ok-name_after.ensures c.in_ok-copy.ensures c.loop-name.invariant c.in_ok-insert.ensures.new c.in_ok-insert.ensures.ok
    ∙ ap by_name.from_entries (taken_map es i x (omega arith) c.loop-name-item.is (with_new_name items))

pub returns : goal.returns
returns c =
    c.loop-name.invariant
    ∙ ap (λ fs. by_name.from_entries (map (with_new_name c.args.items.now) fs)) (take_all c.loop-name.name-index c.fields-name-items.result.now (omega arith) ∙ c.fields-name-items.ensures)
