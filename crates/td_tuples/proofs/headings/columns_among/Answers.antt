use Rattle.std.proofs.Common.{take, sym, ap, ◌∙◌, arith}
use Rattle.std.specs.FinMap as by_name
use Rattle.std.specs.FinMap.Entries.{where_key}
use Rattle.std.proofs.lemmas.List.{take_all}
use Rattle.td_values.specs.Order.{text_cmp}
use Rattle.td_tuples.specs.Parts.{is_in}
use Rattle.td_tuples.proofs.Lists.{from_entries-where}
use Rattle.td_tuples.proofs.Steps.{added, taken_where, passed_where}
use Rattle.td_tuples.proofs.headings.columns_among.Goals as goal
use Rattle.td_tuples.proofs.headings.columns_among.Goals.{then-is_among+in_ok-copy+in_ok-copy-2+in_ok-insert, else-is_among}

pub loop-name-preserved : goal.loop-name-preserved
loop-name-preserved c =
    let p = is_in c.args.names.now in
    let es = c.fields-name-items.result.now in
    let i = c.loop-name.name-index in
    let x = c.loop-name-item.result in
    elim c.if-is_among.branch [
      | then-is_among+in_ok-copy+in_ok-copy-2+in_ok-insert w ↦
          w.part-is ∙ added (where_key text_cmp p (take i es)) x _ _ _ _ _ w.in_ok-copy.ensures w.in_ok-copy-2.ensures c.loop-name.invariant w.in_ok-insert.ensures.new w.in_ok-insert.ensures.ok
          ∙ ap by_name.from_entries (taken_where es i x (omega arith) c.loop-name-item.is p (sym c.is_among.ensures ∙ w.if-is_among.true))
      | else-is_among w ↦
          w.part-is ∙ c.loop-name.invariant
          ∙ ap by_name.from_entries (passed_where es i x (omega arith) c.loop-name-item.is p (sym c.is_among.ensures ∙ w.if-is_among.false))
    ]

pub returns : goal.returns
returns c =
    let p = is_in c.args.names.now in
    let es = c.fields-name-items.result.now in
    c.loop-name.invariant
    ∙ ap (λ fs. by_name.from_entries (where_key text_cmp p fs)) (take_all c.loop-name.name-index es (omega arith) ∙ c.fields-name-items.ensures)
    ∙ from_entries-where p c.args.heading.now
