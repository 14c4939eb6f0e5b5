use Rattle.std.proofs.Common.{◌≡◌, ◌++◌, ◌∷◌, [], T, IfOk, sym, ap, ◌∙◌, arith, subst}
use Rattle.std.specs.FinMap as by_name
use Rattle.std.specs.FinMap.Entries.{where_key, is_sorted-where_key}
use Rattle.std.proofs.lemmas.List.{take_all}
use Rattle.td_values.specs.Data.{attrs_of}
use Rattle.td_values.specs.Order.{text_cmp}
use Rattle.td_values.proofs.Entries.{sorted_ascend}
use Rattle.td_tuples.specs.Parts.{attributes, is_in, where_name}
use Rattle.td_tuples.proofs.ByName.{attributes_read, attributes-where, attrs_attributes, ascend_is_sorted}
use Rattle.td_tuples.proofs.Steps.{taken_where, passed_where}
use Rattle.td_operators.proofs.operators.cut_to.Goals as goal
use Rattle.td_operators.proofs.operators.cut_to.Goals.{then-is_in+in_ok-copy+in_ok-copy-2+in_ok-push, else-is_in}

pub loop-name-preserved : goal.loop-name-preserved
loop-name-preserved c =
    let p = is_in c.args.names.now in
    let es = c.attributes-name-items.result.now in
    let i = c.loop-name.name-index in
    let x = c.loop-name-item.result in
    elim c.if-is_in.branch [
      | then-is_in+in_ok-copy+in_ok-copy-2+in_ok-push w ↦
          ap (λ v. v.items) w.attributes-is ∙ w.in_ok-push.ensures.items
          ∙ (λ k. c.loop-name.invariant k ++ (w.in_ok-copy.ensures k, w.in_ok-copy-2.ensures k) ∷ [])
          ∙ taken_where es i x (omega arith) c.loop-name-item.is p (sym c.is_in.ensures ∙ w.if-is_in.true)
      | else-is_in w ↦
          ap (λ v. v.items) w.attributes-is ∙ c.loop-name.invariant
          ∙ passed_where es i x (omega arith) c.loop-name-item.is p (sym c.is_in.ensures ∙ w.if-is_in.false)
    ]

pub of-requires : goal.of-requires
of-requires c =
    let p = is_in c.args.names.now in
    let t = c.args.tuple.now in
    let es = c.attributes-name-items.result.now in
    let part = c.loop-name.invariant ∙ ap (where_key text_cmp p) (take_all c.loop-name.name-index es (omega arith) ∙ attributes_read es t c.attributes-name-items.ensures.all) in
    sorted_ascend c.loop-name.attributes.items
    (subst (λ xs. T (by_name.is_sorted text_cmp xs)) (sym part) (is_sorted-where_key text_cmp p (attributes t) (ascend_is_sorted t c.attributes-name-items.ensures.ascend)))

pub returns : goal.returns
returns c =
    let p = is_in c.args.names.now in
    let t = c.args.tuple.now in
    let es = c.attributes-name-items.result.now in
    let part = c.loop-name.invariant ∙ ap (where_key text_cmp p) (take_all c.loop-name.name-index es (omega arith) ∙ attributes_read es t c.attributes-name-items.ensures.all) in
    let whole = ap attrs_of (part ∙ sym (attributes-where p t)) ∙ attrs_attributes (where_name p t) in
    subst (λ w. IfOk c.of.result (λ u. u ≡ w)) whole c.of.ensures
