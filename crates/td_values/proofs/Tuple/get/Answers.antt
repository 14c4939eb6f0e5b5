use Rattle.std.proofs.Common.{sym, ap, ◌∙◌, subst, T}
use Rattle.std.specs.FinMap as map
use Rattle.td_values.specs.Order.{text_cmp}
use Rattle.td_values.proofs.Entries.{ascend_sorted, whole_ascend, valued_at, valued_none}
use Rattle.td_values.proofs.Tuple.get.Goals as goal

pub place-requires : goal.place-requires
place-requires c = subst (λ xs. T (map.is_sorted text_cmp xs)) (sym (c.deref-2.ensures.value ∙ ap (λ v. v.items) c.deref.ensures)) (ascend_sorted _ (whole_ascend _ c.self.invariant))

pub returns-in-Ok : goal.returns-in-Ok
returns-in-Ok c =
    valued_at c.args.self.now c.args.name.now _ c.in-Ok.at _ (c.deref-2.ensures.value ∙ ap (λ v. v.items) c.deref.ensures) c.self.view_is c.in-Ok.ensures.found c.index.result.now (rw c.deref-in-Ok.ensures at c.index.ensures)

pub returns-in-Err : goal.returns-in-Err
returns-in-Err c =
    valued_none c.args.self.now c.args.name.now _ c.in-Err.field-0 _ (c.deref-2.ensures.value ∙ ap (λ v. v.items) c.deref.ensures) c.self.view_is c.in-Err.ensures.absent
