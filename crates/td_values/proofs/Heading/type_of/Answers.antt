use Rattle.std.proofs.Common.{ap, ◌∙◌}
use Rattle.td_values.proofs.Entries.{typed_at, typed_none}
use Rattle.td_values.proofs.Heading.type_of.Goals as goal

pub returns-in-Ok : goal.returns-in-Ok
returns-in-Ok c =
    typed_at c.args.self.now c.args.name.now _ c.in-Ok.at _ (c.deref-2.ensures.value ∙ ap (λ v. v.items) c.deref.ensures) c.self.invariant c.self.view_is c.in-Ok.ensures.found c.index.result.now (rw c.deref-in-Ok.ensures at c.index.ensures)

pub returns-in-Err : goal.returns-in-Err
returns-in-Err c =
    typed_none c.args.self.now c.args.name.now _ c.in-Err.field-0 _ (c.deref-2.ensures.value ∙ ap (λ v. v.items) c.deref.ensures) c.self.invariant c.self.view_is c.in-Err.ensures.absent
