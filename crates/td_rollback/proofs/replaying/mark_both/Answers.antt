use Rattle.std.proofs.Common.{refl, sym, subst, ◌∙◌}
use Rattle.td_rollback.proofs.Unmarked.{AreUnmarked, flags_stay, none_chosen}
use Rattle.td_rollback.proofs.replaying.mark_both.Goals as goal

pub returns-then-are_unmarked-clause-old : goal.returns-then-are_unmarked-clause-old
returns-then-are_unmarked-clause-old c =
    c.new-entries.ensures.items ∙ sym (none_chosen c.args.marks.items c.args.old.now (subst AreUnmarked c.deref.ensures.value (c.if-are_unmarked.ensures refl)))

pub returns-then-are_unmarked-clause-new_marks : goal.returns-then-are_unmarked-clause-new_marks
returns-then-are_unmarked-clause-new_marks c = sym (flags_stay c.args.fresh.marks.items c.args.marks.items (subst AreUnmarked c.deref.ensures.value (c.if-are_unmarked.ensures refl)))
