use Rattle.std.proofs.Common.{◌≡◌, List, None, MatchOption, ap, sym, subst, ◌∙◌}
use Rattle.td_schema.specs.Kinds.{Name}
use Rattle.td_headings.specs.Expressions.{IsConstraint, constraint_at}
use Rattle.td_semantics.specs.Raises.{Tells}
use Rattle.td_integrity.specs.ForProofs.Changed.{KeyBefore}
use Rattle.td_integrity.specs.ForProofs.Tested.{StandsAt}
use Rattle.td_semantics.specs.Tests.{judgement}
use Rattle.td_integrity.proofs.After.{apart_stays, constraint_before, key_before}
use Rattle.td_integrity.proofs.Judged.{has_relation, tells, whole, within}
use Rattle.td_integrity.proofs.judging.judge.Goals as goal

pub judge_key-requires-clause-relation : goal.judge_key-requires-clause-relation
judge_key-requires-clause-relation g c =
    let s = c.args.catalogue.now in
    has_relation s (g.L.Lookup.relvars c.args.lookup.now) c.requires.defined c.requires.stored c.args.place c.in-Key.relvar c.in-Key.key (subst (StandsAt s c.args.place) c.in-Key.is c.requires.test)

pub judge_key-requires-clause-before : goal.judge_key-requires-clause-before
judge_key-requires-clause-before g c =
    let s = c.args.catalogue.now in
    let now = g.L.Lookup.relvars c.args.lookup.now in
    let n = c.in-Key.relvar in
    subst (λ (k : List Name). MatchOption c.args.changes (Unit {0}) (λ cs. KeyBefore now cs.now n k)) (sym c.as_slice.ensures) (key_before s now c.args.place n c.in-Key.key (subst (StandsAt s c.args.place) c.in-Key.is c.requires.test) c.args.changes c.requires.before)

pub judge_constraint-requires-clause-expr : goal.judge_constraint-requires-clause-expr
judge_constraint-requires-clause-expr g c =
    let s = c.args.catalogue.now in
    let n = c.args.place in
    let at = subst (StandsAt s n) c.in-Constraint.is c.requires.test in
    let is = subst (λ o. MatchOption o (constraint_at s n ≡ None) (IsConstraint s (constraint_at s n))) c.in-Ok-Some.field-0-is c.in-Ok-Some.ensures in
    within s n c.in-Constraint.field-0 c.in-Constraint.field-1 c.in-Ok-Some.expr at is c.requires.defined

pub judge_constraint-requires-clause-before : goal.judge_constraint-requires-clause-before
judge_constraint-requires-clause-before g c =
    let s = c.args.catalogue.now in
    let n = c.args.place in
    let at = subst (StandsAt s n) c.in-Constraint.is c.requires.test in
    let is = subst (λ o. MatchOption o (constraint_at s n ≡ None) (IsConstraint s (constraint_at s n))) c.in-Ok-Some.field-0-is c.in-Ok-Some.ensures in
    constraint_before s (g.L.Lookup.relvars c.args.lookup.now) n c.in-Constraint.field-0 c.in-Constraint.field-1 c.in-Ok-Some.expr at (whole s n c.in-Constraint.field-0 c.in-Constraint.field-1 c.in-Ok-Some.expr at is).tree c.args.changes c.requires.before

pub returns-then-is_apart : goal.returns-then-is_apart
returns-then-is_apart g c =
    let s = c.args.catalogue.now in
    let r = g.L.Lookup.relvars c.args.lookup.now in
    let at = subst (StandsAt s c.args.place) c.in-Constraint.is c.requires.test in
    ap (judgement s r) c.in-Constraint.is ∙ apart_stays s r c.args.place c.in-Constraint.field-0 c.in-Constraint.field-1 c.requires.defined at c.args.changes c.requires.before (c.is_apart.ensures c.if-is_apart.true)

pub returns-in-Ok-Some : goal.returns-in-Ok-Some
returns-in-Ok-Some g c =
    let s = c.args.catalogue.now in
    let n = c.args.place in
    let r = g.L.Lookup.relvars c.args.lookup.now in
    let at = subst (StandsAt s n) c.in-Constraint.is c.requires.test in
    let is = subst (λ o. MatchOption o (constraint_at s n ≡ None) (IsConstraint s (constraint_at s n))) c.in-Ok-Some.field-0-is c.in-Ok-Some.ensures in
    subst (λ t. Tells c.judge_constraint.result (judgement s r t)) (sym c.in-Constraint.is) (tells s n c.in-Constraint.field-0 c.in-Constraint.field-1 c.in-Ok-Some.expr at is r c.judge_constraint.result c.judge_constraint.ensures)
