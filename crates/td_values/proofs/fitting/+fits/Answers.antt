use Rattle.std.proofs.Common.{◌≡◌, ◌<◌, refl, sym, ap, ◌∙◌, arith, length}
use Rattle.std.specs.Ordering.{eq_by_cmp}
use Rattle.td_values.specs.declared.Kind.TheVariants as kind
use Rattle.td_values.specs.Data.{attrs_of}
use Rattle.td_values.proofs.Entries.{entries_seen}
use Rattle.td_values.specs.Order.{text_cmp}
use Rattle.td_values.specs.Rows.{RowsData}
use Rattle.td_values.specs.View.{datum_of, ty_of}
use Rattle.td_values.proofs.FieldLemmas.{same_name, user_typed, relation_typed, advances, name_differs, ended, lengths_tested, and_then, fit_seen, is_not, is_not_true}
use Rattle.td_values.proofs.fitting.+fits.Goals as goal
use Rattle.td_values.proofs.fitting.+fits.Goals.{fit_fields-then-loop-i-test+else-i-fields, fit_fields-else-loop-i-test}

pub fit_fields-returns-then-ne : goal.fit_fields-returns-then-ne
fit_fields-returns-then-ne t c =
    let differ = λ (same : c.index-attributes-i.result.0 ≡ c.index-fields-i.result.0). is_not_true c.ne.result _ c.ne.ensures c.if-ne.true ((same_name _ _ _ refl).1 same) in
    let stops = name_differs c.args.attributes.now c.args.fields.now c.loop-i.i _ _ c.loop-i-test.true c.if-i-fields.true c.index-attributes-i.is c.index-fields-i.is differ in
    (λ never. cc, λ r. absurd (stops (c.loop-i.invariant.rest.0 r)))

pub fit_fields-loop-i-preserved : goal.fit_fields-loop-i-preserved
fit_fields-loop-i-preserved t c =
    let name = (same_name _ _ _ refl).0 (is_not c.ne.result _ c.ne.ensures c.if-ne.false) in
    let ty = c.has_type.ensures.0 c.if-not-has_type.false in
    record {
      in_attributes = omega arith;
      in_fields = omega arith;
      rest = and_then c.loop-i.invariant.rest (advances c.args.attributes.now c.args.fields.now c.loop-i.i _ _ c.loop-i-test.true c.if-i-fields.true c.index-attributes-i.is c.index-fields-i.is name ty);
    }

pub fit_fields-returns : goal.fit_fields-returns
fit_fields-returns t c =
    let over = λ (p : c.loop-i.i < length c.args.attributes.now) (q : c.loop-i.i < length c.args.fields.now).
    let none : ⊥ = elim c.loop-i-test.branch [ fit_fields-then-loop-i-test+else-i-fields w ↦ omega arith | fit_fields-else-loop-i-test w ↦ omega arith ] in none in
    let rest = c.loop-i.invariant.rest in
    lengths_tested _ _ _ (and_then (ended c.args.attributes.now c.args.fields.now c.loop-i.i c.loop-i.invariant.in_attributes c.loop-i.invariant.in_fields over) (rest.1, rest.0))

pub fits-returns : goal.fits-returns
fits-returns t c =
    let tuple = ap attrs_of (c.deref-2.ensures.value ∙ ap (λ v. v.items) c.deref.ensures) ∙ c.tuple.view_is in
    let fields = c.deref-4.ensures.value ∙ ap (λ v. v.items) c.deref-3.ensures ∙ sym (entries_seen _ c.heading.invariant c.heading.view_is) in
    fit_seen c.fit_fields.result tuple fields c.fit_fields.ensures

pub has_type-returns-in-User-User : goal.has_type-returns-in-User-User
has_type-returns-in-User-User t c = user_typed _ _ c.in-User-User.p c.in-User-User.n _ _ (sym c.value.view_is ∙ ap datum_of c.in-User-User.is-0) (sym c.ty.view_is ∙ ap ty_of c.in-User-User.is-1) (c.eq.ensures ∙ ap (λ m. eq_by_cmp text_cmp m c.in-User-User.n) c.ty-in-User-User.ensures)

pub has_type-returns-in-Relation-Relation : goal.has_type-returns-in-Relation-Relation
has_type-returns-in-Relation-Relation t c =
    let value = sym c.value.view_is ∙ ap datum_of c.in-Relation-Relation.is-0 ∙ sym (ap (λ (r : RowsData). datum_of (kind.Relation r)) c.r.view_is) in
    relation_typed _ _ _ _ _ c.compare_headings.result _ value (sym c.ty.view_is ∙ ap ty_of c.in-Relation-Relation.is-1) c.compare_headings.ensures c.is_eq.ensures
