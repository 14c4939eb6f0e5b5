-- What a condition selects of a relation, and what is put in its place.
use Rattle.std.proofs.Common.{◌≡◌, ◌↔◌, Bool, true, false, IsTrue, not, ◌&&◌, if◌then◌else◌, Result, Ok, Err, refl, sym, ap, ◌∙◌, true≢false, subst}
use Rattle.std.specs.FinSet as set
use Rattle.td_values.specs.Data.{Attrs}
use Rattle.td_values.specs.Order.{attrs_order}
use Rattle.td_values.specs.Proving.Total.{attrs_order_total}
use Rattle.td_values.specs.Rows.{RowsData}
use Rattle.td_relations.specs.Deltas.{DeltaData, IsDifference, applied}
use Rattle.td_relations.specs.Sets.{Has, IsRelation, TupleSet, body}
use Rattle.td_relations.proofs.Changes.{leads_to}
use Rattle.td_relations.proofs.Members.{relation_of_is}
use Rattle.td_relations.proofs.SameHeadings.{one_heading}
use Rattle.td_algebra.specs.Functions.{minus_of, restricted, union_of}
use Rattle.td_algebra.specs.Raising.{and_then}
use Rattle.td_algebra.specs.declared.errors.Stop.{Stop}
use Rattle.td_algebra.specs.declared.errors.Stop.TheVariants.{Untyped}
use Rattle.std.specs.declared.convert.Infallible.{Infallible}
use Rattle.td_operators.specs.Operators.{if_alike, are_equal_headings}
use Rattle.td_eval.specs.Changed.{after}
use Rattle.td_eval.specs.ForProofs.Forms.{TellsForm}
use Rattle.td_eval.proofs.Rest.{selected}

module _ (m : Attrs → Result Bool Stop) (r g : RowsData) (is : restricted m r ≡ Ok g) where
  pub chosen_heading : g.heading ≡ r.heading
  chosen_heading = (selected m r g is).heading

  pub chosen_there : (t : Attrs) → Has g t → Has r t
  chosen_there t has = ((selected m r g is).only t has).0

both_true : (a b : Bool) → (a && b) ≡ true → (a ≡ true) × (b ≡ true)
both_true true b h = (refl, h)
both_true false b h = absurd (true≢false (sym h))

not_both : (b : Bool) → not b ≡ true → b ≡ true → ⊥
not_both true h k = true≢false (sym h)
not_both false h k = true≢false (sym k)

-- what is put in is not among what is taken out
pub apart : (r g s i e : RowsData) → ((t : Attrs) → Has g t → Has r t) → body i ≡ set.difference (body s) (body r) → body e ≡ set.difference (body g) (body s) → (t : Attrs) → Has i t → ¬ (Has e t)
apart r g s i e there ins del t has gone =
    let new = both_true (set.contains (body s) t) (not (set.contains (body r) t)) (sym (ap (λ w. set.contains w t) ins ∙ set.contains-difference attrs_order_total (body s) (body r) t) ∙ has) in
    let old = both_true (set.contains (body g) t) (not (set.contains (body s) t)) (sym (ap (λ w. set.contains w t) del ∙ set.contains-difference attrs_order_total (body g) (body s) t) ∙ gone) in
    not_both (set.contains (body r) t) new.1 (there t old.0)

pub apart_from_nothing : (i e : RowsData) → body i ≡ set.empty → (t : Attrs) → Has i t → ¬ (Has e t)
apart_from_nothing i e none t has there = true≢false (sym has ∙ ap (λ w. set.contains w t) none ∙ set.contains-empty attrs_order t)

-- ---- where an exact change leads
leads : (r n : RowsData) (d : DeltaData) → {s : TupleSet} → IsRelation r.heading s n → IsDifference r n d → n ≡ after r d
leads r n d of differs =
    let is = relation_of_is r.heading (applied (body r) d) in
    sym (leads_to r n (after r d) d.deleted d.inserted (sym of.heading) of.ascending r.heading r.heading differs.deleted differs.inserted is)

-- ---- both halves of an UPDATE
heading_false : (r s : RowsData) (b : Bool) → IsTrue b ↔ (s.heading ≡ r.heading) → b ≡ false → are_equal_headings r.heading s.heading ≡ false
heading_false r s b says k = by (are_equal_headings r.heading s.heading) refl
  where
    by : (a : Bool) → are_equal_headings r.heading s.heading ≡ a → are_equal_headings r.heading s.heading ≡ false
    by false e = e
    by true e = absurd (true≢false (sym (says.1 (sym ((one_heading r.heading s.heading true (sym e)).0 refl))) ∙ k))

heading_true : (r s : RowsData) → s.heading ≡ r.heading → are_equal_headings r.heading s.heading ≡ true
heading_true r s same = (one_heading r.heading s.heading (are_equal_headings r.heading s.heading) refl).1 (sym same)

module _ (r g s : RowsData) (chosen : Result RowsData Stop) (renewed : RowsData → Result RowsData Stop) (is : chosen ≡ Ok g) (new : renewed g ≡ Ok s) where
  abbrev Whole : Result RowsData Stop
  Whole = and_then chosen (λ h. and_then (renewed h) (λ q. if_alike r q (union_of (minus_of r h) q)))

  abbrev If : Bool → Result RowsData Stop
  If b = if b then Ok (union_of (minus_of r g) s) else Err Untyped

  whole_is : Whole ≡ If (are_equal_headings r.heading s.heading)
  whole_is =
      ap (λ w. and_then w (λ h. and_then (renewed h) (λ q. if_alike r q (union_of (minus_of r h) q)))) is
      ∙ ap (λ w. and_then w (λ q. if_alike r q (union_of (minus_of r g) q))) new

  pub told_untyped : (b : Bool) → IsTrue b ↔ (s.heading ≡ r.heading) → b ≡ false → Whole ≡ Err Untyped
  told_untyped b says k = whole_is ∙ ap If (heading_false r s b says k)

  pub told_update : (b : Bool) → IsTrue b ↔ (s.heading ≡ r.heading) → b ≡ true → (d : DeltaData) → IsDifference r (union_of (minus_of r g) s) d → TellsForm {W = Infallible} r Whole (Ok d)
  unfolding union_of minus_of
  told_update b says same d differs =
      let n = union_of (minus_of r g) s in
      let led = leads r n d (relation_of_is r.heading (set.union (body (minus_of r g)) (body s))) differs in
      (whole_is ∙ ap If (heading_true r s (says.0 same)) ∙ ap Ok led, subst (λ q. IsDifference r q d) led differs)

pub told_less : (r g : RowsData) (chosen : Result RowsData Stop) → chosen ≡ Ok g → (d : DeltaData) → IsDifference r (minus_of r g) d → TellsForm {W = Infallible} r (and_then chosen (λ h. Ok (minus_of r h))) (Ok d)
unfolding minus_of
told_less r g chosen is d differs =
    let led = leads r (minus_of r g) d (relation_of_is r.heading (set.difference (body r) (body g))) differs in
    (ap (λ w. and_then w (λ h. Ok (minus_of r h))) is ∙ ap Ok led, subst (λ q. IsDifference r q d) led differs)
