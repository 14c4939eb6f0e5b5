use Rattle.std.proofs.Common.{◌<◌, ◌≤◌, ◌++◌, ◌∷◌, [], List, Option, ℕ, ◌+◌, length, ap, sym, subst, ◌∙◌}
use Rattle.std.specs.Prelude.{option_map}
use Rattle.std.proofs.lemmas.List.{length-append, map-append}
use Rattle.td_values.specs.Rows.{RowsData}
use Rattle.td_bases.specs.Bases.{BaseData}
use Rattle.td_schema.specs.Schemas.{SchemaData}
use Rattle.td_headings.proofs.WellTyped.{all_typed}
use Rattle.td_semantics.specs.Openings.{all_empty}
use Rattle.td_relvars.specs.ForProofs.Kept.{AreFirst, keys_of, rows_of}
use Rattle.td_relvars.proofs.Bases.{first_pushed, none_first}
use Rattle.td_relvars.proofs.Stores.{empty_done, empty_more}
use Rattle.td_relvars.proofs.database.all_empty.Goals as goal

pub loop-place-init : goal.loop-place-init
loop-place-init c =
    let s = c.args.catalogue.now in
    let none = c.new-stored.ensures.items in
    record {
      left = ap (λ xs. rows_of xs ++ all_empty s.origins s.schema.relvars) (sym none);
      many = ap length (sym none);
      first = subst (λ xs. AreFirst s (keys_of xs)) (sym none) (none_first s);
    }

pub loop-place-preserved : goal.loop-place-preserved
loop-place-preserved c =
    let s = c.args.catalogue.now in
    let n = c.loop-place.place in
    let xs = c.loop-place.stored.items in
    let ys = c.push.new.self.items in
    let o = c.in_ok-empty_at.field-0 in
    let count = c.relvar_count-place-end.ensures ∙ ap (λ (z : SchemaData). length z.relvars) c.schema.ensures.schema in
    let rows = ap rows_of c.in_ok-push.ensures.items ∙ map-append (option_map (λ (b : BaseData). b.rows)) xs (o ∷ []) in
    record {
      left =
          empty_more s.origins s.schema.relvars n (all_typed s c.schema.ensures.defined).origin_each (rows_of xs) (rows_of ys) (option_map (λ (b : BaseData). b.rows) o) (subst (λ m. n < m) count c.loop-place-test.true)
          rows c.in_ok-empty_at.ensures.rows c.loop-place.invariant.left;
      many = ap (λ (m : ℕ). m + 1) c.loop-place.invariant.many ∙ sym (ap length c.in_ok-push.ensures.items ∙ length-append xs (o ∷ []));
      first = first_pushed s xs ys n o c.loop-place.invariant.many c.in_ok-push.ensures.items c.in_ok-empty_at.ensures.key c.loop-place.invariant.first;
    }

pub returns-clause-empty : goal.returns-clause-empty
returns-clause-empty c =
    let s = c.args.catalogue.now in
    let n = c.loop-place.place in
    let count = c.relvar_count-place-end.ensures ∙ ap (λ (z : SchemaData). length z.relvars) c.schema.ensures.schema in
    empty_done s.origins s.schema.relvars n (all_typed s c.schema.ensures.defined).origin_each (rows_of c.loop-place.stored.items) (subst (λ m. m ≤ n) count c.loop-place-test.false) c.loop-place.invariant.left

pub returns-clause-keys : goal.returns-clause-keys
returns-clause-keys c = c.loop-place.invariant.first
