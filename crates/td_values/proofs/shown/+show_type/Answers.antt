use Rattle.std.proofs.Common.{◌≡◌, ◌≤◌, ◌++◌, OnOk, string_bytes, codes, length, drop, get_or, subst, sym, ap, ◌∙◌, arith, rules}
use Rattle.td_values.specs.Data.{fields_of}
use Rattle.td_values.proofs.Entries.{entries_seen}
use Rattle.td_values.specs.Shown.{braced, shown_fields, shown_type}
use Rattle.td_values.proofs.Shows.{fields_first, first_named, followed_by}
use Rattle.td_values.proofs.shown.+show_type.Goals as goal

pub show_heading-returns : goal.show_heading-returns
show_heading-returns t c =
    let read = c.deref-2.ensures.value ∙ ap (λ v. v.items) c.deref.ensures ∙ sym (entries_seen _ c.h.invariant c.h.view_is) in
    subst (λ fs. OnOk c.show_fields.result (string_bytes c.show_fields.new.out ≡ string_bytes c.args.out.now ++ braced (shown_fields (fields_of fs)))) read c.show_fields.ensures

pub show_fields-loop-i-init : goal.show_fields-loop-i-init
show_fields-loop-i-init t c =
    let some : 1 ≤ length c.args.fields.now = search rules in
    let fs = c.args.fields.now in
    let n = c.as_str.result.now in
    let ty = shown_type (get_or fs 0 c.index-fields-0-2.result).1 in
    let written =
    c.in_ok-show_type_into.ensures
    ∙ ap (λ w. w ++ ty) (c.in_ok-push_str-3.ensures.bytes ∙ ap (λ w. w ++ codes " ") (c.in_ok-push_str-2.ensures.bytes ∙ ap (λ w. w ++ n) c.in_ok-push_str.ensures.bytes)) in
    record {
      in_fields = some;
      so_far =
          ap (λ w. w ++ followed_by (codes "}") (shown_fields (fields_of (drop 1 fs)))) written
          ∙ first_named (string_bytes c.args.out.now) (codes "{") (codes "}") n ty (shown_fields (fields_of (drop 1 fs))) (shown_fields (fields_of fs))
          (fields_first fs c.index-fields-0.result c.index-fields-0-2.result n (omega arith) c.as_str.ensures.text);
    }
