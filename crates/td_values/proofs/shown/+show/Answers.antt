use Rattle.std.proofs.Common.{◌≤◌, ◌++◌, string_bytes, codes, length, drop, get_or, sym, ap, ◌∙◌, append_assoc, arith, rules}
use Rattle.td_values.specs.Data.{items_of, attrs_of, tuples_of, tuple}
use Rattle.td_values.specs.Shown.{enclosed, shown, shown_attrs, shown_items, shown_tuples}
use Rattle.td_values.proofs.Shows.{attrs_first, first_named, first_of, followed_by, items_first, tuples_first}
use Rattle.td_values.proofs.shown.+show.Goals as goal

pub show_attributes-loop-i-init : goal.show_attributes-loop-i-init
show_attributes-loop-i-init t c =
    let some : 1 ≤ length c.args.a.now = search rules in
    let as' = c.args.a.now in
    let n = c.as_str.result.now in
    let value = shown (get_or as' 0 c.index-a-0-2.result).1 in
    let written =
    c.in_ok-show_into.ensures
    ∙ ap (λ w. w ++ value) (c.in_ok-push_str-3.ensures.bytes ∙ ap (λ w. w ++ codes " ") (c.in_ok-push_str-2.ensures.bytes ∙ ap (λ w. w ++ n) c.in_ok-push_str.ensures.bytes)) in
    record {
      in_a = some;
      so_far =
          ap (λ w. w ++ followed_by (codes "}") (shown_attrs (attrs_of (drop 1 as')))) written
          ∙ first_named (string_bytes c.args.out.now) (codes "{") (codes "}") n value (shown_attrs (attrs_of (drop 1 as'))) (shown_attrs (attrs_of as'))
          (attrs_first as' c.index-a-0.result c.index-a-0-2.result n (omega arith) c.as_str.ensures.text);
    }

pub show_items-loop-i-init : goal.show_items-loop-i-init
show_items-loop-i-init t c =
    let some : 1 ≤ length c.args.items.now = search rules in
    let ds = c.args.items.now in
    let front = string_bytes c.args.out.now in
    let value = shown c.index-items-0.result in
    let rest = shown_items (items_of (drop 1 ds)) in
    let written = c.in_ok-show_into.ensures ∙ ap (λ w. w ++ value) (c.in_ok-push_str.ensures.bytes ∙ sym (append_assoc front (codes " ") (codes "( "))) in
    record {
      in_items = some;
      so_far =
          ap (λ w. w ++ followed_by (codes ")") rest) written
          ∙ first_of (front ++ codes " ") (codes "(") (codes ")") value rest (shown_items (items_of ds)) (items_first ds c.index-items-0.result (omega arith) c.index-items-0.is)
          ∙ append_assoc front (codes " ") (enclosed (codes "(") (codes ")") (shown_items (items_of ds)));
    }

pub show_tuples-loop-i-init : goal.show_tuples-loop-i-init
show_tuples-loop-i-init t c =
    let some : 1 ≤ length c.args.tuples.now = search rules in
    let ts = c.args.tuples.now in
    let value = shown (tuple c.index-tuples-0.result) in
    let rest = shown_tuples (tuples_of (drop 1 ts)) in
    let written = c.in_ok-show_tuple_into.ensures ∙ ap (λ w. w ++ value) c.in_ok-push_str.ensures.bytes in
    record {
      in_tuples = some;
      so_far =
          ap (λ w. w ++ followed_by (codes "}") rest) written
          ∙ first_of (string_bytes c.args.out.now) (codes "{") (codes "}") value rest (shown_tuples (tuples_of ts)) (tuples_first ts c.index-tuples-0.result (omega arith) c.index-tuples-0.is);
    }
