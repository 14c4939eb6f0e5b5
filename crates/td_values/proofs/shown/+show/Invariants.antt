use Rattle.std.proofs.Common.{◌≡◌, ◌++◌, ◌≤◌, ◌-◌, codes, length, drop, string_bytes}
use Rattle.td_values.specs.Data.{attrs_of, items_of, tuples_of}
use Rattle.td_values.specs.Shown.{braced, enclosed, shown_attrs, shown_items, shown_tuples}
use Rattle.td_values.proofs.Shows.{followed_by}
use Rattle.td_values.proofs.shown.+show.Given as goal

abbrev pub invariant-show_attributes-loop-i : goal.invariant-show_attributes-loop-i
invariant-show_attributes-loop-i l = record {
  in_a : l.i ≤ length l.a;
  so_far : string_bytes l.out ++ followed_by (codes "}") (shown_attrs (attrs_of (drop l.i l.a))) ≡ string_bytes l.fn.out ++ braced (shown_attrs (attrs_of l.a));
}

abbrev pub decreases-show_attributes-loop-i : goal.decreases-show_attributes-loop-i
decreases-show_attributes-loop-i l = length l.a - l.i

abbrev pub invariant-show_items-loop-i : goal.invariant-show_items-loop-i
invariant-show_items-loop-i l = record {
  in_items : l.i ≤ length l.items;
  so_far : string_bytes l.out ++ followed_by (codes ")") (shown_items (items_of (drop l.i l.items))) ≡ string_bytes l.fn.out ++ (codes " " ++ enclosed (codes "(") (codes ")") (shown_items (items_of l.items)));
}

abbrev pub decreases-show_items-loop-i : goal.decreases-show_items-loop-i
decreases-show_items-loop-i l = length l.items - l.i

abbrev pub invariant-show_tuples-loop-i : goal.invariant-show_tuples-loop-i
invariant-show_tuples-loop-i l = record {
  in_tuples : l.i ≤ length l.tuples;
  so_far : string_bytes l.out ++ followed_by (codes "}") (shown_tuples (tuples_of (drop l.i l.tuples))) ≡ string_bytes l.fn.out ++ braced (shown_tuples (tuples_of l.tuples));
}

abbrev pub decreases-show_tuples-loop-i : goal.decreases-show_tuples-loop-i
decreases-show_tuples-loop-i l = length l.tuples - l.i
