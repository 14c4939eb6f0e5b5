use Rattle.std.proofs.Common.{◌≡◌, ◌++◌, ◌≤◌, ◌-◌, codes, length, drop, string_bytes}
use Rattle.td_values.specs.Data.{fields_of}
use Rattle.td_values.specs.Shown.{braced, shown_fields}
use Rattle.td_values.proofs.Shows.{followed_by}
use Rattle.td_values.proofs.shown.+show_type.Given as goal

abbrev pub invariant-show_fields-loop-i : goal.invariant-show_fields-loop-i
invariant-show_fields-loop-i l = record {
  in_fields : l.i ≤ length l.fields;
  so_far : string_bytes l.out ++ followed_by (codes "}") (shown_fields (fields_of (drop l.i l.fields))) ≡ string_bytes l.fn.out ++ braced (shown_fields (fields_of l.fields));
}

abbrev pub decreases-show_fields-loop-i : goal.decreases-show_fields-loop-i
decreases-show_fields-loop-i l = length l.fields - l.i
