use Rattle.std.proofs.Common.{◌≡◌, ◌↔◌, ◌-◌, ◌≤◌, length, drop}
use Rattle.td_values.specs.Data.{attrs_of, fields_of}
use Rattle.td_values.specs.Whole.{heading_of}
use Rattle.td_values.proofs.fitting.+fits.Given as goal

abbrev pub invariant-fit_fields-loop-i : goal.invariant-fit_fields-loop-i
invariant-fit_fields-loop-i l = record {
  in_attributes : l.i ≤ length l.attributes;
  in_fields : l.i ≤ length l.fields;
  rest : (heading_of (attrs_of l.attributes) ≡ fields_of l.fields) ↔ (heading_of (attrs_of (drop l.i l.attributes)) ≡ fields_of (drop l.i l.fields));
}

abbrev pub decreases-fit_fields-loop-i : goal.decreases-fit_fields-loop-i
decreases-fit_fields-loop-i l = length l.attributes - l.i
