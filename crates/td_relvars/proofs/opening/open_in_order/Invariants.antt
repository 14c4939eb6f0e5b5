use Rattle.std.proofs.Common.{◌≡◌, drop}
use Rattle.td_semantics.specs.Trees.{places_from}
use Rattle.td_semantics.specs.Openings as spec
use Rattle.td_relvars.proofs.opening.open_in_order.Given as goal

abbrev pub invariant-loop-place : goal.invariant-loop-place
invariant-loop-place l = record {
  same : l.database.catalogue ≡ l.fn.catalogue;
  left : spec.opened l.fn.catalogue (places_from l.place (drop l.place l.fn.catalogue.origins)) l.database.stored ≡ spec.opening l.fn.catalogue;
}
