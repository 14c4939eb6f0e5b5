use Rattle.std.proofs.Common.{◌≡◌, take}
use Rattle.std.specs.List.{All, flat_map}
use Rattle.td_tuples.specs.Parts.{Fits, names_of}
use Rattle.td_tuples.specs.Nestings.{inner_columns}
use Rattle.td_algebra.specs.ForProofs.Opened.{opened, tuples_at}
use Rattle.td_algebra.proofs.opening.open_tuples.Given as goal

abbrev pub invariant-loop-t : goal.invariant-loop-t
invariant-loop-t l = record {
  opened : l.out.items ≡ flat_map (opened (names_of l.outer) l.name) (take l.t-index l.t-items);
  fit : All (λ t. All (Fits (inner_columns l.name l.r.heading)) (tuples_at l.name t)) (take l.t-index l.t-items);
}
