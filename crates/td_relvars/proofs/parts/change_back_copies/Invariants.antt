use Rattle.std.proofs.Common.{◌≡◌}
use Rattle.td_relations.specs.Deltas.{inverse_of}
use Rattle.td_relvars.specs.ForProofs.Kept.{copied_keys, copies_of}
use Rattle.td_relvars.proofs.PartLemmas.{changed_until}
use Rattle.td_relvars.proofs.parts.change_back_copies.Given as goal

abbrev pub invariant-loop-at : goal.invariant-loop-at
invariant-loop-at l = record {
  rows : copies_of l.bases.items ≡ changed_until l.relvar (inverse_of l.delta) l.at (copies_of l.initial.bases.items);
  keys : copied_keys l.bases.items ≡ copied_keys l.initial.bases.items;
}
