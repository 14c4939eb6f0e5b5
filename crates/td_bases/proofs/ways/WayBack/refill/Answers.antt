use Rattle.std.proofs.Common.{List, ap, length, arith}
use Rattle.std.proofs.lemmas.List.Sorted.{length_permutation}
use Rattle.td_values.specs.Data.{Attrs}
use Rattle.td_bases.specs.Ways.{WayBackData}
use Rattle.td_bases.proofs.ways.WayBack.refill.Goals as goal

pub refill-requires-clause-room : goal.refill-requires-clause-room
refill-requires-clause-room c =
    let many = length_permutation c.args.relation.now.tuples c.args.index.now.tuples c.requires.of.tuples in
    let again = ap (λ (ts : List Attrs). length ts) c.self.invariant.0 in
    let deleted = ap (λ (w : WayBackData). length w.deleted) c.self.view_is in
    let room = ap (λ (w : WayBackData). w.room) c.self.view_is in
    omega (arith, c.requires.room, many, again, deleted, room, c.self.invariant.2)
