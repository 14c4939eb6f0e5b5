use Rattle.td_accesses.specs.declared.accesses.Accesses.{Accesses}
use Rattle.td_accesses.proofs.Growing.{covered_by_places}
use Rattle.td_accesses.proofs.accesses.Accesses.add_other.Goals as goal

pub returns-clause-covered : goal.returns-clause-covered
returns-clause-covered c = λ k l a within.
    let s = c.args.self.now in
    let x : Accesses = record { reads = c.add_places.new.all; writes = c.add_places-2.new.all; insertions = s.insertions } in
    covered_by_places k l a x c.args.reads.now c.args.writes.now c.in_ok-add_places.ensures.added c.in_ok-add_places-2.ensures.added within
