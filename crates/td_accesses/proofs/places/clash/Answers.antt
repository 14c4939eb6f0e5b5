use Rattle.td_accesses.proofs.Parting.{are_apart}
use Rattle.td_accesses.proofs.places.clash.Goals as goal

pub returns-else-meet : goal.returns-else-meet
returns-else-meet c = λ none.
    are_apart c.meet.result c.meet-else-meet.result c.args.reads.now c.args.writes.now c.args.other_reads.now c.args.other_writes.now c.meet.ensures c.meet-else-meet.ensures c.if-meet.false none
