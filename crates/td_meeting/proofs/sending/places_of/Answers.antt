use Rattle.td_meeting.proofs.Told.{places_told}
use Rattle.td_meeting.proofs.sending.places_of.Goals as goal

pub returns : goal.returns
returns c = places_told c.args.held.now.entries c.in_ok-vector.vector c.entries.result (λ v. v.items) c.in_ok-vector.ensures c.entries.ensures.entries c.entries.ensures.fit
