use Rattle.td_meeting.proofs.Greeting.{few_of, greets_by}
use Rattle.td_meeting.proofs.sending.put_own.Goals as goal

pub put_greeting-requires-clause-places : goal.put_greeting-requires-clause-places
put_greeting-requires-clause-places g c = few_of (g.R.Replica.seen c.args.site.now) c.args.places.now c.site.ensures.sound c.requires

pub returns-clause-bytes : goal.returns-clause-bytes
returns-clause-bytes g c = greets_by (g.R.Replica.seen c.args.site.now) c.args.places.now c.site.result c.script.result.now _ _ c.put_greeting.result c.site.ensures.sound c.requires c.site.ensures.number c.script.ensures c.put_greeting.ensures.site c.put_greeting.ensures.text c.put_greeting.ensures.bytes
