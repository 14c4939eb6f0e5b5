use Rattle.td_listings.proofs.Told.{missing, told, was_told}
use Rattle.td_listings.proofs.listings.value_at.Goals as goal

pub unreachable-requires-in-Err-Unknown : goal.unreachable-requires-in-Err-Unknown
unreachable-requires-in-Err-Unknown g c =
    missing c.history_is_unique.ensures c.script_opens_one.ensures.script (g.R.Replica.seen c.args.replica.now) c.args.catalogue.now c.requires.open c.args.name.now c.args.place c.requires.stands
    (rw c.in-Err-Unknown.field-0-is at c.in-Err-Unknown.ensures)

pub returns-in-Ok : goal.returns-in-Ok
returns-in-Ok g c =
    let s = g.R.Replica.seen c.args.replica.now in
    record {
      value = told c.history_is_unique.ensures c.script_opens_one.ensures.script s c.args.catalogue.now c.requires.open c.args.name.now c.args.place c.in-Ok.answer c.requires.stands c.in-Ok.ensures;
      told = was_told c.history_is_unique.ensures c.script_opens_one.ensures.script s c.args.catalogue.now c.requires.open c.args.name.now c.args.place c.in-Ok.answer c.requires.stands c.in-Ok.ensures;
    }
