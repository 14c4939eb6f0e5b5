use Rattle.td_integrity.proofs.Losing.{none_gone, some_gone}
use Rattle.td_integrity.proofs.losses.none_is_missed.Goals as goal

pub returns-then-is_empty : goal.returns-then-is_empty
returns-then-is_empty g c =
    none_gone c.args.losses.now (g.L.Lookup.relvars c.args.lookup.now) c.stored_relation-there.result.now c.stored_relation-there.ensures c.in_ok-gone.gone c.in_ok-gone.ensures (c.is_empty.ensures.0 c.if-is_empty.true)

pub returns : goal.returns
returns g c =
    some_gone c.args.losses.now (g.L.Lookup.relvars c.args.lookup.now) c.stored_relation-there.result.now c.stored_relation-there.ensures c.in_ok-gone.gone c.in_ok-gone.ensures
    c.stored_relation-referring.result.now c.in_ok-missed.missed c.is_empty-2.result c.stored_relation-referring.ensures c.in_ok-missed.ensures c.is_empty-2.ensures
