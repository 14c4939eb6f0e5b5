use Rattle.std.proofs.Common.{Ok, sym, ap, ◌∙◌, subst}
use Rattle.td_semantics.specs.Raises.{Tells}
use Rattle.td_integrity.proofs.Gaining.{lost, over, stays}
use Rattle.td_integrity.proofs.Judged.{are_bases}
use Rattle.td_incremental.specs.Growth.{narrowed}
use Rattle.td_integrity.proofs.judging.judge_constraint.Goals as goal

pub truth-requires-clause-bases : goal.truth-requires-clause-bases
truth-requires-clause-bases g c =
    let now = g.L.Lookup.relvars c.args.lookup.now in
    let n = c.in-Over.relvar in
    let i = c.in-Over.gained in
    are_bases c.args.catalogue.now (narrowed n i.now now)
    ((over c.args.catalogue.now c.args.expr.now now c.args.changes c.in_ok-way_of.field-0 c.in_ok-way_of.ensures c.requires.before n i c.in-Over.is).stored c.requires.stored)

pub none_is_missed-requires : goal.none_is_missed-requires
none_is_missed-requires g c =
    let k = lost c.args.catalogue.now c.args.expr.now (g.L.Lookup.relvars c.args.lookup.now) c.args.changes c.in_ok-way_of.field-0 c.in_ok-way_of.ensures c.requires.before c.requires.stored c.in-Lost.losses c.in-Lost.is in
    record { other = (k.other, k.other_is); one = (k.one, k.one_is) }

pub returns-in-Stays : goal.returns-in-Stays
returns-in-Stays g c =
    stays c.args.catalogue.now c.args.expr.now (g.L.Lookup.relvars c.args.lookup.now) c.args.changes c.in_ok-way_of.field-0 c.in_ok-way_of.ensures c.requires.before c.requires.stored c.in-Stays.is

pub returns-in-Over : goal.returns-in-Over
returns-in-Over g c =
    let now = g.L.Lookup.relvars c.args.lookup.now in
    let n = c.in-Over.relvar in
    let i = c.in-Over.gained in
    subst (Tells c.truth.result)
    (sym (over c.args.catalogue.now c.args.expr.now now c.args.changes c.in_ok-way_of.field-0 c.in_ok-way_of.ensures c.requires.before n i c.in-Over.is).same)
    c.truth.ensures

pub returns-in-Ok : goal.returns-in-Ok
returns-in-Ok g c =
    let k = lost c.args.catalogue.now c.args.expr.now (g.L.Lookup.relvars c.args.lookup.now) c.args.changes c.in_ok-way_of.field-0 c.in_ok-way_of.ensures c.requires.before c.requires.stored c.in-Lost.losses c.in-Lost.is in
    k.told ∙ ap Ok (sym (c.in-Ok.ensures k.one k.other k.one_is k.other_is))
