use Rattle.std.proofs.Common.{◌↔◌, IsTrue, ap, sym, ◌∙◌, subst}
use Rattle.td_values.specs.Rows.{RowsData}
use Rattle.td_algebra.specs.Keys.{TellApartFrom}
use Rattle.td_integrity.proofs.After.{ok_same}
use Rattle.td_integrity.proofs.Found.{none_to_tell}
use Rattle.td_integrity.proofs.judging.tells_apart.Goals as goal

pub tell_apart_by-requires : goal.tell_apart_by-requires
tell_apart_by-requires g c =
    let has = c.in-Some.ensures in
    let same = ok_same c.args.relation.now has.0 (sym c.requires.is ∙ has.1) in
    c.requires.heading ∙ ap (λ (q : RowsData). q.heading) same ∙ sym has.2.heading

pub returns-in-Some : goal.returns-in-Some
returns-in-Some g c =
    let has = c.in-Some.ensures in
    let same = ok_same has.0 c.args.relation.now (sym has.1 ∙ c.requires.is) in
    subst (λ r. IsTrue c.tell_apart_by.result ↔ TellApartFrom c.args.key.now c.args.inserted.now r) same (c.tell_apart_by.ensures c.args.key.now has.0 has.2)

pub returns-then-is_empty : goal.returns-then-is_empty
returns-then-is_empty g c = none_to_tell c.args.key.now c.args.inserted.now c.args.relation.now (c.is_empty.ensures.0 c.if-is_empty.true)
