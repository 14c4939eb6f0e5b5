use Rattle.std.proofs.Common.{Ok, sym, ap, ◌∙◌}
use Rattle.td_relations.specs.Deltas.{inverse_of}
use Rattle.td_bases.specs.Bases.{BaseData}
use Rattle.td_relvars.proofs.Bases.{base_changed, keys_stay, stands_kept}
use Rattle.td_relvars.proofs.Places.{ok_same}
use Rattle.td_relvars.proofs.database.go_back_at.Goals as goal

pub go_back-requires-clause-way : goal.go_back-requires-clause-way
go_back-requires-clause-way c =
    let n = c.args.relvar in
    let xs = c.args.stored.now.items in
    let b = c.in-Some.base in
    let k = c.requires.there in
    let w = c.requires.way in
    let has = stands_kept n xs c.index_mut.result.now b c.index_mut.ensures.value c.in-Some.is k.relation k.has in
    (w.0, w.2, ok_same b.rows _ (sym has ∙ w.1))

pub returns-clause-back : goal.returns-clause-back
returns-clause-back c =
    let n = c.args.relvar in
    let xs = c.args.stored.now.items in
    let b = c.in-Some.base in
    let k = c.requires.there in
    let has = stands_kept n xs c.index_mut.result.now b c.index_mut.ensures.value c.in-Some.is k.relation k.has in
    base_changed {E = Unit {0}} (Ok tt) n xs b c.go_back.new.self (inverse_of c.args.delta.now) has c.go_back.ensures

pub returns-clause-keys : goal.returns-clause-keys
returns-clause-keys c =
    keys_stay c.args.relvar c.args.stored.now.items c.index_mut.result.now c.in-Some.base c.index_mut.ensures.value c.in-Some.is c.go_back.new.self (ap (λ (b : BaseData). b.key) c.go_back.ensures)
