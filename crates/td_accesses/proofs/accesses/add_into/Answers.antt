use Rattle.std.proofs.Common.{◌<◌, List, get_or, length, sym, ap, ◌∙◌, subst}
use Rattle.std.proofs.lemmas.Result.{on_ok_weaker}
use Rattle.td_accesses.specs.ForProofs.Accessed.{AreInsertionsGrown, IsToldIn}
use Rattle.td_accesses.specs.declared.accesses.Insertions.{Insertions}
use Rattle.td_accesses.proofs.Growing.{pushed_insertions, pushed_told, set_insertions, set_told}
use Rattle.td_accesses.proofs.accesses.add_into.Goals as goal

pub returns-in-Some-clause-kept : goal.returns-in-Some-clause-kept
returns-in-Some-clause-kept c =
    let gs = c.args.all.now.items in
    let i = c.in-Some.at in
    let lt = subst (λ (hs : List Insertions). i < length hs) c.deref.ensures.value c.in-Some.ensures.0 in
    on_ok_weaker c.add_to.result (set_insertions gs i c.index_mut.result.now c.add_to.new.insertions lt c.index_mut.ensures.value) c.add_to.ensures.kept

pub returns-in-Some-clause-told : goal.returns-in-Some-clause-told
returns-in-Some-clause-told c =
    let gs = c.args.all.now.items in
    let i = c.in-Some.at in
    let g = c.index_mut.result.now in
    let lt = subst (λ (hs : List Insertions). i < length hs) c.deref.ensures.value c.in-Some.ensures.0 in
    let into = ap (λ (h : Insertions). h.relvar) (c.index_mut.ensures.value ∙ ap (λ (hs : List Insertions). get_or hs i g) (sym c.deref.ensures.value)) ∙ c.in-Some.ensures.1 g in
    set_told c.args.catalogue.now c.args.reads.now c.args.writes.now c.args.relvar c.args.relation.now gs i g c.add_to.new.insertions lt c.index_mut.ensures.value c.add_to.result into c.add_to.ensures.kept c.add_to.ensures.told

pub returns-in_ok-push-in-None-clause-kept : goal.returns-in_ok-push-in-None-clause-kept
returns-in_ok-push-in-None-clause-kept c =
    let gs = c.args.all.now.items in
    subst (AreInsertionsGrown gs) (sym {A = List Insertions} c.in_ok-push-in-None.ensures.items) (pushed_insertions gs c.add_to-in-None.new.insertions)

pub returns-in_ok-push-in-None-clause-told : goal.returns-in_ok-push-in-None-clause-told
returns-in_ok-push-in-None-clause-told c = λ is.
    let k = c.args.catalogue.now in
    let rs = c.args.reads.now in
    let ws = c.args.writes.now in
    let n = c.args.relvar in
    let s = c.args.relation.now in
    subst (IsToldIn k rs ws n s) (sym {A = List Insertions} c.in_ok-push-in-None.ensures.items)
    (pushed_told k rs ws n s c.args.all.now.items c.no_insertions-insertions.result c.add_to-in-None.new.insertions c.no_insertions-insertions.ensures c.in_ok-told-in-None.ensures.kept (c.in_ok-told-in-None.ensures.told is))
