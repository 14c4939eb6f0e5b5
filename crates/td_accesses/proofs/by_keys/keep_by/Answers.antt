use Rattle.std.proofs.Common.{◌<◌, List, get_or, length, sym, ap, ◌∙◌, subst}
use Rattle.std.proofs.lemmas.Result.{on_ok_weaker}
use Rattle.td_algebra.specs.KeyIndexes.{KeyIndexData}
use Rattle.td_accesses.specs.ForProofs.Growing.{AreIndexesGrown, IsBy}
use Rattle.td_accesses.proofs.Growing.{pushed_by, pushed_indexes, set_by, set_indexes}
use Rattle.td_accesses.proofs.by_keys.keep_by.Goals as goal

pub returns-in-Some-clause-kept : goal.returns-in-Some-clause-kept
returns-in-Some-clause-kept c =
    let xs = c.args.indexes.now.items in
    let i = c.in-Some.at in
    let lt = subst (λ (ys : List KeyIndexData). i < length ys) c.deref.ensures.value c.in-Some.ensures.0 in
    on_ok_weaker c.put_in.result (set_indexes c.args.key.now c.args.relation.now xs i c.index_mut.result.now c.put_in.new.index lt c.index_mut.ensures.value) c.put_in.ensures.kept

pub returns-in-Some-clause-there : goal.returns-in-Some-clause-there
returns-in-Some-clause-there c =
    let xs = c.args.indexes.now.items in
    let i = c.in-Some.at in
    let x = c.index_mut.result.now in
    let lt = subst (λ (ys : List KeyIndexData). i < length ys) c.deref.ensures.value c.in-Some.ensures.0 in
    let by = ap (λ (y : KeyIndexData). y.key) (c.index_mut.ensures.value ∙ ap (λ (ys : List KeyIndexData). get_or ys i x) (sym c.deref.ensures.value)) ∙ c.in-Some.ensures.1 x in
    set_by c.args.key.now c.args.relation.now xs i x c.put_in.new.index lt c.index_mut.ensures.value c.put_in.result by c.put_in.ensures.kept c.put_in.ensures.there

pub returns-in_ok-push-in-None-clause-kept : goal.returns-in_ok-push-in-None-clause-kept
returns-in_ok-push-in-None-clause-kept c =
    let xs = c.args.indexes.now.items in
    subst (AreIndexesGrown xs) (sym {A = List KeyIndexData} c.in_ok-push-in-None.ensures.items) (pushed_indexes c.args.key.now c.args.relation.now xs c.in_ok-new-in-None.field-0 c.in_ok-new-in-None.ensures)

pub returns-in_ok-push-in-None-clause-there : goal.returns-in_ok-push-in-None-clause-there
returns-in_ok-push-in-None-clause-there c = λ _.
    let key = c.args.key.now in
    let s = c.args.relation.now in
    subst (IsBy key s) (sym {A = List KeyIndexData} c.in_ok-push-in-None.ensures.items) (pushed_by key s c.args.indexes.now.items c.in_ok-new-in-None.field-0 c.in_ok-new-in-None.ensures)
