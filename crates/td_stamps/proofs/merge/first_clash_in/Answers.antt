use Rattle.std.proofs.Common.{◌≡◌, ◌+◌, None, option_map, take, sym, ap, subst, arith}
use Rattle.td_stamps.specs.declared.entry.Entry.{Entry}
use Rattle.td_stamps.specs.Checks.{first_clash}
use Rattle.td_stamps.proofs.Sorting.{clash_between}
use Rattle.td_stamps.proofs.merge.first_clash_in.Goals as goal

pub returns : goal.returns
returns c =
    let held = c.args.held.now in
    let batch = c.args.batch.now in
    let k = c.loop-clear.clear in
    let next : c.loop-clear.clashing ≡ k + 1 = omega (arith, c.loop-clear.invariant.apart) in
    let clashing = subst (λ n. first_clash held (take n batch) ≡ None → ⊥) next c.loop-clear.invariant.clashing in
    let first = clash_between held batch k c.index-batch-clear.result (omega (arith, c.loop-clear.invariant.within)) c.index-batch-clear.is c.loop-clear.invariant.clear clashing in
    ap (option_map (λ (e : Entry). (e.site, e.seq))) (sym first)
