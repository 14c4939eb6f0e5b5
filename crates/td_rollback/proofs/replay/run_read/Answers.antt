use Rattle.std.proofs.Common.{◌↔◌, ◌⊎◌, ⊎_elim, inl, inr, ℕ, List, refl, subst}
use Rattle.std.specs.List.{Contains}
use Rattle.td_rollback.proofs.replay.run_read.Goals as goal

pub returns-clause-names : goal.returns-clause-names
returns-clause-names g c = λ n.
    let m = g.M.Machine in
    let goes = g.met.M.Machine.goes (m.origin c.args.machine.now) in
    let are = goes.name_targets c.args.machine.now c.run_read.new.self c.args.entry.now c.in_ok-ran.ran (c.requires.sound, refl) (c.in_ok-ran.ensures.step c.args.entry.now c.requires.read) n in
    let adds : Contains c.add.new.names.items n ↔ (Contains (m.targets_in c.in_ok-ran.ran) n ⊎ Contains c.args.names.now.items n) = subst (λ (ns : List ℕ). Contains c.add.new.names.items n ↔ (Contains ns n ⊎ Contains c.args.names.now.items n)) c.targets_of.ensures (c.in_ok-add.ensures n) in (
      λ h. ⊎_elim (λ new. inl (are.0 new)) (λ old. inr old) (adds.0 h),
      λ h. adds.1 (⊎_elim (λ new. inl (are.1 new)) (λ old. inr old) h),
    )
