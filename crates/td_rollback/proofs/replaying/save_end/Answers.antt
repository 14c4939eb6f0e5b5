use Rattle.std.proofs.Common.{ℕ, List, sym, subst, ⊎_elim}
use Rattle.std.specs.List.{Contains}
use Rattle.td_rollback.proofs.Ends.{if_more}
use Rattle.td_rollback.proofs.Members.{has_drop}
use Rattle.td_rollback.proofs.replaying.save_end.Goals as goal

pub returns : goal.returns
returns g c =
    let named = c.in_ok-places.ensures in
    if_more c.save.result _ _ (λ part saved. (
      c.deref.result.now,
      saved,
      λ n h.
          let from = c.requires.fresh h.0 n (has_drop c.args.kept c.args.new.now h.0 h.1) h.2 in
          subst (λ (ns : List ℕ). Contains ns n) (sym c.deref.ensures.value) (⊎_elim (λ old. named.old n (h.0, old, h.2)) (λ fresh. named.fresh n fresh) from),
    )) c.save.ensures
