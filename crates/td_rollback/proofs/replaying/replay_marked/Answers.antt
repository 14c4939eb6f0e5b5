use Rattle.std.proofs.Common.{◌≡◌, ◌∷◌, ◌++◌, [], List, drop, take, length, eqb-true, vec_len, refl, ap, sym, subst, ◌∙◌, arith}
use Rattle.td_stamps.specs.declared.entry.Entry.{Entry}
use Rattle.td_stamps.specs.declared.entry.Stamp.{Stamp}
use Rattle.td_rollback.specs.Going.{Begins}
use Rattle.td_rollback.specs.Parts.{interleaved, marked, unmarked}
use Rattle.td_rollback.proofs.Parting as parting
use Rattle.td_rollback.proofs.Unmarked.{all_stay, none_chosen, unmarked_by}
use Rattle.td_rollback.proofs.replaying.replay_marked.Goals as goal

none_in : {X : Type 0} (xs : List X) → length xs ≡ 0 → xs ≡ []
none_in [] none = refl
none_in (x ∷ xs) none = absurd (omega (arith, none))

pub replay_beside-requires-clause-history : goal.replay_beside-requires-clause-history
replay_beside-requires-clause-history g c =
    let m = g.M.Machine in
    let bs = c.args.told.marks.items in
    let log = drop c.args.kept c.args.log.now.items in
    let o = c.requires.history.0 in
    let zero = eqb-true (vec_len c.args.told.entries) 0 (sym c.is_empty.ensures ∙ c.if-is_empty.true) in
    let ok = c.args.told.entries.ok.0 in
    let empty = none_in c.args.told.entries.items (omega (arith, zero, ok)) in
    let none = unmarked_by bs c.requires.told.0 c.requires.told.2 (sym c.requires.told.1 ∙ empty) in (
      o,
      subst (λ (ps : List (Stamp × g.row.M-Record.Denot)). Begins m.sound m.origin m.steps o [] ps c.args.machine.now) (none_chosen bs log none)
          (subst (λ (es : List Entry). Begins m.sound m.origin m.steps o es (marked bs log) c.args.machine.now) empty c.requires.history.1),
    )

pub replay_beside-requires-clause-others : goal.replay_beside-requires-clause-others
replay_beside-requires-clause-others g c =
    let bs = c.args.told.marks.items in
    let log = drop c.args.kept c.args.log.now.items in
    let zero = eqb-true (vec_len c.args.told.entries) 0 (sym c.is_empty.ensures ∙ c.if-is_empty.true) in
    let ok = c.args.told.entries.ok.0 in
    let empty = none_in c.args.told.entries.items (omega (arith, zero, ok)) in
    let none = unmarked_by bs c.requires.told.0 c.requires.told.2 (sym c.requires.told.1 ∙ empty) in
    let each = c.requires.each in
    ap length (sym (all_stay bs log (omega (arith, each)) none)) ∙ c.requires.others

pub returns-then-len-le-MOST_INSERTED-clause-history : goal.returns-then-len-le-MOST_INSERTED-clause-history
returns-then-len-le-MOST_INSERTED-clause-history g c =
    let m = g.M.Machine in
    let bs = c.args.told.marks.items in
    let log = drop c.args.kept c.args.log.now.items in
    let zero = eqb-true (vec_len c.args.told.entries) 0 (sym c.is_empty.ensures ∙ c.if-is_empty.true) in
    let ok = c.args.told.entries.ok.0 in
    let empty = none_in c.args.told.entries.items (omega (arith, zero, ok)) in
    let none = unmarked_by bs c.requires.told.0 c.requires.told.2 (sym c.requires.told.1 ∙ empty) in
    let each = c.requires.each in
    let stays : unmarked bs log ≡ log = all_stay bs log (omega (arith, each)) none in
    parting.on_ok c.replay_beside.result (λ ran. (
      ran.0,
      ran.1 ∙ ap (λ (ps : List (Stamp × g.row.M-Record.Denot)). take c.args.kept c.args.log.now.items ++ interleaved c.args.all.marks.items ran.0 ps) (sym stays),
      λ o begun. ran.2 o (subst (λ (ps : List (Stamp × g.row.M-Record.Denot)). Begins m.sound m.origin m.steps o [] ps c.args.machine.now) (none_chosen bs log none)
          (subst (λ (es : List Entry). Begins m.sound m.origin m.steps o es (marked bs log) c.args.machine.now) empty begun)),
    ))
    c.replay_beside.ensures.history
