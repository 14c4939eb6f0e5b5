use Rattle.std.proofs.Common.{◌≡◌, ◌≤◌, ◌-◌, ◌++◌, List, drop, take, length, length-drop, vec_capacity, ap, sym, subst, ◌∙◌, arith}
use Rattle.std.proofs.lemmas.List.{take-append-drop}
use Rattle.td_stamps.specs.declared.entry.Stamp.{Stamp}
use Rattle.td_rollback.specs.Going.{Begins}
use Rattle.td_rollback.specs.Parts.{interleaved, marked, unmarked}
use Rattle.td_rollback.proofs.Parting as parting
use Rattle.td_rollback.proofs.replaying.replay_behind.Goals as goal

pub replay_parted-ran-requires-clause-history : goal.replay_parted-ran-requires-clause-history
replay_parted-ran-requires-clause-history g c =
    let m = g.M.Machine in
    let end_is : c.in_ok-end.end.items ≡ drop c.args.kept c.args.log.now.items = c.in_ok-end.ensures.tail ∙ ap (drop c.args.kept) c.in_ok-reserve.ensures.items in
    let o = c.requires.history.0 in
    (o, subst (λ (ps : List (Stamp × g.row.M-Record.Denot)). Begins m.sound m.origin m.steps o c.args.told.entries.items (marked c.args.told.marks.items ps) c.args.machine.now) (sym end_is) c.requires.history.1)

pub unwrap-requires : goal.unwrap-requires
unwrap-requires g c =
    let log = c.args.log.now.items in
    let kept = c.args.kept in
    let cs = c.args.all.marks.items in
    let end_is : c.in_ok-end.end.items ≡ drop kept log = c.in_ok-end.ensures.tail ∙ ap (drop kept) c.in_ok-reserve.ensures.items in
    let now = c.replay_parted-ran.new.log in
    let most = vec_capacity c.split_off.new.self - kept in
    let room = c.in_ok-reserve.ensures.ok in
    let capacity = c.in_ok-end.ensures.capacity in
    let sub = c.saturating_sub.ensures in
    let all_len = c.len.ensures in
    let told_len = c.len-2.ensures in
    let all_ok = c.args.all.marks.ok.0 in
    let told_ok = c.args.told.marks.ok.0 in
    let log_ok = c.args.log.now.ok.0 in
    let reserved = c.in_ok-reserve.ensures.len in
    let each = c.requires.each in
    let within = c.requires.front in
    let behind = length-drop kept log in
    let is_all : length cs ≤ most = omega (arith, room, capacity, sub, all_len, told_len, all_ok, told_ok, log_ok, reserved, each, within, behind) in
    let is_end : length c.in_ok-end.end.items ≤ most = let many = ap length end_is in omega (arith, room, capacity, log_ok, reserved, within, behind, many) in
    let fits : length now.items ≤ most = parting.within_room c.replay_parted-ran.result (length now.items) (length cs) (length c.in_ok-end.end.items) most is_all is_end
    (parting.on_ok c.replay_parted-ran.result (λ ran. let many = ap length ran.1 in let few = parting.fewer_interleaved cs ran.0 (unmarked c.args.told.marks.items c.in_ok-end.end.items) in omega (arith, many, few)) c.replay_parted-ran.ensures.history)
    (parting.on_err c.replay_parted-ran.result (λ same. ap length same.1) c.replay_parted-ran.ensures.kept) in
    let front = c.in_ok-end.ensures.len in
    let now_ok = now.ok.0 in
    c.append.ensures.succeeds (omega (arith, fits, front, now_ok, room, capacity, log_ok, reserved, within))

pub returns-clause-history : goal.returns-clause-history
returns-clause-history g c =
    let m = g.M.Machine in
    let log = c.args.log.now.items in
    let kept = c.args.kept in
    let bs = c.args.told.marks.items in
    let end_is : c.in_ok-end.end.items ≡ drop kept log = c.in_ok-end.ensures.tail ∙ ap (drop kept) c.in_ok-reserve.ensures.items in
    let front_is : c.split_off.new.self.items ≡ take kept log = c.in_ok-end.ensures.items ∙ ap (take kept) c.in_ok-reserve.ensures.items in
    let all : c.append.new.self.items ≡ c.split_off.new.self.items ++ c.replay_parted-ran.new.log.items = rw c.unwrap.ensures at c.append.ensures.items in
    parting.on_ok c.replay_parted-ran.result (λ ran.
    let behind = ran.1 ∙ ap (λ (ps : List (Stamp × g.row.M-Record.Denot)). interleaved c.args.all.marks.items ran.0 (unmarked bs ps)) end_is in (
      ran.0,
      all ∙ (λ i. front_is i ++ behind i),
      λ o begun. ran.2 o (subst (λ (ps : List (Stamp × g.row.M-Record.Denot)). Begins m.sound m.origin m.steps o c.args.told.entries.items (marked bs ps) c.args.machine.now) (sym end_is) begun),
    ))
    c.replay_parted-ran.ensures.history

pub returns-clause-kept : goal.returns-clause-kept
returns-clause-kept g c =
    let log = c.args.log.now.items in
    let kept = c.args.kept in
    let end_is : c.in_ok-end.end.items ≡ drop kept log = c.in_ok-end.ensures.tail ∙ ap (drop kept) c.in_ok-reserve.ensures.items in
    let front_is : c.split_off.new.self.items ≡ take kept log = c.in_ok-end.ensures.items ∙ ap (take kept) c.in_ok-reserve.ensures.items in
    let all : c.append.new.self.items ≡ c.split_off.new.self.items ++ c.replay_parted-ran.new.log.items = rw c.unwrap.ensures at c.append.ensures.items in
    parting.on_err c.replay_parted-ran.result (λ same. let behind = same.1 ∙ end_is in (same.0, all ∙ (λ i. front_is i ++ behind i) ∙ take-append-drop kept log)) c.replay_parted-ran.ensures.kept
