use Rattle.std.proofs.Common.{◌++◌, ◌∷◌, [], sym, ap, ◌∙◌, true≢false}
use Rattle.td_stamps.specs.declared.entry.Stamp.{Stamp}
use Rattle.td_replay.specs.ForProofs.Told.{Log}
use Rattle.td_replay.proofs.Telling.{read_is, unread_is, unread_stays}
use Rattle.td_replay.proofs.told.Told.tell_next.Goals as goal

pub returns-then-is_unread-clause-told : goal.returns-then-is_unread-clause-told
returns-then-is_unread-clause-told c =
    let d = c.args.self.now.engine in
    let e = c.run.new.self in
    let k = c.args.entry.now.dialect in
    let text = c.args.entry.now.text in
    let o = c.in_ok-ran.ran.outcome in
    let step = c.in_ok-ran.ensures.step.step in
    let is = c.is_unread.ensures.0 c.if-is_unread.true in
    (unread_stays d e k text o step is, c.in_ok-reserve.ensures.items, unread_is d e k text o step is)

pub returns-clause-told : goal.returns-clause-told
returns-clause-told c =
    let d = c.args.self.now.engine in
    let e = c.run.new.self in
    let log = c.args.self.now.log.items in
    let entry = c.args.entry.now in
    let r = c.in_ok-ran.ran in
    let notes = c.in_ok-ran.ensures.step in
    let items = c.push.ensures.items in
    let said = rw c.unwrap.ensures at items in
    let read = read_is d e entry.dialect entry.text r.outcome notes.step (λ unread. true≢false (sym (c.is_unread.ensures.1 unread) ∙ c.if-is_unread.false)) in
    record {
      ran = r;
      runs = record {
        notes = notes;
        log_is = said
            ∙ ap (λ (l : Log). l ++ (c.stamp.result, r) ∷ []) c.in_ok-reserve.ensures.items
            ∙ ap (λ (s : Stamp). log ++ (s, r) ∷ []) c.stamp.ensures;
      };
      told = c.in_ok-told.ensures.copy;
      statement = read.0;
      read = read.1;
    }
