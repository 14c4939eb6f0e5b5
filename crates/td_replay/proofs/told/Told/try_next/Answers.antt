use Rattle.std.proofs.Common.{rules, ◌≡◌, ◌++◌, ◌∷◌, [], true, false, refl, sym, ◌∙◌, true≢false}
use Rattle.td_stamps.specs.Entries.{stamp_of}
use Rattle.td_replay.proofs.Telling.{read_is, unread_is}
use Rattle.td_replay.proofs.told.Told.try_next.Goals as goal

pub returns-then-not-is_unread : goal.returns-then-not-is_unread
returns-then-not-is_unread c =
    let d = c.args.self.now.engine in
    let log = c.args.self.now.log.items in
    let e = c.args.entry.now in
    let r = c.in_ok-tried.tried in
    let (after, notes) = c.in_ok-tried.ensures in
    let is_read : c.is_unread.result ≡ false = search rules in
    let read = read_is d after e.dialect e.text r.outcome notes.step (λ unread. true≢false (sym (c.is_unread.ensures.1 unread) ∙ is_read)) in (
      after,
      log ++ (stamp_of e, r) ∷ [],
      record {
        ran = r;
        runs = record { notes = notes; log_is = refl };
        told = refl;
        statement = read.0;
        read = read.1;
      },
    )

pub returns : goal.returns
returns c =
    let d = c.args.self.now.engine in
    let e = c.args.entry.now in
    let (after, notes) = c.in_ok-tried.ensures in
    let is_not_read : c.is_unread.result ≡ true = search rules in
    unread_is d after e.dialect e.text c.in_ok-tried.tried.outcome notes.step (c.is_unread.ensures.0 is_not_read)
