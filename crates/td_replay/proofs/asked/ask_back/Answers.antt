use Rattle.std.proofs.Common.{◌≤◌, IfOk, ap, drop, length, sym, subst, ◌∙◌, arith}
use Rattle.std.specs.List.{All, filter}
use Rattle.td_semantics.specs.Databases.{Belongs, DatabaseData, stored_relvars}
use Rattle.td_relvars.specs.Evaluated.{EvaluatesTo}
use Rattle.td_relvars.specs.Parts.{with_copies, part_of}
use Rattle.td_replay.specs.Noted.{opened_by}
use Rattle.td_replay.specs.ForProofs.Past.{is_changed_in}
use Rattle.td_replay.specs.ForProofs.Told.{IsLogged, Log}
use Rattle.td_replay.proofs.Copies.{as_many, copied_now, copies_belong, says_back, was_of, was_sound}
use Rattle.td_replay.proofs.Telling.{logged_sound}
use Rattle.td_replay.proofs.asked.ask_back.Goals as goal

pub split_at-requires : goal.split_at-requires
split_at-requires c =
    let q = c.requires.logged in
    let e = as_many q.0 q.1 c.args.told.now.log.items c.args.told.now.engine q.2 in
    let le = q.3 in
    subst (λ (ps : Log). c.args.kept ≤ length ps) (sym c.deref.ensures.value) (omega (arith, e, le))

pub undo_behind-requires-clause-kept : goal.undo_behind-requires-clause-kept
undo_behind-requires-clause-kept c =
    let q = c.requires.logged in
    let e = as_many q.0 q.1 c.args.told.now.log.items c.args.told.now.engine q.2 in
    let le = q.3 in
    subst (λ (ps : Log). c.args.kept ≤ length ps) (sym c.deref-4.ensures.value) (omega (arith, e, le))

pub undo_behind-requires-clause-now : goal.undo_behind-requires-clause-now
undo_behind-requires-clause-now c =
    let q = c.requires.logged in
    let d = c.args.told.now.engine in
    let l = subst (λ (ps : Log). IsLogged q.0 q.1 ps d) (sym c.deref-4.ensures.value) q.2 in
    let places = c.deref-3.result.now in
    let is = c.in_ok-part.ensures.copies ∙ ap (λ (z : DatabaseData). part_of z.stored places) c.database-database.ensures.same in
    (opened_by d.catalogue, d, q.1, places, l.sound, as_many q.0 q.1 c.deref-4.result.now d l, copied_now q.0 q.1 c.deref-4.result.now d l (logged_sound q.0 q.1 c.deref-4.result.now d l).0 places c.in_ok-part.part.copies is)

pub value_over-requires-clause-part : goal.value_over-requires-clause-part
value_over-requires-clause-part c =
    let q = c.requires.logged in
    let d = c.args.told.now.engine in
    let log = c.deref-4.result.now in
    let l = subst (λ (ps : Log). IsLogged q.0 q.1 ps d) (sym c.deref-4.ensures.value) q.2 in
    let places = c.deref-3.result.now in
    let is = c.in_ok-part.ensures.copies ∙ ap (λ (z : DatabaseData). part_of z.stored places) c.database-database.ensures.same in
    let sound = (logged_sound q.0 q.1 log d l).0 in
    let at = c.in_ok-undo_behind.ensures (opened_by d.catalogue) d q.1 places l.sound (as_many q.0 q.1 log d l) (copied_now q.0 q.1 log d l sound places c.in_ok-part.part.copies is) in
    let now = c.undo_behind.new.part.copies in
    let all = copies_belong d sound at.state (was_sound q.0 q.1 log d l places c.args.kept now at).0 (was_of q.0 q.1 log d l places c.args.kept now at) now at.copied in
    subst (λ (z : DatabaseData). All (λ p. Belongs z.catalogue p.0 p.1) now) (sym c.database-database.ensures.same) all

pub returns : goal.returns
returns c = λ script es m kept.
    let d = c.args.told.now.engine in
    let log = c.deref-4.result.now in
    let l = subst (λ (ps : Log). IsLogged script es ps d) (sym c.deref-4.ensures.value) m in
    let places = c.deref-3.result.now in
    let is = c.in_ok-part.ensures.copies ∙ ap (λ (z : DatabaseData). part_of z.stored places) c.database-database.ensures.same in
    let sound = (logged_sound script es log d l).0 in
    let at = c.in_ok-undo_behind.ensures (opened_by d.catalogue) d es places l.sound (as_many script es log d l) (copied_now script es log d l sound places c.in_ok-part.part.copies is) in
    let now = c.undo_behind.new.part.copies in
    let t = c.requires.typed in
    let x = c.args.query.now in
    let says = subst (λ (z : DatabaseData). IfOk c.value_over.result (EvaluatesTo z.catalogue (with_copies now (stored_relvars z.stored)) x)) c.database-database.ensures.same c.value_over.ensures in
    let behind = c.split_at.ensures.back ∙ ap (drop c.args.kept) (c.deref.ensures.value ∙ sym c.deref-4.ensures.value) in
    let named = c.deref-2.ensures.value ∙ c.in_ok-relvars.ensures in
    let read = c.deref-3.ensures.value ∙ c.in_ok-places.ensures ∙ (λ i. filter (is_changed_in (behind i)) (named i)) in
    says_back script es log d l places c.args.kept now at x c.value_over.result sound t.0 t.1 read says
