use Rattle.std.proofs.Common.{◌≡◌, ◌+◌, ◌-◌, ◌∷◌, ◌++◌, List, ℕ, drop, length, take, ap, refl, subst, ◌∙◌, rules, arith}
use Rattle.std.specs.List.{insert}
use Rattle.std.proofs.lemmas.List.Edits.{insert-append_right}
use Rattle.td_rollback.specs.Parts.{interleaved}
use Rattle.td_rollback.proofs.Placing as placing
use Rattle.td_rollback.proofs.marks.insert_marked.Goals.{then-marks-place, else-marks-place}
use Rattle.td_rollback.proofs.marks.insert_marked.Goals as goal

pub returns-then-len-eq0 : goal.returns-then-len-eq0
returns-then-len-eq0 g c =
    let l = c.loop-place in
    let old = c.args.all.now.items in
    let kept = c.args.kept in
    let end = interleaved c.args.marks.now c.args.items.items (drop kept old) in
    let behind = l.invariant.placed in
    let none = c.if-len-eq0.true in
    let is = c.len.ensures in
    let left : length l.items.rest.items ≡ 0 = search rules in
    behind.1 ∙ ap (λ (zs : List g.row.X.Denot). take kept old ++ zs) (placing.none_to_place c.args.marks.now end behind.0 l.items.rest.items l.place left behind.2)

pub loop-place-preserved : goal.loop-place-preserved
loop-place-preserved g c =
    let l = c.loop-place in
    let marks = c.args.marks.now in
    let kept = c.args.kept in
    let front = take kept c.args.all.now.items in
    let end = interleaved marks c.args.items.items (drop kept c.args.all.now.items) in
    let in_marks = c.loop-place-test.true in
    let room = l.invariant.room in
    let ys = l.invariant.placed.0 in
    let is = l.invariant.placed.1 in
    let p = l.invariant.placed.2 in
    elim c.if-marks-place.branch [
      | then-marks-place k ↦
          let x = k.unwrap.result in
          let left : l.items.rest.items ≡ x ∷ k.next.new.self.rest.items = rw k.unwrap.ensures at k.next.ensures.items in
          let inserted : k.insert.new.self.items ≡ insert l.all.items (kept + l.place) x = rw k.unwrap-then-marks-place.ensures at k.insert.ensures.items in
          let place : kept + l.place - kept ≡ l.place = omega arith in
          let put : k.insert.new.self.items ≡ front ++ insert ys l.place x = inserted
          ∙ ap (λ (zs : List g.row.X.Denot). insert zs (kept + l.place) x) is
          ∙ insert-append_right front ys kept (kept + l.place) x l.invariant.front (omega arith)
          ∙ ap (λ (n : ℕ). front ++ insert ys n x) place in
          let before = subst (λ (xs : List g.row.X.Denot). placing.Placed marks end ys xs l.place) left p in
          let rest = ap (λ v. v.rest.items) k.items-is in
          let many = ap length left in
          let within = l.invariant.front in
          let more : length k.insert.new.self.items ≡ length l.all.items + 1 = search rules in
          let grows = k.insert.ensures.capacity in
          record {
            placed = (insert ys l.place x, ap (λ v. v.items) k.all-is ∙ put, rw rest (placing.placed marks end ys k.next.new.self.rest.items l.place in_marks x (insert ys l.place x) k.if-marks-place.true refl before));
            front = l.invariant.front;
            room = rw (k.all-is, k.items-is) (omega (arith, room, many, more, grows));
          }
      | else-marks-place k ↦
          let rest = ap (λ v. v.rest.items) k.items-is in
          record {
            placed = (ys, ap (λ v. v.items) k.all-is ∙ is, rw rest (placing.passed marks end ys l.items.rest.items l.place in_marks k.if-marks-place.false p));
            front = l.invariant.front;
            room = rw (k.all-is, k.items-is) room;
          }
    ]
