use Rattle.std.proofs.Common.{◌≡◌, ◌⊎◌, ◌++◌, ◌∷◌, [], inl, inr, ⊎_elim, ℕ, true, List, sym, subst, arith}
use Rattle.std.proofs.lemmas.List.{take_all}
use Rattle.std.proofs.lemmas.List.Elements.{All-push}
use Rattle.std.specs.List.{Contains}
use Rattle.td_stamps.specs.declared.entry.Entry.{Entry}
use Rattle.td_stamps.specs.Sets.{has}
use Rattle.td_rollback.specs.ForProofs.Standing.{AreRead}
use Rattle.td_rollback.specs.Touched.{IsTargetOf}
use Rattle.td_rollback.proofs.Members.{front_cases, targets_more}
use Rattle.td_rollback.proofs.replaying.read_all.Goals as goal

-- what was read of one entry more is kept, or not
kept : {R : Type 0} (IsRead : Entry → R → Type 0) (old new : List (Entry × R)) (e : Entry) (r : R) → AreRead IsRead old → IsRead e r → (new ≡ old ++ (e, r) ∷ []) ⊎ (new ≡ old) → AreRead IsRead new
kept IsRead old new e r are is (inl more) = subst (AreRead IsRead) (sym more) (All-push (λ p. IsRead p.0 p.1) old (e, r) are is)
kept IsRead old new e r are is (inr same) = subst (AreRead IsRead) (sym same) are

pub loop-entry-preserved : goal.loop-entry-preserved
loop-entry-preserved g c =
    let m = g.M.Machine in
    let o = m.origin c.args.machine.now in
    let l = c.loop-entry in
    let e = c.entry-item.result in
    let read = c.in_ok-reading.ensures in
    let entries = c.args.entries.now in
    record {
      places = targets_more (m.footprint o) entries l.entry-index e c.loop-entry-test.true c.entry-item.is c.places_of.result.now l.places.items c.add.new.names.items (c.places_of.ensures o e read) l.invariant.places c.in_ok-add.ensures;
      covered = λ f h. ⊎_elim
          (λ one. subst (m.covers o c.add_accesses.new.accesses) (sym one) (c.in_ok-add_accesses.ensures.covered e read))
          (λ before. c.in_ok-add_accesses.ensures.kept f (l.invariant.covered f before))
          (front_cases entries l.entry-index e f c.loop-entry-test.true c.entry-item.is h);
      read = kept (m.is_read o) l.readings.items c.keep_reading.new.readings.items e c.in_ok-reading.reading l.invariant.read read c.in_ok-keep_reading.ensures;
    }

pub returns-clause-places : goal.returns-clause-places
returns-clause-places g c =
    let m = g.M.Machine in
    let l = c.loop-entry in
    let end = c.loop-entry-test.false in
    subst (λ (fs : List Entry). (n : ℕ) → IsTargetOf (m.footprint (m.origin c.args.machine.now)) fs n → Contains l.places.items n) (take_all l.entry-index c.args.entries.now (omega (arith, end))) l.invariant.places

pub returns-clause-covered : goal.returns-clause-covered
returns-clause-covered g c =
    let m = g.M.Machine in
    let l = c.loop-entry in
    let end = c.loop-entry-test.false in
    subst (λ (fs : List Entry). (e : Entry) → has fs e ≡ true → m.covers (m.origin c.args.machine.now) l.accesses e) (take_all l.entry-index c.args.entries.now (omega (arith, end))) l.invariant.covered
