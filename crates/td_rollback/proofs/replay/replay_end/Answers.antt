use Rattle.std.proofs.Common.{◌≡◌, ◌↔◌, ◌⊎◌, ℕ, List, length, drop, get_or, length-append, refl, ap, sym, subst, ◌∙◌, false, arith}
use mathlib.Core.Bool.{true≢false}
use Rattle.std.specs.List.{Contains}
use Rattle.td_stamps.specs.Sets.{has}
use Rattle.td_rollback.specs.ForProofs.Standing.{Begun}
use Rattle.td_rollback.specs.ForProofs.Ways.{way_of}
use Rattle.td_rollback.proofs.Coming as coming
use Rattle.td_rollback.proofs.Coming.{Coming, Old}
use Rattle.td_rollback.proofs.Members.{has_at}
use Rattle.td_rollback.proofs.Standing as standing
use Rattle.td_rollback.proofs.replay.replay_end.Goals.{then-at-old+then-is_old+then-names_any+in_ok-run_again, then-at-old+then-is_old+else-names_any+in_ok-keep_record, else-at-old+in_ok-run_fresh, else-at-old-via-then-at-old+else-is_old, else-at-old-via-else-at-old}
use Rattle.td_rollback.proofs.replay.replay_end.Goals as goal

pub loop-entry-init : goal.loop-entry-init
loop-entry-init g c =
    let m = g.M.Machine in
    let o = m.origin c.args.machine.now in
    let w = way_of m.sound m.steps m.alike m.origin m.footprint m.targets m.footprint_in m.targets_in g.met.M.Machine.goes o in
    let b : Begun g.row.M.Denot g.row.M-Record.Denot = record { state = c.args.machine.now; old = c.args.old.now; log = c.args.log.now; new = c.args.new.now; count = m.count c.args.meter.now } in
    let stands = standing.begins w b c.requires.history.0 (c.requires.sound, refl) c.requires.history.1 c.requires.more in
    record {
      within = omega arith;
      stands = rw (c.new-names.ensures.items, c.new-turns.ensures.items) stands;
      elsewhere = λ n never. (g.met.M.Machine.goes o).alike_self c.args.machine.now n;
      origin = refl;
      many = ap length c.new-turns.ensures.items;
    }

pub is_old-requires : goal.is_old-requires
is_old-requires g c =
    let l = c.loop-entry in
    let old = c.args.old.now in
    let new = c.args.new.now in
    (old, new, c.requires.more, has_at old l.at c.index-old-at.result c.if-at-old.true c.index-old-at.is, has_at new l.entry-index c.entry-item.result c.loop-entry-test.true c.entry-item.is)

pub returns-in_err-run_again-clause-counted : goal.returns-in_err-run_again-clause-counted
returns-in_err-run_again-clause-counted g c = λ n runs.
    let m = g.M.Machine in
    let l = c.loop-entry in
    let w = way_of m.sound m.steps m.alike m.origin m.footprint m.targets m.footprint_in m.targets_in g.met.M.Machine.goes (m.origin c.args.machine.now) in
    let b : Begun g.row.M.Denot g.row.M-Record.Denot = record { state = c.args.machine.now; old = c.args.old.now; log = c.args.log.now; new = c.args.new.now; count = m.count c.args.meter.now } in
    let a : Coming w b = record { i = l.entry-index; entry = c.entry-item.result; within = c.loop-entry-test.true; is = c.entry-item.is; at = l.at; names = l.names.items; turns = l.turns.items; state = l.machine; count = m.count l.meter; stands = l.invariant.stands; elsewhere = l.invariant.elsewhere } in
    let o : Old w b a = record { old = c.index-old-at.result; within = c.if-at-old.true; is = c.index-old-at.is; one = sym c.is_old.ensures ∙ c.if-is_old.true; each = c.requires.each; other = c.index-log-at.result } in
    let met = subst (λ (ns : List ℕ). (k : ℕ) × Contains ns k × Contains l.names.items k) c.footprint_of.ensures (subst (λ (ns : List ℕ). (k : ℕ) × Contains c.footprint_of.result.now k × Contains ns k) c.deref.ensures.value (c.names_any.ensures.0 c.if-names_any.true)) in
    let most = coming.again_counted w b a o met n runs in
    let few = c.run_again.ensures.counted in
    omega (arith, most, few)

pub returns-in_err-run_again-clause-elsewhere : goal.returns-in_err-run_again-clause-elsewhere
returns-in_err-run_again-clause-elsewhere g c =
    let m = g.M.Machine in
    let l = c.loop-entry in
    let w = way_of m.sound m.steps m.alike m.origin m.footprint m.targets m.footprint_in m.targets_in g.met.M.Machine.goes (m.origin c.args.machine.now) in
    let b : Begun g.row.M.Denot g.row.M-Record.Denot = record { state = c.args.machine.now; old = c.args.old.now; log = c.args.log.now; new = c.args.new.now; count = m.count c.args.meter.now } in
    let a : Coming w b = record { i = l.entry-index; entry = c.entry-item.result; within = c.loop-entry-test.true; is = c.entry-item.is; at = l.at; names = l.names.items; turns = l.turns.items; state = l.machine; count = m.count l.meter; stands = l.invariant.stands; elsewhere = l.invariant.elsewhere } in
    coming.still_elsewhere w b a c.run_again.new.machine (subst (λ (q : g.row.M.Denot). (n : ℕ) → (m.targets q c.entry-item.result n → ⊥) → m.alike l.machine c.run_again.new.machine n) l.invariant.origin c.run_again.ensures.elsewhere)

pub returns-in_err-run_fresh-clause-counted : goal.returns-in_err-run_fresh-clause-counted
returns-in_err-run_fresh-clause-counted g c = λ n runs.
    let m = g.M.Machine in
    let l = c.loop-entry in
    let w = way_of m.sound m.steps m.alike m.origin m.footprint m.targets m.footprint_in m.targets_in g.met.M.Machine.goes (m.origin c.args.machine.now) in
    let b : Begun g.row.M.Denot g.row.M-Record.Denot = record { state = c.args.machine.now; old = c.args.old.now; log = c.args.log.now; new = c.args.new.now; count = m.count c.args.meter.now } in
    let a : Coming w b = record { i = l.entry-index; entry = c.entry-item.result; within = c.loop-entry-test.true; is = c.entry-item.is; at = l.at; names = l.names.items; turns = l.turns.items; state = l.machine; count = m.count l.meter; stands = l.invariant.stands; elsewhere = l.invariant.elsewhere } in
    let lacks : has (drop l.at c.args.old.now) c.entry-item.result ≡ false = elim c.else-at-old.branch [
      | else-at-old-via-then-at-old+else-is_old k ↦ coming.lacks_before w b a k.index-old-at.result k.if-at-old.true k.index-old-at.is (sym k.is_old.ensures ∙ k.if-is_old.false)
      | else-at-old-via-else-at-old k ↦ coming.lacks_at_end w b a (let end = k.if-at-old.false in omega (arith, end))
    ] in
    let most = coming.fresh_counted w b a lacks n runs in
    let few = c.run_fresh.ensures.counted in
    omega (arith, most, few)

pub returns-in_err-run_fresh-clause-elsewhere : goal.returns-in_err-run_fresh-clause-elsewhere
returns-in_err-run_fresh-clause-elsewhere g c =
    let m = g.M.Machine in
    let l = c.loop-entry in
    let w = way_of m.sound m.steps m.alike m.origin m.footprint m.targets m.footprint_in m.targets_in g.met.M.Machine.goes (m.origin c.args.machine.now) in
    let b : Begun g.row.M.Denot g.row.M-Record.Denot = record { state = c.args.machine.now; old = c.args.old.now; log = c.args.log.now; new = c.args.new.now; count = m.count c.args.meter.now } in
    let a : Coming w b = record { i = l.entry-index; entry = c.entry-item.result; within = c.loop-entry-test.true; is = c.entry-item.is; at = l.at; names = l.names.items; turns = l.turns.items; state = l.machine; count = m.count l.meter; stands = l.invariant.stands; elsewhere = l.invariant.elsewhere } in
    coming.still_elsewhere w b a c.run_fresh.new.machine (subst (λ (q : g.row.M.Denot). (n : ℕ) → (m.targets q c.entry-item.result n → ⊥) → m.alike l.machine c.run_fresh.new.machine n) l.invariant.origin c.run_fresh.ensures.elsewhere)

pub keep_record-requires : goal.keep_record-requires
keep_record-requires g c =
    let m = g.M.Machine in
    let l = c.loop-entry in
    let w = way_of m.sound m.steps m.alike m.origin m.footprint m.targets m.footprint_in m.targets_in g.met.M.Machine.goes (m.origin c.args.machine.now) in
    let b : Begun g.row.M.Denot g.row.M-Record.Denot = record { state = c.args.machine.now; old = c.args.old.now; log = c.args.log.now; new = c.args.new.now; count = m.count c.args.meter.now } in
    let a : Coming w b = record { i = l.entry-index; entry = c.entry-item.result; within = c.loop-entry-test.true; is = c.entry-item.is; at = l.at; names = l.names.items; turns = l.turns.items; state = l.machine; count = m.count l.meter; stands = l.invariant.stands; elsewhere = l.invariant.elsewhere } in
    let o : Old w b a = record { old = c.index-old-at.result; within = c.if-at-old.true; is = c.index-old-at.is; one = sym c.is_old.ensures ∙ c.if-is_old.true; each = c.requires.each; other = c.index-log-at.result } in
    let unmet : (k : ℕ) × Contains (m.footprint_in (get_or c.args.log.now l.at c.index-log-at.result).1) k × Contains l.names.items k → ⊥ = λ h.
    true≢false (sym (c.names_any.ensures.1 (subst (λ (ns : List ℕ). (k : ℕ) × Contains c.footprint_of.result.now k × Contains ns k) (sym c.deref.ensures.value) (subst (λ (ns : List ℕ). (k : ℕ) × Contains ns k × Contains l.names.items k) (sym c.footprint_of.ensures) h))) ∙ c.if-names_any.false) in
    let may = coming.may_redo w b a o unmet in
    (l.invariant.stands.is_sound.0, (may.0, c.entry-item.result, may.1))

pub returns-in_err-keep_record-clause-elsewhere : goal.returns-in_err-keep_record-clause-elsewhere
returns-in_err-keep_record-clause-elsewhere g c =
    let m = g.M.Machine in
    let l = c.loop-entry in
    let w = way_of m.sound m.steps m.alike m.origin m.footprint m.targets m.footprint_in m.targets_in g.met.M.Machine.goes (m.origin c.args.machine.now) in
    let b : Begun g.row.M.Denot g.row.M-Record.Denot = record { state = c.args.machine.now; old = c.args.old.now; log = c.args.log.now; new = c.args.new.now; count = m.count c.args.meter.now } in
    let a : Coming w b = record { i = l.entry-index; entry = c.entry-item.result; within = c.loop-entry-test.true; is = c.entry-item.is; at = l.at; names = l.names.items; turns = l.turns.items; state = l.machine; count = m.count l.meter; stands = l.invariant.stands; elsewhere = l.invariant.elsewhere } in
    let o : Old w b a = record { old = c.index-old-at.result; within = c.if-at-old.true; is = c.index-old-at.is; one = sym c.is_old.ensures ∙ c.if-is_old.true; each = c.requires.each; other = c.index-log-at.result } in
    coming.old_elsewhere w b a o c.keep_record.new.machine c.keep_record.ensures.elsewhere

pub loop-entry-preserved : goal.loop-entry-preserved
loop-entry-preserved g c =
    let m = g.M.Machine in
    let l = c.loop-entry in
    let w = way_of m.sound m.steps m.alike m.origin m.footprint m.targets m.footprint_in m.targets_in g.met.M.Machine.goes (m.origin c.args.machine.now) in
    let b : Begun g.row.M.Denot g.row.M-Record.Denot = record { state = c.args.machine.now; old = c.args.old.now; log = c.args.log.now; new = c.args.new.now; count = m.count c.args.meter.now } in
    let a : Coming w b = record { i = l.entry-index; entry = c.entry-item.result; within = c.loop-entry-test.true; is = c.entry-item.is; at = l.at; names = l.names.items; turns = l.turns.items; state = l.machine; count = m.count l.meter; stands = l.invariant.stands; elsewhere = l.invariant.elsewhere } in
    let many = l.invariant.many in
    elim c.if-at-old.branch [
      | then-at-old+then-is_old+then-names_any+in_ok-run_again k ↦
          let o : Old w b a = record { old = k.index-old-at.result; within = k.if-at-old.true; is = k.index-old-at.is; one = sym k.is_old.ensures ∙ k.if-is_old.true; each = c.requires.each; other = k.index-log-at.result } in
          let met = subst (λ (ns : List ℕ). (n : ℕ) × Contains ns n × Contains l.names.items n) k.footprint_of.ensures (subst (λ (ns : List ℕ). (n : ℕ) × Contains k.footprint_of.result.now n × Contains ns n) k.deref.ensures.value (k.names_any.ensures.0 k.if-names_any.true)) in
          let ran = k.in_ok-run_again.ensures.turn in
          let adds = subst (λ (q : g.row.M.Denot). (n : ℕ) → Contains k.run_again.new.names.items n ↔ (m.targets q c.entry-item.result n ⊎ Contains l.names.items n)) l.invariant.origin k.in_ok-run_again.ensures.names in
          let change = subst (λ (q : g.row.M.Denot). (n : ℕ) → (m.targets q c.entry-item.result n → ⊥) → m.alike l.machine k.run_again.new.machine n) l.invariant.origin k.run_again.ensures.elsewhere in
          let stands = coming.again_stands w b a o met k.run_again.new.machine ran.0 k.run_again.new.names.items (m.count k.run_again.new.meter) ran.1.stamp ran.1.step adds k.run_again.ensures.counted in
          let items = ap (λ v. v.items) k.turns-is ∙ ran.2 in
          let at = k.at-is in
          let lt = k.if-at-old.true in
          record {
            within = omega (arith, at, lt);
            stands = rw (k.at-is, k.machine-is, k.meter-is, k.names-is, items) stands;
            elsewhere = rw k.machine-is (coming.still_elsewhere w b a k.run_again.new.machine change);
            origin = ap m.origin k.machine-is ∙ k.run_again.ensures.origin ∙ l.invariant.origin;
            many = ap length items ∙ length-append l.turns.items _ ∙ omega (arith, many);
          }
      | then-at-old+then-is_old+else-names_any+in_ok-keep_record k ↦
          let o : Old w b a = record { old = k.index-old-at.result; within = k.if-at-old.true; is = k.index-old-at.is; one = sym k.is_old.ensures ∙ k.if-is_old.true; each = c.requires.each; other = k.index-log-at.result } in
          let unmet : (n : ℕ) × Contains (m.footprint_in (get_or c.args.log.now l.at k.index-log-at.result).1) n × Contains l.names.items n → ⊥ = λ h.
          true≢false (sym (k.names_any.ensures.1 (subst (λ (ns : List ℕ). (n : ℕ) × Contains k.footprint_of.result.now n × Contains ns n) (sym k.deref.ensures.value) (subst (λ (ns : List ℕ). (n : ℕ) × Contains ns n × Contains l.names.items n) (sym k.footprint_of.ensures) h))) ∙ k.if-names_any.false) in
          let stands = coming.kept_stands w b a o unmet k.keep_record.new.machine (λ t step. k.in_ok-keep_record.ensures.after t c.entry-item.result step) in
          let items = ap (λ v. v.items) k.turns-is ∙ k.in_ok-keep_record.ensures.turn in
          let at = k.at-is in
          let lt = k.if-at-old.true in
          record {
            within = omega (arith, at, lt);
            stands = rw (k.at-is, k.machine-is, k.meter-is, k.names-is, items) stands;
            elsewhere = rw k.machine-is (coming.old_elsewhere w b a o k.keep_record.new.machine k.keep_record.ensures.elsewhere);
            origin = ap m.origin k.machine-is ∙ k.keep_record.ensures.origin ∙ l.invariant.origin;
            many = ap length items ∙ length-append l.turns.items _ ∙ omega (arith, many);
          }
      | else-at-old+in_ok-run_fresh k ↦
          let lacks : has (drop l.at c.args.old.now) c.entry-item.result ≡ false = elim k.else-at-old.branch [
            | else-at-old-via-then-at-old+else-is_old j ↦ coming.lacks_before w b a j.index-old-at.result j.if-at-old.true j.index-old-at.is (sym j.is_old.ensures ∙ j.if-is_old.false)
            | else-at-old-via-else-at-old j ↦ coming.lacks_at_end w b a (let end = j.if-at-old.false in omega (arith, end))
          ] in
          let ran = k.in_ok-run_fresh.ensures.turn in
          let adds = subst (λ (q : g.row.M.Denot). (n : ℕ) → Contains k.run_fresh.new.names.items n ↔ (m.targets q c.entry-item.result n ⊎ Contains l.names.items n)) l.invariant.origin k.in_ok-run_fresh.ensures.names in
          let change = subst (λ (q : g.row.M.Denot). (n : ℕ) → (m.targets q c.entry-item.result n → ⊥) → m.alike l.machine k.run_fresh.new.machine n) l.invariant.origin k.run_fresh.ensures.elsewhere in
          let stands = coming.fresh_stands w b a lacks k.run_fresh.new.machine ran.0 k.run_fresh.new.names.items (m.count k.run_fresh.new.meter) ran.1.stamp ran.1.step adds k.run_fresh.ensures.counted in
          let items = ap (λ v. v.items) k.turns-is ∙ ran.2 in
          let at = k.at-is in
          let within = l.invariant.within in
          record {
            within = omega (arith, at, within);
            stands = rw (k.at-is, k.machine-is, k.meter-is, k.names-is, items) stands;
            elsewhere = rw k.machine-is (coming.still_elsewhere w b a k.run_fresh.new.machine change);
            origin = ap m.origin k.machine-is ∙ k.run_fresh.ensures.origin ∙ l.invariant.origin;
            many = ap length items ∙ length-append l.turns.items _ ∙ omega (arith, many);
          }
    ]
