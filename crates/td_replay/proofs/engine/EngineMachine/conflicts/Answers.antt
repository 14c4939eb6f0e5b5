use Rattle.std.proofs.Common.{ap, sym, subst}
use Rattle.std.proofs.lemmas.Result.{IfOk-weaker}
use Rattle.td_accesses.specs.Covering.{Covers}
use Rattle.td_semantics.specs.Databases.{DatabaseData}
use Rattle.td_replay.proofs.Depending.{over_same}
use Rattle.td_replay.proofs.Recorded.{entries_kept, kept_of, record_over}
use Rattle.td_replay.proofs.engine.EngineMachine.conflicts.Goals as goal

pub returns-then-not-branch-clause-commutes : goal.returns-then-not-branch-clause-commutes
returns-then-not-branch-clause-commutes c = λ same e covers.
    let q = c.requires in
    let f = c.args.entry.now in
    c.in_ok-conflicts.ensures c.if-not-branch.true c.args.self.now.catalogue (over_same c.args.self.now.catalogue c.self.inside.database.catalogue c.self.inside.dependencies.relvars.items (ap (λ (x : DatabaseData). x.catalogue) (sym c.self.view_is)) c.self.invariant) e.dialect f.dialect e.text f.text covers (kept_of c.args.self.now q.0 q.1 f c.args.ran.now q.3 q.4)

pub returns-clause-covered : goal.returns-clause-covered
returns-clause-covered c = λ same.
    let q = c.requires in
    let f = c.args.entry.now in
    let r = c.args.ran.now in
    let z = c.self.inside.database.catalogue in
    let d = c.args.self.now.catalogue in
    let kept = kept_of c.args.self.now q.0 q.1 f r q.3 q.4 in
    subst (λ (x : DatabaseData). Covers x.catalogue c.add_record.new.accesses f.dialect f.text) c.self.view_is
    (c.in_ok-add_record.ensures.covered f.dialect f.text (record_over z d f.dialect f.text r (ap (λ (x : DatabaseData). x.catalogue) c.self.view_is) kept))

pub returns-clause-kept : goal.returns-clause-kept
returns-clause-kept c = λ e covers.
    subst (λ (x : DatabaseData). Covers x.catalogue c.add_record.new.accesses e.dialect e.text) c.self.view_is
    (c.in_ok-add_record.ensures.kept e.dialect e.text (subst (λ (x : DatabaseData). Covers x.catalogue c.args.accesses.now e.dialect e.text) (sym c.self.view_is) covers))

pub returns-then-is_empty-clause-commutes : goal.returns-then-is_empty-clause-commutes
returns-then-is_empty-clause-commutes c = IfOk-weaker c.conflicts_by_text.result _ _ (λ b told none e covers. told none e.dialect e.text covers) c.conflicts_by_text.ensures.commutes

pub returns-then-is_empty-clause-kept : goal.returns-then-is_empty-clause-kept
returns-then-is_empty-clause-kept c = entries_kept c.args.self.now.catalogue c.conflicts_by_text.result c.args.accesses.now c.conflicts_by_text.new.accesses c.conflicts_by_text.ensures.kept
