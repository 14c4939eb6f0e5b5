use Rattle.std.proofs.Common.{List, ℕ, refl, sym, subst, ◌∙◌}
use Rattle.std.proofs.lemmas.Result.{IfOk-weaker}
use Rattle.td_assign.proofs.Preparing.{read_is}
use Rattle.td_headings.specs.Reached.{AreThose}
use Rattle.td_semantics.specs.Footprints.{IsInFootprint}
use Rattle.td_replay.proofs.Recorded.{lent_footprint}
use Rattle.td_replay.proofs.accessing.reading_conflicts.Goals as goal

pub statement_conflicts-requires-clause-read : goal.statement_conflicts-requires-clause-read
statement_conflicts-requires-clause-read c =
    let d = c.args.database.now.catalogue in
    let (l, b, reads) = c.requires.read in
    (l, b, read_is d d l b c.args.reading.now.statement refl reads.statement c.in-Some.statement c.in-Some.is)

pub returns-in-Some : goal.returns-in-Some
returns-in-Some c =
    let d = c.args.database.now.catalogue in
    IfOk-weaker c.statement_conflicts.result _ _
    (λ r told none k l a b covers reads.
    told none k l a b covers (read_is d d l b c.args.reading.now.statement refl reads.statement c.in-Some.statement c.in-Some.is)
    (subst (λ (xs : List ℕ). AreThose (IsInFootprint d l b) xs) (sym (c.deref.ensures.value ∙ lent_footprint c.get-names.result.now c.args.reading.now.names c.get-names.ensures)) reads.footprint))
    c.statement_conflicts.ensures
