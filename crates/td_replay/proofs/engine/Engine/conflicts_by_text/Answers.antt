use Rattle.std.proofs.Common.{ap, sym, subst}
use Rattle.td_accesses.specs.Commuting.{Commute}
use Rattle.td_accesses.specs.Covering.{Covers}
use Rattle.td_headings.specs.Catalogues.{CatalogueData}
use Rattle.td_semantics.specs.Databases.{DatabaseData}
use Rattle.td_replay.proofs.Recorded.{covered_over, kept_over, read_over}
use Rattle.td_replay.proofs.engine.Engine.conflicts_by_text.Goals as goal

pub reading_conflicts-requires-clause-read : goal.reading_conflicts-requires-clause-read
reading_conflicts-requires-clause-read c =
    let e = c.args.entry.now in
    (e.dialect, e.text, read_over c.catalogue.result.now c.self.inside.database.catalogue e.dialect c.as_str-text.result.now e.text c.in_ok-reading.reading c.catalogue.ensures.same c.as_str-text.ensures c.in_ok-reading.ensures)

pub add_reading-requires-clause-read : goal.add_reading-requires-clause-read
add_reading-requires-clause-read c =
    let e = c.args.entry.now in
    (e.dialect, e.text, read_over c.catalogue.result.now c.self.inside.database.catalogue e.dialect c.as_str-text.result.now e.text c.in_ok-reading.reading c.catalogue.ensures.same c.as_str-text.ensures c.in_ok-reading.ensures)

pub returns-then-not-branch-clause-commutes : goal.returns-then-not-branch-clause-commutes
returns-then-not-branch-clause-commutes c = λ none k a covers.
    let e = c.args.entry.now in
    let z = c.self.inside.database.catalogue in
    let same = ap (λ (x : DatabaseData). x.catalogue) c.self.view_is in
    let reads = read_over c.catalogue.result.now z e.dialect c.as_str-text.result.now e.text c.in_ok-reading.reading c.catalogue.ensures.same c.as_str-text.ensures c.in_ok-reading.ensures in
    subst (λ (q : CatalogueData). Commute q k a e.dialect e.text) same
    (c.in_ok-reading_conflicts.ensures c.if-not-branch.true k e.dialect a e.text (subst (λ (q : CatalogueData). Covers q c.args.accesses.now k a) (sym same) covers) reads)

pub returns-clause-covered : goal.returns-clause-covered
returns-clause-covered c = λ there.
    let e = c.args.entry.now in
    let z = c.self.inside.database.catalogue in
    let same = ap (λ (x : DatabaseData). x.catalogue) c.self.view_is in
    let reads = read_over c.catalogue.result.now z e.dialect c.as_str-text.result.now e.text c.in_ok-reading.reading c.catalogue.ensures.same c.as_str-text.ensures c.in_ok-reading.ensures in
    subst (λ (q : CatalogueData). Covers q c.add_reading.new.accesses e.dialect e.text) same (c.in_ok-add_reading.ensures.covered e.dialect e.text reads)

pub returns-clause-kept : goal.returns-clause-kept
returns-clause-kept c = λ k a covers.
    let same = ap (λ (x : DatabaseData). x.catalogue) c.self.view_is in
    subst (λ (q : CatalogueData). Covers q c.add_reading.new.accesses k a) same
    (c.in_ok-add_reading.ensures.kept k a (subst (λ (q : CatalogueData). Covers q c.args.accesses.now k a) (sym same) covers))
