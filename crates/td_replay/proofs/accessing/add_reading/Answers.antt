use Rattle.std.proofs.Common.{ℕ, List, [], refl, sym, subst, ◌∙◌}
use Rattle.td_accesses.specs.Covering.{KeepsWithin}
use Rattle.td_assign.proofs.Preparing.{read_is, unread_is}
use Rattle.td_headings.specs.Catalogues.{CatalogueData}
use Rattle.td_replay.proofs.Recorded.{covered_over, kept_over, lent_footprint}
use Rattle.td_replay.proofs.Depending.{over_same}
use Rattle.td_replay.proofs.accessing.add_reading.Goals as goal

pub add-requires : goal.add-requires
add-requires c = over_same c.catalogue.result.now c.args.database.now.catalogue c.args.dependencies.now.relvars.items c.catalogue.ensures.same c.requires.dependencies

pub add_statement-requires-clause-read : goal.add_statement-requires-clause-read
add_statement-requires-clause-read c =
    let d = c.args.database.now.catalogue in
    let (k, a, reads) = c.requires.read in
    (k, a, read_is d d k a c.args.reading.now.statement refl reads.statement c.in-Some.statement c.in-Some.is)

pub returns-in-None-clause-covered : goal.returns-in-None-clause-covered
returns-in-None-clause-covered c = λ k a reads.
    let d = c.args.database.now.catalogue in
    let z = c.catalogue.result.now in
    let same = c.catalogue.ensures.same in
    let unread = unread_is d d k a c.args.reading.now.statement refl reads.statement c.in-None.is in
    let within : KeepsWithin d k a c.args.reading.now.names.footprint.items [] = record { footprint = λ n h. (reads.footprint.members n).1 h; targets = λ n t. absurd (unread t.statement t.reads) } in
    covered_over z d c.add.result c.add.new.self k a same
    (c.add.ensures.covered k a (subst (λ (q : CatalogueData). KeepsWithin q k a c.deref-in-None.result.now []) (sym same) (subst (λ (xs : List ℕ). KeepsWithin d k a xs []) (sym (c.deref-in-None.ensures.value ∙ lent_footprint c.get-names.result.now c.args.reading.now.names c.get-names.ensures)) within)) tt)

pub returns-in-None-clause-kept : goal.returns-in-None-clause-kept
returns-in-None-clause-kept c = kept_over c.catalogue.result.now c.args.database.now.catalogue c.add.result c.args.accesses.now c.add.new.self c.catalogue.ensures.same c.add.ensures.kept
