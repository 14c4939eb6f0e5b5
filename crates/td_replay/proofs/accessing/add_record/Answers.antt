use Rattle.std.proofs.Common.{◌∙◌}
use Rattle.td_replay.proofs.Recorded.{covered_over, inserts_of, kept_over, lent_footprint, lent_targets, record_over, within_slices}
use Rattle.td_replay.proofs.Depending.{over_same}
use Rattle.td_replay.proofs.accessing.add_record.Goals as goal

pub add-requires : goal.add-requires
add-requires c = over_same c.catalogue-catalogue.result.now c.args.database.now.catalogue c.args.dependencies.now.relvars.items c.catalogue-catalogue.ensures.same c.requires

pub add-requires-in-None : goal.add-requires-in-None
add-requires-in-None c = over_same c.catalogue-catalogue.result.now c.args.database.now.catalogue c.args.dependencies.now.relvars.items c.catalogue-catalogue.ensures.same c.requires

pub returns-in-Some-clause-covered : goal.returns-in-Some-clause-covered
returns-in-Some-clause-covered c = λ k a kept.
    let d = c.args.database.now.catalogue in
    let z = c.catalogue-catalogue.result.now in
    let r = c.args.ran.now in
    let same = c.catalogue-catalogue.ensures.same in
    let here = record_over z d k a r same kept in
    covered_over z d c.add.result c.add.new.self k a same
    (c.add.ensures.covered k a (within_slices z k a c.deref.result.now c.deref-in-Some.result.now r.names.footprint.items r.names.targets.items (c.deref.ensures.value ∙ lent_footprint c.get-names.result.now r.names c.get-names.ensures) (c.deref-in-Some.ensures.value ∙ lent_targets c.get-names.result.now r.names c.get-names.ensures) here.within) (inserts_of z k a r c.in-Some.relvar c.in-Some.tuples.now here c.in-Some.ensures))

pub returns-in-Some-clause-kept : goal.returns-in-Some-clause-kept
returns-in-Some-clause-kept c = kept_over c.catalogue-catalogue.result.now c.args.database.now.catalogue c.add.result c.args.accesses.now c.add.new.self c.catalogue-catalogue.ensures.same c.add.ensures.kept

pub returns-in-None-clause-covered : goal.returns-in-None-clause-covered
returns-in-None-clause-covered c = λ k a kept.
    let d = c.args.database.now.catalogue in
    let z = c.catalogue-catalogue.result.now in
    let r = c.args.ran.now in
    let same = c.catalogue-catalogue.ensures.same in
    let here = record_over z d k a r same kept in
    covered_over z d c.add-in-None.result c.add-in-None.new.self k a same
    (c.add-in-None.ensures.covered k a (within_slices z k a c.deref-in-None.result.now c.deref-in-None-2.result.now r.names.footprint.items r.names.targets.items (c.deref-in-None.ensures.value ∙ lent_footprint c.get-names.result.now r.names c.get-names.ensures) (c.deref-in-None-2.ensures.value ∙ lent_targets c.get-names.result.now r.names c.get-names.ensures) here.within) tt)

pub returns-in-None-clause-kept : goal.returns-in-None-clause-kept
returns-in-None-clause-kept c = kept_over c.catalogue-catalogue.result.now c.args.database.now.catalogue c.add-in-None.result c.args.accesses.now c.add-in-None.new.self c.catalogue-catalogue.ensures.same c.add-in-None.ensures.kept
