use Rattle.std.proofs.Common.{◌≡◌, ◌++◌, ◌∷◌, ◌∙◌, ap, append_assoc, length, rules, arith}
use Rattle.std.specs.Vec.Iter.{into_iter_items}
use Rattle.td_relations.specs.Sets.{tuple_set}
use Rattle.td_relations.proofs.Edits.{union_nothing, more_one}
use Rattle.td_relations.proofs.places.put_in_all.Goals as goal

pub loop-tuple-init : goal.loop-tuple-init
loop-tuple-init c =
    let seen : c.args.inserted.items ≡ into_iter_items c.into_iter-tuple-iterator.result = search rules in
    record { seen = seen; room = omega (arith, c.args.inserted.ok.0, ap length seen); ascending = c.requires.ascends; members = union_nothing (tuple_set c.args.tuples.now.items) }

pub loop-tuple-preserved : goal.loop-tuple-preserved
loop-tuple-preserved c =
    let rest = into_iter_items c.next.new.self in
    let seen : c.args.inserted.items ≡ c.loop-tuple.yielded ++ c.in-Some.tuple ∷ rest = c.loop-tuple.invariant.seen ∙ ap (λ t. c.loop-tuple.yielded ++ t) c.in-Some.ensures.steps.0 in
    record {
      seen = rw append_assoc seen;
      room = omega (arith, ap length c.in-Some.ensures.steps.0);
      ascending = c.put_in.ensures.ascending;
      members = c.put_in.ensures.members ∙ more_one (tuple_set c.args.tuples.now.items) (tuple_set c.loop-tuple.tuples.items) c.loop-tuple.yielded c.in-Some.tuple c.loop-tuple.invariant.members;
    }
