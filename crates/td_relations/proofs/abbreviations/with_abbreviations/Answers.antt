use Rattle.std.proofs.Common.{◌≡◌, ◌++◌, ◌∷◌, [], ◌∙◌, ap, append_assoc, rules}
use Rattle.std.specs.Vec.Iter.{into_iter_items}
use Rattle.std.proofs.lemmas.List.Elements.{All-append}
use Rattle.td_relations.specs.ForProofs.Abbreviations.{BeginsInBytes}
use Rattle.td_relations.proofs.Abbreviated.{all_of_one}
use Rattle.td_relations.proofs.abbreviations.with_abbreviations.Goals as goal

pub loop-tuple-preserved : goal.loop-tuple-preserved
loop-tuple-preserved c =
    let rest = into_iter_items c.next.new.self in
    let seen : c.args.tuples.items ≡ c.loop-tuple.yielded ++ c.in-Some.tuple ∷ rest = c.loop-tuple.invariant.seen ∙ ap (λ t. c.loop-tuple.yielded ++ t) c.in-Some.ensures.steps.0 in
    record {
      seen = rw append_assoc seen;
      room = search rules;
      same = search rules;
      bytes = All-append BeginsInBytes c.loop-tuple.yielded (c.in-Some.tuple ∷ []) c.loop-tuple.invariant.bytes (all_of_one BeginsInBytes c.in-Some.tuple c.new.ensures.bytes);
    }
