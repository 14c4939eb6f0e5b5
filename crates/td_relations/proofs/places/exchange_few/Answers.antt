use Rattle.std.proofs.Common.{◌≡◌, [], ◌∷◌, sym, ◌∙◌, rules}
use Rattle.std.specs.FinSet as set
use Rattle.td_relations.specs.Sets.{tuple_set}
use Rattle.td_relations.proofs.Between.{one_for_one, only_one, last_of_one}
use Rattle.td_relations.proofs.places.exchange_few.Goals as goal

pub returns-in-Some-clause-members : goal.returns-in-Some-clause-members
returns-in-Some-clause-members c =
    let gone = c.index-deleted-0.result in
    let out : c.args.deleted.now ≡ gone ∷ [] = only_one c.args.deleted.now gone (search rules) c.index-deleted-0.is in
    let into : c.args.inserted.items ≡ c.in-Some.more ∷ [] = last_of_one c.args.inserted.items c.pop.new.self.items c.in-Some.more (search rules) c.in-Some.ensures.items in
    c.exchange_one.ensures.members
    ∙ one_for_one (tuple_set c.args.tuples.now.items) gone c.in-Some.more
    ∙ (λ i. set.union (set.difference (tuple_set c.args.tuples.now.items) (tuple_set (sym out i))) (tuple_set (sym into i)))
