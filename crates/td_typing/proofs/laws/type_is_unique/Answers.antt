use Rattle.std.proofs.Common.{ap, sym, ◌∙◌}
use Rattle.td_typing.specs.Trees.{typing}
use Rattle.td_typing.proofs.Complete.{complete}
use Rattle.td_typing.proofs.KindLemmas.{some_same}
use Rattle.td_typing.proofs.laws.type_is_unique.Goals as goal

pub returns : goal.returns
returns c = λ cat s a u v j k d f.
    let one = some_same (typing u j) (typing v k) (sym (complete cat d) ∙ complete cat f) in
    (ap (λ y. y.tree) one, ap (λ y. y.kind) one)
