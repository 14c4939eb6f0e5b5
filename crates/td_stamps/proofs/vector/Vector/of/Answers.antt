use Rattle.std.proofs.Common.{◌≡◌, ℕ, List, IfOk, ap, ◌∙◌, get_or}
use Rattle.std.specs.FinMap as map
use Rattle.std.proofs.lemmas.Result.{IfOk-weaker}
use Rattle.td_stamps.specs.Vectors.{IsVector}
use Rattle.td_stamps.specs.ForProofs.{nonzero}
use Rattle.td_stamps.proofs.Tables.{first_is_0, vector_of_numbers}
use Rattle.td_stamps.proofs.vector.Vector.of.Goals as goal

pub from_numbers-requires-clause-first : goal.from_numbers-requires-clause-first
from_numbers-requires-clause-first c =
    ap (λ (l : List ℕ). get_or l 0 0) c.deref.ensures.value ∙ first_is_0 c.args.entries.now c.in_ok-numbers.numbers.items c.requires.ranges c.in_ok-numbers.ensures.numbers

pub returns : goal.returns
returns c =
    let ns = c.in_ok-numbers.numbers.items in
    IfOk-weaker c.from_numbers.result (λ v. (site : ℕ) → map.get v site ≡ nonzero (get_or c.deref.result.now site 0)) (IsVector c.args.entries.now)
    (λ v is. vector_of_numbers c.args.entries.now ns v c.in_ok-numbers.ensures.numbers (λ q. is q ∙ ap (λ (l : List ℕ). nonzero (get_or l q 0)) c.deref.ensures.value)) c.from_numbers.ensures
