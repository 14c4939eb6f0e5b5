use Rattle.td_algebra.proofs.Bridges.{extended_is, summarized_is}
use Rattle.td_algebra.proofs.laws.functions_by_terms_are_operators.Goals as goal

pub returns : goal.returns
returns g c = record { extended = λ m items r. extended_is m items r; summarized = λ m items r per. summarized_is m items r per }
