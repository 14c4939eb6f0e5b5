use Rattle.td_values.proofs.TupleLemmas.{header_back, same_header}
use Rattle.td_values.proofs.laws.headings_are_their_fields.Goals as goal

pub returns : goal.returns
returns c = record { made_of = header_back; one = same_header }
