use Rattle.td_stamps.proofs.Merges.{union_has_both, union_is_set, same_members, stamps_differ}
use Rattle.td_stamps.proofs.laws.union_has_both.Goals as goal

pub returns : goal.returns
returns c = record { has_both = union_has_both; is_set = union_is_set; same_list = same_members; stamps = stamps_differ }
