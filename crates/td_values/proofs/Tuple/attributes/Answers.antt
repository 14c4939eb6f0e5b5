use Rattle.std.proofs.Common.{subst}
use Rattle.td_values.specs.Whole.{NamesAscend}
use Rattle.td_values.proofs.Entries.{whole_ascend}
use Rattle.td_values.proofs.Tuple.attributes.Goals as goal

pub returns-clause-ascend : goal.returns-clause-ascend
returns-clause-ascend c = subst NamesAscend c.self.view_is (whole_ascend _ c.self.invariant)
