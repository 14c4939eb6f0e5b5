use Rattle.std.proofs.Common.{sym}
use Rattle.td_values.specs.Whole.{type_of}
use Rattle.td_algebra.proofs.Extensions.{same_type}
use Rattle.td_algebra.proofs.extension.is_of.Goals as goal

pub returns-clause-test : goal.returns-clause-test
returns-clause-test c = sym (same_type (type_of c.args.value.now) c.args.ty.now c.has_type.result c.has_type.ensures)
