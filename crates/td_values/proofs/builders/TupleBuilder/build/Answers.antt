use Rattle.std.proofs.Common.{◌≡◌, sym, subst, IfOk}
use Rattle.td_values.specs.Data.{attrs_of}
use Rattle.td_values.proofs.Entries.{entries_seen, sorted_ascend}
use Rattle.td_values.proofs.builders.TupleBuilder.build.Goals as goal

pub of-requires : goal.of-requires
of-requires c = sorted_ascend _ c.self.invariant

pub returns : goal.returns
returns c = subst (λ es. IfOk c.of.result (λ t. t ≡ attrs_of es)) (sym (entries_seen _ c.self.invariant c.self.view_is)) c.of.ensures
