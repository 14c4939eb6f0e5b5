-- What stands for a name.
use Rattle.td_values.specs.Data.{Datum}
use Rattle.td_algebra.specs.Nested.{relation_value}
use Rattle.td_meaning.specs.declared.scope.Binding.{Binding}
use Rattle.td_meaning.specs.declared.scope.Binding.TheVariants as meant

abbrev pub meant_value : Binding → Datum
meant_value (meant.Value d) = d.now
meant_value (meant.Rows r) = relation_value r.now
