-- What a relation that is read is seen as.
use Rattle.td_values.specs.Rows.{RowsData}
use Rattle.td_operators.specs.declared.operand.Leased.{Leased}
use Rattle.td_operators.specs.declared.operand.Leased.TheVariants as leased

abbrev pub leased_rows : Leased → RowsData
leased_rows (leased.Own r) = r
leased_rows (leased.Lent r) = r.now
