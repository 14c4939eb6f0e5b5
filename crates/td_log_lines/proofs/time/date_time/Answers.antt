use Rattle.std.proofs.Common.{arith}
use Rattle.jiff_core.proofs.SignedLemmas.{signed_casts}
use Rattle.td_log_lines.proofs.time.date_time.Goals as goal

pub returns : goal.returns
returns c = let h = c.from_nanosecond_in_range.ensures in let e = c.min.ensures in omega (arith, signed_casts)
