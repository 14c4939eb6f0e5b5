use Rattle.std.proofs.Common.{◌≡◌, drop}
use Rattle.td_schema.specs.Written.{written, all_named}
use Rattle.td_schema.proofs.Writings.{all_after}
use Rattle.td_schema.proofs.written.+written.Given as goal

abbrev pub invariant-all_written-loop-part : goal.invariant-all_written-loop-part
invariant-all_written-loop-part l = all_named (written l.schema) l.parts ≡ all_after (written l.schema) l.kinds (drop l.part-index l.parts)
