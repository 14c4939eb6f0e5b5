use Rattle.std.proofs.Common.{◌≡◌, length}
use Rattle.td_headings.specs.ForProofs.KeptConstraints.{AreKept}
use Rattle.td_headings.proofs.typed.constraint_exprs.Given as goal

abbrev pub invariant-loop-place : goal.invariant-loop-place
invariant-loop-place l = AreKept l.catalogue l.exprs.items × (length l.exprs.items ≡ l.place)
