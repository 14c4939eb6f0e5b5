use Rattle.std.proofs.Common.{refl}
use Rattle.td_semantics.specs.declared.error.ScriptError.TheVariants.{OpeningRaised, OpeningBroken, OutOfMemory}
use Rattle.td_workbench.proofs.Starting.{told_made}
use Rattle.td_workbench.proofs.refusal.refuse.Goals as goal

pub returns-in-OpeningRaised : goal.returns-in-OpeningRaised
returns-in-OpeningRaised g c = rw c.in-OpeningRaised.is (told_made (OpeningRaised c.in-OpeningRaised.raise) c.raised_text.result c.put_made.result _ _ c.raised_text.ensures c.put_made.ensures)

pub returns-in-OpeningBroken : goal.returns-in-OpeningBroken
returns-in-OpeningBroken g c = rw c.in-OpeningBroken.is (told_made (OpeningBroken c.in-OpeningBroken.broken) c.broken_text.result c.put_made-in-OpeningBroken.result _ _ c.broken_text.ensures c.put_made-in-OpeningBroken.ensures)

pub returns-in-OutOfMemory : goal.returns-in-OutOfMemory
returns-in-OutOfMemory g c = rw c.in-OutOfMemory.is (OutOfMemory, refl, rw c.as_slice-in-OutOfMemory.ensures at c.put_fault-in-OutOfMemory.ensures)
