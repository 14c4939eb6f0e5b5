use Rattle.td_headings.proofs.ReadLemmas.{reads_those}
use Rattle.td_headings.proofs.WellTyped.{all_typed}
use Rattle.td_headings.proofs.laws.reads_are_reached.Goals as goal

pub returns : goal.returns
returns c = λ d x defined under. reads_those d (all_typed d defined) x under
