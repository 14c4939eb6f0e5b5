-- Differences are changes that lead from the one to the other.
use Rattle.std.proofs.Common.{ℕ, List}
use Rattle.td_relations.specs.Deltas.{DeltaData}
use Rattle.td_meaning.specs.Mean.{Relvars}
use Rattle.td_semantics.specs.Differences.{AreDifferences, LeadOver}

pub differences_lead : (old new : Relvars) (ds : List (ℕ × DeltaData)) → AreDifferences old new ds → LeadOver old new ds
differences_lead old new ds a = record { once = a.once; only = λ p there. (a.only p there).change; all = a.all }
