use Rattle.std.proofs.Common.{◌+◌, ◌*◌}
use Rattle.td_type_errors.proofs.parts.Explainer.+explain.Given as goal

abbrev pub decreases-explain : goal.decreases-explain
decreases-explain l = 2 * l.levels

abbrev pub decreases-within : goal.decreases-within
decreases-within l = 2 * l.levels + 1

abbrev pub decreases-behind : goal.decreases-behind
decreases-behind l = 2 * l.levels + 1
