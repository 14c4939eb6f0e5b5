use Rattle.std.proofs.Common.{◌≡◌, ◌++◌, true}
use Rattle.std.specs.FinMap as map
use Rattle.td_stamps.specs.Vectors.{sites_fit}
use Rattle.td_stamps.proofs.vector.Vector.entries.Given as goal

abbrev pub invariant-loop-site : goal.invariant-loop-site
invariant-loop-site l = record {
  whole : l.entries.items ++ l.site-iterator ≡ map.entries l.self;
  fit : sites_fit l.entries.items ≡ true;
}
