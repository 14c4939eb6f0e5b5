use Rattle.std.proofs.Common.{◌≡◌, ◌⊎◌, Ok, map}
use Rattle.td_semantics.specs.Databases.{DatabaseData}
use Rattle.td_semantics.specs.Scripts.{Opens}
use Rattle.td_workbench.specs.Scripts.{new_sites}
use Rattle.td_workbench.proofs.opening.open_sites.Given as goal

-- the first of the sites were opened, so the script opens where there is one
abbrev pub invariant-loop-at : goal.invariant-loop-at
invariant-loop-at g l =
    (map g.R.Replica.seen l.sites.items ≡ new_sites l.script l.options.limit l.options.first l.at) × ((l.at ≡ 0) ⊎ ((d : DatabaseData) × Opens l.script (Ok d)))
