use Rattle.std.proofs.Common.{◌≡◌, ◌++◌, drop, string_bytes}
use Rattle.td_semantics.specs.Databases.{DatabaseData}
use Rattle.td_replica.specs.Seen.{Leaves}
use Rattle.td_listings.specs.Texts as spec
use Rattle.td_listings.proofs.listings.show_relvars.Given as goal

abbrev pub invariant-loop-place : goal.invariant-loop-place
invariant-loop-place g l =
    (d : DatabaseData) → Leaves (g.R.Replica.seen l.replica) d
    → string_bytes l.out ++ spec.relvars_from d l.place (drop l.place l.catalogue.schema.relvars) ≡ string_bytes l.initial.out ++ spec.relvars_lines d
