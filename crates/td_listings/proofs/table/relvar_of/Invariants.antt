use Rattle.std.proofs.Common.{◌≡◌, drop}
use Rattle.td_schema.specs.Schemas.{first_from, is_named, relvar_named}
use Rattle.td_listings.proofs.table.relvar_of.Given as goal

abbrev pub invariant-loop-place : goal.invariant-loop-place
invariant-loop-place l = first_from l.place (is_named l.text) (drop l.place l.catalogue.schema.relvars) ≡ relvar_named l.catalogue.schema l.text
