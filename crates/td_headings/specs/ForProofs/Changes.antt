-- What a call changes.
use Rattle.std.specs.Prelude.{◌≡◌, Option, Some, Result, Ok, Err}
use Rattle.td_schema.specs.Results.{Fails}
use Rattle.td_schema.specs.declared.error.TypeError.{TypeError}

-- to what there is, where it is taken; a refusal changes nothing
abbrev pub Changes : {A : Type 0} → A → Option A → Result (Unit {0}) TypeError → A → Type 0
Changes old o (Ok u) new = o ≡ Some new
Changes old o (Err e) new = Fails e o × (new ≡ old)
