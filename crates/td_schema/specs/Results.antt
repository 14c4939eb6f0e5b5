-- What a call answers that finds a type, where there is one.
use Rattle.std.specs.Prelude.{◌≡◌, Bool, true, false, Option, Some, None, Result, Ok, Err}
use Rattle.td_schema.specs.declared.error.TypeError.{TypeError}
use Rattle.td_schema.specs.declared.error.TypeError.TheVariants.{IllTyped, OutOfMemory}

-- ill typed where there is nothing; want of memory tells nothing
abbrev pub Fails : {A : Type 0} → TypeError → Option A → Type 0
Fails OutOfMemory o = Unit {0}
Fails IllTyped o = o ≡ None

-- what there is, or that there is nothing
abbrev pub Gives : {A : Type 0} → Option A → Result A TypeError → Type 0
Gives o (Ok a) = o ≡ Some a
Gives o (Err e) = Fails e o

-- a, where the test is true
abbrev pub where_true : {A : Type 0} → Bool → A → Option A
where_true true a = Some a
where_true false a = None

-- what f makes of what there is
abbrev pub where_some : {A B : Type 0} → Option A → (A → Option B) → Option B
where_some None f = None
where_some (Some a) f = f a
