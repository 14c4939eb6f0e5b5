-- The names of constraints.
use Rattle.std.specs.Prelude.{List, [], ◌∷◌}
use Rattle.td_schema.specs.Kinds.{Name}
use Rattle.td_headings.specs.declared.defined.Test.{Test}
use Rattle.td_headings.specs.declared.defined.Test.TheVariants as test

-- of those among these tests
abbrev pub constraint_names : List Test → List Name
constraint_names [] = []
constraint_names (test.Key r ns ∷ ts) = constraint_names ts
constraint_names (test.Constraint n u ∷ ts) = n ∷ constraint_names ts
