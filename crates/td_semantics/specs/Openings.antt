-- The opening relvars: in order of definition each has the value of its INIT over those before it; one without an INIT
-- is empty.
use Rattle.std.specs.Prelude.{ℕ, List, [], ◌∷◌, Option, None, Some, Result, Ok}
use Rattle.std.specs.FinSet as set
use Rattle.td_values.specs.Data.{no_attrs}
use Rattle.td_values.specs.Headings.{Header}
use Rattle.td_values.specs.Rows.{RowsData}
use Rattle.td_syntax.specs.declared.tree.Named.{Named}
use Rattle.td_typed_trees.specs.declared.tree.Typed.{Typed}
use Rattle.td_relations.specs.Sets.{relation_of}
use Rattle.td_algebra.specs.declared.errors.Stop.{Stop}
use Rattle.td_algebra.specs.Raising.{and_then}
use Rattle.td_headings.specs.Catalogues.{CatalogueData}
use Rattle.td_headings.specs.Expressions.{init_at}
use Rattle.td_headings.specs.declared.defined.Origin.{Origin}
use Rattle.td_headings.specs.declared.defined.Origin.TheVariants as origin
use Rattle.td_operators.specs.Values.{rows_of}
use Rattle.td_semantics.specs.Trees.{places, tree_means}
use Rattle.td_semantics.specs.Databases.{Stored, with_relation, stored_relvars}

-- a base relvar is empty at first; for a virtual one nothing is stored
abbrev pub empty_at : Origin → Named Header → Option RowsData
empty_at (origin.Base ks u) v = Some (relation_of v.value set.empty)
empty_at (origin.Virtual u) v = None

abbrev pub all_empty : List Origin → List (Named Header) → Stored
all_empty (o ∷ os) (v ∷ vs) = empty_at o v ∷ all_empty os vs
all_empty os vs = []

-- the relation that an expression has over these relvars
abbrev pub relation_in : CatalogueData → Stored → Typed → Result RowsData Stop
relation_in c stored u = and_then (tree_means c (stored_relvars stored) u no_attrs) rows_of

-- with the value of the INIT, if there is one. It names only relvars before its own, and doesn't see that those behind
-- are empty
abbrev pub with_init : CatalogueData → Stored → ℕ → Option (Typed × Header) → Result Stored Stop
with_init c stored n None = Ok stored
with_init c stored n (Some v) = and_then (relation_in c stored v.0) (λ r. Ok (with_relation n r stored))

-- with those of the relvars at these places, one after the other; the first error stands
abbrev pub opened : CatalogueData → List ℕ → Stored → Result Stored Stop
opened c [] stored = Ok stored
opened c (n ∷ ns) stored = and_then (with_init c stored n (init_at c n)) (opened c ns)

-- with those of all
abbrev pub opening : CatalogueData → Result Stored Stop
opening c = opened c (places c.origins) (all_empty c.origins c.schema.relvars)
