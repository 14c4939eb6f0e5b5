-- By which keys the tuples of base relvars are always kept: the first one of each, as it is written.
use Rattle.std.specs.Prelude.{◌≡◌, ℕ, List, [], Option, None, Some, slice_get}
use Rattle.td_values.specs.Headings.{Header}
use Rattle.td_syntax.specs.declared.tree.Named.{Named}
use Rattle.td_schema.specs.Schemas.{relvar_named}
use Rattle.td_headings.specs.Catalogues.{CatalogueData}
use Rattle.td_headings.specs.declared.defined.Origin.{Origin}
use Rattle.td_headings.specs.declared.defined.Origin.TheVariants as origin

abbrev pub first_of : Option Origin → Option (List (List ℕ))
first_of (Some (origin.Base ks u)) = slice_get ks 0
first_of _ = None

-- the first key of the base relvar at the place
abbrev pub first_key : CatalogueData → ℕ → Option (List (List ℕ))
first_key c n = first_of (slice_get c.origins n)

-- its names; none where there is no key
abbrev pub names_of_key : Option (List (List ℕ)) → List (List ℕ)
names_of_key None = []
names_of_key (Some k) = k

abbrev pub key_at : CatalogueData → ℕ → List (List ℕ)
key_at c n = names_of_key (first_key c n)

-- the first key of the relvar of a name; none where there is no such relvar
abbrev pub key_under : CatalogueData → Option (ℕ × Named Header) → List (List ℕ)
key_under c None = []
key_under c (Some v) = key_at c v.0

abbrev pub key_named : CatalogueData → List ℕ → List (List ℕ)
key_named c x = key_under c (relvar_named c.schema x)
