-- Kinds and the types that they are of.
use Rattle.std.proofs.Common.{◌≡◌, ap, refl}
use Rattle.td_values.specs.View.{ty_of}
use Rattle.td_values.specs.declared.TypeKind.{TypeKind}
use Rattle.td_values.specs.declared.TypeKind.TheVariants as kind
use Rattle.td_values.proofs.TupleLemmas.{header_back}
use Rattle.td_schema.specs.Kinds.{kind_of}

-- the kind of a kind's type is that kind
pub kind_back : (k : TypeKind) → kind_of (ty_of k) ≡ k
kind_back kind.Boolean = refl
kind_back kind.Integer = refl
kind_back kind.Char = refl
kind_back (kind.User n) = refl
kind_back (kind.Tuple h) = ap kind.Tuple (header_back h)
kind_back (kind.Relation h) = ap kind.Relation (header_back h)
