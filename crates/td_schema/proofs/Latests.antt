-- Names of WITH, by the last one that has the name.
use Rattle.std.proofs.Common.{◌≡◌, true, false, cond, List, [], ◌∷◌, Option, None, Some, refl}
use Rattle.td_values.specs.declared.TypeKind.{TypeKind}
use Rattle.td_syntax.specs.declared.tree.Named.{Named}
use Rattle.td_schema.specs.declared.scope.Meant.{Meant}
use Rattle.td_schema.specs.ForProofs.Latest.{latest}
use Rattle.td_schema.specs.Kinds.{Name}
use Rattle.td_schema.specs.Schemas.{same_text}
use Rattle.td_schema.specs.Scopes.{Scope, with_names, with_name, local}

abbrev pub or_else : Option TypeKind → Option Meant → Option Meant
or_else None m = m
or_else (Some k) m = Some (local k)

pub last_given : (ns : List (Named TypeKind)) (s : Scope) (x : Name) (f : Option TypeKind) (m : Option Meant) → s x ≡ or_else f m → with_names ns s x ≡ or_else (latest ns x f) m
last_given [] s x f m e = e
last_given (n ∷ ns) s x f m e =
    last_given ns (with_name n.name n.value s) x (cond (same_text n.name x) (Some n.value) f) m
    (elim (same_text n.name x) as (λ b. cond b (Some (local n.value)) (s x) ≡ or_else (cond b (Some n.value) f) m) [ true ↦ refl | false ↦ e ])
