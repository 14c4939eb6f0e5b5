-- Parts of typed trees.
use Rattle.std.specs.Prelude.{List, map}
use Rattle.td_values.specs.View.{ty_of}
use Rattle.td_values.specs.declared.TypeKind.{TypeKind}
use Rattle.td_tuples.specs.declared.items.Item.{Item}
use Rattle.td_tuples.specs.declared.items.Summary.{Summary}
use Rattle.td_tuples.specs.declared.items.Summary.TheVariants as summary
use Rattle.td_syntax.specs.declared.tree.Named.{Named}
use Rattle.td_syntax.specs.declared.tree.Aggregate.{Aggregate}
use Rattle.td_syntax.specs.declared.tree.Aggregate.TheVariants as aggregate
use Rattle.td_typed_trees.specs.declared.tree.Typed.{Typed}
use Rattle.td_typed_trees.specs.declared.tree.Typing.{Typing}
use Rattle.td_schema.specs.declared.schema.Representation.{Representation}
use Rattle.td_schema.specs.Kinds.{Name}

-- a tree with its kind
abbrev pub typing : Typed → TypeKind → Typing
typing u k = record { tree = u; kind = k }

abbrev pub trees : List Typing → List Typed
trees ys = map (λ (y : Typing). y.tree) ys

abbrev pub kinds : List Typing → List TypeKind
kinds ys = map (λ (y : Typing). y.kind) ys

-- a part beside its name
abbrev pub named : {A : Type 0} → Name → A → Named A
named n a = record { name = n; value = a }

-- a new attribute of this name and kind of type, made of a term
abbrev pub item_of : {A : Type 0} → Name → TypeKind → A → Item A
item_of n k u = record { name = n; ty = ty_of k; term = u }

-- an aggregate of a term
abbrev pub summary_of : {A : Type 0} → Aggregate → A → Summary A
summary_of aggregate.Sum u = summary.Sum u
summary_of aggregate.Max u = summary.Max u
summary_of aggregate.Min u = summary.Min u
summary_of aggregate.And u = summary.And u
summary_of aggregate.Or u = summary.Or u

-- the kinds of a possrep's components, in order
abbrev pub component_kinds : Representation → List TypeKind
component_kinds r = map (λ (c : Named TypeKind). c.value) r.components
