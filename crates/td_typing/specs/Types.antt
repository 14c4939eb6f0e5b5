-- The typing: what is defined, the names in scope, an expression, its typed tree and its kind of type, one rule for
-- each form. Where no rule applies, the expression is ill typed.
use Rattle.std.specs.Prelude.{◌≡◌, ℕ, ℤ, Bool, true, false, drop, List, [], ◌∷◌, ◌++◌, map, Some, None}
use Rattle.std.specs.FinMap as by_name
use Rattle.std.specs.List.{All}
use Rattle.td_values.specs.Data.{Ty}
use Rattle.td_values.specs.Headings.{Header}
use Rattle.td_values.specs.declared.TypeKind.{TypeKind}
use Rattle.td_values.specs.declared.TypeKind.TheVariants as kind
use Rattle.td_tuples.specs.Parts.{columns_in}
use Rattle.td_tuples.specs.Items.{columns_of, extended_columns}
use Rattle.td_tuples.specs.declared.items.Item.{Item}
use Rattle.td_tuples.specs.declared.items.Summary as typed_summary
use Rattle.td_tuples.specs.declared.items.Summary.TheVariants as typed_summaries
use Rattle.td_syntax.specs.declared.tree.UnaryOperator.{UnaryOperator}
use Rattle.td_syntax.specs.declared.tree.BinaryOperator.{BinaryOperator}
use Rattle.td_syntax.specs.declared.tree.Nesting.{Nesting}
use Rattle.td_syntax.specs.declared.tree.Extension.{Extension}
use Rattle.td_syntax.specs.declared.tree.Extension.TheVariants as extension
use Rattle.td_syntax.specs.declared.tree.Aggregate.{Aggregate}
use Rattle.td_syntax.specs.declared.tree.Attributes.{Attributes}
use Rattle.td_syntax.specs.declared.tree.Renaming.{Renaming}
use Rattle.td_syntax.specs.declared.tree.Named.{Named}
use Rattle.td_syntax.specs.declared.tree.SummaryTerm.{SummaryTerm}
use Rattle.td_syntax.specs.declared.tree.SummaryTerm.TheVariants as summary
use Rattle.td_syntax.specs.declared.tree.Groups.{Groups}
use Rattle.td_syntax.specs.declared.tree.Groups.TheVariants as groups
use Rattle.td_syntax.specs.declared.tree.TypeExpr.{TypeExpr}
use Rattle.td_syntax.specs.declared.tree.Expr.{Expr}
use Rattle.td_syntax.specs.declared.tree.Expr.TheVariants as e
use Rattle.td_schema.specs.declared.schema.Representation.{Representation}
use Rattle.td_schema.specs.Kinds.{Name, kind_of, is_part}
use Rattle.td_schema.specs.Schemas.{SchemaData, begins_with_the, possrep_named, type_named, component_named}
use Rattle.td_schema.specs.declared.scope.Meant.TheVariants.{Local as local, Relvar as relvar}
use Rattle.td_schema.specs.Scopes.{Scope, within_tuple, with_names}
use Rattle.td_schema.specs.Written.{names, heading_written}
use Rattle.td_schema.specs.Lists.{are_distinct, attributes_of, renaming_pair}
use Rattle.td_schema.specs.Operators.{unary_kind, binary_kind, suits}
use Rattle.td_schema.specs.Forms.{kind_heading, part_kind, renamed_kind, nested_heading, unnested_heading, from_kind, may_extend}
use Rattle.td_typed_trees.specs.declared.tree.TypedGroups.{TypedGroups}
use Rattle.td_typed_trees.specs.declared.tree.TypedGroups.TheVariants as typed_groups
use Rattle.td_typed_trees.specs.declared.tree.Typed.{Typed}
use Rattle.td_typed_trees.specs.declared.tree.Typed.TheVariants as t
use Rattle.td_typed_trees.specs.declared.tree.Typing.{Typing}
use Rattle.td_typing.specs.Trees.{typing, trees, kinds, named, item_of, summary_of, component_kinds}

mutual
  pub data Types (cat : SchemaData) : Scope → Expr → Typed → TypeKind → Type 0 where
    -- literals
    integer : {s : Scope} {n : ℤ} → Types cat s (e.Integer n) (t.Integer n) kind.Integer
    text : {s : Scope} {x : List ℕ} → Types cat s (e.Text x) (t.Text x) kind.Char
    truth : {s : Scope} {b : Bool} → Types cat s (e.Truth b) (t.Truth b) kind.Boolean
    -- no attributes, and one tuple or none
    table_dee : {s : Scope}
        → Types cat s e.TableDee (t.Relation by_name.empty (t.Tuple [] ∷ [])) (kind.Relation by_name.empty)
    table_dum : {s : Scope} → Types cat s e.TableDum (t.Relation by_name.empty []) (kind.Relation by_name.empty)
    -- an attribute or a name of WITH has the kind that the scope gives it; a relvar is the relation of its heading
    local_name : {s : Scope} {x : Name} {k : TypeKind} → s x ≡ Some (local k) → Types cat s (e.Name x) (t.Local x) k
    relvar_name : {s : Scope} {x : Name} {n : ℕ} {h : Header}
        → s x ≡ Some (relvar n h)
        → Types cat s (e.Name x) (t.Relvar n) (kind.Relation h)
    -- a selector: the name is a possrep's and does not begin with THE_; as many operands as components, of their kinds
    selector : {s : Scope} {x : Name} {xs : List Expr} {ys : List Typing} {n : ℕ} {r : Representation}
        → begins_with_the x ≡ false
        → possrep_named cat x ≡ Some (n, r)
        → TypesEach cat s xs ys
        → kinds ys ≡ component_kinds r
        → Types cat s (e.Call x xs) (t.Select n (trees ys)) (kind.User r.possrep.ty)
    -- THE_: one operand of a user type, whose possrep has the component
    component : {s : Scope} {x m : Name} {a : Expr} {u : Typed} {n i : ℕ} {r : Representation} {f : Named TypeKind}
        → begins_with_the x ≡ true
        → Types cat s a u (kind.User m)
        → type_named cat m ≡ Some (n, r)
        → component_named r.components (drop 4 x) ≡ Some (i, f)
        → Types cat s (e.Call x (a ∷ [])) (t.Component i u) f.value
    -- distinct names
    tuple : {s : Scope} {xs : List (Named Expr)} {is : List (Item Typed)}
        → are_distinct (names xs) ≡ true
        → TypesItems cat s xs is
        → Types cat s (e.Tuple xs) (t.Tuple is) (kind.Tuple (columns_of is))
    -- without a heading one tuple at least, and all of one heading; with one, all of that heading
    tuples : {s : Scope} {a : Expr} {xs : List Expr} {ys : List Typing} {h : Header}
        → TypesEach cat s (a ∷ xs) ys
        → All (λ (y : Typing). y.kind ≡ kind.Tuple h) ys
        → Types cat s (e.Relation None (a ∷ xs)) (t.Relation h (trees ys)) (kind.Relation h)
    headed : {s : Scope} {fs : List (Named TypeExpr)} {xs : List Expr} {ys : List Typing} {h : Header}
        → heading_written cat fs ≡ Some h
        → TypesEach cat s xs ys
        → All (λ (y : Typing). y.kind ≡ kind.Tuple h) ys
        → Types cat s (e.Relation (Some fs) xs) (t.Relation h (trees ys)) (kind.Relation h)
    -- operators: what they take and give
    unary : {s : Scope} {o : UnaryOperator} {a : Expr} {u : Typed} {j k : TypeKind}
        → Types cat s a u j
        → unary_kind o j ≡ Some k
        → Types cat s (e.Unary o a) (t.Unary o u) k
    binary : {s : Scope} {o : BinaryOperator} {a b : Expr} {u v : Typed} {i j k : TypeKind}
        → Types cat s a u i
        → Types cat s b v j
        → binary_kind o i j ≡ Some k
        → Types cat s (e.Binary o a b) (t.Binary o u v) k
    -- an attribute of a tuple
    from : {s : Scope} {x : Name} {a : Expr} {u : Typed} {j k : TypeKind}
        → Types cat s a u j
        → from_kind x j ≡ Some k
        → Types cat s (e.From x a) (t.From x u) k
    -- of a relation or of a tuple, attributes that are there
    project : {s : Scope} {a : Expr} {xs : Attributes} {u : Typed} {k : TypeKind} {h : Header} {ns : List Name}
        → Types cat s a u k
        → kind_heading k ≡ Some h
        → attributes_of xs h ≡ Some ns
        → Types cat s (e.Project a xs) (t.Project u ns) (part_kind ns k)
    -- a condition that sees the relation's attributes
    where_ : {s : Scope} {a c : Expr} {u v : Typed} {h : Header}
        → Types cat s a u (kind.Relation h)
        → Types cat (within_tuple h s) c v kind.Boolean
        → Types cat s (e.Where a c) (t.Where u v) (kind.Relation h)
    rename : {s : Scope} {a : Expr} {xs : List Renaming} {u : Typed} {j k : TypeKind}
        → Types cat s a u j
        → renamed_kind (map renaming_pair xs) j ≡ Some k
        → Types cat s (e.Rename a xs) (t.Rename u (map renaming_pair xs)) k
    -- GROUP and WRAP of attributes that are there, as a new one; UNGROUP and UNWRAP
    nest : {s : Scope} {o : Nesting} {a : Expr} {xs : Attributes} {c : Name} {u : Typed} {h g : Header} {ns : List Name}
        → Types cat s a u (kind.Relation h)
        → attributes_of xs h ≡ Some ns
        → nested_heading o ns c h ≡ Some g
        → Types cat s (e.Nest o a xs c) (t.Nest o u ns c) (kind.Relation g)
    unnest : {s : Scope} {o : Nesting} {a : Expr} {c : Name} {u : Typed} {h g : Header}
        → Types cat s a u (kind.Relation h)
        → unnested_heading o c h ≡ Some g
        → Types cat s (e.Unnest o a c) (t.Unnest o u c) (kind.Relation g)
    -- a term that sees the relation's attributes; without a term the relation has one attribute, which is meant
    aggregate : {s : Scope} {o : Aggregate} {a b : Expr} {u v : Typed} {h : Header} {k : TypeKind}
        → Types cat s a u (kind.Relation h)
        → Types cat (within_tuple h s) b v k
        → suits o k ≡ true
        → Types cat s (e.Aggregate o a (Some b)) (t.Aggregate u (summary_of o v)) k
    aggregate_lone : {s : Scope} {o : Aggregate} {a : Expr} {u : Typed} {h : Header} {n : Name} {ty : Ty}
        → Types cat s a u (kind.Relation h)
        → by_name.entries h ≡ (n, ty) ∷ []
        → suits o (kind_of ty) ≡ true
        → Types cat s (e.Aggregate o a None) (t.Aggregate u (summary_of o (t.Local n))) (kind_of ty)
    -- branches of one kind
    choice : {s : Scope} {a b c : Expr} {u v w : Typed} {k : TypeKind}
        → Types cat s a u kind.Boolean
        → Types cat s b v k
        → Types cat s c w k
        → Types cat s (e.If a b c) (t.If u v w) k
    -- terms that see the relation's attributes; new names are distinct, and with ADD not among the relation's
    extend : {s : Scope} {o : Extension} {a : Expr} {xs : List (Named Expr)} {u : Typed} {is : List (Item Typed)}
        {h : Header}
        → Types cat s a u (kind.Relation h)
        → may_extend o (names xs) h ≡ true
        → TypesItems cat (within_tuple h s) xs is
        → Types cat s (e.Extend o a xs) (t.Extend u is) (kind.Relation (extended_columns is h))
    -- terms that see the relation's attributes; new names are distinct and not among those of the groups
    summarize : {s : Scope} {a : Expr} {g : Groups Expr} {xs : List (Named (SummaryTerm Expr))} {u : Typed}
        {gs : TypedGroups Typed} {is : List (Item (typed_summary.Summary Typed))} {h k : Header}
        → Types cat s a u (kind.Relation h)
        → TypesGroups cat s h g gs k
        → may_extend extension.Add (names xs) k ≡ true
        → TypesSummaries cat (within_tuple h s) xs is
        → Types cat s (e.Summarize a g xs) (t.Summarize u gs is) (kind.Relation (extended_columns is k))
    -- each expression sees the names before it, and the body sees all
    with_ : {s : Scope} {xs : List (Named Expr)} {b : Expr} {us : List (Named Typed)} {ks : List (Named TypeKind)}
        {u : Typed} {k : TypeKind}
        → TypesInTurn cat s [] xs us ks
        → Types cat (with_names ks s) b u k
        → Types cat s (e.With xs b) (t.With us u) k

  -- the groups of a relation of the heading, and the heading of the groups: one group of all, with no attributes; one
  -- for each tuple of a relation with some of the attributes; one for each value of some of the attributes
  pub data TypesGroups (cat : SchemaData) : Scope → Header → Groups Expr → TypedGroups Typed → Header → Type 0 where
    whole : {s : Scope} {h : Header} → TypesGroups cat s h groups.Whole typed_groups.Whole by_name.empty
    per : {s : Scope} {h k : Header} {a : Expr} {u : Typed}
        → Types cat s a u (kind.Relation k)
        → is_part k h ≡ true
        → TypesGroups cat s h (groups.Per a) (typed_groups.Per u) k
    by : {s : Scope} {h : Header} {xs : Attributes} {ns : List Name}
        → attributes_of xs h ≡ Some ns
        → TypesGroups cat s h (groups.By xs) (typed_groups.By ns) (columns_in ns h)

  -- expressions of one scope, each with its tree and its kind
  pub data TypesEach (cat : SchemaData) : Scope → List Expr → List Typing → Type 0 where
    none : {s : Scope} → TypesEach cat s [] []
    next : {s : Scope} {a : Expr} {u : Typed} {k : TypeKind} {xs : List Expr} {ys : List Typing}
        → Types cat s a u k
        → TypesEach cat s xs ys
        → TypesEach cat s (a ∷ xs) (typing u k ∷ ys)

  -- named expressions of one scope, as new attributes
  pub data TypesItems (cat : SchemaData) : Scope → List (Named Expr) → List (Item Typed) → Type 0 where
    no_items : {s : Scope} → TypesItems cat s [] []
    next_item : {s : Scope} {n : Name} {a : Expr} {u : Typed} {k : TypeKind} {xs : List (Named Expr)}
        {is : List (Item Typed)}
        → Types cat s a u k
        → TypesItems cat s xs is
        → TypesItems cat s (named n a ∷ xs) (item_of n k u ∷ is)

  -- summaries whose terms are of one scope, as new attributes: COUNT is an INTEGER, an aggregate has its terms' kind
  pub data TypesSummaries (cat : SchemaData)
      : Scope → List (Named (SummaryTerm Expr)) → List (Item (typed_summary.Summary Typed)) → Type 0 where
    no_summaries : {s : Scope} → TypesSummaries cat s [] []
    count : {s : Scope} {n : Name} {xs : List (Named (SummaryTerm Expr))} {is : List (Item (typed_summary.Summary Typed))}
        → TypesSummaries cat s xs is
        → TypesSummaries cat s (named n summary.Count ∷ xs) (item_of n kind.Integer typed_summaries.Count ∷ is)
    of_terms : {s : Scope} {n : Name} {o : Aggregate} {a : Expr} {u : Typed} {k : TypeKind}
        {xs : List (Named (SummaryTerm Expr))} {is : List (Item (typed_summary.Summary Typed))}
        → Types cat s a u k
        → suits o k ≡ true
        → TypesSummaries cat s xs is
        → TypesSummaries cat s (named n (summary.Of o a) ∷ xs) (item_of n k (summary_of o u) ∷ is)

  -- named expressions, of which each sees the names before it: those that it begins with, and those that it ends with
  pub data TypesInTurn (cat : SchemaData)
      : Scope → List (Named TypeKind) → List (Named Expr) → List (Named Typed) → List (Named TypeKind) → Type 0 where
    last : {s : Scope} {ks : List (Named TypeKind)} → TypesInTurn cat s ks [] [] ks
    further : {s : Scope} {ks all : List (Named TypeKind)} {n : Name} {a : Expr} {u : Typed} {k : TypeKind}
        {xs : List (Named Expr)} {us : List (Named Typed)}
        → Types cat (with_names ks s) a u k
        → TypesInTurn cat s (ks ++ named n k ∷ []) xs us all
        → TypesInTurn cat s ks (named n a ∷ xs) (named n u ∷ us) all

-- no rule gives it a tree and a kind
abbrev pub IsIllTyped : SchemaData → Scope → Expr → Type 0
IsIllTyped cat s a = (u : Typed) (k : TypeKind) → Types cat s a u k → ⊥
