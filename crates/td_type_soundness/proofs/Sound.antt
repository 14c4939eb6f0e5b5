-- What is typed means a value of its kind, or raises an error.
use Rattle.std.proofs.Common.{◌≡◌, List, [], ◌∷◌, map, drop, None, Some, Ok, if◌then◌else◌, refl, sym, ap, ◌∙◌, subst}
use Rattle.std.specs.FinMap as by_name
use Rattle.std.specs.List.{All}
use Rattle.std.specs.Ordering.{is_eq}
use Rattle.std.specs.Cmp.{tied_itself}
use Rattle.td_values.specs.Data.{Ty, boolean, integer, char, Attrs}
use Rattle.td_values.specs.Headings.{Header}
use Rattle.td_values.specs.Order.{text_cmp}
use Rattle.td_values.specs.Rows.{RowsData}
use Rattle.td_values.specs.TextOrder.{text_total}
use Rattle.td_values.specs.declared.TypeKind.{TypeKind}
use Rattle.td_values.specs.declared.TypeKind.TheVariants as kind
use Rattle.td_tuples.specs.Items.{columns_of, extended_columns}
use Rattle.td_tuples.specs.declared.items.Item.{Item}
use Rattle.td_tuples.specs.declared.items.Summary as typed_summary
use Rattle.td_syntax.specs.declared.tree.Named.{Named}
use Rattle.td_syntax.specs.declared.tree.SummaryTerm.{SummaryTerm}
use Rattle.td_syntax.specs.declared.tree.Groups.{Groups}
use Rattle.td_syntax.specs.declared.tree.Expr.{Expr}
use Rattle.td_typed_trees.specs.declared.tree.TypedGroups.{TypedGroups}
use Rattle.td_typed_trees.specs.declared.tree.Typed.{Typed}
use Rattle.td_typed_trees.specs.declared.tree.Typed.TheVariants as t
use Rattle.td_typed_trees.specs.declared.tree.Typing.{Typing}
use Rattle.td_algebra.proofs.Lists.{all_in, in_map}
use Rattle.td_schema.specs.declared.scope.Meant.TheVariants.{Local as local, Relvar as relvar}
use Rattle.td_schema.specs.Forms.{part_kind as part_of}
use Rattle.td_schema.specs.Kinds.{Name, kind_of}
use Rattle.td_schema.specs.Lists.{renaming_pair}
use Rattle.td_schema.specs.Schemas.{SchemaData, has_possrep}
use Rattle.td_schema.specs.Scopes as scopes
use Rattle.td_schema.specs.Scopes.{Scope, with_names}
use Rattle.td_meaning.specs.ForProofs.Over.{terms, list_meant, items_meant, all_meant, groups_meant, over_aggregate, over_extend, over_summarize}
use Rattle.td_meaning.specs.Mean as mean
use Rattle.td_meaning.specs.Mean.{Names, Meaning, Relvars, Selection, at, introduced, groups_at}
use Rattle.td_operators.specs.Operators.{in_turn, operate_on, component_at, attribute_at, part_at, with_new_names, nested, unnested}
use Rattle.td_meaning.proofs.Forms as forms
use Rattle.td_typing.specs.Trees.{kinds, trees, summary_of}
use Rattle.td_typing.specs.Types as types
use Rattle.td_typing.specs.Types.{Types, TypesEach, TypesItems, TypesInTurn, TypesGroups, TypesSummaries}
use Rattle.td_type_soundness.specs.Meanings.{OrError, GivesValue, IsTupleOver, IsRelationOver, GivesRelation, AreMeant, Selects}
use Rattle.td_type_soundness.proofs.Errors.{Each, with_first}
use Rattle.td_type_soundness.proofs.Forms.{local_gives, relvar_gives, by_gives, binary_form_gives, if_gives, introduced_last, introduced_next, with_gives, where_gives, aggregate_gives, extend_gives, aggregate_over, summarize_gives, whole_gives, per_gives, by_columns_gives}
use Rattle.td_type_soundness.proofs.Lists.{HaveKinds, next_given, select_gives, relation_gives, tuple_of_terms}
use Rattle.td_type_soundness.proofs.OneOperand.{placed, unary_gives, component_gives, attribute_gives, part_gives, rename_gives, nest_gives, unnest_gives}
use Rattle.td_type_soundness.proofs.OverTuples.{TermsGive, SummariesGive}
use Rattle.td_type_soundness.proofs.Scoped.{within_are, further_are}

-- tuples of one heading, by their kinds
all_tuples : (h : Header) (ys : List Typing) → All (λ (y : Typing). y.kind ≡ kind.Tuple h) ys → Each (λ k. k ≡ kind.Tuple h) (kinds ys)
all_tuples h ys all k m =
    let i = in_map (λ (y : Typing). y.kind) ys k m in
    i.2 ∙ all_in (λ (y : Typing). y.kind ≡ kind.Tuple h) ys all i.0 i.1

module _ (s : SchemaData) (relvars : Relvars) (selection : Selection) (selects : Selects s selection) where
  abbrev m : Typed → Meaning
  m = mean.mean relvars selection

  -- the same of another meaning that is the tree's
  by_form : (k : TypeKind) (u : Typed) (f : Meaning) (names : Names) → m u ≡ f → GivesValue s k (f names) → GivesValue s k (m u names)
  by_form k u f names e give = subst (λ g. GivesValue s k (g names)) (sym e) give

  -- a name with a value in scope
  in_scope : (x : Name) (k : TypeKind) (scope : Scope) (names : Names) → AreMeant s relvars scope names → scope x ≡ Some (local k) → GivesValue s k (m (t.Local x) names)
  in_scope x k scope names meant is =
      let d = meant x (local k) is in
      by_form k (t.Local x) (mean.mean_local x) names (forms.of_local relvars selection x) (local_gives s x k d.0 names d.1 d.2)

  -- the attribute of a relation that has one
  lone_is : (h : Header) (n : Name) (ty : Ty) (scope : Scope) → by_name.entries h ≡ (n, ty) ∷ [] → scopes.within_tuple h scope n ≡ Some (local (kind_of ty))
  lone_is h n ty scope e =
      ap (λ o. scopes.or_outer o (scope n))
      (by_name.get-entries h n ∙ ap (by_name.find text_cmp n) e ∙ ap (λ o. if is_eq o then Some ty else None) (tied_itself text_total n))

  -- ---- the walk along the typing
  mutual
    pub gives : (scope : Scope) (names : Names) {a : Expr} {u : Typed} {k : TypeKind} → AreMeant s relvars scope names → Types s scope a u k → GivesValue s k (m u names)
    gives scope names meant (types.integer {n}) = by_form kind.Integer (t.Integer n) (λ w. Ok (integer n)) names (forms.of_integer relvars selection n) (refl, tt)
    gives scope names meant (types.text {x}) = by_form kind.Char (t.Text x) (λ w. Ok (char x)) names (forms.of_text relvars selection x) (refl, tt)
    gives scope names meant (types.truth {b}) = by_form kind.Boolean (t.Truth b) (λ w. Ok (boolean b)) names (forms.of_truth relvars selection b) (refl, tt)
    gives scope names meant types.table_dee =
        let unit = by_form (kind.Tuple by_name.empty) (t.Tuple []) (mean.mean_tuple []) names (forms.of_tuple relvars selection []) (tuple_of_terms s m names [] tt) in
        by_form (kind.Relation by_name.empty) (t.Relation by_name.empty (t.Tuple [] ∷ [])) (mean.mean_relation by_name.empty (list_meant m (t.Tuple [] ∷ []))) names (forms.of_relation relvars selection by_name.empty (t.Tuple [] ∷ []))
        (relation_gives s by_name.empty (kind.Tuple by_name.empty ∷ []) names (m (t.Tuple []) ∷ []) (with_first (λ k. k ≡ kind.Tuple by_name.empty) (kind.Tuple by_name.empty) [] refl (λ k i. absurd i)) (next_given s (kind.Tuple by_name.empty) [] names (m (t.Tuple [])) [] unit tt))
    gives scope names meant types.table_dum =
        by_form (kind.Relation by_name.empty) (t.Relation by_name.empty []) (mean.mean_relation by_name.empty []) names (forms.of_relation relvars selection by_name.empty [])
        (relation_gives s by_name.empty [] names [] (λ k i. absurd i) tt)
    gives scope names meant (types.local_name {x} {k} is) = in_scope x k scope names meant is
    gives scope names meant (types.relvar_name {x} {n} {h} is) = by_form (kind.Relation h) (t.Relvar n) (mean.mean_relvar relvars n) names (forms.of_relvar relvars selection n) (relvar_gives s relvars n h names (meant x (relvar n h) is))
    gives scope names meant (types.selector {x} {ys} {n} {r} plain is all one) =
        by_form (kind.User r.possrep.ty) (t.Select n (trees ys)) (mean.mean_select selection n (list_meant m (trees ys))) names (forms.of_select relvars selection n (trees ys))
        (select_gives s selection n r (kinds ys) names (list_meant m (trees ys)) selects (placed (has_possrep x) s.possreps n r is) one (give_each scope names meant all))
    gives scope names meant (types.component {x} {m = n'} {u} {n} {i} {r} {f} the a is has) =
        by_form f.value (t.Component i u) (mean.mean_by (component_at i) (m u)) names (forms.of_component relvars selection i u)
        (by_gives s (kind.User n') f.value (component_at i) (m u) names (gives scope names meant a) (λ d given. component_gives s n' n i r f (drop 4 x) d is has given))
    gives scope names meant (types.tuple {is} distinct all) =
        by_form (kind.Tuple (columns_of is)) (t.Tuple is) (mean.mean_tuple (items_meant m is)) names (forms.of_tuple relvars selection is)
        (tuple_of_terms s m names is (give_items scope names meant all))
    gives scope names meant (types.tuples {ys} {h} all one) =
        by_form (kind.Relation h) (t.Relation h (trees ys)) (mean.mean_relation h (list_meant m (trees ys))) names (forms.of_relation relvars selection h (trees ys))
        (relation_gives s h (kinds ys) names (list_meant m (trees ys)) (all_tuples h ys one) (give_each scope names meant all))
    gives scope names meant (types.headed {ys} {h} written all one) =
        by_form (kind.Relation h) (t.Relation h (trees ys)) (mean.mean_relation h (list_meant m (trees ys))) names (forms.of_relation relvars selection h (trees ys))
        (relation_gives s h (kinds ys) names (list_meant m (trees ys)) (all_tuples h ys one) (give_each scope names meant all))
    gives scope names meant (types.unary {o} {u} {j} {k} a is) =
        by_form k (t.Unary o u) (mean.mean_by (operate_on o) (m u)) names (forms.of_unary relvars selection o u)
        (by_gives s j k (operate_on o) (m u) names (gives scope names meant a) (λ d has. unary_gives s o j k d is has))
    gives scope names meant (types.binary {o} {u} {v} {i} {j} {k} a b is) =
        by_form k (t.Binary o u v) (mean.mean_binary o (m u) (m v)) names (forms.of_binary relvars selection o u v)
        (binary_form_gives s o i j k (m u) (m v) names is (gives scope names meant a) (gives scope names meant b))
    gives scope names meant (types.from {x} {u} {j} {k} a is) =
        by_form k (t.From x u) (mean.mean_by (attribute_at x) (m u)) names (forms.of_from relvars selection x u)
        (by_gives s j k (attribute_at x) (m u) names (gives scope names meant a) (λ d has. attribute_gives s x j k d is has))
    gives scope names meant (types.project {u} {k} {h} {ns} a has are) =
        by_form (part_of ns k) (t.Project u ns) (mean.mean_by (part_at ns) (m u)) names (forms.of_project relvars selection u ns)
        (by_gives s k (part_of ns k) (part_at ns) (m u) names (gives scope names meant a) (λ d given. part_gives s ns k h d has given))
    gives scope names meant (types.where_ {u} {v} {h} a b) =
        by_form (kind.Relation h) (t.Where u v) (mean.mean_where (m u) (m v)) names (forms.of_where relvars selection u v)
        (where_gives s h (m u) (m v) names (gives scope names meant a) (λ w has. gives (scopes.within_tuple h scope) (mean.within w names) (within_are s relvars h w scope names has meant) b))
    gives scope names meant (types.rename {xs} {u} {j} {k} a is) =
        by_form k (t.Rename u (map renaming_pair xs)) (mean.mean_by (with_new_names (map renaming_pair xs)) (m u)) names (forms.of_rename relvars selection u (map renaming_pair xs))
        (by_gives s j k (with_new_names (map renaming_pair xs)) (m u) names (gives scope names meant a) (λ d has. rename_gives s (map renaming_pair xs) j k d is has))
    gives scope names meant (types.nest {o} {c} {u} {h} {g} {ns} a are is) =
        by_form (kind.Relation g) (t.Nest o u ns c) (mean.mean_by (nested o ns c) (m u)) names (forms.of_nest relvars selection o u ns c)
        (by_gives s (kind.Relation h) (kind.Relation g) (nested o ns c) (m u) names (gives scope names meant a) (λ d has. nest_gives s o ns c h g d is has))
    gives scope names meant (types.unnest {o} {c} {u} {h} {g} a is) =
        by_form (kind.Relation g) (t.Unnest o u c) (mean.mean_by (unnested o c) (m u)) names (forms.of_unnest relvars selection o u c)
        (by_gives s (kind.Relation h) (kind.Relation g) (unnested o c) (m u) names (gives scope names meant a) (λ d has. unnest_gives s o c h g d is has))
    gives scope names meant (types.aggregate {o} {u} {v} {h} {k} a b may) =
        by_form k (t.Aggregate u (summary_of o v)) (over_aggregate m u (summary_of o v)) names (forms.of_aggregate relvars selection u (summary_of o v))
        (aggregate_gives s m names o u v h k may (gives scope names meant a) (λ w has. gives (scopes.within_tuple h scope) (mean.within w names) (within_are s relvars h w scope names has meant) b))
    gives scope names meant (types.aggregate_lone {o} {u} {h} {n} {ty} a one may) =
        by_form (kind_of ty) (t.Aggregate u (summary_of o (t.Local n))) (over_aggregate m u (summary_of o (t.Local n))) names (forms.of_aggregate relvars selection u (summary_of o (t.Local n)))
        (aggregate_gives s m names o u (t.Local n) h (kind_of ty) may (gives scope names meant a) (λ w has. in_scope n (kind_of ty) (scopes.within_tuple h scope) (mean.within w names) (within_are s relvars h w scope names has meant) (lone_is h n ty scope one)))
    gives scope names meant (types.choice {u} {v} {w} {k} a b c) =
        by_form k (t.If u v w) (mean.mean_if (m u) (m v) (m w)) names (forms.of_if relvars selection u v w)
        (if_gives s k (m u) (m v) (m w) names (gives scope names meant a) (gives scope names meant b) (gives scope names meant c))
    gives scope names meant (types.extend {u} {is} {h} a may all) =
        by_form (kind.Relation (extended_columns is h)) (t.Extend u is) (over_extend m u is) names (forms.of_extend relvars selection u is)
        (extend_gives s m names u is h (gives scope names meant a) (λ w has. give_items (scopes.within_tuple h scope) (mean.within w names) (within_are s relvars h w scope names has meant) all))
    gives scope names meant (types.summarize {u} {gs} {is} {h} {k} a groups may all) =
        by_form (kind.Relation (extended_columns is k)) (t.Summarize u gs is) (over_summarize m u gs is) names (forms.of_summarize relvars selection u gs is)
        (summarize_gives s m names u gs is h k (gives scope names meant a) (λ ts rel. give_groups scope names meant ts rel groups) (give_summaries (scopes.within_tuple h scope) names h (λ w has. within_are s relvars h w scope names has meant) all))
    gives scope names meant (types.with_ {us} {ks} {u} {k} all b) =
        by_form k (t.With us u) (mean.mean_with (all_meant m us) (m u)) names (forms.of_with relvars selection us u)
        (with_gives s k (AreMeant s relvars (with_names ks scope)) (all_meant m us) (m u) names (give_in_turn scope names meant all) (λ after are. gives (with_names ks scope) after are b))

    give_groups : (scope : Scope) (names : Names) {h k : Header} {g : Groups Expr} {gs : TypedGroups Typed} → AreMeant s relvars scope names → (ts : RowsData) → IsRelationOver s h ts → TypesGroups s scope h g gs k → GivesRelation s k (groups_at (groups_meant m gs) names ts)
    give_groups scope names meant ts rel types.whole = whole_gives s m names ts
    give_groups scope names meant ts rel (types.per {k} {u} a part) = per_gives s m names u k ts (gives scope names meant a)
    give_groups scope names meant ts rel (types.by {h} {ns} are) = by_columns_gives s m names ns h ts rel

    give_each : (scope : Scope) (names : Names) {xs : List Expr} {ys : List Typing} → AreMeant s relvars scope names → TypesEach s scope xs ys → OrError (HaveKinds s (kinds ys)) (in_turn (at names) (list_meant m (trees ys)))
    give_each scope names meant types.none = tt
    give_each scope names meant (types.next {u} {k} {ys} a rest) = next_given s k (kinds ys) names (m u) (list_meant m (trees ys)) (gives scope names meant a) (give_each scope names meant rest)

    give_items : (scope : Scope) (names : Names) {xs : List (Named Expr)} {is : List (Item Typed)} → AreMeant s relvars scope names → TypesItems s scope xs is → TermsGive s (λ u. m u names) is
    give_items scope names meant types.no_items = tt
    give_items scope names meant (types.next_item a rest) = (gives scope names meant a, give_items scope names meant rest)

    give_summaries : (scope : Scope) (names : Names) (h : Header) {xs : List (Named (SummaryTerm Expr))} {is : List (Item (typed_summary.Summary Typed))} → ((w : Attrs) → IsTupleOver s h w → AreMeant s relvars scope (mean.within w names)) → TypesSummaries s scope xs is → SummariesGive s h (terms m names) is
    give_summaries scope names h meant types.no_summaries = tt
    give_summaries scope names h meant (types.count rest) = ((λ ts are. (refl, tt)), give_summaries scope names h meant rest)
    give_summaries scope names h meant (types.of_terms {o} {u} {k} a may rest) = (
      aggregate_over s m names o u h k may (λ w has. gives scope (mean.within w names) (meant w has) a),
      give_summaries scope names h meant rest,
    )

    give_in_turn : (scope : Scope) (names : Names) {ks all : List (Named TypeKind)} {xs : List (Named Expr)} {us : List (Named Typed)} → AreMeant s relvars (with_names ks scope) names → TypesInTurn s scope ks xs us all → OrError (AreMeant s relvars (with_names all scope)) (introduced (all_meant m us) names)
    give_in_turn scope names meant (types.last {ks}) = introduced_last s (AreMeant s relvars (with_names ks scope)) names meant
    give_in_turn scope names meant (types.further {ks} {all} {n} {u} {k} {us} a rest) =
        introduced_next s (AreMeant s relvars (with_names all scope)) k n (m u) (all_meant m us) names (gives (with_names ks scope) names meant a)
        (λ d has. give_in_turn scope (mean.given n d names) (further_are s relvars ks n k d scope names has meant) rest)
