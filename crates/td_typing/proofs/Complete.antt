-- What has a type is inferred.
use Rattle.std.proofs.Common.{◌≡◌, ◌++◌, Bool, true, List, [], ◌∷◌, map, drop, Option, Some, None, refl, ap, sym, ◌∙◌, append_assoc, append-nil, arith}
use Rattle.std.specs.List.{All}
use Rattle.td_values.specs.Headings.{Header}
use Rattle.td_values.specs.declared.TypeKind.{TypeKind}
use Rattle.td_values.specs.declared.TypeKind.TheVariants as kind
use Rattle.td_tuples.specs.Parts.{columns_in}
use Rattle.td_tuples.specs.Items.{columns_of, extended_columns}
use Rattle.td_tuples.specs.declared.items.Item.{Item}
use Rattle.td_tuples.specs.declared.items.Summary as typed_summary
use Rattle.td_tuples.specs.declared.items.Summary.TheVariants as typed_summaries
use Rattle.td_syntax.specs.declared.tree.Named.{Named}
use Rattle.td_syntax.specs.declared.tree.SummaryTerm.{SummaryTerm}
use Rattle.td_syntax.specs.declared.tree.Groups.{Groups}
use Rattle.td_syntax.specs.declared.tree.Expr.{Expr}
use Rattle.td_typed_trees.specs.declared.tree.TypedGroups.{TypedGroups}
use Rattle.td_typed_trees.specs.declared.tree.TypedGroups.TheVariants as typed_groups
use Rattle.td_typed_trees.specs.declared.tree.Typed.{Typed}
use Rattle.td_typed_trees.specs.declared.tree.Typed.TheVariants as t
use Rattle.td_typed_trees.specs.declared.tree.Typing.{Typing}
use Rattle.td_schema.specs.Results.{where_true, where_some}
use Rattle.td_schema.specs.Kinds.{kind_of, tuple_heading}
use Rattle.td_schema.specs.Schemas.{SchemaData}
use Rattle.td_schema.specs.Scopes.{Scope, within_tuple, with_names}
use Rattle.td_schema.specs.Written.{names}
use Rattle.td_schema.specs.Lists.{attributes_of, renaming_pair}
use Rattle.td_schema.specs.Forms.{part_kind}
use Rattle.td_typing.specs.Trees.{typing, trees, kinds, named, item_of, summary_of}
use Rattle.td_typing.specs.ForProofs.Infer as spec
use Rattle.td_typing.specs.ForProofs.Infer.{Inferred, infer, each, operands, all_inferred, named_inferred, name_inferred, groups_inferred, summaries_inferred, grouping, introduced}
use Rattle.td_typing.specs.Types as types
use Rattle.td_typing.specs.Types.{Types, TypesEach, TypesItems, TypesInTurn, TypesGroups, TypesSummaries}
use Rattle.td_typing.proofs.Equations.{of_integer, of_text, of_truth, of_dee, of_dum, of_name, of_call, of_relation, of_unary, of_binary, of_from, of_project, of_where, of_rename, of_nest, of_unnest, of_aggregate, of_aggregate_lone, of_if, of_tuple, of_extend, of_summarize, of_with}
use Rattle.td_typing.proofs.KindLemmas.{same_itself, fits, all_tuples}

goes : {A B : Type 0} (o : Option A) (a : A) (f : A → Option B) → o ≡ Some a → where_some o f ≡ f a
goes o a f h = ap (λ x. where_some x f) h

passes : {A : Type 0} (b : Bool) (a : A) → b ≡ true → where_true b a ≡ Some a
passes b a h = ap (λ c. where_true c a) h

module _ (cat : SchemaData) where
  -- the heading of the tuples is that of the first
  of_first : {s : Scope} {a : Expr} {xs : List Expr} {ys : List Typing} {h : Header} → TypesEach cat s (a ∷ xs) ys → All (λ (y : Typing). y.kind ≡ kind.Tuple h) ys → spec.heading_meant cat None (kinds ys) ≡ Some h
  of_first {h} (types.next {u} {k} {ys} d rest) all = ap tuple_heading (all 0 (typing u k) (omega arith))

  mutual
    unfolding spec.infer_name spec.infer_by spec.by_unary spec.by_from spec.by_project spec.by_rename spec.nested spec.by_nest spec.by_unnest spec.aggregated spec.lone_term spec.by_lone spec.by_binary spec.infer_binary spec.truth_tree spec.chosen spec.infer_if spec.restricted spec.infer_where spec.infer_aggregate spec.infer_operands spec.selected spec.infer_selector spec.component_of_type spec.component_of spec.infer_component spec.infer_call spec.relation_of spec.gathered spec.infer_relation spec.infer_item spec.infer_items spec.tuple_of spec.infer_tuple spec.extended spec.infer_extend spec.grouped_per spec.grouped_by spec.summed spec.infer_summary spec.infer_summaries spec.summarized spec.infer_summarize spec.introduces spec.with_tree spec.infer_with

    pub complete : {s : Scope} {a : Expr} {u : Typed} {k : TypeKind} → Types cat s a u k → infer cat a s ≡ Some (typing u k)
    complete (types.integer {s} {n}) = ap (λ (f : Inferred). f s) (of_integer cat n)
    complete (types.text {s} {x}) = ap (λ (f : Inferred). f s) (of_text cat x)
    complete (types.truth {s} {b}) = ap (λ (f : Inferred). f s) (of_truth cat b)
    complete (types.table_dee {s}) = ap (λ (f : Inferred). f s) (of_dee cat)
    complete (types.table_dum {s}) = ap (λ (f : Inferred). f s) (of_dum cat)
    complete (types.local_name {s} {x} h) = ap (λ (f : Inferred). f s) (of_name cat x) ∙ ap (spec.meant_by x) h
    complete (types.relvar_name {s} {x} h) = ap (λ (f : Inferred). f s) (of_name cat x) ∙ ap (spec.meant_by x) h
    complete (types.selector {s} {x} {xs} {ys} {n} {r} plain is all same) =
        ap (λ (f : Inferred). f s) (of_call cat x xs) ∙ ap (λ b. spec.infer_called cat x b (all_inferred cat xs) s) plain
        ∙ goes _ (operands (trees ys) (kinds ys)) (spec.selected cat x) (complete_each all [] []) ∙ goes _ (n, r) (λ r. where_true (spec.fit (kinds ys) r.1.components) (typing (t.Select r.0 (trees ys)) (kind.User r.1.possrep.ty))) is
        ∙ passes _ (typing (t.Select n (trees ys)) (kind.User r.possrep.ty)) (fits (kinds ys) r.components same)
    complete (types.component {s} {x} {m} {a} {u} {n} {i} {r} {f} the d is has) =
        ap (λ (f : Inferred). f s) (of_call cat x (a ∷ [])) ∙ ap (λ b. spec.infer_called cat x b (all_inferred cat (a ∷ [])) s) the
        ∙ goes _ (typing u (kind.User m)) (spec.component_of cat (drop 4 x)) (complete d) ∙ goes _ (n, r) (λ r. spec.component_of_type r.1.components (drop 4 x) u) is
        ∙ goes _ (i, f) (λ f. Some (typing (t.Component f.0 u) f.1.value)) has
    complete (types.tuple {s} {xs} {is} distinct all) =
        ap (λ (f : Inferred). f s) (of_tuple cat xs) ∙ goes _ is (spec.tuple_of (names xs)) (complete_items all []) ∙ passes _ (typing (t.Tuple is) (kind.Tuple (columns_of is))) distinct
    complete (types.tuples {s} {a} {xs} {ys} {h} all same) =
        ap (λ (f : Inferred). f s) (of_relation cat None (a ∷ xs)) ∙ goes _ (operands (trees ys) (kinds ys)) (spec.gathered cat None) (complete_each all [] [])
        ∙ goes _ h (spec.relation_of (operands (trees ys) (kinds ys))) (of_first all same) ∙ passes _ (typing (t.Relation h (trees ys)) (kind.Relation h)) (all_tuples h ys same)
    complete (types.headed {s} {fs} {xs} {ys} {h} is all same) =
        ap (λ (f : Inferred). f s) (of_relation cat (Some fs) xs) ∙ goes _ (operands (trees ys) (kinds ys)) (spec.gathered cat (Some fs)) (complete_each all [] [])
        ∙ goes _ h (spec.relation_of (operands (trees ys) (kinds ys))) is ∙ passes _ (typing (t.Relation h (trees ys)) (kind.Relation h)) (all_tuples h ys same)
    complete (types.unary {s} {o} {a} {u} {j} {k} d h) = ap (λ (f : Inferred). f s) (of_unary cat o a) ∙ goes _ (typing u j) (spec.by_unary o) (complete d) ∙ goes _ k (λ k. Some (typing (t.Unary o u) k)) h
    complete (types.binary {s} {o} {a} {b} {u} {v} {i} {j} {k} d c h) =
        ap (λ (f : Inferred). f s) (of_binary cat o a b) ∙ goes _ (typing u i) (λ x. where_some (infer cat b s) (spec.by_binary o x)) (complete d) ∙ goes _ (typing v j) (spec.by_binary o (typing u i)) (complete c)
        ∙ goes _ k (λ k. Some (typing (t.Binary o u v) k)) h
    complete (types.from {s} {x} {a} {u} {j} {k} d h) = ap (λ (f : Inferred). f s) (of_from cat x a) ∙ goes _ (typing u j) (spec.by_from x) (complete d) ∙ goes _ k (λ k. Some (typing (t.From x u) k)) h
    complete (types.project {s} {a} {xs} {u} {k} {h} {ns} d of is) =
        ap (λ (f : Inferred). f s) (of_project cat a xs) ∙ goes _ (typing u k) (spec.by_project xs) (complete d)
        ∙ goes _ h (λ h. where_some (attributes_of xs h) (λ ns. Some (typing (t.Project u ns) (part_kind ns k)))) of ∙ goes _ ns (λ ns. Some (typing (t.Project u ns) (part_kind ns k))) is
    complete (types.where_ {s} {a} {c} {u} {v} {h} d b) =
        ap (λ (f : Inferred). f s) (of_where cat a c) ∙ goes _ (typing u (kind.Relation h)) _ (complete d) ∙ goes _ (typing v kind.Boolean) _ (complete b)
    complete (types.rename {s} {a} {xs} {u} {j} {k} d h) =
        ap (λ (f : Inferred). f s) (of_rename cat a xs) ∙ goes _ (typing u j) (spec.by_rename xs) (complete d) ∙ goes _ k (λ k. Some (typing (t.Rename u (map renaming_pair xs)) k)) h
    complete (types.nest {s} {o} {a} {xs} {c} {u} {h} {g} {ns} d is has) =
        ap (λ (f : Inferred). f s) (of_nest cat o a xs c) ∙ goes _ (typing u (kind.Relation h)) (spec.by_nest o xs c) (complete d)
        ∙ goes _ ns (λ ns. spec.nested o ns c h u) is ∙ goes _ g (λ g. Some (typing (t.Nest o u ns c) (kind.Relation g))) has
    complete (types.unnest {s} {o} {a} {c} {u} {h} {g} d has) =
        ap (λ (f : Inferred). f s) (of_unnest cat o a c) ∙ goes _ (typing u (kind.Relation h)) (spec.by_unnest o c) (complete d) ∙ goes _ g (λ g. Some (typing (t.Unnest o u c) (kind.Relation g))) has
    complete (types.aggregate {s} {o} {a} {b} {u} {v} {h} {k} d c may) =
        ap (λ (f : Inferred). f s) (of_aggregate cat o a b) ∙ goes _ (typing u (kind.Relation h)) _ (complete d) ∙ goes _ (typing v k) (spec.aggregated o u) (complete c)
        ∙ passes _ (typing (t.Aggregate u (summary_of o v)) k) may
    complete (types.aggregate_lone {s} {o} {a} {u} {h} {n} {ty} d one may) =
        ap (λ (f : Inferred). f s) (of_aggregate_lone cat o a) ∙ goes _ (typing u (kind.Relation h)) (spec.by_lone o) (complete d)
        ∙ goes (spec.lone_term h) (typing (t.Local n) (kind_of ty)) (spec.aggregated o u) (goes _ (n, ty) (λ f. Some (typing (t.Local f.0) (kind_of f.1))) (ap spec.lone one)) ∙ passes _ (typing (t.Aggregate u (summary_of o (t.Local n))) (kind_of ty)) may
    complete (types.choice {s} {a} {b} {c} {u} {v} {w} {k} d f g) =
        ap (λ (f : Inferred). f s) (of_if cat a b c) ∙ goes _ (typing u kind.Boolean) _ (complete d) ∙ goes _ (typing v k) _ (complete f) ∙ goes _ (typing w k) (spec.chosen u (typing v k)) (complete g)
        ∙ passes _ (typing (t.If u v w) k) (same_itself k)
    complete (types.extend {s} {o} {a} {xs} {u} {is} {h} d may all) =
        ap (λ (f : Inferred). f s) (of_extend cat o a xs) ∙ goes _ (typing u (kind.Relation h)) _ (complete d) ∙ goes _ is (spec.extended o (names xs) u h) (complete_items all [])
        ∙ passes _ (typing (t.Extend u is) (kind.Relation (extended_columns is h))) may
    complete (types.summarize {s} {a} {g} {xs} {u} {gs} {is} {h} {k} d groups new all) =
        ap (λ (f : Inferred). f s) (of_summarize cat a g xs) ∙ goes _ (typing u (kind.Relation h)) _ (complete d)
        ∙ goes _ (grouping gs k) (λ p. where_some (spec.infer_summaries (summaries_inferred cat xs) (within_tuple h s)) (spec.summarized (names xs) u p)) (complete_groups groups)
        ∙ goes _ is (spec.summarized (names xs) u (grouping gs k)) (complete_summaries all []) ∙ passes _ (typing (t.Summarize u gs is) (kind.Relation (extended_columns is k))) new
    complete (types.with_ {s} {xs} {b} {us} {ks} {u} {k} all d) =
        ap (λ (f : Inferred). f s) (of_with cat xs b) ∙ goes _ (introduced us ks) (λ p. where_some (infer cat b (with_names p.kinds s)) (spec.with_tree p.trees)) (complete_in_turn all [])
        ∙ goes _ (typing u k) (spec.with_tree us) (complete d)

    complete_groups : {s : Scope} {h k : Header} {g : Groups Expr} {gs : TypedGroups Typed} → TypesGroups cat s h g gs k → spec.infer_groups h (groups_inferred cat g) s ≡ Some (grouping gs k)
    complete_groups types.whole = refl
    complete_groups (types.per {s} {h} {k} {a} {u} d part) = goes (infer cat a s) (typing u (kind.Relation k)) (spec.grouped_per h) (complete d) ∙ passes _ (grouping (typed_groups.Per u) k) part
    complete_groups (types.by {s} {h} {xs} {ns} is) = goes _ ns (λ ns. Some (grouping (typed_groups.By ns) (columns_in ns h))) is

    complete_each : {s : Scope} {xs : List Expr} {ys : List Typing} → TypesEach cat s xs ys → (us : List Typed) (ks : List TypeKind) → spec.infer_each us ks (all_inferred cat xs) s ≡ Some (operands (us ++ trees ys) (ks ++ kinds ys))
    complete_each types.none us ks = ap (λ vs. Some (operands vs ks)) (sym (append-nil us)) ∙ ap (λ js. Some (operands (us ++ []) js)) (sym (append-nil ks))
    complete_each (types.next {s} {a} {u} {k} {xs} {ys} d rest) us ks =
        goes (infer cat a s) (typing u k) (λ y. spec.infer_each (us ++ y.tree ∷ []) (ks ++ y.kind ∷ []) (all_inferred cat xs) s) (complete d)
        ∙ complete_each rest (us ++ u ∷ []) (ks ++ k ∷ []) ∙ ap (λ vs. Some (operands vs ((ks ++ k ∷ []) ++ kinds ys))) (append_assoc us (u ∷ []) (trees ys)) ∙ ap (λ js. Some (operands (us ++ u ∷ trees ys) js)) (append_assoc ks (k ∷ []) (kinds ys))

    complete_items : {s : Scope} {xs : List (Named Expr)} {is : List (Item Typed)} → TypesItems cat s xs is → (done : List (Item Typed)) → each (spec.infer_item s) done (named_inferred cat xs) ≡ Some (done ++ is)
    complete_items types.no_items done = ap Some (sym (append-nil done))
    complete_items (types.next_item {s} {n} {a} {u} {k} {xs} {is} d rest) done =
        goes (spec.infer_item s (name_inferred cat (named n a))) (item_of n k u) (λ y. each (spec.infer_item s) (done ++ y ∷ []) (named_inferred cat xs)) (goes (infer cat a s) (typing u k) (λ y. Some (item_of n y.kind y.tree)) (complete d))
        ∙ complete_items rest (done ++ item_of n k u ∷ []) ∙ ap Some (append_assoc done (item_of n k u ∷ []) is)

    complete_summaries : {s : Scope} {xs : List (Named (SummaryTerm Expr))} {is : List (Item (typed_summary.Summary Typed))} → TypesSummaries cat s xs is → (done : List (Item (typed_summary.Summary Typed))) → each (spec.infer_summary s) done (summaries_inferred cat xs) ≡ Some (done ++ is)
    complete_summaries types.no_summaries done = ap Some (sym (append-nil done))
    complete_summaries (types.count {s} {n} {xs} {is} rest) done = complete_summaries rest (done ++ item_of n kind.Integer typed_summaries.Count ∷ []) ∙ ap Some (append_assoc done (item_of n kind.Integer typed_summaries.Count ∷ []) is)
    complete_summaries (types.of_terms {s} {n} {o} {a} {u} {k} {xs} {is} d may rest) done =
        goes (where_some (infer cat a s) (spec.summed n o)) (item_of n k (summary_of o u)) (λ y. each (spec.infer_summary s) (done ++ y ∷ []) (summaries_inferred cat xs))
        (goes (infer cat a s) (typing u k) (spec.summed n o) (complete d) ∙ passes _ (item_of n k (summary_of o u)) may)
        ∙ complete_summaries rest (done ++ item_of n k (summary_of o u) ∷ []) ∙ ap Some (append_assoc done (item_of n k (summary_of o u) ∷ []) is)

    complete_in_turn : {s : Scope} {ks all : List (Named TypeKind)} {xs : List (Named Expr)} {us : List (Named Typed)} → TypesInTurn cat s ks xs us all → (done : List (Named Typed)) → spec.infer_in_turn done ks (named_inferred cat xs) s ≡ Some (introduced (done ++ us) all)
    complete_in_turn (types.last {ks}) done = ap (λ us. Some (introduced us ks)) (sym (append-nil done))
    complete_in_turn (types.further {s} {ks} {all} {n} {a} {u} {k} {xs} {us} d rest) done =
        goes (infer cat a (with_names ks s)) (typing u k) (λ y. spec.infer_in_turn (done ++ named n y.tree ∷ []) (ks ++ named n y.kind ∷ []) (named_inferred cat xs) s) (complete d)
        ∙ complete_in_turn rest (done ++ named n u ∷ []) ∙ ap (λ us. Some (introduced us all)) (append_assoc done (named n u ∷ []) us)
