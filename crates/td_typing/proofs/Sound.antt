-- What is inferred is the type.
use Rattle.std.proofs.Common.{◌≡◌, ℕ, ℤ, ◌++◌, Bool, true, false, List, [], ◌∷◌, map, drop, Option, Some, None, refl, ap, sym, ◌∙◌, subst, append_assoc, append-nil}
use Rattle.std.specs.FinMap as by_name
use Rattle.std.specs.List.{list_all}
use Rattle.td_values.specs.Headings.{Header}
use Rattle.td_values.specs.declared.TypeKind.{TypeKind}
use Rattle.td_values.specs.declared.TypeKind.TheVariants as kind
use Rattle.td_tuples.specs.Parts.{columns_in}
use Rattle.td_tuples.specs.Items.{columns_of, extended_columns}
use Rattle.td_tuples.specs.declared.items.Item.{Item}
use Rattle.td_tuples.specs.declared.items.Summary as typed_summary
use Rattle.td_tuples.specs.declared.items.Summary.TheVariants as typed_summaries
use Rattle.td_syntax.specs.declared.tree.UnaryOperator.{UnaryOperator}
use Rattle.td_syntax.specs.declared.tree.BinaryOperator.{BinaryOperator}
use Rattle.td_syntax.specs.declared.tree.Nesting.{Nesting}
use Rattle.td_syntax.specs.declared.tree.Extension.{Extension}
use Rattle.td_syntax.specs.declared.tree.Extension.TheVariants as extension
use Rattle.td_syntax.specs.declared.tree.Aggregate.{Aggregate}
use Rattle.td_syntax.specs.declared.tree.Attributes.{Attributes}
use Rattle.td_syntax.specs.declared.tree.Renaming.{Renaming}
use Rattle.td_syntax.specs.declared.tree.Named.{Named}
use Rattle.td_syntax.specs.declared.tree.SummaryTerm.{SummaryTerm}
use Rattle.td_syntax.specs.declared.tree.SummaryTerm.TheVariants as summary
use Rattle.td_syntax.specs.declared.tree.Groups.{Groups}
use Rattle.td_syntax.specs.declared.tree.Groups.TheVariants as groups
use Rattle.td_syntax.specs.declared.tree.TypeExpr.{TypeExpr}
use Rattle.td_syntax.specs.declared.tree.Expr.{Expr, map-Expr}
use Rattle.td_syntax.specs.declared.tree.Expr.TheVariants as e
use Rattle.td_syntax.specs.declared.tree.Expr.TheOpen.{Expr-F}
use Rattle.td_syntax.specs.declared.tree.Expr.TheViews.{roll-Expr}
use Rattle.td_syntax.specs.declared.tree.Expr.TheShapes.{former-Expr-Summarize-2-at-5}
use Rattle.td_syntax.specs.declared.tree.Expr.TheFolds.{ind-Expr}
use Rattle.td_typed_trees.specs.declared.tree.TypedGroups.TheVariants as typed_groups
use Rattle.td_typed_trees.specs.declared.tree.Typed.{Typed}
use Rattle.td_typed_trees.specs.declared.tree.Typed.TheVariants as t
use Rattle.td_typed_trees.specs.declared.tree.Typing.{Typing}
use Rattle.td_typing.specs.declared.parts.Grouping.{Grouping}
use Rattle.td_typing.specs.declared.parts.Introduced.{Introduced}
use Rattle.td_typing.specs.declared.parts.Operands.{Operands}
use Rattle.td_schema.specs.declared.schema.Representation.{Representation}
use Rattle.td_schema.specs.Results.{where_true, where_some}
use Rattle.td_schema.specs.Kinds.{Name, kind_of, same_kind, is_boolean, relation_heading, user_name, is_part}
use Rattle.td_schema.specs.Schemas.{SchemaData, begins_with_the, possrep_named, type_named, component_named}
use Rattle.td_schema.specs.declared.scope.Meant.{Meant}
use Rattle.td_schema.specs.declared.scope.Meant.TheVariants.{Local as local, Relvar as relvar}
use Rattle.td_schema.specs.Scopes.{Scope, within_tuple, with_names}
use Rattle.td_schema.specs.Written.{names}
use Rattle.td_schema.specs.Lists.{attributes_of, are_distinct, renaming_pair}
use Rattle.td_schema.specs.Operators.{unary_kind, binary_kind, suits}
use Rattle.td_schema.specs.Forms.{kind_heading, part_kind, renamed_kind, nested_heading, unnested_heading, from_kind, may_extend}
use Rattle.td_typing.specs.Trees.{typing, trees, kinds, named, item_of, summary_of}
use Rattle.td_typing.specs.ForProofs.Infer as spec
use Rattle.td_typing.specs.ForProofs.Infer.{Inferred, infer, each, operands, all_inferred, named_inferred, name_inferred, groups_inferred, summary_inferred, summaries_inferred, grouping, introduced}
use Rattle.td_typing.specs.Types as types
use Rattle.td_typing.specs.Types.{Types, TypesEach, TypesItems, TypesInTurn, TypesGroups, TypesSummaries}
use Rattle.td_typing.proofs.Equations.{of_integer, of_text, of_truth, of_dee, of_dum, of_name, of_call, of_relation, of_unary, of_binary, of_from, of_project, of_where, of_rename, of_nest, of_unnest, of_aggregate, of_aggregate_lone, of_if, of_tuple, of_extend, of_summarize, of_with}
use Rattle.td_typing.proofs.KindLemmas.{some_same, same, boolean, relation, user, fitted, tuples_all}

module _ {A B : Type 0} where
  inverted : (o : Option A) (f : A → Option B) (y : B) → where_some o f ≡ Some y → (a : A) × (o ≡ Some a) × (f a ≡ Some y)
  inverted None f y h = cc
  inverted (Some a) f y h = (a, refl, h)

tested : {A : Type 0} (b : Bool) (a y : A) → where_true b a ≡ Some y → (b ≡ true) × (a ≡ y)
tested true a y h = (refl, some_same a y h)
tested false a y h = cc

alone : {A : Type 0} (xs : List A) (a : A) → spec.lone xs ≡ Some a → xs ≡ a ∷ []
alone [] a h = cc
alone (x ∷ []) a h = ap (λ z. z ∷ []) (some_same x a h)
alone (x ∷ y ∷ xs) a h = cc

module _ (cat : SchemaData) where
  abbrev Sound : Expr → Type 0
  Sound a = (s : Scope) (x : Typing) → infer cat a s ≡ Some x → Types cat s a x.tree x.kind

  -- what is inferred is x, and so x's rule
  settled : (s : Scope) (a : Expr) (x y : Typing) → x ≡ y → Types cat s a x.tree x.kind → Types cat s a y.tree y.kind
  settled s a x y h = subst (λ z. Types cat s a z.tree z.kind) h

  at_kind : (s : Scope) (a : Expr) (u : Typed) (j k : TypeKind) → j ≡ k → Types cat s a u j → Types cat s a u k
  at_kind s a u j k h = subst (λ z. Types cat s a u z) h

  seen : (a : Expr) (f : Inferred) (x : Typing) (s : Scope) → infer cat a ≡ f → infer cat a s ≡ Some x → f s ≡ Some x
  seen a f x s h j = sym (ap (λ (g : Inferred). g s) h) ∙ j

  by_integer : (n : ℤ) → Sound (e.Integer n)
  by_integer n s x h = settled s (e.Integer n) _ x (some_same _ x (seen _ _ x s (of_integer cat n) h)) types.integer

  by_text : (n : Name) → Sound (e.Text n)
  by_text n s x h = settled s (e.Text n) _ x (some_same _ x (seen _ _ x s (of_text cat n) h)) types.text

  by_truth : (b : Bool) → Sound (e.Truth b)
  by_truth b s x h = settled s (e.Truth b) _ x (some_same _ x (seen _ _ x s (of_truth cat b) h)) types.truth

  by_dee : Sound e.TableDee
  by_dee s x h = settled s e.TableDee _ x (some_same _ x (seen _ _ x s (of_dee cat) h)) types.table_dee

  by_dum : Sound e.TableDum
  by_dum s x h = settled s e.TableDum _ x (some_same _ x (seen _ _ x s (of_dum cat) h)) types.table_dum

  name_meant : (n : Name) (s : Scope) (x : Typing) (o : Option Meant) → s n ≡ o → spec.meant_by n o ≡ Some x → Types cat s (e.Name n) x.tree x.kind
  name_meant n s x None is h = cc
  name_meant n s x (Some (local k)) is h = settled s (e.Name n) _ x (some_same _ x h) (types.local_name is)
  name_meant n s x (Some (relvar m k)) is h = settled s (e.Name n) _ x (some_same _ x h) (types.relvar_name is)

  by_its_name : (n : Name) → Sound (e.Name n)
  unfolding spec.infer_name
  by_its_name n s x h = name_meant n s x (s n) refl (seen _ _ x s (of_name cat n) h)

  -- ---- one operand

  by_unary : (o : UnaryOperator) (a : Expr) → Sound a → Sound (e.Unary o a)
  unfolding spec.infer_by spec.by_unary
  by_unary o a known s x h =
      let p = inverted (infer cat a s) (spec.by_unary o) x (seen _ _ x s (of_unary cat o a) h) in
      let q = inverted (unary_kind o p.0.kind) (λ k. Some (typing (t.Unary o p.0.tree) k)) x p.2 in
      settled s (e.Unary o a) _ x (some_same _ x q.2) (types.unary (known s p.0 p.1) q.1)

  by_from : (n : Name) (a : Expr) → Sound a → Sound (e.From n a)
  unfolding spec.infer_by spec.by_from
  by_from n a known s x h =
      let p = inverted (infer cat a s) (spec.by_from n) x (seen _ _ x s (of_from cat n a) h) in
      let q = inverted (from_kind n p.0.kind) (λ k. Some (typing (t.From n p.0.tree) k)) x p.2 in
      settled s (e.From n a) _ x (some_same _ x q.2) (types.from (known s p.0 p.1) q.1)

  by_project : (a : Expr) (xs : Attributes) → Sound a → Sound (e.Project a xs)
  unfolding spec.infer_by spec.by_project
  by_project a xs known s x h =
      let p = inverted (infer cat a s) (spec.by_project xs) x (seen _ _ x s (of_project cat a xs) h) in
      let q = inverted (kind_heading p.0.kind) (λ h. where_some (attributes_of xs h) (λ ns. Some (typing (t.Project p.0.tree ns) (part_kind ns p.0.kind)))) x p.2 in
      let r = inverted (attributes_of xs q.0) (λ ns. Some (typing (t.Project p.0.tree ns) (part_kind ns p.0.kind))) x q.2 in
      settled s (e.Project a xs) _ x (some_same _ x r.2) (types.project (known s p.0 p.1) q.1 r.1)

  by_rename : (a : Expr) (xs : List Renaming) → Sound a → Sound (e.Rename a xs)
  unfolding spec.infer_by spec.by_rename
  by_rename a xs known s x h =
      let p = inverted (infer cat a s) (spec.by_rename xs) x (seen _ _ x s (of_rename cat a xs) h) in
      let q = inverted (renamed_kind (map renaming_pair xs) p.0.kind) (λ k. Some (typing (t.Rename p.0.tree (map renaming_pair xs)) k)) x p.2 in
      settled s (e.Rename a xs) _ x (some_same _ x q.2) (types.rename (known s p.0 p.1) q.1)

  by_nest : (o : Nesting) (a : Expr) (xs : Attributes) (c : Name) → Sound a → Sound (e.Nest o a xs c)
  unfolding spec.infer_by spec.by_nest spec.nested
  by_nest o a xs c known s x h =
      let p = inverted (infer cat a s) (spec.by_nest o xs c) x (seen _ _ x s (of_nest cat o a xs c) h) in
      let q = inverted (relation_heading p.0.kind) (λ h. where_some (attributes_of xs h) (λ ns. spec.nested o ns c h p.0.tree)) x p.2 in
      let r = inverted (attributes_of xs q.0) (λ ns. spec.nested o ns c q.0 p.0.tree) x q.2 in
      let g = inverted (nested_heading o r.0 c q.0) (λ g. Some (typing (t.Nest o p.0.tree r.0 c) (kind.Relation g))) x r.2 in
      settled s (e.Nest o a xs c) _ x (some_same _ x g.2) (types.nest (at_kind s a p.0.tree p.0.kind (kind.Relation q.0) (relation p.0.kind q.0 q.1) (known s p.0 p.1)) r.1 g.1)

  by_unnest : (o : Nesting) (a : Expr) (c : Name) → Sound a → Sound (e.Unnest o a c)
  unfolding spec.infer_by spec.by_unnest
  by_unnest o a c known s x h =
      let p = inverted (infer cat a s) (spec.by_unnest o c) x (seen _ _ x s (of_unnest cat o a c) h) in
      let q = inverted (relation_heading p.0.kind) (λ h. where_some (unnested_heading o c h) (λ g. Some (typing (t.Unnest o p.0.tree c) (kind.Relation g)))) x p.2 in
      let g = inverted (unnested_heading o c q.0) (λ g. Some (typing (t.Unnest o p.0.tree c) (kind.Relation g))) x q.2 in
      settled s (e.Unnest o a c) _ x (some_same _ x g.2) (types.unnest (at_kind s a p.0.tree p.0.kind (kind.Relation q.0) (relation p.0.kind q.0 q.1) (known s p.0 p.1)) g.1)

  by_lone : (o : Aggregate) (a : Expr) → Sound a → Sound (e.Aggregate o a None)
  unfolding spec.infer_by spec.by_lone spec.lone_term spec.aggregated
  by_lone o a known s x h =
      let p = inverted (infer cat a s) (spec.by_lone o) x (seen _ _ x s (of_aggregate_lone cat o a) h) in
      let q = inverted (relation_heading p.0.kind) (λ h. where_some (spec.lone_term h) (spec.aggregated o p.0.tree)) x p.2 in
      let y = inverted (spec.lone_term q.0) (spec.aggregated o p.0.tree) x q.2 in
      let f = inverted (spec.lone (by_name.entries q.0)) (λ f. Some (typing (t.Local f.0) (kind_of f.1))) y.0 y.1 in
      let is = some_same (typing (t.Local f.0.0) (kind_of f.0.1)) y.0 f.2 in
      let may = tested (suits o (kind_of f.0.1)) (typing (t.Aggregate p.0.tree (summary_of o (t.Local f.0.0))) (kind_of f.0.1)) x (ap (spec.aggregated o p.0.tree) is ∙ y.2) in
      settled s (e.Aggregate o a None) (typing (t.Aggregate p.0.tree (summary_of o (t.Local f.0.0))) (kind_of f.0.1)) x may.1
      (types.aggregate_lone (at_kind s a p.0.tree p.0.kind (kind.Relation q.0) (relation p.0.kind q.0 q.1) (known s p.0 p.1)) (alone (by_name.entries q.0) f.0 f.1) may.0)

  -- ---- several operands

  by_binary : (o : BinaryOperator) (a b : Expr) → Sound a → Sound b → Sound (e.Binary o a b)
  unfolding spec.infer_binary spec.by_binary
  by_binary o a b first second s x h =
      let p = inverted (infer cat a s) (λ y. where_some (infer cat b s) (spec.by_binary o y)) x (seen _ _ x s (of_binary cat o a b) h) in
      let q = inverted (infer cat b s) (spec.by_binary o p.0) x p.2 in
      let r = inverted (binary_kind o p.0.kind q.0.kind) (λ k. Some (typing (t.Binary o p.0.tree q.0.tree) k)) x q.2 in
      settled s (e.Binary o a b) _ x (some_same _ x r.2) (types.binary (first s p.0 p.1) (second s q.0 q.1) r.1)

  by_where : (r c : Expr) → Sound r → Sound c → Sound (e.Where r c)
  unfolding spec.infer_where spec.restricted
  by_where r c first second s x h =
      let p = inverted (infer cat r s) (λ y. where_some (relation_heading y.kind) (λ g. where_some (infer cat c (within_tuple g s)) (spec.restricted y))) x (seen _ _ x s (of_where cat r c) h) in
      let q = inverted (relation_heading p.0.kind) (λ g. where_some (infer cat c (within_tuple g s)) (spec.restricted p.0)) x p.2 in
      let z = inverted (infer cat c (within_tuple q.0 s)) (spec.restricted p.0) x q.2 in
      let b = tested (is_boolean z.0.kind) (typing (t.Where p.0.tree z.0.tree) p.0.kind) x z.2 in
      let is = relation p.0.kind q.0 q.1 in
      settled s (e.Where r c) _ x (ap (typing (t.Where p.0.tree z.0.tree)) (sym is) ∙ b.1)
      (types.where_ (at_kind s r p.0.tree p.0.kind (kind.Relation q.0) is (first s p.0 p.1)) (at_kind (within_tuple q.0 s) c z.0.tree z.0.kind kind.Boolean (boolean z.0.kind b.0) (second (within_tuple q.0 s) z.0 z.1)))

  by_aggregate : (o : Aggregate) (r a : Expr) → Sound r → Sound a → Sound (e.Aggregate o r (Some a))
  unfolding spec.infer_aggregate spec.aggregated
  by_aggregate o r a first second s x h =
      let p = inverted (infer cat r s) (λ y. where_some (relation_heading y.kind) (λ g. where_some (infer cat a (within_tuple g s)) (spec.aggregated o y.tree))) x (seen _ _ x s (of_aggregate cat o r a) h) in
      let q = inverted (relation_heading p.0.kind) (λ g. where_some (infer cat a (within_tuple g s)) (spec.aggregated o p.0.tree)) x p.2 in
      let z = inverted (infer cat a (within_tuple q.0 s)) (spec.aggregated o p.0.tree) x q.2 in
      let may = tested (suits o z.0.kind) (typing (t.Aggregate p.0.tree (summary_of o z.0.tree)) z.0.kind) x z.2 in
      settled s (e.Aggregate o r (Some a)) (typing (t.Aggregate p.0.tree (summary_of o z.0.tree)) z.0.kind) x may.1
      (types.aggregate (at_kind s r p.0.tree p.0.kind (kind.Relation q.0) (relation p.0.kind q.0 q.1) (first s p.0 p.1)) (second (within_tuple q.0 s) z.0 z.1) may.0)

  by_if : (a b c : Expr) → Sound a → Sound b → Sound c → Sound (e.If a b c)
  unfolding spec.infer_if spec.chosen spec.truth_tree
  by_if a b c first second third s x h =
      let p = inverted (infer cat a s) (λ y. where_some (spec.truth_tree y) (λ u. where_some (infer cat b s) (λ z. where_some (infer cat c s) (spec.chosen u z)))) x (seen _ _ x s (of_if cat a b c) h) in
      let u = inverted (spec.truth_tree p.0) (λ u. where_some (infer cat b s) (λ z. where_some (infer cat c s) (spec.chosen u z))) x p.2 in
      let is = tested (is_boolean p.0.kind) p.0.tree u.0 u.1 in
      let q = inverted (infer cat b s) (λ z. where_some (infer cat c s) (spec.chosen u.0 z)) x u.2 in
      let r = inverted (infer cat c s) (spec.chosen u.0 q.0) x q.2 in
      let one = tested (same_kind q.0.kind r.0.kind) (typing (t.If u.0 q.0.tree r.0.tree) q.0.kind) x r.2 in
      let like = sym (same q.0.kind r.0.kind one.0) in
      settled s (e.If a b c) (typing (t.If u.0 q.0.tree r.0.tree) q.0.kind) x one.1
      (types.choice (subst (λ w. Types cat s a w kind.Boolean) is.1 (at_kind s a p.0.tree p.0.kind kind.Boolean (boolean p.0.kind is.0) (first s p.0 p.1))) (second s q.0 q.1) (at_kind s c r.0.tree r.0.kind q.0.kind like (third s r.0 r.1)))

  -- ---- lists

  abbrev Known : Type 0
  Known = (a : Expr) × Sound a

  abbrev bare : List Known → List Expr
  bare xs = map (λ (x : Known). x.0) xs

  each_known : (s : Scope) (xs : List Known) (us : List Typed) (ks : List TypeKind) (y : Operands) → spec.infer_each us ks (all_inferred cat (bare xs)) s ≡ Some y → (zs : List Typing) × (us ++ trees zs ≡ y.trees) × (ks ++ kinds zs ≡ y.kinds) × TypesEach cat s (bare xs) zs
  each_known s [] us ks y h =
      let is = some_same (operands us ks) y h in
      ([], append-nil us ∙ ap (λ z. z.trees) is, append-nil ks ∙ ap (λ z. z.kinds) is, types.none)
  each_known s (x ∷ xs) us ks y h =
      let p = inverted (infer cat x.0 s) (λ z. spec.infer_each (us ++ z.tree ∷ []) (ks ++ z.kind ∷ []) (all_inferred cat (bare xs)) s) y h in
      let rest = each_known s xs (us ++ p.0.tree ∷ []) (ks ++ p.0.kind ∷ []) y p.2 in
      (p.0 ∷ rest.0, sym (append_assoc us (p.0.tree ∷ []) (trees rest.0)) ∙ rest.1, sym (append_assoc ks (p.0.kind ∷ []) (kinds rest.0)) ∙ rest.2, types.next (x.1 s p.0 p.1) rest.3)

  -- what each of a list has, at once
  all_known : (s : Scope) (xs : List Known) (y : Operands) → spec.infer_each [] [] (all_inferred cat (bare xs)) s ≡ Some y → (zs : List Typing) × (y ≡ operands (trees zs) (kinds zs)) × TypesEach cat s (bare xs) zs
  all_known s xs y h = let k = each_known s xs [] [] y h in (k.0, ap (λ vs. operands vs y.kinds) (sym k.1) ∙ ap (operands (trees k.0)) (sym k.2), k.3)

  selects : (n : Name) (xs : List Expr) (s : Scope) (ys : List Typing) (x : Typing) → begins_with_the n ≡ false → TypesEach cat s xs ys → spec.selected cat n (operands (trees ys) (kinds ys)) ≡ Some x → Types cat s (e.Call n xs) x.tree x.kind
  unfolding spec.selected
  selects n xs s ys x plain all h =
      let p = inverted (possrep_named cat n) (λ (r : ℕ × Representation). where_true (spec.fit (kinds ys) r.1.components) (typing (t.Select r.0 (trees ys)) (kind.User r.1.possrep.ty))) x h in
      let b = tested (spec.fit (kinds ys) p.0.1.components) (typing (t.Select p.0.0 (trees ys)) (kind.User p.0.1.possrep.ty)) x p.2 in
      settled s (e.Call n xs) _ x b.1 (types.selector plain p.1 all (fitted (kinds ys) p.0.1.components b.0))

  by_selector : (n : Name) (xs : List Known) (s : Scope) (x : Typing) → begins_with_the n ≡ false → spec.infer_selector cat n (all_inferred cat (bare xs)) s ≡ Some x → Types cat s (e.Call n (bare xs)) x.tree x.kind
  unfolding spec.infer_selector spec.infer_operands
  by_selector n xs s x plain h =
      let p = inverted (spec.infer_each [] [] (all_inferred cat (bare xs)) s) (spec.selected cat n) x h in
      let zs = all_known s xs p.0 p.1 in
      selects n (bare xs) s zs.0 x plain zs.2 (ap (spec.selected cat n) (sym zs.1) ∙ p.2)

  takes_component : (n : Name) (a : Expr) (s : Scope) (y x : Typing) → begins_with_the n ≡ true → Types cat s a y.tree y.kind → spec.component_of cat (drop 4 n) y ≡ Some x → Types cat s (e.Call n (a ∷ [])) x.tree x.kind
  unfolding spec.component_of spec.component_of_type
  takes_component n a s y x the d h =
      let m = inverted (user_name y.kind) (λ m. where_some (type_named cat m) (λ r. spec.component_of_type r.1.components (drop 4 n) y.tree)) x h in
      let r = inverted (type_named cat m.0) (λ r. spec.component_of_type r.1.components (drop 4 n) y.tree) x m.2 in
      let f = inverted (component_named r.0.1.components (drop 4 n)) (λ f. Some (typing (t.Component f.0 y.tree) f.1.value)) x r.2 in
      settled s (e.Call n (a ∷ [])) (typing (t.Component f.0.0 y.tree) f.0.1.value) x (some_same (typing (t.Component f.0.0 y.tree) f.0.1.value) x f.2) (types.component the (at_kind s a y.tree y.kind (kind.User m.0) (user y.kind m.0 m.1) d) r.1 f.1)

  by_component : (n : Name) (xs : List Known) (s : Scope) (x : Typing) → begins_with_the n ≡ true → spec.infer_component cat (drop 4 n) (all_inferred cat (bare xs)) s ≡ Some x → Types cat s (e.Call n (bare xs)) x.tree x.kind
  unfolding spec.infer_component spec.infer_by
  by_component n [] s x the h = cc
  by_component n (a ∷ []) s x the h = let p = inverted (infer cat a.0 s) (spec.component_of cat (drop 4 n)) x h in takes_component n a.0 s p.0 x the (a.1 s p.0 p.1) p.2
  by_component n (a ∷ b ∷ xs) s x the h = cc

  calls : (n : Name) (xs : List Known) (s : Scope) (x : Typing) (b : Bool) → begins_with_the n ≡ b → spec.infer_called cat n b (all_inferred cat (bare xs)) s ≡ Some x → Types cat s (e.Call n (bare xs)) x.tree x.kind
  calls n xs s x true is h = by_component n xs s x is h
  calls n xs s x false is h = by_selector n xs s x is h

  by_call : (n : Name) (xs : List Known) → Sound (e.Call n (bare xs))
  unfolding spec.infer_call
  by_call n xs s x h = calls n xs s x (begins_with_the n) refl (seen _ _ x s (of_call cat n (bare xs)) h)

  gathers : (o : Option (List (Named TypeExpr))) (xs : List Expr) (s : Scope) (ys : List Typing) (x : Typing) (g : Header) → TypesEach cat s xs ys → spec.heading_meant cat o (kinds ys) ≡ Some g → spec.relation_of (operands (trees ys) (kinds ys)) g ≡ Some x → Types cat s (e.Relation o xs) x.tree x.kind
  unfolding spec.relation_of
  gathers (Some fs) xs s ys x g all is h =
      let b = tested (list_all (same_kind (kind.Tuple g)) (kinds ys)) (typing (t.Relation g (trees ys)) (kind.Relation g)) x h in
      settled s (e.Relation (Some fs) xs) _ x b.1 (types.headed is all (tuples_all g ys b.0))
  gathers None xs s [] x g all is h = cc
  gathers None xs s (y ∷ ys) x g (types.next {a} {u} {k} {xs = zs} d rest) is h =
      let b = tested (list_all (same_kind (kind.Tuple g)) (kinds (y ∷ ys))) (typing (t.Relation g (trees (y ∷ ys))) (kind.Relation g)) x h in
      settled s (e.Relation None (a ∷ zs)) _ x b.1 (types.tuples (types.next d rest) (tuples_all g (y ∷ ys) b.0))

  by_relation : (o : Option (List (Named TypeExpr))) (xs : List Known) → Sound (e.Relation o (bare xs))
  unfolding spec.infer_relation spec.infer_operands spec.gathered
  by_relation o xs s x h =
      let p = inverted (spec.infer_each [] [] (all_inferred cat (bare xs)) s) (spec.gathered cat o) x (seen _ _ x s (of_relation cat o (bare xs)) h) in
      let zs = all_known s xs p.0 p.1 in
      let g = inverted (spec.heading_meant cat o (kinds zs.0)) (spec.relation_of (operands (trees zs.0) (kinds zs.0))) x (ap (spec.gathered cat o) (sym zs.1) ∙ p.2) in
      gathers o (bare xs) s zs.0 x g.0 zs.2 g.1 g.2

  -- ---- named expressions

  abbrev strip : Named Known → Named Expr
  strip x = named x.name x.value.0

  items_known : (s : Scope) (xs : List (Named Known)) (done is : List (Item Typed)) → each (spec.infer_item s) done (named_inferred cat (map strip xs)) ≡ Some is → (js : List (Item Typed)) × (done ++ js ≡ is) × TypesItems cat s (map strip xs) js
  unfolding spec.infer_item
  items_known s [] done is h = ([], append-nil done ∙ some_same done is h, types.no_items)
  items_known s (x ∷ xs) done is h =
      let p = inverted (spec.infer_item s (name_inferred cat (strip x))) (λ y. each (spec.infer_item s) (done ++ y ∷ []) (named_inferred cat (map strip xs))) is h in
      let q = inverted (infer cat x.value.0 s) (λ a. Some (item_of x.name a.kind a.tree)) p.0 p.1 in
      let rest = items_known s xs (done ++ p.0 ∷ []) is p.2 in
      (p.0 ∷ rest.0, sym (append_assoc done (p.0 ∷ []) rest.0) ∙ rest.1, subst (λ f. TypesItems cat s (map strip (x ∷ xs)) (f ∷ rest.0)) (some_same (item_of x.name q.0.kind q.0.tree) p.0 q.2) (types.next_item (x.value.1 s q.0 q.1) rest.2))

  all_items : (s : Scope) (xs : List (Named Known)) (is : List (Item Typed)) → each (spec.infer_item s) [] (named_inferred cat (map strip xs)) ≡ Some is → TypesItems cat s (map strip xs) is
  all_items s xs is h = let k = items_known s xs [] is h in subst (λ js. TypesItems cat s (map strip xs) js) k.1 k.2

  by_tuple : (xs : List (Named Known)) → Sound (e.Tuple (map strip xs))
  unfolding spec.infer_tuple spec.infer_items spec.tuple_of
  by_tuple xs s x h =
      let ns = names (map strip xs) in
      let p = inverted (each (spec.infer_item s) [] (named_inferred cat (map strip xs))) (spec.tuple_of ns) x (seen _ _ x s (of_tuple cat (map strip xs)) h) in
      let b = tested (are_distinct ns) (typing (t.Tuple p.0) (kind.Tuple (columns_of p.0))) x p.2 in
      settled s (e.Tuple (map strip xs)) _ x b.1 (types.tuple b.0 (all_items s xs p.0 p.1))

  by_extend : (o : Extension) (r : Expr) (xs : List (Named Known)) → Sound r → Sound (e.Extend o r (map strip xs))
  unfolding spec.infer_extend spec.infer_items spec.extended
  by_extend o r xs known s x h =
      let ns = names (map strip xs) in
      let p = inverted (infer cat r s) (λ y. where_some (relation_heading y.kind) (λ g. where_some (spec.infer_items (named_inferred cat (map strip xs)) (within_tuple g s)) (spec.extended o ns y.tree g))) x (seen _ _ x s (of_extend cat o r (map strip xs)) h) in
      let q = inverted (relation_heading p.0.kind) (λ g. where_some (spec.infer_items (named_inferred cat (map strip xs)) (within_tuple g s)) (spec.extended o ns p.0.tree g)) x p.2 in
      let is = inverted (spec.infer_items (named_inferred cat (map strip xs)) (within_tuple q.0 s)) (spec.extended o ns p.0.tree q.0) x q.2 in
      let may = tested (may_extend o ns q.0) (typing (t.Extend p.0.tree is.0) (kind.Relation (extended_columns is.0 q.0))) x is.2 in
      settled s (e.Extend o r (map strip xs)) (typing (t.Extend p.0.tree is.0) (kind.Relation (extended_columns is.0 q.0))) x may.1
      (types.extend (at_kind s r p.0.tree p.0.kind (kind.Relation q.0) (relation p.0.kind q.0 q.1) (known s p.0 p.1)) may.0 (all_items (within_tuple q.0 s) xs is.0 is.1))

  in_turn_known : (s : Scope) (xs : List (Named Known)) (done : List (Named Typed)) (ks : List (Named TypeKind)) (y : Introduced) → spec.infer_in_turn done ks (named_inferred cat (map strip xs)) s ≡ Some y → (us : List (Named Typed)) × (done ++ us ≡ y.trees) × TypesInTurn cat s ks (map strip xs) us y.kinds
  in_turn_known s [] done ks y h =
      let is = some_same (introduced done ks) y h in
      ([], append-nil done ∙ ap (λ z. z.trees) is, subst (λ z. TypesInTurn cat s ks [] [] z) (ap (λ z. z.kinds) is) types.last)
  in_turn_known s (x ∷ xs) done ks y h =
      let q = inverted (infer cat x.value.0 (with_names ks s)) (λ a. spec.infer_in_turn (done ++ named x.name a.tree ∷ []) (ks ++ named x.name a.kind ∷ []) (named_inferred cat (map strip xs)) s) y h in
      let rest = in_turn_known s xs (done ++ named x.name q.0.tree ∷ []) (ks ++ named x.name q.0.kind ∷ []) y q.2 in
      (named x.name q.0.tree ∷ rest.0, sym (append_assoc done (named x.name q.0.tree ∷ []) rest.0) ∙ rest.1, types.further (x.value.1 (with_names ks s) q.0 q.1) rest.2)

  by_with : (xs : List (Named Known)) (b : Expr) → Sound b → Sound (e.With (map strip xs) b)
  unfolding spec.infer_with spec.introduces spec.with_tree
  by_with xs b known s x h =
      let p = inverted (spec.infer_in_turn [] [] (named_inferred cat (map strip xs)) s) (λ p. where_some (infer cat b (with_names p.kinds s)) (spec.with_tree p.trees)) x (seen _ _ x s (of_with cat (map strip xs) b) h) in
      let all = in_turn_known s xs [] [] p.0 p.1 in
      let q = inverted (infer cat b (with_names p.0.kinds s)) (spec.with_tree p.0.trees) x p.2 in
      settled s (e.With (map strip xs) b) (typing (t.With p.0.trees q.0.tree) q.0.kind) x (some_same (typing (t.With p.0.trees q.0.tree) q.0.kind) x q.2)
      (types.with_ (subst (λ us. TypesInTurn cat s [] (map strip xs) us p.0.kinds) all.1 all.2) (known (with_names p.0.kinds s) q.0 q.1))

  -- ---- summaries

  abbrev strip_groups : Groups Known → Groups Expr
  strip_groups groups.Whole = groups.Whole
  strip_groups (groups.Per a) = groups.Per a.0
  strip_groups (groups.By xs) = groups.By xs

  abbrev strip_summary : SummaryTerm Known → SummaryTerm Expr
  strip_summary summary.Count = summary.Count
  strip_summary (summary.Of o a) = summary.Of o a.0

  abbrev strip_named : Named (SummaryTerm Known) → Named (SummaryTerm Expr)
  strip_named x = named x.name (strip_summary x.value)

  groups_known : (s : Scope) (h : Header) (g : Groups Known) (p : Grouping) → spec.infer_groups h (groups_inferred cat (strip_groups g)) s ≡ Some p → TypesGroups cat s h (strip_groups g) p.groups p.heading
  unfolding spec.grouped_per spec.grouped_by
  groups_known s h groups.Whole p j = subst (λ (z : Grouping). TypesGroups cat s h groups.Whole z.groups z.heading) (some_same (grouping typed_groups.Whole by_name.empty) p j) types.whole
  groups_known s h (groups.Per a) p j =
      let q = inverted (infer cat a.0 s) (spec.grouped_per h) p j in
      let r = inverted (relation_heading q.0.kind) (λ k. where_true (is_part k h) (grouping (typed_groups.Per q.0.tree) k)) p q.2 in
      let part = tested (is_part r.0 h) (grouping (typed_groups.Per q.0.tree) r.0) p r.2 in
      subst (λ (z : Grouping). TypesGroups cat s h (groups.Per a.0) z.groups z.heading) part.1
      (types.per (at_kind s a.0 q.0.tree q.0.kind (kind.Relation r.0) (relation q.0.kind r.0 r.1) (a.1 s q.0 q.1)) part.0)
  groups_known s h (groups.By xs) p j =
      let q = inverted (attributes_of xs h) (λ ns. Some (grouping (typed_groups.By ns) (columns_in ns h))) p j in
      subst (λ (z : Grouping). TypesGroups cat s h (groups.By xs) z.groups z.heading) (some_same (grouping (typed_groups.By q.0) (columns_in q.0 h)) p q.2) (types.by q.1)

  summary_next : (s : Scope) (n : Name) (x : SummaryTerm Known) (f : Item (typed_summary.Summary Typed)) (xs : List (Named (SummaryTerm Expr))) (is : List (Item (typed_summary.Summary Typed))) → spec.infer_summary_at s n (summary_inferred cat (strip_summary x)) ≡ Some f → TypesSummaries cat s xs is → TypesSummaries cat s (named n (strip_summary x) ∷ xs) (f ∷ is)
  unfolding spec.summed
  summary_next s n summary.Count f xs is h rest = subst (λ g. TypesSummaries cat s (named n summary.Count ∷ xs) (g ∷ is)) (some_same (item_of n kind.Integer typed_summaries.Count) f h) (types.count rest)
  summary_next s n (summary.Of o a) f xs is h rest =
      let q = inverted (infer cat a.0 s) (spec.summed n o) f h in
      let may = tested (suits o q.0.kind) (item_of n q.0.kind (summary_of o q.0.tree)) f q.2 in
      subst (λ z. TypesSummaries cat s (named n (summary.Of o a.0) ∷ xs) (z ∷ is)) may.1 (types.of_terms (a.1 s q.0 q.1) may.0 rest)

  summaries_known : (s : Scope) (xs : List (Named (SummaryTerm Known))) (done is : List (Item (typed_summary.Summary Typed))) → each (spec.infer_summary s) done (summaries_inferred cat (map strip_named xs)) ≡ Some is → (js : List (Item (typed_summary.Summary Typed))) × (done ++ js ≡ is) × TypesSummaries cat s (map strip_named xs) js
  unfolding spec.infer_summary
  summaries_known s [] done is h = ([], append-nil done ∙ some_same done is h, types.no_summaries)
  summaries_known s (x ∷ xs) done is h =
      let p = inverted (spec.infer_summary_at s x.name (summary_inferred cat (strip_summary x.value))) (λ y. each (spec.infer_summary s) (done ++ y ∷ []) (summaries_inferred cat (map strip_named xs))) is h in
      let rest = summaries_known s xs (done ++ p.0 ∷ []) is p.2 in
      (p.0 ∷ rest.0, sym (append_assoc done (p.0 ∷ []) rest.0) ∙ rest.1, summary_next s x.name x.value p.0 (map strip_named xs) rest.0 p.1 rest.2)

  by_summarize : (r : Expr) (g : Groups Known) (xs : List (Named (SummaryTerm Known))) → Sound r → Sound (e.Summarize r (strip_groups g) (map strip_named xs))
  unfolding spec.infer_summarize spec.infer_summaries spec.summarized
  by_summarize r g xs known s x h =
      let gi = groups_inferred cat (strip_groups g) in
      let si = summaries_inferred cat (map strip_named xs) in
      let ns = names (map strip_named xs) in
      let p = inverted (infer cat r s) (λ y. where_some (relation_heading y.kind) (λ k. where_some (spec.infer_groups k gi s) (λ q. where_some (spec.infer_summaries si (within_tuple k s)) (spec.summarized ns y.tree q)))) x (seen _ _ x s (of_summarize cat r (strip_groups g) (map strip_named xs)) h) in
      let q = inverted (relation_heading p.0.kind) (λ k. where_some (spec.infer_groups k gi s) (λ q. where_some (spec.infer_summaries si (within_tuple k s)) (spec.summarized ns p.0.tree q))) x p.2 in
      let gs = inverted (spec.infer_groups q.0 gi s) (λ z. where_some (spec.infer_summaries si (within_tuple q.0 s)) (spec.summarized ns p.0.tree z)) x q.2 in
      let is = inverted (spec.infer_summaries si (within_tuple q.0 s)) (spec.summarized ns p.0.tree gs.0) x gs.2 in
      let all = summaries_known (within_tuple q.0 s) xs [] is.0 is.1 in
      let new = tested (may_extend extension.Add ns gs.0.heading) (typing (t.Summarize p.0.tree gs.0.groups is.0) (kind.Relation (extended_columns is.0 gs.0.heading))) x is.2 in
      settled s (e.Summarize r (strip_groups g) (map strip_named xs)) (typing (t.Summarize p.0.tree gs.0.groups is.0) (kind.Relation (extended_columns is.0 gs.0.heading))) x new.1
      (types.summarize (at_kind s r p.0.tree p.0.kind (kind.Relation q.0) (relation p.0.kind q.0 q.1) (known s p.0 p.1)) (groups_known s q.0 g gs.0 gs.1) new.0 (subst (λ js. TypesSummaries cat (within_tuple q.0 s) (map strip_named xs) js) all.1 all.2))

  abbrev mapped : Named (SummaryTerm Known) → Named (SummaryTerm Expr)
  mapped = former-Expr-Summarize-2-at-5.map Known Expr (λ a. a.0)

  one_mapped : (n : Name) (x : SummaryTerm Known) → mapped (named n x) ≡ named n (strip_summary x)
  one_mapped n summary.Count = refl
  one_mapped n (summary.Of o a) = refl

  all_mapped : (xs : List (Named (SummaryTerm Known))) → map mapped xs ≡ map strip_named xs
  all_mapped [] = refl
  all_mapped (x ∷ xs) = ap (λ y. y ∷ map mapped xs) (one_mapped x.name x.value) ∙ ap (λ ys. strip_named x ∷ ys) (all_mapped xs)

  stripped : (a : Expr) (g : Groups Expr) (xs : List (Named (SummaryTerm Known))) → Sound (e.Summarize a g (map strip_named xs)) → Sound (roll-Expr (Expr-F.Summarize a g (map mapped xs)))
  stripped a g xs h = subst (λ ys. Sound (roll-Expr (Expr-F.Summarize a g ys))) (sym (all_mapped xs)) (subst Sound (sym (e.rolls-Summarize a g (map strip_named xs))) h)

  -- ---- all forms

  step : (y : Expr-F Known) → Sound (roll-Expr (map-Expr Known Expr (λ a. a.0) y))
  step (Expr-F.Integer n) = subst Sound (sym (e.rolls-Integer n)) (by_integer n)
  step (Expr-F.Text n) = subst Sound (sym (e.rolls-Text n)) (by_text n)
  step (Expr-F.Truth b) = subst Sound (sym (e.rolls-Truth b)) (by_truth b)
  step Expr-F.TableDee = subst Sound (sym e.rolls-TableDee) by_dee
  step Expr-F.TableDum = subst Sound (sym e.rolls-TableDum) by_dum
  step (Expr-F.Name n) = subst Sound (sym (e.rolls-Name n)) (by_its_name n)
  step (Expr-F.Call n xs) = subst Sound (sym (e.rolls-Call n (bare xs))) (by_call n xs)
  step (Expr-F.Tuple xs) = subst Sound (sym (e.rolls-Tuple (map strip xs))) (by_tuple xs)
  step (Expr-F.Relation o xs) = subst Sound (sym (e.rolls-Relation o (bare xs))) (by_relation o xs)
  step (Expr-F.Unary o a) = subst Sound (sym (e.rolls-Unary o a.0)) (by_unary o a.0 a.1)
  step (Expr-F.Binary o a b) = subst Sound (sym (e.rolls-Binary o a.0 b.0)) (by_binary o a.0 b.0 a.1 b.1)
  step (Expr-F.From n a) = subst Sound (sym (e.rolls-From n a.0)) (by_from n a.0 a.1)
  step (Expr-F.Project a xs) = subst Sound (sym (e.rolls-Project a.0 xs)) (by_project a.0 xs a.1)
  step (Expr-F.Where a b) = subst Sound (sym (e.rolls-Where a.0 b.0)) (by_where a.0 b.0 a.1 b.1)
  step (Expr-F.Rename a xs) = subst Sound (sym (e.rolls-Rename a.0 xs)) (by_rename a.0 xs a.1)
  step (Expr-F.Nest o a xs c) = subst Sound (sym (e.rolls-Nest o a.0 xs c)) (by_nest o a.0 xs c a.1)
  step (Expr-F.Unnest o a c) = subst Sound (sym (e.rolls-Unnest o a.0 c)) (by_unnest o a.0 c a.1)
  step (Expr-F.Aggregate o a None) = subst Sound (sym (e.rolls-Aggregate o a.0 None)) (by_lone o a.0 a.1)
  step (Expr-F.Aggregate o a (Some b)) = subst Sound (sym (e.rolls-Aggregate o a.0 (Some b.0))) (by_aggregate o a.0 b.0 a.1 b.1)
  step (Expr-F.If a b c) = subst Sound (sym (e.rolls-If a.0 b.0 c.0)) (by_if a.0 b.0 c.0 a.1 b.1 c.1)
  step (Expr-F.Extend o a xs) = subst Sound (sym (e.rolls-Extend o a.0 (map strip xs))) (by_extend o a.0 xs a.1)
  step (Expr-F.Summarize a groups.Whole xs) = stripped a.0 groups.Whole xs (by_summarize a.0 groups.Whole xs a.1)
  step (Expr-F.Summarize a (groups.Per p) xs) = stripped a.0 (groups.Per p.0) xs (by_summarize a.0 (groups.Per p) xs a.1)
  step (Expr-F.Summarize a (groups.By ns) xs) = stripped a.0 (groups.By ns) xs (by_summarize a.0 (groups.By ns) xs a.1)
  step (Expr-F.With xs a) = subst Sound (sym (e.rolls-With (map strip xs) a.0)) (by_with xs a.0 a.1)

  pub sound : (a : Expr) → Sound a
  sound = ind-Expr Sound (λ x y is. subst (λ z. Sound (roll-Expr z)) is (step y))
