-- What selectors make, what relvars have and what trees mean is of their types.
use Rattle.std.proofs.Common.{◌≡◌, ℕ, zero, suc, ◌<◌, Bool, true, false, cond, List, Option, Some, None, if◌then◌else◌, Result, Ok, Err, ltb, ltb-true, lt-ltb, refl, ap, sym, ◌∙◌, subst, arith}
use Rattle.std.specs.Prelude.{slice_get}
use Rattle.std.specs.List.{Contains}
use Rattle.std.proofs.lemmas.Bool.{cond_both}
use Rattle.std.proofs.lemmas.Option.{slice_get_within}
use Rattle.td_values.specs.Data.{Datum, user, items_of, Attrs}
use Rattle.td_values.specs.Headings.{Header}
use Rattle.td_values.specs.Rows.{RowsData}
use Rattle.td_values.specs.declared.TypeKind.{TypeKind}
use Rattle.td_values.specs.declared.TypeKind.TheVariants as kind
use Rattle.td_syntax.specs.declared.tree.Named.{Named}
use Rattle.td_typed_trees.specs.declared.expression.VirtualUnder.{VirtualUnder}
use Rattle.td_typed_trees.specs.declared.tree.Typed.{Typed}
use Rattle.td_schema.specs.Schemas.{SchemaData, type_named}
use Rattle.td_schema.specs.Scopes.{nothing, relvars_of, within_tuple}
use Rattle.td_schema.specs.Written.{kind_columns, names}
use Rattle.td_schema.specs.declared.schema.Representation.{Representation}
use Rattle.td_algebra.specs.Raising.{and_then}
use Rattle.td_algebra.specs.declared.errors.Stop.{Stop}
use Rattle.td_values.specs.declared.raises.Raise.TheVariants as raise
use Rattle.td_algebra.specs.declared.errors.Stop.TheVariants as stop
use Rattle.td_headings.specs.Catalogues.{CatalogueData}
use Rattle.td_headings.specs.Definitions.{Defined}
use Rattle.td_headings.specs.Expressions.{IsTree, no_tuple, virtual_at, virtual_of}
use Rattle.td_headings.specs.Reached.{is_base, named_relvars}
use Rattle.td_headings.specs.declared.defined.Origin.{Origin}
use Rattle.td_headings.specs.declared.defined.Origin.TheVariants as origin
use Rattle.td_headings.proofs.NoTuple.{at_relvars}
use Rattle.td_headings.proofs.WellTyped.{all_typed}
use Rattle.td_meaning.specs.Mean as mean
use Rattle.td_meaning.specs.Mean.{Meaning, Relvars, Selection, rows_in, truth_in}
use Rattle.td_meaning.specs.Selections.{admits, components, no_relvars, none_selected, selected}
use Rattle.td_type_soundness.specs.Meanings.{GivesValue, GivesRelation, IsTupleOver, Selects}
use Rattle.td_type_soundness.specs.Values.{AreComponentsOf, AreValues}
use Rattle.td_type_soundness.proofs.Errors.{error_is}
use Rattle.td_type_soundness.proofs.Scoped.{within_are}
use Rattle.td_type_soundness.proofs.Sound.{gives}
use Rattle.td_semantics.specs.Meanings.{no_names}
use Rattle.td_semantics.specs.Trees.{AreBases, all_relvars, places, selection_of, tree_means}
use Rattle.td_eval.proofs.AllThere.{ascending, has_place, in_filter_map}
use Rattle.td_eval.proofs.Named.{agree}
use Rattle.td_eval.proofs.OfTypes.{GivesTruth, components_meant, relvars_meant, rows_given, truth_given}
use Rattle.td_eval.proofs.Placed.{names_earlier, selects_earlier}
use Rattle.td_eval.proofs.Selected.{each_makes, standing}
use Rattle.td_eval.proofs.TypeNames.{types_named}
use Rattle.td_eval.proofs.Virtuals.{each_is, stays}

none_is_some : {A : Type 0} (a : A) → None ≡ Some a → ⊥
none_is_some a h = cc

-- ---- what stands before a place; from there on one thing
abbrev below : {A : Type 0} → ℕ → A → (ℕ → A) → ℕ → A
below b other f n = cond (ltb n b) (f n) other

below_same : {A : Type 0} (b : ℕ) (other : A) (f : ℕ → A) (n : ℕ) → n < b → f n ≡ below b other f n
below_same b other f n lt = sym (ap (λ t. cond t (f n) other) (lt-ltb n b lt))

-- ---- what a selector makes of components of its types
made : (s : SchemaData) (n : ℕ) (r : Representation) (ds : List Datum) → type_named s r.possrep.ty ≡ Some (n, r) → AreComponentsOf r (items_of ds) → AreValues s (items_of ds) → (a : Result Bool Stop) → GivesTruth a → GivesValue s (kind.User r.possrep.ty) (and_then a (λ b. if b then Ok (user r.possrep (items_of ds)) else Err (stop.Error raise.Selector)))
made s n r ds is fit are (Ok true) h = (refl, ((n, r, is, refl, fit), are))
made s n r ds is fit are (Ok false) h = error_is raise.Selector
made s n r ds is fit are (Err e) h = h

module _ (c : CatalogueData) (defined : Defined c) where
  abbrev s : SchemaData
  s = c.schema

  abbrev choice : Selection
  choice = selection_of c

  -- ---- selectors
  abbrev SelectsAt : ℕ → Type 0
  SelectsAt n = (r : Representation) (ds : List Datum) → slice_get s.possreps n ≡ Some r → AreComponentsOf r (items_of ds) → AreValues s (items_of ds) → GivesValue s (kind.User r.possrep.ty) (choice n ds)

  module _ (n : ℕ) (before : (m : ℕ) → m < n → SelectsAt m) where
    abbrev never : List Datum → Result Datum Stop
    never ds = Err (stop.Error raise.Overflow)

    abbrev earlier : Selection
    earlier = below n never choice

    earlier_selects : Selects s earlier
    earlier_selects m r ds is fit are = cond_both (ltb m n) (choice m) never (λ (f : List Datum → Result Datum Stop). GivesValue s (kind.User r.possrep.ty) (f ds)) (λ t. before m (ltb-true m n t) r ds is fit are) (λ t. error_is raise.Overflow)

    limit_gives : (r : Representation) (ds : List Datum) (u : Option Typed) → slice_get s.possreps n ≡ Some r → slice_get c.limits n ≡ Some u → AreComponentsOf r (items_of ds) → AreValues s (items_of ds) → GivesTruth (admits choice u (components (names r.components) ds))
    unfolding admits truth_in
    limit_gives r ds None is at fit are = tt
    limit_gives r ds (Some e) is at fit are =
        let known = components (names r.components) ds in
        let l = (all_typed c defined).limits n e r at is in
        let alike : mean.mean no_relvars choice e ≡ mean.mean no_relvars earlier e = agree no_relvars no_relvars choice earlier e ((λ m h. refl), (λ m h. below_same n never choice m (selects_earlier c defined n (Some e) at m h))) in
        let given = gives s no_relvars earlier earlier_selects (within_tuple (kind_columns r.components) nothing) known (components_meant s no_relvars r ds fit are) l.types in
        truth_given s (mean.mean no_relvars choice e known) (subst (λ (m : Meaning). GivesValue s kind.Boolean (m known)) (sym alike) given)

    selects_here : SelectsAt n
    unfolding selected
    selects_here r ds is fit are =
        let lt = slice_get_within s.possreps n r is in
        let each = (all_typed c defined).limit_each in
        let u = standing c.limits n (omega (arith, lt, each)) in
        let makes = each_makes c defined (places s.possreps) none_selected (ascending s.possreps) n (has_place s.possreps n lt) r u.0 is u.1 in
        subst (λ (f : List Datum → Result Datum Stop). GivesValue s (kind.User r.possrep.ty) (f ds)) (sym makes)
        (made s n r ds (types_named c defined n r is) fit are (admits choice u.0 (components (names r.components) ds)) (limit_gives r ds u.0 is u.1 fit are))

  selects_below : (b n : ℕ) → n < b → SelectsAt n
  selects_below zero n lt = absurd (omega (arith, lt))
  selects_below (suc b) n lt = selects_here n (λ m less. selects_below b m (omega (arith, lt, less)))

  pub all_select : Selects s choice
  all_select n r ds = selects_below (suc n) n (omega arith) r ds

  -- ---- relvars
  module _ (bases : Relvars) (are : AreBases c bases) where
    abbrev had : Relvars
    had = all_relvars c bases

    abbrev HasAt : ℕ → Type 0
    HasAt n = (v : Named Header) → slice_get s.relvars n ≡ Some v → GivesRelation s v.value (had n)

    module _ (n : ℕ) (before : (m : ℕ) → m < n → HasAt m) where
      abbrev nowhere : Result RowsData Stop
      nowhere = Err (stop.Error raise.Overflow)

      abbrev before_it : Relvars
      before_it = below n nowhere had

      before_has : (m : ℕ) (v : Named Header) → slice_get s.relvars m ≡ Some v → GivesRelation s v.value (before_it m)
      before_has m v is = cond_both (ltb m n) (had m) nowhere (GivesRelation s v.value) (λ t. before m (ltb-true m n t) v is) (λ t. error_is raise.Overflow)

      rows_have : (v : Named Header) (e : Typed) → IsTree c no_tuple e (kind.Relation v.value) → ((w : ℕ) → Contains (named_relvars e) w → w < n) → GivesRelation s v.value (rows_in (mean.mean had choice e) no_names)
      unfolding rows_in
      rows_have v e tree less =
          let alike : mean.mean had choice e ≡ mean.mean before_it choice e = agree had before_it choice choice e ((λ m h. below_same n nowhere had m (less m h)), (λ m h. refl)) in
          let types = at_relvars c tree.expr e (kind.Relation v.value) tree.types in
          let given = gives s before_it choice all_select (relvars_of s) no_names (relvars_meant s before_it no_names before_has) types in
          rows_given s v.value (mean.mean had choice e no_names) (subst (λ (m : Meaning). GivesValue s (kind.Relation v.value) (m no_names)) (sym alike) given)

      has_at : (v : Named Header) → slice_get s.relvars n ≡ Some v → (o : Option Origin) → slice_get c.origins n ≡ o → GivesRelation s v.value (had n)
      has_at v at None is =
          let lt = slice_get_within s.relvars n v at in
          let each = (all_typed c defined).origin_each in
          let o = standing c.origins n (omega (arith, lt, each)) in
          let no : None ≡ Some o.0 = sym is ∙ o.1 in
          absurd (none_is_some o.0 no)
      has_at v at (Some (origin.Base ks e)) is = subst (GivesRelation s v.value) (sym (stays c defined choice (places c.origins) bases n (λ h. ap is_base is))) (are n v (ap is_base is) at)
      has_at v at (Some (origin.Virtual e)) is =
          let it : VirtualUnder = record { place = n; tree = e } in
          let there = has_place c.origins n (slice_get_within c.origins n (origin.Virtual e) is) in
          let means = each_is c defined choice (places c.origins) (ascending c.origins) bases it (in_filter_map (virtual_at c) (places c.origins) n it there (ap (virtual_of n) is)) in
          subst (GivesRelation s v.value) (sym means) (rows_have v e ((all_typed c defined).relvars n (origin.Virtual e) v is at) (names_earlier c defined n e is))

    has_below : (b n : ℕ) → n < b → HasAt n
    has_below zero n lt v at = absurd (omega (arith, lt))
    has_below (suc b) n lt v at = has_at n (λ m less. has_below b m (omega (arith, lt, less))) v at (slice_get c.origins n) refl

    pub relvars_have : (n : ℕ) (v : Named Header) → slice_get s.relvars n ≡ Some v → GivesRelation s v.value (had n)
    relvars_have n v = has_below (suc n) n (omega arith) v

    -- ---- trees
    pub trees_give : (h : Header) (u : Typed) (k : TypeKind) (t : Attrs) → IsTree c h u k → IsTupleOver s h t → GivesValue s k (tree_means c bases u t)
    trees_give h u k t tree has = gives s had choice all_select (within_tuple h (relvars_of s)) (mean.within t no_names) (within_are s had h t (relvars_of s) no_names has (relvars_meant s had no_names relvars_have)) tree.types

pub relvars_have_relations : (c : CatalogueData) (r : Relvars) (n : ℕ) (v : Named Header) → Defined c → AreBases c r → slice_get c.schema.relvars n ≡ Some v → GivesRelation c.schema v.value (all_relvars c r n)
relvars_have_relations c r n v defined are is = relvars_have c defined r are n v is

pub trees_have_values : (c : CatalogueData) (h : Header) (u : Typed) (k : TypeKind) (r : Relvars) (t : Attrs) → Defined c → IsTree c h u k → AreBases c r → IsTupleOver c.schema h t → GivesValue c.schema k (tree_means c r u t)
trees_have_values c h u k r t defined tree are has = trees_give c defined r are h u k t tree has
