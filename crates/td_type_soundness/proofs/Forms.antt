-- The forms of expressions: of operands that give values of their kinds they make one of theirs.
use Rattle.std.proofs.Common.{◌≡◌, ℕ, Bool, true, false, if◌then◌else◌, List, [], ◌∷◌, Some, Result, Ok, refl, sym, subst}
use Rattle.std.specs.FinMap as by_name
use Rattle.td_values.specs.Data.{Datum, boolean, Attrs}
use Rattle.td_values.specs.Headings.{Header}
use Rattle.td_values.specs.Rows.{RowsData}
use Rattle.td_values.specs.declared.TypeKind.{TypeKind}
use Rattle.td_values.specs.declared.TypeKind.TheVariants as kind
use Rattle.td_syntax.specs.declared.tree.Aggregate.{Aggregate}
use Rattle.td_syntax.specs.declared.tree.BinaryOperator.{BinaryOperator}
use Rattle.td_syntax.specs.declared.tree.BinaryOperator.TheVariants as binary
use Rattle.td_syntax.specs.declared.tree.Named.{Named}
use Rattle.td_tuples.specs.Items.{extended_columns}
use Rattle.td_tuples.specs.Parts.{columns_in}
use Rattle.td_tuples.specs.declared.items.Item.{Item}
use Rattle.td_tuples.specs.declared.items.Summary.{Summary}
use Rattle.td_typed_trees.specs.declared.tree.Typed.{Typed}
use Rattle.td_typed_trees.specs.declared.tree.TypedGroups.{TypedGroups}
use Rattle.td_typed_trees.specs.declared.tree.TypedGroups.TheVariants as groups
use Rattle.td_algebra.specs.declared.errors.Stop.{Stop}
use Rattle.td_algebra.specs.Functions.{restricted, extended, summarized}
use Rattle.td_algebra.specs.Raising.{and_then}
use Rattle.td_algebra.specs.Summaries.{summary_over}
use Rattle.td_schema.specs.Kinds.{Name}
use Rattle.td_schema.specs.Operators.{binary_kind, suits}
use Rattle.td_schema.specs.Schemas.{SchemaData}
use Rattle.td_meaning.specs.ForProofs.Over.{Means, terms, groups_meant, over_aggregate, over_extend, over_summarize, summarized_over}
use Rattle.td_meaning.specs.Mean.{Names, Meaning, Relvars, within, given, truth_in, rows_in, truth_at, mean_local, mean_relvar, mean_by, mean_both, mean_and, mean_or, mean_binary, mean_if, mean_where, introduced, mean_with, groups_at}
use Rattle.td_operators.specs.Operators.{operate, as_value}
use Rattle.td_operators.specs.Values.{truth_of, rows_of, known}
use Rattle.td_typing.specs.Trees.{named, summary_of}
use Rattle.td_type_soundness.specs.Meanings.{OrError, GivesValue, HasKind, IsTupleOver, IsRelationOver, GivesRelation}
use Rattle.td_type_soundness.proofs.Errors.{Each, goes_on}
use Rattle.td_type_soundness.proofs.OneOperand.{as_relation}
use Rattle.td_type_soundness.proofs.OverTuples.{TermsGive, SummariesGive, restriction_is, extension_is, summarization_is, summary_gives}
use Rattle.td_type_soundness.proofs.Relations.{dee_is, projection_is}
use Rattle.td_type_soundness.proofs.Tables.{truths}
use Rattle.td_type_soundness.proofs.TwoOperands.{binary_gives}
use Rattle.td_type_soundness.proofs.Values.{Whatever, truth_given, rows_given, has_heading}

module _ (s : SchemaData) where
  -- ---- names
  pub local_gives : (x : Name) (k : TypeKind) (d : Datum) (names : Names) → names x ≡ Some d → HasKind s k d → GivesValue s k (mean_local x names)
  unfolding mean_local
  local_gives x k d names e has = subst (λ o. GivesValue s k (known o)) (sym e) has

  pub relvar_gives : (relvars : Relvars) (n : ℕ) (h : Header) (names : Names) → GivesRelation s h (relvars n) → GivesValue s (kind.Relation h) (mean_relvar relvars n names)
  unfolding mean_relvar
  relvar_gives relvars n h names give = goes_on (IsRelationOver s h) (HasKind s (kind.Relation h)) as_value (relvars n) give (λ r is. as_relation s h r is)

  -- ---- operands
  pub by_gives : (j k : TypeKind) (f : Datum → Result Datum Stop) (a : Meaning) (names : Names) → GivesValue s j (a names) → ((d : Datum) → HasKind s j d → GivesValue s k (f d)) → GivesValue s k (mean_by f a names)
  unfolding mean_by
  by_gives j k f a names give each = goes_on (HasKind s j) (HasKind s k) f (a names) give each

  truth_gives : (a : Meaning) (names : Names) → GivesValue s kind.Boolean (a names) → OrError (Whatever {A = Bool}) (truth_in a names)
  unfolding truth_in
  truth_gives a names give = goes_on (HasKind s kind.Boolean) (Whatever {A = Bool}) truth_of (a names) give (λ d has. truth_given s d has)

  rows_give : (h : Header) (a : Meaning) (names : Names) → GivesValue s (kind.Relation h) (a names) → GivesRelation s h (rows_in a names)
  unfolding rows_in
  rows_give h a names give = goes_on (HasKind s (kind.Relation h)) (IsRelationOver s h) rows_of (a names) give (λ d has. rows_given s h d has)

  both_give : (o : BinaryOperator) (i j k : TypeKind) (a b : Meaning) (names : Names) → binary_kind o i j ≡ Some k → GivesValue s i (a names) → GivesValue s j (b names) → GivesValue s k (mean_both o a b names)
  unfolding mean_both
  both_give o i j k a b names e p q =
      goes_on (HasKind s i) (HasKind s k) (λ d. and_then (b names) (operate o d)) (a names) p (λ d has.
      goes_on (HasKind s j) (HasKind s k) (operate o d) (b names) q (λ c have. binary_gives s o i j k d c e has have))

  -- one branch of two
  branch : (k : TypeKind) (x : Bool) (a b : Result Datum Stop) → GivesValue s k a → GivesValue s k b → GivesValue s k (if x then a else b)
  branch k true a b p q = p
  branch k false a b p q = q

  a_truth : (b : Meaning) (names : Names) → GivesValue s kind.Boolean (b names) → GivesValue s kind.Boolean (and_then (truth_in b names) (λ u. Ok (boolean u)))
  a_truth b names q = goes_on (Whatever {A = Bool}) (HasKind s kind.Boolean) (λ u. Ok (boolean u)) (truth_in b names) (truth_gives b names q) (λ u any. (refl, tt))

  and_gives : (a b : Meaning) (names : Names) → GivesValue s kind.Boolean (a names) → GivesValue s kind.Boolean (b names) → GivesValue s kind.Boolean (mean_and a b names)
  unfolding mean_and
  and_gives a b names p q =
      goes_on (Whatever {A = Bool}) (HasKind s kind.Boolean) (λ t. if t then and_then (truth_in b names) (λ u. Ok (boolean u)) else Ok (boolean false)) (truth_in a names) (truth_gives a names p)
      (λ t any. branch kind.Boolean t (and_then (truth_in b names) (λ u. Ok (boolean u))) (Ok (boolean false)) (a_truth b names q) (refl, tt))

  or_gives : (a b : Meaning) (names : Names) → GivesValue s kind.Boolean (a names) → GivesValue s kind.Boolean (b names) → GivesValue s kind.Boolean (mean_or a b names)
  unfolding mean_or
  or_gives a b names p q =
      goes_on (Whatever {A = Bool}) (HasKind s kind.Boolean) (λ t. if t then Ok (boolean true) else and_then (truth_in b names) (λ u. Ok (boolean u))) (truth_in a names) (truth_gives a names p)
      (λ t any. branch kind.Boolean t (Ok (boolean true)) (and_then (truth_in b names) (λ u. Ok (boolean u))) (refl, tt) (a_truth b names q))

  pub binary_form_gives : (o : BinaryOperator) (i j k : TypeKind) (a b : Meaning) (names : Names) → binary_kind o i j ≡ Some k → GivesValue s i (a names) → GivesValue s j (b names) → GivesValue s k (mean_binary o a b names)
  binary_form_gives binary.And i j k a b names e p q =
      let t = truths i j k e in
      subst (λ l. GivesValue s l (mean_and a b names)) t.2 (and_gives a b names (subst (λ l. GivesValue s l (a names)) t.0 p) (subst (λ l. GivesValue s l (b names)) t.1 q))
  binary_form_gives binary.Or i j k a b names e p q =
      let t = truths i j k e in
      subst (λ l. GivesValue s l (mean_or a b names)) t.2 (or_gives a b names (subst (λ l. GivesValue s l (a names)) t.0 p) (subst (λ l. GivesValue s l (b names)) t.1 q))
  binary_form_gives o i j k a b names e p q = both_give o i j k a b names e p q

  pub if_gives : (k : TypeKind) (c a b : Meaning) (names : Names) → GivesValue s kind.Boolean (c names) → GivesValue s k (a names) → GivesValue s k (b names) → GivesValue s k (mean_if c a b names)
  unfolding mean_if
  if_gives k c a b names p q r =
      goes_on (Whatever {A = Bool}) (HasKind s k) (λ t. if t then a names else b names) (truth_in c names) (truth_gives c names p) (λ t any. branch k t (a names) (b names) q r)

  -- ---- WITH
  pub introduced_last : (P : Names → Type 0) (names : Names) → P names → OrError P (introduced [] names)
  unfolding introduced
  introduced_last P names p = p

  pub introduced_next : (P : Names → Type 0) (k : TypeKind) (n : Name) (a : Meaning) (xs : List (Named Meaning)) (names : Names) → GivesValue s k (a names) → ((d : Datum) → HasKind s k d → OrError P (introduced xs (given n d names))) → OrError P (introduced (named n a ∷ xs) names)
  unfolding introduced
  introduced_next P k n a xs names give each = goes_on (HasKind s k) P (λ d. introduced xs (given n d names)) (a names) give each

  pub with_gives : (k : TypeKind) (P : Names → Type 0) (xs : List (Named Meaning)) (body : Meaning) (names : Names) → OrError P (introduced xs names) → ((after : Names) → P after → GivesValue s k (body after)) → GivesValue s k (mean_with xs body names)
  unfolding mean_with
  with_gives k P xs body names give each = goes_on P (HasKind s k) body (introduced xs names) give each

  -- ---- over tuples
  pub where_gives : (h : Header) (r c : Meaning) (names : Names) → GivesValue s (kind.Relation h) (r names) → ((t : Attrs) → IsTupleOver s h t → GivesValue s kind.Boolean (c (within t names))) → GivesValue s (kind.Relation h) (mean_where r c names)
  unfolding mean_where truth_at
  where_gives h r c names give each =
      goes_on (IsRelationOver s h) (HasKind s (kind.Relation h)) (λ ts. and_then (restricted (truth_at c names) ts) as_value) (rows_in r names) (rows_give h r names give) (λ ts is.
      goes_on (IsRelationOver s h) (HasKind s (kind.Relation h)) as_value (restricted (truth_at c names) ts) (restriction_is s h (truth_at c names) ts is (λ t has. truth_gives c (within t names) (each t has))) (λ us made. as_relation s h us made))

  module _ (m : Means) (names : Names) where
    pub aggregate_gives : (o : Aggregate) (r v : Typed) (h : Header) (k : TypeKind) → suits o k ≡ true → GivesValue s (kind.Relation h) (m r names) → ((t : Attrs) → IsTupleOver s h t → GivesValue s k (m v (within t names))) → GivesValue s k (over_aggregate m r (summary_of o v) names)
    unfolding over_aggregate terms
    aggregate_gives o r v h k may give each =
        goes_on (IsRelationOver s h) (HasKind s k) (λ ts. summary_over (terms m names) ts.tuples (summary_of o v)) (rows_in (m r) names) (rows_give h (m r) names give) (λ ts is.
        summary_gives s (terms m names) v ts.tuples o k may (λ t i. each t (has_heading s h ts is t i)))

    pub extend_gives : (r : Typed) (items : List (Item Typed)) (h : Header) → GivesValue s (kind.Relation h) (m r names) → ((t : Attrs) → IsTupleOver s h t → TermsGive s (λ u. m u (within t names)) items) → GivesValue s (kind.Relation (extended_columns items h)) (over_extend m r items names)
    unfolding over_extend terms
    extend_gives r items h give each =
        goes_on (IsRelationOver s h) (HasKind s (kind.Relation (extended_columns items h))) (λ ts. and_then (extended (terms m names) items ts) as_value) (rows_in (m r) names) (rows_give h (m r) names give) (λ ts is.
        goes_on (IsRelationOver s (extended_columns items h)) (HasKind s (kind.Relation (extended_columns items h))) as_value (extended (terms m names) items ts) (extension_is s (terms m names) items h ts is each) (λ us made. as_relation s (extended_columns items h) us made))

    -- an item of an aggregate, over tuples of a heading
    pub aggregate_over : (o : Aggregate) (v : Typed) (h : Header) (k : TypeKind) → suits o k ≡ true → ((t : Attrs) → IsTupleOver s h t → GivesValue s k (m v (within t names))) → (ts : List Attrs) → Each (IsTupleOver s h) ts → GivesValue s k (summary_over (terms m names) ts (summary_of o v))
    unfolding terms
    aggregate_over o v h k may each ts are = summary_gives s (terms m names) v ts o k may (λ t i. each t (are t i))

    pub summarize_gives : (r : Typed) (g : TypedGroups Typed) (items : List (Item (Summary Typed))) (h k : Header) → GivesValue s (kind.Relation h) (m r names) → ((ts : RowsData) → IsRelationOver s h ts → GivesRelation s k (groups_at (groups_meant m g) names ts)) → SummariesGive s h (terms m names) items → GivesValue s (kind.Relation (extended_columns items k)) (over_summarize m r g items names)
    unfolding over_summarize summarized_over
    summarize_gives r g items h k give groups each =
        goes_on (IsRelationOver s h) (HasKind s (kind.Relation (extended_columns items k))) (λ ts. and_then (summarized_over m g items names ts) as_value) (rows_in (m r) names) (rows_give h (m r) names give) (λ ts is.
        goes_on (IsRelationOver s (extended_columns items k)) (HasKind s (kind.Relation (extended_columns items k))) as_value (summarized_over m g items names ts)
        (goes_on (IsRelationOver s k) (IsRelationOver s (extended_columns items k)) (summarized (terms m names) items ts) (groups_at (groups_meant m g) names ts) (groups ts is) (λ us are. summarization_is s (terms m names) items h k ts us is are each))
        (λ vs made. as_relation s (extended_columns items k) vs made))

    -- ---- the groups
    pub whole_gives : (ts : RowsData) → GivesRelation s by_name.empty (groups_at groups.Whole names ts)
    unfolding groups_at
    whole_gives ts = dee_is s

    pub per_gives : (u : Typed) (k : Header) (ts : RowsData) → GivesValue s (kind.Relation k) (m u names) → GivesRelation s k (groups_at (groups.Per (m u)) names ts)
    unfolding groups_at
    per_gives u k ts give = rows_give k (m u) names give

    pub by_columns_gives : (ns : List Name) (h : Header) (ts : RowsData) → IsRelationOver s h ts → GivesRelation s (columns_in ns h) (groups_at (groups.By ns) names ts)
    unfolding groups_at
    by_columns_gives ns h ts is = projection_is s ns h ts is
