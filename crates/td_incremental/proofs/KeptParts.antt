-- References to a relvar whose tuples leave their parts behind.
use Rattle.std.proofs.Common.{◌≡◌, inl, ℕ, Bool, true, false, cond, if◌then◌else◌, List, Some, Result, Ok, Err, refl, ap, sym, ◌∙◌, subst, true≢false}
use Rattle.std.specs.Prelude.{slice_get}
use Rattle.td_values.specs.Data.{Attrs, Datum, boolean, integer, char, user, tuple, relation, no_attrs, attr}
use Rattle.td_values.specs.Headings.{Header}
use Rattle.td_values.specs.Rows.{RowsData}
use Rattle.td_syntax.specs.declared.tree.BinaryOperator.{BinaryOperator}
use Rattle.td_syntax.specs.declared.tree.BinaryOperator.TheVariants as binary
use Rattle.td_syntax.specs.declared.tree.Named.{Named}
use Rattle.td_syntax.specs.declared.tree.UnaryOperator.TheVariants as unary
use Rattle.td_tuples.specs.Parts.{columns_in, cut, is_in, names_of}
use Rattle.td_relations.specs.Sets.{Has}
use Rattle.td_typed_trees.specs.declared.tree.Typed.{Typed}
use Rattle.td_typed_trees.specs.declared.tree.Typed.TheVariants as tree
use Rattle.td_algebra.specs.ForProofs.Index.{has_part, is_matched}
use Rattle.td_algebra.specs.Functions.{intersect_of, matching_of, minus_of, not_matching_of, project_of, relation_from, restricted}
use Rattle.td_algebra.specs.Nested.{relation_value}
use Rattle.td_algebra.specs.Raising.{all_of, and_then}
use Rattle.td_algebra.specs.Restricting.{select}
use Rattle.td_algebra.specs.declared.errors.Stop.{Stop}
use Rattle.td_algebra.specs.declared.errors.Stop.TheVariants.{Untyped}
use Rattle.td_algebra.proofs.Bridges.{minus_is, project_is}
use Rattle.td_algebra.proofs.Lists.{any_in, in_any}
use Rattle.td_algebra.proofs.Made.{has_in, in_has}
use Rattle.td_algebra.proofs.PlacedParts.{same_key}
use Rattle.td_headings.specs.Catalogues.{CatalogueData}
use Rattle.td_headings.specs.Reached.{is_base}
use Rattle.td_headings.specs.declared.defined.Test.TheVariants as test
use Rattle.td_meaning.specs.Mean.{Meaning, Names, Relvars, Selection, mean, mean_binary, mean_both, mean_by, mean_relvar, mean_where, rows_in, truth_at, truth_in, within}
use Rattle.td_meaning.proofs.Forms as forms
use Rattle.td_operators.specs.Operators.{as_value, of_relations, operate, operate_on, part_at, related, are_equal_headings}
use Rattle.td_operators.specs.Values as operands
use Rattle.td_operators.specs.Values.{rows_of}
use Rattle.td_semantics.specs.Meanings.{no_names}
use Rattle.td_semantics.specs.Tests.{judgement}
use Rattle.td_semantics.specs.Trees.{all_relvars, places, selection_of}
use Rattle.td_incremental.specs.Growth.{IsUnread}
use Rattle.td_incremental.specs.Laws.{KeptPartsKeepReferences}
use Rattle.td_incremental.specs.References.{AreAmong, HasNames, Refers, SaysWithin, relvar, project, where_, left, matched, without, at_most, at_least, whole, part, unread, both, has_left_heading}
use Rattle.td_incremental.proofs.Constraints.{and_true, is_nothing, true_of}
use Rattle.td_incremental.proofs.Narrowing.{apart_from_it, as_it_was, before_it, else_now, judged_before}
use Rattle.td_incremental.proofs.Operators.{matching_members}
use Rattle.td_incremental.proofs.SharedParts.{equal_parts, in_columns, second_true}
use Rattle.td_incremental.proofs.Values.{AreGrown, as_grown, part_of_rows, rows_back}
use Rattle.td_incremental.proofs.Virtuals.{Alike, all_alike, old_same}
use Rattle.td_incremental.proofs.Widening.{IsWider, WiderAnswer, WiderValue, along, around_true, both_hold, emptied, is_empty, matched_true, nothing_left, unmatched, within_true}

-- ---- parts at fewer names
else_of : {A : Type 0} (b : Bool) (x y : A) → (b ≡ true → ⊥) → cond b x y ≡ y
else_of true x y h = absurd (h refl)
else_of false x y h = refl

cut_fewer : (xs ys : List (List ℕ)) → AreAmong xs ys → (t : Attrs) → cut xs (cut ys t) ≡ cut xs t
cut_fewer xs ys among no_attrs = refl
cut_fewer xs ys among (attr n d t) = by (is_in ys n) (among n) (cut_fewer xs ys among t)
  where
    by : (b : Bool) → (is_in xs n ≡ true → b ≡ true) → cut xs (cut ys t) ≡ cut xs t → cut xs (cond b (attr n d (cut ys t)) (cut ys t)) ≡ cond (is_in xs n) (attr n d (cut xs t)) (cut xs t)
    by true h rest = λ i. cond (is_in xs n) (attr n d (rest i)) (rest i)
    by false h rest = rest ∙ sym (else_of (is_in xs n) (attr n d (cut xs t)) (cut xs t) (λ e. true≢false (sym (h e))))

pub part_fewer : (xs ys : List (List ℕ)) → AreAmong xs ys → (t u : Attrs) → cut ys u ≡ cut ys t → cut xs u ≡ cut xs t
part_fewer xs ys among t u e = sym (cut_fewer xs ys among u) ∙ ap (cut xs) e ∙ cut_fewer xs ys among t

-- each tuple of b has one of w with its part at these names
pub record KeepsRows (xs : List (List ℕ)) (b w : RowsData) : Type 0 where
  pub one_heading : b.heading ≡ w.heading
  pub kept : (t : Attrs) → Has b t → (u : Attrs) × Has w u × (cut xs u ≡ cut xs t)

-- ---- the part at such names has all that it had
module _ (xs : List (List ℕ)) (b w : RowsData) (k : KeepsRows xs b w) where
  part_kept : (ns : List (List ℕ)) → AreAmong ns xs → IsWider (project_of ns b) (project_of ns w)
  part_kept ns among =
      let was = project_is ns b in
      let is = project_is ns w in
      record {
        old_heading = refl;
        new_heading = was.heading ∙ ap (columns_in ns) k.one_heading ∙ sym is.heading;
        either = λ t has. inl has;
        new = λ t has.
            let from = was.only t has in
            let there = k.kept from.0 from.1 in
            is.all t (there.0, there.1, from.2 ∙ sym (part_fewer ns xs among from.0 there.0 there.2));
      }

  module _ (r s : Relvars) (n : ℕ) (names : Names) (was : r n ≡ Ok b) (is : s n ≡ Ok w) where
    part_means : (q : Relvars) (a : RowsData) (ns : List (List ℕ)) → q n ≡ Ok a → mean_by (part_at ns) (mean_relvar q n) names ≡ as_value (project_of ns a)
    unfolding mean_by mean_relvar
    part_means q a ns e = (λ i. and_then (and_then (e i) as_value) (part_at ns)) ∙ part_of_rows ns (relation_value a) a (rows_back a)

    pub part_answers : (ns : List (List ℕ)) → AreAmong ns xs → WiderAnswer (mean_by (part_at ns) (mean_relvar r n) names) (mean_by (part_at ns) (mean_relvar s n) names)
    part_answers ns among =
        along (part_means r b ns was) (part_means s w ns is)
        (as_grown (project_of ns w) (project_of ns w) (project_of ns b) (part_kept ns among))

-- ---- nothing that is not matched, by the names of what is to be
module _ (a b w : RowsData) (k : KeepsRows (names_of a.heading) b w) where
  again : (t : Attrs) → is_matched a.heading b.heading b.tuples t ≡ true → is_matched a.heading w.heading w.tuples t ≡ true
  again t m =
      let some = in_any (has_part (names_of a.heading) (cut (names_of b.heading) t)) b.tuples m in
      let there = k.kept some.0 (in_has b some.0 some.1) in
      any_in (has_part (names_of a.heading) (cut (names_of w.heading) t)) w.tuples there.0 (has_in w there.0 there.1)
      (equal_parts (names_of a.heading) (cut (names_of w.heading) t) there.0 (there.2 ∙ same_key _ _ some.2 ∙ ap (λ (h : Header). cut (names_of h) t) k.one_heading))

  fewer_left : (t : Attrs) → Has (not_matching_of a w) t → Has (not_matching_of a b) t
  unfolding not_matching_of
  fewer_left t has =
      let p = (minus_is a (matching_of a w)).only t has in
      (minus_is a (matching_of a b)).all t (p.0, λ m. p.1 ((matching_members a w).all t (p.0, again t ((matching_members a b).only t m).1)))

  still_empty : is_empty (unmatched (Ok a) (Ok b)) ≡ Ok true → is_empty (unmatched (Ok a) (Ok w)) ≡ Ok true
  still_empty e =
      emptied (not_matching_of a w)
      ∙ ap Ok (nothing_left (not_matching_of a b) (not_matching_of a w) fewer_left (true_of (is_nothing (not_matching_of a b).tuples) (sym (emptied (not_matching_of a b)) ∙ e)))

-- the names of a relation, if there is one, are among these
abbrev pub AreNamed : List (List ℕ) → Result RowsData Stop → Type 0
AreNamed xs (Ok a) = AreAmong (names_of a.heading) xs
AreNamed xs (Err e) = Unit {0}

module _ (xs : List (List ℕ)) (b w : RowsData) (k : KeepsRows xs b w) where
  whole_rows : (x : Result RowsData Stop) → AreNamed xs x → is_empty (unmatched x (Ok b)) ≡ Ok true → is_empty (unmatched x (Ok w)) ≡ Ok true
  whole_rows (Ok a) named e =
      still_empty a b w (record {
        one_heading = k.one_heading;
        kept = λ t has. let there = k.kept t has in (there.0, there.1, part_fewer (names_of a.heading) xs named t there.0 there.2);
      }) e
  whole_rows (Err f) named e = cc

  abbrev left_of : Datum → RowsData → Result Datum Stop
  left_of d s = and_then (as_value s) (operate binary.NotMatching d)

  left_is : (d : Datum) (s : RowsData) → left_of d s ≡ unmatched (rows_of d) (Ok s)
  unfolding of_relations
  left_is d s = λ i. unmatched (rows_of d) (rows_back s i)

  whole_by : (x : Result Datum Stop) → AreNamed xs (and_then x rows_of) → is_empty (and_then x (λ d. left_of d b)) ≡ Ok true → is_empty (and_then x (λ d. left_of d w)) ≡ Ok true
  whole_by (Ok d) named e = ap is_empty (left_is d w) ∙ whole_rows (rows_of d) named (sym (ap is_empty (left_is d b)) ∙ e)
  whole_by (Err f) named e = cc

  module _ (r s : Relvars) (n : ℕ) (names : Names) (was : r n ≡ Ok b) (is : s n ≡ Ok w) (m : Meaning) where
    whole_means : (q : Relvars) (a : RowsData) → q n ≡ Ok a → truth_in (mean_by (operate_on unary.IsEmpty) (mean_both binary.NotMatching m (mean_relvar q n))) names ≡ is_empty (and_then (m names) (λ d. left_of d a))
    unfolding truth_in mean_by mean_both mean_relvar
    whole_means q a e = λ i. is_empty (and_then (m names) (λ d. and_then (and_then (e i) as_value) (operate binary.NotMatching d)))

    pub whole_true : AreNamed xs (rows_in m names) → truth_in (mean_by (operate_on unary.IsEmpty) (mean_both binary.NotMatching m (mean_relvar r n))) names ≡ Ok true → truth_in (mean_by (operate_on unary.IsEmpty) (mean_both binary.NotMatching m (mean_relvar s n))) names ≡ Ok true
    unfolding rows_in
    whole_true named e = whole_means s w is ∙ whole_by (m names) named (sym (whole_means r b was) ∙ e)

-- ---- nothing that is not among them
abbrev pub lessened : Result RowsData Stop → Result RowsData Stop → Result Datum Stop
lessened x y = and_then (operands.both x y) (λ (p : RowsData × RowsData). and_then (related binary.Minus p.0 p.1) as_value)

if_less : (p q : Bool) (u v : RowsData) → p ≡ q → (is_nothing u.tuples ≡ true → is_nothing v.tuples ≡ true) → is_empty (and_then (if p then Ok u else Err Untyped) as_value) ≡ Ok true → is_empty (and_then (if q then Ok v else Err Untyped) as_value) ≡ Ok true
if_less true true u v same each e = emptied v ∙ ap Ok (each (true_of (is_nothing u.tuples) (sym (emptied u) ∙ e)))
if_less true false u v same each e = cc
if_less false q u v same each e = cc

fewer_out : (a s w : RowsData) → IsWider s w → (t : Attrs) → Has (minus_of a w) t → Has (minus_of a s) t
fewer_out a s w g t has = let p = (minus_is a w).only t has in (minus_is a s).all t (p.0, λ m. p.1 (g.new t m))

still_less : (x y z : Result RowsData Stop) → AreGrown z z y → is_empty (lessened x y) ≡ Ok true → is_empty (lessened x z) ≡ Ok true
still_less (Err f) y z g e = cc
still_less (Ok a) (Ok s) (Ok w) g e =
    if_less (are_equal_headings a.heading s.heading) (are_equal_headings a.heading w.heading) (minus_of a s) (minus_of a w) (ap (are_equal_headings a.heading) g.new_heading)
    (nothing_left (minus_of a s) (minus_of a w) (fewer_out a s w g)) e
still_less (Ok a) (Ok s) (Err f) g e = absurd g
still_less (Ok a) (Err f) (Ok w) g e = absurd g
still_less (Ok a) (Err f) (Err k) g e = absurd g

less_by : (d v w : Datum) → WiderValue v w → is_empty (operate binary.Minus d v) ≡ Ok true → is_empty (operate binary.Minus d w) ≡ Ok true
unfolding of_relations
less_by d v w g e = still_less (rows_of d) (rows_of v) (rows_of w) g e

less_then : (x y z : Result Datum Stop) → WiderAnswer y z → is_empty (and_then x (λ d. and_then y (operate binary.Minus d))) ≡ Ok true → is_empty (and_then x (λ d. and_then z (operate binary.Minus d))) ≡ Ok true
less_then (Ok d) (Ok v) (Ok w) g e = less_by d v w g e
less_then (Ok d) (Ok v) (Err f) g e = absurd g
less_then (Ok d) (Err f) z g e = cc
less_then (Err f) y z g e = cc

less_true : (m f g : Meaning) (names : Names) → WiderAnswer (f names) (g names) → truth_in (mean_by (operate_on unary.IsEmpty) (mean_both binary.Minus m f)) names ≡ Ok true → truth_in (mean_by (operate_on unary.IsEmpty) (mean_both binary.Minus m g)) names ≡ Ok true
unfolding truth_in mean_by mean_both
less_true m f g names h e = less_then (m names) (f names) (g names) h e

-- ---- names of what expressions give
module _ (xs : List (List ℕ)) where
  by_heading : (h : Header) (r : RowsData) → r.heading ≡ h → AreAmong (names_of h) xs → AreAmong (names_of r.heading) xs
  by_heading h r e among = subst (λ g. AreAmong (names_of g) xs) (sym e) among

  named_back : (x : Result RowsData Stop) → AreNamed xs x → AreNamed xs (and_then (and_then x as_value) rows_of)
  named_back (Ok r) h = subst (AreNamed xs) (sym (rows_back r)) h
  named_back (Err e) h = tt

  named_relvar : (s : Relvars) (m : ℕ) (names : Names) → AreNamed xs (s m) → AreNamed xs (rows_in (mean_relvar s m) names)
  unfolding rows_in mean_relvar
  named_relvar s m names h = named_back (s m) h

  columns_named : (ns : List (List ℕ)) (h : Header) → AreAmong ns xs → AreAmong (names_of (columns_in ns h)) xs
  columns_named ns h among x e = among x (second_true (is_in (names_of h) x) (is_in ns x) (sym (in_columns h (is_in ns) x) ∙ e))

  project_named : (ns : List (List ℕ)) (r : RowsData) → AreAmong ns xs → AreNamed xs (and_then (as_value (project_of ns r)) rows_of)
  project_named ns r among = named_back (Ok (project_of ns r)) (by_heading (columns_in ns r.heading) (project_of ns r) (project_is ns r).heading (columns_named ns r.heading among))

  part_named : (ns : List (List ℕ)) → AreAmong ns xs → (x : Result Datum Stop) → AreNamed xs (and_then (and_then x (part_at ns)) rows_of)
  part_named ns among (Ok (relation h ts)) = project_named ns _ among
  part_named ns among (Ok (tuple t)) = tt
  part_named ns among (Ok (boolean b)) = tt
  part_named ns among (Ok (integer n)) = tt
  part_named ns among (Ok (char s)) = tt
  part_named ns among (Ok (user p is)) = tt
  part_named ns among (Err e) = tt

  named_project : (ns : List (List ℕ)) (f : Meaning) (names : Names) → AreAmong ns xs → AreNamed xs (rows_in (mean_by (part_at ns) f) names)
  unfolding rows_in mean_by
  named_project ns f names among = part_named ns among (f names)

  restricted_named : (m : Attrs → Result Bool Stop) (r : RowsData) → AreAmong (names_of r.heading) xs → AreNamed xs (restricted m r)
  unfolding restricted
  restricted_named m r among = by (all_of m r.tuples)
    where
      by : (x : Result (List Bool) Stop) → AreNamed xs (and_then x (λ bs. Ok (relation_from r.heading (select r.tuples bs))))
      by (Ok bs) = among
      by (Err e) = tt

  chosen_named : (m : Attrs → Result Bool Stop) (x : Result RowsData Stop) → AreNamed xs x → AreNamed xs (and_then (and_then x (λ r. and_then (restricted m r) as_value)) rows_of)
  chosen_named m (Ok r) h = named_back (restricted m r) (restricted_named m r h)
  chosen_named m (Err e) h = tt

  named_where : (f g : Meaning) (names : Names) → AreNamed xs (rows_in f names) → AreNamed xs (rows_in (mean_where f g) names)
  unfolding rows_in mean_where
  named_where f g names h = chosen_named (truth_at g names) (and_then (f names) rows_of) h

  if_named : (b : Bool) (r : RowsData) → AreAmong (names_of r.heading) xs → AreNamed xs (if b then Ok r else Err Untyped)
  if_named true r h = h
  if_named false r h = tt

  related_named : (o : BinaryOperator) → has_left_heading o ≡ true → (a s : RowsData) → AreAmong (names_of a.heading) xs → AreNamed xs (related o a s)
  unfolding matching_of not_matching_of minus_of intersect_of
  related_named binary.Matching is a s h = h
  related_named binary.NotMatching is a s h = h
  related_named binary.Minus is a s h = if_named (are_equal_headings a.heading s.heading) (minus_of a s) h
  related_named binary.Intersect is a s h = if_named (are_equal_headings a.heading s.heading) (intersect_of a s) h
  related_named o is a s h = cc

  both_named : (o : BinaryOperator) → has_left_heading o ≡ true → (x y : Result RowsData Stop) → AreNamed xs x → AreNamed xs (and_then (and_then (operands.both x y) (λ (p : RowsData × RowsData). and_then (related o p.0 p.1) as_value)) rows_of)
  both_named o is (Ok a) (Ok s) h = named_back (related o a s) (related_named o is a s h)
  both_named o is (Ok a) (Err e) h = tt
  both_named o is (Err e) y h = tt

  operated_named : (o : BinaryOperator) → has_left_heading o ≡ true → (d e : Datum) → AreNamed xs (rows_of d) → AreNamed xs (and_then (operate o d e) rows_of)
  unfolding of_relations
  operated_named binary.Matching is d e h = both_named binary.Matching is (rows_of d) (rows_of e) h
  operated_named binary.NotMatching is d e h = both_named binary.NotMatching is (rows_of d) (rows_of e) h
  operated_named binary.Minus is d e h = both_named binary.Minus is (rows_of d) (rows_of e) h
  operated_named binary.Intersect is d e h = both_named binary.Intersect is (rows_of d) (rows_of e) h
  operated_named o is d e h = cc

  of_two_named : (o : BinaryOperator) → has_left_heading o ≡ true → (x y : Result Datum Stop) → AreNamed xs (and_then x rows_of) → AreNamed xs (and_then (and_then x (λ d. and_then y (operate o d))) rows_of)
  of_two_named o is (Ok d) (Ok e) h = operated_named o is d e h
  of_two_named o is (Ok d) (Err e) h = tt
  of_two_named o is (Err e) y h = tt

  named_left : (o : BinaryOperator) → has_left_heading o ≡ true → (f g : Meaning) (names : Names) → AreNamed xs (rows_in f names) → AreNamed xs (rows_in (mean_both o f g) names)
  unfolding rows_in mean_both
  named_left o is f g names h = of_two_named o is (f names) (g names) h

left_is_both : (o : BinaryOperator) → has_left_heading o ≡ true → (f g : Meaning) → mean_binary o f g ≡ mean_both o f g
left_is_both binary.And is f g = cc
left_is_both binary.Or is f g = cc
left_is_both o is f g = refl

module _ (c : CatalogueData) (p : Selection) (xs : List (List ℕ)) (s : Relvars) (headed : (m : ℕ) (v : Named Header) (r : RowsData) → slice_get c.schema.relvars m ≡ Some v → s m ≡ Ok r → r.heading ≡ v.value) where
  relvar_named : (m : ℕ) (v : Named Header) → slice_get c.schema.relvars m ≡ Some v → AreAmong (names_of v.value) xs → (x : Result RowsData Stop) → s m ≡ x → AreNamed xs x
  relvar_named m v at among (Ok r) is = by_heading xs v.value r (headed m v r at is) among
  relvar_named m v at among (Err e) is = tt

  pub named : (u : Typed) → HasNames c xs u → (names : Names) → AreNamed xs (rows_in (mean s p u) names)
  named u (relvar m v at among) names =
      subst (λ (f : Meaning). AreNamed xs (rows_in f names)) (sym (forms.of_relvar s p m)) (named_relvar xs s m names (relvar_named m v at among (s m) refl))
  named u (project x ns among) names =
      subst (λ (f : Meaning). AreNamed xs (rows_in f names)) (sym (forms.of_project s p x ns)) (named_project xs ns (mean s p x) names among)
  named u (where_ {r = x} b h) names =
      subst (λ (f : Meaning). AreNamed xs (rows_in f names)) (sym (forms.of_where s p x b)) (named_where xs (mean s p x) (mean s p b) names (named x h names))
  named u (left {r = x} o y is h) names =
      subst (λ (f : Meaning). AreNamed xs (rows_in f names)) (sym (forms.of_binary s p o x y ∙ left_is_both o is (mean s p x) (mean s p y))) (named_left xs o is (mean s p x) (mean s p y) names (named x h names))

-- ---- trees
-- relvars before and after n lost tuples that leave their parts at these names to others
abbrev Kept : List (List ℕ) → Result RowsData Stop → Result RowsData Stop → Result RowsData Stop → Type 0
Kept xs x y z = (b : RowsData) × (w : RowsData) × (x ≡ Ok b) × (z ≡ Ok w) × KeepsRows xs b w

abbrev none_like : Typed → Type 0
none_like u = ⊥

module _ (c : CatalogueData) (n : ℕ) (p : Selection) (xs : List (List ℕ)) where
  abbrev AreKept : Relvars → Relvars → Type 0
  AreKept r s = Alike c n p none_like (Kept xs) r s s

  module _ (r s : Relvars) (a : AreKept r s) (headed : (m : ℕ) (v : Named Header) (q : RowsData) → slice_get c.schema.relvars m ≡ Some v → s m ≡ Ok q → q.heading ≡ v.value) (names : Names) where
    same : (u : Typed) → IsUnread c n u → mean r p u ≡ mean s p u
    same = old_same c n p none_like (Kept xs) r s s a

    abbrev truth : Relvars → Typed → Result Bool Stop
    truth q u = truth_in (mean q p u) names

    part_tree : (ns : List (List ℕ)) → AreAmong ns xs → WiderAnswer (mean r p (tree.Project (tree.Relvar n) ns) names) (mean s p (tree.Project (tree.Relvar n) ns) names)
    part_tree ns among =
        let k = a.itself_related in
        let form : (q : Relvars) → mean q p (tree.Project (tree.Relvar n) ns) ≡ mean_by (part_at ns) (mean_relvar q n) = λ q. forms.of_project q p (tree.Relvar n) ns ∙ ap (mean_by (part_at ns)) (forms.of_relvar q p n) in
        along (λ i. form r i names) (λ i. form s i names) (part_answers xs k.0 k.1 k.4 r s n names k.2 k.3 ns among)

    module _ (x y : Typed) (alike : mean r p x ≡ mean s p x) (wider : WiderAnswer (mean r p y names) (mean s p y names)) where
      emptied_form : (q : Relvars) (o : BinaryOperator) → (mean_binary o (mean q p x) (mean q p y) ≡ mean_both o (mean q p x) (mean q p y)) → mean q p (tree.Unary unary.IsEmpty (tree.Binary o x y)) ≡ mean_by (operate_on unary.IsEmpty) (mean_both o (mean q p x) (mean q p y))
      emptied_form q o is = forms.of_unary q p unary.IsEmpty (tree.Binary o x y) ∙ ap (mean_by (operate_on unary.IsEmpty)) (forms.of_binary q p o x y ∙ is)

      still_says : (u : Typed) → SaysWithin x y u → truth r u ≡ Ok true → truth s u ≡ Ok true
      still_says u matched e =
          ap (λ m. truth_in m names) (emptied_form s binary.NotMatching refl ∙ ap (λ m. mean_by (operate_on unary.IsEmpty) (mean_both binary.NotMatching m (mean s p y))) (sym alike))
          ∙ matched_true (mean r p x) (mean r p y) (mean s p y) names wider (sym (ap (λ m. truth_in m names) (emptied_form r binary.NotMatching refl)) ∙ e)
      still_says u without e =
          ap (λ m. truth_in m names) (emptied_form s binary.Minus refl ∙ ap (λ m. mean_by (operate_on unary.IsEmpty) (mean_both binary.Minus m (mean s p y))) (sym alike))
          ∙ less_true (mean r p x) (mean r p y) (mean s p y) names wider (sym (ap (λ m. truth_in m names) (emptied_form r binary.Minus refl)) ∙ e)
      still_says u at_most e =
          ap (λ m. truth_in m names) (forms.of_binary s p binary.AtMost x y ∙ ap (λ m. mean_both binary.AtMost m (mean s p y)) (sym alike))
          ∙ within_true (mean r p x) (mean r p y) (mean s p y) names wider (sym (ap (λ m. truth_in m names) (forms.of_binary r p binary.AtMost x y)) ∙ e)
      still_says u at_least e =
          ap (λ m. truth_in m names) (forms.of_binary s p binary.AtLeast y x ∙ ap (mean_both binary.AtLeast (mean s p y)) (sym alike))
          ∙ around_true (mean r p x) (mean r p y) (mean s p y) names wider (sym (ap (λ m. truth_in m names) (forms.of_binary r p binary.AtLeast y x)) ∙ e)

    whole_form : (q : Relvars) (x : Typed) → mean q p (tree.Unary unary.IsEmpty (tree.Binary binary.NotMatching x (tree.Relvar n))) ≡ mean_by (operate_on unary.IsEmpty) (mean_both binary.NotMatching (mean q p x) (mean_relvar q n))
    whole_form q x = forms.of_unary q p unary.IsEmpty (tree.Binary binary.NotMatching x (tree.Relvar n)) ∙ ap (mean_by (operate_on unary.IsEmpty)) (forms.of_binary q p binary.NotMatching x (tree.Relvar n) ∙ ap (mean_both binary.NotMatching (mean q p x)) (forms.of_relvar q p n))

    pub still_refers : (u : Typed) → Refers c n xs u → truth r u ≡ Ok true → truth s u ≡ Ok true
    still_refers u (whole x never h) e =
        let k = a.itself_related in
        ap (λ m. truth_in m names) (whole_form s x)
        ∙ whole_true xs k.0 k.1 k.4 r s n names k.2 k.3 (mean s p x) (named c p xs s headed x h names)
        (sym (ap (λ m. truth_in m names) (whole_form r x ∙ ap (λ m. mean_by (operate_on unary.IsEmpty) (mean_both binary.NotMatching m (mean_relvar r n))) (same x never))) ∙ e)
    still_refers u (part x ns v says never among) e = still_says x (tree.Project (tree.Relvar n) ns) (same x never) (part_tree ns among) u says e
    still_refers u (unread v never) e = ap (λ m. truth_in m names) (sym (same u never)) ∙ e
    still_refers u (both {u = x} {v = y} h k) e =
        let is = and_true (mean r p x) (mean r p y) names (sym (ap (λ m. truth_in m names) (forms.of_binary r p binary.And x y)) ∙ e) in
        ap (λ m. truth_in m names) (forms.of_binary s p binary.And x y) ∙ both_hold (mean s p x) (mean s p y) names (still_refers x h is.0) (still_refers y k is.1)

-- ---- judgements
module _ (c : CatalogueData) (old now : Relvars) (n : ℕ) (xs : List (List ℕ)) (base : is_base (slice_get c.origins n) ≡ true) (before after : RowsData) (was : old n ≡ Ok before) (is : now n ≡ Ok after) (k : KeepsRows xs before after) where
  begun : AreKept c n (selection_of c) xs (before_it old now n) now
  begun = record {
    old = λ m never. sym (else_now old now n m (apart_from_it c n base m never));
    new = λ m never. refl;
    itself_related = (before, after, as_it_was old now n ∙ was, is, k);
    virtual_related = λ m u there none. absurd none;
  }

  all_kept : AreKept c n (selection_of c) xs (all_relvars c (before_it old now n)) (all_relvars c now)
  all_kept = all_alike c n (selection_of c) none_like (Kept xs) base (λ r s t a u none. absurd none) (places c.origins) (before_it old now n) now now begun

  still_judged : ((m : ℕ) (v : Named Header) (q : RowsData) → slice_get c.schema.relvars m ≡ Some v → all_relvars c now m ≡ Ok q → q.heading ≡ v.value) → (x : List ℕ) (u : Typed) → Refers c n xs u → judgement c (before_it old now n) (test.Constraint x u) ≡ Ok true → judgement c now (test.Constraint x u) ≡ Ok true
  unfolding truth_in
  still_judged headed x u h e = still_refers c n (selection_of c) xs (all_relvars c (before_it old now n)) (all_relvars c now) all_kept headed (within no_attrs no_names) u h e

pub kept_parts_keep_references : KeptPartsKeepReferences
kept_parts_keep_references c old now n xs x u base a headed k refers e =
    still_judged c old now n xs base k.before k.after k.was k.is (record { one_heading = k.one_heading; kept = k.kept }) headed x u refers (judged_before old now n c x u a e)
