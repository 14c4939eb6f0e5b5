-- What the tables of kinds say of the operands, where they give a kind.
use Rattle.std.proofs.Common.{◌≡◌, Bool, true, false, ◌&&◌, ◌||◌, if◌then◌else◌, Option, None, Some, refl, sym, ap, ◌∙◌}
use Rattle.std.specs.FinMap as by_name
use Rattle.std.specs.Ordering.{is_eq}
use Rattle.std.specs.Cmp.{tied_itself}
use Rattle.td_values.specs.Data.{Ty, boolean_type, integer_type, char_type, user_type, tuple_type, relation_type, Fields}
use Rattle.td_values.specs.Headings.{Header, header_fields, header_of}
use Rattle.td_values.specs.Order.{ty_order, fields_order}
use Rattle.td_values.specs.Proving.Total.{fields_tied, ty_order_total}
use Rattle.td_values.specs.declared.TypeKind.{TypeKind}
use Rattle.td_values.specs.declared.TypeKind.TheVariants as kind
use Rattle.td_values.proofs.FieldLemmas.{fields_tie_themselves}
use Rattle.td_values.proofs.TupleLemmas.{same_header}
use Rattle.td_values.proofs.Walks.{is_tied}
use Rattle.td_schema.specs.Kinds.{kind_of, same_heading, same_kind, is_boolean, is_integer, is_char, relation_heading, tuple_heading, agree_on_types}
use Rattle.td_schema.specs.Operators.{closed_kind, of_headings, joined_kind, composed_kind, matched_kind, united_kind, compared_kind, ordered_kind, member_kind, truth_kind, number_kind, text_kind, equal_kind}
use Rattle.td_schema.specs.Operators as operators
use Rattle.td_schema.specs.Results.{where_true, where_some}
use Rattle.td_tuples.specs.Unions.{joined, composed_columns}
use Rattle.td_typing.proofs.KindLemmas as kinds

-- ---- answers
pub passed : {A : Type 0} (b : Bool) (a c : A) → where_true b a ≡ Some c → (b ≡ true) × (a ≡ c)
passed true a c e = (refl, kinds.some_same a c e)
passed false a c e = cc

pub inverted : {A B : Type 0} (o : Option A) (f : A → Option B) (y : B) → where_some o f ≡ Some y → (a : A) × (o ≡ Some a) × (f a ≡ Some y)
inverted None f y e = cc
inverted (Some a) f y e = (a, refl, e)

pub both_true : (a b : Bool) → (a && b) ≡ true → (a ≡ true) × (b ≡ true)
both_true true b e = (refl, e)
both_true false b e = cc

-- ---- a kind, by its test
pub integer_kind : (k : TypeKind) → is_integer k ≡ true → k ≡ kind.Integer
integer_kind kind.Boolean e = cc
integer_kind kind.Integer e = refl
integer_kind kind.Char e = cc
integer_kind (kind.User n) e = cc
integer_kind (kind.Tuple h) e = cc
integer_kind (kind.Relation h) e = cc

pub char_kind : (k : TypeKind) → is_char k ≡ true → k ≡ kind.Char
char_kind kind.Boolean e = cc
char_kind kind.Integer e = cc
char_kind kind.Char e = refl
char_kind (kind.User n) e = cc
char_kind (kind.Tuple h) e = cc
char_kind (kind.Relation h) e = cc

pub tuple_kind : (k : TypeKind) (h : Header) → tuple_heading k ≡ Some h → k ≡ kind.Tuple h
tuple_kind kind.Boolean h e = cc
tuple_kind kind.Integer h e = cc
tuple_kind kind.Char h e = cc
tuple_kind (kind.User n) h e = cc
tuple_kind (kind.Tuple g) h e = ap kind.Tuple (kinds.some_same g h e)
tuple_kind (kind.Relation g) h e = cc

-- ---- headings and types that are one
pub one_heading : (g h : Header) → same_heading g h ≡ true → g ≡ h
one_heading g h e = same_header g h (fields_tied (header_fields g) (header_fields h) (is_tied (fields_order (header_fields g) (header_fields h)) e))

pub heading_itself : (g h : Header) → g ≡ h → same_heading g h ≡ true
heading_itself g h e = ap (λ k. same_heading g k) (sym e) ∙ ap is_eq (fields_tie_themselves (header_fields g))

pub fields_itself : (fs gs : Fields) → fs ≡ gs → is_eq (fields_order fs gs) ≡ true
fields_itself fs gs e = ap (λ hs. is_eq (fields_order fs hs)) (sym e) ∙ ap is_eq (fields_tie_themselves fs)

pub type_itself : (a b : Ty) → a ≡ b → is_eq (ty_order a b) ≡ true
type_itself a b e = ap (λ c. is_eq (ty_order a c)) (sym e) ∙ ap is_eq (tied_itself ty_order_total a)

-- ---- a type, by its kind
pub a_relation_type : (ty : Ty) (h : Header) → kind_of ty ≡ kind.Relation h → (fs : Fields) × (ty ≡ relation_type fs) × (header_of fs ≡ h)
a_relation_type boolean_type h e = cc
a_relation_type integer_type h e = cc
a_relation_type char_type h e = cc
a_relation_type (user_type n) h e = cc
a_relation_type (tuple_type fs) h e = cc
a_relation_type (relation_type fs) h e = (fs, refl, kinds.some_same (header_of fs) h (ap relation_heading e))

pub a_tuple_type : (ty : Ty) (h : Header) → kind_of ty ≡ kind.Tuple h → (fs : Fields) × (ty ≡ tuple_type fs) × (header_of fs ≡ h)
a_tuple_type boolean_type h e = cc
a_tuple_type integer_type h e = cc
a_tuple_type char_type h e = cc
a_tuple_type (user_type n) h e = cc
a_tuple_type (tuple_type fs) h e = (fs, refl, kinds.some_same (header_of fs) h (ap tuple_heading e))
a_tuple_type (relation_type fs) h e = cc

-- ---- one operand
-- a relation of pairs
pub record IsOfPairs (j k : TypeKind) : Type 0 where
  pub heading : Header
  pub operand : j ≡ kind.Relation heading
  pub pairs : operators.are_of_one_type (by_name.entries heading) ≡ true
  pub result : kind.Relation heading ≡ k

pub closes : (j k : TypeKind) → closed_kind j ≡ Some k → IsOfPairs j k
unfolding closed_kind
closes j k e =
    let p = inverted (relation_heading j) (λ h. where_true (operators.are_of_one_type (by_name.entries h)) (kind.Relation h)) k e in
    let q = passed (operators.are_of_one_type (by_name.entries p.0)) (kind.Relation p.0) k p.2 in
    record { heading = p.0; operand = kinds.relation j p.0 p.1; pairs = q.0; result = q.1 }

-- ---- two operands
-- two relations, of whose headings a test is true
pub record OfRelations (i j k : TypeKind) (test : Header → Header → Bool) (made : Header → Header → TypeKind) : Type 0 where
  pub first : Header
  pub second : Header
  pub left : i ≡ kind.Relation first
  pub right : j ≡ kind.Relation second
  pub tested : test first second ≡ true
  pub result : made first second ≡ k

-- a tuple and a relation
pub record OfMember (i j k : TypeKind) : Type 0 where
  pub first : Header
  pub second : Header
  pub left : i ≡ kind.Tuple first
  pub right : j ≡ kind.Relation second
  pub result : kind.Boolean ≡ k

-- two integers, two texts, or two relations of one heading
pub data IsOrdered (i j k : TypeKind) : Type 0 where
  integers : i ≡ kind.Integer → j ≡ kind.Integer → kind.Boolean ≡ k → IsOrdered i j k
  characters : i ≡ kind.Char → j ≡ kind.Char → kind.Boolean ≡ k → IsOrdered i j k
  sets : OfRelations i j k same_heading (λ g h. kind.Boolean) → IsOrdered i j k

module _ (i j k : TypeKind) where
  pub truths : truth_kind i j ≡ Some k → (i ≡ kind.Boolean) × (j ≡ kind.Boolean) × (kind.Boolean ≡ k)
  unfolding truth_kind
  truths e =
      let p = passed (is_boolean i && is_boolean j) kind.Boolean k e in
      let b = both_true (is_boolean i) (is_boolean j) p.0 in
      (kinds.boolean i b.0, kinds.boolean j b.1, p.1)

  pub numbers : number_kind i j ≡ Some k → (i ≡ kind.Integer) × (j ≡ kind.Integer) × (kind.Integer ≡ k)
  unfolding number_kind
  numbers e =
      let p = passed (is_integer i && is_integer j) kind.Integer k e in
      let b = both_true (is_integer i) (is_integer j) p.0 in
      (integer_kind i b.0, integer_kind j b.1, p.1)

  pub texts : text_kind i j ≡ Some k → (i ≡ kind.Char) × (j ≡ kind.Char) × (kind.Char ≡ k)
  unfolding text_kind
  texts e =
      let p = passed (is_char i && is_char j) kind.Char k e in
      let b = both_true (is_char i) (is_char j) p.0 in
      (char_kind i b.0, char_kind j b.1, p.1)

  pub equals : equal_kind i j ≡ Some k → kind.Boolean ≡ k
  unfolding equal_kind
  equals e = (passed (same_kind i j) kind.Boolean k e).1

  relations : (test : Header → Header → Bool) (made : Header → Header → TypeKind) → of_headings i j (λ g h. where_true (test g h) (made g h)) ≡ Some k → OfRelations i j k test made
  relations test made e =
      let p = inverted (relation_heading i) (λ g. where_some (relation_heading j) (λ h. where_true (test g h) (made g h))) k e in
      let q = inverted (relation_heading j) (λ h. where_true (test p.0 h) (made p.0 h)) k p.2 in
      let r = passed (test p.0 q.0) (made p.0 q.0) k q.2 in
      record { first = p.0; second = q.0; left = kinds.relation i p.0 p.1; right = kinds.relation j q.0 q.1; tested = r.0; result = r.1 }

  pub joins : joined_kind i j ≡ Some k → OfRelations i j k agree_on_types (λ g h. kind.Relation (joined g h))
  unfolding joined_kind
  joins e = relations agree_on_types (λ g h. kind.Relation (joined g h)) e

  pub composes : composed_kind i j ≡ Some k → OfRelations i j k agree_on_types (λ g h. kind.Relation (composed_columns g h))
  unfolding composed_kind
  composes e = relations agree_on_types (λ g h. kind.Relation (composed_columns g h)) e

  pub matches : matched_kind i j ≡ Some k → OfRelations i j k agree_on_types (λ g h. kind.Relation g)
  unfolding matched_kind
  matches e = relations agree_on_types (λ g h. kind.Relation g) e

  pub unites : united_kind i j ≡ Some k → OfRelations i j k same_heading (λ g h. kind.Relation g)
  unfolding united_kind
  unites e = relations same_heading (λ g h. kind.Relation g) e

  pub compares : compared_kind i j ≡ Some k → OfRelations i j k same_heading (λ g h. kind.Boolean)
  unfolding compared_kind
  compares e = relations same_heading (λ g h. kind.Boolean) e

  pub belongs : member_kind i j ≡ Some k → OfMember i j k
  unfolding member_kind
  belongs e =
      let p = inverted (tuple_heading i) (λ g. where_some (relation_heading j) (λ h. where_true (same_heading g h) kind.Boolean)) k e in
      let q = inverted (relation_heading j) (λ h. where_true (same_heading p.0 h) kind.Boolean) k p.2 in
      let r = passed (same_heading p.0 q.0) kind.Boolean k q.2 in
      record { first = p.0; second = q.0; left = tuple_kind i p.0 p.1; right = kinds.relation j q.0 q.1; result = r.1 }

  one_of : (a b : Bool) → (a ≡ true → (i ≡ kind.Integer) × (j ≡ kind.Integer)) → (b ≡ true → (i ≡ kind.Char) × (j ≡ kind.Char)) → (if a || b then Some kind.Boolean else compared_kind i j) ≡ Some k → IsOrdered i j k
  one_of true b f g e = let p = f refl in integers p.0 p.1 (kinds.some_same kind.Boolean k e)
  one_of false true f g e = let p = g refl in characters p.0 p.1 (kinds.some_same kind.Boolean k e)
  one_of false false f g e = sets (compares e)

  pub orders : ordered_kind i j ≡ Some k → IsOrdered i j k
  unfolding ordered_kind
  orders e = one_of (is_integer i && is_integer j) (is_char i && is_char j)
      (λ t. let b = both_true (is_integer i) (is_integer j) t in (integer_kind i b.0, integer_kind j b.1))
      (λ t. let b = both_true (is_char i) (is_char j) t in (char_kind i b.0, char_kind j b.1))
      e
