-- What a value is, by its type.
use Rattle.std.proofs.Common.{◌≡◌, ℕ, ℤ, Bool, List, refl}
use Rattle.td_values.specs.Data.{boolean_type, integer_type, char_type, user_type, tuple_type, relation_type, Fields, PossrepData, Datum, boolean, integer, char, user, tuple, relation, Items, Attrs, Tuples}
use Rattle.td_values.specs.Whole.{type_of, heading_of}

pub a_truth : (d : Datum) → type_of d ≡ boolean_type → (b : Bool) × (d ≡ boolean b)
a_truth (boolean b) e = (b, refl)
a_truth (integer n) e = absurd (cc)
a_truth (char x) e = absurd (cc)
a_truth (user p is) e = absurd (cc)
a_truth (tuple t) e = absurd (cc)
a_truth (relation fs ts) e = absurd (cc)

pub an_integer : (d : Datum) → type_of d ≡ integer_type → (n : ℤ) × (d ≡ integer n)
an_integer (boolean b) e = absurd (cc)
an_integer (integer n) e = (n, refl)
an_integer (char x) e = absurd (cc)
an_integer (user p is) e = absurd (cc)
an_integer (tuple t) e = absurd (cc)
an_integer (relation fs ts) e = absurd (cc)

pub a_text : (d : Datum) → type_of d ≡ char_type → (x : List ℕ) × (d ≡ char x)
a_text (boolean b) e = absurd (cc)
a_text (integer n) e = absurd (cc)
a_text (char x) e = (x, refl)
a_text (user p is) e = absurd (cc)
a_text (tuple t) e = absurd (cc)
a_text (relation fs ts) e = absurd (cc)

pub a_user_value : (d : Datum) (n : List ℕ) → type_of d ≡ user_type n → (p : PossrepData) × (is : Items) × (d ≡ user p is) × (p.ty ≡ n)
a_user_value (boolean b) n e = absurd (cc)
a_user_value (integer z) n e = absurd (cc)
a_user_value (char x) n e = absurd (cc)
a_user_value (user p is) n e = (p, is, refl, (cc))
a_user_value (tuple t) n e = absurd (cc)
a_user_value (relation fs ts) n e = absurd (cc)

pub a_tuple : (d : Datum) (hs : Fields) → type_of d ≡ tuple_type hs → (t : Attrs) × (d ≡ tuple t) × (heading_of t ≡ hs)
a_tuple (boolean b) hs e = absurd (cc)
a_tuple (integer n) hs e = absurd (cc)
a_tuple (char x) hs e = absurd (cc)
a_tuple (user p is) hs e = absurd (cc)
a_tuple (tuple t) hs e = (t, refl, (cc))
a_tuple (relation fs ts) hs e = absurd (cc)

pub a_relation : (d : Datum) (hs : Fields) → type_of d ≡ relation_type hs → (fs : Fields) × (ts : Tuples) × (d ≡ relation fs ts) × (fs ≡ hs)
a_relation (boolean b) hs e = absurd (cc)
a_relation (integer n) hs e = absurd (cc)
a_relation (char x) hs e = absurd (cc)
a_relation (user p is) hs e = absurd (cc)
a_relation (tuple t) hs e = absurd (cc)
a_relation (relation fs ts) hs e = (fs, ts, refl, (cc))
