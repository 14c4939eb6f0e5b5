-- Distinct names, one after another.
use Rattle.std.proofs.Common.{◌≡◌, ℕ, suc, ◌+◌, ◌<◌, ◌≤◌, add-one, drop, drop-cons, length, get_or, Bool, true, false, not, cond, ◌&&◌, ◌||◌, List, [], ◌∷◌, ◌++◌, refl, sym, ap, ◌∙◌}
use Rattle.std.specs.List.{list_any, list_all, filter}
use Rattle.std.proofs.lemmas.List.{drop_all}
use Rattle.std.specs.Ordering.{eq_by_cmp}
use Rattle.std.specs.FinMap as by_name
use Rattle.std.specs.FinMap.Entries.{where_key}
use Rattle.td_values.specs.Data.{Ty}
use Rattle.td_values.specs.Headings.{Header}
use Rattle.td_values.specs.Order.{text_cmp}
use Rattle.td_values.specs.TextOrder.{text_equivalence}
use Rattle.td_tuples.specs.Parts.{is_in, is_out, names_of, columns_out}
use Rattle.td_tuples.proofs.Lists.{entries-retain, keys_of}
use Rattle.td_schema.specs.Kinds.{Name}
use Rattle.td_schema.specs.Lists.{are_distinct}

-- none of the names is one of those before it, or one that was seen
abbrev pub distinct_after : List Name → List Name → Bool
distinct_after seen [] = true
distinct_after seen (n ∷ ns) = not (is_in seen n) && distinct_after (seen ++ n ∷ []) ns

any-push : (p : Name → Bool) (s : List Name) (n : Name) → list_any p (s ++ n ∷ []) ≡ list_any p s || p n
any-push p [] n = or_false (p n)
  where
    or_false : (b : Bool) → b || false ≡ b
    or_false true = refl
    or_false false = refl
any-push p (m ∷ s) n = ap (λ b. p m || b) (any-push p s n) ∙ assoc (p m) (list_any p s) (p n)
  where
    assoc : (a b c : Bool) → a || (b || c) ≡ (a || b) || c
    assoc true b c = refl
    assoc false b c = refl

-- those that are not seen and not n
out-push : (s : List Name) (n : Name) (ns : List Name) → list_all (is_out (s ++ n ∷ [])) ns ≡ not (is_in ns n) && list_all (is_out s) ns
out-push s n [] = refl
out-push s n (m ∷ ns) =
    (λ i. not (any-push (eq_by_cmp text_cmp m) s n i) && out-push s n ns i)
    ∙ ap (λ b. not (is_in s m || b) && (not (is_in ns n) && list_all (is_out s) ns)) (text_equivalence.symm m n)
    ∙ mixed (is_in s m) (eq_by_cmp text_cmp n m) (is_in ns n) (list_all (is_out s) ns)
  where
    mixed : (a b c d : Bool) → not (a || b) && (not c && d) ≡ not (b || c) && (not a && d)
    mixed true true c d = refl
    mixed true false true d = refl
    mixed true false false d = refl
    mixed false true c d = refl
    mixed false false true d = refl
    mixed false false false d = refl

after : (s ns : List Name) → distinct_after s ns ≡ list_all (is_out s) ns && are_distinct ns
after s [] = refl
after s (n ∷ ns) =
    ap (λ b. not (is_in s n) && b) (after (s ++ n ∷ []) ns ∙ ap (λ b. b && are_distinct ns) (out-push s n ns))
    ∙ mixed (not (is_in s n)) (not (is_in ns n)) (list_all (is_out s) ns) (are_distinct ns)
  where
    mixed : (a b c d : Bool) → a && ((b && c) && d) ≡ (a && c) && (b && d)
    mixed true true c d = refl
    mixed true false true d = refl
    mixed true false false d = refl
    mixed false b c d = refl

all_new : (ns : List Name) → list_all (is_out []) ns ≡ true
all_new [] = refl
all_new (n ∷ ns) = all_new ns

pub from_none : (ns : List Name) → distinct_after [] ns ≡ are_distinct ns
from_none ns = after [] ns ∙ ap (λ b. b && are_distinct ns) (all_new ns)

-- the names from a place on
next : (ns : List Name) (i : ℕ) (n : Name) → i < length ns → n ≡ get_or ns i n → drop i ns ≡ n ∷ drop (i + 1) ns
next ns i n within is = rw add-one (drop-cons ns i n within ∙ ap (λ m. m ∷ drop (suc i) ns) (sym is))

-- a step of the walk whose name was not new, and its end
module _ (ns : List Name) (i : ℕ) (n : Name) (within : i < length ns) (is : n ≡ get_or ns i n) (seen : List Name) (new : Bool) (told : new ≡ not (is_in seen n)) where
  opened : drop i ns ≡ n ∷ drop (i + 1) ns
  opened = next ns i n within is

  pub stops : new ≡ false → distinct_after seen (drop i ns) ≡ false
  stops f = ap (distinct_after seen) opened ∙ ap (λ b. b && distinct_after (seen ++ n ∷ []) (drop (i + 1) ns)) (sym told ∙ f)

pub ended : (ns : List Name) (i : ℕ) (seen : List Name) → length ns ≤ i → distinct_after seen (drop i ns) ≡ true
ended ns i seen past = ap (distinct_after seen) (drop_all i ns past)

-- the names of the other columns
pub names_out : (ns : List Name) (h : Header) → names_of (columns_out ns h) ≡ filter (is_out ns) (names_of h)
names_out ns h = ap keys_of (entries-retain h (is_out ns)) ∙ passed (by_name.entries h)
  where
    passed : (es : List (Name × Ty)) → keys_of (where_key text_cmp (is_out ns) es) ≡ filter (is_out ns) (keys_of es)
    passed [] = refl
    passed (e ∷ es) = elim (is_out ns e.0) as (λ b. keys_of (cond b (e ∷ where_key text_cmp (is_out ns) es) (where_key text_cmp (is_out ns) es)) ≡ cond b (e.0 ∷ filter (is_out ns) (keys_of es)) (filter (is_out ns) (keys_of es))) [
      | true ↦ ap (λ r. e.0 ∷ r) (passed es)
      | false ↦ passed es
    ]
