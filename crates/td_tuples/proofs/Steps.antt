-- Steps of walks that build maps.
use Rattle.std.proofs.Common.{◌≡◌, ℕ, suc, ◌+◌, ◌<◌, drop, drop-cons, add-one, Bool, true, false, not, cond, List, [], ◌∷◌, ◌++◌, map, length, get_or, take, Bor, Option, None, Some, is_some, refl, sym, ap, ◌∙◌, append_assoc}
use Rattle.std.specs.FinMap as by_name
use Rattle.std.specs.FinMap.Entries.{where_key}
use Rattle.std.specs.Option.{option_copied}
use Rattle.std.specs.Ordering.{eq_by_cmp}
use Rattle.std.proofs.lemmas.List.{take_more, map-append, append-nil}
use Rattle.td_values.specs.Order.{text_cmp}
use Rattle.td_tuples.proofs.Lists.{from_entries-push, where-push}

module _ {X : Type 0} where
  -- the map of es, with the entry x if its name is new
  pub added : (es : List (List ℕ × X)) (x : List ℕ × X) (k : List ℕ) (v : X) (b : Bool) (m n : by_name.FinMap text_cmp X) → k ≡ x.0 → v ≡ x.1 → m ≡ by_name.from_entries es → b ≡ not (by_name.contains_key m k) → n ≡ cond b (by_name.insert m k v) m → n ≡ by_name.from_entries (es ++ x ∷ [])
  added es x k v b m n p q e f g =
      g ∙ ap (λ c. cond c (by_name.insert m k v) m) f
      ∙ (λ i. cond (not (by_name.contains_key (e i) (p i))) (by_name.insert (e i) (p i) (q i)) (e i))
      ∙ sym (from_entries-push es x.0 x.1)

  pub taken : (es : List (List ℕ × X)) (i : ℕ) (x : List ℕ × X) → i < length es → x ≡ get_or es i x → take (i + 1) es ≡ take i es ++ x ∷ []
  taken es i x lt is = take_more es i x lt ∙ ap (λ w. take i es ++ w ∷ []) (sym is)

  module _ (es : List (List ℕ × X)) (i : ℕ) (x : List ℕ × X) (lt : i < length es) (is : x ≡ get_or es i x) where
    pub taken_after : (fs : List (List ℕ × X)) → (fs ++ take i es) ++ x ∷ [] ≡ fs ++ take (i + 1) es
    taken_after fs = append_assoc fs (take i es) (x ∷ []) ∙ ap (λ w. fs ++ w) (sym (taken es i x lt is))

    pub taken_map : (f : List ℕ × X → List ℕ × X) → map f (take i es) ++ f x ∷ [] ≡ map f (take (i + 1) es)
    taken_map f = sym (ap (map f) (taken es i x lt is) ∙ map-append f (take i es) (x ∷ []))

    pub taken_where : (p : List ℕ → Bool) → p x.0 ≡ true → where_key text_cmp p (take i es) ++ x ∷ [] ≡ where_key text_cmp p (take (i + 1) es)
    taken_where p e = sym (ap (where_key text_cmp p) (taken es i x lt is) ∙ where-push p (take i es) x ∙ ap (λ b. where_key text_cmp p (take i es) ++ cond b (x ∷ []) []) e)

    pub passed_where : (p : List ℕ → Bool) → p x.0 ≡ false → where_key text_cmp p (take i es) ≡ where_key text_cmp p (take (i + 1) es)
    passed_where p e = sym (ap (where_key text_cmp p) (taken es i x lt is) ∙ where-push p (take i es) x ∙ ap (λ b. where_key text_cmp p (take i es) ++ cond b (x ∷ []) []) e ∙ append-nil _)

-- ---- a search for a name
pub looked_at : {X : Type 0} (n : List ℕ) (es : List (List ℕ × X)) (i : ℕ) (x : List ℕ × X) → i < length es → x ≡ get_or es i x → by_name.find text_cmp n (drop i es) ≡ cond (eq_by_cmp text_cmp n x.0) (Some x.1) (by_name.find text_cmp n (drop (i + 1) es))
looked_at n es i x lt is = ap (by_name.find text_cmp n) (opened es i x lt is)
  where
    opened : {Y : Type 0} (ys : List Y) (j : ℕ) (y : Y) → j < length ys → y ≡ get_or ys j y → drop j ys ≡ y ∷ drop (j + 1) ys
    opened ys j y p q = rw add-one (drop-cons ys j y p ∙ ap (λ w. w ∷ drop (suc j) ys) (sym q))

-- an answer that is lent is there where the answer is
pub some_copied : {X : Type 0} (o : Option (Bor X)) → is_some o ≡ is_some (option_copied o)
some_copied None = refl
some_copied (Some x) = refl
