-- Lists of names with values, and finite maps made of them.
use Rattle.std.proofs.Common.{◌≡◌, ℕ, Bool, true, false, not, ◌&&◌, T, cond, List, [], ◌∷◌, ◌++◌, map, length, Option, None, Some, is_some, refl, sym, ap, ◌∙◌}
use Rattle.std.specs.declared.cmp.Ordering.TheVariants.{Less, Equal, Greater}
use Rattle.std.specs.FinMap as by_name
use Rattle.std.specs.FinMap.Entries.{where_key, below_all, by_order, find-where_key, is_sorted-where_key, same_entries}
use Rattle.std.specs.Ordering.{eq_by_cmp, is_eq, is_lt}
use Rattle.std.proofs.lemmas.Map.Lookups.{exact_bytes}
use Rattle.std.specs.Option.{option_map}
use Rattle.td_values.specs.Order.{text_cmp}
use Rattle.td_values.specs.TextOrder.{text_total}
use Rattle.td_tuples.specs.Parts.{is_in}

pub same_name : by_name.IsAntisymmetric text_cmp
same_name m n e = exact_bytes m n e

alike : (p : List ℕ → Bool) (q x : List ℕ) → text_cmp q x ≡ Equal → p x ≡ p q
alike p q x e = ap p (sym (same_name q x e))

-- the first of two answers
abbrev pub or_else : {X : Type 0} → Option X → Option X → Option X
or_else None y = y
or_else (Some x) y = Some x

module _ {X : Type 0} where
  some_or : (b : Bool) (x : X) (o : Option X) → cond b (Some x) o ≡ or_else (cond b (Some x) None) o
  some_or true x o = refl
  some_or false x o = refl

  pub find-append : (xs ys : List (List ℕ × X)) (n : List ℕ) → by_name.find text_cmp n (xs ++ ys) ≡ or_else (by_name.find text_cmp n xs) (by_name.find text_cmp n ys)
  find-append [] ys n = refl
  find-append (x ∷ xs) ys n = elim (eq_by_cmp text_cmp n x.0) as (λ b. cond b (Some x.1) (by_name.find text_cmp n (xs ++ ys)) ≡ or_else (cond b (Some x.1) (by_name.find text_cmp n xs)) (by_name.find text_cmp n ys)) [
    | true ↦ refl
    | false ↦ find-append xs ys n
  ]

  none_after : (o p : Option X) → is_some o ≡ true → or_else o p ≡ o
  none_after None p e = cc
  none_after (Some x) p e = refl

  -- with an entry more at the end
  pub from_entries-push : (es : List (List ℕ × X)) (k : List ℕ) (v : X) → by_name.from_entries {R = text_cmp} (es ++ (k, v) ∷ []) ≡ cond (not (by_name.contains_key (by_name.from_entries {R = text_cmp} es) k)) (by_name.insert (by_name.from_entries es) k v) (by_name.from_entries es)
  from_entries-push es k v =
      let m : by_name.FinMap text_cmp X = by_name.from_entries es in
      let here = by_name.get-from_entries text_total es k in
      elim (by_name.find text_cmp k es) as (λ (o : Option X). by_name.find text_cmp k es ≡ o → by_name.from_entries {R = text_cmp} (es ++ (k, v) ∷ []) ≡ cond (not (is_some o)) (by_name.insert m k v) m) [
        | None ↦ λ e. by_name.from_entries_push text_total same_name es k v e
        | Some x ↦ λ e. by_name.same_map text_total same_name _ _ (λ q.
            by_name.get-from_entries text_total _ q ∙ find-append es ((k, v) ∷ []) q ∙ kept es k v q e ∙ sym (by_name.get-from_entries text_total es q))
      ] refl ∙ ap (λ (o : Option X). cond (not (is_some o)) (by_name.insert m k v) m) (sym here)
    where
      kept : (es : List (List ℕ × X)) (k : List ℕ) (v : X) (q : List ℕ) {x : X} → by_name.find text_cmp k es ≡ Some x → or_else (by_name.find text_cmp q es) (cond (eq_by_cmp text_cmp q k) (Some v) None) ≡ by_name.find text_cmp q es
      kept es k v q {x} e =
          elim (text_cmp q k) as (λ r. text_cmp q k ≡ r → or_else (by_name.find text_cmp q es) (cond (is_eq r) (Some v) None) ≡ by_name.find text_cmp q es) [
            | Less ↦ λ _. or_none (by_name.find text_cmp q es)
            | Equal ↦ λ t. none_after (by_name.find text_cmp q es) (Some v) (ap (λ m. is_some (by_name.find text_cmp m es)) (same_name q k t) ∙ ap is_some e)
            | Greater ↦ λ _. or_none (by_name.find text_cmp q es)
          ] refl
        where
          or_none : (o : Option X) → or_else o None ≡ o
          or_none None = refl
          or_none (Some y) = refl

  -- a map is made of its entries
  pub from_entries-entries : (m : by_name.FinMap text_cmp X) → by_name.from_entries (by_name.entries m) ≡ m
  from_entries-entries m = by_name.same_map text_total same_name _ _ (λ q. by_name.get-from_entries text_total (by_name.entries m) q ∙ sym (by_name.get-entries m q))

  pub get-retain : (m : by_name.FinMap text_cmp X) (p : List ℕ → Bool) (q : List ℕ) → by_name.get (by_name.retain_keys m p) q ≡ cond (p q) (by_name.get m q) None
  get-retain m p q = by_name.get-retain_keys m p q (alike p q)

  pub find-where : (p : List ℕ → Bool) (es : List (List ℕ × X)) (q : List ℕ) → by_name.find text_cmp q (where_key text_cmp p es) ≡ cond (p q) (by_name.find text_cmp q es) None
  find-where p es q = find-where_key text_cmp p q (alike p q) es

  -- the part of a map is made of the entries that pass
  pub from_entries-where : (p : List ℕ → Bool) (m : by_name.FinMap text_cmp X) → by_name.from_entries (where_key text_cmp p (by_name.entries m)) ≡ by_name.retain_keys m p
  from_entries-where p m = by_name.same_map text_total same_name _ _ (λ q.
      by_name.get-from_entries text_total _ q ∙ find-where p (by_name.entries m) q
      ∙ ap (λ o. cond (p q) o None) (sym (by_name.get-entries m q)) ∙ sym (get-retain m p q))

  -- entries in order are those of the map that they make
  pub entries-from_entries : (es : List (List ℕ × X)) → T (by_name.is_sorted text_cmp es) → by_name.entries (by_name.from_entries {R = text_cmp} es) ≡ es
  entries-from_entries es s = same_entries text_cmp text_total same_name _ es (by_name.entries_sorted (by_name.from_entries es)) s (λ q.
      sym (by_name.get-entries (by_name.from_entries es) q) ∙ by_name.get-from_entries text_total es q)

  pub entries-retain : (m : by_name.FinMap text_cmp X) (p : List ℕ → Bool) → by_name.entries (by_name.retain_keys m p) ≡ where_key text_cmp p (by_name.entries m)
  entries-retain m p = ap by_name.entries (sym (from_entries-where p m)) ∙ entries-from_entries _ (is_sorted-where_key text_cmp p (by_name.entries m) (by_name.entries_sorted m))

  -- a name is among a map's keys where it has a value
  pub in_keys : (m : by_name.FinMap text_cmp X) (n : List ℕ) → is_in (by_name.keys m) n ≡ is_some (by_name.get m n)
  in_keys m n = sym (by_name.contains_key-keys m n)

  -- the names of entries
  abbrev pub keys_of : List (List ℕ × X) → List (List ℕ)
  keys_of es = map (λ e. e.0) es

  -- ---- steps of walks
  pub where-push : (p : List ℕ → Bool) (es : List (List ℕ × X)) (x : List ℕ × X) → where_key text_cmp p (es ++ x ∷ []) ≡ where_key text_cmp p es ++ cond (p x.0) (x ∷ []) []
  where-push p [] x = elim (p x.0) as (λ b. cond b (x ∷ []) [] ≡ cond b (x ∷ []) []) [ true ↦ refl | false ↦ refl ]
  where-push p (e ∷ es) x = elim (p e.0) as (λ b. cond b (e ∷ where_key text_cmp p (es ++ x ∷ [])) (where_key text_cmp p (es ++ x ∷ [])) ≡ cond b (e ∷ where_key text_cmp p es) (where_key text_cmp p es) ++ cond (p x.0) (x ∷ []) []) [
    | true ↦ ap (λ r. e ∷ r) (where-push p es x)
    | false ↦ where-push p es x
  ]

-- ---- a function of each value
module _ {X Y : Type 0} (f : X → Y) where
  abbrev pub on_values : List (List ℕ × X) → List (List ℕ × Y)
  on_values xs = map (λ x. (x.0, f x.1)) xs

  below_values : (n : List ℕ) (xs : List (List ℕ × X)) → below_all text_cmp n (on_values xs) ≡ below_all text_cmp n xs
  below_values n [] = refl
  below_values n (x ∷ xs) = ap (λ b. is_lt (text_cmp n x.0) && b) (below_values n xs)

  pub sorted_values : (xs : List (List ℕ × X)) → by_name.is_sorted text_cmp (on_values xs) ≡ by_name.is_sorted text_cmp xs
  sorted_values [] = refl
  sorted_values (x ∷ xs) = λ i. below_values x.0 xs i && sorted_values xs i

  pub values_put : (n : List ℕ) (v : X) (xs : List (List ℕ × X)) → on_values (by_name.put text_cmp n v xs) ≡ by_name.put text_cmp n (f v) (on_values xs)
  values_put n v [] = refl
  values_put n v (x ∷ xs) = elim (text_cmp n x.0) as (λ o. on_values (by_order o ((n, v) ∷ x ∷ xs) ((x.0, v) ∷ xs) (x ∷ by_name.put text_cmp n v xs)) ≡ by_order o ((n, f v) ∷ (x.0, f x.1) ∷ on_values xs) ((x.0, f v) ∷ on_values xs) ((x.0, f x.1) ∷ by_name.put text_cmp n (f v) (on_values xs))) [
    | Less ↦ refl
    | Equal ↦ refl
    | Greater ↦ ap (λ r. (x.0, f x.1) ∷ r) (values_put n v xs)
  ]

  pub values_append : (xs ys : List (List ℕ × X)) → on_values (xs ++ ys) ≡ on_values xs ++ on_values ys
  values_append [] ys = refl
  values_append (x ∷ xs) ys = ap (λ r. (x.0, f x.1) ∷ r) (values_append xs ys)

  pub values_where : (p : List ℕ → Bool) (xs : List (List ℕ × X)) → on_values (where_key text_cmp p xs) ≡ where_key text_cmp p (on_values xs)
  values_where p [] = refl
  values_where p (x ∷ xs) = elim (p x.0) as (λ b. on_values (cond b (x ∷ where_key text_cmp p xs) (where_key text_cmp p xs)) ≡ cond b ((x.0, f x.1) ∷ where_key text_cmp p (on_values xs)) (where_key text_cmp p (on_values xs))) [
    | true ↦ ap (λ r. (x.0, f x.1) ∷ r) (values_where p xs)
    | false ↦ values_where p xs
  ]

  pub values_from_entries : (xs : List (List ℕ × X)) → on_values (by_name.entries (by_name.from_entries {R = text_cmp} xs)) ≡ by_name.entries (by_name.from_entries {R = text_cmp} (on_values xs))
  values_from_entries [] = ap on_values (no_entries X) ∙ sym (no_entries Y)
    where
      no_entries : (Z : Type 0) → by_name.entries (by_name.empty {X = Z} {R = text_cmp}) ≡ []
      no_entries Z = no_length (by_name.entries (by_name.empty {X = Z} {R = text_cmp})) (sym (by_name.len-entries (by_name.empty {X = Z} {R = text_cmp})) ∙ by_name.len-empty text_cmp Z)
        where
          no_length : (es : List (List ℕ × Z)) → length es ≡ 0 → es ≡ []
          no_length [] e = refl
          no_length (x ∷ es) e = cc
  values_from_entries (x ∷ xs) =
      ap on_values (by_name.entries-insert text_total (by_name.from_entries xs) x.0 x.1)
      ∙ values_put x.0 x.1 (by_name.entries (by_name.from_entries xs))
      ∙ ap (by_name.put text_cmp x.0 (f x.1)) (values_from_entries xs)
      ∙ sym (by_name.entries-insert text_total (by_name.from_entries (on_values xs)) x.0 (f x.1))

  pub find_values : (n : List ℕ) (xs : List (List ℕ × X)) → is_some (by_name.find text_cmp n (on_values xs)) ≡ is_some (by_name.find text_cmp n xs)
  find_values n [] = refl
  find_values n (x ∷ xs) = elim (eq_by_cmp text_cmp n x.0) as (λ b. is_some (cond b (Some (f x.1)) (by_name.find text_cmp n (on_values xs))) ≡ is_some (cond b (Some x.1) (by_name.find text_cmp n xs))) [ true ↦ refl | false ↦ find_values n xs ]

  pub find-values : (n : List ℕ) (xs : List (List ℕ × X)) → by_name.find text_cmp n (on_values xs) ≡ option_map f (by_name.find text_cmp n xs)
  find-values n [] = refl
  find-values n (x ∷ xs) = elim (eq_by_cmp text_cmp n x.0) as (λ b. cond b (Some (f x.1)) (by_name.find text_cmp n (on_values xs)) ≡ option_map f (cond b (Some x.1) (by_name.find text_cmp n xs))) [ true ↦ refl | false ↦ find-values n xs ]
