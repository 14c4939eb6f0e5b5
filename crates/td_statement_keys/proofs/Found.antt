-- What is found by a key.
use Rattle.std.proofs.Common.{◌≡◌, ◌∙◌, ℕ, ◌+◌, ◌-◌, ◌<◌, Bool, true, false, cond, List, [], ◌∷◌, length, take, get_or, filter, find, reverse, ◌==◌, Option, Some, None, refl, sym, subst, arith, eqb-true}
use Rattle.std.specs.List.{All, Contains}
use Rattle.std.proofs.lemmas.Bool.{and_parts}
use Rattle.std.proofs.lemmas.List.{get_or-reverse, length-reverse}
use Rattle.std.proofs.lemmas.List.Elements.{All-contains_itself, All-filter, All-head, All-tail, All-take, filter_passes}
use Rattle.td_stamps.specs.declared.entry.Entry.{Entry}
use Rattle.td_statement_keys.specs.Keys.{has_prefix, is_keyed_text, is_own_keyed, key_comment, most_keyed}
use Rattle.td_statement_keys.specs.Laws.{FoundAreHeld}

module _ {X : Type 0} (P : X → Type 0) where
  All-reverse : (xs : List X) → All P xs → All P (reverse xs)
  All-reverse xs each = λ k d within.
      let inside : k < length xs = omega (arith, length-reverse xs) in
      subst P (sym (get_or-reverse xs k d inside)) (each (length xs - 1 - k) d (omega arith))

  -- what is found is as each is, and passes
  found_is : (p : X → Bool) (xs : List X) (e : X) → All P xs → find p xs ≡ Some e → P e × (p e ≡ true)
  found_is p [] e each found = absurd (let none : None ≡ Some e = found in cc)
  found_is p (x ∷ xs) e each found =
      elim (p x) as (λ b. p x ≡ b → cond b (Some x) (find p xs) ≡ Some e → P e × (p e ≡ true)) [
        | true ↦ λ passes here.
            let same : x ≡ e = cc in
            (subst P same (All-head P x xs each), subst (λ y. p y ≡ true) same passes)
        | false ↦ λ fails later. found_is p xs e (All-tail P x xs each) later
      ] refl found

own : (site : ℕ) (e : Entry) → is_own_keyed site e ≡ true → e.site ≡ site
own site e passes = eqb-true e.site site (and_parts (e.site == site) (is_keyed_text e.text) passes).0

pub found_are_held : FoundAreHeld
found_are_held site key es e found =
    let q = is_own_keyed site in
    let P : Entry → Type 0 = λ x. Contains es x × (q x ≡ true) in
    let held = All-filter q (Contains es) (reverse es) (All-reverse (Contains es) es (All-contains_itself es)) in
    let passes = filter_passes q (reverse es) in
    let each : All P (filter q (reverse es)) = λ k d within. (held k d within, passes k d within) in
    let is = found_is P (λ x. has_prefix (key_comment key) x.text) (take most_keyed (filter q (reverse es))) e (All-take P most_keyed (filter q (reverse es)) each) found in
    (is.0.0, own site e is.0.1, is.1)
