-- What a site takes of a prefix of what another one sends.
use Rattle.std.proofs.Common.{◌≡◌, ℕ, zero, suc, Bool, true, false, not, ◌&&◌, cond, List, [], ◌∷◌, ◌++◌}
use Rattle.std.proofs.Common.{length, take, drop, refl, sym, ap, subst, ◌∙◌, append_assoc}
use mathlib.Core.Bool.{false≢true}
use Rattle.std.specs.List.{filter, list_all}
use Rattle.std.proofs.lemmas.List.{take-append-drop}
use Rattle.td_stamps.specs.Sets.{apart, has, is_set}
use Rattle.td_stamps.specs.Vectors.{HasCounted, VersionVector, after_vector, lacks}
use Rattle.td_stamps.specs.declared.entry.Entry.{Entry}
use Rattle.td_stamps.proofs.Merges.{has-append_right, head_has}
use Rattle.td_stamps.proofs.SetLemmas.{first_holds, rest_holds}
use Rattle.td_checked_meetings.specs.Scopes.{in_sequence, is_in_scope, is_left_out, of_others, sent, taken}
use Rattle.td_checked_meetings.proofs.Joining.{AreSeen, IsFilled, at_most_next, filled, must_follow, seen_more}
use Rattle.td_checked_meetings.proofs.Joining.{set-filter}
use Rattle.td_checked_meetings.proofs.Sequences.{in_step}
use Rattle.td_checked_meetings.proofs.Staying.{of_sent}

-- what passes a test of a prefix is a prefix of what passes it
filter_prefix : (p : Entry → Bool) (n : ℕ) (xs : List Entry)
    → filter p (take n xs) ≡ take (length (filter p (take n xs))) (filter p xs)
filter_prefix p zero xs = refl
filter_prefix p (suc n) [] = refl
filter_prefix p (suc n) (x ∷ xs) =
    let some = filter p (take n xs) in
    let all = filter p xs in
    let rest = filter_prefix p n xs in
    elim (p x) as (λ b. cond b (x ∷ some) some ≡ take (length (cond b (x ∷ some) some)) (cond b (x ∷ all) all)) [
      | true ↦ ap (λ (l : List Entry). x ∷ l) rest
      | false ↦ rest
    ]

-- two tests, one after the other
filter_both : (p q : Entry → Bool) (xs : List Entry) → filter q (filter p xs) ≡ filter (λ x. p x && q x) xs
filter_both p q [] = refl
filter_both p q (x ∷ xs) =
    let rest = filter_both p q xs in
    let some = filter p xs in
    let both = filter (λ y. p y && q y) xs in
    elim (p x) as (λ b. filter q (cond b (x ∷ some) some) ≡ cond (b && q x) (x ∷ both) both) [
      | true ↦ ap (λ (l : List Entry). cond (q x) (x ∷ l) l) rest
      | false ↦ rest
    ]

-- a list in which no number is missing, and a prefix of what is left of it: each entry of that follows
all_in_sequence : (v : VersionVector) (all done rest behind : List Entry)
    → ((y : Entry) → has all y ≡ true → IsFilled v y.site all) → all ≡ done ++ (rest ++ behind)
    → is_set (rest ++ behind) ≡ true → ((site : ℕ) → AreSeen site done done) → in_sequence v done rest ≡ rest
unfolding in_sequence
all_in_sequence v all done [] behind filled split set seen = refl
all_in_sequence v all done (y ∷ ys) behind filled split set seen =
    let apart_all = first_holds (list_all (apart y) (ys ++ behind)) (is_set (ys ++ behind)) set in
    let later_set = rest_holds (list_all (apart y) (ys ++ behind)) (is_set (ys ++ behind)) set in
    let there = has-append_right done (y ∷ ys ++ behind) y (head_has y (ys ++ behind)) in
    let here : has all y ≡ true = subst (λ (l : List Entry). has l y ≡ true) (sym split) there in
    let fill = filled y here in
    let next = at_most_next v y.site all done done y (ys ++ behind) fill split apart_all (seen y.site) refl in
    let does = must_follow v y.site done y refl next in
    let further : all ≡ (done ++ y ∷ []) ++ (ys ++ behind) = split ∙ sym (append_assoc done (y ∷ []) (ys ++ behind)) in
    let more = λ (site : ℕ). seen_more site done done y (seen site) in
    in_step v done y ys true does
    ∙ ap (λ (l : List Entry). y ∷ l) (all_in_sequence v all (done ++ y ∷ []) ys behind filled further later_set more)

module _ (kept left : List ℕ) (own v : VersionVector) (xs : List Entry) (set : is_set xs ≡ true)
    (counted : HasCounted xs own) (n : ℕ) where
  -- what comes of sites that are not left out
  abbrev come : List Entry
  come = of_others kept (sent left own v xs)

  come_set : is_set come ≡ true
  come_set =
      let sent_set = set-filter (is_in_scope left own) (filter (lacks v) xs) (set-filter (lacks v) xs set) in
      set-filter (λ x. not (is_left_out kept x)) (sent left own v xs) sent_set

  come_filled : (y : Entry) → has come y ≡ true → IsFilled v y.site come
  come_filled y here =
      let m = of_sent kept left own v xs y here in
      filled kept left own v xs y.site m.taken_here m.sent_there (counted y.site)

  -- how many of the prefix are taken
  abbrev pub prefix_count : ℕ
  prefix_count = length (of_others kept (take n (sent left own v xs)))

  -- all that come of it are taken
  pub taken_all : taken kept v (take n (sent left own v xs)) ≡ of_others kept (take n (sent left own v xs))
  taken_all =
      let parted : come ≡ take prefix_count come ++ drop prefix_count come = sym (take-append-drop prefix_count come) in
      let parts_set = subst (λ (l : List Entry). is_set l ≡ true) parted come_set in
      let prefix = filter_prefix (λ e. not (is_left_out kept e)) n (sent left own v xs) in
      let front = take prefix_count come in
      let whole = all_in_sequence v come [] front (drop prefix_count come) come_filled parted parts_set
      (λ site k none. absurd (false≢true none)) in
      ap (in_sequence v []) prefix ∙ whole ∙ sym prefix

  -- they are a prefix of those entries that both exchange
  pub taken_prefix : taken kept v (take n (sent left own v xs))
      ≡ take prefix_count (filter (λ e. is_in_scope left own e && not (is_left_out kept e)) (after_vector v xs))
  taken_prefix =
      taken_all ∙ filter_prefix (λ e. not (is_left_out kept e)) n (sent left own v xs)
      ∙ ap (take prefix_count)
      (filter_both (is_in_scope left own) (λ e. not (is_left_out kept e)) (after_vector v xs))
