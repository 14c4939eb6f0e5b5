-- Two relations, or parts of them: which tuples of the one have their values, at the names that both have, in one of
-- the other.
use Rattle.std.proofs.Common.{◌≡◌, ◌⊎◌, ⊎_elim, ◌&&◌, ℕ, Bool, true, false, cond, List, Option, Some, None, is_some, refl, ap, sym, ◌∙◌, subst, true≢false}
use Rattle.std.specs.FinMap as by_name
use Rattle.std.specs.Ordering.{eq_by_cmp}
use Rattle.td_values.specs.Data.{Attrs, no_attrs, attr}
use Rattle.td_values.specs.Headings.{Header}
use Rattle.td_values.specs.Order.{attrs_order}
use Rattle.td_values.specs.Rows.{RowsData}
use Rattle.td_tuples.specs.Parts.{Fits, columns_in, cut, is_in, names_of, where_name}
use Rattle.td_tuples.proofs.ByName.{fits_named, fits_sorted, same_part, whole_part}
use Rattle.td_tuples.proofs.Lists.{in_keys, same_name}
use Rattle.td_relations.specs.Sets.{Has}
use Rattle.td_algebra.specs.ForProofs.Index.{has_part, is_matched}
use Rattle.td_algebra.specs.Functions.{matching_of, not_matching_of, project_of}
use Rattle.td_algebra.proofs.Bridges.{minus_is, project_is}
use Rattle.td_algebra.proofs.Lists.{any_in, in_any}
use Rattle.td_algebra.proofs.Made.{has_in, in_has}
use Rattle.td_algebra.proofs.PlacedParts.{itself, same_key}
use Rattle.td_incremental.proofs.Operators.{matching_members}

-- ---- tests of names
pub and_swap : (a b : Bool) → (a && b) ≡ (b && a)
and_swap true true = refl
and_swap true false = refl
and_swap false true = refl
and_swap false false = refl

pub and_true : (a : Bool) → (a && true) ≡ a
and_true true = refl
and_true false = refl

pub absorbed : (a b : Bool) → (a ≡ true → b ≡ true) → (a && b) ≡ a
absorbed true b h = h refl
absorbed false b h = refl

pub first_true : (a b : Bool) → (a && b) ≡ true → a ≡ true
first_true true b e = refl
first_true false b e = e

pub second_true : (a b : Bool) → (a && b) ≡ true → b ≡ true
second_true true b e = e
second_true false b e = absurd (true≢false (sym e))

-- ---- parts of parts
pub where_twice : (f g : List ℕ → Bool) (t : Attrs) → where_name f (where_name g t) ≡ where_name (λ x. g x && f x) t
where_twice f g no_attrs = refl
where_twice f g (attr n d t) = by (g n) (where_twice f g t)
  where
    by : (b : Bool) → where_name f (where_name g t) ≡ where_name (λ x. g x && f x) t → where_name f (cond b (attr n d (where_name g t)) (where_name g t)) ≡ cond (b && f n) (attr n d (where_name (λ x. g x && f x) t)) (where_name (λ x. g x && f x) t)
    by true rest = λ i. cond (f n) (attr n d (rest i)) (rest i)
    by false rest = rest

-- tests that agree on the heading's names
pub same_at : (h : Header) (p q : List ℕ → Bool) → ((x : List ℕ) → is_in (names_of h) x ≡ true → p x ≡ q x) → (t : Attrs) → Fits h t → where_name p t ≡ where_name q t
same_at h p q same t f = same_part p q t (fits_sorted h t f) (λ x here. same x (fits_named h t f x ∙ here))

pub in_columns : (h : Header) (p : List ℕ → Bool) (x : List ℕ) → is_in (names_of (by_name.retain_keys h p)) x ≡ (is_in (names_of h) x && p x)
in_columns h p x =
    in_keys (by_name.retain_keys h p) x ∙ ap is_some (by_name.get-retain_keys h p x (λ y e. ap p (sym (same_name x y e))))
    ∙ kept (p x) (by_name.get h x) ∙ ap (λ b. b && p x) (sym (in_keys h x))
  where
    kept : {X : Type 0} (b : Bool) (o : Option X) → is_some (cond b o None) ≡ (is_some o && b)
    kept true o = sym (and_true (is_some o))
    kept false (Some y) = refl
    kept false None = refl

-- ---- a relation's part at the names of which p holds
pub record IsCut (p : List ℕ → Bool) (r a : RowsData) : Type 0 where
  pub names : (x : List ℕ) → is_in (names_of a.heading) x ≡ (is_in (names_of r.heading) x && p x)
  pub only : (s : Attrs) → Has a s → (t : Attrs) × Has r t × (s ≡ where_name p t)
  pub all : (t : Attrs) → Has r t → Has a (where_name p t)

pub whole_cut : (r : RowsData) → ((t : Attrs) → Has r t → Fits r.heading t) → IsCut (is_in (names_of r.heading)) r r
whole_cut r fit = record {
  names = λ x. sym (absorbed (is_in (names_of r.heading) x) (is_in (names_of r.heading) x) (λ e. e));
  only = λ s has. (s, has, sym (whole_part r.heading s (fit s has)));
  all = λ t has. subst (Has r) (sym (whole_part r.heading t (fit t has))) has;
}

pub project_cut : (ns : List (List ℕ)) (r : RowsData) → IsCut (is_in ns) r (project_of ns r)
project_cut ns r =
    let is = project_is ns r in
    record {
      names = λ x. ap (λ h. is_in (names_of h) x) is.heading ∙ in_columns r.heading (is_in ns) x;
      only = is.only;
      all = λ t has. is.all (cut ns t) (t, has, refl);
    }

-- each tuple of r has its values at the names in one of s
abbrev pub AllMeet : List (List ℕ) → RowsData → RowsData → Type 0
AllMeet q r s = (t : Attrs) → Has r t → (u : Attrs) × Has s u × (cut q u ≡ cut q t)

abbrev pub AllFit : RowsData → Type 0
AllFit r = (t : Attrs) → Has r t → Fits r.heading t

pub equal_parts : (xs : List (List ℕ)) (k t : Attrs) → cut xs t ≡ k → has_part xs k t ≡ true
equal_parts xs k t e = subst (λ z. eq_by_cmp attrs_order (cut xs t) z ≡ true) e (itself (cut xs t))

module _ (ps qs : List ℕ → Bool) (r s a b : RowsData) (one : IsCut ps r a) (other : IsCut qs s b) (q : List (List ℕ))
    (shared : (x : List ℕ) → is_in q x ≡ ((is_in (names_of r.heading) x && ps x) && (is_in (names_of s.heading) x && qs x)))
    (fit_one : AllFit r) (fit_other : AllFit s) where
  one_cut : (t : Attrs) → Has r t → cut (names_of b.heading) (where_name ps t) ≡ cut q t
  one_cut t has =
      where_twice (is_in (names_of b.heading)) ps t
      ∙ same_at r.heading (λ x. ps x && is_in (names_of b.heading) x) (is_in q) (λ x here.
      ap (λ w. ps x && w) (other.names x) ∙ ap (λ w. (w && ps x) && (is_in (names_of s.heading) x && qs x)) (sym here) ∙ sym (shared x)) t (fit_one t has)

  other_cut : (u : Attrs) → Has s u → cut (names_of a.heading) (where_name qs u) ≡ cut q u
  other_cut u has =
      where_twice (is_in (names_of a.heading)) qs u
      ∙ same_at s.heading (λ x. qs x && is_in (names_of a.heading) x) (is_in q) (λ x here.
      and_swap (qs x) (is_in (names_of a.heading) x)
      ∙ ap (λ w. w && qs x) (one.names x) ∙ ap (λ w. (is_in (names_of r.heading) x && ps x) && (w && qs x)) (sym here) ∙ sym (shared x)) u (fit_other u has)

  one_whole : (t : Attrs) → Has r t → cut (names_of a.heading) (where_name ps t) ≡ where_name ps t
  one_whole t has =
      where_twice (is_in (names_of a.heading)) ps t
      ∙ same_at r.heading (λ x. ps x && is_in (names_of a.heading) x) ps (λ x here.
      ap (λ w. ps x && w) (one.names x ∙ ap (λ w. w && ps x) here) ∙ absorbed (ps x) (ps x) (λ e. e)) t (fit_one t has)

  other_whole : (u : Attrs) → Has s u → cut (names_of b.heading) (where_name qs u) ≡ where_name qs u
  other_whole u has =
      where_twice (is_in (names_of b.heading)) qs u
      ∙ same_at s.heading (λ x. qs x && is_in (names_of b.heading) x) qs (λ x here.
      ap (λ w. qs x && w) (other.names x ∙ ap (λ w. w && qs x) here) ∙ absorbed (qs x) (qs x) (λ e. e)) u (fit_other u has)

  abbrev Found : Attrs → Type 0
  Found t = (u : Attrs) × Has s u × (cut q u ≡ cut q t)

  abbrev matches : Attrs → Bool
  matches t = is_matched a.heading b.heading b.tuples (where_name ps t)

  there : (t : Attrs) → Has r t → matches t ≡ true → Found t
  there t has e =
      let some = in_any (has_part (names_of a.heading) (cut (names_of b.heading) (where_name ps t))) b.tuples e in
      let from = other.only some.0 (in_has b some.0 some.1) in
      (from.0, from.1, sym (other_cut from.0 from.1) ∙ ap (cut (names_of a.heading)) (sym from.2) ∙ same_key _ _ some.2 ∙ one_cut t has)

  back : (t : Attrs) → Has r t → Found t → matches t ≡ true
  back t has f =
      any_in (has_part (names_of a.heading) (cut (names_of b.heading) (where_name ps t))) b.tuples (where_name qs f.0) (has_in b (where_name qs f.0) (other.all f.0 f.1))
      (equal_parts (names_of a.heading) (cut (names_of b.heading) (where_name ps t)) (where_name qs f.0) (other_cut f.0 f.1 ∙ f.2 ∙ sym (one_cut t has)))

  -- what NOT MATCHING leaves
  pub met_where_matched : ((t : Attrs) → Has (not_matching_of a b) t → ⊥) → AllMeet q r s
  unfolding not_matching_of
  met_where_matched none t has = by (matches t) refl
    where
      by : (w : Bool) → matches t ≡ w → Found t
      by true e = there t has e
      by false e = absurd (none (where_name ps t) ((minus_is a (matching_of a b)).all (where_name ps t) (one.all t has, λ m. true≢false (sym ((matching_members a b).only (where_name ps t) m).1 ∙ e))))

  pub matched_where_met : AllMeet q r s → (t : Attrs) → Has (not_matching_of a b) t → ⊥
  unfolding not_matching_of
  matched_where_met met t has =
      let left = (minus_is a (matching_of a b)).only t has in
      let from = one.only t left.0 in
      left.1 ((matching_members a b).all t (left.0, subst (λ w. is_matched a.heading b.heading b.tuples w ≡ true) (sym from.2) (back from.0 from.1 (met from.0 from.1))))

  -- being among them, where both have one heading
  module _ (same : a.heading ≡ b.heading) where
    pub met_where_within : ((t : Attrs) → Has a t → Has b t) → AllMeet q r s
    met_where_within within t has =
        let w = where_name ps t in
        there t has (any_in (has_part (names_of a.heading) (cut (names_of b.heading) w)) b.tuples w (has_in b w (within w (one.all t has)))
        (equal_parts (names_of a.heading) (cut (names_of b.heading) w) w (ap (λ h. cut (names_of h) w) same)))

    pub within_where_met : AllMeet q r s → (t : Attrs) → Has a t → Has b t
    within_where_met met t has =
        let from = one.only t has in
        let one_there = met from.0 from.1 in
        let u = one_there.0 in
        subst (Has b)
        (sym (other_whole u one_there.1)
        ∙ ap (λ h. cut (names_of h) (where_name qs u)) (sym same)
        ∙ other_cut u one_there.1 ∙ one_there.2 ∙ sym (one_cut from.0 from.1)
        ∙ ap (λ h. cut (names_of h) (where_name ps from.0)) (sym same)
        ∙ one_whole from.0 from.1 ∙ sym from.2)
        (other.all u one_there.1)

-- ---- parts that were given up
module _ (q : List (List ℕ)) (r s w parts : RowsData) (fit_one : AllFit r) (fit_before : AllFit s) (fit_now : AllFit w) (one_heading : s.heading ≡ w.heading)
    (of_one : (x : List ℕ) → is_in q x ≡ true → is_in (names_of r.heading) x ≡ true) (of_other : (x : List ℕ) → is_in q x ≡ true → is_in (names_of s.heading) x ≡ true)
    (heading : parts.heading ≡ columns_in q s.heading) (only : (p : Attrs) → Has parts p → (t : Attrs) × Has s t × (p ≡ cut q t)) where
  abbrev gone : RowsData
  gone = not_matching_of parts w

  gone_heading : gone.heading ≡ columns_in q s.heading
  unfolding not_matching_of
  gone_heading = (minus_is parts (matching_of parts w)).heading ∙ heading

  -- a part at the names is as it is
  stays : (h : Header) → ((x : List ℕ) → is_in q x ≡ true → is_in (names_of h) x ≡ true) → (p : Attrs) → Has parts p → cut (names_of h) p ≡ p
  stays h among p has =
      let from = only p has in
      ap (cut (names_of h)) from.2 ∙ where_twice (is_in (names_of h)) (is_in q) from.0
      ∙ same_at s.heading (λ x. is_in q x && is_in (names_of h) x) (is_in q) (λ x here. absorbed (is_in q x) (is_in (names_of h) x) (among x)) from.0 (fit_before from.0 from.1)
      ∙ sym from.2

  -- the names of its heading are these
  at_parts : (h k : Header) → k ≡ columns_in q s.heading → (t : Attrs) → Fits h t → cut (names_of k) t ≡ cut q t
  at_parts h k is t f = same_at h (is_in (names_of k)) (is_in q) (λ x here.
      ap (λ g. is_in (names_of g) x) is ∙ in_columns s.heading (is_in q) x ∙ and_swap (is_in (names_of s.heading) x) (is_in q x) ∙ absorbed (is_in q x) (is_in (names_of s.heading) x) (of_other x)) t f

  in_now : (x : List ℕ) → is_in q x ≡ true → is_in (names_of w.heading) x ≡ true
  in_now x e = ap (λ h. is_in (names_of h) x) (sym one_heading) ∙ of_other x e

  part_there : (p u : Attrs) → Has parts p → Has w u → cut q u ≡ p → has_part (names_of parts.heading) (cut (names_of w.heading) p) u ≡ true
  part_there p u has now e = equal_parts (names_of parts.heading) (cut (names_of w.heading) p) u (at_parts w.heading parts.heading heading u (fit_now u now) ∙ e ∙ sym (stays w.heading in_now p has))

  there_part : (p u : Attrs) → Has parts p → Has w u → has_part (names_of parts.heading) (cut (names_of w.heading) p) u ≡ true → cut q u ≡ p
  there_part p u has now e = sym (at_parts w.heading parts.heading heading u (fit_now u now)) ∙ same_key _ _ e ∙ stays w.heading in_now p has

  abbrev Lost : Attrs → Type 0
  Lost t = Has (matching_of gone r) t

  pub none_lost : AllMeet q r w → (p : Attrs) → Lost p → ⊥
  unfolding not_matching_of
  none_lost met p lost =
      let m = (matching_members gone r).only p lost in
      let left = (minus_is parts (matching_of parts w)).only p m.0 in
      let some = in_any (has_part (names_of gone.heading) (cut (names_of r.heading) p)) r.tuples m.1 in
      let t = some.0 in
      let has = in_has r t some.1 in
      let at : cut q t ≡ p = sym (at_parts r.heading gone.heading gone_heading t (fit_one t has)) ∙ same_key _ _ some.2 ∙ stays r.heading of_one p left.0 in
      let one = met t has in
      left.1 ((matching_members parts w).all p (left.0, any_in (has_part (names_of parts.heading) (cut (names_of w.heading) p)) w.tuples one.0 (has_in w one.0 one.1) (part_there p one.0 left.0 one.1 (one.2 ∙ at))))

  module _ (met : AllMeet q r s) (either : (t : Attrs) → Has s t → ((u : Attrs) × Has w u × (cut q u ≡ cut q t)) ⊎ Has parts (cut q t)) (none : (p : Attrs) → Lost p → ⊥) where
    given_up : (t : Attrs) → Has r t → Has parts (cut q t) → (u : Attrs) × Has w u × (cut q u ≡ cut q t)
    unfolding not_matching_of
    given_up t has part = by (is_matched parts.heading w.heading w.tuples (cut q t)) refl
      where
        p : Attrs
        p = cut q t

        by : (b : Bool) → is_matched parts.heading w.heading w.tuples p ≡ b → (u : Attrs) × Has w u × (cut q u ≡ p)
        by true e =
            let some = in_any (has_part (names_of parts.heading) (cut (names_of w.heading) p)) w.tuples e in
            let now = in_has w some.0 some.1 in
            (some.0, now, there_part p some.0 part now some.2)
        by false e =
            let left : Has gone p = (minus_is parts (matching_of parts w)).all p (part, λ m. true≢false (sym ((matching_members parts w).only p m).1 ∙ e)) in
            absurd (none p ((matching_members gone r).all p (
              left,
              any_in (has_part (names_of gone.heading) (cut (names_of r.heading) p)) r.tuples t (has_in r t has)
                  (equal_parts (names_of gone.heading) (cut (names_of r.heading) p) t (at_parts r.heading gone.heading gone_heading t (fit_one t has) ∙ sym (stays r.heading of_one p part))),
            )))

    pub still_met : AllMeet q r w
    still_met t has =
        let before = met t has in
        ⊎_elim
        (λ kept. (kept.0, kept.1, kept.2 ∙ before.2))
        (λ part. given_up t has (subst (Has parts) before.2 part))
        (either before.0 before.1)
