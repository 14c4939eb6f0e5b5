-- What every event keeps.
use Rattle.std.proofs.Common.{◌≡◌, ◌⊎◌, inl, inr, ℕ, Bool, true, false, cond, eqb, ◌||◌, T, List, [], ◌∷◌, refl, sym, ap, subst, ◌∙◌}
use mathlib.Core.Bool.{false≢true}
use Rattle.std.proofs.lemmas.Bool.{eqb-true}
use Rattle.std.proofs.Math.Dec.{eqb_refl}
use Rattle.td_stamps.specs.declared.entry.Entry.{Entry}
use Rattle.td_stamps.specs.Entries.{same, clash}
use Rattle.td_stamps.specs.Laws.{NextComesLast}
use Rattle.td_stamps.specs.Sets.{has}
use Rattle.td_stamps.proofs.EntryLemmas.{same-is, same-refl, clash-refl, clash-sym}
use Rattle.td_executions.specs.GlobalStates.{GlobalState, initial_state, Event, issue, send, deliver, reopen, with_held, with_issued, with_sent, with_set, new_entry, Happens, Reached, IsKnown, NoneReopens}

-- ---- members

cases : (b : Bool) → (b ≡ true) ⊎ (b ≡ false)
cases true = inl refl
cases false = inr refl

eqb_same : (n : ℕ) → eqb n n ≡ true
eqb_same n = elim (cases (eqb n n)) [
  | inl is ↦ is
  | inr other ↦ absurd (subst T other (eqb_refl n))
]

-- the entry, or one of the others
member : (e : Entry) (xs : List Entry) (x : Entry) → has (e ∷ xs) x ≡ true → (x ≡ e) ⊎ (has xs x ≡ true)
member e xs x h = elim (cases (same x e)) [
  | inl is ↦ inl (same-is x e is)
  | inr other ↦ inr (sym (ap (λ b. b || has xs x) other) ∙ h)
]

here : (e : Entry) (xs : List Entry) → has (e ∷ xs) e ≡ true
here e xs = ap (λ b. b || has xs e) (same-refl e)

there : (e : Entry) (xs : List Entry) (x : Entry) → has xs x ≡ true → has (e ∷ xs) x ≡ true
there e xs x h = ap (λ b. same x e || b) h ∙ or_true (same x e)
  where
    or_true : (b : Bool) → (b || true) ≡ true
    or_true true = refl
    or_true false = refl

-- ---- one site's set becomes another

at_site : (held : ℕ → List Entry) (site : ℕ) (es : List Entry) (t : ℕ) → t ≡ site → with_held held site es t ≡ es
at_site held site es t is = ap (λ b. cond b es (held t)) (ap (λ u. eqb u site) is ∙ eqb_same site)

elsewhere : (held : ℕ → List Entry) (site : ℕ) (es : List Entry) (t : ℕ) → eqb t site ≡ false → with_held held site es t ≡ held t
elsewhere held site es t other = ap (λ b. cond b es (held t)) other

-- more at one site is more at each
more : (held : ℕ → List Entry) (site : ℕ) (e : Entry) (t : ℕ) (x : Entry) → has (held t) x ≡ true → has (with_held held site (e ∷ held site) t) x ≡ true
more held site e t x h = elim (cases (eqb t site)) [
  | inl is ↦
      let same_site : t ≡ site = eqb-true t site is in
      subst (λ (es : List Entry). has es x ≡ true) (sym (at_site held site (e ∷ held site) t same_site)) (there e (held site) x (subst (λ s. has (held s) x ≡ true) same_site h))
  | inr other ↦ subst (λ (es : List Entry). has es x ≡ true) (sym (elsewhere held site (e ∷ held site) t other)) h
]

-- ---- what every event keeps

-- own entries of a site don't clash; what was sent is held where it was issued; what is held elsewhere was sent
pub record IsSound (w : GlobalState) : Type 0 where
  pub apart : (s : ℕ) (x y : Entry) → has (w.held s) x ≡ true → has (w.held s) y ≡ true → x.site ≡ s → y.site ≡ s → clash x y ≡ false
  pub own : (x : Entry) → has w.sent x ≡ true → has (w.held x.site) x ≡ true
  pub others : (s : ℕ) (x : Entry) → has (w.held s) x ≡ true → eqb x.site s ≡ false → has w.sent x ≡ true

nothing_is_sound : IsSound initial_state
nothing_is_sound = record {
  apart = λ s x y hx hy px py. absurd (false≢true hx);
  own = λ x h. absurd (false≢true h);
  others = λ s x h other. absurd (false≢true h);
}

-- whatever is known is held where it was issued
pub known_is_held : (w : GlobalState) → IsSound w → (x : Entry) → IsKnown w x → has (w.held x.site) x ≡ true
known_is_held w sound x (inl sent) = sound.own x sent
known_is_held w sound x (inr (s, h)) = elim (cases (eqb x.site s)) [
  | inl is ↦ subst (λ t. has (w.held t) x ≡ true) (sym (eqb-true x.site s is)) h
  | inr other ↦ sound.own x (sound.others s x h other)
]

-- ---- each event

sent_entry : (w : GlobalState) (s : ℕ) (e : Entry) → IsSound w → has (w.held s) e ≡ true → IsSound (with_sent w e)
sent_entry w s e sound h = record {
  apart = sound.apart;
  own = λ x hx. elim (member e w.sent x hx) [
    | inl is ↦ subst (λ (y : Entry). has (w.held y.site) y ≡ true) (sym is) (known_is_held w sound e (inr (s, h)))
    | inr old ↦ sound.own x old
  ];
  others = λ t x hx other. there e w.sent x (sound.others t x hx other);
}

-- an entry of the site, among what it holds and one that was sent, is held by it
own_of : (w : GlobalState) (s : ℕ) (e x : Entry) → IsSound w → has w.sent e ≡ true → has (e ∷ w.held s) x ≡ true → x.site ≡ s → has (w.held s) x ≡ true
own_of w s e x sound sent hx own = elim (member e (w.held s) x hx) [
  | inl is ↦ subst (λ t. has (w.held t) x ≡ true) own (subst (λ (y : Entry). has (w.held y.site) y ≡ true) (sym is) (sound.own e sent))
  | inr old ↦ old
]

delivered : (w : GlobalState) (s : ℕ) (e : Entry) → IsSound w → has w.sent e ≡ true → IsSound (with_set w s (e ∷ w.held s))
delivered w s e sound sent = record {
  apart = λ t x y hx hy px py. elim (cases (eqb t s)) [
    | inl is ↦
        let same_site : t ≡ s = eqb-true t s is in
        let all = at_site w.held s (e ∷ w.held s) t same_site in
        let in_x = own_of w s e x sound sent (subst (λ (es : List Entry). has es x ≡ true) all hx) (px ∙ same_site) in
        let in_y = own_of w s e y sound sent (subst (λ (es : List Entry). has es y ≡ true) all hy) (py ∙ same_site) in
        sound.apart s x y in_x in_y (px ∙ same_site) (py ∙ same_site)
    | inr other ↦
        let all = elsewhere w.held s (e ∷ w.held s) t other in
        sound.apart t x y (subst (λ (es : List Entry). has es x ≡ true) all hx) (subst (λ (es : List Entry). has es y ≡ true) all hy) px py
  ];
  own = λ x hx. more w.held s e x.site x (sound.own x hx);
  others = λ t x hx other. elim (cases (eqb t s)) [
    | inl is ↦
        let same_site : t ≡ s = eqb-true t s is in
        elim (member e (w.held s) x (subst (λ (es : List Entry). has es x ≡ true) (at_site w.held s (e ∷ w.held s) t same_site) hx)) [
          | inl new ↦ subst (λ (y : Entry). has w.sent y ≡ true) (sym new) sent
          | inr old ↦ sound.others t x (subst (λ u. has (w.held u) x ≡ true) (sym same_site) old) other
        ]
    | inr away ↦ sound.others t x (subst (λ (es : List Entry). has es x ≡ true) (elsewhere w.held s (e ∷ w.held s) t away) hx) other
  ];
}

reopened : (w : GlobalState) (s : ℕ) (es : List Entry) → IsSound w → ((e : Entry) → has es e ≡ true → has (w.held s) e ≡ true) → ((e : Entry) → e.site ≡ s → has w.sent e ≡ true → has es e ≡ true)
    → IsSound (with_set w s es)
reopened w s es sound part keeps = record {
  apart = λ t x y hx hy px py. sound.apart t x y (was t x hx) (was t y hy) px py;
  own = λ x hx. elim (cases (eqb x.site s)) [
    | inl is ↦ subst (λ (fs : List Entry). has fs x ≡ true) (sym (at_site w.held s es x.site (eqb-true x.site s is))) (keeps x (eqb-true x.site s is) hx)
    | inr other ↦ subst (λ (fs : List Entry). has fs x ≡ true) (sym (elsewhere w.held s es x.site other)) (sound.own x hx)
  ];
  others = λ t x hx other. sound.others t x (was t x hx) other;
}
  where
    was : (t : ℕ) (x : Entry) → has (with_held w.held s es t) x ≡ true → has (w.held t) x ≡ true
    was t x h = elim (cases (eqb t s)) [
      | inl is ↦
          let same_site : t ≡ s = eqb-true t s is in
          subst (λ u. has (w.held u) x ≡ true) (sym same_site) (part x (subst (λ (fs : List Entry). has fs x ≡ true) (at_site w.held s es t same_site) h))
      | inr other ↦ subst (λ (fs : List Entry). has fs x ≡ true) (elsewhere w.held s es t other) h
    ]

-- two of what a site holds and its next entry don't clash
next_apart : (held : List Entry) (e x y : Entry) → ((z : Entry) → has held z ≡ true → clash e z ≡ false) → (has held x ≡ true → has held y ≡ true → clash x y ≡ false)
    → has (e ∷ held) x ≡ true → has (e ∷ held) y ≡ true → clash x y ≡ false
next_apart held e x y next old hx hy = elim (member e held x hx) [
  | inl is_x ↦ elim (member e held y hy) [
    | inl is_y ↦ ap (λ (z : Entry). clash z y) is_x ∙ ap (clash e) is_y ∙ clash-refl e
    | inr in_y ↦ ap (λ (z : Entry). clash z y) is_x ∙ next y in_y
  ]
  | inr in_x ↦ elim (member e held y hy) [
    | inl is_y ↦ ap (clash x) is_y ∙ clash-sym x e ∙ next x in_x
    | inr in_y ↦ old in_x in_y
  ]
]

issued_entry : (w : GlobalState) (s : ℕ) (e : Entry) → IsSound w → e.site ≡ s → ((z : Entry) → has (w.held s) z ≡ true → clash e z ≡ false) → IsSound (with_issued w s e)
issued_entry w s e sound own_site next = record {
  apart = λ t x y hx hy px py. elim (cases (eqb t s)) [
    | inl is ↦
        let same_site : t ≡ s = eqb-true t s is in
        let all = at_site w.held s (e ∷ w.held s) t same_site in
        next_apart (w.held s) e x y next (λ in_x in_y. sound.apart s x y in_x in_y (px ∙ same_site) (py ∙ same_site))
        (subst (λ (es : List Entry). has es x ≡ true) all hx) (subst (λ (es : List Entry). has es y ≡ true) all hy)
    | inr other ↦
        let all = elsewhere w.held s (e ∷ w.held s) t other in
        sound.apart t x y (subst (λ (es : List Entry). has es x ≡ true) all hx) (subst (λ (es : List Entry). has es y ≡ true) all hy) px py
  ];
  own = λ x hx. more w.held s e x.site x (sound.own x hx);
  others = λ t x hx other. elim (cases (eqb t s)) [
    | inl is ↦
        let same_site : t ≡ s = eqb-true t s is in
        elim (member e (w.held s) x (subst (λ (es : List Entry). has es x ≡ true) (at_site w.held s (e ∷ w.held s) t same_site) hx)) [
          | inl new ↦
              let at_home : x.site ≡ t = ap (λ (y : Entry). y.site) new ∙ own_site ∙ sym same_site in
              absurd (false≢true (sym other ∙ ap (λ u. eqb u t) at_home ∙ eqb_same t))
          | inr old ↦ sound.others t x (subst (λ u. has (w.held u) x ≡ true) (sym same_site) old) other
        ]
    | inr away ↦ sound.others t x (subst (λ (es : List Entry). has es x ≡ true) (elsewhere w.held s (e ∷ w.held s) t away) hx) other
  ];
}

-- ---- every execution

after_event : NextComesLast → (w : GlobalState) (ev : Event) (v : GlobalState) → IsSound w → Happens w ev v → IsSound v
after_event law w (issue s dialect text) v sound (n, numbers, low, high, short, is) =
    let e = new_entry s n dialect text in subst IsSound (sym is) (issued_entry w s e sound refl (law s (w.held s) e refl numbers).1)
after_event law w (send s e) v sound (h, is) = subst IsSound (sym is) (sent_entry w s e sound h)
after_event law w (deliver s e) v sound (h, is) = subst IsSound (sym is) (delivered w s e sound h)
after_event law w (reopen s es) v sound (part, keeps, is) = subst IsSound (sym is) (reopened w s es sound part keeps)

pub reached_is_sound : NextComesLast → (evs : List Event) (w : GlobalState) → Reached evs w → IsSound w
reached_is_sound law [] w is = subst IsSound (sym is) nothing_is_sound
reached_is_sound law (ev ∷ evs) w (before, reached, happens) = after_event law before ev w (reached_is_sound law evs before reached) happens

apart_sites : (e f : Entry) → eqb e.site f.site ≡ false → clash e f ≡ false
apart_sites e f other = rw other refl

pub none_clash : (w : GlobalState) → IsSound w → (e f : Entry) → IsKnown w e → IsKnown w f → clash e f ≡ false
none_clash w sound e f known_e known_f = elim (cases (eqb e.site f.site)) [
  | inl is ↦
      let same_site : e.site ≡ f.site = eqb-true e.site f.site is in
      sound.apart e.site e f (known_is_held w sound e known_e) (subst (λ t. has (w.held t) f ≡ true) (sym same_site) (known_is_held w sound f known_f)) refl (sym same_site)
  | inr other ↦ apart_sites e f other
]

-- ---- what was issued

pub issued_held : (evs : List Event) (w : GlobalState) → Reached evs w → NoneReopens evs → (x : Entry) → has w.issued x ≡ true → has (w.held x.site) x ≡ true
issued_held [] w is none x h = absurd (false≢true (ap (λ (v : GlobalState). has v.issued x) (sym is) ∙ h))
issued_held (issue s dialect text ∷ evs) w (before, reached, (n, numbers, low, high, short, is)) none x h =
    let e = new_entry s n dialect text in
    let P : GlobalState → Type 0 = λ v. has v.issued x ≡ true → has (v.held x.site) x ≡ true in
    let kept : P (with_issued before s e) = λ hx. elim (member e before.issued x hx) [
      | inl new ↦
          let at_home : x.site ≡ s = ap (λ (y : Entry). y.site) new in
          subst (λ (es : List Entry). has es x ≡ true) (sym (at_site before.held s (e ∷ before.held s) x.site at_home)) (subst (λ (y : Entry). has (e ∷ before.held s) y ≡ true) (sym new) (here e (before.held s)))
      | inr old ↦ more before.held s e x.site x (issued_held evs before reached none x old)
    ] in
    subst P (sym is) kept h
issued_held (send s e ∷ evs) w (before, reached, (sends, is)) none x h =
    let P : GlobalState → Type 0 = λ v. has v.issued x ≡ true → has (v.held x.site) x ≡ true in
    let kept : P (with_sent before e) = issued_held evs before reached none x in
    subst P (sym is) kept h
issued_held (deliver s e ∷ evs) w (before, reached, (sent, is)) none x h =
    let P : GlobalState → Type 0 = λ v. has v.issued x ≡ true → has (v.held x.site) x ≡ true in
    let kept : P (with_set before s (e ∷ before.held s)) = λ hx. more before.held s e x.site x (issued_held evs before reached none x hx) in
    subst P (sym is) kept h
issued_held (reopen s es ∷ evs) w reached none x h = absurd none
