-- The entries of a batch that a site takes, one after the other.
use Rattle.std.proofs.Common.{◌≡◌, ℕ, Bool, true, false, not, cond, eqb, max, List, [], ◌∷◌, ◌++◌, Option, Some, None, unwrap_or, refl, sym, ap, ◌∙◌, append_assoc, append-nil, subst, arith}
use Rattle.std.specs.BTreeMap as by_site
use Rattle.std.specs.BTreeMap.{is_at}
use Rattle.std.specs.Cmp.{unsigned_tied}
use Rattle.std.specs.Option.{option_or}
use Rattle.std.specs.Ordering.{nat_cmp}
use Rattle.std.proofs.lemmas.Bool.{eqb-true}
use Rattle.std.proofs.lemmas.List.Elements.{filter-append}
use Rattle.td_stamps.specs.Checks.{last_seq}
use Rattle.td_stamps.specs.Vectors.{VersionVector}
use Rattle.td_stamps.specs.declared.entry.Entry.{Entry}
use Rattle.td_checked_meetings.specs.ForProofs.{AreLast, IsSequenced, Numbers, last_number}
use Rattle.td_checked_meetings.specs.Scopes.{first_beyond, follows, in_sequence, is_left_out, of_others}
use Rattle.td_checked_meetings.specs.declared.sifting.Beyond.{Beyond}

-- ---- the numbers that came

swapped : (a b : Bool) (m n k : ℕ) → cond a (max m (cond b (max n k) k)) (cond b (max n k) k) ≡ cond b (max n (cond a (max m k) k)) (cond a (max m k) k)
swapped true true m n k = omega arith
swapped true false m n k = refl
swapped false true m n k = refl
swapped false false m n k = refl

-- one entry more
pub last_seq-append : (site : ℕ) (xs : List Entry) (e : Entry) → last_seq site (xs ++ e ∷ []) ≡ cond (eqb e.site site) (max e.seq (last_seq site xs)) (last_seq site xs)
last_seq-append site [] e = refl
last_seq-append site (x ∷ xs) e = ap (λ (n : ℕ). cond (eqb x.site site) (max x.seq n) n) (last_seq-append site xs e) ∙ swapped (eqb x.site site) (eqb e.site site) x.seq e.seq (last_seq site xs)

module _ (earlier : List Entry) (numbers : Numbers) (e : Entry) (n : ℕ) (last : AreLast earlier numbers) (is : n ≡ max e.seq (last_number numbers e.site)) where
  picked : (b : Bool) (site : ℕ) → eqb e.site site ≡ b → unwrap_or (cond b (Some n) (by_site.get nat_cmp numbers site)) 0 ≡ cond b (max e.seq (last_seq site earlier)) (last_seq site earlier)
  picked true site same = is ∙ ap (max e.seq) (last e.site ∙ ap (λ (s : ℕ). last_seq s earlier) (eqb-true e.site site same))
  picked false site other = last site

  -- an entry's number is noted
  pub last_noted : (after : Numbers) → ((site : ℕ) → by_site.get nat_cmp after site ≡ cond (is_at (nat_cmp e.site) site) (Some n) (by_site.get nat_cmp numbers site)) → AreLast (earlier ++ e ∷ []) after
  last_noted after updated = λ site.
      ap (λ (o : Option ℕ). unwrap_or o 0) (updated site ∙ ap (λ (b : Bool). cond b (Some n) (by_site.get nat_cmp numbers site)) (unsigned_tied e.site site))
      ∙ picked (eqb e.site site) site refl
      ∙ sym (last_seq-append site earlier e)

-- ---- entries in sequence

pub in_step : (v : VersionVector) (earlier : List Entry) (e : Entry) (es : List Entry) (b : Bool) → follows v earlier e ≡ b → in_sequence v earlier (e ∷ es) ≡ cond b (e ∷ in_sequence v (earlier ++ e ∷ []) es) (in_sequence v earlier es)
unfolding in_sequence
in_step v earlier e es b is = ap (λ (t : Bool). cond t (e ∷ in_sequence v (earlier ++ e ∷ []) es) (in_sequence v earlier es)) is

beyond_step : (v : VersionVector) (earlier : List Entry) (e : Entry) (es : List Entry) (b : Bool) → follows v earlier e ≡ b
    → first_beyond v earlier (e ∷ es) ≡ cond b (first_beyond v (earlier ++ e ∷ []) es) (Some (record { site = e.site; number = e.seq }))
unfolding first_beyond
beyond_step v earlier e es b is = ap (λ (t : Bool). cond t (first_beyond v (earlier ++ e ∷ []) es) (Some (record { site = e.site; number = e.seq }))) is

module _ (v : VersionVector) (all rest : List Entry) (e : Entry) (numbers : Numbers) (following : List Entry) (beyond : Option Beyond) (so_far : IsSequenced v all (e ∷ rest) numbers following beyond) where
  -- an entry that follows
  pub with_following : (after : Numbers) (longer : List Entry) → follows v following e ≡ true → AreLast (following ++ e ∷ []) after → longer ≡ following ++ e ∷ [] → IsSequenced v all rest after longer beyond
  with_following after longer is last more = subst (λ (l : List Entry). IsSequenced v all rest after l beyond) (sym more) (record {
    numbers_last = last;
    entries = append_assoc following (e ∷ []) (in_sequence v (following ++ e ∷ []) rest) ∙ ap (λ (l : List Entry). following ++ l) (sym (in_step v following e rest true is)) ∙ so_far.entries;
    first = ap (option_or beyond) (sym (beyond_step v following e rest true is)) ∙ so_far.first;
  })

  once : (b : Option Beyond) (x : Beyond) (o : Option Beyond) → option_or (option_or b (Some x)) o ≡ option_or b (Some x)
  once None x o = refl
  once (Some y) x o = refl

  -- one that does not
  pub with_beyond : follows v following e ≡ false → IsSequenced v all rest numbers following (option_or beyond (Some (record { site = e.site; number = e.seq })))
  with_beyond is = record {
    numbers_last = so_far.numbers_last;
    entries = ap (λ (l : List Entry). following ++ l) (sym (in_step v following e rest false is)) ∙ so_far.entries;
    first = once beyond (record { site = e.site; number = e.seq }) (first_beyond v following rest) ∙ ap (option_or beyond) (sym (beyond_step v following e rest false is)) ∙ so_far.first;
  }

-- all came
module _ (v : VersionVector) (all rest : List Entry) (numbers : Numbers) (following : List Entry) (beyond : Option Beyond) (so_far : IsSequenced v all rest numbers following beyond) (none : rest ≡ []) where
  nil_in : in_sequence v following [] ≡ []
  unfolding in_sequence
  nil_in = refl

  nil_beyond : first_beyond v following [] ≡ None
  unfolding first_beyond
  nil_beyond = refl

  or_none : (o : Option Beyond) → option_or o None ≡ o
  or_none None = refl
  or_none (Some x) = refl

  pub all_following : following ≡ in_sequence v [] all
  all_following = sym (append-nil following) ∙ ap (λ (l : List Entry). following ++ l) (sym nil_in) ∙ ap (λ (l : List Entry). following ++ in_sequence v following l) (sym none) ∙ so_far.entries

  pub all_beyond : beyond ≡ first_beyond v [] all
  all_beyond = sym (or_none beyond) ∙ ap (option_or beyond) (sym nil_beyond ∙ ap (first_beyond v following) (sym none)) ∙ so_far.first

-- ---- entries of sites that are not left out

pub of_others-left_out : (sites : List ℕ) (e : Entry) (xs : List Entry) → is_left_out sites e ≡ true → xs ≡ xs ++ of_others sites (e ∷ [])
of_others-left_out sites e xs is = sym (append-nil xs) ∙ ap (λ (b : Bool). xs ++ cond (not b) (e ∷ []) []) (sym is)

pub of_others-kept : (sites : List ℕ) (e : Entry) (xs : List Entry) → is_left_out sites e ≡ false → xs ++ e ∷ [] ≡ xs ++ of_others sites (e ∷ [])
of_others-kept sites e xs is = ap (λ (b : Bool). xs ++ cond (not b) (e ∷ []) []) (sym is)

pub others_more : (sites : List ℕ) (all old rest done more : List Entry) (e : Entry) → old ≡ e ∷ rest → more ≡ done ++ of_others sites (e ∷ []) → done ++ of_others sites old ≡ of_others sites all → more ++ of_others sites rest ≡ of_others sites all
others_more sites all old rest done more e step is so_far =
    ap (λ (l : List Entry). l ++ of_others sites rest) is ∙ append_assoc done (of_others sites (e ∷ [])) (of_others sites rest)
    ∙ ap (λ (l : List Entry). done ++ l) (sym (filter-append (λ x. not (is_left_out sites x)) (e ∷ []) rest) ∙ ap (of_others sites) (sym step)) ∙ so_far
