-- What a site is asked at a past place, from what its log tells.
use Rattle.std.proofs.Common.{◌≡◌, ◌<◌, ◌==◌, ◌&&◌, Bool, true≢false, eq-eqb, ltb, ℕ, zero, suc, true, false, inl, inr, List, [], ◌∷◌, ◌++◌, drop, take, get_or, length, Ok, Err, sym, ap, ◌∙◌, subst, arith}
use Rattle.std.specs.List.Sorted.{IsPartitionPoint}
use Rattle.std.proofs.lemmas.Bool.{cases_Bool}
use Rattle.std.proofs.lemmas.Bool.Decides.{nat_tests}
use Rattle.std.proofs.lemmas.List.{take-append-drop, take_more}
use Rattle.std.proofs.lemmas.Option.{get_or_from_slice_get, slice_get_within}
use Rattle.td_headings.specs.Expressions.{IsExpression, no_tuple}
use Rattle.td_headings.specs.Catalogues.{CatalogueData}
use Rattle.td_typed_trees.specs.declared.expression.Expression.{Expression}
use Rattle.td_stamps.specs.Entries.{before, stamp_of}
use Rattle.td_stamps.specs.Sets.{ascends, is_set}
use Rattle.td_stamps.proofs.EntryLemmas.{before-irrefl}
use Rattle.td_stamps.proofs.Places.{all_at, set_ascends}
use Rattle.td_stamps.proofs.SetLemmas.{first_holds, rest_holds}
use Rattle.td_stamps.specs.declared.entry.Entry.{Entry}
use Rattle.td_stamps.specs.declared.entry.Stamp.{Stamp}
use Rattle.td_replica.specs.Past.{AsksAt, EndsAt, HasNoPlace, IsQueryOf}
use Rattle.td_semantics.specs.Scripts.{IsScriptOf}
use Rattle.td_replica.specs.Seen.{Seen}
use Rattle.td_semantics.specs.declared.answer.Answer.{Answer}
use Rattle.td_replica.specs.declared.refusal.AskError.{AskError}
use Rattle.td_replica.specs.declared.refusal.AskError.TheVariants as ask_error
use Rattle.td_semantics.proofs.OneOpening.{one_catalogue}
use Rattle.td_replay.specs.ForProofs.Past.{EndsWith, SaysAfter, TellsQuery, Types, as_past, entry_at}
use Rattle.td_replay.proofs.Telling.{history_catalogue}
use Rattle.td_values.specs.Data.{Datum}

-- ---- the entry of a stamp, sought by halves
-- by index, the earlier comes before the later
ascends_at : (xs : List Entry) → ascends xs ≡ true → (i j : ℕ) (d : Entry) → i < j → j < length xs → before (get_or xs i d) (get_or xs j d) ≡ true
ascends_at [] up i j d lt within = absurd (omega arith)
ascends_at (x ∷ xs) up i zero d lt within = absurd (omega arith)
ascends_at (x ∷ xs) up zero (suc j) d lt within = all_at (before x) xs (first_holds _ _ up) j d (omega arith)
ascends_at (x ∷ xs) up (suc i) (suc j) d lt within = ascends_at xs (rest_holds _ _ up) i j d (omega arith) (omega arith)

not_before : (at : Stamp) (e : Entry) → stamp_of e ≡ at → before e (entry_at at) ≡ false
not_before at e same = subst (λ (s : Stamp). before e (entry_at s) ≡ false) same (before-irrefl e)

-- in a set only the first that is not before the stamp can have it
module _ (at : Stamp) (es : List Entry) (i : ℕ) (set : is_set es ≡ true) (point : IsPartitionPoint (λ e. before e (entry_at at) ≡ true) (λ e. before e (entry_at at) ≡ false) es i) where
  pub nowhere_else : (i < length es → (d : Entry) → stamp_of (get_or es i d) ≡ at → ⊥) → HasNoPlace at es
  nowhere_else none e there same =
      let k = there.0 in
      let within = there.1 in
      let stamp : stamp_of (get_or es k e) ≡ at = ap stamp_of there.2 ∙ same in
      let off = not_before at (get_or es k e) stamp in
      elim (cases_Bool (ltb k i)) [
        | inl less ↦ absurd (true≢false (sym (point.0 k e (omega arith) (grind (arith, nat_tests))) ∙ off))
        | inr not_less ↦ elim (cases_Bool (ltb i k)) [
          | inl later ↦
              let up = ascends_at es (set_ascends es set) i k e (grind (arith, nat_tests)) within in
              let lower = subst (λ (s : Stamp). before (get_or es i e) (entry_at s) ≡ true) stamp up in
              let here : i < length es = grind (arith, nat_tests) in
              absurd (true≢false (sym lower ∙ point.1 i e (omega arith) here))
          | inr not_later ↦
              let here : k ≡ i = grind (arith, nat_tests) in
              none (subst (λ (n : ℕ). n < length es) here within) e (subst (λ (n : ℕ). stamp_of (get_or es n e) ≡ at) here stamp)
        ]
      ]

-- stamps are one where both numbers are
pub stamps_equal : (s t : Stamp) → s ≡ t → (s.clock == t.clock) && (s.site == t.site) ≡ true
stamps_equal s t h = ap (λ (b : Bool). b && (s.site == t.site)) (eq-eqb s.clock t.clock (ap (λ (z : Stamp). z.clock) h)) ∙ eq-eqb s.site t.site (ap (λ (z : Stamp). z.site) h)

pub apart_stamps : (s t : Stamp) (b : Bool) → b ≡ false → b ≡ (s.clock == t.clock) && (s.site == t.site) → s ≡ t → ⊥
apart_stamps s t b not is h = true≢false (sym (stamps_equal s t h) ∙ sym is ∙ not)

-- ---- what is told of a query
module _ (s : Seen) (c : CatalogueData) (live : s.live ≡ true) (defines : IsScriptOf s.script c) (text : List ℕ) (at : Stamp) where
  pub past_refusal : (e : AskError) → TellsQuery c text (Err e) → AsksAt s text at (Err (as_past e))
  past_refusal ask_error.Broken h = absurd h
  past_refusal ask_error.Syntax h = (live, h)
  past_refusal ask_error.IllTyped h = (live, record { catalogue = c; query = h.query; defines = defines; reads = h.reads; refused = h.refused })
  past_refusal ask_error.OutOfMemory h = (live, h)

  module _ (x : Expression) (t : Types c text x) where
    pub is_query : IsQueryOf s.script text
    is_query = record { catalogue = c; query = t.query; expression = x; defines = defines; reads = t.reads; types = t.types }

    module _ (n : ℕ) (p : EndsWith at s.entries n) where
      pub kept_within : p.place < length s.entries
      kept_within = slice_get_within s.entries p.place p.entry p.there

      pub ends_at : EndsAt at s.entries (take n s.entries)
      ends_at = record {
        before = take p.place s.entries;
        last = p.entry;
        behind = drop n s.entries;
        front_is = ap (λ (m : ℕ). take m s.entries) p.count ∙ take_more s.entries p.place p.entry kept_within ∙ ap (λ (e : Entry). take p.place s.entries ++ e ∷ []) (get_or_from_slice_get s.entries p.place p.entry p.entry p.there);
        all = sym (take-append-drop n s.entries);
        stamp = p.stamp;
      }

      pub asks_at : (r : Answer Datum) → SaysAfter s.script s.entries n x r → AsksAt s text at (Ok r)
      asks_at r h =
          let is = one_catalogue s.script c h.state.catalogue defines (history_catalogue s.script (take n s.entries) h.outcomes h.state h.history) in (
            take n s.entries,
            ends_at,
            record {
              database = h.state;
              query = t.query;
              expression = x;
              live = live;
              leaves = (h.outcomes, h.history);
              reads = t.reads;
              types = subst (λ (z : CatalogueData). IsExpression z no_tuple t.query x) is t.types;
              says = h.says;
            },
          )
