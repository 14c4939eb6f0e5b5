-- What two sites that hold the same are answered to a query, now and at a past place.
use Rattle.std.proofs.Common.{◌≡◌, inl, inr, ℕ, true, false, List, Result, Ok, Err, refl, sym, ap, subst, ◌∙◌}
use Rattle.std.proofs.Common.{true≢false}
use Rattle.std.specs.List.{Contains}
use Rattle.std.proofs.lemmas.List.Elements.{Contains-append_left, Contains-push}
use Rattle.td_values.specs.Data.{Datum}
use Rattle.td_syntax.specs.declared.tree.Expr.{Expr}
use Rattle.td_headings.specs.Catalogues.{CatalogueData}
use Rattle.td_headings.specs.Expressions.{IsExpression, no_tuple}
use Rattle.td_stamps.specs.declared.entry.Entry.{Entry}
use Rattle.td_stamps.specs.declared.entry.Stamp.{Stamp}
use Rattle.td_semantics.specs.Scripts.{IsScriptOf}
use Rattle.td_semantics.specs.declared.answer.Answer.{Answer}
use Rattle.td_semantics.proofs.OneOpening.{one_catalogue}
use Rattle.td_replica.specs.Calls.{Asks, AsksQuery, IsIllTypedQuery}
use Rattle.td_replica.specs.Laws.{HoldTheSame}
use Rattle.td_replica.specs.Past.{AsksAt, EndsAt, HasNoPlace, IsQueryOf}
use Rattle.td_replica.specs.Seen.{Seen, with_entries}
use Rattle.td_replica.specs.declared.refusal.AskError.{AskError}
use Rattle.td_replica.specs.declared.refusal.AskError.TheVariants as ask_error
use Rattle.td_replica.specs.declared.refusal.PastError.{PastError}
use Rattle.td_replica.specs.declared.refusal.PastError.TheVariants as past_error
use Rattle.td_meeting.specs.Meetings.{AreOpen}
use Rattle.td_agreement.proofs.Agreeing.{answers_agree, one_set, past_answers_agree}
use Rattle.td_agreement.proofs.Meanings.{one_query}
use Rattle.td_answers.specs.Answers.{ask_answer, past_answer, reply_line}
use Rattle.td_printed.specs.Questions.{ArePrintedAlike}
use Rattle.td_printed.proofs.Catalogues.{script_of}

-- an open site is not closed
pub closed : {P : Type 0} (s : Seen) → s.live ≡ true → s.live ≡ false → P
closed s is not_so = absurd (true≢false (sym is ∙ not_so))

-- a query that is answered is one of the script
asked_is_query : (s : Seen) (text : List ℕ) (r : Answer Datum) → AsksQuery s text r → IsQueryOf s.script text
asked_is_query s text r p = record {
  catalogue = p.database.catalogue;
  query = p.query;
  expression = p.expression;
  defines = script_of s p.database p.leaves;
  reads = p.reads;
  types = p.types;
}

-- of one script a text is no query both well typed and ill typed
never_both : {P : Type 0} (script other text : List ℕ) → script ≡ other → IsQueryOf script text
    → IsIllTypedQuery other text → P
never_both script other text same p q =
    let here = subst (λ (x : List ℕ). IsScriptOf x p.catalogue) same p.defines in
    let one = one_catalogue other p.catalogue q.catalogue here q.defines in
    let types = subst (λ (c : CatalogueData). IsExpression c no_tuple p.query p.expression) one p.types in
    let read = one_query text p.query q.query p.reads q.reads in
    let other_types = subst (λ (a : Expr). IsExpression q.catalogue no_tuple a p.expression) read types in
    absurd (q.refused p.expression other_types)

-- where the entries have no place, no front of them ends there
never_ends : {P : Type 0} (at : Stamp) (es fs front : List Entry) → es ≡ fs → EndsAt at es front → HasNoPlace at fs → P
never_ends at es fs front same ends none =
    let last = ends.last in
    let here = subst (λ (l : List Entry). Contains l last) (sym ends.front_is) (Contains-push ends.before last) in
    let there = Contains-append_left front ends.behind last here in
    absurd (none last (subst (λ (l : List Entry). Contains l last) (sym ends.all ∙ same) there) ends.stamp)

module _ (s t : Seen) (both : AreOpen s t) (same : HoldTheSame s t) (text : List ℕ) where
  first_bad : {P : Type 0} → IsQueryOf s.script text → IsIllTypedQuery t.script text → P
  first_bad p q = never_both s.script t.script text same.script p q

  second_bad : {P : Type 0} → IsQueryOf t.script text → IsIllTypedQuery s.script text → P
  second_bad p q = never_both t.script s.script text (sym same.script) p q

  -- ---- a query

  pub asks_alike : (r o : Result (Answer Datum) AskError) → Asks s text r → Asks t text o
      → ArePrintedAlike (ask_answer r) (ask_answer o)
  asks_alike (Err ask_error.OutOfMemory) o p q = inl refl
  asks_alike r (Err ask_error.OutOfMemory) p q = inr (inl refl)
  asks_alike (Err ask_error.Broken) o p q = closed s both.0 p
  asks_alike r (Err ask_error.Broken) p q = closed t both.1 q
  asks_alike (Ok r) (Ok o) p q = inr (inr (ap reply_line (answers_agree s t same text r o p q)))
  asks_alike (Ok r) (Err ask_error.Syntax) p q = absurd (q.1 p.query p.reads)
  asks_alike (Ok r) (Err ask_error.IllTyped) p q = first_bad (asked_is_query s text r p) q.1
  asks_alike (Err ask_error.Syntax) (Ok o) p q = absurd (p.1 q.query q.reads)
  asks_alike (Err ask_error.Syntax) (Err ask_error.Syntax) p q = inr (inr refl)
  asks_alike (Err ask_error.Syntax) (Err ask_error.IllTyped) p q = absurd (p.1 q.1.query q.1.reads)
  asks_alike (Err ask_error.IllTyped) (Ok o) p q = second_bad (asked_is_query t text o q) p.1
  asks_alike (Err ask_error.IllTyped) (Err ask_error.Syntax) p q = absurd (q.1 p.1.query p.1.reads)
  asks_alike (Err ask_error.IllTyped) (Err ask_error.IllTyped) p q = inr (inr refl)

  -- ---- a query at a past place

  module _ (at : Stamp) where
    first_ends : {P : Type 0} (front : List Entry) → EndsAt at s.entries front → HasNoPlace at t.entries → P
    first_ends front p q = never_ends at s.entries t.entries front (one_set s t same) p q

    second_ends : {P : Type 0} (front : List Entry) → EndsAt at t.entries front → HasNoPlace at s.entries → P
    second_ends front p q = never_ends at t.entries s.entries front (sym (one_set s t same)) p q

    pub past_alike : (r o : Result (Answer Datum) PastError) → AsksAt s text at r → AsksAt t text at o
        → ArePrintedAlike (past_answer r) (past_answer o)
    past_alike (Err past_error.OutOfMemory) o p q = inl refl
    past_alike r (Err past_error.OutOfMemory) p q = inr (inl refl)
    past_alike (Err past_error.Broken) o p q = closed s both.0 p
    past_alike r (Err past_error.Broken) p q = closed t both.1 q
    past_alike (Ok r) (Ok o) p q = inr (inr (ap reply_line (past_answers_agree s t same text at r o p q)))
    past_alike (Ok r) (Err past_error.Syntax) p q = absurd (q.1 p.2.query p.2.reads)
    past_alike (Ok r) (Err past_error.IllTyped) p q = first_bad (asked_is_query (with_entries s p.0) text r p.2) q.1
    past_alike (Ok r) (Err past_error.NoPlace) p q = first_ends p.0 p.1 q.2
    past_alike (Err past_error.Syntax) (Ok o) p q = absurd (p.1 q.2.query q.2.reads)
    past_alike (Err past_error.Syntax) (Err past_error.Syntax) p q = inr (inr refl)
    past_alike (Err past_error.Syntax) (Err past_error.IllTyped) p q = absurd (p.1 q.1.query q.1.reads)
    past_alike (Err past_error.Syntax) (Err past_error.NoPlace) p q = absurd (p.1 q.1.query q.1.reads)
    past_alike (Err past_error.IllTyped) (Ok o) p q = second_bad (asked_is_query (with_entries t q.0) text o q.2) p.1
    past_alike (Err past_error.IllTyped) (Err past_error.Syntax) p q = absurd (q.1 p.1.query p.1.reads)
    past_alike (Err past_error.IllTyped) (Err past_error.IllTyped) p q = inr (inr refl)
    past_alike (Err past_error.IllTyped) (Err past_error.NoPlace) p q = second_bad q.1 p.1
    past_alike (Err past_error.NoPlace) (Ok o) p q = second_ends q.0 q.1 p.2
    past_alike (Err past_error.NoPlace) (Err past_error.Syntax) p q = absurd (q.1 p.1.query p.1.reads)
    past_alike (Err past_error.NoPlace) (Err past_error.IllTyped) p q = first_bad p.1 q.1
    past_alike (Err past_error.NoPlace) (Err past_error.NoPlace) p q = inr (inr refl)
