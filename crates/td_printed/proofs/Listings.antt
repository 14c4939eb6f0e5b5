-- What two sites that hold the same list: their listing, their log and their version vector.
use Rattle.std.proofs.Common.{inl, inr, ℕ, List, Result, Ok, Err, refl, sym, ap, ◌∙◌}
use Rattle.td_replica.specs.Laws.{HoldTheSame}
use Rattle.td_replica.specs.Seen.{Seen}
use Rattle.td_meeting.specs.Meetings.{AreOpen}
use Rattle.td_listings.specs.Calls.{Lists, Logs}
use Rattle.td_listings.specs.Laws.{ListingsAgree, LogsAgree}
use Rattle.td_listings.specs.Texts.{vector_of}
use Rattle.td_listings.specs.declared.error.ListError.{ListError}
use Rattle.td_listings.specs.declared.error.ListError.TheVariants as list_error
use Rattle.td_agreement.proofs.Agreeing.{vectors_agree}
use Rattle.td_answers.specs.Answers.{CountsEntries, list_answer}
use Rattle.td_printed.specs.Questions.{ArePrintedAlike}
use Rattle.td_printed.proofs.Queries.{closed}

module _ (s t : Seen) (both : AreOpen s t) (same : HoldTheSame s t) where
  pub lists_alike : ListingsAgree → (r o : Result (List ℕ) ListError) → Lists s r → Lists t o
      → ArePrintedAlike (list_answer r) (list_answer o)
  lists_alike agree (Err list_error.OutOfMemory) o p q = inl refl
  lists_alike agree r (Err list_error.OutOfMemory) p q = inr (inl refl)
  lists_alike agree (Err list_error.Broken) o p q = closed s both.0 p
  lists_alike agree r (Err list_error.Broken) p q = closed t both.1 q
  lists_alike agree (Ok text) (Ok other) p q = inr (inr (agree s t same text other p.1 q.1))

  pub logs_alike : LogsAgree → (r o : Result (List ℕ) ListError) → Logs s r → Logs t o
      → ArePrintedAlike (list_answer r) (list_answer o)
  logs_alike agree (Err list_error.OutOfMemory) o p q = inl refl
  logs_alike agree r (Err list_error.OutOfMemory) p q = inr (inl refl)
  logs_alike agree (Err list_error.Broken) o p q = closed s both.0 p
  logs_alike agree r (Err list_error.Broken) p q = closed t both.1 q
  logs_alike agree (Ok text) (Ok other) p q = inr (inr (agree s t same text other p.1 q.1))

  pub counts_alike : (r o : Result (List ℕ) ListError) → CountsEntries s r → CountsEntries t o
      → ArePrintedAlike (list_answer r) (list_answer o)
  counts_alike (Err list_error.OutOfMemory) o p q = inl refl
  counts_alike r (Err list_error.OutOfMemory) p q = inr (inl refl)
  counts_alike (Err list_error.Broken) o p q = closed s both.0 p
  counts_alike r (Err list_error.Broken) p q = closed t both.1 q
  counts_alike (Ok text) (Ok other) p q =
      let one = vectors_agree s t same p.1.vector q.1.vector p.1.counts q.1.counts in
      inr (inr (p.1.line ∙ ap vector_of one ∙ sym q.1.line))
