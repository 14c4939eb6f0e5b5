-- What is answered of a statement whose key was seen.
use Rattle.std.proofs.Common.{◌≡◌, ℕ, List, ◌++◌, Option, Some, None, inr, refl, subst}
use Rattle.td_replica.specs.Seen.{Seen}
use Rattle.td_stamps.specs.declared.entry.Entry.{Entry}
use Rattle.td_statement_keys.specs.Keys.{entry_with, issued_text, key_comment}
use Rattle.td_site_desk.specs.ForProofs.{IsToldBy}
use Rattle.td_site_desk.specs.Sites.{AnswersStatement, known_entry}

by_entry : (known : Option Entry) (s : Seen) (text : List ℕ) (status : ℕ) → IsToldBy known text (Some status) → AnswersStatement known s text (Some status) s
by_entry None s text status told = inr (record { kept = refl; answered = told })
by_entry (Some entry) s text status told = record { kept = refl; answered = told }

pub by_key : (s : Seen) (key text comment issued : List ℕ) (answer : Option ℕ) (status : ℕ) → comment ≡ key_comment key → issued ≡ key_comment key ++ text
    → IsToldBy (entry_with s.site comment s.entries) issued answer → answer ≡ Some status
    → AnswersStatement (known_entry s (Some key)) s (issued_text (Some key) text) (Some status) s
by_key s key text comment issued answer status begins is told some =
    by_entry (known_entry s (Some key)) s (issued_text (Some key) text) status
    (subst (λ c. IsToldBy (entry_with s.site c s.entries) (issued_text (Some key) text) (Some status)) begins
    (subst (λ t. IsToldBy (entry_with s.site comment s.entries) t (Some status)) is
    (subst (IsToldBy (entry_with s.site comment s.entries) issued) some told)))
