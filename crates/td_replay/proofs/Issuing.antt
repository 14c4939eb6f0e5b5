-- The next entry of a site: what is known of it, and that it comes last.
use Rattle.std.proofs.Common.{◌≡◌, ◌≤◌, ◌<◌, ℕ, Bool, true, false, cond, List, [], ◌∷◌, ◌++◌, length, Result, Ok, Err, refl, sym, ap, subst, ◌∙◌, arith}
use Rattle.std.specs.Prelude.{nat_lt, IsOk}
use Rattle.std.proofs.lemmas.Bool.{ltb-true}
use Rattle.td_headings.specs.declared.statement.TypedStatement.{TypedStatement}
use Rattle.td_stamps.specs.declared.entry.Entry.{Entry}
use Rattle.td_stamps.specs.declared.errors.NextError.{NextError}
use Rattle.td_stamps.specs.Checks.{check_of, next_of}
use Rattle.td_stamps.specs.Entries.{stamp_of}
use Rattle.td_stamps.specs.Sets.{union}
use Rattle.td_stamps.proofs.Next.{next_fits, union_last}
use Rattle.td_semantics.specs.Databases.{DatabaseData}
use Rattle.td_semantics.specs.Steps.{IsRead}
use Rattle.td_replica.specs.Calls.{entry_of, numbered, latest_dialect, Issues, IssuesEntry}
use Rattle.td_replay.specs.ForProofs.Judged.{IsRefusal}
use Rattle.td_replay.specs.ForProofs.Told.{IsLogged, Log, Numbers, Outcomes, TellsOutcome, outcomes_of}
use Rattle.td_replica.specs.Seen.{Seen, with_entries}
use Rattle.td_replica.specs.Histories.{IsHistory}
use Rattle.td_replica.specs.declared.calls.Issued.{Issued}
use Rattle.td_replica.specs.declared.refusal.IssueError.{IssueError}
use Rattle.td_replica.specs.declared.refusal.IssueError.TheVariants as issue_error
use Rattle.td_replay.proofs.Telling.{logged_more, logged_history, outcomes_more, history_catalogue}

-- what is known where a text has a next entry
pub record IsNext (s : Seen) (text : List ℕ) (e : Entry) : Type 0 where
  pub site : e.site ≡ s.site
  pub dialect_is : e.dialect ≡ latest_dialect
  pub text_is : e.text ≡ text
  pub numbers : next_of s.site s.entries ≡ Ok (e.seq, e.clock)
  pub room : length s.entries < s.limit

roomy : (s : Seen) (text : List ℕ) (e : Entry) (n : ℕ × ℕ) (b : Bool) → next_of s.site s.entries ≡ Ok n → nat_lt (length s.entries) s.limit ≡ b
    → ◌≡◌ {A = Result Entry IssueError} (cond b (Ok (record { site = s.site; seq = n.0; clock = n.1; dialect = latest_dialect; text = text })) (Err issue_error.Full)) (Ok e) → IsNext s text e
roomy s text e n false next test h = cc
roomy s text e n true next test h =
    let is : ◌≡◌ {A = Entry} (record { site = s.site; seq = n.0; clock = n.1; dialect = latest_dialect; text = text }) e = cc in
    subst (IsNext s text) is (record { site = refl; dialect_is = refl; text_is = refl; numbers = next; room = ltb-true _ _ test })

by_numbers : (s : Seen) (text : List ℕ) (e : Entry) (o : Result (ℕ × ℕ) NextError) → next_of s.site s.entries ≡ o → numbered s text o ≡ Ok e → IsNext s text e
by_numbers s text e (Err x) next h = cc
by_numbers s text e (Ok n) next h = roomy s text e n (nat_lt (length s.entries) s.limit) next refl h

pub next_is_known : (s : Seen) (text : List ℕ) (e : Entry) → entry_of s text ≡ Ok e → IsNext s text e
next_is_known s text e h = by_numbers s text e (next_of s.site s.entries) refl h

module _ (s : Seen) (text : List ℕ) (e : Entry) (site : 1 ≤ s.site) (short : length text ≤ 8192) (next : entry_of s text ≡ Ok e) where
  pub next_may_be_added : IsOk (check_of s.entries s.limit (e ∷ []))
  next_may_be_added =
      let known = next_is_known s text e next in
      let short_too : length e.text ≤ 8192 = subst (λ (t : List ℕ). length t ≤ 8192) (sym known.text_is) short in
      let low : 1 ≤ e.dialect = subst (λ (n : ℕ). 1 ≤ n) (sym known.dialect_is) (omega arith) in
      let high : e.dialect ≤ 2 = subst (λ (n : ℕ). n ≤ 2) (sym known.dialect_is) (omega arith) in
      subst (λ o. IsOk o) (sym (next_fits s.site s.entries e known.site known.numbers s.limit site low high short_too known.room)) refl

  pub next_is_last : union s.entries (e ∷ []) ≡ s.entries ++ e ∷ []
  next_is_last = let known = next_is_known s text e next in union_last s.site s.entries e known.site known.numbers

-- ---- what issuing answers
pub issues_entry : (s after : Seen) (text : List ℕ) (e : Entry) (i : Issued) (log longer : Log) (d end : DatabaseData) → s.live ≡ true → IsLogged s.script s.entries log d → entry_of s text ≡ Ok e → TellsOutcome d log e i.outcome end longer
    → i.stamp ≡ stamp_of e → after ≡ with_entries s (s.entries ++ e ∷ []) → IssuesEntry s text i after
issues_entry s after text e i log longer d end live l next tells stamp is =
    let known = next_is_known s text e next in
    let before = logged_history s.script s.entries log d l in
    let now = logged_history s.script (s.entries ++ e ∷ []) longer end (logged_more s.script s.entries log d l longer end e tells.ran tells.runs) in
    let all = outcomes_more log longer e tells.ran i.outcome i.stamp tells.runs.log_is tells.told stamp in
    let are : IsHistory s.script (s.entries ++ e ∷ []) (outcomes_of log ++ (i.stamp, i.outcome) ∷ []) end = subst (λ (ps : Outcomes). IsHistory s.script (s.entries ++ e ∷ []) ps end) all now in
    record {
      entry = e;
      live = live;
      statement = record { catalogue = d.catalogue; statement = tells.statement; defines = history_catalogue s.script s.entries (outcomes_of log) d before; read = subst (λ k. IsRead d.catalogue k text tells.statement) known.dialect_is (subst (λ t. IsRead d.catalogue e.dialect t tells.statement) known.text_is tells.read) };
      next = next;
      stamp = stamp;
      last = is;
      union = ap (λ (z : Seen). z.entries) is ∙ sym (union_last s.site s.entries e known.site known.numbers);
      before = outcomes_of log;
      were = (d, before);
      are = subst (λ (z : Seen). (f : DatabaseData) × IsHistory z.script z.entries (outcomes_of log ++ (i.stamp, i.outcome) ∷ []) f) (sym is) (end, are);
    }

pub issues_refusal : (s after : Seen) (text : List ℕ) (os : Outcomes) (d : DatabaseData) (error : IssueError) → s.live ≡ true → IsHistory s.script s.entries os d → after ≡ s → IsRefusal d.catalogue text error → Issues s text (Err error) after
issues_refusal s after text os d issue_error.Syntax live st same h = ((live, same), h)
issues_refusal s after text os d issue_error.IllTyped live st same h = ((live, same), record { catalogue = d.catalogue; statement = h.0; defines = history_catalogue s.script s.entries os d st; reads = h.1; refused = h.2 })
issues_refusal s after text os d issue_error.OutOfMemory live st same h = ((live, same), h)
issues_refusal s after text os d issue_error.Broken live st same h = absurd h
issues_refusal s after text os d issue_error.ClockEnd live st same h = absurd h
issues_refusal s after text os d issue_error.Full live st same h = absurd h
issues_refusal s after text os d issue_error.JournalWrite live st same h = absurd h

pub issues_no_entry : (s : Seen) (text : List ℕ) (os : Outcomes) (d : DatabaseData) (error : IssueError) (x : TypedStatement) → s.live ≡ true → IsHistory s.script s.entries os d → IsRead d.catalogue latest_dialect text x → length text ≤ 8192 → Numbers s text (Err error) → Issues s text (Err error) s
issues_no_entry s text os d issue_error.ClockEnd x live st read short h = ((live, refl), record { catalogue = d.catalogue; statement = x; defines = history_catalogue s.script s.entries os d st; read = read }, h)
issues_no_entry s text os d issue_error.Full x live st read short h = ((live, refl), record { catalogue = d.catalogue; statement = x; defines = history_catalogue s.script s.entries os d st; read = read }, h)
issues_no_entry s text os d issue_error.OutOfMemory x live st read short h = ((live, refl), short)
issues_no_entry s text os d issue_error.Broken x live st read short h = absurd h
issues_no_entry s text os d issue_error.Syntax x live st read short h = absurd h
issues_no_entry s text os d issue_error.IllTyped x live st read short h = absurd h
issues_no_entry s text os d issue_error.JournalWrite x live st read short h = absurd h
