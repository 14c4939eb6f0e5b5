-- What the calls of a desk do to its site, and with which status that is answered.
use Rattle.std.specs.Prelude.{◌≡◌, ◌⊎◌, ◌≤◌, ℕ, Bool, true, false, List, length, Option, None, Some, IfSome, Result, Ok, Err, if◌then◌else◌, option_copied, option_map}
use Rattle.td_http_api.specs.Answers.{Answer}
use Rattle.td_http_api.specs.declared.calls.ApiCall.{ApiCall}
use Rattle.td_http_api.specs.declared.calls.ApiCall.TheVariants.{Statement}
use Rattle.td_replica.specs.Calls.{Issues}
use Rattle.td_replica.specs.Seen.{Seen}
use Rattle.td_replica.specs.declared.calls.Issued.{Issued}
use Rattle.td_replica.specs.declared.refusal.IssueError.{IssueError}
use Rattle.td_site_messages.specs.declared.wording.TheConstants.{BROKEN, LACKING}
use Rattle.td_stamps.specs.declared.entry.Entry.{Entry}
use Rattle.td_statement_keys.specs.Authors.{is_signed, signed_text}
use Rattle.td_statement_keys.specs.Keys.{issued_text, keyed_entry}

-- how many statements an open site holds
abbrev pub statement_count : Seen → ℕ
statement_count s = if s.live then length s.entries else 0

-- an issue is answered with 200, and one that is refused with 400 or more
abbrev pub IsStatusOf : Result Issued IssueError → ℕ → Type 0
IsStatusOf (Ok issued) status = status ≡ 200
IsStatusOf (Err error) status = 400 ≤ status

-- the text was issued, and the status is that of the result, if memory did not run out
pub record IsIssued (old : Seen) (text : List ℕ) (status : Option ℕ) (new : Seen) : Type 0 where
  pub result : Result Issued IssueError
  pub issues : Issues old text result new
  pub answered : IfSome status (IsStatusOf result)

-- nothing was issued, and the status is 400 or more
pub record IsUnissued (old : Seen) (status : Option ℕ) (new : Seen) : Type 0 where
  pub kept : new ≡ old
  pub answered : IfSome status (λ s. 400 ≤ s)

-- the status 200 says that this entry has this text
abbrev pub IsStatusBy : Entry → List ℕ → ℕ → Type 0
IsStatusBy entry text status = ((status ≡ 200) × (entry.text ≡ text)) ⊎ (400 ≤ status)

-- nothing was issued, since this entry was issued under the key
pub record IsRepeated (entry : Entry) (old : Seen) (text : List ℕ) (status : Option ℕ) (new : Seen) : Type 0 where
  pub kept : new ≡ old
  pub answered : IfSome status (IsStatusBy entry text)

-- the statement of the site that was issued under the key, if there is a key
abbrev pub known_entry : Seen → Option (List ℕ) → Option Entry
known_entry s None = None
known_entry s (Some key) = keyed_entry s.site key s.entries

-- What comes of a statement with this text, by the entry that its key has: where there is none, it is issued or not.
abbrev pub AnswersStatement : Option Entry → Seen → List ℕ → Option ℕ → Seen → Type 0
AnswersStatement None old text status new = IsIssued old text status new ⊎ IsUnissued old status new
AnswersStatement (Some entry) old text status new = IsRepeated entry old text status new

-- Why a site takes no statements: it is suspended for a reason, it is not open, or it lacks statements that it had.
abbrev pub failing_of : Option (List ℕ) → Bool → Bool → Option (List ℕ)
failing_of (Some why) is_open is_lacking = Some why
failing_of None false is_lacking = Some BROKEN.now
failing_of None true true = Some LACKING.now
failing_of None true false = None

-- What comes of a statement, by whether it has the comment of a name already: that is not issued. Else the comment of the
-- token's name comes first, and that of the key before it.
abbrev pub AnswersUnsigned : Bool → Option (List ℕ) → Option (List ℕ) → Seen → List ℕ → Option ℕ → Seen → Type 0
AnswersUnsigned true key name old text status new = IsUnissued old status new
AnswersUnsigned false key name old text status new =
    AnswersStatement (known_entry old key) old (issued_text key (signed_text name text)) status new

-- what comes of a statement by a token of this name, if the site takes statements, and if not
abbrev pub AnswersUnlessFailing : Option (List ℕ) → Option (List ℕ) → Option (List ℕ) → Seen → List ℕ → Option ℕ → Seen → Type 0
AnswersUnlessFailing (Some why) key name old text status new = IsUnissued old status new
AnswersUnlessFailing None key name old text status new = AnswersUnsigned (is_signed text) key name old text status new

-- a statement is answered, where the site takes none by a fault; every other call leaves the site as it was
abbrev pub Changes : Option (List ℕ) → ApiCall → Option Answer → Seen → Seen → Type 0
Changes failing (Statement text key author) answer old new =
    AnswersUnlessFailing failing (option_copied key) (option_copied author) old text.now (option_map (λ a. a.status) answer) new
Changes failing _ answer old new = new ≡ old
