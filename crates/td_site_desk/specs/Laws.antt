-- What holds over all statements of a desk.
use Rattle.std.specs.Prelude.{◌≡◌, ◌⊎◌, ℕ, false, List, [], ◌∷◌, Option, Some, None, Contains, option_copied}
use Rattle.std.specs.Borrow.{Bor}
use Rattle.td_client_tokens.specs.declared.rights.Rights.TheVariants.{Read, All}
use Rattle.td_client_tokens.specs.declared.token.ClientToken.{ClientToken}
use Rattle.td_http_api.specs.Answers.{Answer}
use Rattle.td_http_api.specs.Rights.{MayMake}
use Rattle.td_http_api.specs.declared.calls.ApiCall.{ApiCall}
use Rattle.td_http_api.specs.declared.calls.ApiCall.TheVariants.{Meet, Statement, Stop}
use Rattle.td_replica.specs.Seen.{Seen}
use Rattle.td_stamps.specs.declared.entry.Entry.{Entry}
use Rattle.td_statement_keys.specs.Authors.{IsSignedBy, signed_text}
use Rattle.td_statement_keys.specs.Keys.{is_keyed_text, issued_text}
use Rattle.td_statement_keys.specs.Laws.{EachOnce, KeepsKeyed}
use Rattle.td_site_desk.specs.Sites.{Changes}

-- the site holds a statement of its own with this text
pub record HoldsOwn (s : Seen) (text : List ℕ) : Type 0 where
  pub entry : Entry
  pub held : Contains s.entries entry
  pub own : entry.site ≡ s.site
  pub text_is : entry.text ≡ text

-- where a statement is answered with 200, the site holds it
abbrev pub AnsweredAreHeld : Type 0
AnsweredAreHeld =
    (failing : Option (List ℕ)) (text : Bor (List ℕ)) (key author : Option (Bor (List ℕ))) (answer : Answer) (old new : Seen)
    → Changes failing (Statement text key author) (Some answer) old new → answer.status ≡ 200
    → HoldsOwn new (issued_text (option_copied key) (signed_text (option_copied author) text.now))

-- an entry that a statement adds has the comment of the name of its token, or of none
abbrev pub AddedHaveTheName : Type 0
AddedHaveTheName =
    (failing : Option (List ℕ)) (text : Bor (List ℕ)) (key author : Option (Bor (List ℕ))) (answer : Option Answer) (old new : Seen)
    → Changes failing (Statement text key author) answer old new
    → (entry : Entry) → Contains new.entries entry → Contains old.entries entry ⊎ IsSignedBy (option_copied author) entry.text

-- a call by a token that may only read leaves the site as it was
abbrev pub ReadersChangeNothing : Type 0
ReadersChangeNothing =
    (token : ClientToken) (call : ApiCall) (failing : Option (List ℕ)) (answer : Option Answer) (old new : Seen)
    → token.rights ≡ Read → MayMake token call → Changes failing call answer old new → new ≡ old

-- a call by a token that may only read or write has no peer called, and does not end the program
abbrev pub WritersOnlyWrite : Type 0
WritersOnlyWrite =
    (token : ClientToken) (call : ApiCall) → ¬ (token.rights ≡ All) → MayMake token call
    → ¬ (call ≡ Stop) × ((address : Bor (List ℕ)) → ¬ (call ≡ Meet address))

-- a statement without a key, by a token without a name, does not begin with the comment of a key
abbrev pub IsPlain : ApiCall → Type 0
IsPlain (Statement text None None) = is_keyed_text text.now ≡ false
IsPlain _ = Unit {0}

-- a call of a desk
pub record IsCall (old new : Seen) : Type 0 where
  pub failing : Option (List ℕ)
  pub call : ApiCall
  pub answer : Option Answer
  pub plain : IsPlain call
  pub changes : Changes failing call answer old new

-- another change, by which no statement with a key is added to the site's own: a meeting brings those of other sites
pub record KeepsOwnKeyed (old new : Seen) : Type 0 where
  pub site : new.site ≡ old.site
  pub keyed : KeepsKeyed old.site old.entries new.entries

-- any of these, one after the other
abbrev pub DeskSteps : Seen → List Seen → Seen → Type 0
DeskSteps old [] new = new ≡ old
DeskSteps old (next ∷ later) new = (IsCall old next ⊎ KeepsOwnKeyed old next) × DeskSteps next later new

-- a key has one statement at most among the last ones with keys, if that was so at the beginning: each key acts once
abbrev pub KeysActOnce : Type 0
KeysActOnce =
    (old : Seen) (between : List Seen) (new : Seen) → DeskSteps old between new
    → EachOnce old.site old.entries → EachOnce new.site new.entries
