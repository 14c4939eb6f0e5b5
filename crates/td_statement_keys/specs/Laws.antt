-- What holds over all statements that are issued under keys.
use Rattle.std.specs.Prelude.{◌≡◌, ◌⊎◌, ◌≤◌, ℕ, true, false, List, [], ◌∷◌, ◌++◌, length, filter, Contains, Option, Some, None}
use Rattle.td_stamps.specs.declared.entry.Entry.{Entry}
use Rattle.td_statement_keys.specs.Authors.{IsSignedBy, is_signed, signed_text}
use Rattle.td_statement_keys.specs.Keys.{has_prefix, is_keyed_text, is_own_keyed, issued_text, key_comment, keyed_entry, last_keyed}

-- a statement is issued under a key by which none is found
pub record IssuesUnder (site : ℕ) (key text : List ℕ) (old new : List Entry) : Type 0 where
  pub unseen : keyed_entry site key old ≡ None
  pub entry : Entry
  pub own : entry.site ≡ site
  pub text_is : entry.text ≡ issued_text (Some key) text
  pub added : new ≡ old ++ entry ∷ []

-- a call of a statement under a key issues it so, or issues nothing
abbrev pub CallsUnder : ℕ → List ℕ → List ℕ → List Entry → List Entry → Type 0
CallsUnder site key text old new = IssuesUnder site key text old new ⊎ (new ≡ old)

-- the site's own statements with a key stay as they are: what comes is of other sites, or has no key
abbrev pub KeepsKeyed : ℕ → List Entry → List Entry → Type 0
KeepsKeyed site old new = filter (is_own_keyed site) new ≡ filter (is_own_keyed site) old

-- a call of a statement under a key, or another change
abbrev pub KeyedStep : ℕ → List Entry → List Entry → Type 0
KeyedStep site old new = ((key text : List ℕ) × CallsUnder site key text old new) ⊎ KeepsKeyed site old new

-- any steps, one after the other, by what the site holds after each
abbrev pub KeyedSteps : ℕ → List Entry → List (List Entry) → List Entry → Type 0
KeyedSteps site old [] new = new ≡ old
KeyedSteps site old (next ∷ later) new = KeyedStep site old next × KeyedSteps site next later new

-- of the last statements with keys, one at most has the comment of a key
abbrev pub EachOnce : ℕ → List Entry → Type 0
EachOnce site es = (key : List ℕ) → length (filter (λ e. has_prefix (key_comment key) e.text) (last_keyed site es)) ≤ 1

-- each key acts once, however often it is sent: that is so at the end, if it is so at the beginning
abbrev pub EachKeyActsOnce : Type 0
EachKeyActsOnce =
    (site : ℕ) (old : List Entry) (between : List (List Entry)) (new : List Entry)
    → KeyedSteps site old between new → EachOnce site old → EachOnce site new

-- where each key acted once, a statement that is one of the last is found by its key
abbrev pub KeysFindTheirs : Type 0
KeysFindTheirs =
    (site : ℕ) (key : List ℕ) (e : Entry) (es : List Entry) → EachOnce site es → Contains (last_keyed site es) e
    → has_prefix (key_comment key) e.text ≡ true → keyed_entry site key es ≡ Some e

-- the statement that is found by a key is held, is of the site, and begins with the key's comment
abbrev pub FoundAreHeld : Type 0
FoundAreHeld =
    (site : ℕ) (key : List ℕ) (es : List Entry) (e : Entry) → keyed_entry site key es ≡ Some e
    → Contains es e × (e.site ≡ site) × (has_prefix (key_comment key) e.text ≡ true)

-- Where what a client sends has no comment of a name, what is issued has that of the client's token, with a key or not.
abbrev pub NamesAreKept : Type 0
NamesAreKept =
    (key name : Option (List ℕ)) (text : List ℕ) → is_signed text ≡ false → IsSignedBy name (issued_text key (signed_text name text))

-- a text that is issued under a key begins with the comment of one
abbrev pub KeysAreKept : Type 0
KeysAreKept = (key text : List ℕ) → is_keyed_text (issued_text (Some key) text) ≡ true

-- the comment of a name is not that of a key
abbrev pub NamesAreNoKeys : Type 0
NamesAreNoKeys = (name text : List ℕ) → is_keyed_text (signed_text (Some name) text) ≡ false
