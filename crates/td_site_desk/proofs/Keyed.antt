-- What the statements of a desk add, and that each key acts once.
use Rattle.std.proofs.Common.{◌≡◌, ◌∙◌, ℕ, ◌⊎◌, ◌≤◌, ◌==◌, Bool, true, false, nat_lt, cond, if◌then◌else◌, List, [], ◌∷◌, ◌++◌, length, filter, Option, Some, None, option_copied, option_map, Result, Ok, Err, IfOk, inl, inr, ⊎_elim, refl, sym, ap, subst, arith, append-nil}
use Rattle.std.specs.Borrow.{Bor}
use Rattle.std.specs.List.{Contains}
use Rattle.std.proofs.lemmas.Bool.{and_right}
use Rattle.std.proofs.lemmas.List.Elements.{Contains-push, Contains-push_cases, filter-append}
use Rattle.td_http_api.specs.Answers.{Answer}
use Rattle.td_http_api.specs.declared.calls.ApiCall.{ApiCall}
use Rattle.td_http_api.specs.declared.calls.ApiCall.TheVariants.{Statement}
use Rattle.td_replica.specs.Calls.{Issues, entry_of, if_room, numbered}
use Rattle.td_replica.specs.Seen.{Seen}
use Rattle.td_replica.specs.declared.calls.Issued.{Issued}
use Rattle.td_replica.specs.declared.refusal.IssueError.{IssueError}
use Rattle.td_replica.specs.declared.refusal.IssueError.TheVariants as issue_error
use Rattle.td_stamps.specs.Checks.{next_of}
use Rattle.td_stamps.specs.declared.entry.Entry.{Entry}
use Rattle.td_statement_keys.specs.Authors.{IsSignedBy, is_signed, signed_text}
use Rattle.td_statement_keys.specs.Keys.{is_keyed_text, is_own_keyed, issued_text, keyed_entry}
use Rattle.td_statement_keys.specs.Laws.{EachOnce, KeyedStep}
use Rattle.td_statement_keys.proofs.Found.{found_are_held}
use Rattle.td_statement_keys.proofs.Names.{names_are_kept, names_are_no_keys}
use Rattle.td_statement_keys.proofs.Once.{each_key_acts_once}
use Rattle.td_site_desk.specs.Laws.{AddedHaveTheName, AnsweredAreHeld, DeskSteps, HoldsOwn, IsCall, IsPlain, KeepsOwnKeyed, KeysActOnce}
use Rattle.td_site_desk.specs.Sites.{AnswersStatement, AnswersUnlessFailing, AnswersUnsigned, Changes, IsStatusOf, known_entry}

-- ---- what an issue adds

abbrev IsOwn : Seen → List ℕ → Entry → Type 0
IsOwn s text e = (e.site ≡ s.site) × (e.text ≡ text)

room_is_own : (s : Seen) (text : List ℕ) (e : Entry) → IsOwn s text e → IfOk (if_room s e) (IsOwn s text)
room_is_own s text e own =
    elim (nat_lt (length s.entries) s.limit) as (λ b. IfOk {E = IssueError} (if b then Ok e else Err issue_error.Full) (IsOwn s text)) [
      | true ↦ own
      | false ↦ tt
    ]

next_is_own : (s : Seen) (text : List ℕ) → IfOk (entry_of s text) (IsOwn s text)
next_is_own s text =
    elim (next_of s.site s.entries) as (λ r. IfOk (numbered s text r) (IsOwn s text)) [
      | Ok n ↦ room_is_own s text _ (refl, refl)
      | Err e ↦ tt
    ]

issued_is_own : (s : Seen) (text : List ℕ) (e : Entry) → entry_of s text ≡ Ok e → IsOwn s text e
issued_is_own s text e next = subst (λ r. IfOk r (IsOwn s text)) next (next_is_own s text)

-- nothing, or one entry at the end
abbrev Adds : Seen → List ℕ → Seen → Type 0
Adds s text after =
    (after.site ≡ s.site)
    × ((after.entries ≡ s.entries) ⊎ ((e : Entry) × IsOwn s text e × (after.entries ≡ s.entries ++ e ∷ [])))

adds_none : (s : Seen) (text : List ℕ) (after : Seen) → after ≡ s → Adds s text after
adds_none s text after same = (ap (λ (x : Seen). x.site) same, inl (ap (λ (x : Seen). x.entries) same))

issue_adds : (s : Seen) (text : List ℕ) (result : Result Issued IssueError) (after : Seen) → Issues s text result after → Adds s text after
issue_adds s text (Ok i) after h =
    (ap (λ (x : Seen). x.site) h.last, inr (h.entry, issued_is_own s text h.entry h.next, ap (λ (x : Seen). x.entries) h.last))
issue_adds s text (Err issue_error.Broken) after h = adds_none s text after h.1
issue_adds s text (Err issue_error.Syntax) after h = adds_none s text after h.0.1
issue_adds s text (Err issue_error.IllTyped) after h = adds_none s text after h.0.1
issue_adds s text (Err issue_error.ClockEnd) after h = adds_none s text after h.0.1
issue_adds s text (Err issue_error.Full) after h = adds_none s text after h.0.1
issue_adds s text (Err issue_error.OutOfMemory) after h = adds_none s text after h.0.1
issue_adds s text (Err issue_error.JournalWrite) after h =
    (ap (λ (x : Seen). x.site) h.3.1, inr (h.1, issued_is_own s text h.1 h.2, ap (λ (x : Seen). x.entries) h.3.1))

-- ---- what is answered with 200 is held

never : (status : ℕ) → 400 ≤ status → status ≡ 200 → ⊥
never status least is = omega arith

entry_is_held : (s : Seen) (text : List ℕ) (after : Seen) (e : Entry) → IsOwn s text e → after.site ≡ s.site
    → after.entries ≡ s.entries ++ e ∷ [] → HoldsOwn after text
entry_is_held s text after e own site added =
    record { entry = e; held = subst (λ es. Contains es e) (sym added) (Contains-push s.entries e); own = own.0 ∙ sym site; text_is = own.1 }

issued_is_held : (s : Seen) (text : List ℕ) (result : Result Issued IssueError) (status : ℕ) (after : Seen) → Issues s text result after
    → IsStatusOf result status → status ≡ 200 → HoldsOwn after text
issued_is_held s text (Ok i) status after h told is =
    entry_is_held s text after h.entry (issued_is_own s text h.entry h.next) (ap (λ (x : Seen). x.site) h.last) (ap (λ (x : Seen). x.entries) h.last)
issued_is_held s text (Err e) status after h told is = absurd (never status told is)

abbrev IsHeld : Seen → Entry → Type 0
IsHeld s e = Contains s.entries e × (e.site ≡ s.site)

answer_is_held : (known : Option Entry) (old : Seen) (text : List ℕ) (status : ℕ) (new : Seen) → ((e : Entry) → known ≡ Some e → IsHeld old e)
    → AnswersStatement known old text (Some status) new → status ≡ 200 → HoldsOwn new text
answer_is_held None old text status new held (inl i) is = issued_is_held old text i.result status new i.issues i.answered is
answer_is_held None old text status new held (inr u) is = absurd (never status u.answered is)
answer_is_held (Some e) old text status new held k is =
    ⊎_elim
    (λ told.
    let here = held e refl in
    let before : HoldsOwn old text = record { entry = e; held = here.0; own = here.1; text_is = told.1 } in
    subst (λ s. HoldsOwn s text) (sym k.kept) before)
    (λ told. absurd (never status told is))
    k.answered

known_is_held : (s : Seen) (key : Option (List ℕ)) (e : Entry) → known_entry s key ≡ Some e → IsHeld s e
known_is_held s None e found = absurd (let none : None ≡ Some e = found in cc)
known_is_held s (Some key) e found =
    let is = found_are_held s.site key s.entries e found in
    (is.0, is.1)

unsigned_is_held : (signed : Bool) (key name : Option (List ℕ)) (old : Seen) (text : List ℕ) (status : ℕ) (new : Seen)
    → AnswersUnsigned signed key name old text (Some status) new → status ≡ 200 → HoldsOwn new (issued_text key (signed_text name text))
unsigned_is_held true key name old text status new unissued is = absurd (never status unissued.answered is)
unsigned_is_held false key name old text status new answers is =
    answer_is_held (known_entry old key) old (issued_text key (signed_text name text)) status new (known_is_held old key) answers is

pub answered_are_held : AnsweredAreHeld
answered_are_held (Some why) text key author answer old new changes is = absurd (never answer.status changes.answered is)
answered_are_held None text key author answer old new changes is =
    unsigned_is_held (is_signed text.now) (option_copied key) (option_copied author) old text.now answer.status new changes is

-- ---- what is added has the comment of the name

answer_adds : (known : Option Entry) (old : Seen) (text : List ℕ) (status : Option ℕ) (new : Seen) → AnswersStatement known old text status new → Adds old text new
answer_adds None old text status new (inl i) = issue_adds old text i.result new i.issues
answer_adds None old text status new (inr u) = adds_none old text new u.kept
answer_adds (Some e) old text status new k = adds_none old text new k.kept

kept_or_named : (name : Option (List ℕ)) (old : Seen) (text : List ℕ) (new : Seen) → IsSignedBy name text → Adds old text new
    → (e : Entry) → Contains new.entries e → Contains old.entries e ⊎ IsSignedBy name e.text
kept_or_named name old text new signed (site, inl same) e held = inl (subst (λ es. Contains es e) same held)
kept_or_named name old text new signed (site, inr added) e held =
    ⊎_elim
    (λ before. inl before)
    (λ (is : added.0 ≡ e). inr (subst (IsSignedBy name) (sym added.1.1 ∙ ap (λ (x : Entry). x.text) is) signed))
    (Contains-push_cases old.entries added.0 e (subst (λ es. Contains es e) added.2 held))

unsigned_adds_named : (signed : Bool) (key name : Option (List ℕ)) (old : Seen) (text : List ℕ) (status : Option ℕ) (new : Seen) → is_signed text ≡ signed
    → AnswersUnsigned signed key name old text status new → (e : Entry) → Contains new.entries e → Contains old.entries e ⊎ IsSignedBy name e.text
unsigned_adds_named true key name old text status new is unissued e held = inl (subst (λ (s : Seen). Contains s.entries e) unissued.kept held)
unsigned_adds_named false key name old text status new is answers e held =
    let issued = issued_text key (signed_text name text) in
    kept_or_named name old issued new (names_are_kept key name text is) (answer_adds (known_entry old key) old issued status new answers) e held

pub added_have_the_name : AddedHaveTheName
added_have_the_name (Some why) text key author answer old new changes e held = inl (subst (λ (s : Seen). Contains s.entries e) changes.kept held)
added_have_the_name None text key author answer old new changes e held =
    unsigned_adds_named (is_signed text.now) (option_copied key) (option_copied author) old text.now (option_map (λ a. a.status) answer) new refl changes e held

-- ---- each key acts once

abbrev Steps : Seen → Seen → Type 0
Steps old new = (new.site ≡ old.site) × KeyedStep old.site old.entries new.entries

same_steps : (old new : Seen) → new ≡ old → Steps old new
same_steps old new same =
    (ap (λ (x : Seen). x.site) same, inr (ap (λ (x : Seen). filter (is_own_keyed old.site) x.entries) same))

plain_steps : (old : Seen) (text : List ℕ) (new : Seen) → is_keyed_text text ≡ false → Adds old text new → Steps old new
plain_steps old text new plain (site, inl same) = (site, inr (ap (filter (is_own_keyed old.site)) same))
plain_steps old text new plain (site, inr added) =
    let e = added.0 in
    let q = is_own_keyed old.site in
    let no' : q e ≡ false = and_right (e.site == old.site) (is_keyed_text e.text) (ap is_keyed_text added.1.1 ∙ plain) in
    let none : filter q (e ∷ []) ≡ [] = rw no' refl in
    (site, inr (ap (filter q) added.2 ∙ filter-append q old.entries (e ∷ []) ∙ ap (λ l. filter q old.entries ++ l) none ∙ append-nil (filter q old.entries)))

keyed_steps : (old : Seen) (key text : List ℕ) (new : Seen) → keyed_entry old.site key old.entries ≡ None → Adds old (issued_text (Some key) text) new → Steps old new
keyed_steps old key text new unseen (site, inl same) = (site, inl (key, text, inr same))
keyed_steps old key text new unseen (site, inr added) =
    (site, inl (key, text, inl (record { unseen = unseen; entry = added.0; own = added.1.0; text_is = added.1.1; added = added.2 })))

answer_steps : (known : Option Entry) (old : Seen) (key text : List ℕ) (status : Option ℕ) (new : Seen) → keyed_entry old.site key old.entries ≡ known
    → AnswersStatement known old (issued_text (Some key) text) status new → Steps old new
answer_steps None old key text status new unseen (inl i) =
    keyed_steps old key text new unseen (issue_adds old (issued_text (Some key) text) i.result new i.issues)
answer_steps None old key text status new unseen (inr u) = same_steps old new u.kept
answer_steps (Some e) old key text status new seen k = same_steps old new k.kept

plain_answer_steps : (old : Seen) (text : List ℕ) (status : Option ℕ) (new : Seen) → is_keyed_text text ≡ false → AnswersStatement None old text status new → Steps old new
plain_answer_steps old text status new plain (inl i) = plain_steps old text new plain (issue_adds old text i.result new i.issues)
plain_answer_steps old text status new plain (inr u) = same_steps old new u.kept

-- without a key, what is issued has none
plain_signed : (text : Bor (List ℕ)) (author : Option (Bor (List ℕ))) → IsPlain (Statement text None author) → is_keyed_text (signed_text (option_copied author) text.now) ≡ false
plain_signed text None plain = plain
plain_signed text (Some author) plain = names_are_no_keys author.now text.now

unsigned_steps : (signed : Bool) (text : Bor (List ℕ)) (key author : Option (Bor (List ℕ))) (status : Option ℕ) (old new : Seen)
    → IsPlain (Statement text key author) → AnswersUnsigned signed (option_copied key) (option_copied author) old text.now status new → Steps old new
unsigned_steps true text key author status old new plain unissued = same_steps old new unissued.kept
unsigned_steps false text None author status old new plain answers =
    plain_answer_steps old (signed_text (option_copied author) text.now) status new (plain_signed text author plain) answers
unsigned_steps false text (Some key) author status old new plain answers =
    answer_steps (keyed_entry old.site key.now old.entries) old key.now (signed_text (option_copied author) text.now) status new refl answers

statement_steps : (failing : Option (List ℕ)) (text : Bor (List ℕ)) (key author : Option (Bor (List ℕ))) (status : Option ℕ) (old new : Seen)
    → IsPlain (Statement text key author) → AnswersUnlessFailing failing (option_copied key) (option_copied author) old text.now status new → Steps old new
statement_steps (Some why) text key author status old new plain changes = same_steps old new changes.kept
statement_steps None text key author status old new plain changes =
    unsigned_steps (is_signed text.now) text key author status old new plain changes

call_steps : (failing : Option (List ℕ)) (call : ApiCall) (answer : Option Answer) (old new : Seen) → IsPlain call → Changes failing call answer old new → Steps old new
call_steps failing (Statement text key author) answer old new plain changes =
    statement_steps failing text key author (option_map (λ a. a.status) answer) old new plain changes
call_steps failing _ answer old new plain changes = same_steps old new changes

steps_once : (old new : Seen) → Steps old new → EachOnce old.site old.entries → EachOnce new.site new.entries
steps_once old new s once =
    subst (λ n. EachOnce n new.entries) (sym s.0) (each_key_acts_once old.site old.entries (new.entries ∷ []) new.entries (s.1, refl) once)

step_once : (old new : Seen) → IsCall old new ⊎ KeepsOwnKeyed old new → EachOnce old.site old.entries → EachOnce new.site new.entries
step_once old new (inl c) once = steps_once old new (call_steps c.failing c.call c.answer old new c.plain c.changes) once
step_once old new (inr k) once = steps_once old new (k.site, inr k.keyed) once

pub keys_act_once : KeysActOnce
keys_act_once old [] new same once = subst (λ s. EachOnce s.site s.entries) (sym same) once
keys_act_once old (next ∷ later) new steps once = keys_act_once next later new steps.1 (step_once old next steps.0 once)
