-- Each key acts once.
use Rattle.std.proofs.Common.{◌≡◌, ◌∙◌, ℕ, suc, ◌≤◌, Bool, true, false, cond, List, [], ◌∷◌, length, take, filter, find, reverse, Some, None, inl, inr, refl, sym, ap, subst, arith}
use Rattle.std.proofs.lemmas.List.{reverse-append}
use Rattle.td_stamps.specs.declared.entry.Entry.{Entry}
use Rattle.td_statement_keys.specs.Keys.{has_prefix, is_own_keyed, issued_text, key_comment, last_keyed, most_keyed}
use Rattle.td_statement_keys.specs.Laws.{CallsUnder, EachKeyActsOnce, EachOnce, IssuesUnder, KeepsKeyed, KeyedStep, KeysFindTheirs}
use Rattle.td_statement_keys.proofs.Comments.{one_comment}
use Rattle.td_statement_keys.proofs.Filters.{filter-none, filter-reverse, filter-take_more, found_one}

abbrev has : List ℕ → Entry → Bool
has key e = has_prefix (key_comment key) e.text

-- one more statement under a key by which none was found
issued_once : (n : ℕ) (key other text : List ℕ) (e : Entry) (es : List Entry) → e.text ≡ issued_text (Some other) text
    → find (has other) (take (suc n) es) ≡ None → length (filter (has key) (take (suc n) es)) ≤ 1
    → length (filter (has key) (take (suc n) (e ∷ es))) ≤ 1
issued_once n key other text e es issued unseen few =
    let fewer = filter-take_more (has key) n es in
    elim (has key e) as (λ b. has key e ≡ b → length (cond b (e ∷ filter (has key) (take n es)) (filter (has key) (take n es))) ≤ 1) [
      | true ↦ λ begins.
          let one : key_comment key ≡ key_comment other = one_comment key other text (subst (λ t. has_prefix (key_comment key) t ≡ true) issued begins) in
          let none : find (has key) (take (suc n) es) ≡ None = subst (λ c. find (λ x. has_prefix c x.text) (take (suc n) es) ≡ None) (sym one) unseen in
          let empty = ap length (filter-none (has key) (take (suc n) es) none) in
          omega arith
      | false ↦ λ other. omega arith
    ] refl

issues_once : (site : ℕ) (key text : List ℕ) (old new : List Entry) → IssuesUnder site key text old new → EachOnce site old → EachOnce site new
issues_once site key text old new i once = λ k.
    let q = is_own_keyed site in
    let es = filter q (reverse old) in
    let keyed : filter q (reverse new) ≡ cond (q i.entry) (i.entry ∷ es) es =
    ap (λ l. filter q (reverse l)) i.added ∙ ap (filter q) (reverse-append old (i.entry ∷ [])) in
    let each : length (filter (has k) (take most_keyed (cond (q i.entry) (i.entry ∷ es) es))) ≤ 1 =
    elim (q i.entry) as (λ b. length (filter (has k) (take most_keyed (cond b (i.entry ∷ es) es))) ≤ 1) [
      | true ↦ issued_once 999 k key text i.entry es i.text_is i.unseen (once k)
      | false ↦ once k
    ] in
    subst (λ l. length (filter (has k) (take most_keyed l)) ≤ 1) (sym keyed) each

calls_once : (site : ℕ) (key text : List ℕ) (old new : List Entry) → CallsUnder site key text old new → EachOnce site old → EachOnce site new
calls_once site key text old new (inl issues) once = issues_once site key text old new issues once
calls_once site key text old new (inr same) once = subst (EachOnce site) (sym same) once

keeps_once : (site : ℕ) (old new : List Entry) → KeepsKeyed site old new → EachOnce site old → EachOnce site new
keeps_once site old new same once = λ k.
    let q = is_own_keyed site in
    let last : last_keyed site new ≡ last_keyed site old =
    ap (take most_keyed) (filter-reverse q new ∙ ap reverse same ∙ sym (filter-reverse q old)) in
    subst (λ l. length (filter (has k) l) ≤ 1) (sym last) (once k)

step_once : (site : ℕ) (old new : List Entry) → KeyedStep site old new → EachOnce site old → EachOnce site new
step_once site old new (inl call) once = calls_once site call.0 call.1 old new call.2 once
step_once site old new (inr same) once = keeps_once site old new same once

pub each_key_acts_once : EachKeyActsOnce
each_key_acts_once site old [] new same once = subst (EachOnce site) (sym same) once
each_key_acts_once site old (next ∷ later) new steps once =
    each_key_acts_once site next later new steps.1 (step_once site old next steps.0 once)

pub keys_find_theirs : KeysFindTheirs
keys_find_theirs site key e es once among begins =
    found_one (has key) (last_keyed site es) e among.0 (once key) among.1 among.2 begins
