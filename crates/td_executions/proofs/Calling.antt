-- Calls on sets are events of executions.
use Rattle.std.proofs.Common.{◌≡◌, inl, inr, ℕ, ◌≤◌, Bool, true, false, cond, eqb, ◌||◌, List, [], ◌∷◌, ◌++◌, length, None, Ok, refl, sym, ap, subst, ◌∙◌, arith}
use Rattle.std.proofs.lemmas.Bool.{eqb-true, or_cases, or_right, cases_Bool}
use Rattle.std.proofs.lemmas.Bool.Decides.{nat_tests}
use Rattle.std.proofs.lemmas.List.Folds.{list_any-append}
use Rattle.td_stamps.specs.declared.entry.Entry.{Entry}
use Rattle.td_stamps.specs.Entries.{same}
use Rattle.td_stamps.specs.Sets.{has, union, is_set, NoClash}
use Rattle.td_stamps.specs.Checks.{first_clash, last_seq, last_clock, next_of}
use Rattle.td_stamps.proofs.Merges.{head_has, no_first_clash, union_has_both, union_is_set}
use Rattle.td_stamps.proofs.Next.{seq_at_most, clock_at_most, next_free, put_last, next_comes_last}
use Rattle.td_stamps.proofs.SetLemmas.{set-put}
use Rattle.td_executions.specs.GlobalStates.{GlobalState, initial_state, Event, issue, send, deliver, reopen, with_held, with_issued, with_sent, with_set, new_entry, Reached, IsKnown}
use Rattle.td_executions.specs.Calls.{Sets, Call, issues, sends, takes, comes_back, with_one, with_all_sent, AllHeld, AllSent, KeepsSent, Does, Mirrors}
use Rattle.td_executions.specs.Laws.{CallsAreEvents, NoCallClashes}
use Rattle.td_executions.proofs.Sound.{reached_is_sound, none_clash}

-- ---- the numbers of the next entry are those of the members

seq_least : (n : ℕ) (xs : List Entry) (m : ℕ) → ((x : Entry) → has xs x ≡ true → x.site ≡ n → x.seq ≤ m) → last_seq n xs ≤ m
seq_least n [] m h = omega arith
seq_least n (y ∷ ys) m h =
    let ih = seq_least n ys m (λ x in'. h x (or_right _ _ in')) in
    elim (cases_Bool (eqb y.site n)) [
      | inl is ↦ let top : y.seq ≤ m = h y (head_has y ys) (eqb-true y.site n is) in grind (arith, nat_tests)
      | inr other ↦ grind (arith, nat_tests)
    ]

clock_least : (xs : List Entry) (m : ℕ) → ((x : Entry) → has xs x ≡ true → x.clock ≤ m) → last_clock xs ≤ m
clock_least [] m h = omega arith
clock_least (y ∷ ys) m h =
    let ih = clock_least ys m (λ x in'. h x (or_right _ _ in')) in
    let top : y.clock ≤ m = h y (head_has y ys) in omega arith

same_seq : (n : ℕ) (xs ys : List Entry) → ((x : Entry) → has xs x ≡ has ys x) → last_seq n xs ≡ last_seq n ys
same_seq n xs ys alike =
    let up = seq_least n xs (last_seq n ys) (λ x in' at. seq_at_most n ys x (sym (alike x) ∙ in') at) in
    let down = seq_least n ys (last_seq n xs) (λ x in' at. seq_at_most n xs x (alike x ∙ in') at) in
    omega arith

same_clock : (xs ys : List Entry) → ((x : Entry) → has xs x ≡ has ys x) → last_clock xs ≡ last_clock ys
same_clock xs ys alike =
    let up = clock_least xs (last_clock ys) (λ x in'. clock_at_most ys x (sym (alike x) ∙ in')) in
    let down = clock_least ys (last_clock xs) (λ x in'. clock_at_most xs x (alike x ∙ in')) in
    omega arith

same_next : (n : ℕ) (xs ys : List Entry) → ((x : Entry) → has xs x ≡ has ys x) → next_of n xs ≡ next_of n ys
same_next n xs ys alike = rw (same_seq n xs ys alike, same_clock xs ys alike) refl

-- ---- one site's set becomes another

eqb_same : (n : ℕ) → eqb n n ≡ true
eqb_same n = grind (arith, nat_tests)

at_site : (held : ℕ → List Entry) (site : ℕ) (es : List Entry) → with_held held site es site ≡ es
at_site held site es = ap (λ b. cond b es (held site)) (eqb_same site)

elsewhere : (held : ℕ → List Entry) (site : ℕ) (es : List Entry) (t : ℕ) → eqb t site ≡ false → with_held held site es t ≡ held t
elsewhere held site es t other = ap (λ b. cond b es (held t)) other

-- two functions from sites to sets that agree at a site and elsewhere
both_changed : (held other : ℕ → List Entry) (site : ℕ) (es fs : List Entry) → ((t : ℕ) (e : Entry) → has (held t) e ≡ has (other t) e) → ((e : Entry) → has es e ≡ has fs e)
    → (t : ℕ) (e : Entry) → has (with_held held site es t) e ≡ has (with_held other site fs t) e
both_changed held other site es fs alike here t e = elim (cases_Bool (eqb t site)) [
  | inl is ↦ ap (λ (l : List Entry). has l e) (ap (λ b. cond b es (held t)) is) ∙ here e ∙ sym (ap (λ (l : List Entry). has l e) (ap (λ b. cond b fs (other t)) is))
  | inr away ↦ ap (λ (l : List Entry). has l e) (elsewhere held site es t away) ∙ alike t e ∙ sym (ap (λ (l : List Entry). has l e) (elsewhere other site fs t away))
]

sets_changed : (held : ℕ → List Entry) (site : ℕ) (es : List Entry) → ((t : ℕ) → is_set (held t) ≡ true) → is_set es ≡ true → (t : ℕ) → is_set (with_held held site es t) ≡ true
sets_changed held site es all here t = elim (cases_Bool (eqb t site)) [
  | inl is ↦ ap is_set (ap (λ b. cond b es (held t)) is) ∙ here
  | inr away ↦ ap is_set (elsewhere held site es t away) ∙ all t
]

-- ---- an entry is issued

or_swapped : (a b : Bool) → (a || (b || false)) ≡ (b || a)
or_swapped true true = refl
or_swapped true false = refl
or_swapped false true = refl
or_swapped false false = refl

behind : (xs ys : List Entry) (e : Entry) → ((x : Entry) → has xs x ≡ has ys x) → (x : Entry) → has (xs ++ e ∷ []) x ≡ has (e ∷ ys) x
behind xs ys e alike x = list_any-append (same x) xs (e ∷ []) ∙ or_swapped (has xs x) (same x e) ∙ ap (λ b. same x e || b) (alike x)

-- ---- entries are sent

abbrev send_events : ℕ → List Entry → List Event → List Event
send_events site [] evs = evs
send_events site (e ∷ es) evs = send site e ∷ send_events site es evs

abbrev sent_state : GlobalState → List Entry → GlobalState
sent_state u [] = u
sent_state u (e ∷ es) = with_sent (sent_state u es) e

sent_holds : (u : GlobalState) (es : List Entry) (t : ℕ) → (sent_state u es).held t ≡ u.held t
sent_holds u [] t = refl
sent_holds u (e ∷ es) t = sent_holds u es t

sent_has : (u : GlobalState) (es : List Entry) (x : Entry) → has (sent_state u es).sent x ≡ has (es ++ u.sent) x
sent_has u [] x = refl
sent_has u (e ∷ es) x = ap (λ b. same x e || b) (sent_has u es x)

reach_sends : (site : ℕ) (es : List Entry) (evs : List Event) (u : GlobalState) → Reached evs u → ((e : Entry) → has es e ≡ true → has (u.held site) e ≡ true) → Reached (send_events site es evs) (sent_state u es)
reach_sends site [] evs u reached h = reached
reach_sends site (e ∷ es) evs u reached h =
    (sent_state u es, reach_sends site es evs u reached (λ x in'. h x (or_right _ _ in')), (ap (λ (l : List Entry). has l e) (sent_holds u es site) ∙ h e (head_has e es), refl))

-- ---- entries are delivered

abbrev take_events : ℕ → List Entry → List Event → List Event
take_events site [] evs = evs
take_events site (e ∷ es) evs = deliver site e ∷ take_events site es evs

abbrev taken_state : ℕ → GlobalState → List Entry → GlobalState
taken_state site u [] = u
taken_state site u (e ∷ es) = with_set (taken_state site u es) site (e ∷ (taken_state site u es).held site)

taken_sent : (site : ℕ) (u : GlobalState) (es : List Entry) → (taken_state site u es).sent ≡ u.sent
taken_sent site u [] = refl
taken_sent site u (e ∷ es) = taken_sent site u es

or_grouped : (a b c : Bool) → (a || (b || c)) ≡ ((a || b) || c)
or_grouped true b c = refl
or_grouped false b c = refl

taken_has : (site : ℕ) (u : GlobalState) (es : List Entry) (x : Entry) → has ((taken_state site u es).held site) x ≡ (has es x || has (u.held site) x)
taken_has site u [] x = refl
taken_has site u (e ∷ es) x =
    ap (λ (l : List Entry). has l x) (at_site (taken_state site u es).held site (e ∷ (taken_state site u es).held site))
    ∙ ap (λ b. same x e || b) (taken_has site u es x) ∙ or_grouped (same x e) (has es x) (has (u.held site) x)

taken_elsewhere : (site : ℕ) (u : GlobalState) (es : List Entry) (t : ℕ) → eqb t site ≡ false → (taken_state site u es).held t ≡ u.held t
taken_elsewhere site u [] t away = refl
taken_elsewhere site u (e ∷ es) t away = elsewhere (taken_state site u es).held site (e ∷ (taken_state site u es).held site) t away ∙ taken_elsewhere site u es t away

reach_takes : (site : ℕ) (es : List Entry) (evs : List Event) (u : GlobalState) → Reached evs u → ((e : Entry) → has es e ≡ true → has u.sent e ≡ true) → Reached (take_events site es evs) (taken_state site u es)
reach_takes site [] evs u reached h = reached
reach_takes site (e ∷ es) evs u reached h =
    (taken_state site u es, reach_takes site es evs u reached (λ x in'. h x (or_right _ _ in')), (ap (λ (l : List Entry). has l e) (taken_sent site u es) ∙ h e (head_has e es), refl))

-- what is held and what was sent doesn't clash
known_apart : (evs : List Event) (u : GlobalState) (w : Sets) → Reached evs u → Mirrors w u → (site : ℕ) (es : List Entry) → AllSent w es → NoClash (w.held site ++ es)
known_apart evs u w reached mirrors site es sent x y in_x in_y = none_clash u (reached_is_sound next_comes_last evs u reached) x y (known x in_x) (known y in_y)
  where
    known : (z : Entry) → has (w.held site ++ es) z ≡ true → IsKnown u z
    known z in' = elim (or_cases _ _ (sym (list_any-append (same z) (w.held site) es) ∙ in')) [
      | inl at ↦ inr (site, sym (mirrors.held site z) ∙ at)
      | inr in_batch ↦ inl (sym (mirrors.sent z) ∙ sent z in_batch)
    ]

or_turned : (a b : Bool) → (a || b) ≡ (b || a)
or_turned true true = refl
or_turned true false = refl
or_turned false true = refl
or_turned false false = refl

-- ---- each call

abbrev Follows : Sets → Type 0
Follows w = (evs : List Event) × (u : GlobalState) × Reached evs u × Mirrors w u

after_issue : (w : Sets) (site dialect : ℕ) (text : List ℕ) (n : ℕ × ℕ) → next_of site (w.held site) ≡ Ok n → 1 ≤ dialect → dialect ≤ 2 → length text ≤ 8192 → Follows w
    → Follows (with_one w site (w.held site ++ new_entry site n dialect text ∷ []))
after_issue w site dialect text n next low high short (evs, u, reached, mirrors) =
    let e = new_entry site n dialect text in (
      issue site dialect text ∷ evs,
      with_issued u site e,
      (u, reached, (n, sym (same_next site (w.held site) (u.held site) (mirrors.held site)) ∙ next, low, high, short, refl)),
      record {
        held = both_changed w.held u.held site (w.held site ++ e ∷ []) (e ∷ u.held site) mirrors.held (behind (w.held site) (u.held site) e (mirrors.held site));
        sent = mirrors.sent;
        sets = sets_changed w.held site (w.held site ++ e ∷ []) mirrors.sets
            (subst (λ (l : List Entry). is_set l ≡ true) (put_last site (w.held site) e refl next) (set-put e (w.held site) (mirrors.sets site) (next_free site (w.held site) e refl next)));
      },
    )

append_same : (es xs ys : List Entry) (x : Entry) → has xs x ≡ has ys x → has (es ++ xs) x ≡ has (es ++ ys) x
append_same es xs ys x alike = list_any-append (same x) es xs ∙ ap (λ b. has es x || b) alike ∙ sym (list_any-append (same x) es ys)

after_send : (w : Sets) (site : ℕ) (es : List Entry) → AllHeld w site es → Follows w → Follows (with_all_sent w es)
after_send w site es holds (evs, u, reached, mirrors) = (
  send_events site es evs,
  sent_state u es,
  reach_sends site es evs u reached (λ e in'. sym (mirrors.held site e) ∙ holds e in'),
  record {
    held = λ t x. mirrors.held t x ∙ sym (ap (λ (l : List Entry). has l x) (sent_holds u es t));
    sent = λ x. append_same es w.sent u.sent x (mirrors.sent x) ∙ sym (sent_has u es x);
    sets = mirrors.sets;
  },
)

after_take : (w : Sets) (site : ℕ) (es : List Entry) → AllSent w es → Follows w → Follows (with_one w site (union (w.held site) es))
after_take w site es sent (evs, u, reached, mirrors) =
    let apart = known_apart evs u w reached mirrors site es sent in (
      take_events site es evs,
      taken_state site u es,
      reach_takes site es evs u reached (λ e in'. sym (mirrors.sent e) ∙ sent e in'),
      record {
        held = λ t x. held_same apart t x;
        sent = λ x. mirrors.sent x ∙ sym (ap (λ (l : List Entry). has l x) (taken_sent site u es));
        sets = sets_changed w.held site (union (w.held site) es) mirrors.sets (union_is_set (w.held site) es (mirrors.sets site) apart);
      },
    )
  where
    held_same : NoClash (w.held site ++ es) → (t : ℕ) (x : Entry) → has (with_held w.held site (union (w.held site) es) t) x ≡ has ((taken_state site u es).held t) x
    held_same apart t x = elim (cases_Bool (eqb t site)) [
      | inl is ↦
          ap (λ (l : List Entry). has l x) (ap (λ b. cond b (union (w.held site) es) (w.held t)) is)
          ∙ union_has_both (w.held site) es (mirrors.sets site) apart x
          ∙ or_turned (has (w.held site) x) (has es x)
          ∙ ap (λ b. has es x || b) (mirrors.held site x)
          ∙ sym (taken_has site u es x)
          ∙ ap (λ s. has ((taken_state site u es).held s) x) (sym (eqb-true t site is))
      | inr away ↦
          ap (λ (l : List Entry). has l x) (elsewhere w.held site (union (w.held site) es) t away)
          ∙ mirrors.held t x
          ∙ sym (ap (λ (l : List Entry). has l x) (taken_elsewhere site u es t away))
    ]

after_coming : (w : Sets) (site : ℕ) (es : List Entry) → is_set es ≡ true → AllHeld w site es → KeepsSent w site es → Follows w → Follows (with_one w site es)
after_coming w site es set part keeps (evs, u, reached, mirrors) = (
  reopen site es ∷ evs,
  with_set u site es,
  (u, reached, ((λ e in'. sym (mirrors.held site e) ∙ part e in'), (λ e at sent. keeps e at (mirrors.sent e ∙ sent)), refl)),
  record {
    held = both_changed w.held u.held site es es mirrors.held (λ e. refl);
    sent = mirrors.sent;
    sets = sets_changed w.held site es mirrors.sets set;
  },
)

-- ---- all calls

after_call : (w : Sets) (c : Call) (v : Sets) → Does w c v → Follows w → Follows v
after_call w (issues site dialect text) v (n, next, low, high, short, is) follows = subst Follows (sym is) (after_issue w site dialect text n next low high short follows)
after_call w (sends site es) v (holds, is) follows = subst Follows (sym is) (after_send w site es holds follows)
after_call w (takes site es) v (sent, is) follows = subst Follows (sym is) (after_take w site es sent follows)
after_call w (comes_back site es) v (set, part, keeps, is) follows = subst Follows (sym is) (after_coming w site es set part keeps follows)

pub calls_are_events : CallsAreEvents
calls_are_events [] w is = subst Follows (sym is) ([], initial_state, refl, record { held = λ site e. refl; sent = λ e. refl; sets = λ site. refl })
calls_are_events (c ∷ cs) w (before, done, does) = after_call before c w does (calls_are_events cs before done)

clashless : (w : Sets) → Follows w → (site : ℕ) (batch : List Entry) → AllSent w batch → first_clash (w.held site) batch ≡ None
clashless w (evs, u, reached, mirrors) site batch sent = no_first_clash (w.held site) batch (known_apart evs u w reached mirrors site batch sent)

pub no_call_clashes : NoCallClashes
no_call_clashes cs w done site batch sent = clashless w (calls_are_events cs w done) site batch sent
