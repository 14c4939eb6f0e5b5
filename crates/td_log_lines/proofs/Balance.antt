-- No fault is lost: what lines report and what is held back add up to what came.
use Rattle.std.proofs.Common.{arith, ◌≡◌, ℕ, ◌+◌, ◌++◌, ◌∷◌, [], List, Bool, true, false, not, ◌&&◌, ◌||◌, nat_lt, nat_le, length, if◌then◌else◌, sym, ap, subst, refl}
use Rattle.std.specs.List.{sum_by, list_any}
use Rattle.std.specs.Str.{bytes_eq}
use Rattle.std.specs.Cmp.Lexicographic.{same_text}
use Rattle.std.proofs.lemmas.List.Sums.{sum_by-append, sum_by-cons}
use Rattle.std.proofs.lemmas.List.Elements.{filter-append}
use Rattle.td_log_lines.specs.Notices.{PrintedText, printed, LogLine, Ordinary, Fault, Count, has_ended, holds_back, hold, held_once_more, noted, kept_texts, count, counts}
use Rattle.td_log_lines.specs.Runs.{LogCall, LineCall, FaultCall, MeetingCall, FinishCall, lines_of, texts_after, all_lines, reported, held, came, NoFaultIsLost}

-- a sum of one
one : {X : Type 0} (f : X → ℕ) (x : X) → sum_by f (x ∷ []) ≡ f x
one f x = let e = sum_by-cons f x [] in let z : sum_by f [] ≡ 0 = refl in grind (arith, e, z)

-- nothing is held back of a text that was not held back
none_held : (text : List ℕ) (n : PrintedText) → n.held ≡ 0 → held text n ≡ 0
none_held text n e = by (bytes_eq n.text text)
  where
    by : (b : Bool) → (if b then n.held else 0) ≡ 0
    by true = e
    by false = refl

-- a notice is counted or kept
each-by : (text : List ℕ) (n : PrintedText) (ended some : Bool) → nat_lt 0 n.held ≡ some → sum_by (reported text) (if some && (false || ended) then Count n ∷ [] else []) + (if not ended then held text n else 0) ≡ held text n
each-by text n true true e = let o = one (reported text) (Count n) in omega (arith, o)
each-by text n true false e = let z : n.held ≡ 0 = grind (arith, e) in sym (none_held text n z)
each-by text n false true e = omega arith
each-by text n false false e = omega arith

-- what is kept of one
kept-by : (text : List ℕ) (n : PrintedText) (ns : List PrintedText) (b : Bool) → sum_by (held text) (if b then n ∷ ns else ns) ≡ (if b then held text n else 0) + sum_by (held text) ns
kept-by text n ns true = sum_by-cons (held text) n ns
kept-by text n ns false = omega arith

-- the lines that count, and what is kept
pub counted : (text : List ℕ) (now : ℕ) (ns : List PrintedText) → sum_by (reported text) (counts false now ns) + sum_by (held text) (kept_texts now ns) ≡ sum_by (held text) ns
counted text now [] = refl
counted text now (n ∷ ns) =
    let each = each-by text n (has_ended now n) (nat_lt 0 n.held) refl in
    let split = sum_by-append (reported text) (count false now n) (counts false now ns) in
    let left = kept-by text n (kept_texts now ns) (not (has_ended now n)) in
    let whole = sum_by-cons (held text) n ns in
    let rest = counted text now ns in
    omega (arith, each, split, left, whole, rest)

-- the first part of what is true
left_true : (a b : Bool) → (a && b) ≡ true → a ≡ true
left_true true b e = refl
left_true false b e = e

-- a fault that is held back once more
one_more-by : (n : PrintedText) (b : Bool) → (if b then n.held + 1 else 0) ≡ (if b then 1 else 0) + (if b then n.held else 0)
one_more-by n true = omega arith
one_more-by n false = omega arith

one_more-held : (text other : List ℕ) (n : PrintedText) → n.text ≡ other → held text (held_once_more n) ≡ (if bytes_eq other text then 1 else 0) + held text n
one_more-held text other n e = subst (λ (t : List ℕ). held text (held_once_more n) ≡ (if bytes_eq t text then 1 else 0) + held text n) e (one_more-by n (bytes_eq n.text text))

-- what is held back once more
hold-by : (text other : List ℕ) (now : ℕ) (n : PrintedText) (ns : List PrintedText) (b : Bool) → holds_back now other n ≡ b → (list_any (holds_back now other) ns ≡ true → sum_by (held text) (hold (holds_back now other) ns) ≡ (if bytes_eq other text then 1 else 0) + sum_by (held text) ns) → list_any (holds_back now other) (n ∷ ns) ≡ true → sum_by (held text) (hold (holds_back now other) (n ∷ ns)) ≡ (if bytes_eq other text then 1 else 0) + sum_by (held text) (n ∷ ns)
hold-by text other now n ns true e rest any =
    let same = same_text n.text other (sym (left_true (bytes_eq n.text other) _ e)) in
    let more = one_more-held text other n same in
    let new = sum_by-cons (held text) (held_once_more n) ns in
    let old = sum_by-cons (held text) n ns in
    let sum : sum_by (held text) (held_once_more n ∷ ns) ≡ (if bytes_eq other text then 1 else 0) + sum_by (held text) (n ∷ ns) = omega (arith, more, new, old) in
    rw e sum
hold-by text other now n ns false e rest any =
    let later = rest (rw e at any) in
    let new = sum_by-cons (held text) n (hold (holds_back now other) ns) in
    let old = sum_by-cons (held text) n ns in
    let sum : sum_by (held text) (n ∷ hold (holds_back now other) ns) ≡ (if bytes_eq other text then 1 else 0) + sum_by (held text) (n ∷ ns) = omega (arith, later, new, old) in
    rw e sum

pub held_back : (text other : List ℕ) (now : ℕ) (ns : List PrintedText) → list_any (holds_back now other) ns ≡ true → sum_by (held text) (hold (holds_back now other) ns) ≡ (if bytes_eq other text then 1 else 0) + sum_by (held text) ns
held_back text other now [] e = cc
held_back text other now (n ∷ ns) e = hold-by text other now n ns (holds_back now other n) refl (λ any. held_back text other now ns any) e

-- what is noted is not held back yet
noted-by : (text : List ℕ) (now : ℕ) (n : PrintedText) (ns : List PrintedText) → n.held ≡ 0 → (b : Bool) → sum_by (held text) (kept_texts now (if b then ns else ns ++ n ∷ [])) ≡ sum_by (held text) (kept_texts now ns)
noted-by text now n ns zero true = refl
noted-by text now n ns zero false =
    let parts = ap (sum_by (held text)) (filter-append (λ (m : PrintedText). not (has_ended now m)) ns (n ∷ [])) in
    let sum = sum_by-append (held text) (kept_texts now ns) (kept_texts now (n ∷ [])) in
    let last = kept-by text n [] (not (has_ended now n)) in
    let none = none_held text n zero in
    let last_zero = nothing-by (not (has_ended now n)) none in
    omega (arith, parts, sum, last, last_zero)
  where
    nothing-by : (b : Bool) → held text n ≡ 0 → (if b then held text n else 0) ≡ 0
    nothing-by true e = e
    nothing-by false e = refl

-- a call that prints a line
print-step : (text : List ℕ) (now : ℕ) (l : LogLine) (ns : List PrintedText) → sum_by (reported text) (counts false now ns ++ l ∷ []) + sum_by (held text) (kept_texts now ns) ≡ reported text l + sum_by (held text) ns
print-step text now l ns =
    let sum = sum_by-append (reported text) (counts false now ns) (l ∷ []) in
    let last = one (reported text) l in
    let rest = counted text now ns in
    omega (arith, sum, last, rest)

-- a call that prints a line of a text which is held back from then on
note-step : (text other time : List ℕ) (now : ℕ) (l : LogLine) (ns : List PrintedText) → sum_by (reported text) (counts false now ns ++ l ∷ []) + sum_by (held text) (kept_texts now (noted (printed now time other) ns)) ≡ reported text l + sum_by (held text) ns
note-step text other time now l ns =
    let first = print-step text now l ns in
    let same = noted-by text now (printed now time other) ns refl (nat_le 64 (length ns)) in
    omega (arith, first, same)

-- a fault
fault-step : (text other time : List ℕ) (now : ℕ) (ns : List PrintedText) (b : Bool) → list_any (holds_back now other) ns ≡ b → sum_by (reported text) (if b then [] else counts false now ns ++ Fault other ∷ []) + sum_by (held text) (if b then hold (holds_back now other) ns else kept_texts now (noted (printed now time other) ns)) ≡ came text (FaultCall now time other) + sum_by (held text) ns
fault-step text other time now ns true e = let h = held_back text other now ns e in omega (arith, h)
fault-step text other time now ns false e = note-step text other time now (Fault other) ns

-- a meeting in which nothing was received
meeting-step : (text peer other time : List ℕ) (now : ℕ) (ns : List PrintedText) (b : Bool) → sum_by (reported text) (if b then [] else counts false now ns ++ Ordinary other ∷ []) + sum_by (held text) (if b then ns else kept_texts now (noted (printed now time peer) ns)) ≡ 0 + sum_by (held text) ns
meeting-step text peer other time now ns true = refl
meeting-step text peer other time now ns false = note-step text peer time now (Ordinary other) ns

-- the last call
last-by : (text : List ℕ) (n : PrintedText) (ended some : Bool) → nat_lt 0 n.held ≡ some → sum_by (reported text) (if some && (true || ended) then Count n ∷ [] else []) ≡ held text n
last-by text n ended true e = one (reported text) (Count n)
last-by text n ended false e = let z : n.held ≡ 0 = grind (arith, e) in sym (none_held text n z)

all_counted : (text : List ℕ) (now : ℕ) (ns : List PrintedText) → sum_by (reported text) (counts true now ns) ≡ sum_by (held text) ns
all_counted text now [] = refl
all_counted text now (n ∷ ns) =
    let first = last-by text n (has_ended now n) (nat_lt 0 n.held) refl in
    let split = sum_by-append (reported text) (count true now n) (counts true now ns) in
    let whole = sum_by-cons (held text) n ns in
    let rest = all_counted text now ns in
    omega (arith, first, split, whole, rest)

step : (text : List ℕ) (call : LogCall) (ns : List PrintedText) → sum_by (reported text) (lines_of call ns) + sum_by (held text) (texts_after call ns) ≡ came text call + sum_by (held text) ns
step text (LineCall now time other) ns = print-step text now (Ordinary other) ns
step text (FaultCall now time other) ns = fault-step text other time now ns (list_any (holds_back now other) ns) refl
step text (MeetingCall now time peer other) ns = meeting-step text peer other time now ns (list_any (holds_back now peer) ns)
step text (FinishCall now time) ns = let all = all_counted text now ns in omega (arith, all)

pub no_fault_is_lost : NoFaultIsLost
no_fault_is_lost text [] ns = refl
no_fault_is_lost text (call ∷ calls) ns =
    let first = step text call ns in
    let rest = no_fault_is_lost text calls (texts_after call ns) in
    let lines = sum_by-append (reported text) (lines_of call ns) (all_lines calls (texts_after call ns)) in
    let calls_sum = sum_by-cons (came text) call calls in
    omega (arith, first, rest, lines, calls_sum)
