-- Entries that have frames.
use Rattle.std.proofs.Common.{◌≡◌, ◌<◌, ◌≤◌, ◌+◌, ◌^◌, ℕ, Bool, true, false, ◌&&◌, if◌then◌else◌, ltb, List, [], ◌∷◌, ◌++◌, length, get_or, take, Result, Ok, Err, refl, sym, ap, subst, arith}
use Rattle.std.specs.List.{AllByRecursion}
use Rattle.std.proofs.lemmas.List.{take_more}
use Rattle.td_stamps.specs.declared.entry.Entry.{Entry}
use Rattle.std.specs.Prelude.{IsUtf8}
use Rattle.std.proofs.lemmas.Bool.{ltb-true}
use Rattle.td_stamps.specs.Checks.{fresh_of, last_clock, last_seq, next_of}
use Rattle.td_stamps.specs.Sets.{has}
use Rattle.td_stamps.specs.declared.errors.NextError.{NextError}
use Rattle.td_stamps.specs.declared.errors.NextError.TheVariants.{ClockEnd}
use Rattle.td_frames.specs.declared.version.Version.TheVariants.{Second}
use Rattle.td_frames.specs.Spelling.{HasFrame}
use Rattle.td_replica.specs.Calls.{entry_of, numbered}
use Rattle.td_replica.specs.Seen.{Seen}
use Rattle.td_replica.specs.declared.refusal.IssueError.{IssueError}
use Rattle.td_replica.specs.declared.refusal.IssueError.TheVariants as issue_error

pub all_beside : {X : Type 0} (P : X → Type 0) (xs ys : List X) → AllByRecursion P xs → AllByRecursion P ys → AllByRecursion P (xs ++ ys)
all_beside P [] ys p q = q
all_beside P (x ∷ xs) ys p q = (p.0, all_beside P xs ys p.1 q)

pub framed_more : (xs : List Entry) (i : ℕ) (d : Entry) → i < length xs → AllByRecursion (HasFrame Second) (take i xs) → HasFrame Second (get_or xs i d) → AllByRecursion (HasFrame Second) (take (i + 1) xs)
framed_more xs i d lt so_far one = subst (AllByRecursion (HasFrame Second)) (sym (take_more xs i d lt)) (all_beside (HasFrame Second) (take i xs) (get_or xs i d ∷ []) so_far (one, tt))

-- the fresh ones of these
pub fresh_framed : (seen es : List Entry) → AllByRecursion (HasFrame Second) es → AllByRecursion (HasFrame Second) (fresh_of seen es)
fresh_framed seen [] all = tt
fresh_framed seen (e ∷ es) all = all_beside (HasFrame Second) (if has seen e then [] else e ∷ []) (fresh_of (seen ++ e ∷ []) es) (one (has seen e)) (fresh_framed (seen ++ e ∷ []) es all.1)
  where
    one : (b : Bool) → AllByRecursion (HasFrame Second) (if b then [] else e ∷ [])
    one true = tt
    one false = (all.0, tt)

-- ---- the entry that is issued

-- its numbers are the site's next ones, and it is of the second dialect
pub record IsNext (s : Seen) (text : List ℕ) (e : Entry) : Type 0 where
  pub site : e.site ≡ s.site
  pub next : next_of s.site s.entries ≡ Ok (e.seq, e.clock)
  pub dialect_is : e.dialect ≡ 2
  pub text_is : e.text ≡ text

in_room : (b : Bool) (x e : Entry) → ◌≡◌ {A = Result Entry IssueError} (if b then Ok x else Err issue_error.Full) (Ok e) → x ≡ e
in_room true x e is = cc
in_room false x e is = absurd cc

by_numbers : (s : Seen) (text : List ℕ) (e : Entry) (r : Result (ℕ × ℕ) NextError) → next_of s.site s.entries ≡ r → numbered s text r ≡ Ok e → IsNext s text e
by_numbers s text e (Ok (q, c)) next is =
    let same : record { site = s.site; seq = q; clock = c; dialect = 2; text = text } ≡ e = in_room (ltb (length s.entries) s.limit) (record { site = s.site; seq = q; clock = c; dialect = 2; text = text }) e is in
    subst (λ (x : Entry). IsNext s text x) same (record { site = refl; next = next; dialect_is = refl; text_is = refl })
by_numbers s text e (Err n) next is = absurd cc

pub is_next : (s : Seen) (text : List ℕ) (e : Entry) → entry_of s text ≡ Ok e → IsNext s text e
is_next s text e is = by_numbers s text e (next_of s.site s.entries) refl is

abbrev seq_in : Result (ℕ × ℕ) NextError → ℕ
seq_in (Ok x) = x.0
seq_in (Err e) = 0

abbrev clock_in : Result (ℕ × ℕ) NextError → ℕ
clock_in (Ok x) = x.1
clock_in (Err e) = 0

numbers_fit : (b c : Bool) (q k q' k' : ℕ) → ◌≡◌ {A = Result (ℕ × ℕ) NextError} (if b && c then Ok (q, k) else Err ClockEnd) (Ok (q', k')) → (b ≡ true) × (c ≡ true) × (q ≡ q') × (k ≡ k')
numbers_fit true true q k q' k' is = (refl, refl, ap seq_in is, ap clock_in is)
numbers_fit true false q k q' k' is = absurd cc
numbers_fit false c q k q' k' is = absurd cc

pub next_framed : (s : Seen) (text : List ℕ) (e : Entry) → s.site < 2 ^ 16 → IsUtf8 text → length text ≤ 8192 → entry_of s text ≡ Ok e → HasFrame Second e
next_framed s text e fits utf8 short is =
    let n = is_next s text e is in
    let (few, early, seq_is, clock_is) = numbers_fit (ltb (last_seq s.site s.entries) 1000000000) (ltb (last_clock s.entries) 1000000000000000000) _ _ e.seq e.clock n.next in
    let seq = ltb-true (last_seq s.site s.entries) 1000000000 few in
    let clock = ltb-true (last_clock s.entries) 1000000000000000000 early in
    record {
      site = omega (arith, fits, n.site);
      seq = omega (arith, seq, seq_is);
      clock = omega (arith, clock, clock_is);
      dialect = omega (arith, n.dialect_is);
      short = omega (arith, short, ap length n.text_is);
      text = subst IsUtf8 (sym n.text_is) utf8;
    }
