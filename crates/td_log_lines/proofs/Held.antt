-- The notice that holds a text back.
use Rattle.std.proofs.Common.{arith, ◌≡◌, ℕ, ◌+◌, ◌-◌, ◌<◌, ◌≤◌, List, [], ◌∷◌, ◌++◌, Bool, true, false, length, Some, None, get_or, sym, ◌∙◌, ap, refl, add-one}
use Rattle.std.proofs.Math.ListN.{set}
use Rattle.std.specs.List.{list_any, position_from}
use Rattle.std.proofs.lemmas.Grind.{flat_map-append}
use Rattle.td_log_lines.specs.Notices.{PrintedText, LogLine, Ordinary, Fault, hold, held_once_more, holds_back, line_text, lines_text}

-- what is known of a place that a search gave
pub record Found (p : PrintedText → Bool) (from at : ℕ) (ns : List PrintedText) (d : PrintedText) : Type 0 where
  pub later : from ≤ at
  pub within : at - from < length ns
  pub passes : p (get_or ns (at - from) d) ≡ true
  pub any : list_any p ns ≡ true
  pub counted : set ns (at - from) (held_once_more (get_or ns (at - from) d)) ≡ hold p ns

-- where it is the first one
first : (p : PrintedText → Bool) (from at : ℕ) (n : PrintedText) (ns : List PrintedText) (d : PrintedText) → p n ≡ true → from ≡ at → Found p from at (n ∷ ns) d
first p from at n ns d pass same =
    let zero_off : at - from ≡ 0 = omega arith in
    record {
      later = omega arith;
      within = grind arith;
      passes = rw zero_off pass;
      any = rw pass;
      counted = rw (zero_off, pass);
    }

-- where it is a later one
next : (p : PrintedText → Bool) (from at : ℕ) (n : PrintedText) (ns : List PrintedText) (d : PrintedText) → p n ≡ false → Found p (from + 1) at ns d → Found p from at (n ∷ ns) d
next p from at n ns d fail f =
    let e = f.later in
    let off : at - from ≡ (at - (from + 1)) + 1 = omega arith in
    record {
      later = omega arith;
      within = grind (arith, f.within);
      passes = rw (off, add-one) f.passes;
      any = rw fail f.any;
      counted = rw (off, add-one, fail) (ap (λ rest. n ∷ rest) f.counted);
    }

found-by : (p : PrintedText → Bool) (from at : ℕ) (n : PrintedText) (ns : List PrintedText) (d : PrintedText) (b : Bool) → p n ≡ b → position_from p from (n ∷ ns) ≡ Some at → (position_from p (from + 1) ns ≡ Some at → Found p (from + 1) at ns d) → Found p from at (n ∷ ns) d
found-by p from at n ns d true pass e more = let same = rw pass at e in first p from at n ns d pass (cc)
found-by p from at n ns d false fail e more = let rest = rw fail at e in next p from at n ns d fail (more rest)

pub found : (p : PrintedText → Bool) (from at : ℕ) (ns : List PrintedText) (d : PrintedText) → position_from p from ns ≡ Some at → Found p from at ns d
found p from at [] d e = cc
found p from at (n ∷ ns) d e =
    found-by p from at n ns d (p n) refl e (λ rest. found p (from + 1) at ns d rest)

not-by : (p : PrintedText → Bool) (from : ℕ) (n : PrintedText) (ns : List PrintedText) (b : Bool) → p n ≡ b → position_from p from (n ∷ ns) ≡ None → (position_from p (from + 1) ns ≡ None → list_any p ns ≡ false) → list_any p (n ∷ ns) ≡ false
not-by p from n ns true pass e more = let same = rw pass at e in cc
not-by p from n ns false fail e more = let rest = rw fail at e in rw fail (more rest)

pub not_found : (p : PrintedText → Bool) (from : ℕ) (ns : List PrintedText) → position_from p from ns ≡ None → list_any p ns ≡ false
not_found p from [] e = refl
not_found p from (n ∷ ns) e =
    not-by p from n ns (p n) refl e (λ rest. not_found p (from + 1) ns rest)

-- the same of a search from the beginning
pub record FoundAt (p : PrintedText → Bool) (at : ℕ) (ns : List PrintedText) (d : PrintedText) : Type 0 where
  pub passes : p (get_or ns at d) ≡ true
  pub any : list_any p ns ≡ true
  pub counted : set ns at (held_once_more (get_or ns at d)) ≡ hold p ns

pub found_at : (p : PrintedText → Bool) (at : ℕ) (ns : List PrintedText) (d : PrintedText) → position_from p 0 ns ≡ Some at → FoundAt p at ns d
found_at p at ns d e =
    let f = found p 0 at ns d e in
    let same : at - 0 ≡ at = omega arith in
    record {
      passes = rw same at f.passes;
      any = f.any;
      counted = rw same at f.counted;
    }

-- what is held back was not held back too often yet
pub few : (now : ℕ) (text : List ℕ) (n : PrintedText) → holds_back now text n ≡ true → n.held < 1000000
few now text n e = grind arith

-- a line of a fault is that of the same text
pub as_fault : (time : List ℕ) (ls : List LogLine) (text : List ℕ) → lines_text time (ls ++ Ordinary text ∷ []) ≡ lines_text time (ls ++ Fault text ∷ [])
as_fault time ls text =
    flat_map-append (line_text time) ls (Ordinary text ∷ [])
    ∙ sym (flat_map-append (line_text time) ls (Fault text ∷ []))
