-- Scans that go on, and streams that are refused.
use Rattle.std.proofs.Common.{◌≡◌, ◌⊎◌, inl, inr, ◌<◌, ◌≤◌, ◌+◌, ◌-◌, ℕ, zero, suc, Bool, true, false, cond, ltb, eqb, List, [], ◌∷◌, ◌++◌, length, take, drop, get_or, Option, Some, None, Result, Ok, Err, refl, sym, ap, subst, ◌∙◌, append_assoc, append-nil, arith, length-append, length-drop}
use Rattle.std.specs.Int.{w16, from_be_bytes}
use Rattle.std.specs.Prelude.{IsUtf8}
use Rattle.std.specs.Str.{bytes_eq, is_utf8}
use Rattle.std.proofs.lemmas.Bool.{cases_Bool, le-ltb, lt-ltb, ltb-false, ltb-true, eqb-true, eqb-false, ne_eqb}
use Rattle.std.proofs.lemmas.List.{take-append-drop, length-take-le, drop-append-le}
use Rattle.std.proofs.lemmas.Str.{IsUtf8-from_is_utf8, is_utf8-from_IsUtf8}
use Rattle.td_stamps.specs.declared.entry.Entry.{Entry as Stamped}
use Rattle.td_frames.specs.declared.version.Version.TheVariants.{Second}
use Rattle.td_frames.specs.Reading.{Miss, bad, most_entries, Entries, frame_at, entries_at, end_at, last_frame, with_frame, some_entry, entry_at, text_at, with_text, fields}
use Rattle.td_frames.proofs.Steps.{letter_entry, letter_other, entry_then, text_long, text_whole, text_not}
use Rattle.td_stream_bounds.specs.declared.extent.Extent.{Extent}
use Rattle.td_stream_bounds.specs.declared.extent.Extent.TheVariants.{Open, Whole, Never}
use Rattle.td_stream_bounds.specs.declared.frame.Frame.{Frame}
use Rattle.td_stream_bounds.specs.declared.frame.Frame.TheVariants.{Partial, Entry, End, Invalid}
use Rattle.td_stream_bounds.specs.declared.stream.StreamScanner.{StreamScanner}
use Rattle.td_stream_bounds.specs.Extents.{text_length, entry_extent, frame_extent, last_extent, after_frame, stream_extent, scan_extent}
use Rattle.td_stream_bounds.proofs.Fronts.{same_at}
use Rattle.td_stream_bounds.proofs.Streams.{is_entry, entry_whole, text_of_front}

-- ---- what was found at the front of some bytes

skips : {A : Type 0} (b : Bool) (d x y : A) → (d ≡ y → ⊥) → cond b d x ≡ y → (b ≡ false) × (x ≡ y)
skips true d x y other e = absurd (other e)
skips false d x y other e = (refl, e)

takes : {A : Type 0} (b : Bool) (d x y : A) → (x ≡ y → ⊥) → cond b d x ≡ y → (b ≡ true) × (d ≡ y)
takes true d x y other e = (refl, e)
takes false d x y other e = absurd (other e)

pub record Found (bytes : List ℕ) (n : ℕ) : Type 0 where
  pub some : 1 ≤ length bytes
  pub letter : get_or bytes 0 0 ≡ 69
  pub long : n ≤ length bytes
  pub size : n ≡ 18 + text_length bytes
  pub short : text_length bytes ≤ 8192

entry_was : (bytes : List ℕ) (n : ℕ) → entry_extent bytes ≡ Entry n → (n ≤ length bytes) × (n ≡ 18 + text_length bytes) × (text_length bytes ≤ 8192)
unfolding entry_extent
entry_was bytes n e =
    let a = skips (ltb (length bytes) 18) Partial _ (Entry n) (λ h. cc) e in
    let b = skips (ltb 8192 (text_length bytes)) Invalid _ (Entry n) (λ h. cc) a.1 in
    let d = skips (ltb (length bytes) (18 + text_length bytes)) Partial _ (Entry n) (λ h. cc) b.1 in
    let is : 18 + text_length bytes ≡ n = cc in
    let long : 18 + text_length bytes ≤ length bytes = ltb-false _ _ d.0 in
    (omega (arith, is, long), sym is, ltb-false _ _ b.0)

pub frame_was : (bytes : List ℕ) (n : ℕ) → frame_extent bytes ≡ Entry n → Found bytes n
unfolding frame_extent
frame_was bytes n e =
    let a = skips (ltb (length bytes) 1) Partial _ (Entry n) (λ h. cc) e in
    let b = skips (eqb (get_or bytes 0 0) 90) End _ (Entry n) (λ h. cc) a.1 in
    let d = takes (eqb (get_or bytes 0 0) 69) (entry_extent bytes) Invalid (Entry n) (λ h. cc) b.1 in
    let (long, size, short) = entry_was bytes n d.1 in
    record { some = ltb-false _ _ a.0; letter = eqb-true _ _ d.0; long = long; size = size; short = short }

pub frame_more : (bytes more : List ℕ) (n : ℕ) → frame_extent bytes ≡ Entry n → frame_extent (bytes ++ more) ≡ Entry n
frame_more bytes more n e =
    let f = frame_was bytes n e in
    let all = bytes ++ more in
    let long : length all ≡ length bytes + length more = length-append bytes more in
    let is : text_length all ≡ text_length bytes = text_of_front all [] bytes more (append-nil all) (omega (arith, long, f.long, f.size)) (omega (arith, f.long, f.size)) in
    let letter : get_or all 0 0 ≡ 69 = same_at all [] bytes more 0 (append-nil all) (omega (arith, long, f.some)) f.some ∙ f.letter in
    is_entry all (omega (arith, long, f.some)) letter ∙ entry_whole all (text_length bytes) is f.short (omega (arith, long, f.long, f.size)) ∙ ap Entry (sym f.size)

-- ---- a scanner that goes on

none_dropped : (m : ℕ) → drop {A = ℕ} m [] ≡ []
none_dropped zero = refl
none_dropped (suc m) = refl

pub drop_drop : (m n : ℕ) (b : List ℕ) → drop m (drop n b) ≡ drop (n + m) b
drop_drop m zero b = let same : m ≡ 0 + m = omega arith in ap (λ k. drop k b) same
drop_drop m (suc n) [] = none_dropped m ∙ sym (none_dropped (suc n + m))
drop_drop m (suc n) (x ∷ b) = let more : suc (n + m) ≡ suc n + m = omega arith in drop_drop m n b ∙ ap (λ k. drop k (x ∷ b)) more

one_entry : (k at n : ℕ) (bytes : List ℕ) → frame_extent bytes ≡ Entry n → stream_extent (suc k) at bytes ≡ stream_extent k (at + n) (drop n bytes)
unfolding stream_extent
one_entry k at n bytes e = ap (after_frame (stream_extent k) at bytes) e

-- an entry is passed
pub passes : (s t : StreamScanner) (bytes : List ℕ) (n : ℕ) → s.entries < most_entries → frame_extent (drop s.offset bytes) ≡ Entry n → t.offset ≡ s.offset + n → t.entries ≡ s.entries + 1
    → scan_extent t bytes ≡ scan_extent s bytes
unfolding scan_extent
passes s t bytes n few e offset entries =
    let left : most_entries - s.entries ≡ suc (most_entries - t.entries) = omega (arith, few, entries) in
    let behind : drop n (drop s.offset bytes) ≡ drop t.offset bytes = drop_drop n s.offset bytes ∙ ap (λ k. drop k bytes) (sym offset) in
    sym (ap (λ k. stream_extent k s.offset (drop s.offset bytes)) left ∙ one_entry (most_entries - t.entries) s.offset n (drop s.offset bytes) e
    ∙ ap (λ (l : List ℕ). stream_extent (most_entries - t.entries) (s.offset + n) l) behind ∙ ap (λ k. stream_extent (most_entries - t.entries) k (drop t.offset bytes)) (sym offset))

pub passes_on : (s t : StreamScanner) (bytes more : List ℕ) (n : ℕ) → s.entries < most_entries → frame_extent (drop s.offset bytes) ≡ Entry n → t.offset ≡ s.offset + n → t.entries ≡ s.entries + 1
    → scan_extent t (bytes ++ more) ≡ scan_extent s (bytes ++ more)
passes_on s t bytes more n few e offset entries =
    let f = frame_was (drop s.offset bytes) n e in
    let within : s.offset ≤ length bytes = omega (arith, f.some, length-drop s.offset bytes) in
    let apart : drop s.offset (bytes ++ more) ≡ drop s.offset bytes ++ more = drop-append-le s.offset bytes more within in
    passes s t (bytes ++ more) n few (ap frame_extent apart ∙ frame_more (drop s.offset bytes) more n e) offset entries

-- the frame at the scanner's offset is the last that it sees
pub stops : (s : StreamScanner) (bytes : List ℕ) (f : Frame) → s.entries < most_entries → frame_extent (drop s.offset bytes) ≡ f
    → scan_extent s bytes ≡ after_frame (stream_extent (most_entries - (s.entries + 1))) s.offset (drop s.offset bytes) f
unfolding scan_extent stream_extent
stops s bytes f few e =
    let left : most_entries - s.entries ≡ suc (most_entries - (s.entries + 1)) = omega (arith, few) in
    ap (λ k. stream_extent k s.offset (drop s.offset bytes)) left ∙ ap (after_frame (stream_extent (most_entries - (s.entries + 1))) s.offset (drop s.offset bytes)) e

pub full : (s : StreamScanner) (bytes : List ℕ) → most_entries ≤ s.entries → scan_extent s bytes ≡ last_extent s.offset (drop s.offset bytes)
unfolding scan_extent stream_extent
full s bytes many = let none : most_entries - s.entries ≡ 0 = omega (arith, many) in ap (λ k. stream_extent k s.offset (drop s.offset bytes)) none

-- ---- streams that are refused

-- the length of the text stands behind letter, site, sequence number, clock and dialect
length_there : (letter : ℕ) (rest : List ℕ) → 17 ≤ length rest → (fields Second (take 17 rest)).length ≡ text_length (letter ∷ rest)
unfolding text_length
length_there letter (a ∷ b ∷ c ∷ d ∷ e ∷ f ∷ g ∷ h ∷ i ∷ j ∷ k ∷ l ∷ m ∷ n ∷ o ∷ p ∷ q ∷ more) le = refl
length_there letter rest le = absurd (omega (arith, le))

-- an entry's frame is read by its text
at_text : (letter : ℕ) (rest more : List ℕ) → letter ≡ 69 → 17 ≤ length rest
    → frame_at Second ((letter ∷ rest) ++ more) ≡ some_entry (text_at (fields Second (take 17 rest)) (drop 17 rest ++ more))
at_text letter rest more is long =
    let apart : rest ++ more ≡ take 17 rest ++ (drop 17 rest ++ more) = ap (λ (l : List ℕ). l ++ more) (sym (take-append-drop 17 rest)) ∙ append_assoc (take 17 rest) (drop 17 rest) more in
    letter_entry Second letter (rest ++ more) is ∙ ap (λ (l : List ℕ). some_entry (entry_at Second l)) apart
    ∙ ap some_entry (entry_then Second (take 17 rest) (drop 17 rest ++ more) (length-take-le 17 rest long))

-- a frame that is found is read, or refused for its text
read_or_refused : (bytes more : List ℕ) (n : ℕ) → Found bytes n
    → (frame_at Second (bytes ++ more) ≡ Err bad) ⊎ ((e : Stamped) × (frame_at Second (bytes ++ more) ≡ Ok (Some e, drop n bytes ++ more)))
read_or_refused [] more n found = absurd (omega (arith, found.some))
read_or_refused (letter ∷ rest) more n found =
    let head = fields Second (take 17 rest) in
    let body = drop 17 rest in
    let long : 17 ≤ length rest = omega (arith, found.long, found.size) in
    let is : head.length ≡ text_length (letter ∷ rest) = length_there letter rest long in
    let enough : head.length ≤ length body = omega (arith, is, found.long, found.size, length-drop 17 rest) in
    let text = take head.length body in
    let behind = drop head.length body ++ more in
    let size : length text ≡ head.length = length-take-le head.length body enough in
    let apart : body ++ more ≡ text ++ behind = ap (λ (l : List ℕ). l ++ more) (sym (take-append-drop head.length body)) ∙ append_assoc text (drop head.length body) more in
    let short : head.length ≤ 8192 = omega (arith, is, found.short) in
    let at = at_text letter rest more found.letter long ∙ ap (λ (l : List ℕ). some_entry (text_at head l)) apart in
    let counted : n ≡ suc (17 + head.length) = omega (arith, found.size, is) in
    let left : behind ≡ drop n (letter ∷ rest) ++ more = ap (λ (l : List ℕ). l ++ more) (drop_drop head.length 17 rest ∙ ap (λ k. drop k (letter ∷ rest)) (sym counted)) in
    elim (cases_Bool (is_utf8 text)) [
      | inl text_is ↦ inr (with_text head text, at ∙ ap some_entry (text_whole head text behind short size (IsUtf8-from_is_utf8 text text_is)) ∙ ap (λ (l : List ℕ). Ok (Some (with_text head text), l)) left)
      | inr other ↦ inl (at ∙ ap some_entry (text_not head text behind short size (λ (u : IsUtf8 text). not_both (is_utf8-from_IsUtf8 text u) other)))
    ]
  where
    not_both : {b : Bool} → b ≡ true → b ≡ false → ⊥
    not_both t f = cc

refused : (bytes more : List ℕ) → frame_extent bytes ≡ Invalid → frame_at Second (bytes ++ more) ≡ Err bad
unfolding frame_extent entry_extent
refused [] more e = absurd cc
refused (letter ∷ rest) more e =
    let bytes = letter ∷ rest in
    let some = skips (ltb (length bytes) 1) Partial _ Invalid (λ h. cc) e in
    let a = skips (eqb letter 90) End _ Invalid (λ h. cc) some.1 in
    elim (cases_Bool (eqb letter 69)) [
      | inr other ↦ letter_other Second letter (rest ++ more) (eqb-false _ _ a.0) (eqb-false _ _ other)
      | inl is ↦
          let b = skips (ltb (length bytes) 18) Partial _ Invalid (λ h. cc) (sym (ap (λ t. cond t (entry_extent bytes) Invalid) is) ∙ a.1) in
          let long : 17 ≤ length rest = omega (arith, ltb-false _ _ b.0) in
          let d = takes (ltb 8192 (text_length bytes)) Invalid _ Invalid (not_invalid (ltb (length bytes) (18 + text_length bytes)) (18 + text_length bytes)) b.1 in
          let much : 8192 < (fields Second (take 17 rest)).length = subst (λ k. 8192 < k) (sym (length_there letter rest long)) (ltb-true _ _ d.0) in
          at_text letter rest more (eqb-true _ _ is) long ∙ ap some_entry (text_long (fields Second (take 17 rest)) (drop 17 rest ++ more) much)
    ]
  where
    not_invalid : (b : Bool) (n : ℕ) → cond b Partial (Entry n) ≡ Invalid → ⊥
    not_invalid true n h = cc
    not_invalid false n h = cc

no_end : (at : ℕ) (bytes more : List ℕ) → last_extent at bytes ≡ Never → end_at (bytes ++ more) ≡ Err bad
unfolding last_extent
no_end at [] more e = absurd cc
no_end at (letter ∷ rest) more e =
    let some = skips (ltb (length (letter ∷ rest)) 1) Open _ Never (λ h. cc) e in
    let a = skips (eqb letter 90) (Whole (at + 1)) Never Never (λ h. cc) some.1 in
    rw (le-ltb (length (letter ∷ (rest ++ more))) 1 (omega arith), a.0) refl

-- what an entry's frame leaves is left of the stream
with_rest : (n : ℕ) (bytes : List ℕ) (e : Stamped) (rest : List ℕ) → frame_at Second bytes ≡ Ok (Some e, rest) → (entries_at Second (suc n) bytes).1 ≡ (entries_at Second n rest).1
unfolding entries_at
with_rest n bytes e rest is = ap (λ r. (with_frame (entries_at Second n) r).1) is

with_none : (n : ℕ) (bytes : List ℕ) → frame_at Second bytes ≡ Err bad → (entries_at Second (suc n) bytes).1 ≡ Err bad
unfolding entries_at
with_none n bytes is = ap (λ r. (with_frame (entries_at Second n) r).1) is

pub none_follows : (most at : ℕ) (bytes more : List ℕ) → stream_extent most at bytes ≡ Never → (entries_at Second most (bytes ++ more)).1 ≡ Err bad
unfolding stream_extent entries_at
none_follows zero at bytes more never = ap (λ r. (last_frame r).1) (no_end at bytes more never)
none_follows (suc n) at bytes more never = by (λ k. none_follows n (at + k) (drop k bytes) more) (frame_extent bytes) refl never
  where
    by : ((k : ℕ) → stream_extent n (at + k) (drop k bytes) ≡ Never → (entries_at Second n (drop k bytes ++ more)).1 ≡ Err bad)
        → (f : Frame) → frame_extent bytes ≡ f → after_frame (stream_extent n) at bytes f ≡ Never → (entries_at Second (suc n) (bytes ++ more)).1 ≡ Err bad
    by behind Partial is e = absurd cc
    by behind End is e = absurd cc
    by behind Invalid is e = with_none n (bytes ++ more) (refused bytes more is)
    by behind (Entry k) is e = elim (read_or_refused bytes more k (frame_was bytes k is)) [
      | inl bad_text ↦ with_none n (bytes ++ more) bad_text
      | inr w ↦ with_rest n (bytes ++ more) w.0 (drop k bytes ++ more) w.1 ∙ behind k e
    ]
