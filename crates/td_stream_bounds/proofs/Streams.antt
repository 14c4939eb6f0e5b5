-- How far streams of entries reach.
use Rattle.std.proofs.Common.{◌≡◌, ◌⊎◌, inl, inr, ◌<◌, ◌≤◌, ◌+◌, ◌-◌, ◌^◌, ℕ, zero, suc, Bool, true, false, cond, ltb, eqb, List, [], ◌∷◌, ◌++◌, length, take, drop, get_or, Option, Some, None, Result, Ok, Err, refl, sym, ap, subst, ◌∙◌, append_assoc, append-nil, arith, length-append, length-drop}
use Rattle.std.specs.Int.{w16, w32, w64, to_be_bytes, from_be_bytes}
use Rattle.std.specs.List.{AllByRecursion}
use Rattle.std.specs.Str.{bytes_eq}
use Rattle.std.proofs.Math.Seq.{drop-append_seam}
use Rattle.std.proofs.lemmas.Bool.{le-ltb, lt-ltb, ltb-false, ltb-true, eqb-true}
use Rattle.std.proofs.lemmas.List.Concat.{flat_map-cons}
use Rattle.std.proofs.lemmas.Nat.{from_be_bytes-to_be_bytes_2}
use Rattle.td_stamps.specs.declared.entry.Entry.{Entry as Stamped}
use Rattle.td_frames.specs.declared.version.Version.TheVariants.{Second}
use Rattle.td_frames.specs.Spelling.{HasFrame, head_of, entry_frame, entry_frames, end_frame, stream}
use Rattle.td_frames.specs.Reading.{Miss, bad, most_entries, frame_at, entries_at, with_frame, some_entry, entry_at, text_at, fields}
use Rattle.td_stream_bounds.specs.declared.extent.Extent.{Extent}
use Rattle.td_stream_bounds.specs.declared.extent.Extent.TheVariants.{Open, Whole, Never}
use Rattle.td_stream_bounds.specs.declared.frame.Frame.{Frame}
use Rattle.td_stream_bounds.specs.declared.frame.Frame.TheVariants.{Partial, Entry, End, Invalid}
use Rattle.td_stream_bounds.specs.Extents.{text_length, entry_extent, frame_extent, last_extent, after_frame, stream_extent}
use Rattle.td_stream_bounds.proofs.Fronts.{split, same_at, when_true, when_false}

-- ---- one frame

pub is_entry : (bytes : List ℕ) → 1 ≤ length bytes → get_or bytes 0 0 ≡ 69 → frame_extent bytes ≡ entry_extent bytes
unfolding frame_extent
is_entry bytes some e = rw (le-ltb (length bytes) 1 some, e) refl

pub entry_whole : (bytes : List ℕ) (n : ℕ) → text_length bytes ≡ n → n ≤ 8192 → 18 + n ≤ length bytes → entry_extent bytes ≡ Entry (18 + n)
unfolding entry_extent
entry_whole bytes n is le long = rw (le-ltb (length bytes) 18 (omega (arith, long)), is, le-ltb 8192 n le, le-ltb (length bytes) (18 + n) long) refl

entry_open : (bytes : List ℕ) (n : ℕ) → (18 ≤ length bytes → text_length bytes ≡ n) → n ≤ 8192 → length bytes < 18 + n → entry_extent bytes ≡ Partial
unfolding entry_extent
entry_open bytes n is le few = by (ltb (length bytes) 18) refl
  where
    by : (b : Bool) → ltb (length bytes) 18 ≡ b
        → cond b Partial (cond (ltb 8192 (text_length bytes)) Invalid (cond (ltb (length bytes) (18 + text_length bytes)) Partial (Entry (18 + text_length bytes)))) ≡ Partial
    by true e = refl
    by false e = rw (is (ltb-false _ _ e), le-ltb 8192 n le, lt-ltb (length bytes) (18 + n) few) refl

pub text_of_front : (a b c d : List ℕ) → a ++ b ≡ c ++ d → 18 ≤ length a → 18 ≤ length c → text_length a ≡ text_length c
unfolding text_length
text_of_front a b c d e in_a in_c = rw (same_at a b c d 16 e (omega (arith, in_a)) (omega (arith, in_c)), same_at a b c d 17 e (omega (arith, in_a)) (omega (arith, in_c))) refl

text_of_frame : (e : Stamped) → length e.text ≤ 8192 → text_length (entry_frame Second e) ≡ length e.text
unfolding text_length
text_of_frame e le = from_be_bytes-to_be_bytes_2 (length e.text) (omega (arith, le))

frame_long : (e : Stamped) → length (entry_frame Second e) ≡ 18 + length e.text
frame_long e = length-append (69 ∷ head_of Second e) e.text

frame_whole : (e : Stamped) (more : List ℕ) → HasFrame Second e → frame_extent (entry_frame Second e ++ more) ≡ Entry (length (entry_frame Second e))
frame_whole e more has =
    let frame = entry_frame Second e in
    let all = frame ++ more in
    let long : length all ≡ 18 + length e.text + length more = length-append frame more ∙ ap (λ n. n + length more) (frame_long e) in
    let is : text_length all ≡ length e.text =
    text_of_front all [] frame more (append-nil all) (omega (arith, long)) (omega (arith, frame_long e)) ∙ text_of_frame e has.short in
    is_entry all (omega (arith, long)) refl ∙ entry_whole all (length e.text) is has.short (omega (arith, long)) ∙ ap Entry (sym (frame_long e))

frame_open : (e : Stamped) (front rest more : List ℕ) → HasFrame Second e → front ++ rest ≡ entry_frame Second e ++ more → length front < length (entry_frame Second e) → frame_extent front ≡ Partial
unfolding frame_extent
frame_open e [] rest more has same few = refl
frame_open e (letter ∷ front) rest more has same few =
    let frame = entry_frame Second e in
    let first : letter ≡ 69 = same_at (letter ∷ front) rest frame more 0 same (omega arith) (omega (arith, frame_long e)) in
    is_entry (letter ∷ front) (omega arith) first
    ∙ entry_open (letter ∷ front) (length e.text) (λ here. text_of_front (letter ∷ front) rest frame more same here (omega (arith, frame_long e)) ∙ text_of_frame e has.short) has.short (omega (arith, few, frame_long e))

-- ---- streams that are written

frame_first : (e : Stamped) (es : List Stamped) → stream Second (e ∷ es) ≡ entry_frame Second e ++ stream Second es
frame_first e es = ap (λ (l : List ℕ). l ++ end_frame) (flat_map-cons (entry_frame Second) e es) ∙ append_assoc (entry_frame Second e) (entry_frames Second es) end_frame

last_end : (at : ℕ) (more : List ℕ) → last_extent at (90 ∷ more) ≡ Whole (at + 1)
unfolding last_extent
last_end at more = rw (le-ltb (length (90 ∷ more)) 1 (omega arith)) refl

frame_end : (more : List ℕ) → frame_extent (90 ∷ more) ≡ End
unfolding frame_extent
frame_end more = rw (le-ltb (length (90 ∷ more)) 1 (omega arith)) refl

pub entries_found : (most at : ℕ) (es : List Stamped) (more : List ℕ) → length es ≤ most → AllByRecursion (HasFrame Second) es
    → stream_extent most at (stream Second es ++ more) ≡ Whole (at + length (stream Second es))
unfolding stream_extent
entries_found zero at [] more le has = last_end at more
entries_found (suc n) at [] more le has = ap (after_frame (stream_extent n) at (90 ∷ more)) (frame_end more)
entries_found zero at (e ∷ es) more le has = absurd (omega (arith, le))
entries_found (suc n) at (e ∷ es) more le has =
    let frame = entry_frame Second e in
    let others = stream Second es ++ more in
    let apart : stream Second (e ∷ es) ++ more ≡ frame ++ others = ap (λ (l : List ℕ). l ++ more) (frame_first e es) ∙ append_assoc frame (stream Second es) more in
    let long : length (stream Second (e ∷ es)) ≡ length frame + length (stream Second es) = ap length (frame_first e es) ∙ length-append frame (stream Second es) in
    ap (stream_extent (suc n) at) apart ∙ ap (after_frame (stream_extent n) at (frame ++ others)) (frame_whole e others has.0)
    ∙ ap (stream_extent n (at + length frame)) (drop-append_seam frame others)
    ∙ entries_found n (at + length frame) es more (omega (arith, le)) has.1
    ∙ ap Whole (omega (arith, long))

-- a front of a stream ends in its first frame, or has that frame whole
parted : (front rest frame others : List ℕ) → front ++ rest ≡ frame ++ others → (length front < length frame) ⊎ ((x : List ℕ) × (front ≡ frame ++ x) × (others ≡ x ++ rest))
parted front rest frame others same = elim (split front rest frame others same) [
  | inl w ↦ by w.0 w.1 w.2
  | inr w ↦ inr w
]
  where
    by : (x : List ℕ) → frame ≡ front ++ x → rest ≡ x ++ others → (length front < length frame) ⊎ ((y : List ℕ) × (front ≡ frame ++ y) × (others ≡ y ++ rest))
    by [] whole left = inr ([], sym (append-nil frame ∙ whole ∙ append-nil front), sym left)
    by (z ∷ x) whole left = inl (omega (arith, ap length whole, length-append front (z ∷ x)))

pub fronts_open : (most at : ℕ) (es : List Stamped) (front rest : List ℕ) → length es ≤ most → AllByRecursion (HasFrame Second) es
    → front ++ rest ≡ stream Second es → 0 < length rest → stream_extent most at front ≡ Open
unfolding stream_extent frame_extent last_extent
fronts_open zero at [] [] rest le has same some = refl
fronts_open (suc n) at [] [] rest le has same some = refl
fronts_open zero at [] (x ∷ front) rest le has same some = absurd (omega (arith, some, ap length same, length-append front rest))
fronts_open (suc n) at [] (x ∷ front) rest le has same some = absurd (omega (arith, some, ap length same, length-append front rest))
fronts_open zero at (e ∷ es) front rest le has same some = absurd (omega (arith, le))
fronts_open (suc n) at (e ∷ es) front rest le has same some =
    let frame = entry_frame Second e in
    let apart : front ++ rest ≡ frame ++ stream Second es = same ∙ frame_first e es in
    elim (parted front rest frame (stream Second es) apart) as (λ _. stream_extent (suc n) at front ≡ Open) [
      | inl few ↦ ap (after_frame (stream_extent n) at front) (frame_open e front rest (stream Second es) has.0 apart few)
      | inr w ↦
          ap (stream_extent (suc n) at) w.1 ∙ ap (after_frame (stream_extent n) at (frame ++ w.0)) (frame_whole e w.0 has.0)
          ∙ ap (stream_extent n (at + length frame)) (drop-append_seam frame w.0)
          ∙ fronts_open n (at + length frame) es w.0 rest (omega (arith, le)) has.1 (sym w.2) some
    ]
