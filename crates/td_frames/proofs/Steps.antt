-- One frame, field after field.
use Rattle.std.proofs.Common.{◌≡◌, ℕ, ◌<◌, ◌≤◌, Bool, true, false, ltb, List, [], ◌∷◌, ◌++◌, length, Option, None, Result, Ok, Err, refl, ap, arith, length-append}
use Rattle.std.specs.Prelude.{IsUtf8}
use Rattle.std.specs.Str.{is_utf8}
use Rattle.std.proofs.lemmas.Bool.{le-ltb, lt-ltb, ne_eqb}
use Rattle.std.proofs.lemmas.Str.{IsUtf8-from_is_utf8, is_utf8-from_IsUtf8}
use Rattle.std.proofs.lemmas.List.{take_at, drop_at}
use Rattle.td_frames.specs.declared.fields.Head.{Head}
use Rattle.td_frames.specs.declared.error.FrameError.{FrameError}
use Rattle.td_frames.specs.declared.error.FrameError.TheVariants.{OutOfMemory, ReadFault, Cut, Magic, Version as OtherVersion, BadFrame}
use Rattle.td_frames.specs.declared.version.Version.{Version}
use Rattle.td_stamps.specs.declared.entry.Entry.{Entry}
use Rattle.td_frames.specs.Reading.{Miss, short, bad, fields, with_text, text_at, entry_at, frame_at, some_entry, ToldErr, head_size}
use Rattle.td_frames.specs.ForProofs.{Unfilled}

-- a field that isn't there whole
pub told_short : {A : Type 0} (e : FrameError) (count : ℕ) (bytes : List ℕ) (read : Result (A × List ℕ) Miss) (left : Option (List ℕ)) (old new : ℕ)
    → (length bytes < count → read ≡ Err short) → Unfilled e count bytes left old new → ToldErr e read left old new
told_short OutOfMemory count bytes read left old new e few = few
told_short ReadFault count bytes read left old new e few = (e few.0, few.1)
told_short Cut count bytes read left old new e few = (e few.0, few.1, few.2)
told_short Magic count bytes read left old new e few = absurd few
told_short OtherVersion count bytes read left old new e few = absurd few
told_short BadFrame count bytes read left old new e few = absurd few

test_false : (b : Bool) → (b ≡ true → ⊥) → b ≡ false
test_false true h = absurd (h refl)
test_false false h = refl

pub text_long : (h : Head) (bytes : List ℕ) → 8192 < h.length → text_at h bytes ≡ Err bad
unfolding text_at
text_long h bytes lt = rw (lt-ltb 8192 h.length lt) refl

pub text_short : (h : Head) (bytes : List ℕ) → h.length ≤ 8192 → length bytes < h.length → text_at h bytes ≡ Err short
unfolding text_at
text_short h bytes le lt = rw (le-ltb 8192 h.length le, lt-ltb (length bytes) h.length lt) refl

pub text_whole : (h : Head) (bytes more : List ℕ) → h.length ≤ 8192 → length bytes ≡ h.length → IsUtf8 bytes → text_at h (bytes ++ more) ≡ Ok (with_text h bytes, more)
unfolding text_at
text_whole h bytes more le len text =
    let long : ltb (length (bytes ++ more)) h.length ≡ false = le-ltb _ _ (omega (arith, length-append bytes more)) in
    rw (le-ltb 8192 h.length le, long, take_at bytes more h.length len, drop_at bytes more h.length len, is_utf8-from_IsUtf8 bytes text) refl

pub text_not : (h : Head) (bytes more : List ℕ) → h.length ≤ 8192 → length bytes ≡ h.length → (IsUtf8 bytes → ⊥) → text_at h (bytes ++ more) ≡ Err bad
unfolding text_at
text_not h bytes more le len text =
    let long : ltb (length (bytes ++ more)) h.length ≡ false = le-ltb _ _ (omega (arith, length-append bytes more)) in
    rw (le-ltb 8192 h.length le, long, take_at bytes more h.length len, drop_at bytes more h.length len, test_false (is_utf8 bytes) (λ e. text (IsUtf8-from_is_utf8 bytes e))) refl

pub entry_short : (v : Version) (bytes : List ℕ) → length bytes < head_size v → entry_at v bytes ≡ Err short
unfolding entry_at
entry_short v bytes lt = rw (lt-ltb (length bytes) (head_size v) lt) refl

pub entry_then : (v : Version) (head more : List ℕ) → length head ≡ head_size v → entry_at v (head ++ more) ≡ text_at (fields v head) more
unfolding entry_at
entry_then v head more len =
    let long : ltb (length (head ++ more)) (head_size v) ≡ false = le-ltb _ _ (omega (arith, length-append head more, len)) in
    rw (long, take_at head more (head_size v) len, drop_at head more (head_size v) len) refl

pub letter_other : (v : Version) (letter : ℕ) (rest : List ℕ) → (letter ≡ 90 → ⊥) → (letter ≡ 69 → ⊥) → frame_at v (letter ∷ rest) ≡ Err bad
unfolding frame_at
letter_other v letter rest n90 n69 = rw (ne_eqb letter 90 n90, ne_eqb letter 69 n69) refl

pub letter_end : (v : Version) (letter : ℕ) (rest : List ℕ) → letter ≡ 90 → frame_at v (letter ∷ rest) ≡ Ok (None, rest)
unfolding frame_at
letter_end v letter rest e = rw e refl

pub letter_entry : (v : Version) (letter : ℕ) (rest : List ℕ) → letter ≡ 69 → frame_at v (letter ∷ rest) ≡ some_entry (entry_at v rest)
unfolding frame_at
letter_entry v letter rest e = rw e refl

-- what is told of an entry is told of its frame
pub told_err : (e : FrameError) (read : Result (Entry × List ℕ) Miss) (left : Option (List ℕ)) (old new : ℕ) → ToldErr e read left old new → ToldErr e (some_entry read) left old new
told_err OutOfMemory read left old new h = h
told_err ReadFault read left old new h = (ap some_entry h.0, h.1)
told_err Cut read left old new h = (ap some_entry h.0, h.1, h.2)
told_err Magic read left old new h = (ap some_entry h.0, h.1)
told_err OtherVersion read left old new h = (ap some_entry h.0, h.1)
told_err BadFrame read left old new h = (ap some_entry h.0, h.1)

pub frame_empty : (v : Version) (bytes : List ℕ) → length bytes < 1 → frame_at v bytes ≡ Err short
unfolding frame_at
frame_empty v [] lt = refl
frame_empty v (b ∷ bytes) lt = absurd (omega arith)

pub not_text : (bytes : List ℕ) → (IsUtf8 bytes → ⊥) → is_utf8 bytes ≡ false
not_text bytes text = test_false (is_utf8 bytes) (λ e. text (IsUtf8-from_is_utf8 bytes e))
