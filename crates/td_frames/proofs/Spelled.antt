-- What was read as an entry was spelled so.
use Rattle.std.proofs.Common.{◌≡◌, ◌<◌, ◌≤◌, ℕ, zero, suc, ◌+◌, Bool, true, false, cond, ltb, eqb, List, [], ◌∷◌, ◌++◌, length, take, drop, get_or, Option, Some, None, Result, Ok, Err, refl, sym, ap, subst, ◌∙◌, inl, inr, append_assoc, arith}
use Rattle.std.specs.Int.{w16, w32, w64, to_be_bytes, from_be_bytes}
use Rattle.std.specs.Str.{is_utf8}
use Rattle.std.proofs.lemmas.Bool.{cases_lt, ltb-false, eqb-true}
use Rattle.std.proofs.lemmas.List.{take-append-drop, length-take, length-take-le, length-drop, get_or-take, get_or-drop, get_or_past, take_all}
use Rattle.std.proofs.lemmas.Nat.{be_bytes_2, be_bytes_4, be_bytes_8}
use Rattle.td_stamps.specs.declared.entry.Entry.{Entry}
use Rattle.td_frames.specs.declared.fields.Head.{Head}
use Rattle.td_frames.specs.declared.version.Version.{Version}
use Rattle.td_frames.specs.declared.version.Version.TheVariants.{First, Second}
use Rattle.td_frames.specs.Laws.{AreBytes}
use Rattle.td_frames.specs.Spelling.{dialect_frame, head_of, entry_frame}
use Rattle.td_frames.specs.Reading.{Miss, short, bad, head_size, fields, with_text, text_at, entry_at, frame_at, some_entry}
use Rattle.td_frames.proofs.Loops.{guard, guard_ok}

pub bytes_taken : (n : ℕ) (bs : List ℕ) → AreBytes bs → AreBytes (take n bs)
bytes_taken n bs all i = elim (cases_lt i n) [
  | inl lt ↦ subst (λ b. b < 256) (sym (get_or-take n bs i 0 lt)) (all i)
  | inr ge ↦ let none : get_or (take n bs) i 0 ≡ 0 = get_or_past (take n bs) i 0 (omega (arith, length-take n bs, ge)) in subst (λ b. b < 256) (sym none) (omega arith)
]

pub bytes_after : (n : ℕ) (bs : List ℕ) → AreBytes bs → AreBytes (drop n bs)
bytes_after n bs all i = subst (λ b. b < 256) (sym (get_or-drop n bs i 0)) (all (n + i))

none_dropped : (m : ℕ) → drop {A = ℕ} m [] ≡ []
none_dropped zero = refl
none_dropped (suc m) = refl

drop_drop : (m n : ℕ) (b : List ℕ) → drop m (drop n b) ≡ drop (n + m) b
drop_drop m zero b = let same : m ≡ 0 + m = omega arith in ap (λ k. drop k b) same
drop_drop m (suc n) [] = none_dropped m ∙ sym (none_dropped (suc n + m))
drop_drop m (suc n) (x ∷ b) = let more : suc (n + m) ≡ suc n + m = omega arith in drop_drop m n b ∙ ap (λ k. drop k (x ∷ b)) more

-- three fields, one after the other, and what is behind them
parts : (b tail : List ℕ) → drop 14 b ≡ tail → take 2 b ++ (take 4 (drop 2 b) ++ (take 8 (drop 6 b) ++ tail)) ≡ b
parts b tail last =
    let third : take 8 (drop 6 b) ++ tail ≡ drop 6 b = ap (λ (l : List ℕ). take 8 (drop 6 b) ++ l) (sym last ∙ sym (drop_drop 8 6 b)) ∙ take-append-drop 8 (drop 6 b) in
    let second : take 4 (drop 2 b) ++ (take 8 (drop 6 b) ++ tail) ≡ drop 2 b =
    ap (λ (l : List ℕ). take 4 (drop 2 b) ++ l) (third ∙ sym (drop_drop 4 2 b)) ∙ take-append-drop 4 (drop 2 b) in
    ap (λ (l : List ℕ). take 2 b ++ l) second ∙ take-append-drop 2 b

-- a byte, and what is behind it
byte_first : (i : ℕ) (b : List ℕ) → i < length b → drop i b ≡ get_or b i 0 ∷ drop (suc i) b
byte_first i [] lt = absurd (omega arith)
byte_first zero (x ∷ b) lt = refl
byte_first (suc i) (x ∷ b) lt = byte_first i b (omega (arith, lt))

-- the length of a text, in the last two bytes
count_was : (at n : ℕ) (b : List ℕ) → AreBytes b → length b ≡ at + 2 → n ≡ from_be_bytes w16 (take 2 (drop at b)) → drop at b ≡ to_be_bytes w16 n
count_was at n b all len is =
    let last : take 2 (drop at b) ≡ drop at b = take_all 2 (drop at b) (omega (arith, length-drop at b, len)) in
    sym (be_bytes_2 (take 2 (drop at b)) n (omega (arith, length-take 2 (drop at b), length-drop at b, len)) (bytes_taken 2 (drop at b) (bytes_after at b all)) is ∙ last)

-- the dialect and the length
tail_was : (v : Version) (n : ℕ) (b : List ℕ) → AreBytes b → length b ≡ head_size v → n ≡ (fields v b).length → drop 14 b ≡ dialect_frame v (fields v b).dialect ++ to_be_bytes w16 n
tail_was First n b all len is = count_was 14 n b all len is
tail_was Second n b all len is = byte_first 14 b (omega (arith, len)) ∙ ap (λ (l : List ℕ). get_or b 14 0 ∷ l) (count_was 15 n b all len is)

size_enough : (v : Version) → 16 ≤ head_size v
size_enough First = omega arith
size_enough Second = omega arith

-- the fields are spelled by the bytes that they were read from
head_was : (v : Version) (b text : List ℕ) → AreBytes b → length b ≡ head_size v → length text ≡ (fields v b).length → head_of v (with_text (fields v b) text) ≡ b
head_was v b text all len is =
    let enough = size_enough v in
    let f = fields v b in
    let tail = dialect_frame v f.dialect ++ to_be_bytes w16 (length text) in
    let site : to_be_bytes w16 f.site ≡ take 2 b = be_bytes_2 (take 2 b) f.site (omega (arith, length-take 2 b, len, enough)) (bytes_taken 2 b all) refl in
    let seq : to_be_bytes w32 f.seq ≡ take 4 (drop 2 b) =
    be_bytes_4 (take 4 (drop 2 b)) f.seq (omega (arith, length-take 4 (drop 2 b), length-drop 2 b, len, enough)) (bytes_taken 4 (drop 2 b) (bytes_after 2 b all)) refl in
    let clock : to_be_bytes w64 f.clock ≡ take 8 (drop 6 b) =
    be_bytes_8 (take 8 (drop 6 b)) f.clock (omega (arith, length-take 8 (drop 6 b), length-drop 6 b, len, enough)) (bytes_taken 8 (drop 6 b) (bytes_after 6 b all)) refl in
    ap (λ (l : List ℕ). l ++ (to_be_bytes w32 f.seq ++ (to_be_bytes w64 f.clock ++ tail))) site ∙ ap (λ (l : List ℕ). take 2 b ++ (l ++ (to_be_bytes w64 f.clock ++ tail))) seq
    ∙ ap (λ (l : List ℕ). take 2 b ++ (take 4 (drop 2 b) ++ (l ++ tail))) clock ∙ parts b tail (tail_was v (length text) b all len is)

-- what is read as a text of these fields, and what is behind it
text_was : (h : Head) (bytes : List ℕ) (x : Entry × List ℕ) → text_at h bytes ≡ Ok x
    → (length (take h.length bytes) ≡ h.length) × (x.0 ≡ with_text h (take h.length bytes)) × (x.1 ≡ drop h.length bytes)
unfolding text_at
text_was h bytes x e =
    let a = guard (ltb 8192 h.length) bad _ x e in
    let b = guard (ltb (length bytes) h.length) short _ x a.1 in
    let d = guard_ok (is_utf8 (take h.length bytes)) bad (with_text h (take h.length bytes), drop h.length bytes) x b.1 in
    (length-take-le h.length bytes (ltb-false _ _ b.0), sym (ap (λ (y : Entry × List ℕ). y.0) d.1), sym (ap (λ (y : Entry × List ℕ). y.1) d.1))

entry_was : (v : Version) (bytes : List ℕ) (x : Entry × List ℕ) → AreBytes bytes → entry_at v bytes ≡ Ok x → bytes ≡ (head_of v x.0 ++ x.0.text) ++ x.1
unfolding entry_at
entry_was v bytes x all e =
    let size = head_size v in
    let a = guard (ltb (length bytes) size) short _ x e in
    let long : size ≤ length bytes = ltb-false _ _ a.0 in
    let b = take size bytes in
    let rest = drop size bytes in
    let n = (fields v b).length in
    let (len, is, left) = text_was (fields v b) rest x a.1 in
    let head : head_of v (with_text (fields v b) (take n rest)) ≡ b = head_was v b (take n rest) (bytes_taken size bytes all) (length-take-le size bytes long) len in
    let whole : bytes ≡ (b ++ take n rest) ++ drop n rest =
    sym (append_assoc b (take n rest) (drop n rest) ∙ ap (λ (l : List ℕ). b ++ l) (take-append-drop n rest) ∙ take-append-drop size bytes) in
    whole ∙ ap (λ (l : List ℕ). (l ++ take n rest) ++ drop n rest) (sym head) ∙ ap (λ (l : List ℕ). (head_of v (with_text (fields v b) (take n rest)) ++ take n rest) ++ l) (sym left)
    ∙ ap (λ (y : Entry). (head_of v y ++ y.text) ++ x.1) (sym is)

-- the entry, where there is one
abbrev entry_in : Result (Option Entry × List ℕ) Miss → Result (Entry × List ℕ) Miss
entry_in (Ok (Some e, rest)) = Ok (e, rest)
entry_in (Ok (None, rest)) = Err bad
entry_in (Err m) = Err m

some_was : (r : Result (Entry × List ℕ) Miss) (e : Entry) (rest : List ℕ) → some_entry r ≡ Ok (Some e, rest) → r ≡ Ok (e, rest)
some_was (Ok y) e rest is = ap entry_in is
some_was (Err m) e rest is = absurd cc

abbrev read_none : List ℕ → Result (Option Entry × List ℕ) Miss
read_none bytes = Ok (None, bytes)

none_is : (bytes rest : List ℕ) (e : Entry) → read_none bytes ≡ Ok (Some e, rest) → ⊥
none_is bytes rest e h = let P : Result (Entry × List ℕ) Miss → Type 0 = λ r. elim r [ Ok x ↦ ⊥ | Err m ↦ Unit {0} ] in subst P (ap entry_in h) tt

pub frame_was : (v : Version) (bytes rest : List ℕ) (e : Entry) → AreBytes bytes → frame_at v bytes ≡ Ok (Some e, rest) → bytes ≡ entry_frame v e ++ rest
unfolding frame_at
frame_was v [] rest e all is = absurd cc
frame_was v (letter ∷ bytes) rest e all is = by (eqb letter 90) (eqb letter 69) refl is
  where
    by : (z t : Bool) → eqb letter 69 ≡ t → cond z (Ok (None, bytes)) (cond t (some_entry (entry_at v bytes)) (Err bad)) ≡ Ok (Some e, rest) → letter ∷ bytes ≡ entry_frame v e ++ rest
    by true t same h = absurd (none_is bytes rest e h)
    by false false same h = absurd cc
    by false true same h =
        let was = entry_was v bytes (e, rest) (λ i. all (suc i)) (some_was (entry_at v bytes) e rest h) in
        ap (λ (l : ℕ). l ∷ bytes) (eqb-true letter 69 same) ∙ ap (λ (l : List ℕ). 69 ∷ l) was
