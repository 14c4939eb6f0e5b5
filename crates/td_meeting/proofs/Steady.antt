-- What was refused by a field is refused by it, whatever follows.
use Rattle.std.proofs.Common.{◌≡◌, ◌≢◌, ◌≤◌, ℕ, zero, suc, Bool, true, false, cond, ltb, leb, eqb, ◌&&◌, inl, inr, List, [], ◌∷◌, ◌++◌, length, take, drop, codes, Option, Some, None, Result, Ok, Err, refl, sym, ap, ◌∙◌, arith, length-append}
use Rattle.std.specs.FinMap as by_site
use Rattle.std.specs.Int.{w16, w32, from_be_bytes}
use Rattle.std.specs.Str.{is_utf8, bytes_eq}
use Rattle.std.proofs.lemmas.Bool.{cases_Bool, le-ltb, ltb-false}
use Rattle.std.proofs.Math.Seq.{drop-append-le}
use lib.Seq.{take-append-le}
use Rattle.td_stamps.specs.Vectors.{VersionVector}
use Rattle.td_stamps.specs.declared.entry.Entry.{Entry}
use Rattle.td_frames.specs.declared.fields.Head.{Head}
use Rattle.td_frames.specs.Reading.{Miss, short, magic, version, bad, checked_at, then_at, magic_at, version_at, site_at, length_at, utf8_at, script_at, count_at, number_at, sites_at, vector_at, head_at, rest_at, greeting_at, fields, with_text, text_at, entry_at, some_entry, frame_at, Entries, end_at, entries_at, with_frame, last_frame, head_size}
use Rattle.td_frames.specs.declared.version.Version.{Version}
use Rattle.td_frames.proofs.Loops.{frame_more}

-- a value that was read is read, whatever follows, and so is a field refused
pub record Steady {A : Type 0} (value_at : List ℕ → Result (A × List ℕ) Miss) : Type 0 where
  pub reads : (bytes more : List ℕ) (x : A × List ℕ) → value_at bytes ≡ Ok x → value_at (bytes ++ more) ≡ Ok (x.0, x.1 ++ more)
  pub refuses : (bytes more : List ℕ) (m : Miss) → m ≢ short → value_at bytes ≡ Err m → value_at (bytes ++ more) ≡ Err m

-- ---- one field

abbrev told : {A : Type 0} → Bool → A → List ℕ → Miss → Result (A × List ℕ) Miss
told {A} b v rest miss = cond {A = Result (A × List ℕ) Miss} b (Ok (v, rest)) (Err miss)

tested : {A : Type 0} (b : Bool) (v : A) (rest : List ℕ) (miss : Miss) (more : List ℕ) (x : A × List ℕ) → told b v rest miss ≡ Ok x → told b v (rest ++ more) miss ≡ Ok (x.0, x.1 ++ more)
tested {A} true v rest miss more x e = let same : (v, rest) ≡ x = cc in ap (λ (y : A × List ℕ). Ok (y.0, y.1 ++ more)) same
tested false v rest miss more x e = absurd cc

untested : {A : Type 0} (b : Bool) (v : A) (rest : List ℕ) (miss : Miss) (more : List ℕ) (m : Miss) → told b v rest miss ≡ Err m → told b v (rest ++ more) miss ≡ Err m
untested true v rest miss more m e = absurd cc
untested false v rest miss more m e = cc

module _ {A : Type 0} (n : ℕ) (test : List ℕ → Bool) (value : List ℕ → A) (miss : Miss) where
  -- where the field is there whole
  whole : (bytes more : List ℕ) → ltb (length bytes) n ≡ false
      → checked_at n test value miss (bytes ++ more) ≡ told (test (take n bytes)) (value (take n bytes)) (drop n bytes ++ more) miss
  whole bytes more le =
      let long : n ≤ length bytes = ltb-false _ _ le in
      let longer : ltb (length (bytes ++ more)) n ≡ false = le-ltb _ _ (omega (arith, length-append bytes more)) in
      rw (longer, take-append-le n bytes more long, drop-append-le n bytes more long) refl

  now : (bytes : List ℕ) → ltb (length bytes) n ≡ false → checked_at n test value miss bytes ≡ told (test (take n bytes)) (value (take n bytes)) (drop n bytes) miss
  now bytes le = rw le refl

  early : (bytes : List ℕ) → ltb (length bytes) n ≡ true → checked_at n test value miss bytes ≡ Err short
  early bytes lt = rw lt refl

  pub field_steady : Steady (checked_at n test value miss)
  field_steady = record {
    reads = λ bytes more x e. elim (cases_Bool (ltb (length bytes) n)) [
      | inl lt ↦ let wrong : Err short ≡ Ok x = sym (early bytes lt) ∙ e in absurd cc
      | inr le ↦ whole bytes more le ∙ tested (test (take n bytes)) (value (take n bytes)) (drop n bytes) miss more x (sym (now bytes le) ∙ e)
    ];
    refuses = λ bytes more m not_short e. elim (cases_Bool (ltb (length bytes) n)) [
      | inl lt ↦ let wrong : Err short ≡ Err m = sym (early bytes lt) ∙ e in absurd (not_short cc)
      | inr le ↦ whole bytes more le ∙ untested (test (take n bytes)) (value (take n bytes)) (drop n bytes) miss more m (sym (now bytes le) ∙ e)
    ];
  }

-- ---- one thing after another

module _ {A B : Type 0} (first : List ℕ → Result (A × List ℕ) Miss) (next : A → List ℕ → Result (B × List ℕ) Miss) (steady : Steady first) (each : (x : A) → Steady (next x)) where
  both_read : (bytes more : List ℕ) (y : B × List ℕ) (r : Result (A × List ℕ) Miss) → first bytes ≡ r → then_at r next ≡ Ok y → then_at (first (bytes ++ more)) next ≡ Ok (y.0, y.1 ++ more)
  both_read bytes more y (Ok x) is e = ap (λ r. then_at r next) (steady.reads bytes more x is) ∙ (each x.0).reads x.1 more y e
  both_read bytes more y (Err m) is e = absurd cc

  both_refuse : (bytes more : List ℕ) (m : Miss) (r : Result (A × List ℕ) Miss) → m ≢ short → first bytes ≡ r → then_at r next ≡ Err m → then_at (first (bytes ++ more)) next ≡ Err m
  both_refuse bytes more m (Ok x) not_short is e = ap (λ r. then_at r next) (steady.reads bytes more x is) ∙ (each x.0).refuses x.1 more m not_short e
  both_refuse bytes more m (Err k) not_short is e = let same : k ≡ m = cc in ap (λ r. then_at r next) (steady.refuses bytes more m not_short (is ∙ ap (λ j. Err j) same))

  pub then_steady : Steady (λ bytes. then_at (first bytes) next)
  then_steady = record {
    reads = λ bytes more y e. both_read bytes more y (first bytes) refl e;
    refuses = λ bytes more m not_short e. both_refuse bytes more m (first bytes) not_short refl e;
  }

pub done_steady : {A : Type 0} (v : A) → Steady (λ bytes. Ok (v, bytes))
done_steady v = record { reads = λ bytes more x e. cc; refuses = λ bytes more m not_short e. absurd cc }

-- ---- greetings

site_steady : (last : ℕ) → Steady (site_at last)
site_steady last = field_steady 2 (λ b. ltb last (from_be_bytes w16 b)) (from_be_bytes w16) bad

number_steady : Steady number_at
number_steady = field_steady 4 (λ b. leb 1 (from_be_bytes w32 b) && leb (from_be_bytes w32 b) 1000000000) (from_be_bytes w32) bad

sites_steady : (k last : ℕ) (v : VersionVector) → Steady (sites_at k last v)
unfolding sites_at
sites_steady zero last v = done_steady v
sites_steady (suc k) last v =
    then_steady (site_at last) (λ s rest. then_at (number_at rest) (λ n more. sites_at k s (by_site.insert v s n) more)) (site_steady last)
    (λ s. then_steady number_at (λ n more. sites_at k s (by_site.insert v s n) more) number_steady (λ n. sites_steady k s (by_site.insert v s n)))

vector_steady : Steady vector_at
vector_steady = then_steady count_at (λ k rest. sites_at k 0 by_site.empty rest) (field_steady 2 (λ b. true) (from_be_bytes w16) bad) (λ k. sites_steady k 0 by_site.empty)

script_steady : Steady script_at
script_steady = then_steady length_at utf8_at (field_steady 4 (λ b. leb (from_be_bytes w32 b) 65536) (from_be_bytes w32) bad) (λ n. field_steady n is_utf8 (λ b. b) bad)

head_steady : Steady head_at
head_steady =
    then_steady magic_at (λ _ b. then_at (version_at b) (λ _ c. site_at 0 c)) (field_steady 4 (λ b. bytes_eq b (codes "HTDB")) (λ b. tt) magic)
    (λ x. then_steady version_at (λ _ c. site_at 0 c) (field_steady 1 (λ b. bytes_eq b (2 ∷ [])) (λ b. tt) version) (λ y. site_steady 0))

rest_steady : (site : ℕ) → Steady (rest_at site)
rest_steady site =
    then_steady script_at (λ script b. then_at (vector_at b) (λ v rest. Ok (record { site = site; script = script; vector = v }, rest))) script_steady
    (λ script. then_steady vector_at (λ v rest. Ok (record { site = site; script = script; vector = v }, rest)) vector_steady (λ v. done_steady (record { site = site; script = script; vector = v })))

pub greeting_steady : Steady greeting_at
greeting_steady = then_steady head_at rest_at head_steady rest_steady

-- ---- entries

long_enough : (n : ℕ) (bytes more : List ℕ) → ltb (length bytes) n ≡ false → ltb (length (bytes ++ more)) n ≡ false
long_enough n bytes more le = let long : n ≤ length bytes = ltb-false _ _ le in le-ltb _ _ (omega (arith, length-append bytes more))

abbrev Read : Type 0
Read = Result (Entry × List ℕ) Miss

utf8_refuses : (b : Bool) (x y : Entry × List ℕ) (m : Miss) → cond {A = Read} b (Ok x) (Err bad) ≡ Err m → cond {A = Read} b (Ok y) (Err bad) ≡ Err m
utf8_refuses true x y m e = absurd cc
utf8_refuses false x y m e = e

-- the text of these fields, where its length is within the limit
abbrev text_in : Head → List ℕ → Read
text_in h bytes = cond {A = Read} (ltb (length bytes) h.length) (Err short) (cond {A = Read} (is_utf8 (take h.length bytes)) (Ok (with_text h (take h.length bytes), drop h.length bytes)) (Err bad))

text_in_refuses : (h : Head) (bytes more : List ℕ) (m : Miss) (b : Bool) → m ≢ short → ltb (length bytes) h.length ≡ b → text_in h bytes ≡ Err m → text_in h (bytes ++ more) ≡ Err m
text_in_refuses h bytes more m true not_short is e =
    let wrong = ap (λ (c : Bool). cond {A = Read} c (Err short) (cond {A = Read} (is_utf8 (take h.length bytes)) (Ok (with_text h (take h.length bytes), drop h.length bytes)) (Err bad))) (sym is) ∙ e in
    absurd (not_short cc)
text_in_refuses h bytes more m false not_short is e =
    rw (long_enough h.length bytes more is, take-append-le h.length bytes more (ltb-false _ _ is))
    (utf8_refuses (is_utf8 (take h.length bytes)) (with_text h (take h.length bytes), drop h.length bytes) _ m (ap (λ (c : Bool). cond {A = Read} c (Err short) (cond {A = Read} (is_utf8 (take h.length bytes)) (Ok (with_text h (take h.length bytes), drop h.length bytes)) (Err bad))) (sym is) ∙ e))

text_limit : (b : Bool) (x y : Read) (m : Miss) → (x ≡ Err m → y ≡ Err m) → cond {A = Read} b (Err bad) x ≡ Err m → cond {A = Read} b (Err bad) y ≡ Err m
text_limit true x y m f e = e
text_limit false x y m f e = f e

text_refuses : (h : Head) (bytes more : List ℕ) (m : Miss) → m ≢ short → text_at h bytes ≡ Err m → text_at h (bytes ++ more) ≡ Err m
unfolding text_at
text_refuses h bytes more m not_short e = text_limit (ltb 8192 h.length) (text_in h bytes) (text_in h (bytes ++ more)) m (text_in_refuses h bytes more m (ltb (length bytes) h.length) not_short refl) e

entry_refuses_by : (v : Version) (bytes more : List ℕ) (m : Miss) (b : Bool) → m ≢ short → ltb (length bytes) (head_size v) ≡ b → entry_at v bytes ≡ Err m → entry_at v (bytes ++ more) ≡ Err m
unfolding entry_at
entry_refuses_by v bytes more m true not_short is e = let wrong : Err short ≡ Err m = ap (λ (c : Bool). cond {A = Read} c (Err short) (text_at (fields v (take (head_size v) bytes)) (drop (head_size v) bytes))) (sym is) ∙ e in absurd (not_short cc)
entry_refuses_by v bytes more m false not_short is e =
    let long : head_size v ≤ length bytes = ltb-false _ _ is in
    rw (long_enough (head_size v) bytes more is, take-append-le (head_size v) bytes more long, drop-append-le (head_size v) bytes more long)
    (text_refuses (fields v (take (head_size v) bytes)) (drop (head_size v) bytes) more m not_short (ap (λ (c : Bool). cond {A = Read} c (Err short) (text_at (fields v (take (head_size v) bytes)) (drop (head_size v) bytes))) (sym is) ∙ e))

some_refuses : (r s : Read) (m : Miss) → (r ≡ Err m → s ≡ Err m) → some_entry r ≡ Err m → some_entry s ≡ Err m
some_refuses (Ok x) s m f e = absurd cc
some_refuses (Err k) s m f e = let same : k ≡ m = cc in ap some_entry (f (ap (λ j. Err j) same))

abbrev Frame : Type 0
Frame = Result (Option Entry × List ℕ) Miss

letter_refuses : (v : Version) (z t : Bool) (rest more : List ℕ) (m : Miss) → m ≢ short → cond {A = Frame} z (Ok (None, rest)) (cond {A = Frame} t (some_entry (entry_at v rest)) (Err bad)) ≡ Err m
    → cond {A = Frame} z (Ok (None, rest ++ more)) (cond {A = Frame} t (some_entry (entry_at v (rest ++ more))) (Err bad)) ≡ Err m
letter_refuses v true t rest more m not_short e = absurd cc
letter_refuses v false true rest more m not_short e = some_refuses (entry_at v rest) (entry_at v (rest ++ more)) m (entry_refuses_by v rest more m (ltb (length rest) (head_size v)) not_short refl) e
letter_refuses v false false rest more m not_short e = e

frame_refuses : (v : Version) (bytes more : List ℕ) (m : Miss) → m ≢ short → frame_at v bytes ≡ Err m → frame_at v (bytes ++ more) ≡ Err m
unfolding frame_at
frame_refuses v [] more m not_short e = absurd (not_short cc)
frame_refuses v (letter ∷ rest) more m not_short e = letter_refuses v (eqb letter 90) (eqb letter 69) rest more m not_short e

-- ---- streams

-- where no entry may follow
end_steady : Steady end_at
end_steady = field_steady 1 (λ b. bytes_eq b (90 ∷ [])) (λ b. tt) bad

abbrev End : Type 0
End = Result (Unit {0} × List ℕ) Miss

-- what was read is no whole stream
last_ends : (bytes more : List ℕ) (es : List Entry) (m : Miss) (r : End) → m ≢ short → end_at bytes ≡ r → last_frame r ≡ (es, Err m) → last_frame (end_at (bytes ++ more)) ≡ (es, Err m)
last_ends bytes more es m (Ok x) not_short is e = let wrong = ap (λ (r : Entries). r.1) e in absurd cc
last_ends bytes more es m (Err k) not_short is e =
    let ends = ap (λ (r : Entries). r.1) e in
    let same : k ≡ m = cc in
    ap last_frame (end_steady.refuses bytes more m not_short (is ∙ ap (λ j. Err j) same)) ∙ ap (λ (j : Miss). ([], Err j)) (sym same) ∙ e

abbrev onto : Entry → Entries → Entries
onto x r = (x ∷ r.0, r.1)

-- an entry, and then what is no whole stream
after_entry : (x : Entry) (es : List Entry) (m : Miss) (p q : Entries) → ((fs : List Entry) → p ≡ (fs, Err m) → q ≡ (fs, Err m)) → onto x p ≡ (es, Err m) → onto x q ≡ (es, Err m)
after_entry x es m p q f e =
    let ends : p.1 ≡ Err m = ap (λ (r : Entries). r.1) e in
    let front : x ∷ p.0 ≡ es = ap (λ (r : Entries). r.0) e in
    let same : q ≡ (p.0, Err m) = f p.0 (ap (λ r. (p.0, r)) ends) in
    ap (onto x) same ∙ ap (λ (l : List Entry). (l, Err m)) front

next_ends : (v : Version) (n : ℕ) (bytes more : List ℕ) (es : List Entry) (m : Miss) → ((bs ms : List ℕ) (fs : List Entry) → entries_at v n bs ≡ (fs, Err m) → entries_at v n (bs ++ ms) ≡ (fs, Err m)) → (r : Frame) → m ≢ short
    → frame_at v bytes ≡ r → with_frame (entries_at v n) r ≡ (es, Err m) → with_frame (entries_at v n) (frame_at v (bytes ++ more)) ≡ (es, Err m)
next_ends v n bytes more es m others (Ok (None, rest)) not_short is e = let wrong = ap (λ (r : Entries). r.1) e in absurd cc
next_ends v n bytes more es m others (Ok (Some x, rest)) not_short is e =
    ap (with_frame (entries_at v n)) (frame_more v bytes more (Some x, rest) is) ∙ after_entry x es m (entries_at v n rest) (entries_at v n (rest ++ more)) (λ fs e. others rest more fs e) e
next_ends v n bytes more es m others (Err k) not_short is e =
    let ends = ap (λ (r : Entries). r.1) e in
    let same : k ≡ m = cc in
    ap (with_frame (entries_at v n)) (frame_refuses v bytes more m not_short (is ∙ ap (λ j. Err j) same)) ∙ ap (λ (j : Miss). ([], Err j)) (sym same) ∙ e

pub stream_refuses : (v : Version) (n : ℕ) (bytes more : List ℕ) (es : List Entry) (m : Miss) → m ≢ short → entries_at v n bytes ≡ (es, Err m) → entries_at v n (bytes ++ more) ≡ (es, Err m)
unfolding entries_at
stream_refuses v zero bytes more es m not_short e = last_ends bytes more es m (end_at bytes) not_short refl e
stream_refuses v (suc n) bytes more es m not_short e = next_ends v n bytes more es m (λ bs ms fs e. stream_refuses v n bs ms fs m not_short e) (frame_at v bytes) not_short refl e

abbrev longer_by : List ℕ → Result (List ℕ) Miss → Result (List ℕ) Miss
longer_by more (Ok rest) = Ok (rest ++ more)
longer_by more (Err m) = Err m

abbrev longer : List ℕ → Entries → Entries
longer more r = (r.0, longer_by more r.1)

last_read : (bytes more rest : List ℕ) (es : List Entry) (r : End) → end_at bytes ≡ r → last_frame r ≡ (es, Ok rest) → last_frame (end_at (bytes ++ more)) ≡ (es, Ok (rest ++ more))
last_read bytes more rest es (Ok x) is e = ap last_frame (end_steady.reads bytes more x is) ∙ ap (λ (r : Entries). longer more r) e
last_read bytes more rest es (Err k) is e = let wrong = ap (λ (r : Entries). r.1) e in absurd cc

entry_read : (x : Entry) (es : List Entry) (rest more : List ℕ) (p q : Entries) → ((fs : List Entry) → p ≡ (fs, Ok rest) → q ≡ (fs, Ok (rest ++ more))) → onto x p ≡ (es, Ok rest) → onto x q ≡ (es, Ok (rest ++ more))
entry_read x es rest more p q f e =
    let ends : p.1 ≡ Ok rest = ap (λ (r : Entries). r.1) e in
    let front : x ∷ p.0 ≡ es = ap (λ (r : Entries). r.0) e in
    let same : q ≡ (p.0, Ok (rest ++ more)) = f p.0 (ap (λ r. (p.0, r)) ends) in
    ap (onto x) same ∙ ap (λ (l : List Entry). (l, Ok (rest ++ more))) front

next_read : (v : Version) (n : ℕ) (bytes more rest : List ℕ) (es : List Entry) → ((bs : List ℕ) (fs : List Entry) → entries_at v n bs ≡ (fs, Ok rest) → entries_at v n (bs ++ more) ≡ (fs, Ok (rest ++ more))) → (r : Frame)
    → frame_at v bytes ≡ r → with_frame (entries_at v n) r ≡ (es, Ok rest) → with_frame (entries_at v n) (frame_at v (bytes ++ more)) ≡ (es, Ok (rest ++ more))
next_read v n bytes more rest es others (Ok (None, left)) is e = ap (with_frame (entries_at v n)) (frame_more v bytes more (None, left) is) ∙ ap (λ (r : Entries). longer more r) e
next_read v n bytes more rest es others (Ok (Some x, left)) is e =
    ap (with_frame (entries_at v n)) (frame_more v bytes more (Some x, left) is) ∙ entry_read x es rest more (entries_at v n left) (entries_at v n (left ++ more)) (λ fs e. others left fs e) e
next_read v n bytes more rest es others (Err k) is e = let wrong = ap (λ (r : Entries). r.1) e in absurd cc

-- a whole stream is read, whatever follows
pub stream_reads : (v : Version) (n : ℕ) (bytes more rest : List ℕ) (es : List Entry) → entries_at v n bytes ≡ (es, Ok rest) → entries_at v n (bytes ++ more) ≡ (es, Ok (rest ++ more))
unfolding entries_at
stream_reads v zero bytes more rest es e = last_read bytes more rest es (end_at bytes) refl e
stream_reads v (suc n) bytes more rest es e = next_read v n bytes more rest es (λ bs fs e. stream_reads v n bs more rest fs e) (frame_at v bytes) refl e
