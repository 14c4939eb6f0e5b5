-- How far greetings reach.
use Rattle.std.proofs.Common.{◌≡◌, ◌<◌, ◌≤◌, ◌+◌, ◌*◌, ◌^◌, ℕ, zero, suc, Bool, true, false, cond, ltb, leb, List, [], ◌∷◌, ◌++◌, length, take, drop, get_or, Result, Ok, Err, codes, refl, sym, ap, subst, ◌∙◌, append_assoc, append-nil, arith, length-append, length-drop}
use Rattle.std.specs.Int.{w16, w32, to_be_bytes, from_be_bytes}
use Rattle.std.specs.FinMap as by_site
use Rattle.std.specs.List.{flat_map}
use Rattle.std.specs.Str.{bytes_eq}
use Rattle.std.proofs.Math.Seq.{get_or-append-add}
use Rattle.std.proofs.lemmas.Bool.{le-ltb, lt-ltb, ltb-false, leb-true}
use Rattle.std.proofs.lemmas.List.{take-append-drop}
use Rattle.std.proofs.lemmas.List.Concat.{flat_map-cons}
use Rattle.std.proofs.lemmas.Nat.{from_be_bytes-to_be_bytes_2, from_be_bytes-to_be_bytes_4}
use Rattle.std.proofs.lemmas.Slice.Eq.{bytes_eq-Decides}
use Rattle.td_stamps.specs.Vectors.{VersionVector}
use Rattle.td_frames.specs.declared.greeting.Greeting.{Greeting}
use Rattle.td_frames.specs.Spelling.{HasGreeting, place, head_frame, script_frame, vector_frame, greeting_frame}
use Rattle.td_frames.specs.Reading.{Miss, short, magic, version, bad, checked_at, then_at, magic_at, version_at, site_at, length_at, utf8_at, script_at, vector_at, head_at, rest_at, greeting_at}
use Rattle.td_frames.proofs.Loops.{guard, guard_ok}
use Rattle.td_stream_bounds.specs.declared.extent.Extent.{Extent}
use Rattle.td_stream_bounds.specs.declared.extent.Extent.TheVariants.{Open, Whole, Never}
use Rattle.td_stream_bounds.specs.Extents.{letters, is_compatible, script_length, site_count, vector_extent, lengths_extent, greeting_extent}
use Rattle.td_stream_bounds.proofs.Fronts.{same_at, when_true, when_false}

pub front_agrees : (front rest tail : List ℕ) → front ++ rest ≡ letters ++ tail → is_compatible front letters ≡ true
front_agrees [] rest tail e = refl
front_agrees (a ∷ []) rest tail e =
    let p : a ≡ 72 = cc in
    rw p refl
front_agrees (a ∷ b ∷ []) rest tail e =
    let p : a ≡ 72 = cc in
    let q : b ≡ 84 = cc in
    rw (p, q) refl
front_agrees (a ∷ b ∷ c ∷ []) rest tail e =
    let p : a ≡ 72 = cc in
    let q : b ≡ 84 = cc in
    let r : c ≡ 68 = cc in
    rw (p, q, r) refl
front_agrees (a ∷ b ∷ c ∷ d ∷ []) rest tail e =
    let p : a ≡ 72 = cc in
    let q : b ≡ 84 = cc in
    let r : c ≡ 68 = cc in
    let s : d ≡ 66 = cc in
    rw (p, q, r, s) refl
front_agrees (a ∷ b ∷ c ∷ d ∷ f ∷ front) rest tail e =
    let p : a ≡ 72 = cc in
    let q : b ≡ 84 = cc in
    let r : c ≡ 68 = cc in
    let s : d ≡ 66 = cc in
    let t : f ≡ 2 = cc in
    rw (p, q, r, s, t) refl

-- ---- by the two lengths in them

-- bytes whose lengths, where they have come, are these
pub record Lengths (bytes : List ℕ) (script sites : ℕ) : Type 0 where
  pub begins : is_compatible bytes letters ≡ true
  pub short : script ≤ 65536
  pub script_is : 11 ≤ length bytes → script_length bytes ≡ script
  pub sites_are : 11 + script + 2 ≤ length bytes → site_count (11 + script) bytes ≡ sites

by_lengths : (bytes : List ℕ) (script sites : ℕ) → Lengths bytes script sites → greeting_extent bytes ≡ lengths_extent bytes
unfolding greeting_extent
by_lengths bytes script sites has = when_true (is_compatible bytes letters) (lengths_extent bytes) Never has.begins

at_vector : (bytes : List ℕ) (script sites : ℕ) → Lengths bytes script sites → 11 ≤ length bytes → lengths_extent bytes ≡ vector_extent (11 + script) bytes
unfolding lengths_extent
at_vector bytes script sites has long =
    let fits : ltb 65536 (script_length bytes) ≡ false = le-ltb 65536 (script_length bytes) (omega (arith, has.script_is long, has.short)) in
    rw (le-ltb (length bytes) 11 long, fits) (ap (λ n. vector_extent (11 + n) bytes) (has.script_is long))

vector_whole : (bytes : List ℕ) (at sites : ℕ) → site_count at bytes ≡ sites → at + 2 + 6 * sites ≤ length bytes → vector_extent at bytes ≡ Whole (at + 2 + 6 * sites)
unfolding vector_extent
vector_whole bytes at sites is long =
    let here : at + 2 ≤ length bytes = omega (arith, long) in
    rw (le-ltb (length bytes) (at + 2) here, is, le-ltb (length bytes) (at + 2 + 6 * sites) long) refl

vector_open : (bytes : List ℕ) (at sites : ℕ) → (at + 2 ≤ length bytes → site_count at bytes ≡ sites) → length bytes < at + 2 + 6 * sites → vector_extent at bytes ≡ Open
unfolding vector_extent
vector_open bytes at sites is few = by (ltb (length bytes) (at + 2)) refl
  where
    by : (b : Bool) → ltb (length bytes) (at + 2) ≡ b
        → cond b Open (cond (ltb (length bytes) (at + 2 + 6 * site_count at bytes)) Open (Whole (at + 2 + 6 * site_count at bytes))) ≡ Open
    by true e = refl
    by false e =
        let here : at + 2 ≤ length bytes = ltb-false _ _ e in
        rw (is here, lt-ltb (length bytes) (at + 2 + 6 * sites) few) refl

pub found : (bytes : List ℕ) (script sites : ℕ) → Lengths bytes script sites → 11 + script + 2 + 6 * sites ≤ length bytes → greeting_extent bytes ≡ Whole (11 + script + 2 + 6 * sites)
found bytes script sites has long =
    by_lengths bytes script sites has ∙ at_vector bytes script sites has (omega (arith, long))
    ∙ vector_whole bytes (11 + script) sites (has.sites_are (omega (arith, long))) long

pub still_open : (bytes : List ℕ) (script sites : ℕ) → Lengths bytes script sites → length bytes < 11 + script + 2 + 6 * sites → greeting_extent bytes ≡ Open
unfolding lengths_extent
still_open bytes script sites has few = by_lengths bytes script sites has ∙ by (ltb (length bytes) 11) refl
  where
    by : (b : Bool) → ltb (length bytes) 11 ≡ b → lengths_extent bytes ≡ Open
    by true e = when_true (ltb (length bytes) 11) Open _ e
    by false e = at_vector bytes script sites has (ltb-false _ _ e) ∙ vector_open bytes (11 + script) sites has.sites_are few

-- ---- greetings that are written

-- what is in front of the version vector
abbrev before_vector : ℕ → List ℕ → List ℕ
before_vector site script = head_frame site ++ script_frame script

before_long : (site : ℕ) (script : List ℕ) → length (before_vector site script) ≡ 11 + length script
before_long site script =
    length-append (head_frame site) (script_frame script) ∙ ap (λ n. 7 + n) (length-append (to_be_bytes w32 (length script)) script) ∙ omega arith

places_long : (ps : List (ℕ × ℕ)) → length (flat_map place ps) ≡ 6 * length ps
places_long [] = refl
places_long (p ∷ ps) =
    ap length (flat_map-cons place p ps) ∙ length-append (place p) (flat_map place ps) ∙ ap (λ n. 6 + n) (places_long ps) ∙ omega arith

apart : (site : ℕ) (script : List ℕ) (ps : List (ℕ × ℕ)) → greeting_frame site script ps ≡ before_vector site script ++ vector_frame ps
apart site script ps = sym (append_assoc (head_frame site) (script_frame script) (vector_frame ps))

pub frame_long : (site : ℕ) (script : List ℕ) (ps : List (ℕ × ℕ)) → length (greeting_frame site script ps) ≡ 11 + length script + 2 + 6 * length ps
frame_long site script ps =
    ap length (apart site script ps) ∙ length-append (before_vector site script) (vector_frame ps)
    ∙ omega (arith, before_long site script, length-append (to_be_bytes w16 (length ps)) (flat_map place ps), places_long ps)

-- the number of sites, where it stands
byte_of_vector : (site : ℕ) (script : List ℕ) (ps : List (ℕ × ℕ)) (i : ℕ) → get_or (greeting_frame site script ps) (11 + length script + i) 0 ≡ get_or (vector_frame ps) i 0
byte_of_vector site script ps i =
    let pre = before_vector site script in
    let here : 11 + length script + i ≡ length pre + i = ap (λ n. n + i) (sym (before_long site script)) in
    ap (λ n. get_or (greeting_frame site script ps) n 0) here ∙ ap (λ (l : List ℕ). get_or l (length pre + i) 0) (apart site script ps)
    ∙ get_or-append-add pre (vector_frame ps) i 0

count_of_frame : (site : ℕ) (script : List ℕ) (ps : List (ℕ × ℕ)) → length ps < 2 ^ 16 → site_count (11 + length script) (greeting_frame site script ps) ≡ length ps
unfolding site_count
count_of_frame site script ps few =
    let at = 11 + length script in
    let zeroth : at ≡ at + 0 = omega arith in
    let first : get_or (greeting_frame site script ps) at 0 ≡ get_or (vector_frame ps) 0 0 = ap (λ n. get_or (greeting_frame site script ps) n 0) zeroth ∙ byte_of_vector site script ps 0 in
    rw (first, byte_of_vector site script ps 1) (from_be_bytes-to_be_bytes_2 (length ps) few)

script_of_frame : (site : ℕ) (script : List ℕ) (ps : List (ℕ × ℕ)) → length script ≤ 65536 → script_length (greeting_frame site script ps) ≡ length script
unfolding script_length
script_of_frame site script ps le = from_be_bytes-to_be_bytes_4 (length script) (omega (arith, le))

-- the same lengths stand in a front, as far as it goes, and in what goes on
script_of_front : (a b c d : List ℕ) → a ++ b ≡ c ++ d → 11 ≤ length a → 11 ≤ length c → script_length a ≡ script_length c
unfolding script_length
script_of_front a b c d e in_a in_c =
    rw (
      same_at a b c d 7 e (omega (arith, in_a)) (omega (arith, in_c)),
      same_at a b c d 8 e (omega (arith, in_a)) (omega (arith, in_c)),
      same_at a b c d 9 e (omega (arith, in_a)) (omega (arith, in_c)),
      same_at a b c d 10 e (omega (arith, in_a)) (omega (arith, in_c)),
    ) refl

count_of_front : (a b c d : List ℕ) (at : ℕ) → a ++ b ≡ c ++ d → at + 2 ≤ length a → at + 2 ≤ length c → site_count at a ≡ site_count at c
unfolding site_count
count_of_front a b c d at e in_a in_c =
    rw (same_at a b c d at e (omega (arith, in_a)) (omega (arith, in_c)), same_at a b c d (at + 1) e (omega (arith, in_a)) (omega (arith, in_c))) refl

lengths_of : (site : ℕ) (script : List ℕ) (ps : List (ℕ × ℕ)) (front rest more : List ℕ) → length script ≤ 65536 → length ps < 2 ^ 16
    → front ++ rest ≡ greeting_frame site script ps ++ more → Lengths front (length script) (length ps)
lengths_of site script ps front rest more le few e =
    let frame = greeting_frame site script ps in
    let long = frame_long site script ps in
    record {
      begins = front_agrees front rest (to_be_bytes w16 site ++ ((script_frame script ++ vector_frame ps) ++ more)) e;
      short = le;
      script_is = λ here. script_of_front front rest frame more e here (omega (arith, long)) ∙ script_of_frame site script ps le;
      sites_are = λ here. count_of_front front rest frame more (11 + length script) e here (omega (arith, long)) ∙ count_of_frame site script ps few;
    }

pub greeting_is_found : (site : ℕ) (script : List ℕ) (v : VersionVector) (more : List ℕ) → HasGreeting site script v
    → greeting_extent (greeting_frame site script (by_site.entries v) ++ more) ≡ Whole (length (greeting_frame site script (by_site.entries v)))
greeting_is_found site script v more has =
    let ps = by_site.entries v in
    let frame = greeting_frame site script ps in
    let long = frame_long site script ps in
    let all = frame ++ more in
    found all (length script) (length ps) (lengths_of site script ps all [] more has.short has.few (append-nil all)) (omega (arith, long, length-append frame more))
    ∙ ap Whole (sym long)

pub front_is_open : (site : ℕ) (script : List ℕ) (v : VersionVector) (front rest : List ℕ) → HasGreeting site script v
    → front ++ rest ≡ greeting_frame site script (by_site.entries v) → 0 < length rest → greeting_extent front ≡ Open
front_is_open site script v front rest has e some =
    let ps = by_site.entries v in
    let frame = greeting_frame site script ps in
    let long = frame_long site script ps in
    still_open front (length script) (length ps) (lengths_of site script ps front rest [] has.short has.few (e ∙ sym (append-nil frame)))
    (omega (arith, long, ap length e, length-append front rest, some))

-- ---- greetings that are read

-- one thing that was read before another
first_was : {A B : Type 0} (r : Result (A × List ℕ) Miss) (next : A → List ℕ → Result (B × List ℕ) Miss) (y : B × List ℕ) → then_at r next ≡ Ok y → (x : A) × (rest : List ℕ) × (r ≡ Ok (x, rest)) × (next x rest ≡ Ok y)
first_was (Ok x) next y e = (x.0, x.1, refl, e)
first_was (Err m) next y e = absurd cc

-- a field that was read
field_was : {A : Type 0} (n : ℕ) (test : List ℕ → Bool) (value : List ℕ → A) (miss : Miss) (bytes : List ℕ) (x : A) (rest : List ℕ) → checked_at n test value miss bytes ≡ Ok (x, rest)
    → (n ≤ length bytes) × (test (take n bytes) ≡ true) × (rest ≡ drop n bytes)
field_was {A} n test value miss bytes x rest e =
    let a = guard (ltb (length bytes) n) short _ (x, rest) e in
    let b = guard_ok (test (take n bytes)) miss (value (take n bytes), drop n bytes) (x, rest) a.1 in
    (ltb-false _ _ a.0, b.0, sym (ap (λ (y : A × List ℕ). y.1) b.1))

-- the length of the script stands behind letters, version and site
length_there : (bytes : List ℕ) → 11 ≤ length bytes → from_be_bytes w32 (take 4 (drop 2 (drop 1 (drop 4 bytes)))) ≡ script_length bytes
unfolding script_length
length_there (a ∷ b ∷ c ∷ d ∷ e ∷ f ∷ g ∷ h ∷ i ∷ j ∷ k ∷ more) le = refl
length_there bytes le = absurd (omega (arith, le))

-- what a reader has seen of the bytes of a greeting
record Seen (bytes : List ℕ) : Type 0 where
  begins : bytes ≡ letters ++ drop 5 bytes
  long : 11 ≤ length bytes
  short : script_length bytes ≤ 65536

behind_letters : (bytes : List ℕ) → drop 1 (drop 4 bytes) ≡ drop 5 bytes
behind_letters (a ∷ b ∷ c ∷ d ∷ bytes) = refl
behind_letters (a ∷ b ∷ c ∷ []) = refl
behind_letters (a ∷ b ∷ []) = refl
behind_letters (a ∷ []) = refl
behind_letters [] = refl

seen : (bytes rest : List ℕ) (g : Greeting) → greeting_at bytes ≡ Ok (g, rest) → Seen bytes
seen bytes rest g e =
    let (site, r1, head, behind_head) = first_was (head_at bytes) rest_at (g, rest) e in
    let (m, r2, magic_ok, behind_magic) = first_was (magic_at bytes) (λ _ b. then_at (version_at b) (λ _ c. site_at 0 c)) (site, r1) head in
    let (n, r3, version_ok, site_ok) = first_was (version_at r2) (λ _ c. site_at 0 c) (site, r1) behind_magic in
    let (script, r4, script_ok, _) = first_was (script_at r1) (λ s b. then_at (vector_at b) (λ v c. Ok (record { site = site; script = s; vector = v }, c))) (g, rest) behind_head in
    let (len, r5, length_ok, _) = first_was (length_at r1) utf8_at (script, r4) script_ok in
    let a = field_was 4 (λ b. bytes_eq b (codes "HTDB")) (λ b. tt) magic bytes m r2 magic_ok in
    let b = field_was 1 (λ b. bytes_eq b (2 ∷ [])) (λ b. tt) version r2 n r3 version_ok in
    let c = field_was 2 (λ b. ltb 0 (from_be_bytes w16 b)) (from_be_bytes w16) bad r3 site r1 site_ok in
    let d = field_was 4 (λ b. leb (from_be_bytes w32 b) 65536) (from_be_bytes w32) bad r1 len r5 length_ok in
    let where_length : r1 ≡ drop 2 (drop 1 (drop 4 bytes)) = c.2 ∙ ap (drop 2) (b.2 ∙ ap (drop 1) a.2) in
    let eleven : 11 ≤ length bytes =
    omega (arith, a.0, b.0, c.0, d.0, ap length a.2, ap length b.2, ap length c.2, length-drop 4 bytes, length-drop 1 r2, length-drop 2 r3) in
    let four : take 4 bytes ≡ codes "HTDB" = (bytes_eq-Decides _ _).0 a.1 in
    let one : take 1 (drop 4 bytes) ≡ 2 ∷ [] = ap (take 1) (sym a.2) ∙ (bytes_eq-Decides _ _).0 b.1 in
    record {
      begins =
          sym (take-append-drop 4 bytes) ∙ ap (λ (l : List ℕ). l ++ drop 4 bytes) four
          ∙ ap (λ (l : List ℕ). codes "HTDB" ++ l) (sym (take-append-drop 1 (drop 4 bytes)) ∙ ap (λ (l : List ℕ). l ++ drop 1 (drop 4 bytes)) one ∙ ap (λ (l : List ℕ). 2 ∷ l) (behind_letters bytes));
      long = eleven;
      short = subst (λ k. k ≤ 65536) (ap (λ (l : List ℕ). from_be_bytes w32 (take 4 l)) where_length ∙ length_there bytes eleven) (leb-true _ _ d.1);
    }

vector_not_never : (at : ℕ) (bytes : List ℕ) → vector_extent at bytes ≡ Never → ⊥
unfolding vector_extent
vector_not_never at bytes e = by (ltb (length bytes) (at + 2)) (ltb (length bytes) (at + 2 + 6 * site_count at bytes)) e
  where
    by : (b d : Bool) → cond b Open (cond d Open (Whole (at + 2 + 6 * site_count at bytes))) ≡ Never → ⊥
    by true d e = cc
    by false true e = cc
    by false false e = cc

lengths_not_never : (bytes : List ℕ) → (11 ≤ length bytes → script_length bytes ≤ 65536) → lengths_extent bytes ≡ Never → ⊥
unfolding lengths_extent
lengths_not_never bytes few e = by (ltb (length bytes) 11) refl e
  where
    by : (b : Bool) → ltb (length bytes) 11 ≡ b → cond b Open (cond (ltb 65536 (script_length bytes)) Never (vector_extent (11 + script_length bytes) bytes)) ≡ Never → ⊥
    by true is e = cc
    by false is e =
        let fits : ltb 65536 (script_length bytes) ≡ false = le-ltb _ _ (few (ltb-false _ _ is)) in
        vector_not_never (11 + script_length bytes) bytes (sym (when_false _ Never (vector_extent (11 + script_length bytes) bytes) fits) ∙ e)

pub none_follows : (bytes more rest : List ℕ) (g : Greeting) → greeting_extent bytes ≡ Never → greeting_at (bytes ++ more) ≡ Ok (g, rest) → ⊥
unfolding greeting_extent
none_follows bytes more rest g never read =
    let has = seen (bytes ++ more) rest g read in
    let right : is_compatible bytes letters ≡ true = front_agrees bytes more (drop 5 (bytes ++ more)) has.begins in
    let same : 11 ≤ length bytes → script_length bytes ≡ script_length (bytes ++ more) =
    λ (here : 11 ≤ length bytes). script_of_front bytes more (bytes ++ more) [] (sym (append-nil (bytes ++ more))) here has.long in
    lengths_not_never bytes (λ here. subst (λ k. k ≤ 65536) (sym (same here)) has.short) (sym (when_true _ (lengths_extent bytes) Never right) ∙ never)
