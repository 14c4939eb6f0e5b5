-- What was read as a greeting was spelled so.
use Rattle.std.proofs.Common.{◌≡◌, ◌<◌, ◌≤◌, ℕ, zero, suc, Bool, true, false, cond, ltb, leb, eqb, ◌&&◌, T, Less, Equal, Greater, List, [], ◌∷◌, ◌++◌, length, take, drop, codes, Result, Ok, Err, refl, sym, ap, subst, ◌∙◌, append_assoc, append-nil, arith}
use Rattle.std.specs.Int.{w16, w32, to_be_bytes, from_be_bytes}
use Rattle.std.specs.Str.{is_utf8, bytes_eq}
use Rattle.std.specs.Cmp.{nat_cmp_total}
use Rattle.std.specs.FinMap as by_site
use Rattle.std.specs.FinMap.Entries.{below_all, is_sorted}
use Rattle.std.specs.List.{flat_map}
use Rattle.std.specs.Ordering.{nat_cmp, is_lt}
use Rattle.std.proofs.lemmas.Bool.{ltb-false, ltb-true, lt-ltb}
use Rattle.std.proofs.lemmas.List.Concat.{flat_map-cons}
use Rattle.std.proofs.lemmas.Slice.Eq.{bytes_eq-Decides}
use Rattle.std.proofs.lemmas.List.{take-append-drop, length-take-le}
use Rattle.std.proofs.lemmas.Nat.{be_bytes_2, be_bytes_4}
use Rattle.td_stamps.specs.Vectors.{VersionVector}
use Rattle.td_frames.specs.declared.greeting.Greeting.{Greeting}
use Rattle.td_frames.specs.ForProofs.{AreAtMost}
use Rattle.td_frames.specs.Laws.{AreBytes}
use Rattle.td_frames.specs.Spelling.{place, head_frame, script_frame, vector_frame, greeting_frame}
use Rattle.td_frames.specs.Reading.{Miss, short, magic, version, bad, checked_at, then_at, magic_at, version_at, site_at, length_at, utf8_at, script_at, count_at, number_at, sites_at, vector_at, head_at, rest_at, greeting_at}
use Rattle.td_frames.proofs.Loops.{guard, guard_ok}
use Rattle.td_frames.proofs.Spelled.{bytes_taken, bytes_after}
use Rattle.td_frames.proofs.Vectors.{none_is_at_most}
use Rattle.td_frames.proofs.GreetedAgain.{Rising, sites_of, one_more, grown, greeting_with, vector_then}

-- a field that was read: it is whole, passes its test, and what is behind it is left
record Was {A : Type 0} (n : ℕ) (test : List ℕ → Bool) (value : List ℕ → A) (bytes : List ℕ) (x : A) (rest : List ℕ) : Type 0 where
  whole : bytes ≡ take n bytes ++ rest
  len : length (take n bytes) ≡ n
  passes : test (take n bytes) ≡ true
  is : x ≡ value (take n bytes)
  behind : rest ≡ drop n bytes

checked_was : {A : Type 0} (n : ℕ) (test : List ℕ → Bool) (value : List ℕ → A) (miss : Miss) (bytes : List ℕ) (x : A) (rest : List ℕ) → checked_at n test value miss bytes ≡ Ok (x, rest) → Was n test value bytes x rest
checked_was {A} n test value miss bytes x rest e =
    let a = guard (ltb (length bytes) n) short _ (x, rest) e in
    let b = guard_ok (test (take n bytes)) miss (value (take n bytes), drop n bytes) (x, rest) a.1 in
    let left : rest ≡ drop n bytes = sym (ap (λ (y : A × List ℕ). y.1) b.1) in
    record {
      whole = sym (take-append-drop n bytes) ∙ ap (λ (l : List ℕ). take n bytes ++ l) (sym left);
      len = length-take-le n bytes (ltb-false _ _ a.0);
      passes = b.0;
      is = sym (ap (λ (y : A × List ℕ). y.0) b.1);
      behind = left;
    }

-- one thing that was read before another
first_was : {A B : Type 0} (r : Result (A × List ℕ) Miss) (next : A → List ℕ → Result (B × List ℕ) Miss) (y : B × List ℕ) → then_at r next ≡ Ok y → (x : A) × (rest : List ℕ) × (r ≡ Ok (x, rest)) × (next x rest ≡ Ok y)
first_was (Ok x) next y e = (x.0, x.1, refl, e)
first_was (Err m) next y e = absurd cc

-- ---- numbers, each with the bytes behind it

site_was : (last : ℕ) (bytes : List ℕ) (x : ℕ) (rest : List ℕ) → AreBytes bytes → site_at last bytes ≡ Ok (x, rest) → (bytes ≡ to_be_bytes w16 x ++ rest) × (last < x) × AreBytes rest
site_was last bytes x rest all e =
    let w = checked_was 2 (λ b. ltb last (from_be_bytes w16 b)) (from_be_bytes w16) bad bytes x rest e in
    let spelled : to_be_bytes w16 x ≡ take 2 bytes = be_bytes_2 (take 2 bytes) x w.len (bytes_taken 2 bytes all) w.is in
    let above : last < x = subst (λ n. last < n) (sym w.is) (ltb-true last (from_be_bytes w16 (take 2 bytes)) w.passes) in
    (w.whole ∙ ap (λ (l : List ℕ). l ++ rest) (sym spelled), above, subst AreBytes (sym w.behind) (bytes_after 2 bytes all))

number_was : (bytes : List ℕ) (x : ℕ) (rest : List ℕ) → AreBytes bytes → number_at bytes ≡ Ok (x, rest) → (bytes ≡ to_be_bytes w32 x ++ rest) × AreBytes rest
number_was bytes x rest all e =
    let w = checked_was 4 (λ b. leb 1 (from_be_bytes w32 b) && leb (from_be_bytes w32 b) 1000000000) (from_be_bytes w32) bad bytes x rest e in
    let spelled : to_be_bytes w32 x ≡ take 4 bytes = be_bytes_4 (take 4 bytes) x w.len (bytes_taken 4 bytes all) w.is in
    (w.whole ∙ ap (λ (l : List ℕ). l ++ rest) (sym spelled), subst AreBytes (sym w.behind) (bytes_after 4 bytes all))

count_was : (bytes : List ℕ) (x : ℕ) (rest : List ℕ) → AreBytes bytes → count_at bytes ≡ Ok (x, rest) → (bytes ≡ to_be_bytes w16 x ++ rest) × AreBytes rest
count_was bytes x rest all e =
    let w = checked_was 2 (λ b. true) (from_be_bytes w16) bad bytes x rest e in
    let spelled : to_be_bytes w16 x ≡ take 2 bytes = be_bytes_2 (take 2 bytes) x w.len (bytes_taken 2 bytes all) w.is in
    (w.whole ∙ ap (λ (l : List ℕ). l ++ rest) (sym spelled), subst AreBytes (sym w.behind) (bytes_after 2 bytes all))

length_was : (bytes : List ℕ) (x : ℕ) (rest : List ℕ) → AreBytes bytes → length_at bytes ≡ Ok (x, rest) → (bytes ≡ to_be_bytes w32 x ++ rest) × AreBytes rest
length_was bytes x rest all e =
    let w = checked_was 4 (λ b. leb (from_be_bytes w32 b) 65536) (from_be_bytes w32) bad bytes x rest e in
    let spelled : to_be_bytes w32 x ≡ take 4 bytes = be_bytes_4 (take 4 bytes) x w.len (bytes_taken 4 bytes all) w.is in
    (w.whole ∙ ap (λ (l : List ℕ). l ++ rest) (sym spelled), subst AreBytes (sym w.behind) (bytes_after 4 bytes all))

script_was : (bytes s rest : List ℕ) → AreBytes bytes → script_at bytes ≡ Ok (s, rest) → (bytes ≡ script_frame s ++ rest) × AreBytes rest
script_was bytes s rest all e =
    let (n, b, first, second) = first_was (length_at bytes) utf8_at (s, rest) e in
    let (spelled, left) = length_was bytes n b all first in
    let w = checked_was n is_utf8 (λ x. x) bad b s rest second in
    let len : length s ≡ n = ap length w.is ∙ w.len in
    let whole : bytes ≡ to_be_bytes w32 (length s) ++ (s ++ rest) =
    spelled ∙ ap (λ (l : List ℕ). to_be_bytes w32 n ++ l) (w.whole ∙ ap (λ (l : List ℕ). l ++ rest) (sym w.is)) ∙ ap (λ k. to_be_bytes w32 k ++ (s ++ rest)) (sym len) in
    (whole ∙ sym (append_assoc (to_be_bytes w32 (length s)) s rest), subst AreBytes (sym w.behind) (bytes_after n b left))

head_was : (bytes : List ℕ) (site : ℕ) (rest : List ℕ) → AreBytes bytes → head_at bytes ≡ Ok (site, rest) → (bytes ≡ head_frame site ++ rest) × AreBytes rest
head_was bytes site rest all e =
    let (u, b, letters, then) = first_was (magic_at bytes) (λ _ b. then_at (version_at b) (λ _ c. site_at 0 c)) (site, rest) e in
    let (v, c, one, last) = first_was (version_at b) (λ _ c. site_at 0 c) (site, rest) then in
    let m = checked_was 4 (λ x. bytes_eq x (codes "HTDB")) (λ x. tt) magic bytes u b letters in
    let n = checked_was 1 (λ x. bytes_eq x (2 ∷ [])) (λ x. tt) version b v c one in
    let in_b : AreBytes b = subst AreBytes (sym m.behind) (bytes_after 4 bytes all) in
    let in_c : AreBytes c = subst AreBytes (sym n.behind) (bytes_after 1 b in_b) in
    let (spelled, above, left) = site_was 0 c site rest in_c last in
    let is_m : take 4 bytes ≡ codes "HTDB" = (bytes_eq-Decides _ _).0 m.passes in
    let is_n : take 1 b ≡ 2 ∷ [] = (bytes_eq-Decides _ _).0 n.passes in
    let whole_b : b ≡ 2 ∷ (to_be_bytes w16 site ++ rest) = n.whole ∙ ap (λ (l : List ℕ). l ++ c) is_n ∙ ap (λ (l : List ℕ). 2 ∷ l) spelled in
    (m.whole ∙ ap (λ (l : List ℕ). l ++ b) is_m ∙ ap (λ (l : List ℕ). codes "HTDB" ++ l) whole_b, left)

-- ---- the sites of a vector

lt_is : (m n : ℕ) → m < n → T (is_lt (nat_cmp m n))
lt_is m n lt = subst (λ t. T (is_lt (cond t Less (cond (eqb m n) Equal Greater)))) (sym (lt-ltb m n lt)) tt

T_both : (a b : Bool) → T a → T b → T (a && b)
T_both true b x y = y
T_both false b x y = x

below : (x last : ℕ) (ps : List (ℕ × ℕ)) → x ≤ last → Rising last ps → T (below_all nat_cmp x ps)
below x last [] le up = tt
below x last (p ∷ ps) le up =
    T_both (is_lt (nat_cmp x p.0)) (below_all nat_cmp x ps) (lt_is x p.0 (omega (arith, le, up.0))) (below x p.0 ps (omega (arith, le, up.0)) up.1)

sorted_of : (last : ℕ) (ps : List (ℕ × ℕ)) → Rising last ps → T (is_sorted nat_cmp ps)
sorted_of last [] up = tt
sorted_of last (p ∷ ps) up = let same : p.0 ≤ p.0 = omega arith in T_both (below_all nat_cmp p.0 ps) (is_sorted nat_cmp ps) (below p.0 p.0 ps same up.1) (sorted_of p.0 ps up.1)

-- sites that rise are the entries of what is made of them
listed : (last : ℕ) (ps : List (ℕ × ℕ)) → Rising last ps → by_site.entries (sites_of ps) ≡ ps
listed last ps up =
    let sorted = sorted_of last ps up in
    let made : VersionVector = by_site.from_sorted ps in
    let same : sites_of ps ≡ made =
    by_site.same_map nat_cmp_total by_site.nat_cmp-IsAntisymmetric (sites_of ps) made (λ q. by_site.get-from_entries nat_cmp_total ps q ∙ sym (by_site.get-from_sorted nat_cmp ps q sorted)) in
    ap by_site.entries same ∙ by_site.entries-from_sorted nat_cmp ps sorted

record Sited (k last : ℕ) (done : List (ℕ × ℕ)) (bytes : List ℕ) (v : VersionVector) (rest : List ℕ) : Type 0 where
  places : List (ℕ × ℕ)
  count : length places ≡ k
  whole : bytes ≡ flat_map place places ++ rest
  made : v ≡ sites_of (done ++ places)
  rises : Rising last places
  left : AreBytes rest

sites_was : (k last : ℕ) (done : List (ℕ × ℕ)) (bytes : List ℕ) (v : VersionVector) (rest : List ℕ) → AreBytes bytes → AreAtMost last (sites_of done)
    → sites_at k last (sites_of done) bytes ≡ Ok (v, rest) → Sited k last done bytes v rest
unfolding sites_at
sites_was zero last done bytes v rest all most e =
    let same : (sites_of done, bytes) ≡ (v, rest) = cc in
    let is : bytes ≡ rest = ap (λ (y : VersionVector × List ℕ). y.1) same in
    record {
      places = [];
      count = refl;
      whole = is;
      made = sym (ap (λ (y : VersionVector × List ℕ). y.0) same) ∙ ap sites_of (sym (append-nil done));
      rises = tt;
      left = subst AreBytes is all;
    }
sites_was (suc k) last done bytes v rest all most e =
    let w = sites_of done in
    let (s, b, first, then) = first_was (site_at last bytes) (λ s b. then_at (number_at b) (λ n c. sites_at k s (by_site.insert w s n) c)) (v, rest) e in
    let (n, c, second, others) = first_was (number_at b) (λ n c. sites_at k s (by_site.insert w s n) c) (v, rest) then in
    let (spelled, above, in_b) = site_was last bytes s b all first in
    let (numbered, in_c) = number_was b n c in_b second in
    let new = one_more last done s n most above in
    let so = sites_was k s (done ++ (s, n) ∷ []) c v rest in_c (grown last done s n most above) (ap (λ (x : VersionVector). sites_at k s x c) (sym new) ∙ others) in
    let p : ℕ × ℕ = (s, n) in
    record {
      places = p ∷ so.places;
      count = ap suc so.count;
      whole =
          spelled ∙ ap (λ (l : List ℕ). to_be_bytes w16 s ++ l) (numbered ∙ ap (λ (l : List ℕ). to_be_bytes w32 n ++ l) so.whole)
          ∙ sym (append_assoc (to_be_bytes w16 s) (to_be_bytes w32 n) (flat_map place so.places ++ rest)) ∙ sym (append_assoc (place p) (flat_map place so.places) rest)
          ∙ ap (λ (l : List ℕ). l ++ rest) (sym (flat_map-cons place p so.places));
      made = so.made ∙ ap sites_of (append_assoc done (p ∷ []) so.places);
      rises = (above, so.rises);
      left = so.left;
    }

vector_was : (bytes : List ℕ) (v : VersionVector) (rest : List ℕ) → AreBytes bytes → vector_at bytes ≡ Ok (v, rest) → bytes ≡ vector_frame (by_site.entries v) ++ rest
vector_was bytes v rest all e =
    let (k, b, first, second) = first_was (count_at bytes) (λ k b. sites_at k 0 by_site.empty b) (v, rest) e in
    let (spelled, left) = count_was bytes k b all first in
    let so = sites_was k 0 [] b v rest left (none_is_at_most 0) second in
    let ps = so.places in
    let are : ps ≡ by_site.entries v = sym (ap by_site.entries so.made ∙ listed 0 ps so.rises) in
    let whole : bytes ≡ to_be_bytes w16 (length ps) ++ (flat_map place ps ++ rest) = spelled ∙ ap (λ (l : List ℕ). to_be_bytes w16 k ++ l) so.whole ∙ ap (λ n. to_be_bytes w16 n ++ (flat_map place ps ++ rest)) (sym so.count) in
    whole ∙ sym (append_assoc (to_be_bytes w16 (length ps)) (flat_map place ps) rest) ∙ ap (λ (qs : List (ℕ × ℕ)). vector_frame qs ++ rest) are

pub greeting_was : (bytes rest : List ℕ) (g : Greeting) → AreBytes bytes → greeting_at bytes ≡ Ok (g, rest) → bytes ≡ greeting_frame g.site g.script (by_site.entries g.vector) ++ rest
greeting_was bytes rest g all e =
    let (site, b, first, second) = first_was (head_at bytes) rest_at (g, rest) e in
    let (head, in_b) = head_was bytes site b all first in
    let (script, c, third, fourth) = first_was (script_at b) (vector_then site) (g, rest) second in
    let (scripted, in_c) = script_was b script c in_b third in
    let (v, d, fifth, last) = first_was (vector_at c) (greeting_with site script) (g, rest) fourth in
    let behind = vector_was c v d in_c fifth in
    let made : Greeting = record { site = site; script = script; vector = v } in
    let same : (made, d) ≡ (g, rest) = cc in
    let whole : bytes ≡ head_frame site ++ (script_frame script ++ (vector_frame (by_site.entries v) ++ d)) =
    head ∙ ap (λ (l : List ℕ). head_frame site ++ l) (scripted ∙ ap (λ (l : List ℕ). script_frame script ++ l) behind) in
    whole ∙ ap (λ (l : List ℕ). head_frame site ++ l) (sym (append_assoc (script_frame script) (vector_frame (by_site.entries v)) d))
    ∙ sym (append_assoc (head_frame site) (script_frame script ++ vector_frame (by_site.entries v)) d)
    ∙ ap (λ (y : Greeting × List ℕ). greeting_frame y.0.site y.0.script (by_site.entries y.0.vector) ++ y.1) same
