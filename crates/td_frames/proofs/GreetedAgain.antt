-- A greeting that was written is read again.
use Rattle.std.proofs.Common.{◌≡◌, ◌<◌, ◌≤◌, ◌^◌, ℕ, suc, Bool, true, false, cond, ltb, leb, eqb, ◌&&◌, T, inl, inr, Less, Equal, Greater, is_some, List, [], ◌∷◌, ◌++◌, length, codes, Option, Some, None, Result, Ok, refl, sym, ap, subst, ◌∙◌, append_assoc, append-nil, arith}
use mathlib.Core.Bool.{false≢true}
use Rattle.std.specs.Cmp.{nat_cmp_total}
use Rattle.std.specs.Ordering.{nat_cmp, is_lt}
use Rattle.std.specs.FinMap as by_site
use Rattle.std.specs.FinMap.Entries.{below_all, is_sorted}
use Rattle.std.specs.Int.{w16, w32, to_be_bytes, from_be_bytes}
use Rattle.std.specs.List.{AllByRecursion, flat_map}
use Rattle.std.specs.Str.{is_utf8, bytes_eq}
use Rattle.std.proofs.lemmas.Bool.{cases_Bool, le-leb, lt-ltb}
use Rattle.std.proofs.lemmas.Bool.Decides.{nat_tests}
use Rattle.std.proofs.lemmas.List.Concat.{flat_map-cons}
use Rattle.std.proofs.lemmas.Nat.{from_be_bytes-to_be_bytes_2, from_be_bytes-to_be_bytes_4}
use Rattle.std.proofs.lemmas.Str.{is_utf8-from_IsUtf8}
use Rattle.td_stamps.specs.Vectors.{VersionVector}
use Rattle.td_frames.specs.declared.greeting.Greeting.{Greeting}
use Rattle.td_frames.specs.Spelling.{HasGreeting, IsPlace, place, head_frame, script_frame, vector_frame, greeting_frame}
use Rattle.td_frames.specs.Reading.{Miss, magic, version, bad, then_at, magic_at, version_at, site_at, length_at, utf8_at, script_at, count_at, number_at, sites_at, vector_at, head_at, rest_at, greeting_at}
use Rattle.td_frames.specs.ForProofs.{AreAtMost}
use Rattle.td_frames.proofs.InTurn.{checked_passes}
use Rattle.td_frames.proofs.Places.{is_new, at_most_after}
use Rattle.td_frames.proofs.Vectors.{none_is_at_most}

-- the greeting, once its version vector is read
abbrev pub greeting_with : ℕ → List ℕ → VersionVector → List ℕ → Result (Greeting × List ℕ) Miss
greeting_with site script v rest = Ok (record { site = site; script = script; vector = v }, rest)

abbrev pub vector_then : ℕ → List ℕ → List ℕ → Result (Greeting × List ℕ) Miss
vector_then site script b = then_at (vector_at b) (greeting_with site script)

-- a site that comes after the last one
site_again : (last site : ℕ) (more : List ℕ) → last < site → site < 2 ^ 16 → site_at last (to_be_bytes w16 site ++ more) ≡ Ok (site, more)
site_again last site more lt fits =
    let back : from_be_bytes w16 (to_be_bytes w16 site) ≡ site = from_be_bytes-to_be_bytes_2 site fits in
    checked_passes 2 (λ b. ltb last (from_be_bytes w16 b)) (from_be_bytes w16) bad (to_be_bytes w16 site) more refl (subst (λ n. ltb last n ≡ true) (sym back) (lt-ltb last site lt))
    ∙ ap (λ n. Ok (n, more)) back

number_again : (n : ℕ) (more : List ℕ) → 1 ≤ n → n ≤ 1000000000 → number_at (to_be_bytes w32 n ++ more) ≡ Ok (n, more)
number_again n more low high =
    let back : from_be_bytes w32 (to_be_bytes w32 n) ≡ n = from_be_bytes-to_be_bytes_4 n (omega (arith, high)) in
    let within : (leb 1 n && leb n 1000000000) ≡ true = rw (le-leb 1 n low, le-leb n 1000000000 high) refl in
    checked_passes 4 (λ b. leb 1 (from_be_bytes w32 b) && leb (from_be_bytes w32 b) 1000000000) (from_be_bytes w32) bad (to_be_bytes w32 n) more refl
    (subst (λ k. (leb 1 k && leb k 1000000000) ≡ true) (sym back) within)
    ∙ ap (λ k. Ok (k, more)) back

count_again : (k : ℕ) (more : List ℕ) → k < 2 ^ 16 → count_at (to_be_bytes w16 k ++ more) ≡ Ok (k, more)
count_again k more fits =
    checked_passes 2 (λ b. true) (from_be_bytes w16) bad (to_be_bytes w16 k) more refl refl ∙ ap (λ n. Ok (n, more)) (from_be_bytes-to_be_bytes_2 k fits)

length_again : (n : ℕ) (more : List ℕ) → n ≤ 65536 → length_at (to_be_bytes w32 n ++ more) ≡ Ok (n, more)
length_again n more le =
    let back : from_be_bytes w32 (to_be_bytes w32 n) ≡ n = from_be_bytes-to_be_bytes_4 n (omega (arith, le)) in
    checked_passes 4 (λ b. leb (from_be_bytes w32 b) 65536) (from_be_bytes w32) bad (to_be_bytes w32 n) more refl (subst (λ k. leb k 65536 ≡ true) (sym back) (le-leb n 65536 le))
    ∙ ap (λ k. Ok (k, more)) back

script_again : (script more : List ℕ) → length script ≤ 65536 → is_utf8 script ≡ true → script_at (script_frame script ++ more) ≡ Ok (script, more)
script_again script more le text =
    ap script_at (append_assoc (to_be_bytes w32 (length script)) script more) ∙ ap (λ r. then_at r utf8_at) (length_again (length script) (script ++ more) le)
    ∙ checked_passes (length script) is_utf8 (λ b. b) bad script more refl text

head_again : (site : ℕ) (more : List ℕ) → 1 ≤ site → site < 2 ^ 16 → head_at (head_frame site ++ more) ≡ Ok (site, more)
head_again site more some fits =
    let behind = to_be_bytes w16 site ++ more in
    let letters : magic_at (codes "HTDB" ++ 2 ∷ behind) ≡ Ok (tt, 2 ∷ behind) = checked_passes 4 (λ b. bytes_eq b (codes "HTDB")) (λ b. tt) magic (codes "HTDB") (2 ∷ behind) refl refl in
    let one : version_at ((2 ∷ []) ++ behind) ≡ Ok (tt, behind) = checked_passes 1 (λ b. bytes_eq b (2 ∷ [])) (λ b. tt) version (2 ∷ []) behind refl refl in
    ap (λ r. then_at r (λ _ b. then_at (version_at b) (λ _ c. site_at 0 c))) letters ∙ ap (λ r. then_at r (λ _ c. site_at 0 c)) one ∙ site_again 0 site more some fits

-- ---- the sites of a vector, which rise

abbrev pub Rising : ℕ → List (ℕ × ℕ) → Type 0
Rising last [] = Unit {0}
Rising last (p ∷ ps) = (last < p.0) × Rising p.0 ps

T_and : (a b : Bool) → T (a && b) → T a × T b
T_and true b h = (tt, h)
T_and false b h = absurd h

lt_of : (m n : ℕ) → T (is_lt (nat_cmp m n)) → m < n
lt_of m n h = elim (cases_Bool (ltb m n)) [
  | inl less ↦ grind (arith, nat_tests)
  | inr not_less ↦
      let other : T (is_lt (cond (eqb m n) Equal Greater)) = subst (λ t. T (is_lt (cond t Less (cond (eqb m n) Equal Greater)))) not_less h in
      absurd (elim (eqb m n) as (λ t. T (is_lt (cond t Equal Greater)) → ⊥) [ true ↦ λ x. x | false ↦ λ x. x ] other)
]

pub rising : (p : ℕ × ℕ) (ps : List (ℕ × ℕ)) → T (is_sorted nat_cmp (p ∷ ps)) → Rising p.0 ps
rising p [] h = tt
rising p (q ∷ ps) h =
    let both = T_and (below_all nat_cmp p.0 (q ∷ ps)) (is_sorted nat_cmp (q ∷ ps)) h in
    let first = T_and (is_lt (nat_cmp p.0 q.0)) (below_all nat_cmp p.0 ps) both.0 in
    (lt_of p.0 q.0 first.0, rising q ps both.1)

pub rising_from : (ps : List (ℕ × ℕ)) → T (is_sorted nat_cmp ps) → AllByRecursion IsPlace ps → Rising 0 ps
rising_from [] h all = tt
rising_from (p ∷ ps) h all = (all.0.0, rising p ps h)

abbrev pub sites_of : List (ℕ × ℕ) → VersionVector
sites_of ps = by_site.from_entries ps

missing : {A : Type 0} (o : Option A) → is_some o ≡ false → o ≡ None
missing None e = refl
missing (Some x) e = absurd (false≢true (sym e))

-- a vector is what is made of its sites
made_whole : (v : VersionVector) → sites_of (by_site.entries v) ≡ v
made_whole v =
    by_site.same_map nat_cmp_total by_site.nat_cmp-IsAntisymmetric (sites_of (by_site.entries v)) v
    (λ q. by_site.get-from_entries nat_cmp_total (by_site.entries v) q ∙ sym (by_site.get-entries v q))

-- one site more, after the last one
pub one_more : (last : ℕ) (done : List (ℕ × ℕ)) (s n : ℕ) → AreAtMost last (sites_of done) → last < s → by_site.insert (sites_of done) s n ≡ sites_of (done ++ (s, n) ∷ [])
one_more last done s n most lt =
    sym (by_site.from_entries_push nat_cmp_total by_site.nat_cmp-IsAntisymmetric done s n (sym (by_site.get-from_entries nat_cmp_total done s) ∙ missing (by_site.get (sites_of done) s) (is_new last s (sites_of done) most lt)))

pub grown : (last : ℕ) (done : List (ℕ × ℕ)) (s n : ℕ) → AreAtMost last (sites_of done) → last < s → AreAtMost s (sites_of (done ++ (s, n) ∷ []))
grown last done s n most lt = subst (AreAtMost s) (one_more last done s n most lt) (at_most_after last s (sites_of done) n most lt)

sites_again : (ps : List (ℕ × ℕ)) (last : ℕ) (done : List (ℕ × ℕ)) (more : List ℕ) → AreAtMost last (sites_of done) → Rising last ps → AllByRecursion IsPlace ps
    → sites_at (length ps) last (sites_of done) (flat_map place ps ++ more) ≡ Ok (sites_of (done ++ ps), more)
unfolding sites_at
sites_again [] last done more most up all = ap (λ (l : List (ℕ × ℕ)). Ok (sites_of l, more)) (sym (append-nil done))
sites_again (p ∷ ps) last done more most up all =
    let w = sites_of done in
    let rest = flat_map place ps ++ more in
    let bytes : flat_map place (p ∷ ps) ++ more ≡ to_be_bytes w16 p.0 ++ (to_be_bytes w32 p.1 ++ rest) =
    ap (λ (l : List ℕ). l ++ more) (flat_map-cons place p ps) ∙ append_assoc (place p) (flat_map place ps) more ∙ append_assoc (to_be_bytes w16 p.0) (to_be_bytes w32 p.1) rest in
    ap (λ (b : List ℕ). sites_at (suc (length ps)) last w b) bytes
    ∙ ap (λ r. then_at r (λ s b. then_at (number_at b) (λ n c. sites_at (length ps) s (by_site.insert w s n) c))) (site_again last p.0 (to_be_bytes w32 p.1 ++ rest) up.0 all.0.1)
    ∙ ap (λ r. then_at r (λ n c. sites_at (length ps) p.0 (by_site.insert w p.0 n) c)) (number_again p.1 rest all.0.2 all.0.3)
    ∙ ap (λ (x : VersionVector). sites_at (length ps) p.0 x rest) (one_more last done p.0 p.1 most up.0)
    ∙ sites_again ps p.0 (done ++ p ∷ []) more (grown last done p.0 p.1 most up.0) up.1 all.1
    ∙ ap (λ (l : List (ℕ × ℕ)). Ok (sites_of l, more)) (append_assoc done (p ∷ []) ps)

vector_again : (v : VersionVector) (more : List ℕ) → length (by_site.entries v) < 2 ^ 16 → AllByRecursion IsPlace (by_site.entries v) → vector_at (vector_frame (by_site.entries v) ++ more) ≡ Ok (v, more)
vector_again v more few all =
    let ps = by_site.entries v in
    ap vector_at (append_assoc (to_be_bytes w16 (length ps)) (flat_map place ps) more)
    ∙ ap (λ r. then_at r (λ k b. sites_at k 0 by_site.empty b)) (count_again (length ps) (flat_map place ps ++ more) few)
    ∙ sites_again ps 0 [] more (none_is_at_most 0) (rising_from ps (by_site.entries_sorted v) all) all
    ∙ ap (λ (w : VersionVector). Ok (w, more)) (made_whole v)

pub greeting_again : (site : ℕ) (script : List ℕ) (v : VersionVector) (more : List ℕ) → HasGreeting site script v
    → greeting_at (greeting_frame site script (by_site.entries v) ++ more) ≡ Ok (record { site = site; script = script; vector = v }, more)
greeting_again site script v more has =
    let ps = by_site.entries v in
    let behind = vector_frame ps ++ more in
    ap greeting_at (append_assoc (head_frame site) (script_frame script ++ vector_frame ps) more)
    ∙ ap (λ r. then_at r rest_at) (head_again site ((script_frame script ++ vector_frame ps) ++ more) has.some_site has.site_fits)
    ∙ ap (rest_at site) (append_assoc (script_frame script) (vector_frame ps) more)
    ∙ ap (λ r. then_at r (vector_then site)) (script_again script behind has.short (is_utf8-from_IsUtf8 script has.text))
    ∙ ap (λ r. then_at r (greeting_with site script)) (vector_again v more has.few has.places)
