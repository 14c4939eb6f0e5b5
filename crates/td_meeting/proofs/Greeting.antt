-- The greeting of a site.
use Rattle.std.proofs.Common.{◌≡◌, ◌<◌, ◌^◌, ℕ, Bool, true, false, not, List, length, Option, Result, refl, sym, ap, subst, ◌∙◌}
use Rattle.std.specs.FinMap as by_site
use Rattle.std.specs.List.{AllByRecursion}
use mathlib.Core.Bool.{false≢true}
use Rattle.std.specs.Str.{IsUtf8, bytes_eq}
use Rattle.std.proofs.lemmas.Slice.Eq.{bytes_eq-Decides}
use Rattle.td_io.specs.Streams.{Writes}
use Rattle.td_stamps.specs.Vectors.{sites_fit}
use Rattle.td_frames.specs.Spelling.{HasGreeting, IsPlace, greeting_frame}
use Rattle.td_replica.specs.Seen.{Seen, IsSound}
use Rattle.td_meeting.specs.ForProofs.Parts.{ArePlaces}
use Rattle.td_meeting.specs.Writing.{Greets}
use Rattle.td_meeting.proofs.Places.{are_places, few_places}
use Rattle.td_meeting.proofs.Sound.{script_is_short}

all_places : (s : Seen) (ps : List (ℕ × ℕ)) → IsSound s → (are : ArePlaces s.entries ps) → AllByRecursion IsPlace (by_site.entries are.vector)
all_places s ps sound are = are_places s.entries are.vector are.is sound.ranges (subst (λ (l : List (ℕ × ℕ)). sites_fit l ≡ true) are.places are.fit)

pub few_of : (s : Seen) (ps : List (ℕ × ℕ)) → IsSound s → ArePlaces s.entries ps → length ps < 65536
few_of s ps sound are = subst (λ (l : List (ℕ × ℕ)). length l < 65536) (sym are.places) (few_places are.vector (all_places s ps sound are))

has_greeting : (s : Seen) (ps : List (ℕ × ℕ)) → IsSound s → (are : ArePlaces s.entries ps) → s.site < 2 ^ 16 → IsUtf8 s.script → HasGreeting s.site s.script are.vector
has_greeting s ps sound are fits text = record {
  some_site = sound.site;
  site_fits = fits;
  short = script_is_short s sound;
  text = text;
  few = few_places are.vector (all_places s ps sound are);
  places = all_places s ps sound are;
}

-- what was written is the site's greeting
pub greets_by : {E : Type 0} (s : Seen) (ps : List (ℕ × ℕ)) (site : ℕ) (script : List ℕ) (old new : Option (List ℕ)) (r : Result (Unit {0}) E) → IsSound s → ArePlaces s.entries ps → site ≡ s.site → script ≡ s.script
    → site < 2 ^ 16 → IsUtf8 script → Writes old new r (greeting_frame site script ps) → (bytes : List ℕ) × Greets s bytes × Writes old new r bytes
greets_by s ps site script old new r sound are number text fits utf8 writes = (
  greeting_frame site script ps,
  record {
    vector = are.vector;
    is = are.is;
    has = has_greeting s ps sound are (subst (λ n. n < 2 ^ 16) number fits) (subst IsUtf8 text utf8);
    spelled = ap (λ n. greeting_frame n script ps) number ∙ ap (λ (t : List ℕ). greeting_frame s.site t ps) text ∙ ap (greeting_frame s.site s.script) are.places;
  },
  writes,
)

-- ---- whether two texts are the same

pub differ : (xs ys : List ℕ) (b : Bool) → b ≡ not (bytes_eq xs ys) → b ≡ true → xs ≡ ys → ⊥
differ xs ys b is true_is same = false≢true (sym (is ∙ ap not ((bytes_eq-Decides xs ys).1 same)) ∙ true_is)

not_false : (b : Bool) → not b ≡ false → b ≡ true
not_false true e = refl
not_false false e = absurd (false≢true (sym e))

pub equal : (xs ys : List ℕ) (b : Bool) → b ≡ not (bytes_eq xs ys) → b ≡ false → xs ≡ ys
equal xs ys b is false_is = (bytes_eq-Decides xs ys).0 (not_false (bytes_eq xs ys) (sym is ∙ false_is))
