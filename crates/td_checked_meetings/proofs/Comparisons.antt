-- What is answered to a comparison, and what is found by it.
use Rattle.std.proofs.Common.{◌≡◌, ℕ, ◌+◌, ◌≤◌, Bool, true, false, cond, List, [], ◌∷◌, length, map, Result, Ok, Err, sym, ap, ◌∙◌, arith}
use Rattle.std.specs.List.{filter}
use Rattle.std.specs.Result.{IfOk}
use Rattle.td_stamps.specs.Vectors.{IsVector, VersionVector}
use Rattle.td_stamps.specs.declared.entry.Entry.{Entry}
use Rattle.td_replica.specs.Seen.{Seen}
use Rattle.td_comparison.specs.Digests.{answers_to, differing, differs, known_to_differ}
use Rattle.td_comparison.specs.Messages.{IsComparisonIn}
use Rattle.td_comparison.specs.declared.differing.Findings.{Findings}
use Rattle.td_comparison.specs.declared.digest.SiteDigest.{SiteDigest}
use Rattle.td_comparison.specs.declared.message.Comparison.{Comparison}
use Rattle.td_checked_meetings.specs.Comparing.{AnswersComparison, Compares, IsOfAnother}
use Rattle.td_checked_meetings.specs.ForProofs.{FindsOf, Differ, IsOfOther}
use Rattle.td_checked_meetings.specs.declared.scope.MeetingScope.{MeetingScope}

-- ---- a comparison and its bytes are of one site

as_other : (s : Seen) (bytes : List ℕ) (x : Comparison) → IsComparisonIn bytes x → IsOfAnother s bytes → IsOfOther s x
as_other s bytes x is other = (λ (same : x.site ≡ s.site). other.0 (sym is.site ∙ same), is.script ∙ other.1)

as_another : (s : Seen) (bytes : List ℕ) (x : Comparison) → IsComparisonIn bytes x → IsOfOther s x → IsOfAnother s bytes
as_another s bytes x is other = (λ same. other.0 (is.site ∙ same), sym is.script ∙ other.1)

-- ---- what is answered

pub answered : {E : Type 0} (s : Seen) (v : VersionVector) (x : Comparison) (r : Result Findings E) (es : List Entry) (ds : List SiteDigest) → es ≡ s.entries → ds ≡ x.digests.items → IsOfOther s x
    → IfOk r (λ f. f.digests.items ≡ answers_to es v ds) → IfOk r (λ f. f.differing.items ≡ known_to_differ es v ds) → IfOk r (λ f. FindsOf s v x f)
answered s v x (Ok f) es ds held same other digests differing = record {
  compared = λ _. (
    digests ∙ ap (λ (l : List Entry). answers_to l v ds) held ∙ ap (answers_to s.entries v) same,
    differing ∙ ap (λ (l : List Entry). known_to_differ l v ds) held ∙ ap (known_to_differ s.entries v) same,
  );
  not_compared = λ none. absurd (none other);
}
answered s v x (Err e) es ds held same other digests differing = tt

pub answers : (s : Seen) (v : VersionVector) (bytes : List ℕ) (x : Comparison) (f : Findings) → IsVector s.entries v → IsComparisonIn bytes x → FindsOf s v x f
    → AnswersComparison s bytes (record { vector = v; left_out = f.differing }) f.digests.items
answers s v bytes x f own is found = record {
  vector = own;
  compared = λ other.
      let both = found.compared (as_other s bytes x is other) in
      (both.0 ∙ ap (answers_to s.entries v) is.digests, both.1 ∙ ap (known_to_differ s.entries v) is.digests);
  not_compared = λ none. found.not_compared (λ other. none (as_another s bytes x is other));
}

-- ---- what is found to differ

pub differ : {V E : Type 0} (s : Seen) (v : VersionVector) (x : Comparison) (r : Result V E) (items : V → List ℕ) (es : List Entry) (ds : List SiteDigest) → es ≡ s.entries → ds ≡ x.digests.items → IsOfOther s x
    → IfOk r (λ f. items f ≡ differing es v ds) → IfOk r (λ f. Differ s v x (items f))
differ s v x (Ok f) items es ds held same other is = record {
  compared = λ _. is ∙ ap (λ (l : List Entry). differing l v ds) held ∙ ap (differing s.entries v) same;
  not_compared = λ none. absurd (none other);
}
differ s v x (Err e) items es ds held same other is = tt

few_step : (b : Bool) (d : SiteDigest) (ds : List SiteDigest) (n : ℕ) → length (map (λ d. d.site) ds) ≤ n → length (map (λ d. d.site) (cond b (d ∷ ds) ds)) ≤ n + 1
few_step true d ds n le = omega (arith, le)
few_step false d ds n le = omega (arith, le)

few_differ : (xs : List Entry) (v : VersionVector) (ds : List SiteDigest) → length (differing xs v ds) ≤ length ds
few_differ xs v [] = omega arith
few_differ xs v (d ∷ ds) = let le = few_step (differs xs v d) d (filter (differs xs v) ds) (length ds) (few_differ xs v ds) in omega (arith, le)

pub few : {V E : Type 0} (v : VersionVector) (r : Result V E) (items : V → List ℕ) (es : List Entry) (ds all : List SiteDigest) → ds ≡ all → IfOk r (λ f. items f ≡ differing es v ds) → IfOk r (λ f. length (items f) ≤ length all)
few v (Ok f) items es ds all same is = omega (arith, ap length is, few_differ es v ds, ap length same)
few v (Err e) items es ds all same is = tt

pub compares : (s : Seen) (v : VersionVector) (bytes : List ℕ) (x : Comparison) (c : MeetingScope) → c.vector ≡ v → IsComparisonIn bytes x → Differ s v x c.left_out.items → Compares s v bytes c
compares s v bytes x c own is found = record {
  vector = own;
  compared = λ other. found.compared (as_other s bytes x is other) ∙ ap (differing s.entries v) is.digests;
  not_compared = λ none. found.not_compared (λ other. none (as_another s bytes x is other));
}
