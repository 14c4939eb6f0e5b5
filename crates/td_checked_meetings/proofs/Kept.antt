-- The frames of what a meeting exchanges, written one after the other.
use Rattle.std.proofs.Common.{◌≡◌, ◌<◌, ◌+◌, ℕ, Bool, true, false, cond, List, [], ◌∷◌, ◌++◌, length, get_or, take, Option, refl, sym, ap, subst, ◌∙◌, append-nil, arith}
use Rattle.std.specs.FinMap as by_site
use Rattle.std.specs.List.{AllByRecursion, filter, flat_map}
use Rattle.std.proofs.lemmas.List.{take_more}
use Rattle.std.proofs.lemmas.List.Concat.{flat_map-cons}
use Rattle.std.proofs.lemmas.List.Elements.{filter-append}
use Rattle.td_stamps.specs.declared.entry.Entry.{Entry}
use Rattle.td_stamps.specs.Vectors.{VersionVector, after_vector, from_one, lacks, sites_fit}
use Rattle.std.specs.Io.KnownBytes.{Appends}
use Rattle.td_frames.specs.Spelling.{HasFrame, entry_frame, entry_frames, greeting_frame}
use Rattle.td_replica.specs.Seen.{Seen}
use Rattle.td_checked_meetings.specs.Steps.{greets}
use Rattle.td_checked_meetings.specs.declared.scope.MeetingScope.{MeetingScope}
use Rattle.td_frames.specs.declared.version.Version.TheVariants.{Second}
use Rattle.td_comparison.proofs.Places.{entries_rise, few_places}
use Rattle.td_checked_meetings.specs.Scopes.{is_in_scope, sent}

module _ (left_out : List ℕ) (own other : VersionVector) where
  -- the frames of one entry
  abbrev pub frames_of : Entry → List ℕ
  frames_of e = entry_frames Second (sent left_out own other (e ∷ []))

  frames_step : (a b : Bool) (x : Entry) (es : List Entry) → b ≡ is_in_scope left_out own x
      → entry_frames Second (filter (is_in_scope left_out own) (cond a (x ∷ []) [])) ++ entry_frames Second (filter (is_in_scope left_out own) es) ≡ entry_frames Second (filter (is_in_scope left_out own) (cond a (x ∷ es) es))
  frames_step false b x es is = refl
  frames_step true true x es is =
      subst (λ (b : Bool). entry_frames Second (cond b (x ∷ []) []) ++ entry_frames Second (filter (is_in_scope left_out own) es) ≡ entry_frames Second (cond b (x ∷ filter (is_in_scope left_out own) es) (filter (is_in_scope left_out own) es))) is
      (ap (λ (l : List ℕ). l ++ entry_frames Second (filter (is_in_scope left_out own) es)) (flat_map-cons (entry_frame Second) x [] ∙ append-nil (entry_frame Second x)) ∙ sym (flat_map-cons (entry_frame Second) x (filter (is_in_scope left_out own) es)))
  frames_step true false x es is =
      subst (λ (b : Bool). entry_frames Second (cond b (x ∷ []) []) ++ entry_frames Second (filter (is_in_scope left_out own) es) ≡ entry_frames Second (cond b (x ∷ filter (is_in_scope left_out own) es) (filter (is_in_scope left_out own) es))) is refl

  pub frames_each : (xs : List Entry) → flat_map frames_of xs ≡ entry_frames Second (sent left_out own other xs)
  frames_each [] = refl
  frames_each (x ∷ xs) =
      flat_map-cons frames_of x xs ∙ ap (λ (l : List ℕ). frames_of x ++ l) (frames_each xs) ∙ frames_step (lacks other x) (is_in_scope left_out own x) x (after_vector other xs) refl

  all_beside : {X : Type 0} (P : X → Type 0) (xs ys : List X) → AllByRecursion P xs → AllByRecursion P ys → AllByRecursion P (xs ++ ys)
  all_beside P [] ys p q = q
  all_beside P (x ∷ xs) ys p q = (p.0, all_beside P xs ys p.1 q)

  pub sent-append : (xs ys : List Entry) → sent left_out own other (xs ++ ys) ≡ sent left_out own other xs ++ sent left_out own other ys
  sent-append xs ys = ap (filter (is_in_scope left_out own)) (filter-append (lacks other) xs ys) ∙ filter-append (is_in_scope left_out own) (after_vector other xs) (after_vector other ys)

  pub framed_more : (xs : List Entry) (i : ℕ) (d : Entry) → i < length xs → AllByRecursion (HasFrame Second) (sent left_out own other (take i xs)) → AllByRecursion (HasFrame Second) (sent left_out own other (get_or xs i d ∷ []))
      → AllByRecursion (HasFrame Second) (sent left_out own other (take (i + 1) xs))
  framed_more xs i d lt so_far one =
      subst (AllByRecursion (HasFrame Second)) (sym (ap (sent left_out own other) (take_more xs i d lt) ∙ sent-append (take i xs) (get_or xs i d ∷ []))) (all_beside (HasFrame Second) _ _ so_far one)

-- the site's greeting
pub own_written : (s : Seen) (c : MeetingScope) (old new : Option (List ℕ)) (site : ℕ) (script : List ℕ) (ps : List (ℕ × ℕ)) → site ≡ s.site → script ≡ s.script → ps ≡ by_site.entries c.vector → Appends old new (greeting_frame site script ps) → Appends old new (greets s c)
own_written s c old new site script ps number text places written =
    subst (Appends old new) (ap (λ (n : ℕ). greeting_frame n script ps) number ∙ ap (λ (t : List ℕ). greeting_frame s.site t ps) text ∙ ap (greeting_frame s.site s.script) places) written

-- a vector has fewer than 65,536 sites
pub few_sites : (v : VersionVector) (ps : List (ℕ × ℕ)) → ps ≡ by_site.entries v → from_one ps ≡ true → sites_fit ps ≡ true → length ps < 65536
few_sites v ps is from fit =
    let few = few_places (by_site.entries v) (entries_rise v (subst (λ (l : List (ℕ × ℕ)). from_one l ≡ true) is from)) (subst (λ (l : List (ℕ × ℕ)). sites_fit l ≡ true) is fit) in
    omega (arith, few, ap length is)
