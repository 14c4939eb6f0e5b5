-- The frames of what a set has after a version vector, written one after the other.
use Rattle.std.proofs.Common.{◌≡◌, ◌<◌, ◌+◌, ℕ, Bool, true, false, cond, List, [], ◌∷◌, ◌++◌, length, get_or, take, refl, sym, ap, subst, ◌∙◌, append-nil}
use Rattle.std.specs.List.{AllByRecursion, flat_map}
use Rattle.std.proofs.lemmas.List.{take_more}
use Rattle.std.proofs.lemmas.List.Concat.{flat_map-cons}
use Rattle.td_stamps.specs.declared.entry.Entry.{Entry}
use Rattle.td_stamps.specs.Vectors.{VersionVector, after_vector, lacks}
use Rattle.td_frames.specs.Spelling.{HasFrame, entry_frame, entry_frames}
use Rattle.td_frames.specs.declared.version.Version.TheVariants.{Second}

-- those of one entry
abbrev pub frames_of : VersionVector → Entry → List ℕ
frames_of v e = entry_frames Second (after_vector v (e ∷ []))

frames_step : (b : Bool) (x : Entry) (es : List Entry) → flat_map (entry_frame Second) (cond b (x ∷ []) []) ++ flat_map (entry_frame Second) es ≡ flat_map (entry_frame Second) (cond b (x ∷ es) es)
frames_step true x es = ap (λ (l : List ℕ). l ++ flat_map (entry_frame Second) es) (flat_map-cons (entry_frame Second) x [] ∙ append-nil (entry_frame Second x)) ∙ sym (flat_map-cons (entry_frame Second) x es)
frames_step false x es = refl

pub frames_each : (v : VersionVector) (xs : List Entry) → flat_map (frames_of v) xs ≡ entry_frames Second (after_vector v xs)
frames_each v [] = refl
frames_each v (x ∷ xs) =
    flat_map-cons (frames_of v) x xs ∙ ap (λ (l : List ℕ). frames_of v x ++ l) (frames_each v xs) ∙ frames_step (lacks v x) x (after_vector v xs)

all_beside : {X : Type 0} (P : X → Type 0) (xs ys : List X) → AllByRecursion P xs → AllByRecursion P ys → AllByRecursion P (xs ++ ys)
all_beside P [] ys p q = q
all_beside P (x ∷ xs) ys p q = (p.0, all_beside P xs ys p.1 q)

after_step : (b : Bool) (x : Entry) (es fs : List Entry) → cond b (x ∷ (es ++ fs)) (es ++ fs) ≡ cond b (x ∷ es) es ++ fs
after_step true x es fs = refl
after_step false x es fs = refl

after_beside : (v : VersionVector) (xs ys : List Entry) → after_vector v (xs ++ ys) ≡ after_vector v xs ++ after_vector v ys
after_beside v [] ys = refl
after_beside v (x ∷ xs) ys = ap (λ (l : List Entry). cond (lacks v x) (x ∷ l) l) (after_beside v xs ys) ∙ after_step (lacks v x) x (after_vector v xs) (after_vector v ys)

pub framed_more : (v : VersionVector) (xs : List Entry) (i : ℕ) (d : Entry) → i < length xs → AllByRecursion (HasFrame Second) (after_vector v (take i xs)) → AllByRecursion (HasFrame Second) (after_vector v (get_or xs i d ∷ []))
    → AllByRecursion (HasFrame Second) (after_vector v (take (i + 1) xs))
framed_more v xs i d lt so_far one =
    subst (AllByRecursion (HasFrame Second)) (sym (ap (after_vector v) (take_more xs i d lt) ∙ after_beside v (take i xs) (get_or xs i d ∷ []))) (all_beside (HasFrame Second) _ _ so_far one)
