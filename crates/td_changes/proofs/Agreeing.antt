-- What a statement changed is one, but for the order in which it is told.
use Rattle.std.proofs.Common.{◌≡◌, ℕ, true, List, [], ◌∷◌, ◌++◌, Result, Ok, ◌⊎◌, inl, inr, ⊎_elim, sym, ap, ◌∙◌, subst}
use Rattle.std.specs.List.{Contains}
use Rattle.std.proofs.lemmas.Bool.{cases_eq}
use Rattle.td_values.specs.Rows.{RowsData}
use Rattle.td_relations.specs.Deltas.{DeltaData, IsDifference}
use Rattle.td_relations.proofs.Members.{relation_is}
use Rattle.td_algebra.specs.declared.errors.Stop.{Stop}
use Rattle.td_algebra.proofs.Lists.{In, contains_in, in_contains}
use Rattle.td_meaning.specs.Mean.{Relvars}
use Rattle.td_stamps.specs.Sets.{is_set}
use Rattle.td_stamps.specs.declared.entry.Entry.{Entry}
use Rattle.td_stamps.specs.declared.entry.Stamp.{Stamp}
use Rattle.td_stamps.proofs.Merges.{same_set}
use Rattle.td_semantics.specs.Databases.{DatabaseData, stored_relvars}
use Rattle.td_semantics.specs.Differences.{AreDifferences, Differs}
use Rattle.td_replica.specs.Histories.{IsHistory}
use Rattle.td_semantics.specs.declared.outcome.Outcome.{Outcome}
use Rattle.td_replica.proofs.Agreeing.{history_is_unique}
use Rattle.td_replica.proofs.Places.{one_place}
use Rattle.td_changes.specs.Laws.{ChangesAgree}

-- ---- the differences of two states are one, but for their order
ok_same : (a b : RowsData) → ◌≡◌ {A = Result RowsData Stop} (Ok a) (Ok b) → a ≡ b
ok_same a b h = cc

one_difference : (old new : RowsData) (x y : DeltaData) → IsDifference old new x → IsDifference old new y → x ≡ y
one_difference old new x y p q =
    let inserted : x.inserted ≡ y.inserted = relation_is _ _ x.inserted p.inserted ∙ sym (relation_is _ _ y.inserted q.inserted) in
    let deleted : x.deleted ≡ y.deleted = relation_is _ _ x.deleted p.deleted ∙ sym (relation_is _ _ y.deleted q.deleted) in
    λ i. record { inserted = inserted i; deleted = deleted i }

differs_once : (old new : Relvars) (n : ℕ) (x y : DeltaData) → Differs old new n x → Differs old new n y → x ≡ y
differs_once old new n x y one other =
    let p = one.change in
    let q = other.change in
    let before : p.before ≡ q.before = ok_same p.before q.before (sym p.was ∙ q.was) in
    let after : p.after ≡ q.after = ok_same p.after q.after (sym p.is ∙ q.is) in
    let here = subst (λ (r : RowsData). IsDifference r q.after x) before (subst (λ (r : RowsData). IsDifference p.before r x) after p.difference) in
    one_difference q.before q.after x y here q.difference

abbrev Listed : List (ℕ × DeltaData) → ℕ → Type 0
Listed xs n = (d : DeltaData) × In (n, d) xs

listed : (xs : List (ℕ × DeltaData)) (n : ℕ) → Listed xs n ⊎ (Listed xs n → ⊥)
listed [] n = inr (λ h. h.1)
listed (x ∷ xs) n = ⊎_elim
    (λ same. inl (x.1, inl (λ i. (sym same i, x.1))))
    (λ other. ⊎_elim
    (λ behind. inl (behind.0, inr behind.1))
    (λ none. inr (λ h. ⊎_elim (λ first. other (ap (λ (p : ℕ × DeltaData). p.0) (sym first))) (λ behind. none (h.0, behind)) h.1))
    (listed xs n))
    (cases_eq x.0 n)

agree : (old new : Relvars) (xs ys : List (ℕ × DeltaData)) → AreDifferences old new xs → AreDifferences old new ys → (x : ℕ × DeltaData) → Contains xs x → Contains ys x
agree old new xs ys a b x there =
    let differs = a.only x there in
    ⊎_elim
    (λ found.
    let other = in_contains ys (x.0, found.0) found.1 in
    let same = differs_once old new x.0 x.1 found.0 differs (b.only (x.0, found.0) other) in
    subst (λ (d : DeltaData). Contains ys (x.0, d)) (sym same) other)
    (λ none.
    let stays = b.all x.0 (λ d h. none (d, contains_in ys (x.0, d) h)) in
    let change = differs.change in
    absurd (differs.apart (ok_same change.before change.after (sym change.was ∙ sym stays ∙ change.is))))
    (listed ys x.0)

-- ---- of two sites
one_left :
    (script text : List ℕ) (es fs : List Entry) (os ps : List (Stamp × Outcome)) (d e : DatabaseData) → script ≡ text → es ≡ fs → IsHistory script es os d
    → IsHistory text fs ps e → d ≡ e
one_left script text es fs os ps d e scripts entries told asked =
    let here = subst (λ (gs : List Entry). IsHistory text gs os d) entries (subst (λ (t : List ℕ). IsHistory t es os d) scripts told) in
    (history_is_unique text fs os ps d e here asked).1

pub changes_agree : ChangesAgree
changes_agree s t same at xs ys p q x there =
    let entries = same_set s.entries t.entries same.one_set same.other_set same.members in
    let set = subst (λ (es : List Entry). is_set es ≡ true) p.all same.one_set in
    let place = one_place p.before q.before p.entry q.entry p.behind q.behind set (sym p.all ∙ entries ∙ q.all) (p.stamp ∙ sym q.stamp) in
    let was = one_left s.script t.script p.before q.before p.left_before.0 q.left_before.0 p.was q.was same.script place.0 p.left_before.1 q.left_before.1 in
    let to_here : p.before ++ p.entry ∷ [] ≡ q.before ++ q.entry ∷ [] = λ i. place.0 i ++ place.1 i ∷ [] in
    let became = one_left s.script t.script (p.before ++ p.entry ∷ []) (q.before ++ q.entry ∷ []) p.left_after.0 q.left_after.0 p.became q.became same.script to_here p.left_after.1 q.left_after.1 in
    let differ =
    subst (λ (d : DatabaseData). AreDifferences (stored_relvars d.stored) (stored_relvars q.became.stored) xs) was
    (subst (λ (d : DatabaseData). AreDifferences (stored_relvars p.was.stored) (stored_relvars d.stored) xs) became p.differ) in
    agree (stored_relvars q.was.stored) (stored_relvars q.became.stored) xs ys differ q.differ x there
