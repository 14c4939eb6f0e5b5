-- What is kept of a statement tells what it accesses.
use Rattle.std.proofs.Common.{◌≡◌, ◌<◌, ◌≤◌, ℕ, List, [], ◌∷◌, get_or, length, Result, Ok, Err, ap, sym, subst, ◌∙◌, arith}
use Rattle.std.specs.Prelude.{OnOk}
use Rattle.td_values.specs.Rows.{RowsData}
use Rattle.td_relations.specs.Deltas.{DeltaData}
use Rattle.td_accesses.specs.Covering.{Covers, KeepsWithin}
use Rattle.td_accesses.specs.declared.accesses.Accesses.{Accesses}
use Rattle.td_assign.specs.Readings.{IsReadText}
use Rattle.td_assign.specs.declared.names.NamedRelvars.{NamedRelvars}
use Rattle.td_assign.specs.declared.ran.Ran.{Ran}
use Rattle.td_assign.specs.declared.reading.ReadText.{ReadText}
use Rattle.td_headings.specs.Catalogues.{CatalogueData}
use Rattle.td_insertions.specs.Insertions.{Inserts}
use Rattle.td_headings.specs.Reached.{AreThose}
use Rattle.td_semantics.specs.Databases.{DatabaseData}
use Rattle.td_semantics.specs.Footprints.{IsInFootprint, IsTargetOfText}
use Rattle.td_stamps.specs.declared.entry.Entry.{Entry}
use Rattle.td_replay.specs.Noted.{Notes}
use Rattle.td_replay.specs.ForProofs.Accessing.{IsInsertionIn, IsRecordOf}
use Rattle.td_replay.specs.ForProofs.Going.{origin_of}

head_same : (p q : ℕ × DeltaData) → ◌≡◌ {A = List (ℕ × DeltaData)} (p ∷ []) (q ∷ []) → p ≡ q
head_same p q e = cc

-- the insertion that is told by a record is that of its text
pub inserts_of : (c : CatalogueData) (k : ℕ) (a : List ℕ) (r : Ran) (n : ℕ) (s : RowsData) → IsRecordOf c k a r → IsInsertionIn r n s → Inserts c k a n s
inserts_of c k a r n s kept told =
    let puts = kept.puts told.puts in
    let same = head_same (puts.relvar, puts.delta) (n, told.delta) (sym puts.one ∙ told.one) in
    let here : Inserts c k a n told.delta.inserted = subst (λ (p : ℕ × DeltaData). Inserts c k a p.0 p.1.inserted) same puts.inserts in
    subst (Inserts c k a n) (sym told.same) here

pub kept_of : (d s t : DatabaseData) (e : Entry) (r : Ran) → origin_of s ≡ origin_of d → Notes s e r t → IsRecordOf d.catalogue e.dialect e.text r
kept_of d s t e r same step =
    subst (λ (c : CatalogueData). IsRecordOf c e.dialect e.text r) (ap (λ (z : DatabaseData). z.catalogue) same)
    (record {
      within = record { footprint = λ n h. (step.footprint.members n).1 h; targets = λ n h. (step.targets.members n).1 h };
      puts = step.puts;
    })

-- ---- lists that are lent
pub lent_footprint : (x y : NamedRelvars) → x ≡ y → x.footprint.items ≡ y.footprint.items
lent_footprint x y same = ap (λ (n : NamedRelvars). n.footprint.items) same

pub lent_targets : (x y : NamedRelvars) → x ≡ y → x.targets.items ≡ y.targets.items
lent_targets x y same = ap (λ (n : NamedRelvars). n.targets.items) same

pub within_slices : (c : CatalogueData) (k : ℕ) (a fs ts gs us : List ℕ) → fs ≡ gs → ts ≡ us → KeepsWithin c k a gs us → KeepsWithin c k a fs ts
within_slices c k a fs ts gs us f t h = subst (λ (xs : List ℕ). KeepsWithin c k a xs ts) (sym f) (subst (KeepsWithin c k a gs) (sym t) h)

pub record_over : (c d : CatalogueData) (k : ℕ) (a : List ℕ) (r : Ran) → c ≡ d → IsRecordOf d k a r → IsRecordOf c k a r
record_over c d k a r same h = subst (λ (z : CatalogueData). IsRecordOf z k a r) (sym same) h

-- ---- what is covered over one catalogue is covered over the same one
pub covered_over : {A E : Type 0} (c d : CatalogueData) (m : Result A E) (x : Accesses) (k : ℕ) (a : List ℕ) → c ≡ d → OnOk m (Covers c x k a) → OnOk m (Covers d x k a)
covered_over c d m x k a same h = subst (λ (z : CatalogueData). OnOk m (Covers z x k a)) same h

pub kept_over : {A E : Type 0} (c d : CatalogueData) (m : Result A E) (x y : Accesses) → c ≡ d → OnOk m ((k : ℕ) (a : List ℕ) → Covers c x k a → Covers c y k a) → OnOk m ((k : ℕ) (a : List ℕ) → Covers d x k a → Covers d y k a)
kept_over c d m x y same h = subst (λ (z : CatalogueData). OnOk m ((k : ℕ) (a : List ℕ) → Covers z x k a → Covers z y k a)) same h

pub within_lists : (c d : CatalogueData) (k : ℕ) (a fs gs ts : List ℕ) → c ≡ d → gs ≡ ts → AreThose (IsInFootprint d k a) fs → AreThose (IsTargetOfText d k a) ts → KeepsWithin c k a fs gs
within_lists c d k a fs gs ts same lent first second =
    subst (λ (z : CatalogueData). KeepsWithin z k a fs gs) (sym same)
    (subst (KeepsWithin d k a fs) (sym lent) (record { footprint = λ n h. (first.members n).1 h; targets = λ n h. (second.members n).1 h }))

pub sole : {A : Type 0} (xs ys : List A) (p : A) → ys ≡ xs → 1 ≤ length ys → length ys < 2 → p ≡ get_or ys 0 p → xs ≡ p ∷ []
sole xs [] p same some few is = absurd (omega (arith, some))
sole xs (y ∷ []) p same some few is = sym same ∙ ap (λ z. z ∷ []) (sym is)
sole xs (y ∷ z ∷ ys) p same some few is = absurd (omega (arith, few))

pub entries_kept : {A E : Type 0} (c : CatalogueData) (m : Result A E) (x y : Accesses) → OnOk m ((k : ℕ) (a : List ℕ) → Covers c x k a → Covers c y k a) → OnOk m ((e : Entry) → Covers c x e.dialect e.text → Covers c y e.dialect e.text)
entries_kept c (Ok u) x y h = λ e. h e.dialect e.text
entries_kept c (Err e) x y h = h

-- what was read of a text that is lent was read of the text
pub read_over : (c d : CatalogueData) (k : ℕ) (t s : List ℕ) (r : ReadText) → c ≡ d → t ≡ s → IsReadText c k t r → IsReadText d k s r
read_over c d k t s r same text h = subst (λ (z : CatalogueData). IsReadText z k s r) same (subst (λ (u : List ℕ). IsReadText c k u r) text h)
