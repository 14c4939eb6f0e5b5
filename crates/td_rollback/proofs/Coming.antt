-- The entry that comes next in a replay, by its place.
use Rattle.std.proofs.Common.{◌≡◌, ◌↔◌, ◌≤◌, ◌<◌, ◌+◌, ◌⊎◌, ℕ, true, false, List, [], ◌∷◌, ◌++◌, drop, take, get_or, length, refl, ap, sym, subst, ◌∙◌, arith}
use Rattle.std.specs.List.{Contains}
use Rattle.std.proofs.lemmas.List.{drop_all, drop_more, take_more}
use Rattle.td_stamps.specs.declared.entry.Entry.{Entry}
use Rattle.td_stamps.specs.declared.entry.Stamp.{Stamp}
use Rattle.td_stamps.specs.Entries.{same, stamp_of}
use Rattle.td_stamps.specs.Sets.{has}
use Rattle.td_stamps.proofs.EntryLemmas.{same-is}
use Rattle.td_rollback.specs.Going.{AreAlikeBut}
use Rattle.td_rollback.specs.Touched.{Runs}
use Rattle.td_rollback.specs.ForProofs.Standing.{Begun, Left, Stands}
use Rattle.td_rollback.specs.ForProofs.Ways.{Way}
use Rattle.td_rollback.specs.declared.turns.ReplayedRecord.{ReplayedRecord}
use Rattle.td_rollback.specs.declared.turns.ReplayedRecord.TheVariants.{Kept, Again, Fresh}
use Rattle.td_rollback.proofs.Members.{has_at}
use Rattle.td_rollback.proofs.More as more
use Rattle.td_rollback.proofs.Selecting as selecting
use Rattle.td_rollback.proofs.Standing as standing

abbrev pub StandsIn : {S R : Type 0} (w : Way S R) (b : Begun S R) → ℕ → ℕ → List ℕ → List (ReplayedRecord R) → S → ℕ → Type 0
StandsIn w b at i names turns u count = Stands w b (record { old = drop at b.old; log = drop at b.log; before = take i b.new; new = drop i b.new }) names turns u count

-- the entry that comes next, where a replay stands
pub record Coming {S R : Type 0} (w : Way S R) (b : Begun S R) : Type 0 where
  pub i : ℕ
  pub entry : Entry
  pub within : i < length b.new
  pub is : entry ≡ get_or b.new i entry
  pub at : ℕ
  pub names : List ℕ
  pub turns : List (ReplayedRecord R)
  pub state : S
  pub count : ℕ
  pub stands : StandsIn w b at i names turns state count
  pub elsewhere : AreAlikeBut w.Alike w.Target b.new b.state state

-- the old one that stands next is the same
pub record Old {S R : Type 0} (w : Way S R) (b : Begun S R) (a : Coming w b) : Type 0 where
  pub old : Entry
  pub within : a.at < length b.old
  pub is : old ≡ get_or b.old a.at old
  pub one : same a.entry old ≡ true
  pub each : length b.log ≡ length b.old
  pub other : Stamp × R

module _ {S R : Type 0} (w : Way S R) (b : Begun S R) (a : Coming w b) where
  abbrev Standing : Left R → List ℕ → List (ReplayedRecord R) → S → ℕ → Type 0
  Standing l names turns u count = Stands w b l names turns u count

  left_is : (es fs ws xs : List Entry) (ps qs : List (Stamp × R)) (gs hs : List Entry) → es ≡ fs → ps ≡ qs → ws ≡ xs → gs ≡ hs → ◌≡◌ {A = Left R} (record { old = es; log = ps; before = ws; new = gs }) (record { old = fs; log = qs; before = xs; new = hs })
  left_is es fs ws xs ps qs gs hs p q r s = λ i. record { old = p i; log = q i; before = r i; new = s i }

  new_is : drop a.i b.new ≡ a.entry ∷ drop (a.i + 1) b.new
  new_is = drop_more b.new a.i a.entry a.within ∙ ap (λ (x : Entry). x ∷ drop (a.i + 1) b.new) (sym a.is)

  before_is : take (a.i + 1) b.new ≡ take a.i b.new ++ a.entry ∷ []
  before_is = take_more b.new a.i a.entry a.within ∙ ap (λ (x : Entry). take a.i b.new ++ x ∷ []) (sym a.is)

  -- where it changes its targets alone
  pub still_elsewhere : (v : S) → ((n : ℕ) → (w.Target a.entry n → ⊥) → w.Alike a.state v n) → AreAlikeBut w.Alike w.Target b.new b.state v
  still_elsewhere v change = selecting.one_changes w b.new a.entry b.state a.state v (has_at b.new a.i a.entry a.within a.is) a.elsewhere change

  -- ---- a fresh entry
  comes_fresh : Standing (record { old = drop a.at b.old; log = drop a.at b.log; before = take a.i b.new; new = a.entry ∷ drop (a.i + 1) b.new }) a.names a.turns a.state a.count
  comes_fresh = subst (λ (l : Left R). Standing l a.names a.turns a.state a.count) (left_is _ _ _ _ _ _ _ _ refl refl refl new_is) a.stands

  pub lacks_at_end : length b.old ≤ a.at → has (drop a.at b.old) a.entry ≡ false
  lacks_at_end all = subst (λ (es : List Entry). has es a.entry ≡ false) (sym (drop_all a.at b.old all)) refl

  pub lacks_before : (y : Entry) → a.at < length b.old → y ≡ get_or b.old a.at y → same a.entry y ≡ false → has (drop a.at b.old) a.entry ≡ false
  lacks_before y within is other =
      let old_is : drop a.at b.old ≡ y ∷ drop (a.at + 1) b.old = drop_more b.old a.at y within ∙ ap (λ (x : Entry). x ∷ drop (a.at + 1) b.old) (sym is) in
      let t = subst (λ (l : Left R). Standing l a.names a.turns a.state a.count) (left_is _ _ _ _ _ _ _ _ old_is refl refl refl) comes_fresh in
      subst (λ (es : List Entry). has es a.entry ≡ false) (sym old_is) (more.other_is_fresh a.entry y (drop (a.at + 1) b.old) (drop (a.i + 1) b.new) other t.more)

  module _ (lacks : has (drop a.at b.old) a.entry ≡ false) where
    pub fresh_counted : (n : ℕ) → Runs w.Footprint w.Target [] b.old b.new n → a.count + 1 ≤ b.count + n
    fresh_counted = standing.fresh_counted w b (drop a.at b.old) (drop (a.i + 1) b.new) (take a.i b.new) (drop a.at b.log) a.entry a.names a.turns a.state a.count comes_fresh lacks

    pub fresh_stands : (v : S) (p : Stamp × R) (now : List ℕ) (most : ℕ) → p.0 ≡ stamp_of a.entry → w.Step a.state a.entry p.1 v → ((n : ℕ) → Contains now n ↔ (w.Target a.entry n ⊎ Contains a.names n)) → most ≤ a.count + 1 → StandsIn w b a.at (a.i + 1) now (a.turns ++ Fresh p ∷ []) v most
    fresh_stands v p now most stamp step adds few =
        let t = standing.fresh_turn w b (drop a.at b.old) (drop (a.i + 1) b.new) (take a.i b.new) (drop a.at b.log) a.entry a.names a.turns a.state a.count comes_fresh lacks v p.1 now most step adds few in
        let turn : a.turns ++ Fresh (stamp_of a.entry, p.1) ∷ [] ≡ a.turns ++ Fresh p ∷ [] = ap (λ (k : Stamp). a.turns ++ Fresh (k, p.1) ∷ []) (sym stamp) in
        subst (λ (ts : List (ReplayedRecord R)). StandsIn w b a.at (a.i + 1) now ts v most) turn (subst (λ (l : Left R). Standing l now (a.turns ++ Fresh (stamp_of a.entry, p.1) ∷ []) v most) (left_is _ _ _ _ _ _ _ _ refl refl (sym before_is) refl) t)

  -- ---- an old one
  module _ (o : Old w b a) where
    -- its record
    abbrev pub q : Stamp × R
    q = get_or b.log a.at o.other

    old_is : drop a.at b.old ≡ a.entry ∷ drop (a.at + 1) b.old
    old_is = drop_more b.old a.at o.old o.within ∙ ap (λ (x : Entry). x ∷ drop (a.at + 1) b.old) (sym o.is ∙ sym (same-is a.entry o.old o.one))

    log_is : drop a.at b.log ≡ q ∷ drop (a.at + 1) b.log
    log_is = drop_more b.log a.at o.other (let within = o.within in let each = o.each in omega (arith, within, each))

    pub comes_old : Standing (record { old = a.entry ∷ drop (a.at + 1) b.old; log = q ∷ drop (a.at + 1) b.log; before = take a.i b.new; new = a.entry ∷ drop (a.i + 1) b.new }) a.names a.turns a.state a.count
    comes_old = subst (λ (l : Left R). Standing l a.names a.turns a.state a.count) (left_is _ _ _ _ _ _ _ _ old_is log_is refl new_is) a.stands

    pub old_elsewhere : (v : S) → ((n : ℕ) → (Contains (w.targets_in q.1) n → ⊥) → w.Alike a.state v n) → AreAlikeBut w.Alike w.Target b.new b.state v
    old_elsewhere v change = still_elsewhere v (λ n never. change n (λ h. never ((standing.targets_are w b (drop (a.at + 1) b.old) (drop (a.i + 1) b.new) (take a.i b.new) (drop (a.at + 1) b.log) a.entry a.names a.turns a.state a.count q.0 q.1 comes_old n).0 h)))

    module _ (met : (n : ℕ) × Contains (w.footprint_in q.1) n × Contains a.names n) where
      pub again_counted : (n : ℕ) → Runs w.Footprint w.Target [] b.old b.new n → a.count + 1 ≤ b.count + n
      again_counted = standing.again_counted w b (drop (a.at + 1) b.old) (drop (a.i + 1) b.new) (take a.i b.new) (drop (a.at + 1) b.log) a.entry a.names a.turns a.state a.count q.0 q.1 comes_old met

      pub again_stands : (v : S) (p : Stamp × R) (now : List ℕ) (most : ℕ) → p.0 ≡ stamp_of a.entry → w.Step a.state a.entry p.1 v → ((n : ℕ) → Contains now n ↔ (w.Target a.entry n ⊎ Contains a.names n)) → most ≤ a.count + 1 → StandsIn w b (a.at + 1) (a.i + 1) now (a.turns ++ Again p ∷ []) v most
      again_stands v p now most stamp step adds few =
          let t = standing.again_turn w b (drop (a.at + 1) b.old) (drop (a.i + 1) b.new) (take a.i b.new) (drop (a.at + 1) b.log) a.entry a.names a.turns a.state a.count q.0 q.1 comes_old met v p.1 now most step adds few in
          let turn : a.turns ++ Again (stamp_of a.entry, p.1) ∷ [] ≡ a.turns ++ Again p ∷ [] = ap (λ (k : Stamp). a.turns ++ Again (k, p.1) ∷ []) (sym stamp) in
          subst (λ (ts : List (ReplayedRecord R)). StandsIn w b (a.at + 1) (a.i + 1) now ts v most) turn (subst (λ (l : Left R). Standing l now (a.turns ++ Again (stamp_of a.entry, p.1) ∷ []) v most) (left_is _ _ _ _ _ _ _ _ refl refl (sym before_is) refl) t)

    module _ (unmet : ((n : ℕ) × Contains (w.footprint_in q.1) n × Contains a.names n) → ⊥) where
      pub may_redo : (t : S) × w.Step a.state a.entry q.1 t
      may_redo = standing.may_redo w b (drop (a.at + 1) b.old) (drop (a.i + 1) b.new) (take a.i b.new) (drop (a.at + 1) b.log) a.entry a.names a.turns a.state a.count q.0 q.1 comes_old unmet

      pub kept_stands : (v : S) → ((t : S) → w.Step a.state a.entry q.1 t → v ≡ t) → StandsIn w b (a.at + 1) (a.i + 1) a.names (a.turns ++ Kept ∷ []) v a.count
      kept_stands v again =
          subst (λ (l : Left R). Standing l a.names (a.turns ++ Kept ∷ []) v a.count) (left_is _ _ _ _ _ _ _ _ refl refl (sym before_is) refl)
          (standing.kept_turn w b (drop (a.at + 1) b.old) (drop (a.i + 1) b.new) (take a.i b.new) (drop (a.at + 1) b.log) a.entry a.names a.turns a.state a.count q.0 q.1 comes_old unmet v again)
