-- Steps that commute are exchanged: what is marked comes behind what is not, and goes back.
use Rattle.std.proofs.Common.{◌≡◌, Bool, true, false, List, [], ◌∷◌, ap, sym, subst, ◌∙◌}
use Rattle.td_stamps.specs.declared.entry.Entry.{Entry}
use Rattle.td_stamps.specs.declared.entry.Stamp.{Stamp}
use Rattle.td_stamps.specs.History.{History, nothing_ran, next_ran}
use Rattle.td_stamps.proofs.Histories as histories
use Rattle.td_rollback.specs.Commuting.{Commutes}
use Rattle.td_rollback.specs.Parts.{CommutesWith, InterleavedIsHistory, MarkedComeLast, marked, unmarked, interleaved}
use Rattle.td_rollback.specs.ForProofs.Marked.{AreParted}
use Rattle.td_rollback.proofs.Members.{item_first, item_later}
use Rattle.td_rollback.proofs.Parting.{as_many_marks, unmarked_same}

module _ {S R : Type 0} (Sound : S → Type 0) (Step : S → Entry → R → S → Type 0) (Commute : Entry → Entry → Type 0) (stay : (s t : S) (e : Entry) (r : R) → Sound s → Step s e r t → Sound t) (swaps : Commutes Sound Step Commute) where
  -- a step goes behind those of entries that its own commutes with, or before them
  behind_them : (s t u : S) (e : Entry) (q : R) (fs : List Entry) (ps : List (Stamp × R)) → Sound s → CommutesWith Commute e fs → Step s e q t → History Step t fs ps u → (v : S) × History Step s fs ps v × Step v e q u
  behind_them s t u e q fs ps good with_these step nothing_ran = (s, nothing_ran, step)
  behind_them s t u e q fs ps good with_these step (next_ran {t = z} {e = f} {es = gs} {o = r} {os = qs} here rest) =
      let one = swaps.exchange s t z e f q r (with_these f (item_first f gs)) good step here in
      let k = behind_them one.0 z u e q gs qs (stay s one.0 f r good one.1) (λ g h. with_these g (item_later f g gs h)) one.2 rest in
      (k.0, next_ran one.1 k.1, k.2)

  before_them : (s t u : S) (e : Entry) (q : R) (fs : List Entry) (ps : List (Stamp × R)) → Sound s → CommutesWith Commute e fs → History Step s fs ps t → Step t e q u → (v : S) × Step s e q v × History Step v fs ps u
  before_them s t u e q fs ps good with_these nothing_ran step = (u, step, nothing_ran)
  before_them s t u e q fs ps good with_these (next_ran {t = z} {e = f} {es = gs} {o = r} {os = qs} here rest) step =
      let k = before_them z t u e q gs qs (stay s z f r good here) (λ g h. with_these g (item_later f g gs h)) rest step in
      let one = swaps.exchange s z k.0 f e r q (swaps.back e f (with_these f (item_first f gs))) good here k.1 in
      (one.0, one.1, next_ran one.2 k.2)

  pub marked_come_last : MarkedComeLast Sound Step Commute
  marked_come_last s u [] es log good keep nothing_ran = (s, nothing_ran, nothing_ran)
  marked_come_last s u (b ∷ bs) es log good keep nothing_ran = absurd keep
  marked_come_last s u [] es log good keep (next_ran step rest) = absurd keep
  marked_come_last s u (false ∷ bs) es log good keep (next_ran {t = z} {e = e} {es = fs} {o = r} {os = ps} step rest) =
      let k = marked_come_last z u bs fs ps (stay s z e r good step) keep rest in
      (k.0, next_ran step k.1, k.2)
  marked_come_last s u (true ∷ bs) es log good keep (next_ran {t = z} {e = e} {es = fs} {o = r} {os = ps} step rest) =
      let k = marked_come_last z u bs fs ps (stay s z e r good step) keep.1 rest in
      let one = behind_them s z k.0 e r (unmarked bs fs) (unmarked bs ps) good keep.0 step k.1 in
      (one.0, one.1, next_ran one.2 k.2)

  pub interleaved_is_history : InterleavedIsHistory Sound Step Commute
  interleaved_is_history s t u [] [] log others good keep nothing_ran nothing_ran = nothing_ran
  interleaved_is_history s t u [] (e ∷ es) log others good keep one other = absurd keep
  interleaved_is_history s t u (b ∷ bs) [] log others good keep one other = absurd keep
  interleaved_is_history s t u (true ∷ bs) (e ∷ es) log others good keep one (next_ran {t = z} {o = r} {os = ps} step rest) =
      let k = before_them s t z e r (unmarked bs es) others good keep.0 one step in
      next_ran k.1 (interleaved_is_history k.0 z u bs es ps others (stay s k.0 e r good k.1) keep.1 k.2 rest)
  interleaved_is_history s t u (false ∷ bs) (e ∷ es) log others good keep (next_ran {t = z} {o = r} {os = ps} step rest) other =
      next_ran step (interleaved_is_history z t u bs es log ps (stay s z e r good step) keep rest other)

  -- ---- the history of what is marked, replayed, and the others as they were
  module _ (first last : S) (good : Sound first) (es fs : List Entry) (bs cs : List Bool) (log : List (Stamp × R)) (p : AreParted Commute es fs bs cs) (history : History Step first es log last) where
    -- the others lead to a state, and the marked ones from there
    pub parts : (t : S) × History Step first (unmarked bs es) (unmarked bs log) t × History Step t (marked bs es) (marked bs log) last
    parts = marked_come_last first last bs es log good p.old history

    pub begun_sound : Sound parts.0
    begun_sound = histories.kept Step Sound (λ s t e r step h. stay s t e r h step) first parts.0 (unmarked bs es) (unmarked bs log) parts.1 good

    pub replayed : (end : S) (all : List (Stamp × R)) → History Step parts.0 (marked cs fs) all end → History Step first fs (interleaved cs all (unmarked bs log)) end
    replayed end all told =
        let same : unmarked cs fs ≡ unmarked bs es = ap (λ (xs : List Bool). unmarked xs fs) p.marks_are ∙ unmarked_same es fs p.flags bs p.flagged (as_many_marks Commute bs es p.old) in
        interleaved_is_history first parts.0 end cs fs all (unmarked bs log) good p.new (subst (λ (ds : List Entry). History Step first ds (unmarked bs log) parts.0) (sym same) parts.1) told
