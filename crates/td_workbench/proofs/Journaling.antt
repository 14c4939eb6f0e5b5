-- Sites that come back from their journals, and the program behind them.
use Rattle.std.proofs.Common.{◌≡◌, inl, inr, ℕ, Bool, true, List, [], ◌∷◌, ◌++◌, map, Option, Result, Ok, Err, refl, sym, ap, subst}
use Rattle.std.specs.List.{AllByRecursion}
use Rattle.td_io.specs.Views.{Input, Output}
use Rattle.td_headings.specs.Catalogues.{CatalogueData}
use Rattle.td_journal.specs.declared.stores.StoreError.{StoreError}
use Rattle.td_semantics.specs.Scripts.{IsScriptOf}
use Rattle.td_replica.specs.Seen.{Seen}
use Rattle.td_journal.specs.Stores.{GoesOn}
use Rattle.td_journal.specs.Views.{kept}
use Rattle.td_answers.specs.Asking.{LinkRequest}
use Rattle.td_answers.specs.Sites.{Sites, AreOfScript}
use Rattle.td_workbench.specs.Journals.{AnyWay, ComeBack, JournaledEnds, KeeperSites, KeepsOneNot, KeepsSomeNot, Kept, journal_name, with_links}
use Rattle.td_workbench.specs.Programs.{EndsBy}
use Rattle.td_workbench.specs.Scripts.{IsAccepted}
use Rattle.td_workbench.specs.Streams.{most_reads}
use Rattle.td_workbench.specs.ForProofs.Journaled.{run_of}
use Rattle.td_workbench.specs.ForProofs.Reading.{HasScript}
use Rattle.td_workbench.specs.declared.journaled.Stopped.{Stopped}
use Rattle.td_workbench.specs.declared.journaled.Stopped.TheVariants.{JournalFile, Run}
use Rattle.td_workbench.specs.declared.opening.Options.{Options}
use Rattle.td_workbench.specs.declared.run.Ended.{Ended}
use Rattle.td_workbench.proofs.Starting.{says_alone}

module _ {S : Type 0} (k : KeeperSites S) (journals : Kept) (prefix : List ℕ) where
  pub come_back_more :
      (ss : Sites) (ts : List S) (s : Seen) (t : S) → ComeBack k journals prefix ss ts → GoesOn (journals (journal_name prefix s.site)) s (k.seen t) (k.written t)
      → ComeBack k journals prefix (ss ++ s ∷ []) (ts ++ t ∷ [])
  come_back_more [] [] s t all one = (one, tt)
  come_back_more [] (y ∷ ts) s t all one = absurd all
  come_back_more (x ∷ ss) [] s t all one = absurd all
  come_back_more (x ∷ ss) (y ∷ ts) s t all one = (all.0, come_back_more ss ts s t all.1 one)

  -- they are of the same script
  script_stays : (kept : Option (List ℕ)) (s after : Seen) (w : Output) → GoesOn kept s after w → after.script ≡ s.script
  script_stays kept s after w g = ap (λ (x : Seen). x.script) g.reopens.holds

  pub of_script_kept : (c : CatalogueData) (ss : Sites) (ts : List S) → ComeBack k journals prefix ss ts → AreOfScript c ss → AreOfScript c (map k.seen ts)
  of_script_kept c [] [] all are = tt
  of_script_kept c [] (t ∷ ts) all are = absurd all
  of_script_kept c (s ∷ ss) [] all are = absurd all
  of_script_kept c (s ∷ ss) (t ∷ ts) all are =
      (subst (λ (x : List ℕ). IsScriptOf x c) (sym (script_stays _ s (k.seen t) (k.written t) all.0)) are.0, of_script_kept c ss ts all.1 are.1)

  pub some_not :
      (Fails : StoreError → Type 0) (sites before : Sites) (back : List S) (s : Seen) (rest : Sites) (e : Stopped)
      → sites ≡ before ++ s ∷ rest → ComeBack k journals prefix before back → KeepsOneNot journals Fails prefix s e → KeepsSomeNot k journals Fails prefix sites e
  some_not Fails sites before back s rest (Run e) is came not = not
  some_not Fails sites before back s rest (JournalFile name) is came not = (before, back, s, rest, is, came, not)

-- a keeper that is open is seen as its site
pub seen_within : (is_open : Bool) (s : Seen) → is_open ≡ true → s ≡ kept is_open s
seen_within is_open s is = subst (λ (b : Bool). s ≡ kept b s) (sym is) refl

-- one of the sites, in their middle
pub all_at : {R : Type 0} (P : Seen → Type 0) (seen : R → Seen) (ys : List R) (x : R) (rest : List R) → AllByRecursion P (map seen (ys ++ x ∷ rest)) → P (seen x)
all_at P seen [] x rest all = all.0
all_at P seen (y ∷ ys) x rest all = all_at P seen ys x rest all.1

-- ---- the program

module _ {S L : Type 0} (k : KeeperSites S) (serves calls : LinkRequest L) (journals : Kept) (Fails : StoreError → Type 0) (prefix : List ℕ) (options : Options) (old new : L) where
  run_ends : (from left : Input) (w after : Output) (r : Result Bool Ended)
      → EndsBy (with_links k serves calls) (ComeBack k journals prefix) AnyWay options old from w r new left after → JournaledEnds k serves calls journals Fails prefix options old from w (run_of r) new left after
  run_ends from left w after (Ok accepted) ends = ends
  run_ends from left w after (Err e) ends = inl ends

  pub as_run : (from left : Input) (w after : Output) (r : Result Bool Ended) (end : Result Bool Stopped)
      → end ≡ run_of r → EndsBy (with_links k serves calls) (ComeBack k journals prefix) AnyWay options old from w r new left after → JournaledEnds k serves calls journals Fails prefix options old from w end new left after
  as_run from left w after r end is ends =
      subst (λ (x : Result Bool Stopped). JournaledEnds k serves calls journals Fails prefix options old from w x new left after) (sym is) (run_ends from left w after r ends)

module _ (now : ℕ) (from mid : Input) (bytes : Option (List ℕ)) (is_last : Bool) (has : HasScript most_reads now from mid bytes is_last) where
  pub not_kept : {S L : Type 0} (k : KeeperSites S) (serves calls : LinkRequest L) (journals : Kept) (Fails : StoreError → Type 0) (prefix : List ℕ) (options : Options) (links : L) (opens : Sites) (w : Output) (e : Stopped)
      → IsAccepted options has.text opens → KeepsSomeNot k journals Fails prefix opens e → JournaledEnds k serves calls journals Fails prefix options links from w (Err e) links mid w
  not_kept k serves calls journals Fails prefix options links opens w (Run e) accepted cause =
      inr (record { bytes = has.bytes; script = has.text; read = has.read; says = says_alone now from mid bytes is_last has; opened = opens; accepted = accepted; cause = cause; unasked = refl; untold = refl })
  not_kept k serves calls journals Fails prefix options links opens w (JournalFile name) accepted cause =
      record { bytes = has.bytes; script = has.text; read = has.read; says = says_alone now from mid bytes is_last has; opened = opens; accepted = accepted; cause = cause; unasked = refl; untold = refl }
