-- What sites tell, over the one history that they have.
use Rattle.std.proofs.Common.{◌≡◌, ℕ, true, false, List, Option, None, Some, Result, Ok, Err, refl, sym, ap, subst, ◌∙◌, true≢false}
use Rattle.td_values.specs.Headings.{Header}
use Rattle.td_values.specs.Rows.{RowsData}
use Rattle.td_algebra.specs.declared.errors.Stop.{Stop}
use Rattle.td_syntax.specs.declared.tree.Named.{Named}
use Rattle.td_schema.specs.Schemas.{relvar_named}
use Rattle.td_headings.specs.Catalogues.{CatalogueData}
use Rattle.td_semantics.specs.Answers.{SaysRelation}
use Rattle.td_semantics.specs.Databases.{DatabaseData}
use Rattle.td_semantics.specs.Scripts.{IsScriptOf}
use Rattle.td_semantics.specs.Laws.{ScriptIsOne}
use Rattle.td_semantics.specs.declared.answer.Answer.{Answer}
use Rattle.td_semantics.specs.declared.answer.Answer.TheVariants.{Value, Raised}
use Rattle.td_semantics.specs.Steps.{Steps, unread, raised, refused, done}
use Rattle.td_semantics.specs.declared.outcome.Outcome.{Outcome}
use Rattle.td_stamps.specs.declared.entry.Entry.{Entry}
use Rattle.td_stamps.specs.declared.entry.Stamp.{Stamp}
use Rattle.td_stamps.specs.History.{History, nothing_ran, next_ran}
use Rattle.td_replica.specs.Calls.{TellsValue}
use Rattle.td_replica.specs.Laws.{HistoryIsUnique}
use Rattle.td_replica.specs.Seen.{Seen, IsTold, Leaves}
use Rattle.td_replica.specs.Histories.{IsHistory, StepsEntry}
use Rattle.td_replica.specs.declared.refusal.ValueError.TheVariants.{Broken, Unknown}
use Rattle.td_listings.specs.ForProofs.Asked.{IsOpenOn, IsValueAt, StandsAt, WasToldAt, meant}
use Rattle.td_listings.specs.Texts.{relvar_value}
use Rattle.td_listings.proofs.Relvars.{some_same}

-- ---- statements define nothing
step_keeps : (d e : DatabaseData) (dialect : ℕ) (text : List ℕ) (o : Outcome) → Steps d dialect text o e → e.catalogue ≡ d.catalogue
step_keeps d e dialect text o (unread a) = refl
step_keeps d e dialect text o (raised a b) = refl
step_keeps d e dialect text o (refused a b x y) = refl
step_keeps d e dialect text o (done a b x) = refl

history_keeps : (d e : DatabaseData) (es : List Entry) (os : List (Stamp × Outcome)) → History StepsEntry d es os e → e.catalogue ≡ d.catalogue
history_keeps d e es os nothing_ran = refl
history_keeps d e es os (next_ran {t = t} {e = x} {es = xs} {o = o} {os = ps} step rest) = history_keeps t e xs ps rest ∙ step_keeps d t x.dialect x.text o step

-- the database after the history is that of the script's catalogue
pub script_of : (s : Seen) (os : List (Stamp × Outcome)) (d : DatabaseData) → IsTold s os d → IsScriptOf s.script d.catalogue
script_of s os d t = subst (IsScriptOf s.script) (sym (history_keeps t.opening d s.entries os t.runs)) t.opens.script

module _ (one_history : HistoryIsUnique) (one_script : ScriptIsOne) (s : Seen) (c : CatalogueData) (open_on : IsOpenOn s c) where
  pub of_catalogue : (d : DatabaseData) → Leaves s d → c ≡ d.catalogue
  of_catalogue d l = one_script s.script c d.catalogue open_on.script (script_of s l.0 d l.1)

  one_database : (d e : DatabaseData) → Leaves s d → Leaves s e → d ≡ e
  one_database d e k l = (one_history s.script s.entries k.0 l.0 d e k.1 l.1).1

  said : (a : Answer RowsData) (m : Result RowsData Stop) → SaysRelation a m → m ≡ meant a
  said (Value r) m h = h
  said (Raised e) m h = h

  -- an answer is what the relvar at its place has
  pub told : (x : List ℕ) (n : ℕ) (a : Answer RowsData) → StandsAt c x n → TellsValue s x (Ok a) → IsValueAt s n a
  told x n a stands (live, d, leaves, (m, v, named, says)) e left =
      let at : relvar_named d.catalogue.schema x ≡ Some (n, stands.0) = subst (λ (k : CatalogueData). relvar_named k.schema x ≡ Some (n, stands.0)) (of_catalogue d leaves) stands.1 in
      let place : m ≡ n = ap (λ (p : ℕ × Named Header). p.0) (some_same (m, v) (n, stands.0) (sym named ∙ at)) in
      ap (λ (k : DatabaseData). relvar_value k n) (one_database e d left leaves) ∙ ap (relvar_value d) (sym place) ∙ said a (relvar_value d m) says

  pub was_told : (x : List ℕ) (n : ℕ) (a : Answer RowsData) → StandsAt c x n → TellsValue s x (Ok a) → WasToldAt s n a
  was_told x n a stands (live, d, leaves, h) = (d, leaves, told x n a stands (live, d, leaves, h) d leaves)

  -- no other error is told of a relvar that is there
  pub closed : {P : Type 0} (x : List ℕ) → TellsValue s x (Err Broken) → P
  closed x h = absurd (true≢false (sym open_on.live ∙ h))

  pub missing : {P : Type 0} (x : List ℕ) (n : ℕ) → StandsAt c x n → TellsValue s x (Err Unknown) → P
  missing x n stands (live, d, leaves, none) =
      let at : relvar_named d.catalogue.schema x ≡ Some (n, stands.0) = subst (λ (k : CatalogueData). relvar_named k.schema x ≡ Some (n, stands.0)) (of_catalogue d leaves) stands.1 in
      let never : ◌≡◌ {A = Option (ℕ × Named Header)} None (Some (n, stands.0)) = sym none ∙ at in
      cc
