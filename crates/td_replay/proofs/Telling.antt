-- Histories, entry by entry.
use Rattle.std.proofs.Common.{◌≡◌, ℕ, ◌+◌, ◌<◌, List, [], ◌∷◌, ◌++◌, length, get_or, take, Option, None, Some, refl, sym, ap, subst, ◌∙◌}
use Rattle.std.proofs.lemmas.List.{map-append, take_more}
use Rattle.td_algebra.specs.declared.errors.Stop.{Stop}
use Rattle.td_assign.specs.declared.ran.Ran.{Ran}
use Rattle.td_headings.specs.Catalogues.{CatalogueData}
use Rattle.td_headings.specs.declared.defined.Test.{Test}
use Rattle.td_headings.specs.declared.statement.TypedStatement.{TypedStatement}
use Rattle.td_stamps.specs.declared.entry.Entry.{Entry}
use Rattle.td_stamps.specs.declared.entry.Stamp.{Stamp}
use Rattle.td_stamps.specs.Entries.{stamp_of}
use Rattle.td_stamps.specs.History.{History, nothing_ran, next_ran}
use Rattle.td_stamps.proofs.Histories as histories
use Rattle.td_semantics.specs.Databases.{DatabaseData}
use Rattle.td_semantics.specs.Scripts.{IsScriptOf, OpensOn}
use Rattle.td_semantics.specs.Steps.{IsRead, IsUnreadText, Steps, TellsTest, unread, raised, refused, done}
use Rattle.td_semantics.specs.declared.outcome.Outcome.{Outcome}
use Rattle.td_semantics.specs.declared.outcome.Outcome.TheVariants as outcome
use Rattle.td_replica.specs.Histories.{IsHistory, StepsEntry}
use Rattle.td_replay.specs.Noted.{IsLegalDatabase, Notes, opened_by, or_none}
use Rattle.td_replay.specs.ForProofs.Going.{stays_sound}
use Rattle.td_replay.specs.ForProofs.Told.{IsLogged, Log, Outcomes, RunsNext, RunsSome, outcomes_of}

-- ---- a step
pub same_catalogue : (d e : DatabaseData) (dialect : ℕ) (text : List ℕ) (o : Outcome) → Steps d dialect text o e → e.catalogue ≡ d.catalogue
same_catalogue d e dialect text o (unread h) = refl
same_catalogue d e dialect text o (raised p h) = refl
same_catalogue d e dialect text o (refused p h i j) = refl
same_catalogue d e dialect text o (done p h i) = refl

pub undone_stays : (d e : DatabaseData) (dialect : ℕ) (text : List ℕ) (o : Outcome) → Steps d dialect text o e → (o ≡ outcome.Done → ⊥) → e ≡ d
undone_stays d e dialect text o (unread h) other = refl
undone_stays d e dialect text o (raised p h) other = refl
undone_stays d e dialect text o (refused p h i j) other = refl
undone_stays d e dialect text o (done p h i) other = absurd (other refl)

never_unread : (c : CatalogueData) (t : Test) (o : Option Stop) → TellsTest c t o outcome.Unread → ⊥
never_unread c t None h = h
never_unread c t (Some e) h = h

pub unread_is : (d e : DatabaseData) (dialect : ℕ) (text : List ℕ) (o : Outcome) → Steps d dialect text o e → o ≡ outcome.Unread → IsUnreadText d.catalogue dialect text
unread_is d e dialect text o (unread h) is = h
unread_is d e dialect text o (raised p h) is = cc
unread_is d e dialect text o (refused {t = t} {o = m} p h i j) is = absurd (never_unread d.catalogue t m (subst (TellsTest d.catalogue t m) is j))
unread_is d e dialect text o (done p h i) is = cc

pub unread_stays : (d e : DatabaseData) (dialect : ℕ) (text : List ℕ) (o : Outcome) → Steps d dialect text o e → o ≡ outcome.Unread → e ≡ d
unread_stays d e dialect text o step is = undone_stays d e dialect text o step (λ done. let never : outcome.Unread ≡ outcome.Done = sym is ∙ done in cc)

pub read_is : (d e : DatabaseData) (dialect : ℕ) (text : List ℕ) (o : Outcome) → Steps d dialect text o e → (o ≡ outcome.Unread → ⊥) → (x : TypedStatement) × IsRead d.catalogue dialect text x
read_is d e dialect text o (unread h) other = absurd (other refl)
read_is d e dialect text o (raised {x = x} p h) other = (x, p)
read_is d e dialect text o (refused {x = x} p h i j) other = (x, p)
read_is d e dialect text o (done {x = x} p h i) other = (x, p)

-- ---- a history
pub history_catalogue : (script : List ℕ) (es : List Entry) (os : Outcomes) (d : DatabaseData) → IsHistory script es os d → IsScriptOf script d.catalogue
history_catalogue script es os d st =
    let P : DatabaseData → Type 0 = λ e. IsScriptOf script e.catalogue in
    histories.kept StepsEntry P (λ s t e o step is. subst (IsScriptOf script) (sym (same_catalogue s t e.dialect e.text o step)) is) st.opening d es os st.runs st.opens.script

-- ---- with what is kept of each step
pub outcomes_alone : (s t : DatabaseData) (es : List Entry) (log : Log) → History Notes s es log t → History StepsEntry s es (outcomes_of log) t
outcomes_alone s t es log nothing_ran = nothing_ran
outcomes_alone s t es log (next_ran {t = v} {es = fs} {os = ps} notes rest) = next_ran notes.step (outcomes_alone v t fs ps rest)

pub one_opened : (script : List ℕ) (d : DatabaseData) → OpensOn script None d → opened_by d.catalogue ≡ d
one_opened script d h = let stored = ap or_none h.opens in λ i. record { catalogue = d.catalogue; stored = stored i }

module _ (script : List ℕ) (es : List Entry) (log : Log) (d : DatabaseData) (l : IsLogged script es log d) where
  pub logged_history : IsHistory script es (outcomes_of log) d
  logged_history = record { opening = opened_by d.catalogue; opens = l.opens; runs = outcomes_alone (opened_by d.catalogue) d es log l.runs }

  pub logged_sound : IsLegalDatabase d
  logged_sound = histories.kept Notes IsLegalDatabase (λ s t e r notes good. stays_sound s t e r good notes) (opened_by d.catalogue) d es log l.runs l.sound

  -- a history of the same script, with other entries
  pub told_on : (fs : List Entry) (all : Log) (u : DatabaseData) → opened_by u.catalogue ≡ opened_by d.catalogue → History Notes (opened_by d.catalogue) fs all u → IsLogged script fs all u
  told_on fs all u same runs = record {
    opens = subst (OpensOn script None) (sym same) l.opens;
    sound = subst IsLegalDatabase (sym same) l.sound;
    runs = subst (λ (o : DatabaseData). History Notes o fs all u) (sym same) runs;
  }

  -- one entry more
  pub logged_more : (longer : Log) (after : DatabaseData) (e : Entry) (r : Ran) → RunsNext d log e r after longer → IsLogged script (es ++ e ∷ []) longer after
  logged_more longer after e r next =
      told_on (es ++ e ∷ []) longer after (ap opened_by (same_catalogue d after e.dialect e.text r.outcome next.notes.step))
      (subst (λ (ps : Log). History Notes (opened_by d.catalogue) (es ++ e ∷ []) ps after) (sym next.log_is) (histories.one_more Notes (opened_by d.catalogue) d after es log e r l.runs next.notes))

pub begun : (script : List ℕ) (d : DatabaseData) → IsLegalDatabase d → OpensOn script None d → IsLogged script [] [] d
begun script d good h =
    let same = one_opened script d h in
    record {
      opens = subst (OpensOn script None) (sym same) h;
      sound = subst IsLegalDatabase (sym same) good;
      runs = subst (λ (o : DatabaseData). History Notes o [] [] d) (sym same) nothing_ran;
    }

-- the outcomes, with that of one entry more
pub outcomes_more : (log longer : Log) (e : Entry) (r : Ran) (o : Outcome) (m : Stamp) → longer ≡ log ++ (stamp_of e, r) ∷ [] → o ≡ r.outcome → m ≡ stamp_of e → outcomes_of longer ≡ outcomes_of log ++ (m, o) ∷ []
outcomes_more log longer e r o m is told stamp =
    ap outcomes_of is ∙ map-append _ log ((stamp_of e, r) ∷ [])
    ∙ ap (λ (p : Outcome). outcomes_of log ++ (stamp_of e, p) ∷ []) (sym told)
    ∙ ap (λ (k : Stamp). outcomes_of log ++ (k, o) ∷ []) (sym stamp)

-- the next of a walk over the entries
pub walked : (script : List ℕ) (es : List Entry) (i : ℕ) (e : Entry) (log longer : Log) (d after : DatabaseData) → i < length es → e ≡ get_or es i e → IsLogged script (take i es) log d → RunsSome d log e after longer → IsLogged script (take (i + 1) es) longer after
walked script es i e log longer d after within at l next =
    let more : take i es ++ e ∷ [] ≡ take (i + 1) es = ap (λ (x : Entry). take i es ++ x ∷ []) at ∙ sym (take_more es i e within) in
    subst (λ fs. IsLogged script fs longer after) more (logged_more script (take i es) log d l longer after e next.0 next.1)
