-- What an entry changed, from what is kept of its run.
use Rattle.std.proofs.Common.{◌≡◌, ◌<◌, ◌+◌, ℕ, List, [], ◌∷◌, ◌++◌, drop, take, get_or, length, sym, ap, ◌∙◌, subst, arith}
use Rattle.std.proofs.lemmas.List.{append_assoc, take-append-drop, take_more}
use Rattle.std.proofs.lemmas.Option.{get_or_from_slice_get, slice_get_within}
use Rattle.td_assign.specs.declared.ran.Ran.{Ran}
use Rattle.td_changes.specs.Changes.{IsChangedBy}
use Rattle.td_rollback.proofs.Ends.{Ended, last_off}
use Rattle.td_stamps.specs.declared.entry.Entry.{Entry}
use Rattle.td_stamps.specs.declared.entry.Stamp.{Stamp}
use Rattle.td_stamps.specs.History.{History}
use Rattle.td_stamps.proofs.Histories as histories
use Rattle.td_semantics.specs.Databases.{DatabaseData}
use Rattle.td_replica.specs.Seen.{Leaves, Seen, with_entries}
use Rattle.td_replay.specs.Noted.{Notes, opened_by}
use Rattle.td_replay.specs.ForProofs.Past.{EndsWith}
use Rattle.td_replay.specs.ForProofs.Told.{IsLogged, Log, outcomes_of}
use Rattle.td_replay.proofs.Copies.{as_many}
use Rattle.td_replay.proofs.Telling.{outcomes_alone}

module _ (s : Seen) (log : Log) (d : DatabaseData) (l : IsLogged s.script s.entries log d) (at : Stamp) (n : ℕ) (p : EndsWith at s.entries n) where
  abbrev es : List Entry
  es = s.entries

  abbrev i : ℕ
  i = p.place

  abbrev origin : DatabaseData
  origin = opened_by d.catalogue

  in_entries : i < length es
  in_entries = slice_get_within es i p.entry p.there

  pub in_log : i < length log
  in_log = let each = as_many s.script es log d l in let within = in_entries in omega (arith, each, within)

  -- a front of the history, as the outcomes alone tell it
  leaves : (fs : List Entry) (ps : Log) (u : DatabaseData) → History Notes origin fs ps u → Leaves (with_entries s fs) u
  leaves fs ps u st = (outcomes_of ps, record { opening = origin; opens = l.opens; runs = outcomes_alone origin u fs ps st })

  module _ (q : Stamp × Ran) (is : q ≡ get_or log i q) where
    after : (u : DatabaseData) × History Notes origin (take (i + 1) es) (take (i + 1) log) u
    after = histories.front Notes origin d es log l.runs (i + 1)

    entries_end : take (i + 1) es ≡ take i es ++ p.entry ∷ []
    entries_end = take_more es i p.entry in_entries ∙ ap (λ (e : Entry). take i es ++ e ∷ []) (get_or_from_slice_get es i p.entry p.entry p.there)

    log_end : take (i + 1) log ≡ take i log ++ q ∷ []
    log_end = take_more log i q in_log ∙ ap (λ (r : Stamp × Ran). take i log ++ r ∷ []) (sym is)

    to_here : History Notes origin (take i es ++ p.entry ∷ []) (take i log ++ q ∷ []) after.0
    to_here =
        subst (λ (fs : List Entry). History Notes origin fs (take i log ++ q ∷ []) after.0) entries_end
        (subst (λ (ps : Log). History Notes origin (take (i + 1) es) ps after.0) log_end after.1)

    off : Ended Notes origin (take i es) (take i log) p.entry q after.0
    off = last_off Notes origin after.0 (take i es) (take i log) p.entry q to_here

    pub changed_here : IsChangedBy s at q.1.delta.items
    changed_here = record {
      before = take i es;
      entry = p.entry;
      behind = drop (i + 1) es;
      all = sym (take-append-drop (i + 1) es) ∙ ap (λ (fs : List Entry). fs ++ drop (i + 1) es) entries_end ∙ append_assoc (take i es) (p.entry ∷ []) (drop (i + 1) es);
      stamp = p.stamp;
      was = off.state;
      became = after.0;
      left_before = leaves (take i es) (take i log) off.state off.history;
      left_after = leaves (take i es ++ p.entry ∷ []) (take i log ++ q ∷ []) after.0 to_here;
      differ = off.step.delta;
    }
