-- The laws of sites.
use Rattle.std.proofs.Common.{ℕ, List, take, None, subst}
use Rattle.td_stamps.specs.declared.entry.Entry.{Entry}
use Rattle.td_stamps.specs.declared.entry.Stamp.{Stamp}
use Rattle.td_stamps.specs.History.{History}
use Rattle.td_stamps.proofs.Merges.{same_set}
use Rattle.td_stamps.proofs.Histories as histories
use Rattle.td_semantics.specs.Databases.{DatabaseData, IsLegal, stored_relvars}
use Rattle.td_semantics.proofs.OneOpening.{one_opening}
use Rattle.td_semantics.proofs.Legal.{all_pass, step_is_legal}
use Rattle.td_semantics.proofs.Unique.{one_step}
use Rattle.td_replica.specs.Laws.{SitesAgree, HistoryIsLegal, HistoryIsUnique}
use Rattle.td_semantics.specs.Scripts.{OpensOn}
use Rattle.td_replica.specs.Histories.{IsHistory, StepsEntry}
use Rattle.td_semantics.specs.declared.outcome.Outcome.{Outcome}

pub opens_legal : (script : List ℕ) (d : DatabaseData) → OpensOn script None d → IsLegal d
opens_legal script d opens = all_pass d.catalogue (stored_relvars d.stored) d.catalogue.tests opens.first

runs_legal : (d e : DatabaseData) (es : List Entry) (os : List (Stamp × Outcome)) → History StepsEntry d es os e → IsLegal d → IsLegal e
runs_legal d e es os runs legal = histories.kept StepsEntry IsLegal (λ s t x o step first. step_is_legal s t x.dialect x.text o step first) d e es os runs legal

pub ends_legal : (script : List ℕ) (es : List Entry) (os : List (Stamp × Outcome)) (d : DatabaseData) → IsHistory script es os d → IsLegal d
ends_legal script es os d st = runs_legal st.opening d es os st.runs (opens_legal script st.opening st.opens)

pub story_is_legal : HistoryIsLegal
story_is_legal script es os d st n =
    let part = histories.front StepsEntry st.opening d es os st.runs n in
    (part.0, record { opening = st.opening; opens = st.opens; runs = part.1 }, runs_legal st.opening part.0 (take n es) (take n os) part.1 (opens_legal script st.opening st.opens))

pub history_is_unique : HistoryIsUnique
history_is_unique script es os ps d e st tt' =
    let same = one_opening script None None tt'.opening st.opening tt'.opens st.opens in
    histories.one_history StepsEntry (λ s t u x o p first second. one_step s x.dialect x.text t u o p first second) st.opening d e es os ps st.runs (subst (λ z. History StepsEntry z es ps e) same.0 tt'.runs)

pub sites_agree : SitesAgree
sites_agree s t same os ps d e told asked =
    let entries = same_set s.entries t.entries same.one_set same.other_set same.members in
    history_is_unique t.script t.entries os ps d e (subst (λ es. IsHistory t.script es os d) entries (subst (λ x. IsHistory x s.entries os d) same.script told)) asked
