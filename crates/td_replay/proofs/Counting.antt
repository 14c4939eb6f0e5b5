-- How many entries a site runs where it takes a batch.
use Rattle.std.proofs.Common.{ℕ, List, [], None, subst}
use Rattle.td_rollback.proofs.Counting as counting
use Rattle.td_rollback.proofs.More.{union_is_more}
use Rattle.td_stamps.specs.declared.entry.Entry.{Entry}
use Rattle.td_stamps.specs.Sets.{union}
use Rattle.td_semantics.specs.Databases.{DatabaseData}
use Rattle.td_replica.specs.Seen.{Seen}
use Rattle.td_semantics.proofs.OneOpening.{one_opening}
use Rattle.td_replay.specs.Counted.{RunsIn, RunsInAreOne, RunsInAreThere, RunsOver}
use Rattle.td_replay.specs.Noted.{AreTargetsOf, IsFootprintOf, opened_by}
use Rattle.td_replay.specs.ForProofs.Told.{IsLogged, Log}

pub runs_are_one : RunsInAreOne
runs_are_one s batch m n first second =
    let all = union s.entries batch in
    let same = (one_opening s.script None None second.0 first.0 second.1 first.1).0 in
    counting.runs_are_one (IsFootprintOf first.0) (AreTargetsOf first.0) [] s.entries all m n first.2 (subst (λ (o : DatabaseData). RunsOver o s.entries all n) same second.2)

pub runs_are_there : RunsInAreThere
runs_are_there s batch fresh sound fits never =
    let st = sound.told.1 in
    counting.runs_are_there (IsFootprintOf st.opening) (AreTargetsOf st.opening) [] s.entries (union s.entries batch) (union_is_more s.entries batch s.limit fresh sound.set fits) (λ n runs. never n (st.opening, st.opens, runs))

-- over what the history began with
pub from_the_opening : (s : Seen) (batch : List Entry) (n : ℕ) (log : Log) (d : DatabaseData) → IsLogged s.script s.entries log d → RunsIn s batch n → RunsOver (opened_by d.catalogue) s.entries (union s.entries batch) n
from_the_opening s batch n log d l h =
    let same = (one_opening s.script None None h.0 (opened_by d.catalogue) h.1 l.opens).0 in
    subst (λ (o : DatabaseData). RunsOver o s.entries (union s.entries batch) n) same h.2
