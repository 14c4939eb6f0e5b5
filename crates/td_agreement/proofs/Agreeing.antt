-- Sites that hold the same set answer alike, and an exchange leaves one set.
use Rattle.std.proofs.Common.{◌≡◌, ℕ, List, Ok, sym, subst, ◌∙◌}
use Rattle.td_meeting.proofs.Unions.{adds_nothing, free_then}
use Rattle.td_stamps.specs.Entries.{in_range}
use Rattle.td_stamps.specs.Sets.{union}
use Rattle.td_stamps.specs.Vectors.{IsVector}
use Rattle.td_stamps.specs.declared.entry.Entry.{Entry}
use Rattle.td_stamps.specs.declared.entry.Stamp.{Stamp}
use Rattle.td_stamps.proofs.Gaps.{after_completes, vector_is_one}
use Rattle.td_stamps.proofs.Merges.{merged, same_set}
use Rattle.td_semantics.specs.Answers.{TellsRelvar}
use Rattle.td_semantics.specs.Databases.{DatabaseData}
use Rattle.td_replica.specs.Laws.{HoldTheSame}
use Rattle.td_replica.specs.Seen.{Seen}
use Rattle.td_replica.specs.Histories.{IsHistory}
use Rattle.td_semantics.specs.declared.outcome.Outcome.{Outcome}
use Rattle.td_replica.proofs.Agreeing.{sites_agree, history_is_unique}
use Rattle.td_agreement.specs.Laws.{AnswersAgree, ExchangeIsMerge, PastAnswersAgree, ValuesAgree, VectorsAgree}
use Rattle.td_agreement.proofs.Fronts.{one_front}
use Rattle.td_agreement.proofs.Meanings.{asks_one, tells_one}

pub one_set : (s t : Seen) → HoldTheSame s t → s.entries ≡ t.entries
one_set s t same = same_set s.entries t.entries same.one_set same.other_set same.members

pub answers_agree : AnswersAgree
answers_agree s t same text r q p o =
    asks_one s t text r q p o (sites_agree s t same p.leaves.0 o.leaves.0 p.database o.database p.leaves.1 o.leaves.1).1

-- one script and one front leave one database
one_left :
    (script other : List ℕ) (es fs : List Entry) (os ps : List (Stamp × Outcome)) (d e : DatabaseData) → script ≡ other → es ≡ fs → IsHistory script es os d
    → IsHistory other fs ps e → d ≡ e
one_left script other es fs os ps d e scripts entries told asked =
    let here = subst (λ (gs : List Entry). IsHistory other gs os d) entries (subst (λ (t : List ℕ). IsHistory t es os d) scripts told) in
    (history_is_unique other fs os ps d e here asked).1

pub past_answers_agree : PastAnswersAgree
past_answers_agree s t same text at r q (front, ends, p) (other, stops, o) =
    let one = one_front at s.entries t.entries front other same.one_set (one_set s t same) ends stops in
    asks_one _ _ text r q p o (one_left s.script t.script front other p.leaves.0 o.leaves.0 p.database o.database same.script one p.leaves.1 o.leaves.1)

pub values_agree : ValuesAgree
values_agree s t same x a b p q =
    let one = (sites_agree s t same p.2.0 q.2.0 p.1 q.1 p.2.1 q.2.1).1 in
    tells_one p.1 x a b p.3 (subst (λ (d : DatabaseData). TellsRelvar d x (Ok b)) (sym one) q.3)

pub vectors_agree : VectorsAgree
vectors_agree s t same v w p q = vector_is_one t.entries v w (subst (λ (es : List Entry). IsVector es v) (one_set s t same) p) q

pub exchange_is_merge : ExchangeIsMerge
exchange_is_merge a b v w set_a set_b ranges_a ranges_b free is_v is_w =
    let ranges = (merged a b set_a free).all in_range ranges_a ranges_b in
    let second = after_completes b (union a b) w set_b ranges (free_then a b set_a set_b free) (λ site. (is_w.numbers site).all) in
    (after_completes a b v set_a ranges_b free (λ site. (is_v.numbers site).all), second ∙ adds_nothing a b set_a set_b free)
