-- Sites of one script that hold the same set of entries answer alike, whatever their numbers and limits; and an
-- exchange of what each lacks leaves one set with both.
use Rattle.std.specs.Prelude.{◌≡◌, ℕ, true, List, ◌++◌, Ok}
use Rattle.std.specs.List.{list_all}
use Rattle.td_stamps.specs.Entries.{in_range}
use Rattle.td_stamps.specs.Sets.{NoClash, is_set, union}
use Rattle.td_stamps.specs.Vectors.{IsVector, VersionVector, after_vector}
use Rattle.td_stamps.specs.declared.entry.Entry.{Entry}
use Rattle.td_stamps.specs.declared.entry.Stamp.{Stamp}
use Rattle.td_replica.specs.Calls.{Asks, TellsValue}
use Rattle.td_replica.specs.Laws.{HoldTheSame}
use Rattle.td_replica.specs.Past.{AsksAt}
use Rattle.td_replica.specs.Seen.{Seen}
use Rattle.td_semantics.specs.declared.answer.Answer.{Answer}
use Rattle.td_values.specs.Data.{Datum}
use Rattle.td_values.specs.Rows.{RowsData}

-- sites that hold the same give one answer to a query
abbrev pub AnswersAgree : Type 0
AnswersAgree = (s t : Seen) → HoldTheSame s t → (text : List ℕ) (r q : Answer Datum) → Asks s text (Ok r) → Asks t text (Ok q) → r ≡ q

-- and one answer to a query just after the entry of a stamp
abbrev pub PastAnswersAgree : Type 0
PastAnswersAgree =
    (s t : Seen) → HoldTheSame s t → (text : List ℕ) (at : Stamp) (r q : Answer Datum) → AsksAt s text at (Ok r) → AsksAt t text at (Ok q) → r ≡ q

-- what a relvar has
abbrev pub ValuesAgree : Type 0
ValuesAgree = (s t : Seen) → HoldTheSame s t → (name : List ℕ) (a b : Answer RowsData) → TellsValue s name (Ok a) → TellsValue t name (Ok b) → a ≡ b

-- up to which number each site's entries are held
abbrev pub VectorsAgree : Type 0
VectorsAgree = (s t : Seen) → HoldTheSame s t → (v w : VersionVector) → IsVector s.entries v → IsVector t.entries w → v ≡ w

-- Each has a version vector: where the first takes what the second has after the first's, and then the second what the
-- first has after the second's, both have the merge of the two sets, where nothing in them clashes.
abbrev pub ExchangeIsMerge : Type 0
ExchangeIsMerge =
    (a b : List Entry) (v w : VersionVector) → is_set a ≡ true → is_set b ≡ true → list_all in_range a ≡ true → list_all in_range b ≡ true → NoClash (a ++ b)
    → IsVector a v → IsVector b w → (union a (after_vector v b) ≡ union a b) × (union b (after_vector w (union a b)) ≡ union a b)
