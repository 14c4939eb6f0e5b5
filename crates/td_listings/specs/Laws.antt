-- Sites of one script that hold the same set of entries show the same texts.
use Rattle.std.specs.Prelude.{◌≡◌, ℕ, List}
use Rattle.td_replica.specs.Laws.{HoldTheSame}
use Rattle.td_replica.specs.Seen.{Seen}
use Rattle.td_listings.specs.Sites.{IsListing, IsLog, IsTable}

abbrev pub ListingsAgree : Type 0
ListingsAgree = (s t : Seen) → HoldTheSame s t → (text other : List ℕ) → IsListing s text → IsListing t other → text ≡ other

abbrev pub LogsAgree : Type 0
LogsAgree = (s t : Seen) → HoldTheSame s t → (text other : List ℕ) → IsLog s text → IsLog t other → text ≡ other

abbrev pub TablesAgree : Type 0
TablesAgree = (s t : Seen) → HoldTheSame s t → (n : ℕ) (text other : List ℕ) → IsTable s n text → IsTable t n other → text ≡ other
