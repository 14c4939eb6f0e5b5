-- What only proofs cite.
use Rattle.std.specs.Prelude.{◌≡◌, ◌≤◌, ℕ, List, Option, None, Some}
use Rattle.td_stamps.specs.declared.entry.Entry.{Entry}
use Rattle.td_site_desk.specs.Sites.{IsStatusBy}

-- what is answered in place of an issue, by the entry that the key has; nothing is, only where there is none
abbrev pub IsToldBy : Option Entry → List ℕ → Option ℕ → Type 0
IsToldBy known text None = known ≡ None
IsToldBy None text (Some status) = 400 ≤ status
IsToldBy (Some entry) text (Some status) = IsStatusBy entry text status
