-- What a value leads to along the pairs, by a step or more.
use Rattle.std.specs.Prelude.{ℕ, ◌<◌, List, [], ◌∷◌}
pub use Rattle.td_graph.specs.Links.{LeadsOn, with_link}

-- in the list v, zs, w each leads to the next
abbrev pub Leads : List (List ℕ) → ℕ → List ℕ → ℕ → Type 0
Leads links v [] w = LeadsOn links v w
Leads links v (z ∷ zs) w = LeadsOn links v z × Leads links z zs w

-- w is reached from v by a step or more
abbrev pub Reaches : List (List ℕ) → ℕ → ℕ → Type 0
Reaches links v w = (zs : List ℕ) × Leads links v zs w

-- all places that are led to are among so many
abbrev pub StayWithin : ℕ → List (List ℕ) → Type 0
StayWithin n links = (v w : ℕ) → LeadsOn links v w → w < n
