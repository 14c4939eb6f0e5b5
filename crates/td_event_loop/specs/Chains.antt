-- Steps, one after another.

-- steps, one after another, lead from the first state to the second one
pub data Chain {S : Type 0} (Step : S → S → Type 0) : S → S → Type 0 where
  nothing : {s : S} → Chain Step s s
  onward : {s t u : S} → Step s t → Chain Step t u → Chain Step s u
