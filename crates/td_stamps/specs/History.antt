-- The history of a list of entries: each runs once, in order, on the state that the one before it left. It is told for
-- any state and any step, which ties the state before an entry, the entry, its outcome and the state after it.
use Rattle.std.specs.Prelude.{List, [], ◌∷◌}
use Rattle.td_stamps.specs.declared.entry.Entry.{Entry}
use Rattle.td_stamps.specs.declared.entry.Stamp.{Stamp}
use Rattle.td_stamps.specs.Entries.{stamp_of}

pub data History {S O : Type 0} (Step : S → Entry → O → S → Type 0) : S → List Entry → List (Stamp × O) → S → Type 0 where
  nothing_ran : {s : S} → History Step s [] [] s
  next_ran : {s t u : S} {e : Entry} {es : List Entry} {o : O} {os : List (Stamp × O)} → Step s e o t → History Step t es os u → History Step s (e ∷ es) ((stamp_of e, o) ∷ os) u
