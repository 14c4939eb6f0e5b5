-- Histories in two parts. Some entries are marked, and each of these commutes with every unmarked one behind it.
use Rattle.std.specs.Prelude.{Bool, true, false, List, [], ◌∷◌}
use Rattle.std.specs.List.{Contains}
use Rattle.td_stamps.specs.declared.entry.Entry.{Entry}
use Rattle.td_stamps.specs.declared.entry.Stamp.{Stamp}
use Rattle.td_stamps.specs.History.{History}

-- what is marked, and what is not
abbrev pub marked : {X : Type 0} → List Bool → List X → List X
marked [] xs = []
marked (b ∷ bs) [] = []
marked (true ∷ bs) (x ∷ xs) = x ∷ marked bs xs
marked (false ∷ bs) (x ∷ xs) = marked bs xs

abbrev pub unmarked : {X : Type 0} → List Bool → List X → List X
unmarked [] xs = []
unmarked (b ∷ bs) [] = []
unmarked (true ∷ bs) (x ∷ xs) = unmarked bs xs
unmarked (false ∷ bs) (x ∷ xs) = x ∷ unmarked bs xs

-- both together again
abbrev pub interleaved : {X : Type 0} → List Bool → List X → List X → List X
interleaved [] xs ys = []
interleaved (true ∷ bs) [] ys = interleaved bs [] ys
interleaved (true ∷ bs) (x ∷ xs) ys = x ∷ interleaved bs xs ys
interleaved (false ∷ bs) xs [] = interleaved bs xs []
interleaved (false ∷ bs) xs (y ∷ ys) = y ∷ interleaved bs xs ys

-- the entry commutes with each of these
abbrev pub CommutesWith : (Entry → Entry → Type 0) → Entry → List Entry → Type 0
CommutesWith Commute e fs = (f : Entry) → Contains fs f → Commute e f

-- there is a mark for each entry, and each marked one commutes with the unmarked ones behind it
abbrev pub AreMarked : (Entry → Entry → Type 0) → List Bool → List Entry → Type 0
AreMarked Commute [] [] = Unit {0}
AreMarked Commute [] (e ∷ es) = ⊥
AreMarked Commute (b ∷ bs) [] = ⊥
AreMarked Commute (true ∷ bs) (e ∷ es) = CommutesWith Commute e (unmarked bs es) × AreMarked Commute bs es
AreMarked Commute (false ∷ bs) (e ∷ es) = AreMarked Commute bs es

-- A history is that of the unmarked entries, and behind it that of the marked ones; each has the record that it had.
abbrev pub MarkedComeLast : {S R : Type 0} → (S → Type 0) → (S → Entry → R → S → Type 0) → (Entry → Entry → Type 0) → Type 0
MarkedComeLast {S = S} {R = R} Sound Step Commute =
    (s u : S) (marks : List Bool) (es : List Entry) (log : List (Stamp × R)) → Sound s → AreMarked Commute marks es → History Step s es log u
    → (t : S) × History Step s (unmarked marks es) (unmarked marks log) t × History Step t (marked marks es) (marked marks log) u

-- The history of the unmarked entries, and behind it that of the marked ones, are the history of all.
abbrev pub InterleavedIsHistory : {S R : Type 0} → (S → Type 0) → (S → Entry → R → S → Type 0) → (Entry → Entry → Type 0) → Type 0
InterleavedIsHistory {S = S} {R = R} Sound Step Commute =
    (s t u : S) (marks : List Bool) (es : List Entry) (log others : List (Stamp × R)) → Sound s → AreMarked Commute marks es
    → History Step s (unmarked marks es) others t → History Step t (marked marks es) log u → History Step s es (interleaved marks log others) u
