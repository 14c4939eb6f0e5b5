-- What writing and reading whole pieces do to the bytes of a writer and of a reader, where those are known.
use Rattle.std.specs.Prelude.{◌≡◌, ℕ, List, [], ◌∷◌, ◌++◌, Option, Some, None, Result, Ok, Err, MatchResult}
use Rattle.std.specs.Io.KnownBytes.{Appends, Consumes, IsAtEnd}
use Rattle.td_io.specs.Counted.{counted}
use Rattle.td_io.specs.declared.pieces.Short.{Short}
use Rattle.td_io.specs.declared.pieces.Short.TheVariants.{End, Fault}

-- a front of the bytes was appended
abbrev pub AppendsFront : Option (List ℕ) → Option (List ℕ) → List ℕ → Type 0
AppendsFront old new bytes = (front : List ℕ) × (rest : List ℕ) × (bytes ≡ front ++ rest) × Appends old new front

-- all of the bytes were appended, or the writer failed and a front of them was
abbrev pub Writes : {E : Type 0} → Option (List ℕ) → Option (List ℕ) → Result (Unit {0}) E → List ℕ → Type 0
Writes old new r bytes = MatchResult r (λ _. Appends old new bytes) (λ _. AppendsFront old new bytes)

-- why a buffer wasn't filled: nothing is left, or a failure was counted
abbrev pub FellShort : Option (List ℕ) → ℕ → ℕ → Short → Type 0
FellShort left old new End = IsAtEnd left × (new ≡ old)
FellShort left old new Fault = new ≡ counted old

-- what a reader of a byte told: the byte, or that nothing is left; at a failure nothing was read
abbrev pub ByteRead : {E : Type 0} → Option (List ℕ) → Option (List ℕ) → Result (Option ℕ) E → Type 0
ByteRead old new (Ok (Some b)) = Consumes old new (b ∷ [])
ByteRead old new (Ok None) = Consumes old new [] × IsAtEnd new
ByteRead old new (Err e) = Consumes old new []
