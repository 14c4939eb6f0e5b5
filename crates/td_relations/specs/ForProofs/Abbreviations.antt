-- What values begin with, in few words, and tuples that are compared by these first. On tuples of one heading that is
-- their order (`proofs/Abbreviated`).
use Rattle.std.specs.Prelude.{◌≡◌, ℕ, zero, suc, ◌+◌, ◌*◌, ◌<◌, ◌==◌, Bool, true, false, if◌then◌else◌, List, [], ◌∷◌, drop, get_or}
use Rattle.std.specs.declared.cmp.Ordering.{Ordering}
use Rattle.td_values.specs.Alike.{bare_tuple}
use Rattle.td_values.specs.Data.{Datum, boolean, integer, char, Attrs, no_attrs, attr}
use Rattle.td_values.specs.Order.{attrs_order}
use Rattle.td_relations.specs.declared.abbreviations.Abbreviation.{Abbreviation}
use Rattle.td_relations.specs.declared.abbreviations.Abbreviation.TheVariants.{Nothing, Number, Text}

-- a text's first byte as a digit: one more than it is, and 0 where there is none
abbrev pub digit : List ℕ → ℕ
digit [] = 0
digit (b ∷ s) = b + 1

-- whether there is a first byte
abbrev pub more : List ℕ → ℕ
more [] = 0
more (b ∷ s) = 1

-- the number that the first digits of a text spell behind a, so many, and whether the text goes on
abbrev pub number_of : ℕ → ℕ → List ℕ → ℕ
number_of a zero s = a * 2 + more s
number_of a (suc n) s = number_of (a * 257 + digit s) n (drop 1 s)

-- an abbreviation as a value
abbrev pub value_of : Abbreviation → Datum
value_of Nothing = boolean false
value_of (Number n) = integer n
value_of (Text first second) = char (first ∷ second ∷ [])

-- what a value begins with
abbrev pub beginning : Datum → Datum
beginning (integer n) = integer n
beginning (char s) = char (number_of 0 7 s ∷ number_of 0 7 (drop 7 s) ∷ [])
beginning d = boolean false

-- whether that is all of it
abbrev pub is_whole : Datum → Bool
is_whole (integer n) = true
is_whole (char s) = more (drop 14 s) == 0
is_whole d = false

-- what the first value of a tuple begins with, and the second one where that is all of the first
abbrev pub first : Attrs → Datum
first no_attrs = boolean false
first (attr n d t) = beginning d

abbrev pub second : Attrs → Datum
second no_attrs = boolean false
second (attr n d t) = if is_whole d then first t else boolean false

-- each of the bytes is one
abbrev pub AreBytes : List ℕ → Type 0
AreBytes s = (k : ℕ) → get_or s k 0 < 256

abbrev pub IsOfBytes : Datum → Type 0
IsOfBytes (char s) = AreBytes s
IsOfBytes d = Unit {0}

abbrev pub FirstIsOfBytes : Attrs → Type 0
FirstIsOfBytes no_attrs = Unit {0}
FirstIsOfBytes (attr n d t) = IsOfBytes d

abbrev pub SecondIsOfBytes : Attrs → Type 0
SecondIsOfBytes no_attrs = Unit {0}
SecondIsOfBytes (attr n d t) = is_whole d ≡ true → FirstIsOfBytes t

-- so far as its abbreviations say them, the tuple's texts are of bytes
abbrev pub BeginsInBytes : Attrs → Type 0
BeginsInBytes t = FirstIsOfBytes t × SecondIsOfBytes t

-- the abbreviations are those of the tuple
pub record AreOf (one two : Abbreviation) (t : Attrs) : Type 0 where
  pub first : value_of one ≡ first t
  pub second : value_of two ≡ second t

-- the tuple, with what its first values begin with before its values
abbrev pub abbreviated : Attrs → Attrs
abbreviated t = attr [] (first t) (attr [] (second t) (bare_tuple t))

-- tuples by what they begin with, and then by their values
abbrev pub by_beginnings : Attrs → Attrs → Ordering
by_beginnings s t = attrs_order (abbreviated s) (abbreviated t)
