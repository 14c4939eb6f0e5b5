-- What a site may be asked, what it prints for that, and when two texts are alike.
use Rattle.std.specs.Prelude.{◌≡◌, ◌⊎◌, ℕ, List, codes}
use Rattle.td_headings.specs.Catalogues.{CatalogueData}
use Rattle.td_replica.specs.Seen.{Seen}
use Rattle.td_commands.specs.Lines.{Line, query, query_at, listing, log, vector, table}
use Rattle.td_answers.specs.Answers.{TellsAsked, TellsListing, TellsLog, TellsPast, TellsTable, TellsVector}

-- what one site is asked, whatever its number: a query, a query just after the entry of a stamp, its listing, its log,
-- its version vector, or the table of a relvar
pub data Question : Type 0 where
  of_query : List ℕ → Question
  of_past : List ℕ → ℕ × ℕ → Question
  of_listing : Question
  of_log : Question
  of_vector : Question
  of_table : List ℕ → Question

-- the text that a site may print for it, over the catalogue of its script
abbrev pub Prints : CatalogueData → Seen → Question → List ℕ → Type 0
Prints c s (of_query t) text = TellsAsked t s text
Prints c s (of_past t at) text = TellsPast t at s text
Prints c s of_listing text = TellsListing s text
Prints c s of_log text = TellsLog s text
Prints c s of_vector text = TellsVector s text
Prints c s (of_table x) text = TellsTable c x s text

-- the line that asks it of the site of a number
abbrev pub question_line : ℕ → Question → Line
question_line n (of_query t) = query n t
question_line n (of_past t at) = query_at n t at
question_line n of_listing = listing n
question_line n of_log = log n
question_line n of_vector = vector n
question_line n (of_table x) = table n x

-- what tells want of memory
abbrev pub memory_line : List ℕ
memory_line = codes "fault memory\n"

-- two texts are one, unless one of them tells want of memory
abbrev pub ArePrintedAlike : List ℕ → List ℕ → Type 0
ArePrintedAlike text other = (text ≡ memory_line) ⊎ ((other ≡ memory_line) ⊎ (text ≡ other))
