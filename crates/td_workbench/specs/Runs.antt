-- What is printed for lines, and how a run over them ends. Lines are functions of the bytes read, and stand here with
-- their line ends.
use Rattle.std.specs.Prelude.{◌≡◌, ◌⊎◌, ℕ, true, false, List, [], ◌∷◌, ◌++◌, codes, map, Option, Result, Ok, Err}
use Rattle.std.specs.List.{AllByRecursion}
use Rattle.std.specs.Io.KnownBytes.{IsAtEnd}
use Rattle.td_headings.specs.Catalogues.{CatalogueData}
use Rattle.td_io.specs.Lines.{raw_lines, content, is_one_line, IsWholeLine, IsOfOneLine}
use Rattle.td_commands.specs.Lines.{Line, quit, is_quit, line_of}
use Rattle.td_io.specs.Views.{Input, Output}
use Rattle.td_listings.specs.Writings.{WritesFront}
use Rattle.td_replica.specs.Seen.{Seen}
use Rattle.td_answers.specs.Asking.{AreAsked, LinkRequest}
use Rattle.td_answers.specs.Sites.{AreOfScript, EachStays, HappensToOne}
use Rattle.td_answers.specs.Answers.{LineAnswered, MayTakeEntries}
use Rattle.td_workbench.specs.Streams.{AppendsText, HandsOnNot, ReadsBytes, ReadsNoMore, reads_left, WritesText}
use Rattle.td_workbench.specs.declared.run.Ended.{Ended}
use Rattle.td_workbench.specs.declared.run.Ended.TheVariants.{OutOfMemory, ReadFault, WriteFault}

-- ---- a line

-- what the sites of a workbench are seen as, whether the journal of one has failed between two states, and whether what
-- it holds is known to stand there; and how links are asked for
pub record Workbench (S L : Type 0) : Type 1 where
  pub seen : S → Seen
  pub failed : S → S → Type 0
  pub journaled : S → Type 0
  pub serves : LinkRequest L
  pub calls : LinkRequest L

abbrev pub over : {S L : Type 0} → (S → Seen) → (S → S → Type 0) → (S → Type 0) → LinkRequest L → LinkRequest L → Workbench S L
over seen failed journaled serves calls = record { seen = seen; failed = failed; journaled = journaled; serves = serves; calls = calls }

-- the sites, in their order, and the links
abbrev pub State : Type 0 → Type 0 → Type 0
State S L = List S × L

-- The text is printed for a line: it answers it by what the sites are seen as. The links are asked for what the line
-- wants; that a journal failed is told only where one did; and what stood in one's journal stands there.
pub record AnswersLine {S L : Type 0} (b : Workbench S L) (c : CatalogueData) (old : State S L) (line : Line) (text : List ℕ) (new : State S L) : Type 0 where
  pub answered : LineAnswered c (map b.seen old.0) line text (map b.seen new.0)
  pub asked : AreAsked b.serves b.calls (map b.seen old.0) line text old.1 new.1
  pub journal : MayTakeEntries line → text ≡ codes "fault journal\n" → HappensToOne b.failed old.0 new.0
  pub journaled : EachStays b.journaled old.0 new.0

-- what a line makes of what was there, and the text that is printed for it
abbrev pub LineStep : Type 0 → Type 1
LineStep X = X → Line → List ℕ → X → Type 0

-- what a line says
abbrev pub said : List ℕ → Line
said raw = line_of (content raw)

-- the line is not `.quit`
abbrev pub DoesNotQuit : List ℕ → Type 0
DoesNotQuit raw = is_quit (said raw) ≡ false

-- ---- lines, each of which takes a step

-- what is printed for lines, one after the other, and what is there after it
abbrev pub Printed : {X : Type 0} → LineStep X → X → List (List ℕ) → List ℕ → X → Type 0
Printed step old [] text new = (text ≡ []) × (new ≡ old)
Printed {X} step old (raw ∷ raws) text new =
    (mid : X) × (first : List ℕ) × (rest : List ℕ) × step old (said raw) first mid × Printed step mid raws rest new × (text ≡ first ++ rest)

-- whole lines that were answered, none of which is `.quit`
pub record Served {X : Type 0} (step : LineStep X) (old : X) (raws : List (List ℕ)) (text : List ℕ) (new : X) : Type 0 where
  pub whole : AllByRecursion IsWholeLine raws
  pub go_on : AllByRecursion DoesNotQuit raws
  pub printed : Printed step old raws text new

-- a line that was read to its end: it has its LF, or the input ended behind it
abbrev pub IsReadOut : List ℕ → Option (List ℕ) → Type 0
IsReadOut raw left = IsWholeLine raw ⊎ ((is_one_line raw ≡ true) × IsAtEnd left)

-- ---- ways to end, of all lines read: what was printed, and what is there after it

-- the last line says `.quit`, and those before it were answered
pub record Quits {X : Type 0} (step : LineStep X) (old : X) (raws : List (List ℕ)) (left : Option (List ℕ)) (text : List ℕ) (new : X) : Type 0 where
  pub before : List (List ℕ)
  pub last : List ℕ
  pub mid : X
  pub lines : raws ≡ before ++ last ∷ []
  pub read_out : IsReadOut last left
  pub quits : said last ≡ quit
  pub served : Served step old before text mid
  pub answered : step mid quit [] new

-- the input ended, and all lines were answered
pub record RunsOut {X : Type 0} (step : LineStep X) (old : X) (raws : List (List ℕ)) (left : Option (List ℕ)) (text : List ℕ) (new : X) : Type 0 where
  pub at_end : IsAtEnd left
  pub go_on : AllByRecursion DoesNotQuit raws
  pub printed : Printed step old raws text new

-- the last line was not read, but a part of it; those before it were answered
pub record BreaksOff {X : Type 0} (step : LineStep X) (old : X) (raws : List (List ℕ)) (IsPart : List ℕ → Type 0) (text : List ℕ) (new : X) : Type 0 where
  pub before : List (List ℕ)
  pub part : List ℕ
  pub lines : raws ≡ before ++ raw_lines part
  pub is_part : IsPart part
  pub served : Served step old before text new

-- the last line has an answer, and those before it were answered
pub record Reaches {X : Type 0} (step : LineStep X) (old : X) (raws : List (List ℕ)) (left : Option (List ℕ)) (text answer : List ℕ) (new : X) : Type 0 where
  pub before : List (List ℕ)
  pub last : List ℕ
  pub mid : X
  pub lines : raws ≡ before ++ last ∷ []
  pub read_out : IsReadOut last left
  pub goes_on : DoesNotQuit last
  pub served : Served step old before text mid
  pub answered : step mid (said last) answer new

-- the line has no LF
abbrev pub IsCut : List ℕ → Type 0
IsCut part = is_one_line part ≡ true

-- Why no more of these bytes was read, which say these lines and leave so many reads, and what is printed for the
-- lines. Ok comes at `.quit`, behind which nothing was read, or at the end of the input. A read fault comes after the
-- answers of all whole lines, want of memory after those of all lines but the last, which was not kept, and a write
-- fault before anything of the next line.
abbrev pub StopsReading : {X : Type 0} → LineStep X → X → List (List ℕ) → ℕ → List ℕ → Input → Result (Unit {0}) Ended → X → Input → List ℕ → Type 0
StopsReading step old raws spare bytes from (Ok u) new left text = ReadsBytes bytes from left × (Quits step old raws left.left text new ⊎ RunsOut step old raws left.left text new)
StopsReading step old raws spare bytes from (Err ReadFault) new left text = ReadsNoMore spare bytes from left × BreaksOff step old raws IsCut text new
StopsReading step old raws spare bytes from (Err OutOfMemory) new left text = ReadsBytes bytes from left × BreaksOff step old raws IsOfOneLine text new
StopsReading step old raws spare bytes from (Err WriteFault) new left text = ReadsBytes bytes from left × BreaksOff step old raws (λ part. part ≡ []) text new

-- the writer failed at the answer of the last line, of which a front was written
abbrev pub StopsWriting : {X : Type 0} → LineStep X → X → List (List ℕ) → List ℕ → Input → Output → X → Input → Output → Type 0
StopsWriting step old raws bytes from w new left after =
    ReadsBytes bytes from left × (text : List ℕ) × (answer : List ℕ) × (half : Output) × Reaches step old raws left.left text answer new × AppendsText text w half × WritesFront answer half after

-- How a run ended over these bytes: nothing more was read, and what is printed was written and handed on. At a write
-- fault the writer failed at the last answer, or all was written and could not be handed on.
abbrev pub Ends : {X : Type 0} → LineStep X → X → List (List ℕ) → ℕ → List ℕ → Input → Output → Result (Unit {0}) Ended → X → Input → Output → Type 0
Ends step old raws spare bytes from w (Err WriteFault) new left after =
    StopsWriting step old raws bytes from w new left after ⊎ ((r : Result (Unit {0}) Ended) × (text : List ℕ) × StopsReading step old raws spare bytes from r new left text × HandsOnNot text w after)
Ends step old raws spare bytes from w r new left after = (text : List ℕ) × StopsReading step old raws spare bytes from r new left text × WritesText text w after

-- How the workbench ended. By the catalogue of its sites' script, over the lines that the bytes say; or there was no
-- memory for that catalogue, and nothing was begun.
pub record WorkbenchRuns {S L : Type 0} (b : Workbench S L) (old : State S L) (from : Input) (w : Output) (r : Result (Unit {0}) Ended) (new : State S L) (left : Input) (after : Output) : Type 0 where
  pub catalogue : CatalogueData
  pub bytes : List ℕ
  pub of_script : AreOfScript catalogue (map b.seen old.0)
  pub ends : Ends (AnswersLine b catalogue) old (raw_lines bytes) (reads_left bytes) bytes from w r new left after

abbrev pub CannotBegin : {S L : Type 0} → State S L → Input → Output → Result (Unit {0}) Ended → State S L → Input → Output → Type 0
CannotBegin old from w r new left after = (r ≡ Err OutOfMemory) × (new ≡ old) × (left ≡ from) × (after ≡ w)

abbrev pub WorkbenchEnds : {S L : Type 0} → Workbench S L → State S L → Input → Output → Result (Unit {0}) Ended → State S L → Input → Output → Type 0
WorkbenchEnds b old from w r new left after = WorkbenchRuns b old from w r new left after ⊎ CannotBegin old from w r new left after
