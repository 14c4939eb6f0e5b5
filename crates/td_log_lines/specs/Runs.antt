-- What holds of every list of calls: no fault is lost.
use Rattle.std.specs.Prelude.{◌≡◌, ℕ, ◌+◌, ◌++◌, ◌∷◌, [], List, true, false, if◌then◌else◌}
use Rattle.std.specs.List.{sum_by, list_any}
use Rattle.std.specs.Str.{bytes_eq}
use Rattle.td_log_lines.specs.Notices.{PrintedText, printed, LogLine, Ordinary, Fault, Count, holds_back, hold, noted, kept_texts, counts}

-- a call: its second, how lines write that, and its text; a meeting has a peer before its text, and the last call of a
-- program has no text
pub data LogCall : Type 0 where
  LineCall : ℕ → List ℕ → List ℕ → LogCall
  FaultCall : ℕ → List ℕ → List ℕ → LogCall
  MeetingCall : ℕ → List ℕ → List ℕ → List ℕ → LogCall
  FinishCall : ℕ → List ℕ → LogCall

-- the lines that a call prints, where these texts were printed before
abbrev pub lines_of : LogCall → List PrintedText → List LogLine
lines_of (LineCall now time text) ns = counts false now ns ++ Ordinary text ∷ []
lines_of (FaultCall now time text) ns =
    if list_any (holds_back now text) ns then [] else counts false now ns ++ Fault text ∷ []
lines_of (MeetingCall now time peer text) ns =
    if list_any (holds_back now peer) ns then [] else counts false now ns ++ Ordinary text ∷ []
lines_of (FinishCall now time) ns = counts true now ns

-- the texts that are kept after it
abbrev pub texts_after : LogCall → List PrintedText → List PrintedText
texts_after (LineCall now time text) ns = kept_texts now ns
texts_after (FaultCall now time text) ns =
    if list_any (holds_back now text) ns then hold (holds_back now text) ns
    else kept_texts now (noted (printed now time text) ns)
texts_after (MeetingCall now time peer text) ns =
    if list_any (holds_back now peer) ns then ns else kept_texts now (noted (printed now time peer) ns)
texts_after (FinishCall now time) ns = []

-- the lines of calls in turn, and the texts that are kept after them
abbrev pub all_lines : List LogCall → List PrintedText → List LogLine
all_lines [] ns = []
all_lines (call ∷ calls) ns = lines_of call ns ++ all_lines calls (texts_after call ns)

abbrev pub all_after : List LogCall → List PrintedText → List PrintedText
all_after [] ns = ns
all_after (call ∷ calls) ns = all_after calls (texts_after call ns)

-- how many faults of this text a line reports
abbrev pub reported : List ℕ → LogLine → ℕ
reported text (Ordinary other) = 0
reported text (Fault other) = if bytes_eq other text then 1 else 0
reported text (Count n) = if bytes_eq n.text text then n.held else 0

-- how many faults of this text are held back
abbrev pub held : List ℕ → PrintedText → ℕ
held text n = if bytes_eq n.text text then n.held else 0

-- how many faults of this text come by a call
abbrev pub came : List ℕ → LogCall → ℕ
came text (FaultCall now time other) = if bytes_eq other text then 1 else 0
came text _ = 0

-- Of each text, the faults that lines report and those that are held back after a list of calls are those that came by
-- these calls or were held back before.
abbrev pub NoFaultIsLost : Type 0
NoFaultIsLost = (text : List ℕ) (calls : List LogCall) (ns : List PrintedText) →
    sum_by (reported text) (all_lines calls ns) + sum_by (held text) (all_after calls ns)
    ≡ sum_by (came text) calls + sum_by (held text) ns
