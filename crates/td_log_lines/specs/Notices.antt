-- Which texts are printed, and which are held back and counted.
use Rattle.std.specs.Prelude.{◌≡◌, ℕ, ◌+◌, ◌-◌, ◌++◌, ◌∷◌, [], List, length, Bool, true, not, ◌&&◌, ◌||◌, nat_lt, nat_le, min, if◌then◌else◌, codes}
use Rattle.std.specs.List.{filter, flat_map, list_any}
use Rattle.std.specs.Str.{bytes_eq}
use Rattle.std.specs.Fmt.{decimal}
use Rattle.td_log_lines.specs.Times.{IsTimeText}

-- a text that was printed: when, as its line says and in seconds since 1970, and how often it was held back since
pub record PrintedText : Type 0 where
  pub text : List ℕ
  pub since : List ℕ
  pub second : ℕ
  pub held : ℕ

-- a text that is printed now
abbrev pub printed : ℕ → List ℕ → List ℕ → PrintedText
printed now time text = record { text = text; since = time; second = now; held = 0 }

-- the text is held back no longer: an hour is over, the clock was set back, or it came a million times
abbrev pub has_ended : ℕ → PrintedText → Bool
has_ended now n =
    nat_lt now n.second || nat_le 3600 (now - n.second) || nat_le 1000000 n.held

-- a text that comes now is held back, since it is this one
abbrev pub holds_back : ℕ → List ℕ → PrintedText → Bool
holds_back now text n = bytes_eq n.text text && not (has_ended now n)

-- one of these holds the text back
abbrev pub IsHeld : ℕ → List ℕ → List PrintedText → Type 0
IsHeld now text ns = list_any (holds_back now text) ns ≡ true

-- it came once more and was held back
abbrev pub held_once_more : PrintedText → PrintedText
held_once_more n = record n { held = n.held + 1 }

-- the first that passes the test came once more
abbrev pub hold : (PrintedText → Bool) → List PrintedText → List PrintedText
hold p [] = []
hold p (n ∷ ns) = if p n then held_once_more n ∷ ns else n ∷ hold p ns

-- one more was printed, where at most 64 are kept
abbrev pub noted : PrintedText → List PrintedText → List PrintedText
noted n ns = if nat_le 64 (length ns) then ns else ns ++ n ∷ []

-- those that are still held back
abbrev pub kept_texts : ℕ → List PrintedText → List PrintedText
kept_texts now ns = filter (λ n. not (has_ended now n)) ns

-- what a line says: a text or a fault that comes, or how often one was held back
pub data LogLine : Type 0 where
  Ordinary : List ℕ → LogLine
  Fault : List ℕ → LogLine
  Count : PrintedText → LogLine

-- a line at this time that says how often a text was held back since another time
abbrev pub count_text : List ℕ → ℕ → List ℕ → List ℕ → List ℕ
count_text time held since text =
    time ++ codes " " ++ decimal held ++ codes " more since " ++ since ++ codes ": " ++ text
    ++ codes "\n"

-- a line that is printed at this time
abbrev pub line_text : List ℕ → LogLine → List ℕ
line_text time (Ordinary text) = time ++ codes " " ++ text ++ codes "\n"
line_text time (Fault text) = time ++ codes " " ++ text ++ codes "\n"
line_text time (Count n) = count_text time n.held n.since n.text

abbrev pub lines_text : List ℕ → List LogLine → List ℕ
lines_text time ls = flat_map (line_text time) ls

-- a line says how often the text was held back: at the end, and once it is held back no longer
abbrev pub is_counted : Bool → ℕ → PrintedText → Bool
is_counted is_last now n = nat_lt 0 n.held && (is_last || has_ended now n)

-- that line, if there is one
abbrev pub count : Bool → ℕ → PrintedText → List LogLine
count is_last now n = if is_counted is_last now n then Count n ∷ [] else []

abbrev pub counts : Bool → ℕ → List PrintedText → List LogLine
counts is_last now ns = flat_map (count is_last now) ns

-- what is printed has these lines, each at the time of this second, and these texts are kept then
abbrev pub PrintsLines : ℕ → List ℕ → (List ℕ → List LogLine) → (List ℕ → List PrintedText) → List PrintedText → Type 0
PrintsLines seconds text lines kept new =
    (time : List ℕ) × IsTimeText (min seconds 253_402_300_799) time
    × (text ≡ lines_text time (lines time)) × (new ≡ kept time)
