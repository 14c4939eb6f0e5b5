-- The time of a line: RFC 3339, in UTC, in whole seconds.
use Rattle.std.specs.Prelude.{◌≡◌, ℕ, ◌-◌, ◌*◌, ◌++◌, List, length, replicate, pos, unsigned_abs, codes}
use Rattle.std.specs.Fmt.{decimal}
use Rattle.jiff_core.specs.declared.civil.date.Date.{Date}
use Rattle.jiff_core.specs.declared.civil.time.Time.{Time}
use Rattle.jiff_core.specs.declared.civil.datetime.DateTime.{DateTime}
use Rattle.jiff_core.specs.DateTime.{civil_nanos}

-- a number with zeros before it, in so many digits at least
abbrev pub zero_padded : ℕ → ℕ → List ℕ
zero_padded digits n = replicate (digits - length (decimal n)) 48 ++ decimal n

-- `2026-12-01`
abbrev pub date_text : Date → List ℕ
date_text d =
    zero_padded 4 (unsigned_abs d.year) ++ codes "-" ++ zero_padded 2 d.month
    ++ codes "-" ++ zero_padded 2 d.day

-- `14:04:53`
abbrev pub clock_text : Time → List ℕ
clock_text t =
    zero_padded 2 t.hour ++ codes ":" ++ zero_padded 2 t.minute ++ codes ":" ++ zero_padded 2 t.second

-- `2026-12-01T14:04:53Z`
abbrev pub utc_text : DateTime → List ℕ
utc_text at = date_text at.date ++ codes "T" ++ clock_text at.time ++ codes "Z"

-- it is the text of the date and the time of day, by the Gregorian calendar and without leap seconds, that is so many
-- seconds after the beginning of 1970
abbrev pub IsTimeText : ℕ → List ℕ → Type 0
IsTimeText seconds text =
    (at : DateTime) × (civil_nanos at ≡ pos (seconds * 1_000_000_000)) × (text ≡ utc_text at)
