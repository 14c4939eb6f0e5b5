-- What a line of the workbench says.
use Rattle.std.specs.Prelude.{ℕ, ◌+◌, ◌-◌, ◌*◌, min, nat_le, nat_lt, ◌==◌, Bool, true, false, ◌&&◌, ◌||◌, not, if◌then◌else◌, List, [], ◌∷◌, length, take, drop, fold, codes, Option, Some, None, option_map, option_and_then, unwrap_or}
use Rattle.std.specs.List.{list_all, before_first, after_first, position_or_len}
use Rattle.std.specs.Char.{is_ascii_digit}
use Rattle.std.specs.Str.{bytes_eq, is_utf8}

pub data Line : Type 0 where
  nothing : Line
  quit : Line
  issue : ℕ → List ℕ → Line
  query : ℕ → List ℕ → Line
  query_at : ℕ → List ℕ → ℕ × ℕ → Line
  meet : ℕ → ℕ → Line
  listing : ℕ → Line
  log : ℕ → Line
  vector : ℕ → Line
  table : ℕ → List ℕ → Line
  serve : ℕ → List ℕ → Line
  call : ℕ → List ℕ → Line
  faulty : Line

-- ---- numbers and words

abbrev pub decimal_value : List ℕ → ℕ
decimal_value = fold (λ n b. 10 * n + (b - 48)) 0

-- digits without leading zeros
abbrev pub is_number : List ℕ → Bool
is_number [] = false
is_number (b ∷ bs) = list_all is_ascii_digit (b ∷ bs) && (not (b == 48) || (length bs == 0))

-- a number, of which all that are larger than this one are alike
abbrev pub number_within : ℕ → List ℕ → Option ℕ
number_within most bs = if is_number bs then Some (min (decimal_value bs) most) else None

-- no site has a number as large as this, and no entry such a clock
abbrev pub no_site : ℕ
no_site = 65536

abbrev pub no_clock : ℕ
no_clock = 1000000000000000001

abbrev pub site_number : List ℕ → Option ℕ
site_number bs = number_within no_site bs

-- bytes without a space, of which there are some
abbrev pub is_word : List ℕ → Bool
is_word bs = not (length bs == 0) && list_all (λ b. not (b == 32)) bs

-- what follows a front, which it has
abbrev pub after_front : List ℕ → List ℕ → Option (List ℕ)
after_front front bs = if bytes_eq (take (length front) bs) front then Some (drop (length front) bs) else None

-- what is before the first byte c, and what is after it
abbrev pub parted : ℕ → List ℕ → Option (List ℕ × List ℕ)
parted c bs = if nat_lt (position_or_len (λ b. b == c) bs) (length bs) then Some (before_first (λ b. b == c) bs, after_first (λ b. b == c) bs) else None

-- what is before the last byte c, and what is after it
abbrev pub or_here : Bool → ℕ → List ℕ → Option (List ℕ × List ℕ) → Option (List ℕ × List ℕ)
or_here is_here b bs (Some p) = Some (b ∷ p.0, p.1)
or_here is_here b bs None = if is_here then Some ([], bs) else None

abbrev pub parted_last : ℕ → List ℕ → Option (List ℕ × List ℕ)
parted_last c [] = None
parted_last c (b ∷ bs) = or_here (b == c) b bs (parted_last c bs)

-- ---- the forms of lines: an empty line, n: text, n? text, n? text @ CLOCK.SITE, and those that begin with a dot,
-- whose words have one space between and none after

-- without one space in front, where there is one
abbrev pub without_space : List ℕ → List ℕ
without_space bs = unwrap_or (after_front (codes " ") bs) bs

-- a site's number and a text, with this mark between
abbrev pub site_and_text : ℕ → List ℕ → Option (ℕ × List ℕ)
site_and_text mark bs = option_and_then (λ (p : List ℕ × List ℕ). option_map (λ n. (n, without_space p.1)) (site_number p.0)) (parted mark bs)

-- CLOCK.SITE
abbrev pub stamp_in : List ℕ → Option (ℕ × ℕ)
stamp_in bs = option_and_then (λ (p : List ℕ × List ℕ). option_and_then (λ c. option_map (λ n. (c, n)) (site_number p.1)) (number_within no_clock p.0)) (parted 46 bs)

-- what is before a space, which is the last byte
abbrev pub before_space : List ℕ → Option (List ℕ)
before_space bs = if bytes_eq (drop (length bs - 1) bs) (codes " ") then Some (take (length bs - 1) bs) else None

-- a text, and the stamp at which it is asked: what stands before ` @ `, and behind it, where nothing else does
abbrev pub at_stamp : List ℕ → Option (List ℕ × (ℕ × ℕ))
at_stamp bs =
    option_and_then (λ (p : List ℕ × List ℕ). option_and_then (λ front. option_and_then (λ rest. option_map (λ s. (front, s)) (stamp_in rest)) (after_front (codes " ") p.1)) (before_space p.0)) (parted_last 64 bs)

-- a site's number and a word
abbrev pub site_and_word : List ℕ → Option (ℕ × List ℕ)
site_and_word bs = option_and_then (λ (p : List ℕ × List ℕ). if is_word p.1 then option_map (λ n. (n, p.1)) (site_number p.0) else None) (parted 32 bs)

-- the numbers of two sites
abbrev pub two_sites : List ℕ → Option (ℕ × ℕ)
two_sites bs = option_and_then (λ (p : List ℕ × List ℕ). option_and_then (λ n. option_map (λ m. (n, m)) (site_number p.1)) (site_number p.0)) (parted 32 bs)

abbrev pub of_site : (ℕ → Line) → List ℕ → Option Line
of_site form bs = option_map form (site_number bs)

abbrev pub of_pair : {A : Type 0} → (ℕ → A → Line) → Option (ℕ × A) → Option Line
of_pair {A} form o = option_map (λ (p : ℕ × A). form p.0 p.1) o

-- what follows the first word of a line that begins with a dot
abbrev pub dotted : List ℕ → List ℕ → Option Line
dotted word rest =
    if bytes_eq word (codes ".meet") then of_pair meet (two_sites rest)
    else (if bytes_eq word (codes ".listing") then of_site listing rest
    else (if bytes_eq word (codes ".log") then of_site log rest
    else (if bytes_eq word (codes ".vector") then of_site vector rest
    else (if bytes_eq word (codes ".csv") then of_pair table (site_and_word rest)
    else (if bytes_eq word (codes ".serve") then of_pair serve (site_and_word rest)
    else (if bytes_eq word (codes ".call") then of_pair call (site_and_word rest)
    else None))))))

abbrev pub dot_form : List ℕ → Option Line
dot_form bs = option_and_then (λ (p : List ℕ × List ℕ). dotted p.0 p.1) (parted 32 bs)

-- the first, or else the second
abbrev pub either_form : Option Line → Option Line → Option Line
either_form (Some l) m = Some l
either_form None m = m

-- of the present, or at a stamp
abbrev pub asked : ℕ → List ℕ → Option (List ℕ × (ℕ × ℕ)) → Line
asked n text None = query n text
asked n text (Some p) = query_at n p.0 p.1

abbrev pub query_form : ℕ → List ℕ → Line
query_form n text = asked n text (at_stamp text)

abbrev pub text_form : List ℕ → Option Line
text_form bs = either_form (of_pair issue (site_and_text 58 bs)) (of_pair query_form (site_and_text 63 bs))

abbrev pub form_of : List ℕ → Option Line
form_of bs =
    if bytes_eq bs [] then Some nothing
    else (if bytes_eq bs (codes ".quit") then Some quit
    else either_form (dot_form bs) (text_form bs))

-- a line has at most 16,384 bytes, without its line end, which are text
abbrev pub line_of : List ℕ → Line
line_of bs = if nat_le (length bs) 16384 && is_utf8 bs then unwrap_or (form_of bs) faulty else faulty

abbrev pub is_quit : Line → Bool
is_quit quit = true
is_quit _ = false
