-- The frames of a meeting: each has one spelling in each version of the formats. Numbers are big-endian.
use Rattle.std.specs.Prelude.{◌≡◌, ℕ, ◌<◌, ◌≤◌, ◌^◌, List, [], ◌∷◌, ◌++◌, length, codes, IsUtf8}
use Rattle.std.specs.FinMap as by_site
use Rattle.std.specs.List.{AllByRecursion, flat_map}
use Rattle.std.specs.Int.{w16, w32, w64, to_be_bytes}
use Rattle.td_stamps.specs.Vectors.{VersionVector}
use Rattle.td_stamps.specs.declared.entry.Entry.{Entry}
use Rattle.td_frames.specs.declared.version.Version.{Version}
use Rattle.td_frames.specs.declared.version.Version.TheVariants.{First, Second}

-- a dialect is one byte, and none in the first version, whose entries are of the first dialect
abbrev pub dialect_frame : Version → ℕ → List ℕ
dialect_frame First d = []
dialect_frame Second d = d ∷ []

-- the fields before the text: site, sequence number, clock, dialect, length of the text
abbrev pub head_of : Version → Entry → List ℕ
head_of v e = to_be_bytes w16 e.site ++ to_be_bytes w32 e.seq ++ to_be_bytes w64 e.clock ++ dialect_frame v e.dialect ++ to_be_bytes w16 (length e.text)

-- the frame of an entry: E, the fields, the text
abbrev pub entry_frame : Version → Entry → List ℕ
entry_frame v e = (69 ∷ head_of v e) ++ e.text

-- the frame that ends a stream: Z
abbrev pub end_frame : List ℕ
end_frame = 90 ∷ []

abbrev pub entry_frames : Version → List Entry → List ℕ
entry_frames v es = flat_map (entry_frame v) es

-- the stream of entries: their frames, and the end
abbrev pub stream : Version → List Entry → List ℕ
stream v es = entry_frames v es ++ end_frame

-- which dialects have a frame
abbrev pub HasDialect : Version → ℕ → Type 0
HasDialect First d = d ≡ 1
HasDialect Second d = d < 2 ^ 8

-- which entries have a frame
pub record HasFrame (v : Version) (e : Entry) : Type 0 where
  pub site : e.site < 2 ^ 16
  pub seq : e.seq < 2 ^ 32
  pub clock : e.clock < 2 ^ 64
  pub dialect : HasDialect v e.dialect
  pub short : length e.text ≤ 8192
  pub text : IsUtf8 e.text

-- ---- greetings

-- a site and its number, as a vector has them
abbrev pub IsPlace : ℕ × ℕ → Type 0
IsPlace p = (1 ≤ p.0) × (p.0 < 2 ^ 16) × (1 ≤ p.1) × (p.1 ≤ 1000000000)

-- a site and its number
abbrev pub place : ℕ × ℕ → List ℕ
place p = to_be_bytes w16 p.0 ++ to_be_bytes w32 p.1

-- how many sites a version vector has, and each with its number
abbrev pub vector_frame : List (ℕ × ℕ) → List ℕ
vector_frame ps = to_be_bytes w16 (length ps) ++ flat_map place ps

-- the letters HTDB, the version, which is the second, and the site that greets
abbrev pub head_frame : ℕ → List ℕ
head_frame site = codes "HTDB" ++ 2 ∷ to_be_bytes w16 site

-- the length of its script, and the script
abbrev pub script_frame : List ℕ → List ℕ
script_frame script = to_be_bytes w32 (length script) ++ script

abbrev pub greeting_frame : ℕ → List ℕ → List (ℕ × ℕ) → List ℕ
greeting_frame site script ps = head_frame site ++ (script_frame script ++ vector_frame ps)

-- what has a greeting: a site, a script, and the version vector
pub record HasGreeting (site : ℕ) (script : List ℕ) (v : VersionVector) : Type 0 where
  pub some_site : 1 ≤ site
  pub site_fits : site < 2 ^ 16
  pub short : length script ≤ 65536
  pub text : IsUtf8 script
  pub few : length (by_site.entries v) < 2 ^ 16
  pub places : AllByRecursion IsPlace (by_site.entries v)
