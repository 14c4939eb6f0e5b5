-- The texts that a site shows: its listing, its log and its version vector. Each line ends with a line feed.
use Rattle.std.specs.Prelude.{ℕ, ◌+◌, ◌==◌, ◌||◌, nat_lt, if◌then◌else◌, List, [], ◌∷◌, ◌++◌, length, map, Option, None, Some, Result, Ok, Err, codes, decimal}
use Rattle.std.specs.FinMap as by_site
use Rattle.std.specs.List.{flat_map}
use Rattle.td_values.specs.Data.{Attrs, tuple}
use Rattle.td_values.specs.Headings.{Header}
use Rattle.td_values.specs.Rows.{RowsData}
use Rattle.td_values.specs.Shown.{shown}
use Rattle.td_values.specs.declared.raises.Raise.{Raise}
use Rattle.td_syntax.specs.declared.tree.Named.{Named}
use Rattle.td_algebra.specs.declared.errors.Stop.{Stop}
use Rattle.td_values.specs.declared.raises.Raise.TheVariants as raise
use Rattle.td_algebra.specs.declared.errors.Stop.TheVariants as stop
use Rattle.td_semantics.specs.Raises.{stop_of}
use Rattle.td_semantics.specs.Trees.{all_relvars}
use Rattle.td_semantics.specs.Databases.{DatabaseData, stored_relvars}
use Rattle.td_semantics.specs.declared.outcome.Outcome.{Outcome}
use Rattle.td_semantics.specs.declared.outcome.Outcome.TheVariants.{Done, Unread, Raised, BreaksKey, BreaksConstraint}
use Rattle.td_stamps.specs.Entries.{stamp_of}
use Rattle.td_stamps.specs.Vectors.{VersionVector}
use Rattle.td_stamps.specs.declared.entry.Entry.{Entry}
use Rattle.td_stamps.specs.declared.entry.Stamp.{Stamp}

-- ---- stamps, errors and outcomes

-- CLOCK.SITE
abbrev pub shown_stamp : Stamp → List ℕ
shown_stamp s = decimal s.clock ++ codes "." ++ decimal s.site

-- an error is told by its word
abbrev pub shown_raise : Raise → List ℕ
shown_raise raise.Overflow = codes "overflow"
shown_raise raise.Divide = codes "divide"
shown_raise raise.Empty = codes "empty"
shown_raise raise.Selector = codes "selector"
shown_raise raise.Cardinality = codes "cardinality"

-- what has no meaning is no error of the language, and has no word
abbrev pub shown_stop : Stop → List ℕ
shown_stop stop.Untyped = []
shown_stop (stop.Error e) = shown_raise e

-- why a statement is refused; one that is done has no reason
abbrev pub reason : Outcome → Option (List ℕ)
reason Done = None
reason Unread = Some (codes "unread")
reason (Raised e) = Some (codes "raised " ++ shown_raise e)
reason (BreaksKey r) = Some (codes "breaks key " ++ r)
reason (BreaksConstraint c) = Some (codes "breaks constraint " ++ c)

-- done, or refused REASON
abbrev pub done_or_refused : Option (List ℕ) → List ℕ
done_or_refused None = codes "done"
done_or_refused (Some why) = codes "refused " ++ why

abbrev pub shown_outcome : Outcome → List ℕ
shown_outcome o = done_or_refused (reason o)

-- ---- the listing

-- one tuple on a line
abbrev pub tuple_line : Attrs → List ℕ
tuple_line t = shown (tuple t) ++ codes "\n"

-- relvar NAME COUNT and its tuples, ascending; or relvar NAME raised E
abbrev pub relvar_lines : List ℕ → Result RowsData Stop → List ℕ
relvar_lines name (Ok r) = codes "relvar " ++ name ++ codes " " ++ decimal (length r.tuples) ++ codes "\n" ++ flat_map tuple_line r.tuples
relvar_lines name (Err e) = codes "relvar " ++ name ++ codes " raised " ++ shown_stop e ++ codes "\n"

-- what the relvar at a place has, or raises
abbrev pub relvar_value : DatabaseData → ℕ → Result RowsData Stop
relvar_value d n = all_relvars d.catalogue (stored_relvars d.stored) n

-- the lines of these relvars, of which the first is at place n
abbrev pub relvars_from : DatabaseData → ℕ → List (Named Header) → List ℕ
relvars_from d n [] = []
relvars_from d n (v ∷ vs) = relvar_lines v.name (relvar_value d n) ++ relvars_from d (n + 1) vs

-- those of each relvar, real and virtual, in script order
abbrev pub relvars_lines : DatabaseData → List ℕ
relvars_lines d = relvars_from d 0 d.catalogue.schema.relvars

-- refused CLOCK.SITE REASON, where the entry is refused
abbrev pub refusal : Stamp → Option (List ℕ) → List ℕ
refusal s None = []
refusal s (Some why) = codes "refused " ++ shown_stamp s ++ codes " " ++ why ++ codes "\n"

abbrev pub refused_line : Stamp × Outcome → List ℕ
refused_line o = refusal o.0 (reason o.1)

-- held COUNT
abbrev pub held_line : ℕ → List ℕ
held_line n = codes "held " ++ decimal n ++ codes "\n"

-- each relvar with its tuples, each refused entry in stamp order, and how many entries are held
abbrev pub listing_of : DatabaseData → List (Stamp × Outcome) → ℕ → List ℕ
listing_of d os n = relvars_lines d ++ flat_map refused_line os ++ held_line n

-- ---- the log

-- a byte that would not show, under 20 hex or 7f hex, is a space
abbrev pub showing : ℕ → ℕ
showing b = if nat_lt b 32 || (b == 127) then 32 else b

-- CLOCK.SITE SEQ
abbrev pub entry_words : Entry → List ℕ
entry_words e = shown_stamp (stamp_of e) ++ codes " " ++ decimal e.seq

-- CLOCK.SITE SEQ OUTCOME: TEXT
abbrev pub log_line : Entry → Outcome → List ℕ
log_line e o = entry_words e ++ codes " " ++ shown_outcome o ++ codes ": " ++ map showing e.text ++ codes "\n"

-- for each entry, in stamp order, with what became of it
abbrev pub log_of : List Entry → List (Stamp × Outcome) → List ℕ
log_of (e ∷ es) (o ∷ os) = log_line e o.1 ++ log_of es os
log_of es os = []

-- ---- the version vector

-- " SITE:N"
abbrev pub site_word : ℕ × ℕ → List ℕ
site_word x = codes " " ++ decimal x.0 ++ codes ":" ++ decimal x.1

-- vector, and each site with its number, ascending
abbrev pub vector_of : VersionVector → List ℕ
vector_of v = codes "vector" ++ flat_map site_word (by_site.entries v) ++ codes "\n"
