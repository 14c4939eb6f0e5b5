-- Fields of a header, byte by byte and one after the other; and the frames behind it.
use Rattle.std.proofs.Common.{◌≡◌, ℕ, zero, suc, add-one, ◌+◌, ◌<◌, ◌≤◌, Bool, true, false, ◌&&◌, if◌then◌else◌, cond, eqb, List, [], ◌∷◌, ◌++◌, length, drop, drop-cons, get_or, Option, None, Some, Result, Ok, Err, refl, sym, ap, subst, ◌∙◌, append_assoc, append-nil, arith}
use Rattle.std.specs.Io.KnownBytes.{IsAtEnd}
use Rattle.td_io.specs.Counted.{counted}
use Rattle.td_stamps.specs.declared.entry.Entry.{Entry}
use Rattle.td_frames.specs.declared.version.Version.{Version}
use Rattle.td_frames.specs.declared.version.Version.TheVariants.{First, Second}
use Rattle.td_frames.specs.Reading.{Entries, Miss, short, magic, version, bad, end_at, entries_at, frame_at, last_frame, with_frame, most_entries}
use Rattle.td_journal.specs.Reading.{JournalHeader, frames_at, header_then, header_version_at, known_field_at, known_fields_at, until_end}
use Rattle.td_journal.specs.ForProofs.{FieldRead, HeaderRead, told_by, version_of}
use Rattle.td_journal.specs.declared.error.JournalError.{JournalError}
use Rattle.td_journal.specs.declared.error.JournalError.TheVariants as journal_error
use Rattle.td_journal.specs.declared.reading.Unread.{Unread}
use Rattle.td_journal.specs.declared.reading.Unread.TheVariants.{ReadFault, OutOfMemory, Refused}

-- ---- one field, of which so many bytes were read, and were the same or not

abbrev pub Agrees : List ℕ → JournalError → List ℕ → ℕ → Bool → Type 0
Agrees field error done i same = (more : List ℕ) → known_field_at field error (done ++ more) ≡ cond same (known_field_at (drop i field) error more) (Err error)

at_byte : (same : Bool) (rest xs : List ℕ) (x b : ℕ) (more : List ℕ) (error : JournalError) → rest ≡ x ∷ xs
    → cond same (known_field_at rest error (b ∷ more)) (Err error) ≡ cond (same && eqb b x) (known_field_at xs error more) (Err error)
at_byte true rest xs x b more error is = ap (λ (r : List ℕ). known_field_at r error (b ∷ more)) is
at_byte false rest xs x b more error is = refl

left_at : (field : List ℕ) (i d : ℕ) → i < length field → drop i field ≡ get_or field i d ∷ drop (i + 1) field
left_at field i d lt = drop-cons field i d lt ∙ ap (λ (n : ℕ). get_or field i d ∷ drop n field) (sym (add-one i))

pub agrees_on : (field : List ℕ) (error : JournalError) (done : List ℕ) (i b d x : ℕ) (same after : Bool) → i < length field → x ≡ get_or field i d → after ≡ (same && eqb b x)
    → Agrees field error done i same → Agrees field error (done ++ b ∷ []) (i + 1) after
agrees_on field error done i b d x same after lt here is so_far more =
    ap (known_field_at field error) (append_assoc done (b ∷ []) more) ∙ so_far (b ∷ more) ∙ at_byte same (drop i field) (drop (i + 1) field) (get_or field i d) b more error (left_at field i d lt)
    ∙ ap (λ (t : Bool). cond t (known_field_at (drop (i + 1) field) error more) (Err error)) (sym (is ∙ ap (λ y. same && eqb b y) here))

nothing_more : (field : List ℕ) (error : JournalError) (done : List ℕ) (i : ℕ) (same : Bool) → Agrees field error done i same → known_field_at field error done ≡ cond same (known_field_at (drop i field) error []) (Err error)
nothing_more field error done i same so_far = ap (known_field_at field error) (sym (append-nil done)) ∙ so_far []

pub field_whole : (field : List ℕ) (error : JournalError) (done : List ℕ) (i : ℕ) (same : Bool) (left : Option (List ℕ)) (old new : ℕ) → drop i field ≡ []
    → Agrees field error done i same → new ≡ old → FieldRead (known_field_at field error) done (cond same (Ok true) (Err (Refused error))) left old new
field_whole field error done i true left old new none so_far count = ((λ more. so_far more ∙ ap (λ (r : List ℕ). known_field_at r error more) none), count)
field_whole field error done i false left old new none so_far count = (nothing_more field error done i false so_far, count)

pub field_cut : (field : List ℕ) (error : JournalError) (done : List ℕ) (i d : ℕ) (same : Bool) (left : Option (List ℕ)) (old new : ℕ) → i < length field
    → Agrees field error done i same → IsAtEnd left → new ≡ old → FieldRead (known_field_at field error) done (cond same (Ok false) (Err (Refused error))) left old new
field_cut field error done i d true left old new lt so_far end count = (nothing_more field error done i true so_far ∙ ap (λ (r : List ℕ). known_field_at r error []) (left_at field i d lt), end, count)
field_cut field error done i d false left old new lt so_far end count = (nothing_more field error done i false so_far, count)

-- ---- one field after the other

fields_then : (first next : List ℕ → JournalHeader (List ℕ)) (b c : List ℕ) (r : Result Bool Unread) (left : Option (List ℕ)) (old mid new : ℕ)
    → ((more : List ℕ) → first (b ++ more) ≡ Ok (Some more)) → mid ≡ old → FieldRead next c r left mid new → FieldRead (λ bytes. header_then (first bytes) next) (b ++ c) r left old new
fields_then first next b c (Ok true) left old mid new whole same h =
    ((λ more. ap (λ (bytes : List ℕ). header_then (first bytes) next) (append_assoc b c more) ∙ ap (λ (r : JournalHeader (List ℕ)). header_then r next) (whole (c ++ more)) ∙ h.0 more), h.1 ∙ same)
fields_then first next b c (Ok false) left old mid new whole same h = (ap (λ (r : JournalHeader (List ℕ)). header_then r next) (whole c) ∙ h.0, h.1, h.2 ∙ same)
fields_then first next b c (Err ReadFault) left old mid new whole same h = h ∙ ap counted same
fields_then first next b c (Err OutOfMemory) left old mid new whole same h = h
fields_then first next b c (Err (Refused e)) left old mid new whole same h = (ap (λ (r : JournalHeader (List ℕ)). header_then r next) (whole c) ∙ h.0, h.1 ∙ same)

pub fields_cut : (first next : List ℕ → JournalHeader (List ℕ)) (b : List ℕ) (left : Option (List ℕ)) (old new : ℕ) → FieldRead first b (Ok false) left old new
    → FieldRead (λ bytes. header_then (first bytes) next) b (Ok false) left old new
fields_cut first next b left old new h = (ap (λ (r : JournalHeader (List ℕ)). header_then r next) h.0, h.1, h.2)

pub fields_refused : (first next : List ℕ → JournalHeader (List ℕ)) (b : List ℕ) (e : Unread) (left : Option (List ℕ)) (old new : ℕ) → FieldRead first b (Err e) left old new
    → FieldRead (λ bytes. header_then (first bytes) next) b (Err e) left old new
fields_refused first next b ReadFault left old new h = h
fields_refused first next b OutOfMemory left old new h = h
fields_refused first next b (Refused e) left old new h = (ap (λ (r : JournalHeader (List ℕ)). header_then r next) h.0, h.1)

-- what is told of a field, of the field that it is and as what it is told
pub field_as : (f g : List ℕ) (error : JournalError) (b : List ℕ) (r t : Result Bool Unread) (left : Option (List ℕ)) (old new : ℕ) → f ≡ g → r ≡ t → FieldRead (known_field_at f error) b r left old new
    → FieldRead (known_field_at g error) b t left old new
field_as f g error b r t left old new field is h =
    subst (λ (x : Result Bool Unread). FieldRead (known_field_at g error) b x left old new) is (subst (λ (x : List ℕ). FieldRead (known_field_at x error) b r left old new) field h)

-- the last field of all
pub last_field : (f : List ℕ) (error : JournalError) (b : List ℕ) (r : Result Bool Unread) (left : Option (List ℕ)) (old new : ℕ) → FieldRead (known_field_at f error) b r left old new
    → FieldRead (known_fields_at ((f, error) ∷ [])) b r left old new
last_field f error b (Ok true) left old new h = ((λ more. ap (λ (r : JournalHeader (List ℕ)). header_then r (known_fields_at [])) (h.0 more)), h.1)
last_field f error b (Ok false) left old new h = fields_cut (known_field_at f error) (known_fields_at []) b left old new h
last_field f error b (Err e) left old new h = fields_refused (known_field_at f error) (known_fields_at []) b e left old new h

-- one more in front
pub field_first : (f : List ℕ) (error : JournalError) (fs : List (List ℕ × JournalError)) (b c : List ℕ) (r : Result Bool Unread) (left between : Option (List ℕ)) (old mid new : ℕ)
    → FieldRead (known_field_at f error) b (Ok true) between old mid → FieldRead (known_fields_at fs) c r left mid new → FieldRead (known_fields_at ((f, error) ∷ fs)) (b ++ c) r left old new
field_first f error fs b c r left between old mid new first rest = fields_then (known_field_at f error) (known_fields_at fs) b c r left old mid new first.0 first.1 rest

-- ---- the version, and what is before and behind it

version_by : (first second : Bool) (b : ℕ) (left : Option (List ℕ)) (old new : ℕ) → eqb b 1 ≡ first → eqb b 2 ≡ second → new ≡ old
    → HeaderRead header_version_at (b ∷ []) (if first then Ok (Some First) else if second then Ok (Some Second) else Err (Refused journal_error.Version)) left old new
version_by true second b left old new one two same = ((λ more. rw one refl), same)
version_by false true b left old new one two same = ((λ more. rw one (rw two refl)), same)
version_by false false b left old new one two same = (rw one (rw two refl), same)

pub version_read : (b : ℕ) (r : Result (Option Version) Unread) (left : Option (List ℕ)) (old new : ℕ) → r ≡ version_of b → new ≡ old → HeaderRead header_version_at (b ∷ []) r left old new
version_read b r left old new is same =
    subst (λ (x : Result (Option Version) Unread). HeaderRead header_version_at (b ∷ []) x left old new) (sym is) (version_by (eqb b 1) (eqb b 2) b left old new refl refl same)

-- a header told as what it is told
pub header_told : (at : List ℕ → JournalHeader (Version × List ℕ)) (b : List ℕ) (r t : Result (Option Version) Unread) (left : Option (List ℕ)) (old new : ℕ) → r ≡ t → HeaderRead at b r left old new → HeaderRead at b t left old new
header_told at b r t left old new is h = subst (λ (x : Result (Option Version) Unread). HeaderRead at b x left old new) is h

abbrev pub with_version : (List ℕ → JournalHeader (List ℕ)) → Version × List ℕ → JournalHeader (Version × List ℕ)
with_version next x = header_then (next x.1) (λ rest. Ok (Some (x.0, rest)))

abbrev pub versioned : (List ℕ → JournalHeader (List ℕ)) → List ℕ → JournalHeader (Version × List ℕ)
versioned next bytes = header_then (header_version_at bytes) (with_version next)

-- the version stood there, and then fields
pub version_then : (next : List ℕ → JournalHeader (List ℕ)) (v : Version) (b c : List ℕ) (r : Result Bool Unread) (left between : Option (List ℕ)) (old mid new : ℕ)
    → HeaderRead header_version_at b (Ok (Some v)) between old mid → FieldRead next c r left mid new → HeaderRead (versioned next) (b ++ c) (told_by v r) left old new
version_then next v b c (Ok true) left between old mid new first h = (
  (λ more. ap (versioned next) (append_assoc b c more) ∙ ap (λ (r : JournalHeader (Version × List ℕ)). header_then r (with_version next)) (first.0 (c ++ more))
      ∙ ap (λ (r : JournalHeader (List ℕ)). header_then r (λ rest. Ok (Some (v, rest)))) (h.0 more)),
  h.1 ∙ first.1,
)
version_then next v b c (Ok false) left between old mid new first h =
    (ap (λ (r : JournalHeader (Version × List ℕ)). header_then r (with_version next)) (first.0 c) ∙ ap (λ (r : JournalHeader (List ℕ)). header_then r (λ rest. Ok (Some (v, rest)))) h.0, h.1, h.2 ∙ first.1)
version_then next v b c (Err ReadFault) left between old mid new first h = h ∙ ap counted first.1
version_then next v b c (Err OutOfMemory) left between old mid new first h = h
version_then next v b c (Err (Refused e)) left between old mid new first h =
    (ap (λ (r : JournalHeader (Version × List ℕ)). header_then r (with_version next)) (first.0 c) ∙ ap (λ (r : JournalHeader (List ℕ)). header_then r (λ rest. Ok (Some (v, rest)))) h.0, h.1 ∙ first.1)

-- the bytes ended before it
pub version_cut : (next : List ℕ → JournalHeader (List ℕ)) (b : List ℕ) (left : Option (List ℕ)) (old new : ℕ) → HeaderRead header_version_at b (Ok None) left old new → HeaderRead (versioned next) b (Ok None) left old new
version_cut next b left old new h = (ap (λ (r : JournalHeader (Version × List ℕ)). header_then r (with_version next)) h.0, h.1, h.2)

pub version_refused : (next : List ℕ → JournalHeader (List ℕ)) (b : List ℕ) (e : Unread) (left : Option (List ℕ)) (old new : ℕ) → HeaderRead header_version_at b (Err e) left old new
    → HeaderRead (versioned next) b (Err e) left old new
version_refused next b ReadFault left old new h = h
version_refused next b OutOfMemory left old new h = h
version_refused next b (Refused e) left old new h = (ap (λ (r : JournalHeader (Version × List ℕ)). header_then r (with_version next)) h.0, h.1)

-- a field stood there, and then what tells the version
pub letters_then : (first : List ℕ → JournalHeader (List ℕ)) (next : List ℕ → JournalHeader (Version × List ℕ)) (b c : List ℕ) (r : Result (Option Version) Unread) (left between : Option (List ℕ)) (old mid new : ℕ)
    → FieldRead first b (Ok true) between old mid → HeaderRead next c r left mid new → HeaderRead (λ bytes. header_then (first bytes) next) (b ++ c) r left old new
letters_then first next b c (Ok (Some v)) left between old mid new whole h =
    ((λ more. ap (λ (bytes : List ℕ). header_then (first bytes) next) (append_assoc b c more) ∙ ap (λ (r : JournalHeader (List ℕ)). header_then r next) (whole.0 (c ++ more)) ∙ h.0 more), h.1 ∙ whole.1)
letters_then first next b c (Ok None) left between old mid new whole h = (ap (λ (r : JournalHeader (List ℕ)). header_then r next) (whole.0 c) ∙ h.0, h.1, h.2 ∙ whole.1)
letters_then first next b c (Err ReadFault) left between old mid new whole h = h ∙ ap counted whole.1
letters_then first next b c (Err OutOfMemory) left between old mid new whole h = h
letters_then first next b c (Err (Refused e)) left between old mid new whole h = (ap (λ (r : JournalHeader (List ℕ)). header_then r next) (whole.0 c) ∙ h.0, h.1 ∙ whole.1)

-- the bytes ended inside it
pub letters_cut : (first : List ℕ → JournalHeader (List ℕ)) (next : List ℕ → JournalHeader (Version × List ℕ)) (b : List ℕ) (left : Option (List ℕ)) (old new : ℕ) → FieldRead first b (Ok false) left old new
    → HeaderRead (λ bytes. header_then (first bytes) next) b (Ok None) left old new
letters_cut first next b left old new h = (ap (λ (r : JournalHeader (List ℕ)). header_then r next) h.0, h.1, h.2)

pub letters_refused : (first : List ℕ → JournalHeader (List ℕ)) (next : List ℕ → JournalHeader (Version × List ℕ)) (b : List ℕ) (e : Unread) (left : Option (List ℕ)) (old new : ℕ) → FieldRead first b (Err e) left old new
    → HeaderRead (λ bytes. header_then (first bytes) next) b (Err e) left old new
letters_refused first next b ReadFault left old new h = h
letters_refused first next b OutOfMemory left old new h = h
letters_refused first next b (Refused e) left old new h = (ap (λ (r : JournalHeader (List ℕ)). header_then r next) h.0, h.1)

-- no more entries are read than are allowed
none_ends : (r : Result (Unit {0} × List ℕ) Miss) → length (last_frame r).0 ≤ 0
none_ends (Ok x) = omega arith
none_ends (Err m) = omega arith

one_more : (n : ℕ) (others : List ℕ → Entries) → ((rest : List ℕ) → length (others rest).0 ≤ n) → (r : Result (Option Entry × List ℕ) Miss) → length (with_frame others r).0 ≤ suc n
one_more n others few (Ok (None, rest)) = omega arith
one_more n others few (Ok (Some e, rest)) = omega (arith, few rest)
one_more n others few (Err m) = omega arith

few_read : (v : Version) (n : ℕ) (bytes : List ℕ) → length (entries_at v n bytes).0 ≤ n
unfolding entries_at
few_read v zero bytes = none_ends (end_at bytes)
few_read v (suc n) bytes = one_more n (entries_at v n) (few_read v n) (frame_at v bytes)

of_said : (r : Entries) (es : List Entry) → length r.0 ≤ 100000 → until_end r ≡ Ok es → length es ≤ 100000
of_said (xs, Err short) es few e = let same : xs ≡ es = cc in subst (λ (l : List Entry). length l ≤ 100000) same few
of_said (xs, Err magic) es few e = absurd cc
of_said (xs, Err version) es few e = absurd cc
of_said (xs, Err bad) es few e = absurd cc
of_said (xs, Ok rest) es few e = absurd cc

pub few_said : (v : Version) (bytes : List ℕ) (es : List Entry) → frames_at v bytes ≡ Ok es → length es ≤ 100000
few_said v bytes es e = of_said (entries_at v most_entries bytes) es (few_read v most_entries bytes) e
