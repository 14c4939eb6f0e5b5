-- A journal that is cut is read as what is left of it.
use Rattle.std.proofs.Common.{◌≡◌, ℕ, zero, suc, ◌+◌, ◌-◌, ◌<◌, ◌≤◌, ◌⊎◌, inl, inr, List, [], ◌∷◌, ◌++◌, length, take, None, Some, Ok, Err, refl, sym, ap, subst, ◌∙◌, append_assoc, append-nil, arith, length-append, length-take-le, take_all}
use Rattle.std.specs.List.{AllByRecursion}
use Rattle.std.specs.Int.{w16, w32, to_be_bytes}
use Rattle.std.proofs.lemmas.Bool.{cases_lt, le-ltb, lt-ltb, eq-eqb}
use Rattle.std.proofs.lemmas.List.{take-append-le}
use Rattle.std.proofs.lemmas.List.Concat.{flat_map-cons}
use Rattle.std.proofs.lemmas.Nat.{from_be_bytes-to_be_bytes_2, from_be_bytes-to_be_bytes_4, from_be_bytes-to_be_bytes_8}
use Rattle.td_stamps.specs.declared.entry.Entry.{Entry}
use Rattle.td_frames.specs.declared.version.Version.{Version}
use Rattle.td_frames.specs.declared.version.Version.TheVariants.{First, Second}
use Rattle.td_frames.specs.declared.fields.Head.{Head}
use Rattle.td_frames.specs.Spelling.{HasDialect, HasFrame, head_of, entry_frame, entry_frames, script_frame}
use Rattle.td_frames.specs.Reading.{Entries, short, entries_at, entry_at, fields, frame_at, head_size, some_entry, text_at, with_frame, most_entries}
use Rattle.td_frames.proofs.Again.{frame_again}
use Rattle.td_frames.proofs.Steps.{entry_short, entry_then, text_short}
use Rattle.td_journal.specs.declared.error.JournalError.{JournalError}
use Rattle.td_journal.specs.Spelling.{header, journal, version_byte}
use Rattle.td_journal.specs.Reading.{JournalHeader, behind_header, frames_at, header_at, header_then, journal_at, known_field_at, known_fields_at, owned_at, owner_fields, until_end, with_whole}
use Rattle.td_journal.specs.Laws.{CutJournalIsRead, JournalIsReadAgain, left_of, whole}

pub take_beyond : {A : Type 0} (xs ys : List A) (k : ℕ) → length xs ≤ k → take k (xs ++ ys) ≡ xs ++ take (k - length xs) ys
take_beyond [] ys k le = ap (λ (n : ℕ). take n ys) (omega arith)
take_beyond (x ∷ xs) ys zero le = absurd (omega (arith, le))
take_beyond (x ∷ xs) ys (suc n) le =
    let same : n - length xs ≡ suc n - length (x ∷ xs) = omega arith in
    ap (λ (l : List _). x ∷ l) (take_beyond xs ys n (omega (arith, le)) ∙ ap (λ (m : ℕ). xs ++ take m ys) same)

-- ---- the header

field_again : (f : List ℕ) (error : JournalError) (more : List ℕ) → known_field_at f error (f ++ more) ≡ Ok (Some more)
field_again [] error more = refl
field_again (x ∷ xs) error more = rw (eq-eqb x x refl) (field_again xs error more)

field_is_cut : (f : List ℕ) (error : JournalError) (more : List ℕ) (k : ℕ) → k < length f → known_field_at f error (take k (f ++ more)) ≡ Ok None
field_is_cut [] error more k lt = absurd (omega (arith, lt))
field_is_cut (x ∷ xs) error more zero lt = refl
field_is_cut (x ∷ xs) error more (suc n) lt = rw (eq-eqb x x refl) (field_is_cut xs error more n (omega (arith, lt)))

abbrev spelled : List (List ℕ × JournalError) → List ℕ
spelled [] = []
spelled (f ∷ fs) = f.0 ++ spelled fs

fields_again : (fs : List (List ℕ × JournalError)) (more : List ℕ) → known_fields_at fs (spelled fs ++ more) ≡ Ok (Some more)
fields_again [] more = refl
fields_again (f ∷ fs) more =
    ap (λ (l : List ℕ). header_then (known_field_at f.0 f.1 l) (known_fields_at fs)) (append_assoc f.0 (spelled fs) more) ∙ ap (λ (r : JournalHeader (List ℕ)). header_then r (known_fields_at fs)) (field_again f.0 f.1 (spelled fs ++ more))
    ∙ fields_again fs more

fields_are_cut : (fs : List (List ℕ × JournalError)) (more : List ℕ) (k : ℕ) → k < length (spelled fs) → known_fields_at fs (take k (spelled fs ++ more)) ≡ Ok None
fields_are_cut [] more k lt = absurd (omega (arith, lt))
fields_are_cut (f ∷ fs) more k lt =
    ap (λ (l : List ℕ). header_then (known_field_at f.0 f.1 (take k l)) (known_fields_at fs)) (append_assoc f.0 (spelled fs) more)
    ∙ by (cases_lt k (length f.0)) (λ beyond. fields_are_cut fs more (k - length f.0) (omega (arith, lt, beyond, length-append f.0 (spelled fs))))
  where
    by : (k < length f.0) ⊎ (length f.0 ≤ k) → (length f.0 ≤ k → known_fields_at fs (take (k - length f.0) (spelled fs ++ more)) ≡ Ok None)
        → header_then (known_field_at f.0 f.1 (take k (f.0 ++ (spelled fs ++ more)))) (known_fields_at fs) ≡ Ok None
    by (inl within) others = ap (λ (r : JournalHeader (List ℕ)). header_then r (known_fields_at fs)) (field_is_cut f.0 f.1 (spelled fs ++ more) k within)
    by (inr beyond) others =
        ap (λ (l : List ℕ). header_then (known_field_at f.0 f.1 l) (known_fields_at fs)) (take_beyond f.0 (spelled fs ++ more) k beyond)
        ∙ ap (λ (r : JournalHeader (List ℕ)). header_then r (known_fields_at fs)) (field_again f.0 f.1 (take (k - length f.0) (spelled fs ++ more)))
        ∙ others beyond

-- the version's byte stood there
abbrev behind_version : Version → JournalHeader (List ℕ) → JournalHeader (Version × List ℕ)
behind_version v owner = header_then owner (λ rest. Ok (Some (v, rest)))

owned_again : (v : Version) (site : ℕ) (script rest : List ℕ) → owned_at site script (version_byte v ∷ rest) ≡ behind_version v (known_fields_at (owner_fields site script) rest)
owned_again First site script rest = refl
owned_again Second site script rest = refl

owner_is : (site : ℕ) (script : List ℕ) → spelled (owner_fields site script) ≡ to_be_bytes w16 site ++ script_frame script
owner_is site script = ap (λ (l : List ℕ). to_be_bytes w16 site ++ (to_be_bytes w32 (length script) ++ l)) (append-nil script)

header_again : (v : Version) (site : ℕ) (script more : List ℕ) → header_at site script (header v site script ++ more) ≡ Ok (Some (v, more))
header_again v site script more =
    owned_again v site script ((to_be_bytes w16 site ++ script_frame script) ++ more)
    ∙ ap (λ (l : List ℕ). behind_version v (known_fields_at (owner_fields site script) (l ++ more))) (sym (owner_is site script))
    ∙ ap (behind_version v) (fields_again (owner_fields site script) more)

-- cut within its letters, right behind them, or behind the version
header_is_cut : (v : Version) (site : ℕ) (script more : List ℕ) (k : ℕ) → k < length (header v site script) → header_at site script (take k (header v site script ++ more)) ≡ Ok None
header_is_cut v site script more zero lt = refl
header_is_cut v site script more (suc zero) lt = refl
header_is_cut v site script more (suc (suc zero)) lt = refl
header_is_cut v site script more (suc (suc (suc zero))) lt = refl
header_is_cut v site script more (suc (suc (suc (suc zero)))) lt = refl
header_is_cut v site script more (suc (suc (suc (suc (suc k))))) lt =
    let same = owner_is site script in
    owned_again v site script (take k ((to_be_bytes w16 site ++ script_frame script) ++ more))
    ∙ ap (λ (l : List ℕ). behind_version v (known_fields_at (owner_fields site script) (take k (l ++ more)))) (sym same)
    ∙ ap (behind_version v) (fields_are_cut (owner_fields site script) more k (subst (λ (l : List ℕ). k < length l) (sym same) (omega (arith, lt))))

-- ---- frames

-- the fields of an entry
abbrev fields_of : Entry → Head
fields_of e = record { site = e.site; seq = e.seq; clock = e.clock; dialect = e.dialect; length = length e.text }

head_again : (v : Version) (e : Entry) → HasFrame v e → fields v (head_of v e) ≡ fields_of e
head_again v e fits =
    let s = from_be_bytes-to_be_bytes_2 e.site fits.site in
    let q = from_be_bytes-to_be_bytes_4 e.seq fits.seq in
    let c = from_be_bytes-to_be_bytes_8 e.clock fits.clock in
    let n = from_be_bytes-to_be_bytes_2 (length e.text) (omega (arith, fits.short)) in
    elim v as (λ (w : Version). HasDialect w e.dialect → fields w (head_of w e) ≡ fields_of e) [ First ↦ λ one. cc (s, q, c, one, n) | Second ↦ λ few. cc (s, q, c, n) ] fits.dialect

head_long : (v : Version) (e : Entry) → length (head_of v e) ≡ head_size v
head_long First e = refl
head_long Second e = refl

entry_is_cut : (v : Version) (e : Entry) (k : ℕ) → HasFrame v e → k < head_size v + length e.text → entry_at v (take k (head_of v e ++ e.text)) ≡ Err short
entry_is_cut v e k fits lt = by (cases_lt k (head_size v))
  where
    by : (k < head_size v) ⊎ (head_size v ≤ k) → entry_at v (take k (head_of v e ++ e.text)) ≡ Err short
    by (inl within) =
        entry_short v (take k (head_of v e ++ e.text)) (omega (arith, within, head_long v e, length-take-le k (head_of v e ++ e.text) (omega (arith, within, head_long v e, length-append (head_of v e) e.text))))
    by (inr beyond) =
        let part = take (k - head_size v) e.text in
        let len : length part ≡ k - head_size v = length-take-le (k - head_size v) e.text (omega (arith, lt)) in
        let split : take k (head_of v e ++ e.text) ≡ head_of v e ++ part =
        take_beyond (head_of v e) e.text k (omega (arith, beyond, head_long v e)) ∙ ap (λ (n : ℕ). head_of v e ++ take (k - n) e.text) (head_long v e) in
        ap (entry_at v) split ∙ entry_then v (head_of v e) part (head_long v e) ∙ ap (λ (h : Head). text_at h part) (head_again v e fits)
        ∙ text_short (fields_of e) part fits.short (omega (arith, lt, beyond, len))

frame_is_cut : (v : Version) (e : Entry) (k : ℕ) → HasFrame v e → k < length (entry_frame v e) → frame_at v (take k (entry_frame v e)) ≡ Err short
unfolding frame_at
frame_is_cut v e zero fits lt = refl
frame_is_cut v e (suc n) fits lt = ap some_entry (entry_is_cut v e n fits (omega (arith, lt, length-append (69 ∷ head_of v e) e.text, head_long v e)))

pub frames_first : (v : Version) (e : Entry) (es : List Entry) → entry_frames v (e ∷ es) ≡ entry_frame v e ++ entry_frames v es
frames_first v e es = flat_map-cons (entry_frame v) e es

pub nothing_left : (v : Version) (k : ℕ) → take k (entry_frames v []) ≡ []
nothing_left v zero = refl
nothing_left v (suc k) = refl

frames_are_cut : (v : Version) (n : ℕ) (es : List Entry) (k : ℕ) → length es ≤ n → AllByRecursion (HasFrame v) es → entries_at v n (take k (entry_frames v es)) ≡ (whole v es k, Err short)
unfolding entries_at frame_at
frames_are_cut v zero [] k few has = ap (entries_at v zero) (nothing_left v k)
frames_are_cut v (suc n) [] k few has = ap (entries_at v (suc n)) (nothing_left v k)
frames_are_cut v zero (e ∷ es) k few has = absurd (omega (arith, few))
frames_are_cut v (suc n) (e ∷ es) k few has =
    ap (λ (l : List ℕ). with_frame (entries_at v n) (frame_at v (take k l))) (frames_first v e es)
    ∙ by (cases_lt k (length (entry_frame v e))) (frames_are_cut v n es (k - length (entry_frame v e)) (omega (arith, few)) has.1)
  where
    by : (k < length (entry_frame v e)) ⊎ (length (entry_frame v e) ≤ k)
        → entries_at v n (take (k - length (entry_frame v e)) (entry_frames v es)) ≡ (whole v es (k - length (entry_frame v e)), Err short)
        → with_frame (entries_at v n) (frame_at v (take k (entry_frame v e ++ entry_frames v es))) ≡ (whole v (e ∷ es) k, Err short)
    by (inl within) others =
        ap (λ (l : List ℕ). with_frame (entries_at v n) (frame_at v l)) (take-append-le k (entry_frame v e) (entry_frames v es) (omega (arith, within)))
        ∙ ap (with_frame (entries_at v n)) (frame_is_cut v e k has.0 within)
        ∙ rw (lt-ltb k (length (entry_frame v e)) within) refl
    by (inr beyond) others =
        ap (λ (l : List ℕ). with_frame (entries_at v n) (frame_at v l)) (take_beyond (entry_frame v e) (entry_frames v es) k beyond)
        ∙ ap (with_frame (entries_at v n)) (frame_again v e (take (k - length (entry_frame v e)) (entry_frames v es)) has.0)
        ∙ ap (λ (r : Entries). (e ∷ r.0, r.1)) others
        ∙ rw (le-ltb k (length (entry_frame v e)) beyond) refl

all_whole : (v : Version) (es : List Entry) (k : ℕ) → length (entry_frames v es) ≤ k → whole v es k ≡ es
all_whole v [] k le = refl
all_whole v (e ∷ es) k le =
    let long : length (entry_frames v (e ∷ es)) ≡ length (entry_frame v e) + length (entry_frames v es) = ap length (frames_first v e es) ∙ length-append (entry_frame v e) (entry_frames v es) in
    let beyond : length (entry_frame v e) ≤ k = omega (arith, le, long) in
    rw (le-ltb k (length (entry_frame v e)) beyond) (ap (λ (l : List Entry). e ∷ l) (all_whole v es (k - length (entry_frame v e)) (omega (arith, le, long))))

-- ---- the journal

pub cut_is_read : CutJournalIsRead
cut_is_read v site script es k few has = by (cases_lt k (length (header v site script)))
  where
    by : (k < length (header v site script)) ⊎ (length (header v site script) ≤ k) → journal_at site script (take k (journal v site script es)) ≡ Ok (left_of v site script es k)
    by (inl within) = ap (behind_header site script) (header_is_cut v site script (entry_frames v es) k within) ∙ rw (lt-ltb k (length (header v site script)) within) refl
    by (inr beyond) =
        let rest = k - length (header v site script) in
        ap (λ (l : List ℕ). journal_at site script l) (take_beyond (header v site script) (entry_frames v es) k beyond)
        ∙ ap (behind_header site script) (header_again v site script (take rest (entry_frames v es)))
        ∙ ap (λ (r : Entries). with_whole site script v (until_end r)) (frames_are_cut v most_entries es rest few has)
        ∙ rw (le-ltb k (length (header v site script)) beyond) refl

pub is_read_again : JournalIsReadAgain
is_read_again v site script es few has =
    let all = entry_frames v es in
    ap (behind_header site script) (header_again v site script all) ∙ ap (λ (l : List ℕ). with_whole site script v (frames_at v l)) (sym (take_all (length all) all (omega arith)))
    ∙ ap (λ (r : Entries). with_whole site script v (until_end r)) (frames_are_cut v most_entries es (length all) few has)
    ∙ ap (λ (l : List Entry). Ok (l, length (journal v site script l), v)) (all_whole v es (length all) (omega arith))
