-- Frames that were written are read again.
use Rattle.std.proofs.Common.{◌≡◌, ◌≤◌, ℕ, zero, suc, List, [], ◌∷◌, ◌++◌, length, Some, Ok, refl, sym, ap, ◌∙◌, append_assoc, arith}
use Rattle.std.specs.List.{AllByRecursion}
use Rattle.std.proofs.lemmas.List.Concat.{flat_map-cons}
use Rattle.std.proofs.lemmas.Nat.{from_be_bytes-to_be_bytes_2, from_be_bytes-to_be_bytes_4, from_be_bytes-to_be_bytes_8}
use Rattle.td_stamps.specs.declared.entry.Entry.{Entry}
use Rattle.td_frames.specs.declared.fields.Head.{Head}
use Rattle.td_frames.specs.declared.version.Version.{Version}
use Rattle.td_frames.specs.declared.version.Version.TheVariants.{First, Second}
use Rattle.td_frames.specs.Spelling.{head_of, entry_frame, entry_frames, end_frame, stream, HasDialect, HasFrame}
use Rattle.td_frames.specs.Reading.{bad, head_size, fields, text_at, frame_at, some_entry, Entries, entries_at, last_frame, with_frame}
use Rattle.std.specs.Str.{bytes_eq}
use Rattle.td_frames.proofs.InTurn.{checked_passes}
use Rattle.td_frames.proofs.Steps.{text_whole, entry_then, letter_entry}

-- the fields of an entry
abbrev fields_of : Entry → Head
fields_of e = record { site = e.site; seq = e.seq; clock = e.clock; dialect = e.dialect; length = length e.text }

fields_again : (v : Version) (e : Entry) → HasFrame v e → fields v (head_of v e) ≡ fields_of e
fields_again v e fits =
    let s = from_be_bytes-to_be_bytes_2 e.site fits.site in
    let q = from_be_bytes-to_be_bytes_4 e.seq fits.seq in
    let c = from_be_bytes-to_be_bytes_8 e.clock fits.clock in
    let n = from_be_bytes-to_be_bytes_2 (length e.text) (omega (arith, fits.short)) in
    elim v as (λ (w : Version). HasDialect w e.dialect → fields w (head_of w e) ≡ fields_of e) [ First ↦ λ one. cc (s, q, c, one, n) | Second ↦ λ few. cc (s, q, c, n) ] fits.dialect

head_long : (v : Version) (e : Entry) → length (head_of v e) ≡ head_size v
head_long First e = refl
head_long Second e = refl

pub frame_again : (v : Version) (e : Entry) (more : List ℕ) → HasFrame v e → frame_at v (entry_frame v e ++ more) ≡ Ok (Some e, more)
frame_again v e more fits =
    let apart : (69 ∷ head_of v e) ++ (e.text ++ more) ≡ entry_frame v e ++ more = sym (append_assoc (69 ∷ head_of v e) e.text more) in
    ap (frame_at v) (sym apart) ∙ letter_entry v 69 (head_of v e ++ (e.text ++ more)) refl
    ∙ ap some_entry (entry_then v (head_of v e) (e.text ++ more) (head_long v e) ∙ ap (λ (g : Head). text_at g (e.text ++ more)) (fields_again v e fits)
    ∙ text_whole (fields_of e) e.text more fits.short refl fits.text)

frame_first : (v : Version) (e : Entry) (es : List Entry) (more : List ℕ) → stream v (e ∷ es) ++ more ≡ entry_frame v e ++ (stream v es ++ more)
frame_first v e es more =
    ap (λ (l : List ℕ). (l ++ end_frame) ++ more) (flat_map-cons (entry_frame v) e es) ∙ ap (λ (l : List ℕ). l ++ more) (append_assoc (entry_frame v e) (entry_frames v es) end_frame)
    ∙ append_assoc (entry_frame v e) (stream v es) more

pub stream_again : (v : Version) (most : ℕ) (es : List Entry) (more : List ℕ) → length es ≤ most → AllByRecursion (HasFrame v) es → entries_at v most (stream v es ++ more) ≡ (es, Ok more)
unfolding entries_at frame_at
stream_again v zero [] more le has = ap last_frame (checked_passes 1 (λ b. bytes_eq b (90 ∷ [])) (λ b. tt) bad (90 ∷ []) more refl refl)
stream_again v (suc n) [] more le has = refl
stream_again v zero (e ∷ es) more le has = absurd (omega (arith, le))
stream_again v (suc n) (e ∷ es) more le has =
    ap (entries_at v (suc n)) (frame_first v e es more) ∙ ap (with_frame (entries_at v n)) (frame_again v e (stream v es ++ more) has.0)
    ∙ ap (λ (r : Entries). (e ∷ r.0, r.1)) (stream_again v n es more (omega (arith, le)) has.1)
