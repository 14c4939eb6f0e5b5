-- What was read whole is read so, whatever follows; and frames one after the other.
use Rattle.std.proofs.Common.{◌≡◌, ℕ, zero, suc, ◌+◌, ◌-◌, ◌<◌, ◌≤◌, Bool, true, false, cond, ltb, eqb, List, [], ◌∷◌, ◌++◌, length, take, drop, Option, Some, None, Result, Ok, Err, refl, sym, ap, ◌∙◌, append_assoc, append-nil, arith, length-append}
use Rattle.std.specs.Str.{is_utf8}
use Rattle.std.proofs.lemmas.Bool.{le-ltb, ltb-false}
use Rattle.std.proofs.Math.Seq.{drop-append-le}
use lib.Seq.{take-append-le}
use Rattle.td_stamps.specs.declared.entry.Entry.{Entry}
use Rattle.td_frames.specs.declared.fields.Head.{Head}
use Rattle.td_frames.specs.declared.error.FrameError.{FrameError}
use Rattle.td_frames.specs.declared.error.FrameError.TheVariants.{OutOfMemory, ReadFault, Cut, Magic, Version as OtherVersion, BadFrame}
use Rattle.td_frames.specs.declared.version.Version.{Version}
use Rattle.td_frames.specs.Reading.{ToldErr, ToldEntries, end_at, last_frame, Miss, short, magic, version, bad, fields, with_text, text_at, entry_at, frame_at, some_entry, Entries, entries_at, with_frame, head_size}

-- what was read before, and what is still read
abbrev pub with_front : List Entry → Entries → Entries
with_front front read = (front ++ read.0, read.1)

pub guard : {A : Type 0} (b : Bool) (d : Miss) (x : Result A Miss) (y : A) → cond b (Err d) x ≡ Ok y → (b ≡ false) × (x ≡ Ok y)
guard true d x y e = absurd cc
guard false d x y e = (refl, e)

pub guard_ok : {A : Type 0} (b : Bool) (d : Miss) (x y : A) → cond b (Ok x) (Err d) ≡ Ok y → (b ≡ true) × (x ≡ y)
guard_ok true d x y e = (refl, cc)
guard_ok false d x y e = absurd cc

-- what was read whole is read so, whatever follows
pub text_more : (h : Head) (bytes more : List ℕ) (x : Entry × List ℕ) → text_at h bytes ≡ Ok x → text_at h (bytes ++ more) ≡ Ok (x.0, x.1 ++ more)
unfolding text_at
text_more h bytes more x e =
    let a = guard (ltb 8192 h.length) bad _ x e in
    let b = guard (ltb (length bytes) h.length) short _ x a.1 in
    let d = guard_ok (is_utf8 (take h.length bytes)) bad (with_text h (take h.length bytes), drop h.length bytes) x b.1 in
    let long : h.length ≤ length bytes = ltb-false _ _ b.0 in
    let longer : ltb (length (bytes ++ more)) h.length ≡ false = le-ltb _ _ (omega (arith, length-append bytes more)) in
    rw (a.0, longer, take-append-le h.length bytes more long, drop-append-le h.length bytes more long, d.0) (ap (λ (y : Entry × List ℕ). Ok (y.0, y.1 ++ more)) d.1)

pub entry_more : (v : Version) (bytes more : List ℕ) (x : Entry × List ℕ) → entry_at v bytes ≡ Ok x → entry_at v (bytes ++ more) ≡ Ok (x.0, x.1 ++ more)
unfolding entry_at
entry_more v bytes more x e =
    let size = head_size v in
    let a = guard (ltb (length bytes) size) short _ x e in
    let long : size ≤ length bytes = ltb-false _ _ a.0 in
    let longer : ltb (length (bytes ++ more)) size ≡ false = le-ltb _ _ (omega (arith, length-append bytes more, long)) in
    rw (longer, take-append-le size bytes more long, drop-append-le size bytes more long) (text_more (fields v (take size bytes)) (drop size bytes) more x a.1)

some_more : (r s : Result (Entry × List ℕ) Miss) (more : List ℕ) (x : Option Entry × List ℕ) → ((y : Entry × List ℕ) → r ≡ Ok y → s ≡ Ok (y.0, y.1 ++ more)) → some_entry r ≡ Ok x → some_entry s ≡ Ok (x.0, x.1 ++ more)
some_more (Ok y) s more x h e = ap some_entry (h y refl) ∙ ap (λ (r : Result (Option Entry × List ℕ) Miss). elim r [ Ok z ↦ Ok (z.0, z.1 ++ more) | Err m ↦ Err m ]) e
some_more (Err m) s more x h e = absurd cc

frame_letter : (v : Version) (z t : Bool) (rest more : List ℕ) (x : Option Entry × List ℕ) → cond z (Ok (None, rest)) (cond t (some_entry (entry_at v rest)) (Err bad)) ≡ Ok x
    → cond z (Ok (None, rest ++ more)) (cond t (some_entry (entry_at v (rest ++ more))) (Err bad)) ≡ Ok (x.0, x.1 ++ more)
frame_letter v true t rest more x e = ap (λ (r : Result (Option Entry × List ℕ) Miss). elim r [ Ok z ↦ Ok (z.0, z.1 ++ more) | Err m ↦ Err m ]) e
frame_letter v false true rest more x e = some_more (entry_at v rest) (entry_at v (rest ++ more)) more x (entry_more v rest more) e
frame_letter v false false rest more x e = absurd cc

pub frame_more : (v : Version) (bytes more : List ℕ) (x : Option Entry × List ℕ) → frame_at v bytes ≡ Ok x → frame_at v (bytes ++ more) ≡ Ok (x.0, x.1 ++ more)
unfolding frame_at
frame_more v [] more x e = absurd cc
frame_more v (letter ∷ rest) more x e = frame_letter v (eqb letter 90) (eqb letter 69) rest more x e

-- ---- a loop over entries

-- an entry more was read
pub goes_on : (v : Version) (most i : ℕ) (front : List Entry) (done bytes : List ℕ) (e : Entry) → i < most → frame_at v bytes ≡ Ok (Some e, [])
    → ((more : List ℕ) → entries_at v most (done ++ more) ≡ with_front front (entries_at v (most - i) more))
    → (more : List ℕ) → entries_at v most ((done ++ bytes) ++ more) ≡ with_front (front ++ e ∷ []) (entries_at v (most - (i + 1)) more)
unfolding entries_at
goes_on v most i front done bytes e lt read so_far more =
    let k : most - i ≡ suc (most - (i + 1)) = omega arith in
    let one : entries_at v (most - i) (bytes ++ more) ≡ (e ∷ (entries_at v (most - (i + 1)) more).0, (entries_at v (most - (i + 1)) more).1) = rw (k, frame_more v bytes more (Some e, []) read) refl in
    ap (entries_at v most) (append_assoc done bytes more) ∙ so_far (bytes ++ more) ∙ ap (with_front front) one
    ∙ ap (λ (es : List Entry). (es, (entries_at v (most - (i + 1)) more).1)) (sym (append_assoc front (e ∷ []) (entries_at v (most - (i + 1)) more).0))

-- the last frame that was read, where others may follow
pub stops : (v : Version) (most i : ℕ) (front : List Entry) (done bytes : List ℕ) (ending : Result (List ℕ) Miss) → i < most → with_frame (entries_at v (most - (i + 1))) (frame_at v bytes) ≡ ([], ending)
    → ((more : List ℕ) → entries_at v most (done ++ more) ≡ with_front front (entries_at v (most - i) more))
    → entries_at v most (done ++ bytes) ≡ (front, ending)
unfolding entries_at
stops v most i front done bytes ending lt read so_far =
    let k : most - i ≡ suc (most - (i + 1)) = omega arith in
    let one : entries_at v (most - i) bytes ≡ ([], ending) = rw k read in
    so_far bytes ∙ ap (with_front front) one ∙ ap (λ (es : List Entry). (es, ending)) (append-nil front)

-- the frame after the last entry
pub closes : (v : Version) (most i : ℕ) (front : List Entry) (done bytes : List ℕ) (ending : Result (List ℕ) Miss) → most ≤ i → last_frame (end_at bytes) ≡ ([], ending)
    → ((more : List ℕ) → entries_at v most (done ++ more) ≡ with_front front (entries_at v (most - i) more))
    → entries_at v most (done ++ bytes) ≡ (front, ending)
unfolding entries_at
closes v most i front done bytes ending le read so_far =
    let k : most - i ≡ zero = omega arith in
    let one : entries_at v (most - i) bytes ≡ ([], ending) = rw k read in
    so_far bytes ∙ ap (with_front front) one ∙ ap (λ (es : List Entry). (es, ending)) (append-nil front)

-- what is told of a frame that ends the reading
pub told_entries : {A : Type 0} (e : FrameError) (es : List Entry) (frame-read : Result (A × List ℕ) Miss) (read : Entries) (left : Option (List ℕ)) (old new : ℕ)
    → ((m : Miss) → frame-read ≡ Err m → read ≡ (es, Err m)) → ToldErr e frame-read left old new → ToldEntries (Err e) es read left old new
told_entries OutOfMemory es frame-read read left old new h told = told
told_entries ReadFault es frame-read read left old new h told = (h short told.0, told.1)
told_entries Cut es frame-read read left old new h told = (h short told.0, told.1, told.2)
told_entries Magic es frame-read read left old new h told = (h magic told.0, told.1)
told_entries OtherVersion es frame-read read left old new h told = (h version told.0, told.1)
told_entries BadFrame es frame-read read left old new h told = (h bad told.0, told.1)
