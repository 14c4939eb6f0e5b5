-- What a keeper tells, put together from what its site and its journal tell.
use Rattle.std.proofs.Common.{◌≡◌, ◌<◌, ℕ, Bool, true, false, List, [], ◌∷◌, ◌++◌, length, None, Ok, Err, refl, sym, ap, subst, ◌∙◌, arith}
use Rattle.std.specs.Prelude.{◌^◌, IsUtf8}
use Rattle.std.specs.List.{AllByRecursion, list_all}
use Rattle.std.proofs.KnownBytes.{Appends-nil}
use Rattle.td_io.specs.Streams.{AppendsFront}
use Rattle.td_io.specs.Views.{Output}
use Rattle.td_stamps.specs.Entries.{in_range}
use Rattle.td_stamps.specs.Checks.{first_clash, fresh_of}
use Rattle.td_stamps.specs.Sets.{Holding}
use Rattle.td_stamps.specs.declared.entry.Entry.{Entry}
use Rattle.td_stamps.proofs.Fresh.{fresh_are_counted, fresh_are_of_batch}
use Rattle.td_frames.specs.Spelling.{HasFrame, entry_frames}
use Rattle.td_frames.specs.declared.version.Version.TheVariants.{Second}
use Rattle.td_replica.specs.Calls.{Issues, IssuesEntry, Takes, TakesBatch}
use Rattle.td_replica.specs.Seen.{Seen, holding, IsSound}
use Rattle.td_replica.specs.declared.calls.Issued.{Issued}
use Rattle.td_replica.specs.declared.calls.Taken.{Taken}
use Rattle.td_replica.specs.declared.refusal.IssueError.{IssueError}
use Rattle.td_replica.specs.declared.refusal.IssueError.TheVariants as issue_error
use Rattle.td_replica.specs.declared.refusal.TakeError.{TakeError}
use Rattle.td_replica.specs.declared.refusal.TakeError.TheVariants as take_error
use Rattle.td_journal.specs.Keeping.{Accepts, JournalsBatch, JournalsIssue, Starts}
use Rattle.td_journal.specs.Spelling.{journal}
use Rattle.td_journal.specs.Views.{kept}
use Rattle.td_journal.specs.Written.{HandsOn}
use Rattle.td_journal.proofs.Checked.{passes}
use Rattle.td_journal.proofs.Framed.{fresh_framed, next_framed}

pub sound_kept : (s : Seen) (is_open : Bool) → IsSound s → IsSound (kept is_open s)
sound_kept s is_open is =
    record { site = is.site; limit = is.limit; set = is.set; ranges = is.ranges; within = is.within; outcomes = is.outcomes; told = is.told }

-- ---- start

-- the journal of a site's number, script and entries is the site's
pub starts : (s : Seen) (site : ℕ) (script : List ℕ) (es : List Entry) (old new : Output) → site ≡ s.site → script ≡ s.script → es ≡ s.entries → s.live ≡ true
    → HandsOn old new (journal Second site script es) → AllByRecursion (HasFrame Second) es → Starts s old new
starts s site script es old new number text entries live wrote has =
    let all = λ (n : ℕ) (l : List ℕ) (xs : List Entry). HandsOn old new (journal Second n l xs) in (
      live,
      subst (λ (n : ℕ). all n s.script s.entries) number (subst (λ (l : List ℕ). all site l s.entries) text (subst (λ (xs : List Entry). all site script xs) entries wrote)),
      subst (AllByRecursion (HasFrame Second)) entries has,
    )

-- ---- issue

-- the journal failed behind an entry that the site has issued
pub issue_fails : (s after : Seen) (text : List ℕ) (i : Issued) → IssuesEntry s text i after → Issues (kept true s) text (Err issue_error.JournalWrite) (kept false after)
issue_fails s after text i h = (h.statement, h.entry, h.next, (h.live, ap (kept false) h.last))

nothing_written : (o : Output) (bytes : List ℕ) → AppendsFront o.held o.held bytes
nothing_written o bytes = ([], bytes, refl, Appends-nil o.held)

pub issue_refused : (s after : Seen) (text : List ℕ) (e : IssueError) (is_open : Bool) (o : Output) → s.site < 2 ^ 16 → IsUtf8 text → Issues s text (Err e) after
    → JournalsIssue (kept is_open s) (Err e) (kept is_open after) o o
issue_refused s after text issue_error.Broken is_open o fits utf8 h = refl
issue_refused s after text issue_error.Syntax is_open o fits utf8 h = refl
issue_refused s after text issue_error.IllTyped is_open o fits utf8 h = refl
issue_refused s after text issue_error.ClockEnd is_open o fits utf8 h = refl
issue_refused s after text issue_error.Full is_open o fits utf8 h = refl
issue_refused s after text issue_error.OutOfMemory is_open o fits utf8 h = refl
issue_refused s after text issue_error.JournalWrite is_open o fits utf8 (statement, e, next, closes) =
    (e, ap (λ (t : Seen). t.entries) closes.1, (nothing_written o (entry_frames Second (e ∷ [])), (next_framed s text e fits utf8 statement.read.reads.reads.short next, tt)))

-- the frame of what is then held last was written
pub issue_written : (s after : Seen) (text : List ℕ) (i : Issued) (is_open : Bool) (old new : Output) (last : List Entry) → IssuesEntry s text i after
    → ((e : Entry) → after.entries ≡ s.entries ++ e ∷ [] → last ≡ e ∷ []) → HandsOn old new (entry_frames Second last) → AllByRecursion (HasFrame Second) last
    → JournalsIssue (kept is_open s) (Ok i) (kept is_open after) old new
issue_written s after text i is_open old new last h found written has =
    let is : after.entries ≡ s.entries ++ h.entry ∷ [] = ap (λ (t : Seen). t.entries) h.last in
    let one = found h.entry is in
    (h.entry, is, (subst (λ (es : List Entry). HandsOn old new (entry_frames Second es)) one written, subst (AllByRecursion (HasFrame Second)) one has))

-- a front of that frame was
pub issue_leaves : (s after : Seen) (text : List ℕ) (i : Issued) (is_open : Bool) (old new : Output) (last : List Entry) → s.site < 2 ^ 16 → IsUtf8 text → IssuesEntry s text i after
    → ((e : Entry) → after.entries ≡ s.entries ++ e ∷ [] → last ≡ e ∷ []) → AppendsFront old.held new.held (entry_frames Second last)
    → JournalsIssue (kept is_open s) (Err issue_error.JournalWrite) (kept false after) old new
issue_leaves s after text i is_open old new last fits utf8 h found front =
    let is : after.entries ≡ s.entries ++ h.entry ∷ [] = ap (λ (t : Seen). t.entries) h.last in
    (h.entry, is, (subst (λ (es : List Entry). AppendsFront old.held new.held (entry_frames Second es)) (found h.entry is) front, (next_framed s text h.entry fits utf8 h.statement.read.reads.reads.short h.next, tt)))

-- ---- take

-- the fresh entries, which were looked for before the batch was judged
pub fresh_is : (s after : Seen) (batch : List Entry) (t : Taken) (h : Holding) (items : List Entry) → h ≡ holding s → TakesBatch s batch t after
    → (first_clash h.entries batch ≡ None → items ≡ fresh_of h.entries batch) → items ≡ fresh_of s.entries batch
fresh_is s after batch t h items is takes found =
    let p = passes s.entries s.limit batch t.fresh takes.fresh in
    let same : h.entries ≡ s.entries = ap (λ (x : Holding). x.entries) is in
    found (ap (λ (es : List Entry). first_clash es batch) same ∙ p.clear) ∙ ap (λ (es : List Entry). fresh_of es batch) same

pub fresh_in_range : (s after : Seen) (batch : List Entry) (t : Taken) (items : List Entry) → TakesBatch s batch t after → items ≡ fresh_of s.entries batch → list_all in_range items ≡ true
fresh_in_range s after batch t items takes is =
    ap (λ (es : List Entry). list_all in_range es) is ∙ fresh_are_of_batch s.entries batch in_range (passes s.entries s.limit batch t.fresh takes.fresh).ranges

pub some_accepted : (es : List Entry) (old new : Output) → (es ≡ [] → ⊥) → HandsOn old new (entry_frames Second es) → AllByRecursion (HasFrame Second) es → Accepts es old new
some_accepted [] old new some h has = absurd (some refl)
some_accepted (e ∷ es) old new some h has = (h, has)

pub take_refused : (s : Seen) (batch : List Entry) (e : TakeError) (is_open : Bool) (o : Output) → AllByRecursion (HasFrame Second) batch → JournalsBatch (kept is_open s) batch (Err e) o o
take_refused s batch take_error.Broken is_open o has = refl
take_refused s batch take_error.BadEntry is_open o has = refl
take_refused s batch (take_error.Clash site seq) is_open o has = refl
take_refused s batch take_error.Full is_open o has = refl
take_refused s batch take_error.OutOfMemory is_open o has = refl
take_refused s batch take_error.JournalWrite is_open o has = (nothing_written o (entry_frames Second (fresh_of s.entries batch)), fresh_framed s.entries batch has)

some_counted : (es : List Entry) → (es ≡ [] → ⊥) → 0 < length es
some_counted [] some = absurd (some refl)
some_counted (e ∷ es) some = omega arith

-- the journal failed behind fresh entries that the site has taken
pub take_fails : (s after : Seen) (batch : List Entry) (t : Taken) (items : List Entry) → TakesBatch s batch t after → items ≡ fresh_of s.entries batch → (items ≡ [] → ⊥)
    → Takes (kept true s) batch (Err take_error.JournalWrite) (kept false after)
take_fails s after batch t items takes is some =
    let p = passes s.entries s.limit batch t.fresh takes.fresh in
    let count : length items ≡ t.fresh = ap length is ∙ fresh_are_counted s.entries batch ∙ sym p.fresh in
    (t.fresh, takes.fresh, subst (λ (n : ℕ). 0 < n) count (some_counted items some), (takes.live, ap (kept false) takes.union))
