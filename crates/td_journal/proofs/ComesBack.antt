-- What reopening tells, put together from what its parts tell.
use Rattle.std.proofs.Common.{◌≡◌, ◌≤◌, ℕ, Option, None, true, true≢false, List, [], ◌++◌, length, is_ok, MatchResult, Some, Result, Ok, Err, refl, sym, ap, subst, ◌∙◌, arith}
use Rattle.std.proofs.lemmas.Bool.{le-leb}
use Rattle.std.specs.Io.KnownBytes.{Consumes, IsAtEnd}
use Rattle.std.proofs.KnownBytes.{Consumes-trans}
use Rattle.td_io.specs.Counted.{counted}
use Rattle.td_io.specs.Views.{Input}
use Rattle.td_stamps.specs.Checks.{check_of}
use Rattle.td_stamps.specs.Sets.{union}
use Rattle.td_stamps.specs.declared.entry.Entry.{Entry}
use Rattle.td_frames.specs.declared.version.Version.{Version}
use Rattle.td_frames.specs.declared.version.Version.TheVariants.{Second}
use Rattle.td_replica.specs.Calls.{Takes, TakesBatch}
use Rattle.td_replica.specs.declared.calls.Taken.{Taken}
use Rattle.td_replica.specs.NewSites.{OpensSite}
use Rattle.td_replica.specs.Seen.{Seen, with_entries}
use Rattle.td_replica.specs.declared.refusal.TakeError.{TakeError}
use Rattle.td_replica.specs.declared.refusal.TakeError.TheVariants as take_error
use Rattle.td_journal.specs.Reading.{behind_header, frames_at, header_at, with_whole}
use Rattle.td_journal.specs.Spelling.{journal}
use Rattle.td_journal.specs.Reopening.{IsNew, IsOpened, ReadsOn, RefusesAll, ReopensNot, ReopensSite, Retakes, RetakesNot}
use Rattle.td_journal.specs.ForProofs.{HeaderRead}
use Rattle.td_journal.specs.ForProofs.Refilled.{Refills, RefillsNot, untaken, unread}
use Rattle.td_journal.specs.declared.reading.Unread.{Unread}
use Rattle.td_journal.specs.declared.reading.Unread.TheVariants as unread_by
use Rattle.td_journal.specs.declared.reopening.ReopenError.{ReopenError}
use Rattle.td_journal.specs.declared.reopening.ReopenError.TheVariants.{Open, OutOfMemory, ReadFault, Refused, Take}

pub short_script : (script : List ℕ) (site limit : ℕ) (s : Seen) → OpensSite script site limit (Ok s) → length script ≤ 65536
short_script script site limit s (fit, d, opens, is) = opens.script.reads.short

pub is_opened : (script : List ℕ) (site limit : ℕ) (s : Seen) → OpensSite script site limit (Ok s) → IsOpened script site limit
is_opened script site limit s (fit, d, opens, is) = (fit, d, opens, refl)

-- ---- a site that was opened

pub is_new : (script : List ℕ) (site limit : ℕ) (s : Seen) → OpensSite script site limit (Ok s) → IsNew s
is_new script site limit s (fit, d, opens, is) = subst IsNew (sym is) (fit, d, opens, refl)

pub new_script : (s : Seen) → IsNew s → length s.script ≤ 65536
new_script s new = short_script s.script s.site s.limit s new

pub new_holds_nothing : (s : Seen) → IsNew s → s.entries ≡ []
new_holds_nothing s new = ap (λ (t : Seen). t.entries) new.3

pub reopened_as : {K : Type 0} (seen : K → Seen) (whole : K → ℕ) (version : K → Version) (script : List ℕ) (site limit : ℕ) (old new : Input) (s : Seen) (r : Result K ReopenError)
    → OpensSite script site limit (Ok s)
    → MatchResult r (λ k. Retakes s old new (seen k) (whole k) (version k)) (λ e. RetakesNot s old new e)
    → MatchResult r (λ k. ReopensSite script site limit old new (seen k) (whole k) (version k)) (λ e. ReopensNot script site limit old new e)
reopened_as seen whole version script site limit old new s r opens taken =
    subst (λ (t : Seen). MatchResult r (λ k. Retakes t old new (seen k) (whole k) (version k)) (λ e. RetakesNot t old new e)) opens.3 taken

-- taking the entries leaves the script
pub taken_script : (s after : Seen) (es : List Entry) (t : Taken) → TakesBatch s es t after → after.script ≡ s.script
taken_script s after es t takes = ap (λ (x : Seen). x.script) takes.union

-- ---- the frames

-- what was read before, and what was read then
reads_on : (old mid new : Input) (b c : List ℕ) → ReadsOn old mid b → ReadsOn mid new c → ReadsOn old new (b ++ c)
reads_on old mid new b c first rest = (Consumes-trans _ _ _ _ _ first.0 rest.0, rest.1 ∙ first.1)

pub refilled : (v : Version) (script : List ℕ) (site limit : ℕ) (old mid new : Input) (s after : Seen) (whole : ℕ) (b : List ℕ) → OpensSite script site limit (Ok s) → ReadsOn old mid b
    → ((more : List ℕ) → header_at site script (b ++ more) ≡ Ok (Some (v, more))) → Refills v s mid new after whole → ReopensSite script site limit old new after whole v
refilled v script site limit old mid new s after whole b opens reads header r =
    let is = opens.3 in
    let es = r.entries in
    let size : length (journal v site script es) ≡ whole = sym (r.whole_is ∙ ap (λ (t : Seen). length (journal v t.site t.script es)) is) in
    let check : check_of [] limit es ≡ Ok r.taken.fresh = sym (ap (λ (t : Seen). check_of t.entries t.limit es) is) ∙ r.takes.fresh in
    record {
      opens = is_opened script site limit s opens;
      bytes = b ++ r.bytes;
      reads = reads_on old mid new b r.bytes reads r.reads;
      all = r.all;
      entries = es;
      says = ap (behind_header site script) (header r.bytes) ∙ ap (with_whole site script v) r.says ∙ ap (λ (n : ℕ). Ok (es, n, v)) size;
      fits = ap is_ok check;
      holds = r.takes.union ∙ ap (λ (t : Seen). with_entries t (union t.entries es)) is;
    }

pub not_refilled : (v : Version) (script : List ℕ) (site limit : ℕ) (old mid new : Input) (s : Seen) (e : ReopenError) (b : List ℕ) → OpensSite script site limit (Ok s) → ReadsOn old mid b
    → ((more : List ℕ) → header_at site script (b ++ more) ≡ Ok (Some (v, more))) → RefillsNot v s mid new e → ReopensNot script site limit old new e
not_refilled v script site limit old mid new s (Open e) b opens reads header r = absurd r
not_refilled v script site limit old mid new s OutOfMemory b opens reads header (bytes, more) =
    (is_opened script site limit s opens, b ++ bytes, v, bytes, reads_on old mid new b bytes reads more, header bytes)
not_refilled v script site limit old mid new s ReadFault b opens reads header (bytes, consumed, count) =
    (is_opened script site limit s opens, b ++ bytes, Consumes-trans _ _ _ _ _ reads.0 consumed, count ∙ ap counted reads.1)
not_refilled v script site limit old mid new s (Refused e) b opens reads header (bytes, more, says) =
    (is_opened script site limit s opens, b ++ bytes, reads_on old mid new b bytes reads more, ap (behind_header site script) (header bytes) ∙ ap (with_whole site script v) says)
not_refilled v script site limit old mid new s (Take e) b opens reads header r =
    let es = r.entries in (
      is_opened script site limit s opens,
      record {
        bytes = b ++ r.bytes;
        reads = reads_on old mid new b r.bytes reads r.reads;
        all = r.all;
        entries = es;
        whole = length (journal v site script es);
        version = v;
        says = ap (behind_header site script) (header r.bytes) ∙ ap (with_whole site script v) r.says;
        refuses = subst (λ (t : Seen). RefusesAll t es e) opens.3 r.refuses;
      },
    )

-- why a new site doesn't take what was read
pub not_taken : (v : Version) (s after : Seen) (old new : Input) (bytes : List ℕ) (es : List Entry) (e : TakeError) → s.live ≡ true → after.live ≡ true → ReadsOn old new bytes → IsAtEnd new.left
    → frames_at v bytes ≡ Ok es → Takes s es (Err e) after → RefillsNot v s old new (untaken e)
not_taken v s after old new bytes es take_error.OutOfMemory live open' reads all says takes = (bytes, reads)
not_taken v s after old new bytes es take_error.Broken live open' reads all says takes = absurd (true≢false (sym live ∙ takes.0))
not_taken v s after old new bytes es take_error.JournalWrite live open' reads all says (n, check, fresh, closed) = absurd (true≢false (sym open' ∙ ap (λ (t : Seen). t.live) closed.1))
not_taken v s after old new bytes es take_error.BadEntry live open' reads all says takes =
    record { bytes = bytes; reads = reads; all = all; entries = es; says = says; refuses = ((live, refl), takes.1) }
not_taken v s after old new bytes es (take_error.Clash site seq) live open' reads all says takes =
    record { bytes = bytes; reads = reads; all = all; entries = es; says = says; refuses = ((live, refl), takes.1) }
not_taken v s after old new bytes es take_error.Full live open' reads all says takes =
    record { bytes = bytes; reads = reads; all = all; entries = es; says = says; refuses = ((live, refl), takes.1) }

-- ---- the header

nothing_fits : (limit : ℕ) → check_of [] limit [] ≡ Ok 0
nothing_fits limit = rw (le-leb 0 limit (omega arith)) refl

-- what was told of a site's own header
pub header_as : (site : ℕ) (script : List ℕ) (s : Seen) (b : List ℕ) (r r' : Result (Option Version) Unread) (left : Option (List ℕ)) (old new : ℕ) → site ≡ s.site → script ≡ s.script → r ≡ r'
    → HeaderRead (header_at site script) b r left old new → HeaderRead (header_at s.site s.script) b r' left old new
header_as site script s b r r' left old new one two is told =
    subst (λ (t : List ℕ). HeaderRead (header_at s.site t) b r' left old new) two (subst (λ (n : ℕ). HeaderRead (header_at n script) b r' left old new) one (subst (λ (x : Result (Option Version) Unread). HeaderRead (header_at site script) b x left old new) is told))

pub cut_header : (script : List ℕ) (site limit : ℕ) (old new : Input) (s : Seen) (b : List ℕ) → OpensSite script site limit (Ok s) → Consumes old.left new.left b
    → HeaderRead (header_at site script) b (Ok None) new.left old.failures new.failures → ReopensSite script site limit old new s 0 Second
cut_header script site limit old new s b opens consumed h = record {
  opens = is_opened script site limit s opens;
  bytes = b;
  reads = (consumed, h.2);
  all = h.1;
  entries = [];
  says = ap (behind_header site script) h.0;
  fits = ap is_ok (nothing_fits limit);
  holds = opens.3;
}

pub refused_header : (script : List ℕ) (site limit : ℕ) (old new : Input) (s : Seen) (e : Unread) (b : List ℕ) → OpensSite script site limit (Ok s) → Consumes old.left new.left b
    → HeaderRead (header_at site script) b (Err e) new.left old.failures new.failures → ReopensNot script site limit old new (unread e)
refused_header script site limit old new s unread_by.ReadFault b opens consumed h = (is_opened script site limit s opens, b, consumed, h)
refused_header script site limit old new s unread_by.OutOfMemory b opens consumed h = absurd h
refused_header script site limit old new s (unread_by.Refused e) b opens consumed h = (is_opened script site limit s opens, b, (consumed, h.1), ap (behind_header site script) h.0)

-- ---- both

pub comes_back : {K : Type 0} (seen : K → Seen) (whole : K → ℕ) (version : K → Version) (v : Version) (script : List ℕ) (site limit : ℕ) (old mid new : Input) (s : Seen) (b : List ℕ)
    (r : Result K ReopenError)
    → OpensSite script site limit (Ok s) → ReadsOn old mid b → ((more : List ℕ) → header_at site script (b ++ more) ≡ Ok (Some (v, more)))
    → MatchResult r (λ k. Refills v s mid new (seen k) (whole k) × (version k ≡ v)) (λ e. RefillsNot v s mid new e)
    → MatchResult r (λ k. ReopensSite script site limit old new (seen k) (whole k) (version k)) (λ e. ReopensNot script site limit old new e)
comes_back seen whole version v script site limit old mid new s b (Ok k) opens reads header r =
    subst (λ (w : Version). ReopensSite script site limit old new (seen k) (whole k) w) (sym r.1) (refilled v script site limit old mid new s (seen k) (whole k) b opens reads header r.0)
comes_back seen whole version v script site limit old mid new s b (Err e) opens reads header r = not_refilled v script site limit old mid new s e b opens reads header r
