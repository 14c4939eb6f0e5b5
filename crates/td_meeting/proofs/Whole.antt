-- The steps, put together from what is heard, received and sent.
use Rattle.std.proofs.Common.{◌≡◌, ℕ, Bool, true, List, [], ◌++◌, inr, Option, Some, None, Result, Ok, Err, refl, sym, ap, subst, ◌∙◌, append-nil}
use Rattle.std.specs.Io.KnownBytes.{Keeps, Appends}
use Rattle.std.specs.Result.{OnOk}
use Rattle.std.proofs.KnownBytes.{Appends-kept, Consumes-kept, Keeps-trans}
use Rattle.td_io.specs.Counted.{counted}
use Rattle.td_io.specs.Streams.{AppendsFront, Writes}
use Rattle.td_stamps.specs.declared.entry.Entry.{Entry}
use Rattle.td_frames.specs.declared.greeting.Greeting.{Greeting}
use Rattle.td_replica.specs.Calls.{TakesBatch}
use Rattle.td_replica.specs.Seen.{Seen}
use Rattle.td_replica.specs.declared.calls.Taken.{Taken}
use Rattle.td_meeting.specs.declared.error.MeetingError.{MeetingError}
use Rattle.td_meeting.specs.declared.error.MeetingError.TheVariants.{Broken, OutOfMemory, Frame, OtherScript, SameSite, WriteFault, Take}
use Rattle.td_meeting.specs.Reading.{Hears, ReadsStream, Unreceived}
use Rattle.td_meeting.specs.Writing.{sends}
use Rattle.td_meeting.specs.Steps.{Answered, AreSent, Settled}
use Rattle.td_meeting.specs.ForProofs.Parts.{Replied}

abbrev pub Bytes : Type 0
Bytes = Option (List ℕ)

pub kept_appends : (a b c : Bytes) (bs : List ℕ) → Keeps a b → Appends b c bs → Appends a c bs
kept_appends None b c bs p q = tt
kept_appends (Some x) None c bs p q = absurd p
kept_appends (Some x) (Some y) None bs p q = absurd q
kept_appends (Some x) (Some y) (Some z) bs p q = q ∙ ap (λ (l : List ℕ). l ++ bs) p

kept_front : (a b c : Bytes) (bs : List ℕ) → Keeps a b → AppendsFront b c bs → AppendsFront a c bs
kept_front a b c bs p (front, rest, split, appended) = (front, rest, split, kept_appends a b c front p appended)

-- what was written, and then handed on
pub written_on : {E : Type 0} (a b c : Bytes) (r : Result (Unit {0}) E) (bs : List ℕ) → Appends a b bs → Keeps b c → Writes a c r bs
written_on a b c (Ok x) bs p q = Appends-kept a b c bs p q
written_on a b c (Err e) bs p q = (bs, [], sym (append-nil bs), Appends-kept a b c bs p q)

pub writes_kept : {E : Type 0} (a b c : Bytes) (r : Result (Unit {0}) E) (bs : List ℕ) → Writes a b r bs → Keeps b c → Writes a c r bs
writes_kept a b c (Ok x) bs p q = Appends-kept a b c bs p q
writes_kept a b c (Err e) bs (front, rest, split, appended) q = (front, rest, split, Appends-kept a b c front appended q)

hears_kept : (s : Seen) (a b c : Bytes) (g : Greeting) → Hears s a b g → Keeps b c → Hears s a c g
hears_kept s a b c g hears keeps = record {
  greeting = record { bytes = hears.greeting.bytes; consumed = Consumes-kept a b c hears.greeting.bytes hears.greeting.consumed keeps; reads = hears.greeting.reads };
  script = hears.script;
  other = hears.other;
}

stream_kept : (a b c : Bytes) (es : List Entry) → ReadsStream a b es → Keeps b c → ReadsStream a c es
stream_kept a b c es reads keeps = record { bytes = reads.bytes; consumed = Consumes-kept a b c reads.bytes reads.consumed keeps; reads = reads.reads }

-- ---- answer

pub answered : (s : Seen) (l0 l1 l2 h0 h1 h2 : Bytes) (f0 f1 f2 : ℕ) (p0 p2 : Bool) (g : Greeting) (r : Result (Unit {0}) MeetingError) → s.live ≡ true → Hears s l0 l1 g → f1 ≡ f0 → Keeps h0 h1
    → Replied s g.vector h1 h2 f1 f2 r → OnOk r (p2 ≡ true) → Keeps l1 l2
    → Answered s (record { left = l0; held = h0; failures = f0; is_flushed = p0 }) r (record { left = l2; held = h2; failures = f2; is_flushed = p2 })
answered s l0 l1 l2 h0 h1 h2 f0 f1 f2 p0 p2 g (Ok x) live hears count held replied flushed left = (
  g,
  record { live = live; heard = hears_kept s l0 l1 l2 g hears left; own = replied.0.0; greets = replied.0.1; written = kept_appends h0 h1 h2 (replied.0.0 ++ sends s g.vector) held replied.0.2 },
  replied.1,
  replied.2 ∙ count,
  flushed,
)
answered s l0 l1 l2 h0 h1 h2 f0 f1 f2 p0 p2 g (Err (WriteFault n)) live hears count held replied flushed left = (
  g,
  record { live = live; heard = hears_kept s l0 l1 l2 g hears left; own = replied.0.0; greets = replied.0.1; written = kept_front h0 h1 h2 (replied.0.0 ++ sends s g.vector) held replied.0.2 },
  replied.1 ∙ ap counted count,
  replied.2,
)
answered s l0 l1 l2 h0 h1 h2 f0 f1 f2 p0 p2 g (Err OutOfMemory) live hears count held replied flushed left = (live, Keeps-trans h0 h1 h2 held replied.0, (hears.greeting.bytes, Consumes-kept l0 l1 l2 hears.greeting.bytes hears.greeting.consumed left, replied.1 ∙ count))
answered s l0 l1 l2 h0 h1 h2 f0 f1 f2 p0 p2 g (Err Broken) live hears count held replied flushed left = absurd replied
answered s l0 l1 l2 h0 h1 h2 f0 f1 f2 p0 p2 g (Err (Frame e n)) live hears count held replied flushed left = absurd replied
answered s l0 l1 l2 h0 h1 h2 f0 f1 f2 p0 p2 g (Err OtherScript) live hears count held replied flushed left = absurd replied
answered s l0 l1 l2 h0 h1 h2 f0 f1 f2 p0 p2 g (Err SameSite) live hears count held replied flushed left = absurd replied
answered s l0 l1 l2 h0 h1 h2 f0 f1 f2 p0 p2 g (Err (Take e)) live hears count held replied flushed left = absurd replied

-- ---- settle

pub unsettled : (s : Seen) (l0 l1 l2 h0 h2 : Bytes) (f0 f1 f2 : ℕ) (p0 p2 : Bool) (g : Greeting) (e : MeetingError) (after : Seen) → s.live ≡ true → Hears s l0 l1 g → f1 ≡ f0 → Keeps h0 h2 → Unreceived s e l1 l2 f1 f2 after
    → Settled s (record { left = l0; held = h0; failures = f0; is_flushed = p0 }) (Err e) (record { left = l2; held = h2; failures = f2; is_flushed = p2 }) after
unsettled s l0 l1 l2 h0 h2 f0 f1 f2 p0 p2 g Broken after live hears count held u = absurd u
unsettled s l0 l1 l2 h0 h2 f0 f1 f2 p0 p2 g (WriteFault n) after live hears count held u = absurd u
unsettled s l0 l1 l2 h0 h2 f0 f1 f2 p0 p2 g OutOfMemory after live hears count held u = (live, held, inr (l1, g, hears, subst (λ n0. Unreceived s OutOfMemory l1 l2 n0 f2 after) count u))
unsettled s l0 l1 l2 h0 h2 f0 f1 f2 p0 p2 g (Frame e n) after live hears count held u = (live, held, inr (l1, g, hears, subst (λ n0. Unreceived s (Frame e n) l1 l2 n0 f2 after) count u))
unsettled s l0 l1 l2 h0 h2 f0 f1 f2 p0 p2 g OtherScript after live hears count held u = absurd u
unsettled s l0 l1 l2 h0 h2 f0 f1 f2 p0 p2 g SameSite after live hears count held u = absurd u
unsettled s l0 l1 l2 h0 h2 f0 f1 f2 p0 p2 g (Take e) after live hears count held u = (live, held, inr (l1, g, hears, subst (λ n0. Unreceived s (Take e) l1 l2 n0 f2 after) count u))

-- what was received
abbrev pub Received : Seen → Bytes → Bytes → ℕ → ℕ → Taken → Seen → Type 0
Received s left rest old new t after = (batch : List Entry) × ReadsStream left rest batch × TakesBatch s batch t after × (new ≡ old)

pub settled : (s : Seen) (l0 l1 l2 l3 h0 h2 h3 : Bytes) (f0 f1 f2 f3 : ℕ) (p0 p3 : Bool) (g : Greeting) (t : Taken) (after : Seen) → s.live ≡ true → Hears s l0 l1 g → f1 ≡ f0 → Received s l1 l2 f1 f2 t after → Keeps h0 h2
    → Appends h2 h3 (sends after g.vector) → AreSent after g.vector → f3 ≡ f2 → p3 ≡ true → Keeps l2 l3
    → Settled s (record { left = l0; held = h0; failures = f0; is_flushed = p0 }) (Ok t) (record { left = l3; held = h3; failures = f3; is_flushed = p3 }) after
settled s l0 l1 l2 l3 h0 h2 h3 f0 f1 f2 f3 p0 p3 g t after live hears count (batch, reads, takes, same) held written sent end flushed left = (
  g,
  record { live = live; between = l1; heard = hears; batch = batch; reads = stream_kept l1 l2 l3 batch reads left; takes = takes; written = kept_appends h0 h2 h3 (sends after g.vector) held written },
  sent,
  end ∙ same ∙ count,
  flushed,
)

pub settled_front : (s : Seen) (l0 l1 l2 l3 h0 h2 h3 : Bytes) (f0 f1 f2 f3 : ℕ) (p0 p3 : Bool) (g : Greeting) (t : Taken) (after : Seen) → s.live ≡ true → Hears s l0 l1 g → f1 ≡ f0 → Received s l1 l2 f1 f2 t after → Keeps h0 h2
    → AppendsFront h2 h3 (sends after g.vector) → f3 ≡ counted f2 → Keeps l2 l3
    → Settled s (record { left = l0; held = h0; failures = f0; is_flushed = p0 }) (Err (WriteFault t.fresh)) (record { left = l3; held = h3; failures = f3; is_flushed = p3 }) after
settled_front s l0 l1 l2 l3 h0 h2 h3 f0 f1 f2 f3 p0 p3 g t after live hears count (batch, reads, takes, same) held written end left = (
  g,
  t,
  record { live = live; between = l1; heard = hears; batch = batch; reads = stream_kept l1 l2 l3 batch reads left; takes = takes; written = kept_front h0 h2 h3 (sends after g.vector) held written },
  end ∙ ap counted (same ∙ count),
  refl,
)

-- ---- a link that is seen from both of its sides

pub keeps_as : (a b x y : Bytes) → a ≡ x → b ≡ y → Keeps a b → Keeps x y
keeps_as a b x y p q keeps = subst (Keeps x) q (subst (λ (o : Bytes). Keeps o b) p keeps)
