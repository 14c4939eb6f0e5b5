-- One line, answered or not read.
use Rattle.std.proofs.Common.{◌≡◌, ◌≤◌, inl, inr, ℕ, ◌+◌, ◌-◌, ◌==◌, Bool, true, false, ◌&&◌, List, [], ◌∷◌, length, map, codes, Option, Result, Ok, Err, refl, sym, ◌∙◌, subst, arith, MatchBool}
use Rattle.std.specs.Io.KnownBytes.{Consumes, IsAtEnd}
use Rattle.std.proofs.KnownBytes.{Consumes-nil}
use Rattle.std.proofs.lemmas.Bool.{false≢true, true≢false}
use Rattle.td_io.specs.Lines.{raw_lines, is_one_line, IsWholeLine, TellsLine, byteless_reads, HasCause}
use Rattle.td_io.specs.declared.lines.LineError.{LineError}
use Rattle.td_io.specs.declared.lines.LineError.TheVariants as line_error
use Rattle.td_io.specs.declared.streams.Failed.{Failed}
use Rattle.td_commands.specs.Lines.{Line, is_quit}
use Rattle.td_io.specs.Views.{Input, Output}
use Rattle.td_workbench.specs.Streams.{AppendsText, ReadsBytes}
use Rattle.td_headings.specs.Catalogues.{CatalogueData}
use Rattle.td_answers.specs.Asking.{AreAsked}
use Rattle.td_answers.specs.Answers.{MayTakeEntries}
use Rattle.td_answers.specs.Replies.{Replies, words}
use Rattle.td_answers.specs.Sites.{EachStays, HappensToOne}
use Rattle.td_answers.specs.declared.reply.Reply.{Reply}
use Rattle.td_answers.specs.declared.reply.Reply.TheVariants as reply
use Rattle.td_workbench.specs.Runs.{AnswersLine, said, DoesNotQuit, LineStep, RunsOut, State, Workbench}
use Rattle.td_workbench.specs.ForProofs.Serving.{LineEnds, ReadEnds, ServesLines, WritesOn, ended_by}
use Rattle.td_workbench.specs.declared.run.Ended.TheVariants.{ReadFault, WriteFault}
use Rattle.td_workbench.proofs.Lines.{one_line, no_bytes}
use Rattle.td_workbench.proofs.Serving.{appends_nothing, printed_one, served_none}

-- a line that was answered, and the answer put out
answered_by :
    {S L : Type 0} (b : Workbench S L) (c : CatalogueData) (old new : State S L) (line : Line) (text : List ℕ) (r : Result Bool Failed) (w after : Output)
    → is_quit line ≡ false → AnswersLine b c old line text new → WritesOn text r w after → LineEnds (AnswersLine b c) old line r new w after
answered_by b c old new line text (Ok true) w after other told puts = absurd (true≢false puts.0)
answered_by b c old new line text (Ok false) w after other told puts = (text, other, told, puts.1)
answered_by b c old new line text (Err e) w after other told puts = (text, other, told, puts)

pub line_ends :
    {S L : Type 0} (b : Workbench S L) (c : CatalogueData) (old new : State S L) (line : Line) (answer : Reply) (text : List ℕ) (r : Result Bool Failed) (w after : Output)
    → (answer ≡ reply.Quit → ⊥) → words answer ≡ text → Replies c (map b.seen old.0) line answer (map b.seen new.0) → AreAsked b.serves b.calls (map b.seen old.0) line (words answer) old.1 new.1
    → (MayTakeEntries line → words answer ≡ codes "fault journal\n" → HappensToOne b.failed old.0 new.0) → EachStays b.journaled old.0 new.0 → WritesOn text r w after
    → LineEnds (AnswersLine b c) old line r new w after
line_ends b c old new line reply.Quit text r w after goes_on is told asked journal journaled puts = absurd (goes_on refl)
line_ends b c old new line (reply.Text t) text r w after goes_on is told asked journal journaled puts =
    subst (λ (x : List ℕ). WritesOn x r w after → LineEnds (AnswersLine b c) old line r new w after) is
    (answered_by b c old new line _ r w after told.0 (record { answered = told.1; asked = asked; journal = journal; journaled = journaled })) puts
line_ends b c old new line (reply.Table t) text r w after goes_on is told asked journal journaled puts =
    subst (λ (x : List ℕ). WritesOn x r w after → LineEnds (AnswersLine b c) old line r new w after) is
    (answered_by b c old new line _ r w after told.0 (record { answered = told.1; asked = asked; journal = journal; journaled = journaled })) puts
line_ends b c old new line (reply.Fixed t) text r w after goes_on is told asked journal journaled puts =
    subst (λ (x : List ℕ). WritesOn x r w after → LineEnds (AnswersLine b c) old line r new w after) is
    (answered_by b c old new line _ r w after told.0 (record { answered = told.1; asked = asked; journal = journal; journaled = journaled })) puts

-- `.quit` takes no entries, and leaves the sites
pub quit_ends :
    {S L : Type 0} (b : Workbench S L) (c : CatalogueData) (old new : State S L) (line : Line) (w : Output) → Replies c (map b.seen old.0) line reply.Quit (map b.seen new.0)
    → AreAsked b.serves b.calls (map b.seen old.0) line [] old.1 new.1 → EachStays b.journaled old.0 new.0 → LineEnds (AnswersLine b c) old line (Ok true) new w w
quit_ends b c old new line w told asked journaled =
    let asked_to_quit = subst (λ (l : Line). AreAsked b.serves b.calls (map b.seen old.0) l [] old.1 new.1) told.0 asked in
    (told.0, record { answered = (refl, told.1); asked = asked_to_quit; journal = λ takes. absurd takes; journaled = journaled }, refl)

-- what was read of a line
abbrev pub IsRead : Bool → List ℕ → Option (List ℕ) → Type 0
IsRead is_last raw left = MatchBool is_last ((is_one_line raw ≡ true) × IsAtEnd left) (IsWholeLine raw)

-- nothing was left of the input
pub nothing_read : {X : Type 0} (step : LineStep X) (old : X) (raw : List ℕ) (is_last : Bool) (left : Option (List ℕ)) (w : Output) → IsRead is_last raw left → (is_last && (length raw == 0)) ≡ true
    → ReadEnds step old raw is_last left (Ok true) old w w
nothing_read step old raw true left w read none =
    let over : RunsOut step old [] left [] old = record { at_end = read.1; go_on = tt; printed = (refl, refl) } in
    ([], inr (subst (λ (r : List ℕ). RunsOut step old (raw_lines r) left [] old) (sym (no_bytes raw none)) over), appends_nothing w)
nothing_read step old raw false left w read none = absurd (false≢true none)

pub quit_read : {X : Type 0} (step : LineStep X) (old : X) (raw : List ℕ) (is_last : Bool) (left : Option (List ℕ)) (new : X) (w after : Output) (line : Line) → IsRead is_last raw left → (is_last && (length raw == 0)) ≡ false → line ≡ said raw
    → LineEnds step old line (Ok true) new w after → ReadEnds step old raw is_last left (Ok true) new w after
quit_read step old raw is_last left new w after line read some says (quits, answered, unwritten) =
    let (lines, out) = one_line is_last raw left read some in (
      [],
      inl (record { before = []; last = raw; mid = old; lines = lines; read_out = out; quits = sym says ∙ quits; served = served_none step old; answered = answered }),
      subst (λ (v : Output). AppendsText [] w v) (sym unwritten) (appends_nothing w),
    )

pub last_read : {X : Type 0} (step : LineStep X) (old : X) (raw : List ℕ) (is_last : Bool) (left : Option (List ℕ)) (new : X) (w after : Output) (line : Line) → IsRead is_last raw left → (is_last && (length raw == 0)) ≡ false → line ≡ said raw
    → LineEnds step old line (Ok false) new w after → ReadEnds step old raw is_last left (Ok is_last) new w after
last_read step old raw true left new w after line read some says (text, on, answered, wrote) =
    let (lines, out) = one_line true raw left read some in
    let goes : DoesNotQuit raw = subst (λ (l : Line). is_quit l ≡ false) says on in
    let told : step old (said raw) text new = subst (λ (l : Line). step old l text new) says answered in
    let ended : RunsOut step old (raw ∷ []) left text new = record { at_end = read.1; go_on = (goes, tt); printed = printed_one step old raw text new told } in
    (text, inr (subst (λ (ls : List (List ℕ)). RunsOut step old ls left text new) (sym lines) ended), wrote)
last_read step old raw false left new w after line read some says (text, on, answered, wrote) =
    (text, refl, read, subst (λ (l : Line). is_quit l ≡ false) says on, subst (λ (l : Line). step old l text new) says answered, wrote)

pub failed_read : {X : Type 0} (step : LineStep X) (old : X) (raw : List ℕ) (is_last : Bool) (left : Option (List ℕ)) (new : X) (w after : Output) (line : Line) (e : Failed) → IsRead is_last raw left → (is_last && (length raw == 0)) ≡ false → line ≡ said raw
    → LineEnds step old line (Err e) new w after → ReadEnds step old raw is_last left (Err e) new w after
failed_read step old raw is_last left new w after line e read some says (text, on, answered, wrote) =
    let (lines, out) = one_line is_last raw left read some in (
      text,
      record {
        before = [];
        last = raw;
        mid = old;
        lines = lines;
        read_out = out;
        goes_on = subst (λ (l : Line). is_quit l ≡ false) says on;
        served = served_none step old;
        answered = subst (λ (l : Line). step old l text new) says answered;
      },
      wrote,
    )

-- ---- where no line was read

pub unread_serves : {X : Type 0} (step : LineStep X) (old : X) (most now then : ℕ) (from left : Input) (w : Output) (raw : List ℕ) (e : LineError)
    → Consumes from.left left.left raw → TellsLine most raw left.left (Err e) → now - then ≡ length raw + byteless_reads (Err e) → then ≤ now → HasCause then from.failures left.failures (Err e)
    → ServesLines step old now from w (Err (ended_by e)) old left w
unread_serves step old most now then from left w raw line_error.OutOfMemory took part count fewer cause =
    record { bytes = raw; ends = ([], ((took, cause), record { before = []; part = raw; lines = refl; is_part = part; served = served_none step old }), appends_nothing w) }
unread_serves step old most now then from left w raw line_error.ReadFault took part count fewer cause =
    record { bytes = raw; ends = ([], ((took, inl cause), record { before = []; part = raw; lines = refl; is_part = part; served = served_none step old }), appends_nothing w) }
unread_serves step old most now then from left w raw line_error.NoReadsLeft took part count fewer cause =
    record { bytes = raw; ends = ([], ((took, inr (cause.0, omega (arith, count, fewer, cause.1))), record { before = []; part = raw; lines = refl; is_part = part; served = served_none step old }), appends_nothing w) }

pub unbegun_serves : {X : Type 0} (step : LineStep X) (old : X) (now : ℕ) (from : Input) (w : Output) → now ≡ 0 → ServesLines step old now from w (Err ReadFault) old from w
unbegun_serves step old now from w none =
    record { bytes = []; ends = ([], ((Consumes-nil from.left, inr (refl, omega (arith, none))), record { before = []; part = []; lines = refl; is_part = refl; served = served_none step old }), appends_nothing w) }

-- ---- the line by which a run ends

pub over_serves : {X : Type 0} (step : LineStep X) (old : X) (now : ℕ) (is_last : Bool) (from left : Input) (w after : Output) (raw : List ℕ) (new : X)
    → ReadsBytes raw from left → ReadEnds step old raw is_last left.left (Ok true) new w after → ServesLines step old now from w (Ok tt) new left after
over_serves step old now is_last from left w after raw new took (text, why, wrote) = record { bytes = raw; ends = (text, (took, why), wrote) }

pub failed_serves : {X : Type 0} (step : LineStep X) (old : X) (now : ℕ) (is_last : Bool) (from left : Input) (w after : Output) (raw : List ℕ) (new : X) (e : Failed)
    → ReadsBytes raw from left → ReadEnds step old raw is_last left.left (Err e) new w after → ServesLines step old now from w (Err WriteFault) new left after
failed_serves step old now is_last from left w after raw new e took (answer, why, front) = record { bytes = raw; ends = inl (took, [], answer, w, why, appends_nothing w, front) }
