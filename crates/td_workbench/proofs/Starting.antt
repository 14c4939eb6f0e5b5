-- The sites of a script, and the program behind it.
use Rattle.std.proofs.Common.{◌≡◌, ◌⊎◌, ◌≤◌, inl, inr, ℕ, zero, suc, ◌+◌, ◌-◌, Bool, true, false, List, [], ◌∷◌, ◌++◌, length, Option, Result, Ok, Err, refl, sym, ap, ◌∙◌, subst, append-nil, arith, length-append, map, IfOk, MatchResult, String, string_bytes}
use Rattle.std.proofs.lemmas.Bool.{false≢true, true≢false, false_from_ne_true, le-leb}
use Rattle.std.proofs.lemmas.Str.{IsUtf8-from_is_utf8, is_utf8-from_IsUtf8}
use Rattle.std.specs.List.{AllByRecursion}
use Rattle.std.specs.Str.{is_utf8, IsUtf8}
use Rattle.std.specs.Global.{Global}
use Rattle.std.specs.declared.alloc.AllocError.{AllocError}
use Rattle.td_io.specs.Lines.{raw_lines}
use Rattle.td_io.specs.Views.{Input, Output}
use Rattle.td_headings.specs.Catalogues.{CatalogueData}
use Rattle.td_listings.specs.Writings.{WritesFront}
use Rattle.td_semantics.specs.Scripts.{Opens}
use Rattle.td_semantics.specs.declared.error.ScriptError.{ScriptError}
use Rattle.td_semantics.specs.declared.error.ScriptError.TheVariants.{Syntax, IllTyped, OpeningRaised, OpeningBroken, OutOfMemory}
use Rattle.td_replica.specs.NewSites.{newly_opened}
use Rattle.td_semantics.specs.Databases.{DatabaseData}
use Rattle.td_replica.specs.Seen.{Seen, is_limit}
use Rattle.td_journal.specs.Reopening.{IsNew}
use Rattle.td_answers.specs.Sites.{Sites, AreOfScript}
use Rattle.td_workbench.specs.Streams.{ReadsBytes, reads_left, most_reads, WritesText}
use Rattle.td_workbench.specs.Runs.{AnswersLine, Ends, LineStep, RunsOut, State, Workbench}
use Rattle.td_workbench.specs.Scripts.{IsAccepted, IsRefusedScript, Says, TellsFault, new_sites, ready, script_fault}
use Rattle.td_workbench.specs.Programs.{EndsBy, InRange, ProgramRuns, ProgramStops}
use Rattle.td_workbench.specs.ForProofs.Opening.{AreThen, BehindEnds, OpensAll, MayTell, PutsFault, ReadyBehind, ReadyEnds, TellsMade, TellsRefusal}
use Rattle.td_workbench.specs.ForProofs.Reading.{HasScript}
use Rattle.td_workbench.specs.ForProofs.Serving.{Serves}
use Rattle.td_workbench.specs.declared.opening.Options.{Options}
use Rattle.td_workbench.specs.declared.run.Ended.{Ended}
use Rattle.td_workbench.specs.declared.run.Ended.TheVariants as ended
use Rattle.td_workbench.proofs.Serving.{ends_later, writes_nothing}

pub new_sites_more : (script : List ℕ) (limit first n : ℕ) → new_sites script limit first n ++ newly_opened script (first + n) limit ∷ [] ≡ new_sites script limit first (n + 1)
new_sites_more script limit first zero = let e : first + 0 ≡ first = omega arith in ap (λ (k : ℕ). newly_opened script k limit ∷ []) e
new_sites_more script limit first (suc n) =
    let here : first + suc n ≡ suc first + n = omega arith in
    let count : suc n + 1 ≡ suc (n + 1) = omega arith in
    ap (λ (k : ℕ). newly_opened script first limit ∷ (new_sites script limit (suc first) n ++ newly_opened script k limit ∷ [])) here
    ∙ ap (λ (ss : Sites). newly_opened script first limit ∷ ss) (new_sites_more script limit (suc first) n)
    ∙ ap (λ (k : ℕ). new_sites script limit first k) (sym count)

-- they are of one script
pub one_script : (script : List ℕ) (limit first n : ℕ) → AllByRecursion (λ s. s.script ≡ script) (new_sites script limit first n)
one_script script limit first zero = tt
one_script script limit first (suc n) = (refl, one_script script limit (suc first) n)

-- the sites of a script are new
pub all_new : (script : List ℕ) (limit first n : ℕ) → 1 ≤ first → is_limit limit ≡ true → (d : DatabaseData) → Opens script (Ok d) → AllByRecursion IsNew (new_sites script limit first n)
all_new script limit first zero some fits d opens = tt
all_new script limit first (suc n) some fits d opens =
    let more : 1 ≤ suc first = omega arith in
    ((((λ (none : first ≡ 0). omega (arith, some, none)), fits), d, opens, refl), all_new script limit (suc first) n more fits d opens)

-- and open
pub all_open : {R : Type 0} (seen : R → Seen) → ((s : R) → (seen s).live ≡ true) → (rs : List R) → AllByRecursion (λ s. s.live ≡ true) (map seen rs)
all_open seen stays [] = tt
all_open seen stays (s ∷ rs) = (stays s, all_open seen stays rs)

-- the lines behind the script were run
pub behind_ran :
    {X : Type 0} (step : LineStep X) (End : X → Type 0) (is_last : Bool) (old begun new : X) (reads : ℕ) (from left : Input) (w after : Output) (r : Result (Unit {0}) Ended)
    → is_last ≡ false → begun ≡ old → End new → Serves step begun reads from w r new left after → BehindEnds step End is_last old reads from w r left after
behind_ran step End true old begun new reads from left w after r other same end serves = absurd (true≢false other)
behind_ran step End false old begun new reads from left w after r other same end serves = (new, end, subst (λ x. Serves step x reads from w r new left after) same serves)

pub limits : (options : Options) → InRange options → is_limit options.limit ≡ true
limits options range = rw (le-leb 1 options.limit range.some_limit) (rw (le-leb options.limit 100000 range.low_limit) refl)

-- ---- a script that is judged

refused_by : (script : List ℕ) (e : ScriptError) → is_utf8 script ≡ true → length script ≤ 65536 → Opens script (Err e) → IsRefusedScript script e
refused_by script Syntax text short opens = inr opens
refused_by script IllTyped text short opens = (text, opens)
refused_by script (OpeningRaised x) text short opens = (text, opens)
refused_by script (OpeningBroken b) text short opens = (text, opens)
refused_by script OutOfMemory text short opens = (text, short)

module _ {O : Type 0} (sites : O → Sites) (catalogue : O → CatalogueData) (told : O → List ℕ) (options : Options) where
  pub judged : (script text : List ℕ) (r : Result O ScriptError) → script ≡ text → IsUtf8 script → length text ≤ 65536
      → MatchResult r (λ o. OpensAll options script (sites o) × AreOfScript (catalogue o) (sites o) × (told o ≡ ready options.sites)) (λ e. Opens script (Err e))
      → MatchResult r (λ o. IsAccepted options text (sites o) × AreOfScript (catalogue o) (sites o) × (told o ≡ ready options.sites)) (λ e. IsRefusedScript text e)
  judged script text (Ok o) same utf8 short ((d, opens, are), of, tells) =
      let text_is : is_utf8 script ≡ true = is_utf8-from_IsUtf8 script utf8 in
      let accepted : IsAccepted options script (sites o) = record { text = text_is; database = d; opens = opens; sites_are = are } in
      (subst (λ (t : List ℕ). IsAccepted options t (sites o)) same accepted, of, tells)
  judged script text (Err e) same utf8 short opens =
      subst (λ (t : List ℕ). IsRefusedScript t e) same (refused_by script e (is_utf8-from_IsUtf8 script utf8) (subst (λ (t : List ℕ). length t ≤ 65536) (sym same) short) opens)

  pub new_of : (script : List ℕ) (r : Result O ScriptError) → 1 ≤ options.first → is_limit options.limit ≡ true
      → MatchResult r (λ o. OpensAll options script (sites o) × AreOfScript (catalogue o) (sites o) × (told o ≡ ready options.sites)) (λ e. Opens script (Err e))
      → IfOk r (λ o. AllByRecursion IsNew (sites o))
  new_of script (Ok o) some fits ((d, opens, are), of, tells) = subst (λ (ss : Sites). AllByRecursion IsNew ss) (sym are) (all_new script options.limit options.first options.sites some fits d opens)
  new_of script (Err e) some fits opens = tt

  pub opened_of : (script : List ℕ) (r : Result O ScriptError)
      → MatchResult r (λ o. OpensAll options script (sites o) × AreOfScript (catalogue o) (sites o) × (told o ≡ ready options.sites)) (λ e. Opens script (Err e))
      → IfOk r (λ o. AreOfScript (catalogue o) (sites o))
  opened_of script (Ok o) (opens, of, tells) = of
  opened_of script (Err e) opens = tt

pub no_text : (bytes text : List ℕ) → bytes ≡ text → (IsUtf8 bytes → ⊥) → is_utf8 text ≡ false
no_text bytes text same other = subst (λ (t : List ℕ). is_utf8 t ≡ false) same (false_from_ne_true (is_utf8 bytes) (λ good. other (IsUtf8-from_is_utf8 bytes good)))

-- ---- what is told of a script

-- the text was made, or there was no memory for it
pub told_made : (e : ScriptError) (t : Result (String Global) AllocError) (r : Result Bool Ended) (w after : Output) → IfOk t (λ text. string_bytes text ≡ script_fault e) → TellsMade t r w after
    → (told : ScriptError) × ((told ≡ e) ⊎ (told ≡ OutOfMemory)) × PutsFault (script_fault told) r w after
told_made e (Ok text) r w after is puts = (e, inl refl, subst (λ (t : List ℕ). PutsFault t r w after) is puts)
told_made e (Err x) r w after is puts = (OutOfMemory, inr refl, puts)

module _ {S L : Type 0} (b : Workbench S L) (Begin : Sites → List S → Type 0) (End : List S → Type 0) (options : Options) (links : L) where
  pub fault_told :
      (bytes text : List ℕ) (from left : Input) (w after : Output) (r : Result Bool Ended) → ReadsBytes bytes from left → TellsFault bytes left.left text → PutsFault text r w after
      → EndsBy b Begin End options links from w r links left after
  fault_told bytes text from left w after (Ok true) read tells puts = absurd puts
  fault_told bytes text from left w after (Ok false) read tells puts = (bytes, read, text, tells, puts, refl)
  fault_told bytes text from left w after (Err ended.WriteFault) read tells puts = inr ((bytes, read, text, inl tells, puts), refl)
  fault_told bytes text from left w after (Err ended.ReadFault) read tells puts = absurd puts
  fault_told bytes text from left w after (Err ended.OutOfMemory) read tells puts = absurd puts

-- a refusal for which there may be no memory is one of a text that is short
may_refuse : (script : List ℕ) (e told : ScriptError) → IsRefusedScript script e → MayTell e told → IsRefusedScript script told
may_refuse script Syntax told is tells = subst (λ (x : ScriptError). IsRefusedScript script x) (sym tells) is
may_refuse script IllTyped told is tells = subst (λ (x : ScriptError). IsRefusedScript script x) (sym tells) is
may_refuse script OutOfMemory told is tells = subst (λ (x : ScriptError). IsRefusedScript script x) (sym tells) is
may_refuse script (OpeningRaised x) told is (inl tells) = subst (λ (x : ScriptError). IsRefusedScript script x) (sym tells) is
may_refuse script (OpeningRaised x) told (utf8, (c, of, raises)) (inr tells) = subst (λ (x : ScriptError). IsRefusedScript script x) (sym tells) (utf8, of.reads.short)
may_refuse script (OpeningBroken b) told is (inl tells) = subst (λ (x : ScriptError). IsRefusedScript script x) (sym tells) is
may_refuse script (OpeningBroken b) told (utf8, (d, t, o, opens, is)) (inr tells) = subst (λ (x : ScriptError). IsRefusedScript script x) (sym tells) (utf8, opens.script.reads.short)

module _ (now : ℕ) (from mid : Input) (kept : Option (List ℕ)) (is_last : Bool) (has : HasScript most_reads now from mid kept is_last) where
  -- nothing behind the script was read
  pub says_alone : Says has.bytes has.text []
  says_alone = subst (λ (bs : List ℕ). Says bs has.text []) (append-nil has.bytes) (has.leads [] (λ last. refl))

  module _ {S L : Type 0} (b : Workbench S L) (Begin : Sites → List S → Type 0) (End : List S → Type 0) (options : Options) (links : L) where
    pub refused_told : (e : ScriptError) (r : Result Bool Ended) (w after : Output) → IsRefusedScript has.text e → TellsRefusal e r w after → EndsBy b Begin End options links from w r links mid after
    refused_told e r w after is (told, may, puts) =
        fault_told b Begin End options links has.bytes (script_fault told) from mid w after r has.read (inr (inl (has.text, told, says_alone, may_refuse has.text e told is may, refl))) puts

  ready_untold :
      (options : Options) (sites : Sites) (text : List ℕ) (left : Input) (w after : Output) (e : Ended) → IsAccepted options has.text sites → text ≡ ready options.sites → e ≡ ended.WriteFault → left ≡ mid
      → WritesFront text w after → ProgramStops options from w e left after
  ready_untold options sites text left w after e accepted is fault unread front =
      subst (λ (x : Ended). ProgramStops options from w x left after) (sym fault)
      (subst (λ (x : Input). ProgramStops options from w ended.WriteFault x after) (sym unread) (has.bytes, has.read, text, inr (has.text, sites, says_alone, accepted, is), front))

-- ---- the lines behind an accepted script, over sites of some kind, which end as any of them do

module _ {S L : Type 0} (b : Workbench S L) (Begin : Sites → List S → Type 0) (End : List S → Type 0) (all_end : (sites : List S) → End sites) (options : Options) (old new : L) where
  runs_behind :
      (now : ℕ) (from mid left : Input) (kept : Option (List ℕ)) (is_last : Bool) (w told after : Output) (c : CatalogueData) (opens : Sites) (begun : List S) (r : Result (Unit {0}) Ended)
      → (has : HasScript most_reads now from mid kept is_last) → IsAccepted options has.text opens → Begin opens begun → AreOfScript c (map b.seen begun) → WritesText (ready options.sites) w told
      → BehindEnds (AnswersLine b c) (AreThen new) is_last (begun, old) now mid told r left after → ProgramRuns b Begin End options old from w r new left after
  runs_behind now from mid left kept true w told after c opens begun r has accepted begin of wrote (is, unread, unwritten, same) =
      let state : State S L = (begun, old) in
      let over : RunsOut (AnswersLine b c) state [] mid.left [] state = record { at_end = has.at_end refl; go_on = tt; printed = (refl, refl) } in
      let run : Ends (AnswersLine b c) state [] (reads_left has.bytes) has.bytes from told (Ok tt) state mid told = ([], (has.read, inr over), writes_nothing told) in
      let runs : ProgramRuns b Begin End options old from w (Ok tt) old mid told =
      record { bytes = has.bytes; script = has.text; raws = []; says = says_alone now from mid kept true has; opened = opens; accepted = accepted; begun = begun; begin = begin; catalogue = c; of_script = of; told = told; ready_told = wrote; ended = begun; end = all_end begun; ends = run } in
      subst (λ (n : L). ProgramRuns b Begin End options old from w r n left after) same
      (subst (λ (x : Result (Unit {0}) Ended). ProgramRuns b Begin End options old from w x old left after) (sym is)
      (subst (λ (x : Input). ProgramRuns b Begin End options old from w (Ok tt) old x after) (sym unread) (subst (λ (x : Output). ProgramRuns b Begin End options old from w (Ok tt) old mid x) (sym unwritten) runs)))
  runs_behind now from mid left kept false w told after c opens begun r has accepted begin of wrote ((sites, then), same, serves) =
      let more : List ℕ = serves.bytes in
      let state : State S L = (begun, old) in
      let ran =
      ends_later (AnswersLine b c) state (raw_lines more) (now - length more) (reads_left (has.bytes ++ more)) (λ none. omega (arith, length-append has.bytes more, has.spent refl, none))
      has.bytes more from mid left has.read told after r (sites, then) serves.ends in
      record {
        bytes = has.bytes ++ more;
        script = has.text;
        raws = raw_lines more;
        says = has.leads more (λ last. absurd (false≢true last));
        opened = opens;
        accepted = accepted;
        begun = begun;
        begin = begin;
        catalogue = c;
        of_script = of;
        told = told;
        ready_told = wrote;
        ended = sites;
        end = all_end sites;
        ends = subst (λ (n : L). Ends (AnswersLine b c) state (raw_lines more) (reads_left (has.bytes ++ more)) (has.bytes ++ more) from told r (sites, n) left after) same ran;
      }

  ready_behind :
      (now : ℕ) (from mid left : Input) (kept : Option (List ℕ)) (is_last : Bool) (w after : Output) (text : List ℕ) (c : CatalogueData) (opens : Sites) (begun : List S) (r : Result (Unit {0}) Ended)
      → (has : HasScript most_reads now from mid kept is_last) → IsAccepted options has.text opens → Begin opens begun → AreOfScript c (map b.seen begun) → text ≡ ready options.sites
      → ReadyBehind (AnswersLine b c) (AreThen new) is_last text (begun, old) now mid w r left after → ProgramRuns b Begin End options old from w r new left after
  ready_behind now from mid left kept is_last w after text c opens begun r has accepted begin of is (told, wrote, behind) =
      runs_behind now from mid left kept is_last w told after c opens begun r has accepted begin of (subst (λ (t : List ℕ). WritesText t w told) is wrote) behind

  pub ready_ends :
      (now : ℕ) (from mid left : Input) (kept : Option (List ℕ)) (is_last : Bool) (w after : Output) (text : List ℕ) (c : CatalogueData) (opens : Sites) (begun : List S) (r : Result Bool Ended)
      → (has : HasScript most_reads now from mid kept is_last) → IsAccepted options has.text opens → Begin opens begun → AreOfScript c (map b.seen begun) → text ≡ ready options.sites
      → ReadyEnds (AnswersLine b c) (AreThen new) is_last text (begun, old) now mid w r left after → EndsBy b Begin End options old from w r new left after
  ready_ends now from mid left kept is_last w after text c opens begun (Ok true) has accepted begin of is behind = ready_behind now from mid left kept is_last w after text c opens begun (Ok tt) has accepted begin of is behind
  ready_ends now from mid left kept is_last w after text c opens begun (Ok false) has accepted begin of is behind = absurd behind
  ready_ends now from mid left kept is_last w after text c opens begun (Err e) has accepted begin of is (inl behind) =
      inl (ready_behind now from mid left kept is_last w after text c opens begun (Err e) has accepted begin of is behind)
  ready_ends now from mid left kept is_last w after text c opens begun (Err e) has accepted begin of is (inr (fault, unread, front, same)) =
      inr (ready_untold now from mid kept is_last has options opens text left w after e accepted is fault unread front, sym same)
