-- A run over lines, and what was served before it.
use Rattle.std.proofs.Common.{◌≡◌, ◌⊎◌, ◌≤◌, inl, inr, ℕ, ◌+◌, ◌-◌, true, List, [], ◌∷◌, ◌++◌, length, Option, Result, Ok, Err, refl, sym, ap, ◌∙◌, subst, append_assoc, append-nil, arith, length-append}
use Rattle.std.specs.Io.KnownBytes.{Keeps}
use Rattle.std.proofs.KnownBytes.{Appends-kept, Appends-nil, Appends-trans, Consumes-nil, Consumes-trans}
use Rattle.td_io.specs.Counted.{counted}
use Rattle.td_io.specs.Lines.{raw_lines, IsWholeLine}
use Rattle.td_io.specs.Views.{Input, Output}
use Rattle.td_workbench.specs.Streams.{AppendsText, ReadsBytes, ReadsNoMore, WritesText}
use Rattle.td_workbench.specs.Runs.{said, DoesNotQuit, LineStep, Printed, Served, Quits, RunsOut, BreaksOff, Reaches, StopsReading, Ends}
use Rattle.td_workbench.specs.ForProofs.Serving.{HandsOn, LinesEnd, Serves, ServesLines}
use Rattle.td_workbench.specs.declared.run.Ended.{Ended}
use Rattle.td_workbench.specs.declared.run.Ended.TheVariants.{OutOfMemory, ReadFault, WriteFault}
use Rattle.td_workbench.proofs.Lines.{joined, joined_none, joined_last, raw_whole, all_append}

-- ---- streams

pub writes_nothing : (w : Output) → WritesText [] w w
writes_nothing w = (Appends-nil w.held, refl, λ flushed. flushed)

pub appends_nothing : (w : Output) → AppendsText [] w w
appends_nothing w = (Appends-nil w.held, refl)

pub appends_trans : (w half after : Output) (t u : List ℕ) → AppendsText t w half → AppendsText u half after → AppendsText (t ++ u) w after
appends_trans w half after t u first second = (Appends-trans w.held half.held after.held t u first.0 second.0, second.1 ∙ first.1)

pub reads_nothing : (from : Input) → ReadsBytes [] from from
reads_nothing from = (Consumes-nil from.left, refl)

pub reads_trans : (from at left : Input) (bs cs : List ℕ) → ReadsBytes bs from at → ReadsBytes cs at left → ReadsBytes (bs ++ cs) from left
reads_trans from at left bs cs first second = (Consumes-trans from.left at.left left.left bs cs first.0 second.0, second.1 ∙ first.1)

pub no_more_trans : (spare : ℕ) (from at left : Input) (bs cs : List ℕ) → ReadsBytes bs from at → ReadsNoMore spare cs at left → ReadsNoMore spare (bs ++ cs) from left
no_more_trans spare from at left bs cs first (took, inl failed) = (Consumes-trans from.left at.left left.left bs cs first.0 took, inl (failed ∙ ap counted first.1))
no_more_trans spare from at left bs cs first (took, inr none) = (Consumes-trans from.left at.left left.left bs cs first.0 took, inr (none.0 ∙ first.1, none.1))

pub no_more_spare : (spare other : ℕ) (bs : List ℕ) (from left : Input) → (spare ≡ 0 → other ≡ 0) → ReadsNoMore spare bs from left → ReadsNoMore other bs from left
no_more_spare spare other bs from left fewer (took, inl failed) = (took, inl failed)
no_more_spare spare other bs from left fewer (took, inr none) = (took, inr (none.0, fewer none.1))

-- ---- what is printed

pub printed_append : {X : Type 0} (step : LineStep X) (old : X) (ls : List (List ℕ)) (t : List ℕ) (mid : X) (ks : List (List ℕ)) (u : List ℕ) (new : X) → Printed step old ls t mid → Printed step mid ks u new → Printed step old (ls ++ ks) (t ++ u) new
printed_append {X = X} step old [] t mid ks u new (none, same) next =
    subst (λ (s : X). Printed step s ks (t ++ u) new) same (subst (λ (v : List ℕ). Printed step mid ks v new) (sym (ap (λ (v : List ℕ). v ++ u) none)) next)
printed_append step old (l ∷ ls) t mid ks u new (then, first, rest, answered, others, split) next =
    (then, first, rest ++ u, answered, printed_append step then ls rest mid ks u new others next, ap (λ (v : List ℕ). v ++ u) split ∙ append_assoc first rest u)

pub printed_one : {X : Type 0} (step : LineStep X) (old : X) (l : List ℕ) (t : List ℕ) (new : X) → step old (said l) t new → Printed step old (l ∷ []) t new
printed_one step old l t new answered = (new, t, [], answered, (refl, refl), sym (append-nil t))

pub served_none : {X : Type 0} (step : LineStep X) (old : X) → Served step old [] [] old
served_none step old = record { whole = tt; go_on = tt; printed = (refl, refl) }

pub served_append : {X : Type 0} (step : LineStep X) (old : X) (ls : List (List ℕ)) (t : List ℕ) (mid : X) (ks : List (List ℕ)) (u : List ℕ) (new : X) → Served step old ls t mid → Served step mid ks u new → Served step old (ls ++ ks) (t ++ u) new
served_append step old ls t mid ks u new s next = record {
  whole = all_append IsWholeLine ls ks s.whole next.whole;
  go_on = all_append DoesNotQuit ls ks s.go_on next.go_on;
  printed = printed_append step old ls t mid ks u new s.printed next.printed;
}

pub served_one : {X : Type 0} (step : LineStep X) (old : X) (l : List ℕ) (t : List ℕ) (new : X) → IsWholeLine l → DoesNotQuit l → step old (said l) t new → Served step old (l ∷ []) t new
served_one step old l t new whole on answered = record { whole = (whole, tt); go_on = (on, tt); printed = printed_one step old l t new answered }

-- ---- ways to end, behind lines that were served

more_lines : (ls ks before : List (List ℕ)) (rest : List (List ℕ)) → ks ≡ before ++ rest → ls ++ ks ≡ (ls ++ before) ++ rest
more_lines ls ks before rest is = ap (λ (xs : List (List ℕ)). ls ++ xs) is ∙ sym (append_assoc ls before rest)

module _ {X : Type 0} (step : LineStep X) (old : X) (ls : List (List ℕ)) (t : List ℕ) (mid : X) (s : Served step old ls t mid) where
  quits_behind : (ks : List (List ℕ)) (left : Option (List ℕ)) (u : List ℕ) (new : X) → Quits step mid ks left u new → Quits step old (ls ++ ks) left (t ++ u) new
  quits_behind ks left u new q = record {
    before = ls ++ q.before;
    last = q.last;
    mid = q.mid;
    lines = more_lines ls ks q.before (q.last ∷ []) q.lines;
    read_out = q.read_out;
    quits = q.quits;
    served = served_append step old ls t mid q.before u q.mid s q.served;
    answered = q.answered;
  }

  runs_out_behind : (ks : List (List ℕ)) (left : Option (List ℕ)) (u : List ℕ) (new : X) → RunsOut step mid ks left u new → RunsOut step old (ls ++ ks) left (t ++ u) new
  runs_out_behind ks left u new q = record {
    at_end = q.at_end;
    go_on = all_append DoesNotQuit ls ks s.go_on q.go_on;
    printed = printed_append step old ls t mid ks u new s.printed q.printed;
  }

  breaks_behind : (ks : List (List ℕ)) (IsPart : List ℕ → Type 0) (u : List ℕ) (new : X) → BreaksOff step mid ks IsPart u new → BreaksOff step old (ls ++ ks) IsPart (t ++ u) new
  breaks_behind ks IsPart u new q = record {
    before = ls ++ q.before;
    part = q.part;
    lines = more_lines ls ks q.before (raw_lines q.part) q.lines;
    is_part = q.is_part;
    served = served_append step old ls t mid q.before u new s q.served;
  }

  reaches_behind : (ks : List (List ℕ)) (left : Option (List ℕ)) (u answer : List ℕ) (new : X) → Reaches step mid ks left u answer new → Reaches step old (ls ++ ks) left (t ++ u) answer new
  reaches_behind ks left u answer new q = record {
    before = ls ++ q.before;
    last = q.last;
    mid = q.mid;
    lines = more_lines ls ks q.before (q.last ∷ []) q.lines;
    read_out = q.read_out;
    goes_on = q.goes_on;
    served = served_append step old ls t mid q.before u q.mid s q.served;
    answered = q.answered;
  }

  pub stops_behind : (ks : List (List ℕ)) (spare : ℕ) (bs more : List ℕ) (from at left : Input) (r : Result (Unit {0}) Ended) (new : X) (u : List ℕ)
      → ReadsBytes bs from at → StopsReading step mid ks spare more at r new left u → StopsReading step old (ls ++ ks) spare (bs ++ more) from r new left (t ++ u)
  stops_behind ks spare bs more from at left (Ok x) new u read (took, why) =
      (reads_trans from at left bs more read took, elim why [ inl q ↦ inl (quits_behind ks left.left u new q) | inr q ↦ inr (runs_out_behind ks left.left u new q) ])
  stops_behind ks spare bs more from at left (Err ReadFault) new u read (took, why) = (no_more_trans spare from at left bs more read took, breaks_behind ks _ u new why)
  stops_behind ks spare bs more from at left (Err OutOfMemory) new u read (took, why) = (reads_trans from at left bs more read took, breaks_behind ks _ u new why)
  stops_behind ks spare bs more from at left (Err WriteFault) new u read (took, why) = (reads_trans from at left bs more read took, breaks_behind ks _ u new why)

  ends_behind : (ks : List (List ℕ)) (spare : ℕ) (bs more : List ℕ) (from at left : Input) (w half after : Output) (r : Result (Unit {0}) Ended) (new : X)
      → ReadsBytes bs from at → AppendsText t w half → LinesEnd step mid ks spare more at half r new left after → LinesEnd step old (ls ++ ks) spare (bs ++ more) from w r new left after
  ends_behind ks spare bs more from at left w half after (Ok x) new read wrote (u, why, puts) =
      (t ++ u, stops_behind ks spare bs more from at left (Ok x) new u read why, appends_trans w half after t u wrote puts)
  ends_behind ks spare bs more from at left w half after (Err ReadFault) new read wrote (u, why, puts) =
      (t ++ u, stops_behind ks spare bs more from at left (Err ReadFault) new u read why, appends_trans w half after t u wrote puts)
  ends_behind ks spare bs more from at left w half after (Err OutOfMemory) new read wrote (u, why, puts) =
      (t ++ u, stops_behind ks spare bs more from at left (Err OutOfMemory) new u read why, appends_trans w half after t u wrote puts)
  ends_behind ks spare bs more from at left w half after (Err WriteFault) new read wrote (inl (took, u, answer, then, why, puts, front)) =
      inl (reads_trans from at left bs more read took, t ++ u, answer, then, reaches_behind ks left.left u answer new why, appends_trans w half then t u wrote puts, front)
  ends_behind ks spare bs more from at left w half after (Err WriteFault) new read wrote (inr (u, why, unhanded)) =
      inr (t ++ u, stops_behind ks spare bs more from at left (Err WriteFault) new u read why, (Appends-trans w.held half.held after.held t u wrote.0 unhanded.0, unhanded.1 ∙ ap counted wrote.1))

-- the reads that are left are told only where there are none
stops_spare : {X : Type 0} (step : LineStep X) (old : X) (ks : List (List ℕ)) (spare other : ℕ) (bs : List ℕ) (from left : Input) (r : Result (Unit {0}) Ended) (new : X) (text : List ℕ)
    → (spare ≡ 0 → other ≡ 0) → StopsReading step old ks spare bs from r new left text → StopsReading step old ks other bs from r new left text
stops_spare step old ks spare other bs from left (Ok x) new text fewer stops = stops
stops_spare step old ks spare other bs from left (Err ReadFault) new text fewer (took, why) = (no_more_spare spare other bs from left fewer took, why)
stops_spare step old ks spare other bs from left (Err OutOfMemory) new text fewer stops = stops
stops_spare step old ks spare other bs from left (Err WriteFault) new text fewer stops = stops

lines_spare : {X : Type 0} (step : LineStep X) (old : X) (ks : List (List ℕ)) (spare other : ℕ) (bs : List ℕ) (from left : Input) (w after : Output) (r : Result (Unit {0}) Ended) (new : X)
    → (spare ≡ 0 → other ≡ 0) → LinesEnd step old ks spare bs from w r new left after → LinesEnd step old ks other bs from w r new left after
lines_spare step old ks spare other bs from left w after (Ok x) new fewer (text, why, puts) = (text, stops_spare step old ks spare other bs from left (Ok x) new text fewer why, puts)
lines_spare step old ks spare other bs from left w after (Err ReadFault) new fewer (text, why, puts) = (text, stops_spare step old ks spare other bs from left (Err ReadFault) new text fewer why, puts)
lines_spare step old ks spare other bs from left w after (Err OutOfMemory) new fewer (text, why, puts) = (text, stops_spare step old ks spare other bs from left (Err OutOfMemory) new text fewer why, puts)
lines_spare step old ks spare other bs from left w after (Err WriteFault) new fewer ends = ends

-- a run behind bytes that say no line of it, by other reads that are none where these are none
module _ {X : Type 0} (step : LineStep X) (old : X) (ks : List (List ℕ)) (spare other : ℕ) (fewer : spare ≡ 0 → other ≡ 0) (bs more : List ℕ) (from at left : Input) (read : ReadsBytes bs from at) where
  stops_later : (r : Result (Unit {0}) Ended) (new : X) (text : List ℕ) → StopsReading step old ks spare more at r new left text → StopsReading step old ks other (bs ++ more) from r new left text
  stops_later r new text stops =
      stops_spare step old ks spare other (bs ++ more) from left r new text fewer (stops_behind step old [] [] old (served_none step old) ks spare bs more from at left r new text read stops)

  pub ends_later : (w after : Output) (r : Result (Unit {0}) Ended) (new : X) → Ends step old ks spare more at w r new left after → Ends step old ks other (bs ++ more) from w r new left after
  ends_later w after (Ok x) new (text, why, puts) = (text, stops_later (Ok x) new text why, puts)
  ends_later w after (Err ReadFault) new (text, why, puts) = (text, stops_later (Err ReadFault) new text why, puts)
  ends_later w after (Err OutOfMemory) new (text, why, puts) = (text, stops_later (Err OutOfMemory) new text why, puts)
  ends_later w after (Err WriteFault) new (inl (took, text, answer, half, why, puts, front)) = inl (reads_trans from at left bs more read took, text, answer, half, why, puts, front)
  ends_later w after (Err WriteFault) new (inr (r, text, why, puts)) = inr (r, text, stops_later r new text why, puts)

-- what was written is handed on at the end, or the writer fails then
module _ {X : Type 0} (step : LineStep X) (old : X) (ks : List (List ℕ)) (spare : ℕ) (bs : List ℕ) (from left : Input) (w half after : Output) (new : X) where
  handed : (told r : Result (Unit {0}) Ended) (text : List ℕ) → StopsReading step old ks spare bs from told new left text → AppendsText text w half
      → Keeps half.held after.held → ((r ≡ told) × (after.faults ≡ half.faults) × (after.is_flushed ≡ true)) ⊎ ((r ≡ Err WriteFault) × (after.faults ≡ counted half.faults))
      → (good : (text : List ℕ) × StopsReading step old ks spare bs from told new left text × WritesText text w after → Ends step old ks spare bs from w told new left after)
      → Ends step old ks spare bs from w r new left after
  handed told r text why puts keeps (inl (same, faults, flushed)) good =
      subst (λ (x : Result (Unit {0}) Ended). Ends step old ks spare bs from w x new left after) (sym same)
      (good (text, why, (Appends-kept w.held half.held after.held text puts.0 keeps, faults ∙ puts.1, λ was. flushed)))
  handed told r text why puts keeps (inr (fault, faults)) good =
      subst (λ (x : Result (Unit {0}) Ended). Ends step old ks spare bs from w x new left after) (sym fault)
      (inr (told, text, why, (Appends-kept w.held half.held after.held text puts.0 keeps, faults ∙ ap counted puts.1)))

  pub ends_handed : (told r : Result (Unit {0}) Ended) → LinesEnd step old ks spare bs from w told new left half → HandsOn told r half after → Ends step old ks spare bs from w r new left after
  ends_handed (Ok x) r (text, why, puts) (keeps, how) = handed (Ok x) r text why puts keeps how (λ good. good)
  ends_handed (Err ReadFault) r (text, why, puts) (keeps, how) = handed (Err ReadFault) r text why puts keeps how (λ good. good)
  ends_handed (Err OutOfMemory) r (text, why, puts) (keeps, how) = handed (Err OutOfMemory) r text why puts keeps how (λ good. good)
  ends_handed (Err WriteFault) r ends (fault, same) =
      subst (λ (x : Result (Unit {0}) Ended). Ends step old ks spare bs from w x new left after) (sym fault)
      (subst (λ (x : Output). Ends step old ks spare bs from w (Err WriteFault) new left x) (sym same)
      (elim ends [ inl writing ↦ inl writing | inr handing ↦ inr (Err WriteFault, handing.0, handing.1, handing.2) ]))

-- ---- the loop over lines

-- what was done so far, by the reads that were made
pub record Done {X : Type 0} (step : LineStep X) (old : X) (reads now : ℕ) (from at : Input) (w half : Output) (mid : X) : Type 0 where
  pub lines : List (List ℕ)
  pub text : List ℕ
  pub served : Served step old lines text mid
  pub read : ReadsBytes (joined lines) from at
  pub wrote : AppendsText text w half
  pub spent : now + length (joined lines) ≡ reads

pub done_none : {X : Type 0} (step : LineStep X) (old : X) (reads : ℕ) (from : Input) (w : Output) → Done step old reads reads from from w w old
done_none step old reads from w = record {
  lines = [];
  text = [];
  served = served_none step old;
  read = subst (λ (bs : List ℕ). ReadsBytes bs from from) (sym joined_none) (reads_nothing from);
  wrote = appends_nothing w;
  spent = subst (λ (bs : List ℕ). reads + length bs ≡ reads) (sym joined_none) (omega arith);
}

pub done_more : {X : Type 0} (step : LineStep X) (old : X) (reads now then : ℕ) (from at left : Input) (w half after : Output) (mid new : X) (raw t : List ℕ)
    → Done step old reads now from at w half mid → ReadsBytes raw at left → now - then ≡ length raw + 0 → then ≤ now → Served step mid (raw ∷ []) t new → AppendsText t half after
    → Done step old reads then from left w after new
done_more step old reads now then from at left w half after mid new raw t d took count fewer served wrote = record {
  lines = d.lines ++ raw ∷ [];
  text = d.text ++ t;
  served = served_append step old d.lines d.text mid (raw ∷ []) t new d.served served;
  read = subst (λ (bs : List ℕ). ReadsBytes bs from left) (sym (joined_last d.lines raw)) (reads_trans from at left (joined d.lines) raw d.read took);
  wrote = appends_trans w half after d.text t d.wrote wrote;
  spent = subst (λ (bs : List ℕ). then + length bs ≡ reads) (sym (joined_last d.lines raw)) (omega (arith, length-append (joined d.lines) raw, d.spent, count, fewer));
}

-- what was written has been handed on since
pub done_handed : {X : Type 0} (step : LineStep X) (old : X) (reads now : ℕ) (from at : Input) (w half after : Output) (mid : X)
    → Keeps half.held after.held → after.faults ≡ half.faults → Done step old reads now from at w half mid → Done step old reads now from at w after mid
done_handed step old reads now from at w half after mid keeps faults d = record {
  lines = d.lines;
  text = d.text;
  served = d.served;
  read = d.read;
  wrote = (Appends-kept w.held half.held after.held d.text d.wrote.0 keeps, faults ∙ d.wrote.1);
  spent = d.spent;
}

pub serves_behind : {X : Type 0} (step : LineStep X) (old : X) (reads now : ℕ) (from at left : Input) (w half after : Output) (mid new : X) (r : Result (Unit {0}) Ended)
    → Done step old reads now from at w half mid → ServesLines step mid now at half r new left after → ServesLines step old reads from w r new left after
serves_behind step old reads now from at left w half after mid new r d s =
    let more : List ℕ = s.bytes in
    record {
      bytes = joined d.lines ++ more;
      ends = lines_spare step old (raw_lines (joined d.lines ++ more)) (now - length more) (reads - length (joined d.lines ++ more)) (joined d.lines ++ more) from left w after r new
          (λ none. omega (arith, length-append (joined d.lines) more, d.spent, none))
          (subst (λ (ks : List (List ℕ)). LinesEnd step old ks (now - length more) (joined d.lines ++ more) from w r new left after) (sym (raw_whole d.lines more d.served.whole))
          (ends_behind step old d.lines d.text mid d.served (raw_lines more) (now - length more) (joined d.lines) more from at left w half after r new d.read d.wrote s.ends));
    }

pub serves_handed : {X : Type 0} (step : LineStep X) (old : X) (reads : ℕ) (from left : Input) (w half after : Output) (new : X) (told r : Result (Unit {0}) Ended)
    → ServesLines step old reads from w told new left half → HandsOn told r half after → Serves step old reads from w r new left after
serves_handed step old reads from left w half after new told r s on =
    record { bytes = s.bytes; ends = ends_handed step old (raw_lines s.bytes) (reads - length s.bytes) s.bytes from left w half after new told r s.ends on }

-- the writer failed as what was written was to be handed on, and nothing of the next line was read
pub unhanded_serves : {X : Type 0} (step : LineStep X) (old : X) (now : ℕ) (from : Input) (w after : Output) → Keeps w.held after.held → after.faults ≡ counted w.faults
    → ServesLines step old now from w (Err WriteFault) old from after
unhanded_serves step old now from w after keeps faults = record {
  bytes = [];
  ends = inr ([], (reads_nothing from, record { before = []; part = []; lines = refl; is_part = refl; served = served_none step old }), (Appends-kept w.held w.held after.held [] (Appends-nil w.held) keeps, faults));
}
