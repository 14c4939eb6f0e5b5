-- Lines up to the first `.begin`.
use Rattle.std.proofs.Common.{◌≡◌, ◌≤◌, inl, inr, ℕ, ◌+◌, ◌-◌, Bool, true, false, List, [], ◌∷◌, ◌++◌, length, cond, Option, None, Some, option_map, Err, refl, sym, ap, ◌∙◌, subst, append_assoc, append-nil, arith, length-append, MatchBool}
use Rattle.std.specs.List.{AllByRecursion}
use Rattle.std.specs.Io.KnownBytes.{Consumes, IsAtEnd}
use Rattle.std.proofs.KnownBytes.{Consumes-nil}
use Rattle.std.proofs.lemmas.Bool.{false≢true, true≢false}
use Rattle.td_io.specs.Lines.{raw_lines, is_one_line, IsWholeLine, TellsLine, byteless_reads, HasCause}
use Rattle.td_io.specs.declared.lines.LineError.{LineError}
use Rattle.td_io.specs.declared.lines.LineError.TheVariants as line_error
use Rattle.td_workbench.specs.Scripts.{is_begin, script_then, Says, IsOfScript, IsUnfinished}
use Rattle.td_workbench.specs.Streams.{ReadsBytes}
use Rattle.td_workbench.specs.ForProofs.Reading.{IsKeptScript, HasScript, ScriptRead, unready_by}
use Rattle.td_workbench.specs.declared.script.Unready.TheVariants as unready
use Rattle.td_workbench.proofs.Lines.{joined, joined_none, joined_last, raw_whole, raw_some, all_append}
use Rattle.td_workbench.proofs.Serving.{reads_nothing, reads_trans, no_more_trans}
use Rattle.td_io.proofs.LineEnds.{raw_first}
use Rattle.td_io.specs.Views.{Input}

skips : (l : List ℕ) (ls : List (List ℕ)) → is_begin l ≡ false → script_then (l ∷ ls) ≡ option_map (λ (p : List ℕ × List (List ℕ)). (l ++ p.0, p.1)) (script_then ls)
skips l ls e = rw e refl

begins : (l : List ℕ) (ls : List (List ℕ)) → is_begin l ≡ true → script_then (l ∷ ls) ≡ Some ([], ls)
begins l ls e = rw e refl

script_after : (ls ks raws : List (List ℕ)) (s : List ℕ) → AllByRecursion IsOfScript ls → script_then ks ≡ Some (s, raws) → script_then (ls ++ ks) ≡ Some (joined ls ++ s, raws)
unfolding joined
script_after [] ks raws s none e = e
script_after (l ∷ ls) ks raws s none e =
    skips l (ls ++ ks) none.0 ∙ ap (option_map (λ (p : List ℕ × List (List ℕ)). (l ++ p.0, p.1))) (script_after ls ks raws s none.1 e) ∙ ap (λ (t : List ℕ). Some (t, raws)) (sym (append_assoc l (joined ls) s))

no_script : (ls ks : List (List ℕ)) → AllByRecursion IsOfScript ls → script_then ks ≡ None → script_then (ls ++ ks) ≡ None
no_script [] ks none e = e
no_script (l ∷ ls) ks none e = skips l (ls ++ ks) none.0 ∙ ap (option_map (λ (p : List ℕ × List (List ℕ)). (l ++ p.0, p.1))) (no_script ls ks none.1 e)

-- `.begin` ends the script, with its line end and without
says_at : (ls raws : List (List ℕ)) (l more : List ℕ) → AllByRecursion IsWholeLine ls → AllByRecursion IsOfScript ls → is_begin l ≡ true → raw_lines (l ++ more) ≡ l ∷ raws → Says ((joined ls ++ l) ++ more) (joined ls) raws
says_at ls raws l more whole none is lines =
    ap script_then (ap raw_lines (append_assoc (joined ls) l more) ∙ raw_whole ls (l ++ more) whole ∙ ap (λ (ks : List (List ℕ)). ls ++ ks) lines)
    ∙ script_after ls (l ∷ raws) raws [] none (begins l raws is) ∙ ap (λ (t : List ℕ). Some (t, raws)) (append-nil (joined ls))

part_line : (l : List ℕ) → is_one_line l ≡ true → is_begin l ≡ true → raw_lines (l ++ []) ≡ l ∷ []
part_line [] one is = cc
part_line (b ∷ bs) one is = ap raw_lines (append-nil (b ∷ bs)) ∙ raw_some b bs one

-- the end of the input comes before `.begin`
part_none : (l : List ℕ) → is_one_line l ≡ true → is_begin l ≡ false → script_then (raw_lines l) ≡ None
part_none [] one is = refl
part_none (b ∷ bs) one is = ap script_then (raw_some b bs one) ∙ skips (b ∷ bs) [] is

-- ---- the loop over lines of the script

-- what was read so far, by the reads that were made
pub record Begun (reads now : ℕ) (from at : Input) (kept : Option (List ℕ)) : Type 0 where
  pub lines : List (List ℕ)
  pub whole : AllByRecursion IsWholeLine lines
  pub of_script : AllByRecursion IsOfScript lines
  pub read : ReadsBytes (joined lines) from at
  pub is_kept : IsKeptScript (joined lines) kept
  pub spent : now + length (joined lines) ≡ reads

pub begun_none : (reads : ℕ) (from : Input) (kept : Option (List ℕ)) → kept ≡ Some [] → Begun reads reads from from kept
begun_none reads from kept is = record {
  lines = [];
  whole = tt;
  of_script = tt;
  read = subst (λ (bs : List ℕ). ReadsBytes bs from from) (sym joined_none) (reads_nothing from);
  is_kept = subst (λ (k : Option (List ℕ)). IsKeptScript (joined []) k) (sym is) (sym joined_none, subst (λ (bs : List ℕ). length bs ≤ 65536) (sym joined_none) (omega arith));
  spent = subst (λ (bs : List ℕ). reads + length bs ≡ reads) (sym joined_none) (omega arith);
}

pub begun_more : (reads now then : ℕ) (from at left : Input) (old new : Option (List ℕ)) (raw : List ℕ) (b : Begun reads now from at old)
    → ReadsBytes raw at left → IsWholeLine raw → is_begin raw ≡ false → now - then ≡ length raw + 0 → then ≤ now → IsKeptScript (joined b.lines ++ raw) new → Begun reads then from left new
begun_more reads now then from at left old new raw b took whole is count fewer keeps = record {
  lines = b.lines ++ raw ∷ [];
  whole = all_append IsWholeLine b.lines (raw ∷ []) b.whole (whole, tt);
  of_script = all_append IsOfScript b.lines (raw ∷ []) b.of_script (is, tt);
  read = subst (λ (bs : List ℕ). ReadsBytes bs from left) (sym (joined_last b.lines raw)) (reads_trans from at left (joined b.lines) raw b.read took);
  is_kept = subst (λ (bs : List ℕ). IsKeptScript bs new) (sym (joined_last b.lines raw)) keeps;
  spent = subst (λ (bs : List ℕ). then + length bs ≡ reads) (sym (joined_last b.lines raw)) (omega (arith, length-append (joined b.lines) raw, b.spent, count, fewer));
}

-- a part of a line behind them
unfinished : (reads now : ℕ) (from at : Input) (kept : Option (List ℕ)) (part : List ℕ) (IsPart : List ℕ → Type 0) (b : Begun reads now from at kept) → IsPart part → IsUnfinished (joined b.lines ++ part) IsPart
unfinished reads now from at kept part IsPart b is = record {
  before = b.lines;
  part = part;
  lines = raw_whole b.lines part b.whole;
  whole = b.whole;
  of_script = b.of_script;
  is_part = is;
}

pub unread_script : (most reads now then : ℕ) (from at left : Input) (kept : Option (List ℕ)) (raw : List ℕ) (e : LineError) (b : Begun reads now from at kept)
    → Consumes at.left left.left raw → TellsLine most raw left.left (Err e) → now - then ≡ length raw + byteless_reads (Err e) → then ≤ now → HasCause then at.failures left.failures (Err e)
    → ScriptRead reads then from left (Err (unready_by e))
unread_script most reads now then from at left kept raw line_error.OutOfMemory b took part count fewer cause =
    (joined b.lines ++ raw, reads_trans from at left (joined b.lines) raw b.read (took, cause), unfinished reads now from at kept raw _ b part)
unread_script most reads now then from at left kept raw line_error.ReadFault b took part count fewer cause =
    (joined b.lines ++ raw, no_more_trans (reads - length (joined b.lines ++ raw)) from at left (joined b.lines) raw b.read (took, inl cause), unfinished reads now from at kept raw _ b part)
unread_script most reads now then from at left kept raw line_error.NoReadsLeft b took part count fewer cause =
    (joined b.lines ++ raw, no_more_trans (reads - length (joined b.lines ++ raw)) from at left (joined b.lines) raw b.read (took, inr (cause.0, omega (arith, count, fewer, cause.1, b.spent, length-append (joined b.lines) raw))), unfinished reads now from at kept raw _ b part)

pub no_reads_script : (reads now : ℕ) (from at : Input) (kept : Option (List ℕ)) (b : Begun reads now from at kept) → now ≡ 0 → ScriptRead reads now from at (Err unready.ReadFault)
no_reads_script reads now from at kept b none =
    (joined b.lines ++ [], no_more_trans (reads - length (joined b.lines ++ [])) from at at (joined b.lines) [] b.read (Consumes-nil at.left, inr (refl, omega (arith, none, b.spent, length-append (joined b.lines) []))), unfinished reads now from at kept [] _ b refl)

pub unended_script : (reads now then : ℕ) (from at left : Input) (kept : Option (List ℕ)) (raw : List ℕ) (b : Begun reads now from at kept)
    → ReadsBytes raw at left → is_one_line raw ≡ true → IsAtEnd left.left → is_begin raw ≡ false → ScriptRead reads then from left (Err unready.End)
unended_script reads now then from at left kept raw b took one end is =
    (joined b.lines ++ raw, reads_trans from at left (joined b.lines) raw b.read took, ap script_then (raw_whole b.lines raw b.whole) ∙ no_script b.lines (raw_lines raw) b.of_script (part_none raw one is), end)

pub unkept_script : (reads now then : ℕ) (from at left : Input) (kept : Option (List ℕ)) (raw : List ℕ) (b : Begun reads now from at kept)
    → ReadsBytes raw at left → IsWholeLine raw → ScriptRead reads then from left (Err unready.OutOfMemory)
unkept_script reads now then from at left kept raw b took whole =
    (joined b.lines ++ raw, reads_trans from at left (joined b.lines) raw b.read took, unfinished reads now from at kept raw _ b (inr whole))

pub has_script : (reads now then : ℕ) (from at left : Input) (kept : Option (List ℕ)) (is_last : Bool) (raw : List ℕ) (b : Begun reads now from at kept)
    → ReadsBytes raw at left → is_begin raw ≡ true → MatchBool is_last ((is_one_line raw ≡ true) × IsAtEnd left.left) (IsWholeLine raw) → now - then ≡ length raw + cond is_last 1 0 → then ≤ now
    → HasScript reads then from left kept is_last
has_script reads now then from at left kept true raw b took is read count fewer = record {
  bytes = joined b.lines ++ raw;
  text = joined b.lines;
  read = reads_trans from at left (joined b.lines) raw b.read took;
  leads = λ more none. subst (λ (m : List ℕ). Says ((joined b.lines ++ raw) ++ m) (joined b.lines) (raw_lines m)) (sym (none refl)) (says_at b.lines [] raw [] b.whole b.of_script is (part_line raw read.0 is));
  is_kept = b.is_kept;
  at_end = λ last. read.1;
  spent = λ other. absurd (true≢false other);
}
has_script reads now then from at left kept false raw b took is read count fewer = record {
  bytes = joined b.lines ++ raw;
  text = joined b.lines;
  read = reads_trans from at left (joined b.lines) raw b.read took;
  leads = λ more none. says_at b.lines (raw_lines more) raw more b.whole b.of_script is (raw_first raw more read);
  is_kept = b.is_kept;
  at_end = λ last. absurd (false≢true last);
  spent = λ other. omega (arith, length-append (joined b.lines) raw, b.spent, count, fewer);
}
