use Rattle.std.proofs.Common.{◌≡◌, ◌++◌, take, drop, None}
use Rattle.std.specs.BTreeSet as stamps
use Rattle.std.specs.List.{list_any}
use Rattle.td_stamps.specs.declared.entry.Stamp.{Stamp}
use Rattle.td_stamps.specs.Checks.{first_clash, fresh_of}
use Rattle.td_stamps.proofs.Fresh.{at, stamp_order}
use Rattle.td_stamps.proofs.held.Held.fresh.Given as goal

abbrev pub invariant-loop-entry : goal.invariant-loop-entry
invariant-loop-entry l = record {
  passed : (s : Stamp) → stamps.contains stamp_order l.stamps s ≡ list_any (at s) (take l.entry-index l.batch);
  fresh : first_clash l.fn.self.entries l.batch ≡ None
      → l.fresh.items ++ fresh_of (l.fn.self.entries ++ take l.entry-index l.batch) (drop l.entry-index l.batch) ≡ fresh_of l.fn.self.entries l.batch;
}
