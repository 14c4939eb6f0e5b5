use Rattle.std.proofs.Common.{◌≡◌, ◌++◌, map}
use Rattle.std.specs.Vec.Iter.{into_iter_items}
use Rattle.td_workbench.specs.Journals.{ComeBack, keepers}
use Rattle.td_workbench.proofs.journaled.keep_sites.Given as goal

-- the sites so far have come back
abbrev pub invariant-loop-site : goal.invariant-loop-site
invariant-loop-site g l = record {
  seen : l.fn.sites.items ≡ l.yielded ++ into_iter_items l.site-iterator;
  back : ComeBack (keepers g.R.Replica g.J.Writer.Sink) (g.J.Journals.kept l.journals) l.prefix (map g.R.Replica.seen l.yielded) l.keepers.items;
}
