use Rattle.std.proofs.Common.{◌≡◌, take, map}
use Rattle.td_schema.specs.Lists.{renaming_pair}
use Rattle.td_schema.proofs.lists.pairs_of.Given as goal

abbrev pub invariant-loop-renaming : goal.invariant-loop-renaming
invariant-loop-renaming l = l.pairs ≡ map renaming_pair (take l.renaming-index l.renamings)
