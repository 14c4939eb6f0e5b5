use Rattle.std.proofs.Common.{◌≡◌, ◌++◌, drop}
use Rattle.td_typed_trees.specs.Mentions.{possreps_in}
use Rattle.td_typed_trees.proofs.mentions.possreps_in.Given as goal

abbrev pub invariant-loop-mention : goal.invariant-loop-mention
invariant-loop-mention l = possreps_in l.mentions ≡ l.places.items ++ possreps_in (drop l.mention-index l.mentions)
