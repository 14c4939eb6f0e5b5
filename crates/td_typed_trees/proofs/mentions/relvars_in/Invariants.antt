use Rattle.std.proofs.Common.{◌≡◌, ◌++◌, drop}
use Rattle.td_typed_trees.specs.Mentions.{relvars_in}
use Rattle.td_typed_trees.proofs.mentions.relvars_in.Given as goal

abbrev pub invariant-loop-mention : goal.invariant-loop-mention
invariant-loop-mention l = relvars_in l.mentions ≡ l.places.items ++ relvars_in (drop l.mention-index l.mentions)
