use Rattle.std.proofs.Common.{◌≡◌, [], drop}
use Rattle.td_schema.specs.Lists.{attributes_of}
use Rattle.td_typing.specs.ForProofs.Infer.{each}
use Rattle.td_headings.proofs.opening.keys_of.Given as goal

abbrev pub invariant-loop-key : goal.invariant-loop-key
invariant-loop-key l = each (λ a. attributes_of a l.heading) [] l.keys ≡ each (λ a. attributes_of a l.heading) l.found (drop l.key-index l.keys)
