use Rattle.std.proofs.Common.{◌≡◌, map, take}
use Rattle.td_headings.specs.declared.defined.Test.TheVariants as test
use Rattle.td_headings.proofs.defined.key_tests.Given as goal

abbrev pub invariant-loop-key : goal.invariant-loop-key
invariant-loop-key l = l.tests.items ≡ map (test.Key l.place) (take l.key-index l.keys)
