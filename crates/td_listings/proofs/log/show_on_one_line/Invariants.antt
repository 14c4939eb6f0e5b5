use Rattle.std.proofs.Common.{◌≡◌, string_bytes}
use Rattle.td_listings.proofs.Showing.{so_far}
use Rattle.td_listings.proofs.log.show_on_one_line.Given as goal

abbrev pub invariant-loop-c : goal.invariant-loop-c
invariant-loop-c l = string_bytes l.out ≡ so_far (string_bytes l.fn.out) l.yielded
