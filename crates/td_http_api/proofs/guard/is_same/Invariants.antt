use Rattle.std.proofs.Common.{◌≡◌, ℕ, ◌<◌, get_or, IsTrue, ◌↔◌}
use Rattle.td_http_api.proofs.guard.is_same.Given as goal

abbrev pub invariant-loop-i : goal.invariant-loop-i
invariant-loop-i l = IsTrue l.same ↔ ((k : ℕ) → k < l.i → get_or l.a k 0 ≡ get_or l.b k 0)
