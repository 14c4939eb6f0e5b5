use Rattle.std.proofs.Common.{◌≡◌, All, None}
use Rattle.td_event_loop.proofs.slots.empty_slots.Given as goal

-- none is taken so far
abbrev pub invariant-loop : goal.invariant-loop
invariant-loop g l = All (λ slot. slot ≡ None) l.slots.items
