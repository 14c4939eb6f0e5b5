use Rattle.std.proofs.Common.{◌≡◌, vec_len}
use Rattle.td_event_loop.specs.Runs.{MeetingsPass, slots_of}
use Rattle.td_event_loop.proofs.event_loop.turn_peers.Given as goal

-- so far meetings took their turns
abbrev pub invariant-loop-meeting : goal.invariant-loop-meeting
invariant-loop-meeting g l =
    (vec_len l.peers ≡ vec_len l.fn.peers)
    × MeetingsPass g.M.Meets.keeps g.M.Meets.settles g.M.Meets.finishes (slots_of l.fn.peers.items) l.fn.site (slots_of l.peers.items) l.site
