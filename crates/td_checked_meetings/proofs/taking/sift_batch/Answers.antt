use Rattle.std.proofs.Common.{rules}
use Rattle.td_stamps.specs.Vectors.{IsVector}
use Rattle.td_checked_meetings.proofs.taking.sift_batch.Goals as goal

pub returns-in-Ok-sift-clause-ok : goal.returns-in-Ok-sift-clause-ok
returns-in-Ok-sift-clause-ok g c =
    let own : IsVector (g.R.Replica.seen c.args.site.now).entries c.in-Ok-vector.vector = search rules in
    record { vector = c.in-Ok-vector.vector; own = own; entries = c.in-Ok-sift.ensures.entries; dropped = c.in-Ok-sift.ensures.dropped; beyond = c.in-Ok-sift.ensures.beyond }
