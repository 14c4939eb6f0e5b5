use Rattle.std.proofs.Common.{rules}
use Rattle.std.proofs.lemmas.List.Sorted.{IsPartitionPoint-from_clause}
use Rattle.td_stamps.specs.Entries.{before}
use Rattle.td_stamps.proofs.Searches.{in_front}
use Rattle.td_replay.specs.ForProofs.Past.{entry_at}
use Rattle.td_replay.proofs.state.count_before.Goals as goal

pub returns-clause-place : goal.returns-clause-place
returns-clause-place c =
    let e = entry_at c.args.at in
    IsPartitionPoint-from_clause (λ x. before x e) c.args.entries.now c.partition_point.result c.partition_point.ensures.partitioned (in_front c.args.entries.now e c.requires) (λ a r f called. search rules)
