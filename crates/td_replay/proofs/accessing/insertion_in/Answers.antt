use Rattle.td_replay.proofs.Recorded.{sole}
use Rattle.td_replay.proofs.accessing.insertion_in.Goals as goal

pub returns-in-len1 : goal.returns-in-len1
returns-in-len1 c = record {
  puts = c.if-not-ran.false;
  delta = c.change-item.result.1;
  one = sole c.args.ran.now.delta.items c.as_slice.result.now c.change-item.result c.as_slice.ensures.value c.in-len1.len_at_least c.in-len1.len_below c.change-item.is;
  same = c.inserted.ensures;
}
