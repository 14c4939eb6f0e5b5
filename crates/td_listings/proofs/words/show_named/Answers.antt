use Rattle.std.proofs.Common.{append_assoc}
use Rattle.td_listings.proofs.words.show_named.Goals as goal

pub returns : goal.returns
returns c = rw (c.in_ok-push_str-2.ensures.bytes, c.in_ok-push_str.ensures.bytes, c.as_str.ensures.text) (simp append_assoc)
