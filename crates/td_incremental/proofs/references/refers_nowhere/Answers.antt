use Rattle.td_incremental.specs.References.{unread}
use Rattle.td_incremental.proofs.references.refers_nowhere.Goals as goal

pub returns-then-branch : goal.returns-then-branch
returns-then-branch c = unread c.args.tree.now (c.in_ok-is_unread.ensures c.if-branch.true)
