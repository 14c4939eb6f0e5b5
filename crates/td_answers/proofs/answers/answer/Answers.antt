use Rattle.std.proofs.Common.{map}
use Rattle.td_answers.proofs.Kept.{replies_keep}
use Rattle.td_answers.proofs.answers.answer.Goals as goal

pub returns-clause-kept : goal.returns-clause-kept
returns-clause-kept g c = replies_keep c.args.catalogue.now (map g.R.Replica.seen c.args.sites.now) _ c.reply_to.result (map g.R.Replica.seen c.reply_to.new.sites) c.requires c.reply_to.ensures.replies
