use Rattle.td_answers.proofs.Staying.{all_stay}
use Rattle.td_answers.proofs.answers.reply_to.Goals as goal

pub returns-in-Nothing-clause-journaled : goal.returns-in-Nothing-clause-journaled
returns-in-Nothing-clause-journaled g c = all_stay g.R.Replica.journaled c.args.sites.now

pub returns-in-Quit-clause-journaled : goal.returns-in-Quit-clause-journaled
returns-in-Quit-clause-journaled g c = all_stay g.R.Replica.journaled c.args.sites.now

pub returns-in-Query-clause-journaled : goal.returns-in-Query-clause-journaled
returns-in-Query-clause-journaled g c = all_stay g.R.Replica.journaled c.args.sites.now

pub returns-in-QueryAt-clause-journaled : goal.returns-in-QueryAt-clause-journaled
returns-in-QueryAt-clause-journaled g c = all_stay g.R.Replica.journaled c.args.sites.now

pub returns-in-Listing-clause-journaled : goal.returns-in-Listing-clause-journaled
returns-in-Listing-clause-journaled g c = all_stay g.R.Replica.journaled c.args.sites.now

pub returns-in-Log-clause-journaled : goal.returns-in-Log-clause-journaled
returns-in-Log-clause-journaled g c = all_stay g.R.Replica.journaled c.args.sites.now

pub returns-in-Vector-clause-journaled : goal.returns-in-Vector-clause-journaled
returns-in-Vector-clause-journaled g c = all_stay g.R.Replica.journaled c.args.sites.now

pub returns-in-Table-clause-journaled : goal.returns-in-Table-clause-journaled
returns-in-Table-clause-journaled g c = all_stay g.R.Replica.journaled c.args.sites.now

pub returns-in-Faulty-clause-journaled : goal.returns-in-Faulty-clause-journaled
returns-in-Faulty-clause-journaled g c = all_stay g.R.Replica.journaled c.args.sites.now
