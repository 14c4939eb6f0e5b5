use Rattle.std.proofs.Common.{◌≡◌, ℕ, List, Ok, Err, refl, subst}
use Rattle.td_stamps.specs.declared.entry.Stamp.{Stamp}
use Rattle.td_replica.specs.Past.{AsksAt}
use Rattle.td_replica.specs.declared.refusal.PastError.TheVariants as past_error
use Rattle.td_answers.specs.Answers.{TellsPast, reply_line}
use Rattle.td_answers.proofs.Saying.{says_more}
use Rattle.td_answers.proofs.telling.query_at.Goals as goal

pub returns-in-Ok-reply_of_answer : goal.returns-in-Ok-reply_of_answer
returns-in-Ok-reply_of_answer g c =
    let text = c.args.text.now in
    let s = g.R.Replica.seen c.args.site.now in
    says_more (λ (words : List ℕ). words ≡ reply_line c.in-Ok.past) (TellsPast text (c.args.clock, c.args.origin) s) c.in-Ok-reply_of_answer.reply
    (λ words is. record { answer = Ok c.in-Ok.past; asks = subst (λ (m : Stamp). AsksAt s text m (Ok c.in-Ok.past)) c.stamp_at.ensures c.in-Ok.ensures.asks; line = is }) c.in-Ok-reply_of_answer.ensures

pub returns : goal.returns
returns g c = record { answer = Err past_error.OutOfMemory; asks = (c.in-Ok.ensures.asks.2.live, c.in-Ok.ensures.asks.2.reads.short); line = refl }
