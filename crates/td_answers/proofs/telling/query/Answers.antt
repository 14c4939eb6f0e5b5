use Rattle.std.proofs.Common.{◌≡◌, ℕ, List, Ok, Err, refl}
use Rattle.td_replica.specs.declared.refusal.AskError.TheVariants as ask_error
use Rattle.td_answers.specs.Answers.{TellsAsked, reply_line}
use Rattle.td_answers.proofs.Saying.{says_more}
use Rattle.td_answers.proofs.telling.query.Goals as goal

pub returns-in-Ok-reply_of_answer : goal.returns-in-Ok-reply_of_answer
returns-in-Ok-reply_of_answer g c =
    let text = c.args.text.now in
    let s = g.R.Replica.seen c.args.site.now in
    says_more (λ (words : List ℕ). words ≡ reply_line c.in-Ok.asked) (TellsAsked text s) c.in-Ok-reply_of_answer.reply
    (λ words is. record { answer = Ok c.in-Ok.asked; asks = c.in-Ok.ensures; line = is }) c.in-Ok-reply_of_answer.ensures

pub returns : goal.returns
returns g c = record { answer = Err ask_error.OutOfMemory; asks = (c.in-Ok.ensures.live, c.in-Ok.ensures.reads.short); line = refl }
