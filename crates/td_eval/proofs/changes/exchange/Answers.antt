use Rattle.std.proofs.Common.{Ok, sym, subst}
use Rattle.std.specs.declared.convert.Infallible.{Infallible}
use Rattle.td_meaning.specs.Seen.{mean_in}
use Rattle.td_eval.specs.ForProofs.Forms.{TellsForm, chosen, form_means}
use Rattle.td_eval.proofs.Selecting.{told_less}
use Rattle.td_eval.proofs.changes.exchange.Goals as goal

pub returns-in_ok-deletion_of-in-Less : goal.returns-in_ok-deletion_of-in-Less
returns-in_ok-deletion_of-in-Less g c =
    let m = mean_in c.args.env.now in
    let r = c.args.tuples.now in
    let d = c.in_ok-deletion_of-in-Less.field-0 in
    subst (λ f. TellsForm {W = Infallible} r (form_means m r f) (Ok d)) (sym c.in-Less.is)
    (told_less r c.in_ok-gone-in-Less.gone (chosen m c.in-Less.condition.now r) c.in_ok-gone-in-Less.ensures d (rw c.get.ensures at c.in_ok-deletion_of-in-Less.ensures))

pub returns-in-Changed : goal.returns-in-Changed
returns-in-Changed g c =
    let m = mean_in c.args.env.now in
    let r = c.args.tuples.now in
    subst (λ f. TellsForm r (form_means m r f) c.update.result) (sym c.in-Changed.is) c.update.ensures
