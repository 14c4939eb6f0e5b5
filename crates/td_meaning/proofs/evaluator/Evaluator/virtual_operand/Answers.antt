use Rattle.std.proofs.Common.{ap, sym, subst, ◌∙◌}
use Rattle.td_algebra.specs.Raising.{AnswersBy}
use Rattle.td_operators.specs.ForProofs.Lent.{operand_value}
use Rattle.td_meaning.specs.Mean.{mean_relvar}
use Rattle.td_meaning.specs.Seen.{mean_in, relvars_there}
use Rattle.td_meaning.specs.Selections.{selection}
use Rattle.td_meaning.proofs.Forms.{of_relvar}
use Rattle.td_meaning.proofs.evaluator.Evaluator.virtual_operand.Goals as goal

pub returns-in-Some : goal.returns-in-Some
returns-in-Some g c = λ names.
    subst (AnswersBy operand_value c.operand_known.result) (sym (c.in-Some.ensures names)) c.operand_known.ensures

pub returns-in-None : goal.returns-in-None
returns-in-None g c = λ names.
    let e = c.args.self.now.env.now in
    let is = ap (mean_in e) c.requires.tree ∙ of_relvar (relvars_there e) (selection e.selectors.now) c.args.place in
    subst (λ f. AnswersBy operand_value c.made_operand.result (f names)) (sym is) (c.made_operand.ensures (mean_relvar (relvars_there e) c.args.place names) (c.unknown.ensures names))
