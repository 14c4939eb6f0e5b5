use Rattle.std.proofs.Common.{◌∙◌, ap, sym, subst, arith}
use Rattle.std.specs.List.{All}
use Rattle.td_tuples.specs.Parts.{Fits}
use Rattle.td_operators.specs.ForProofs.Turns.{turn}
use Rattle.td_operators.specs.Operators.{tuple_over}
use Rattle.td_operators.proofs.Turns.{turn_begins}
use Rattle.td_operators.proofs.tuples.tuples_over.Goals as goal

pub loop-value-init : goal.loop-value-init
loop-value-init g c =
    let f = tuple_over c.args.heading.now in
    record {
      answers = turn_begins f c.args.values.now ∙ ap (λ xs. turn f xs c.args.values.now) (sym c.new-found.ensures.items);
      fit = subst (All (Fits c.args.heading.now)) (sym c.new-found.ensures.items) (λ k d p. absurd (omega (arith, p)));
    }
