use Rattle.std.proofs.Common.{◌≡◌, ◌==◌, ℕ, true, eq-eqb, eqb-true, sym, ◌∙◌}
use lib.Pointwise.{pointwise_decides}
use Rattle.td_assign.proofs.known.are_same.Goals as goal

decides : (m n : ℕ) → ((m == n) ≡ true → m ≡ n) × (m ≡ n → (m == n) ≡ true)
decides m n = (eqb-true m n, eq-eqb m n)

pub returns : goal.returns
returns c = λ e. (pointwise_decides decides c.args.places.now c.args.others.now).0 (sym c.eq.ensures ∙ e)
