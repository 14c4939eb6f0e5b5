use mir.Syntax.{w64}
use mir.Val.{SFits}
use Rattle.std.proofs.Common.{rules, ◌≡◌, sym, ◌∙◌, subst}
use Rattle.std.proofs.lemmas.Int.{to_z-of_z}
use Rattle.td_values.specs.Data.{integer}
use Rattle.td_algebra.specs.Raising.{Answers}
use Rattle.td_operators.specs.Operators.{calculated, of_integers, operate}
use Rattle.td_operators.proofs.pairs.operate_values.Goals as goal

pub returns-in-Some : goal.returns-in-Some
unfolding of_integers
returns-in-Some g c =
    let o = c.args.operator in
    let m = c.in-Some.m in
    let n = c.in-Some.n in
    let is : operate o c.args.u.now c.args.v.now ≡ calculated o m n =
    (λ i. operate o (c.in-Some.ensures.0 i) (c.in-Some.ensures.1 i)) ∙ c.is_arithmetic.ensures c.if-not-is_arithmetic.false (integer m) (integer n) in
    let m_fits : SFits w64 m = search rules in
    let n_fits : SFits w64 n = search rules in
    subst (Answers c.calculate.result) (sym is) (simp to_z-of_z at c.calculate.ensures)
