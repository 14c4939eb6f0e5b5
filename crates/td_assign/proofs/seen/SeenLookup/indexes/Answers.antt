use Rattle.std.proofs.Common.{◌≡◌, ◌==◌, Bool, true, false, if◌then◌else◌, refl, sym, ap, ◌∙◌, subst}
use Rattle.std.proofs.lemmas.Bool.{ne_eqb}
use Rattle.td_eval.specs.Keyed.{AreByKeys}
use Rattle.td_semantics.specs.Databases.{stored_relvars}
use Rattle.td_semantics.specs.Given.{or_old}
use Rattle.td_assign.specs.ForProofs.Lists.{given_to}
use Rattle.td_assign.proofs.seen.SeenLookup.indexes.Goals as goal

either : {X : Type 0} (b : Bool) (x : X) → (if b then x else x) ≡ x
either true x = refl
either false x = refl

pub returns-then-self-relvar : goal.returns-then-self-relvar
returns-then-self-relvar c =
    let s = c.args.self.now in
    let m = stored_relvars s.database.now.stored c.args.relvar in
    let o = given_to s.changes.now c.args.relvar in
    subst (λ r. AreByKeys r c.indexes.result.now) (sym (ap (λ b. if b then or_old o m else m) (ne_eqb s.target c.args.relvar c.if-self-relvar.true))) c.indexes.ensures

pub returns-in-None : goal.returns-in-None
returns-in-None c =
    let s = c.args.self.now in
    let m = stored_relvars s.database.now.stored c.args.relvar in
    let test = s.target == c.args.relvar in
    subst (λ r. AreByKeys r c.indexes-in-None.result.now) (sym (ap (λ o. if test then or_old o m else m) c.in-None.ensures ∙ either test m)) c.indexes-in-None.ensures
