use Rattle.std.proofs.Common.{Ok, if◌then◌else◌, sym, ap, subst}
use Rattle.std.proofs.lemmas.Bool.{ne_eqb}
use Rattle.td_eval.specs.Keyed.{AreByKeys}
use Rattle.td_insertions.proofs.emptied.EmptiedLookup.indexes.Goals as goal

pub returns-else-relvar-self : goal.returns-else-relvar-self
returns-else-relvar-self g c =
    let s = c.args.self.now in
    let m = g.L.Lookup.relvars s.lookup.now c.args.relvar in
    subst (λ r. AreByKeys r c.indexes.result.now) (sym (ap (λ b. if b then Ok s.nothing.now else m) (ne_eqb c.args.relvar s.relvar c.if-relvar-self.false))) c.indexes.ensures
