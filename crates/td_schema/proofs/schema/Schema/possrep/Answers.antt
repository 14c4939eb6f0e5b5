use Rattle.std.proofs.Common.{map, sym}
use Rattle.std.specs.Map.{keys_of}
use Rattle.td_schema.proofs.Found.{possrep_found, possrep_missing, value_at, named}
use Rattle.td_schema.proofs.schema.Schema.possrep.Goals as goal

pub returns-in-Some : goal.returns-in-Some
returns-in-Some c =
    let es = c.self.inside.possreps.entries in
    possrep_found (map (λ e. e.1) es) (map named c.self.inside.relvars.entries) c.args.self.now c.self.view_is c.args.name.now (keys_of es) c.self.invariant.1 _ _ (sym c.in-Some.ensures.index) (value_at es _ _ _ c.in-Some.ensures.entry)

pub returns-in-None : goal.returns-in-None
returns-in-None c =
    let es = c.self.inside.possreps.entries in
    possrep_missing (map (λ e. e.1) es) (map named c.self.inside.relvars.entries) c.args.self.now c.self.view_is c.args.name.now (keys_of es) c.self.invariant.1 (sym c.in-None.ensures.index)
