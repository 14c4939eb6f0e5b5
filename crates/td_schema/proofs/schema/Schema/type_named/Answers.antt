use Rattle.std.proofs.Common.{map, sym}
use Rattle.td_schema.proofs.Found.{type_found, type_missing, value_at, named}
use Rattle.td_schema.proofs.schema.Schema.type_named.Goals as goal

pub returns-in-Some-get_index : goal.returns-in-Some-get_index
returns-in-Some-get_index c =
    let es = c.self.inside.possreps.entries in
    type_found (map (λ e. e.1) es) (map named c.self.inside.relvars.entries) c.args.self.now c.self.view_is c.args.name.now c.self.inside.types.keys c.self.invariant.0 _ _ (sym c.in-Some.ensures.index) (value_at es _ _ _ (sym c.in-Some-get_index.ensures.entry))

pub returns-in-None : goal.returns-in-None
returns-in-None c =
    let es = c.self.inside.possreps.entries in
    type_missing (map (λ e. e.1) es) (map named c.self.inside.relvars.entries) c.args.self.now c.self.view_is c.args.name.now c.self.inside.types.keys c.self.invariant.0 (sym c.in-None.ensures.index)
