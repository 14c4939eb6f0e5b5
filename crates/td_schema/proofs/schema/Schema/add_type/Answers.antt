use Rattle.std.proofs.Common.{map, sym, ◌∙◌}
use Rattle.td_schema.proofs.Found.{type_is_new, possrep_is_new, named}
use Rattle.td_schema.proofs.schema.Schema.add_type.Goals as goal

pub add_possrep-requires-clause-new_type : goal.add_possrep-requires-clause-new_type
add_possrep-requires-clause-new_type c =
    let es = c.self.inside.possreps.entries in
    type_is_new (map (λ e. e.1) es) (map named c.self.inside.relvars.entries) c.args.self.now c.self.view_is c.args.representation (sym c.may_add.ensures ∙ c.if-not-may_add.false) c.self.inside.types.keys c.self.invariant.0 c.in_ok-ty.ty (c.in_ok-ty.ensures ∙ c.ty.ensures)

pub add_possrep-requires-clause-new_possrep : goal.add_possrep-requires-clause-new_possrep
add_possrep-requires-clause-new_possrep c =
    let es = c.self.inside.possreps.entries in
    possrep_is_new (map (λ e. e.1) es) (map named c.self.inside.relvars.entries) c.args.self.now c.self.view_is c.args.representation (sym c.may_add.ensures ∙ c.if-not-may_add.false) es c.self.invariant.1 c.in_ok-name.name (c.in_ok-name.ensures ∙ c.name.ensures)
