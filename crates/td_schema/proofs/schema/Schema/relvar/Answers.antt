use Rattle.std.proofs.Common.{map, sym}
use Rattle.td_schema.proofs.Found.{relvar_found, relvar_missing}
use Rattle.td_schema.proofs.schema.Schema.relvar.Goals as goal

pub returns-in-Some : goal.returns-in-Some
returns-in-Some c =
    relvar_found (map (λ e. e.1) c.self.inside.possreps.entries) c.self.inside.relvars.entries c.args.self.now c.self.view_is c.args.name.now _ _ _ (sym c.in-Some.ensures.index) c.in-Some.ensures.entry

pub returns-in-None : goal.returns-in-None
returns-in-None c =
    relvar_missing (map (λ e. e.1) c.self.inside.possreps.entries) c.self.inside.relvars.entries c.args.self.now c.self.view_is c.args.name.now (sym c.in-None.ensures.index)
