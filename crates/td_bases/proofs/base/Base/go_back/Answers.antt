use Rattle.std.proofs.Common.{ap, sym, subst, ◌∙◌}
use Rattle.td_values.specs.Rows.{RowsData}
use Rattle.td_relations.specs.Deltas.{IsApplied, applied, inverse_of}
use Rattle.td_relations.specs.Sets.{body}
use Rattle.td_relations.proofs.Members.{relation_of_is}
use Rattle.td_bases.specs.Bases.{BaseData}
use Rattle.td_bases.proofs.Keyed.{based}
use Rattle.td_bases.proofs.base.Base.go_back.Goals as goal

pub go_back-requires-clause-way : goal.go_back-requires-clause-way
go_back-requires-clause-way c =
    let k = c.requires.way in
    let x = c.args.delta.now in
    (k.0, k.1, subst (λ (q : RowsData). IsApplied k.0 x q) (sym (ap (λ (b : BaseData). b.rows) c.self.view_is ∙ k.2)) (relation_of_is k.0.heading (applied (body k.0) x)))

pub returns : goal.returns
returns c =
    based c.self.inside.relation c.go_back.new.relation c.self.inside.indexes.items c.go_back.new.indexes.items c.args.self.now (inverse_of c.args.delta.now) c.self.view_is c.go_back.ensures.back c.go_back.ensures.first
