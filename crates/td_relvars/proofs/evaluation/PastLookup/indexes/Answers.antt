use Rattle.std.proofs.Common.{sym, ap, subst, ◌∙◌}
use Rattle.std.specs.Option.{option_copied}
use Rattle.std.specs.Prelude.{option_map}
use Rattle.td_bases.specs.Bases.{BaseData}
use Rattle.td_eval.specs.Keyed.{AreByKeys}
use Rattle.td_semantics.specs.Databases.{stored_relvars}
use Rattle.td_relvars.specs.Parts.{or_there, with_copies}
use Rattle.td_relvars.proofs.Stores.{lends}
use Rattle.td_relvars.proofs.evaluation.PastLookup.indexes.Goals as goal

pub returns-in-Some : goal.returns-in-Some
returns-in-Some c =
    let n = c.args.relvar in
    let there = stored_relvars c.args.self.now.database.now.stored in
    let is = sym c.base_at.ensures ∙ ap (λ o. option_map (λ (b : BaseData). b.rows) (option_copied o)) c.in-Some.is in
    lends (with_copies c.args.self.now.part.now.copies there n) c.in-Some.copy.now.rows (ap (λ o. or_there o (there n)) is) c.indexes.result.now c.indexes.ensures

pub returns-in-None : goal.returns-in-None
returns-in-None c =
    let m = stored_relvars c.args.self.now.database.now.stored c.args.relvar in
    let is = sym c.base_at.ensures ∙ ap (λ o. option_map (λ (b : BaseData). b.rows) (option_copied o)) c.in-None.is in
    subst (λ r. AreByKeys r c.indexes-in-None.result.now) (sym (ap (λ o. or_there o m) is)) c.indexes-in-None.ensures
