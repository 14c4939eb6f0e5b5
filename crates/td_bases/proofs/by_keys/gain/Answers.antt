use Rattle.std.proofs.Common.{List, length, sym, ap, ◌∙◌, subst}
use Rattle.td_values.specs.Data.{Attrs}
use Rattle.td_values.specs.Rows.{RowsData}
use Rattle.td_bases.specs.ForProofs.Keyed.{IsIndexOf}
use Rattle.td_bases.proofs.Keyed.{gained_on, none_there, nothing_more}
use Rattle.td_bases.proofs.by_keys.gain.Goals as goal

pub returns-in-0-clause-ok : goal.returns-in-0-clause-ok
returns-in-0-clause-ok c =
    let r = c.args.relation.now in
    let i = c.args.inserted.now in
    let none = ap (λ (ts : List Attrs). length ts) (sym c.tuples.ensures.all) ∙ c.in-0.is in
    subst (λ (q : RowsData). IsIndexOf q c.args.index.now) (sym (nothing_more r i c.rows_fit.ensures.ascending (λ t has. absurd (none_there i.tuples none t has)))) c.requires.of

pub returns-in_ok-fresh_tuples-in_default-clause-ok : goal.returns-in_ok-fresh_tuples-in_default-clause-ok
returns-in_ok-fresh_tuples-in_default-clause-ok c =
    gained_on c.args.relation.now c.args.inserted.now c.in_ok-fresh_tuples-in_default.field-0.items c.args.index.now c.insert_all.new.self c.in_ok-fresh_tuples-in_default.ensures c.rows_fit.ensures.ascending
    c.requires.of c.insert_all.result c.insert_all.ensures.ok
