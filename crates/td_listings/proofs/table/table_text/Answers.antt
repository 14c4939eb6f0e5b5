use Rattle.std.proofs.Common.{Ok, Err, refl, sym, ◌∙◌}
use Rattle.std.proofs.lemmas.Bool.{false≢true}
use Rattle.td_listings.proofs.Found.{bare, has_table, stands}
use Rattle.td_listings.proofs.Tabulated.{tabulated}
use Rattle.td_listings.proofs.table.table_text.Goals as goal

pub returns-then-is_empty : goal.returns-then-is_empty
returns-then-is_empty g c = bare c.args.catalogue.now c.args.name.now c.in-Some.place c.in-Some.name.now c.in-Some.heading.now c.in-Some.ensures (c.if-is_empty.ensures.0 refl)

pub returns-then-not-is_open : goal.returns-then-not-is_open
returns-then-not-is_open g c =
    let has = has_table c.args.catalogue.now c.args.name.now c.in-Some.place c.in-Some.name.now c.in-Some.heading.now c.in-Some.ensures (λ e. false≢true (c.if-is_empty.ensures.1 e)) in
    (sym c.is_open.ensures ∙ c.if-not-is_open.true, c.in-Some.place, has)

pub value_at-requires-clause-stands : goal.value_at-requires-clause-stands
value_at-requires-clause-stands g c = stands c.args.catalogue.now c.args.name.now c.in-Some.place c.in-Some.name.now c.in-Some.heading.now c.in-Some.ensures

pub returns-in-Err : goal.returns-in-Err
returns-in-Err g c =
    let has = has_table c.args.catalogue.now c.args.name.now c.in-Some.place c.in-Some.name.now c.in-Some.heading.now c.in-Some.ensures (λ e. false≢true (c.if-is_empty.ensures.1 e)) in
    (sym c.is_open.ensures ∙ c.if-not-is_open.false, c.in-Some.place, has)

pub returns-in-Ok-render_table : goal.returns-in-Ok-render_table
returns-in-Ok-render_table g c =
    let has = has_table c.args.catalogue.now c.args.name.now c.in-Some.place c.in-Some.name.now c.in-Some.heading.now c.in-Some.ensures (λ e. false≢true (c.if-is_empty.ensures.1 e)) in
    tabulated c.args.catalogue.now (g.R.Replica.seen c.args.replica.now) c.args.name.now c.in-Some.place c.in-Ok.answer (sym c.is_open.ensures ∙ c.if-not-is_open.false) has c.in-Ok.ensures.told (Ok c.in-Ok-render_table.text.items) c.in-Ok-render_table.ensures

pub returns : goal.returns
returns g c =
    let has = has_table c.args.catalogue.now c.args.name.now c.in-Some.place c.in-Some.name.now c.in-Some.heading.now c.in-Some.ensures (λ e. false≢true (c.if-is_empty.ensures.1 e)) in
    tabulated c.args.catalogue.now (g.R.Replica.seen c.args.replica.now) c.args.name.now c.in-Some.place c.in-Ok.answer (sym c.is_open.ensures ∙ c.if-not-is_open.false) has c.in-Ok.ensures.told (Err c.in-Err-render_table.error) c.in-Err-render_table.ensures
