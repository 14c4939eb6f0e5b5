use Rattle.std.proofs.Common.{◌≡◌, List, ◌∷◌, [], get_or, length, sym, ap, ◌∙◌, subst, arith}
use Rattle.std.specs.List.{All}
use Rattle.td_values.specs.Data.{Attrs}
use Rattle.td_values.specs.Headings.{Header}
use Rattle.td_values.specs.Rows.{RowsData}
use Rattle.td_tuples.specs.Parts.{Fits}
use Rattle.td_relations.proofs.Between.{only_one}
use Rattle.td_integrity.proofs.Agreeing.{first_fits, one_leaves, same_parts}
use Rattle.td_integrity.proofs.ways.leaves_one_part.Goals as goal

pub returns-then-tuples-eq1-2 : goal.returns-then-tuples-eq1-2
returns-then-tuples-eq1-2 c = λ agreed.
    let d = c.args.delta.now in
    let names = c.args.names.now in
    let more = c.index-tuples-0.result in
    let gone = c.index-tuples-0-then-tuples-eq1-2.result in
    let one : d.deleted.tuples ≡ gone ∷ [] = only_one d.deleted.tuples gone
    (ap (λ (ts : List Attrs). length ts) (sym (c.tuples.ensures.all ∙ ap (λ (r : RowsData). r.tuples) c.deleted-2.ensures)) ∙ (omega (arith, c.if-tuples-eq1.true)))
    (c.index-tuples-0-then-tuples-eq1-2.is ∙ ap (λ (ts : List Attrs). get_or ts 0 gone) (c.tuples-then-tuples-eq1-2-2.ensures.all ∙ ap (λ (r : RowsData). r.tuples) c.deleted-then-tuples-eq1-2.ensures)) in
    let other : d.inserted.tuples ≡ more ∷ [] = only_one d.inserted.tuples more
    (ap (λ (ts : List Attrs). length ts) (sym (c.tuples-then-tuples-eq1.ensures.all ∙ ap (λ (r : RowsData). r.tuples) c.inserted-then-tuples-eq1.ensures)) ∙ (omega (arith, c.if-tuples-eq1-2.true)))
    (c.index-tuples-0.is ∙ ap (λ (ts : List Attrs). get_or ts 0 more) (c.tuples-then-tuples-eq1-2.ensures.all ∙ ap (λ (r : RowsData). r.tuples) c.inserted-then-tuples-eq1-2.ensures)) in
    let gone_fits : Fits d.deleted.heading gone = first_fits d.deleted gone (subst (λ (r : RowsData). All (Fits r.heading) r.tuples) c.deleted.ensures c.rows_fit.ensures.fit) one in
    let more_fits : Fits d.inserted.heading more = first_fits d.inserted more (subst (λ (r : RowsData). All (Fits r.heading) r.tuples) c.inserted.ensures c.rows_fit-2.ensures.fit) other in
    one_leaves names d gone more one other
    (same_parts more gone d.inserted.heading names more_fits (subst (λ (h : Header). Fits h gone) (sym c.headings_agree.ensures) gone_fits) (c.agree.ensures agreed))
