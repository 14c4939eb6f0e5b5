use Rattle.std.proofs.Common.{List, get_or, ap, ◌∙◌, subst}
use Rattle.std.specs.List.{All}
use Rattle.td_values.specs.Data.{Attrs}
use Rattle.td_values.specs.Headings.{Header}
use Rattle.td_tuples.specs.Parts.{Fits}
use Rattle.td_relations.proofs.Between.{only_one}
use Rattle.td_bases.proofs.Keyed.{put_in_by_key, put_in_once}
use Rattle.td_bases.proofs.by_keys.gain_one.Goals as goal

pub returns-clause-ok : goal.returns-clause-ok
returns-clause-ok c =
    let r = c.args.relation.now in
    let i = c.args.inserted.now in
    let t = c.index-tuples-0.result in
    let one = only_one i.tuples t c.requires.one (c.index-tuples-0.is ∙ ap (λ (ts : List Attrs). get_or ts 0 t) c.tuples.ensures.all) in
    let fit = subst (λ (h : Header). All (Fits h) i.tuples) c.requires.heading c.rows_fit-2.ensures.fit in
    put_in_once r i t c.args.index.now c.insert_absent.new.self c.insert_absent.result c.requires.of c.insert_absent.ensures.more c.insert_absent.ensures.same c.rows_fit.ensures.ascending c.rows_fit-2.ensures.ascending one fit

pub returns-clause-key : goal.returns-clause-key
returns-clause-key c =
    put_in_by_key c.args.relation.now c.args.inserted.now c.index-tuples-0.result c.args.index.now c.insert_absent.new.self c.insert_absent.result c.requires.of c.insert_absent.ensures.more c.insert_absent.ensures.same c.insert_absent.ensures.err
