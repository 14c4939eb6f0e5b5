use Rattle.std.proofs.Common.{ap, ◌∙◌}
use Rattle.std.specs.FinSet as set
use Rattle.td_values.specs.Headings.{Header}
use Rattle.td_values.specs.Rows.{RowsData}
use Rattle.td_relations.specs.Sets.{relation_of}
use Rattle.td_relations.proofs.Members.{relation_is}
use Rattle.td_relvars.proofs.Bases.{keyed_on}
use Rattle.td_relvars.proofs.database.no_tuples.Goals as goal

pub returns : goal.returns
returns c =
    keyed_on c.by_key.result c.empty.result (relation_of c.args.heading.now set.empty) c.args.key.now
    (relation_is c.in_ok-heading.heading set.empty c.empty.result c.empty.ensures ∙ ap (λ (h : Header). relation_of h set.empty) c.in_ok-heading.ensures) c.by_key.ensures
