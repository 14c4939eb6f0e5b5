use Rattle.td_type_errors.proofs.Excluded.{no_definition, stays, is_first}
use Rattle.td_type_errors.proofs.diagnose.define_or_diagnose.Goals as goal

pub define_read-requires : goal.define_read-requires
define_read-requires c =
    is_first c.args.text.now c.in-Some.trees c.as_slice.result.now c.index-as_slice-0.result (rw c.in-Some.is at c.in_ok-trees.ensures) c.as_slice.ensures c.index-as_slice-0.is

pub returns-in-None-clause-told : goal.returns-in-None-clause-told
returns-in-None-clause-told c = no_definition c.args.catalogue.now c.args.text.now (rw c.in-None.is at c.in_ok-trees.ensures)

pub returns-in-None-clause-grows : goal.returns-in-None-clause-grows
returns-in-None-clause-grows c = stays c.args.catalogue.now c.args.text.now (rw c.in-None.is at c.in_ok-trees.ensures)
