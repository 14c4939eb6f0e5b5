use Rattle.td_type_errors.proofs.Excluded.{typed_definition, is_defined}
use Rattle.td_type_errors.proofs.diagnose.define_read.Goals as goal

pub returns-in-Ok-clause-told : goal.returns-in-Ok-clause-told
returns-in-Ok-clause-told c = typed_definition c.args.catalogue.now c.define.new.self c.args.text.now c.args.tree.now c.requires c.in-Ok.ensures.defined

pub returns-in-Ok-clause-grows : goal.returns-in-Ok-clause-grows
returns-in-Ok-clause-grows c = is_defined c.args.catalogue.now c.define.new.self c.args.text.now c.args.tree.now c.requires c.in-Ok.ensures.defined
