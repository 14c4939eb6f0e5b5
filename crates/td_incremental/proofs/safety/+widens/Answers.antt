use Rattle.td_incremental.proofs.Judging.{wide_project, wide_rename}
use Rattle.td_incremental.proofs.safety.+widens.Goals as goal

pub returns-in-Project : goal.returns-in-Project
returns-in-Project t c = wide_project c.args.catalogue.now c.args.relvar c.args.tree.now c.in-Project.a c.get.result.now _ c.widens.result c.in-Project.is c.get.ensures c.widens.ensures

pub returns-in-Rename : goal.returns-in-Rename
returns-in-Rename t c = wide_rename c.args.catalogue.now c.args.relvar c.args.tree.now c.in-Rename.a c.get-in-Rename.result.now _ c.widens-in-Rename.result c.in-Rename.is c.get-in-Rename.ensures c.widens-in-Rename.ensures
