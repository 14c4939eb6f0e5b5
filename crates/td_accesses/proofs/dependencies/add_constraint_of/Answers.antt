use Rattle.std.proofs.lemmas.Result.{on_ok_weaker}
use Rattle.td_accesses.proofs.Depending.{tells_watched}
use Rattle.td_accesses.proofs.dependencies.add_constraint_of.Goals as goal

pub returns-then-branch-2-clause-told : goal.returns-then-branch-2-clause-told
returns-then-branch-2-clause-told c =
    on_ok_weaker c.add_dependencies.result (tells_watched c.args.catalogue.now c.args.relvar c.args.expr.now.tree c.add_dependencies.new.dependencies c.args.relvars.now c.requires (c.in_ok-is_watched.ensures c.if-branch-2.true)) c.add_dependencies.ensures.depends
