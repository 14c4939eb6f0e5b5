use Rattle.std.proofs.lemmas.Result.{on_ok_weaker}
use Rattle.td_accesses.proofs.Growing.{others_after}
use Rattle.td_accesses.proofs.accesses.Accesses.add_insertion.Goals as goal

pub returns-clause-kept : goal.returns-clause-kept
returns-clause-kept c =
    on_ok_weaker c.add_other.result (others_after c.args.self.now c.add_by_tuples.new.all c.add_other.new.self c.in_ok-add_by_tuples.ensures.kept) c.add_other.ensures.kept
