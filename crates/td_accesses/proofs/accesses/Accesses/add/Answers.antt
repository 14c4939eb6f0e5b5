use Rattle.std.proofs.lemmas.Result.{on_ok_weaker}
use Rattle.td_accesses.proofs.Growing.{covered_stays}
use Rattle.td_accesses.proofs.accesses.Accesses.add.Goals as goal

pub returns-in-Some-clause-kept : goal.returns-in-Some-clause-kept
returns-in-Some-clause-kept c =
    on_ok_weaker c.add_insertion.result (λ more k a. covered_stays c.args.catalogue.now k a c.args.self.now c.add_insertion.new.self more) c.add_insertion.ensures.kept

pub returns-in-None-clause-kept : goal.returns-in-None-clause-kept
returns-in-None-clause-kept c =
    on_ok_weaker c.add_other.result (λ more k a. covered_stays c.args.catalogue.now k a c.args.self.now c.add_other.new.self more) c.add_other.ensures.kept
