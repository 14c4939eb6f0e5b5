use Rattle.td_meaning.proofs.evaluator.Evaluator.known.Goals as goal

pub returns : goal.returns
returns g c = c.part_known.ensures c.args.self.now.right
