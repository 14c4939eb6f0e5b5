use Rattle.td_meaning.proofs.parts.part_known.Goals as goal

pub returns-in_default : goal.returns-in_default
returns-in_default c = λ are. c.find.ensures c.args.env.now are
