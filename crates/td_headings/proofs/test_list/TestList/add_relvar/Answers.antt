use Rattle.td_headings.proofs.TestNames.{same_names}
use Rattle.td_headings.proofs.test_list.TestList.add_relvar.Goals as goal

pub invariant_of-self-2 : goal.invariant_of-self-2
invariant_of-self-2 c = same_names c.self.inside.names.keys c.self.inside.tests.items c.put_relvar.new.tests.items c.args.keys.items c.self.invariant c.in-Ok.ensures.tests c.requires
