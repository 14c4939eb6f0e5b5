use Rattle.td_eval.proofs.AllThere.{means_its_tree}
use Rattle.td_eval.proofs.laws.means_its_tree.Goals as goal

pub returns : goal.returns
returns c = means_its_tree
