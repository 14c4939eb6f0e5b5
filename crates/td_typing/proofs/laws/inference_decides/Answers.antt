use Rattle.td_typing.specs.Trees.{typing}
use Rattle.td_typing.proofs.Complete.{complete}
use Rattle.td_typing.proofs.Sound.{sound}
use Rattle.td_typing.proofs.laws.inference_decides.Goals as goal

pub returns : goal.returns
returns c = λ cat s a u k. (sound cat a s (typing u k), complete cat)
