use Rattle.td_type_soundness.proofs.Sound.{gives}
use Rattle.td_type_soundness.proofs.laws.typed_has_meaning.Goals as goal

pub returns : goal.returns
returns c = λ s relvars selection scope names e u k typed meant selects. gives s relvars selection selects scope names meant typed
