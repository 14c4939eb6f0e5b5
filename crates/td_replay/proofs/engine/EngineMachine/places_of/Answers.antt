use Rattle.std.proofs.Common.{ℕ, List, sym, subst, ◌∙◌}
use Rattle.std.specs.List.{Contains}
use Rattle.td_replay.proofs.Recorded.{lent_footprint}
use Rattle.td_replay.proofs.engine.EngineMachine.places_of.Goals as goal

pub returns : goal.returns
returns c = λ o e is n h. subst (λ (ns : List ℕ). Contains ns n) (sym (c.as_slice.ensures.value ∙ lent_footprint c.get.result.now c.args.reading.now.names c.get.ensures)) ((is.footprint.members n).1 h)
