use Rattle.std.proofs.Common.{false, ap, ◌∙◌}
use Rattle.std.specs.Prelude.{replicate}
use Rattle.td_graph.proofs.unmarked.Goals as goal

pub returns : goal.returns
returns g c = c.in_ok-marks.ensures.items_if_clones_equal (λ y e. e) ∙ ap (λ n. replicate n false) c.places.ensures
