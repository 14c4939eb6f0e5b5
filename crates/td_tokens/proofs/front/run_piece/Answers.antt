use Rattle.std.proofs.Common.{ap, ◌∙◌}
use Rattle.std.specs.List.{prefix_len}
use Rattle.td_values.specs.Names.{goes_on_in_name}
use Rattle.td_tokens.proofs.Boundaries.{run_boundary}
use Rattle.td_tokens.proofs.front.run_piece.Goals as goal

pub split_at-requires : goal.split_at-requires
split_at-requires c =
    run_boundary c.args.text.now c.run_length-length.result c.utf8.text c.requires (c.run_length-length.ensures.value ∙ ap (prefix_len goes_on_in_name) c.as_bytes.ensures.value)
