use Rattle.std.proofs.Common.{◌≡◌, OnOk, subst}
use Rattle.td_typed_trees.proofs.Forms.{summarized}
use Rattle.td_typed_trees.proofs.mentions.+mentions.Goals as goal

pub add_mentions-returns-in_ok-add_groups-in-Summarize : goal.add_mentions-returns-in_ok-add_groups-in-Summarize
add_mentions-returns-in_ok-add_groups-in-Summarize t c =
    subst (λ ms. OnOk c.add_summaries.result (c.add_summaries.new.found.items ≡ ms))
    (summarized _ _ _ _ _ _ _ _ _ c.in-Summarize.is c.get-in-Summarize.ensures c.as_slice-in-Summarize.ensures c.in_ok-add_mentions-in-Summarize.ensures c.in_ok-add_groups-in-Summarize.ensures)
    c.add_summaries.ensures
