use Rattle.std.proofs.Common.{◌++◌, ap, ◌∙◌}
use Rattle.td_typed_trees.specs.Mentions.{mentioned}
use Rattle.td_incremental.proofs.Deciding.{unread_by}
use Rattle.td_incremental.proofs.watching.mentions_unread.Goals as goal

pub returns : goal.returns
returns c =
    unread_by c.args.catalogue.now c.args.relvar c.args.tree.now c.deref.result.now c.deref-2.result.now c.all_unread.result
    (c.deref.ensures.value ∙ c.in_ok-add_mentions.ensures ∙ ap (λ ms. ms ++ mentioned c.args.tree.now) c.new-mentions.ensures.items)
    (c.deref-2.ensures.value ∙ c.in_ok-places.ensures)
    c.all_unread.ensures
