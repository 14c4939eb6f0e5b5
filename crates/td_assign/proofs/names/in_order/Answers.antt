use Rattle.std.specs.List.{Contains}
use Rattle.std.proofs.lemmas.List.Filters.{dedup_is}
use Rattle.td_headings.proofs.Ascending.{those}
use Rattle.td_assign.proofs.names.in_order.Goals as goal

pub returns : goal.returns
returns c =
    those (Contains c.args.places.items) c.args.places.items c.sort_unstable.new.self.items c.dedup.new.self.items
    (λ w. (λ h. h, λ h. h)) c.sort_unstable.ensures.permutation c.sort_unstable.ensures.sorted (dedup_is _ _ _ c.dedup.ensures.filtered)
