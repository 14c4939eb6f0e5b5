use Rattle.std.proofs.Common.{length, get_or, ap, ◌∙◌, subst}
use Rattle.std.specs.FinMap as by_name
use Rattle.td_algebra.specs.ForProofs.Ends.{AreLinks, ArePairs}
use Rattle.td_algebra.proofs.Chains.{names_rise}
use Rattle.td_algebra.proofs.Ending.{columns_at, links_stay, closed_fit, closed_made}
use Rattle.td_algebra.proofs.closure.tclose.Goals as goal

pub pairs_of-requires-clause-names : goal.pairs_of-requires-clause-names
pairs_of-requires-clause-names c =
    let fields = c.fields-fields.result.now in
    let k = columns_at c.args.r.now.heading c.requires fields c.index-fields-0.result c.index-fields-1.result (c.fields-fields.ensures ∙ ap by_name.entries c.heading.ensures) in
    names_rise (get_or fields 0 c.index-fields-0.result).0 (get_or fields 1 c.index-fields-1.result).0 c.args.r.now.heading k

pub pairs_of-requires-clause-within : goal.pairs_of-requires-clause-within
pairs_of-requires-clause-within c =
    let fields = c.fields-fields.result.now in
    links_stay (get_or fields 0 c.index-fields-0.result).0 (get_or fields 1 c.index-fields-1.result).0 c.deref.result.now c.args.r.now.tuples c.in_ok-links.links c.in_ok-links.ensures

pub from_tuples-requires : goal.from_tuples-requires
from_tuples-requires c =
    let r = c.args.r.now in
    let fields = c.fields-fields.result.now in
    let a = (get_or fields 0 c.index-fields-0.result).0 in
    let b = (get_or fields 1 c.index-fields-1.result).0 in
    let k = columns_at r.heading c.requires fields c.index-fields-0.result c.index-fields-1.result (c.fields-fields.ensures ∙ ap by_name.entries c.heading.ensures) in
    let ends = c.in_ok-ends.ends.items in
    let links = c.in_ok-links.links in
    let out = c.in_ok-pairs.pairs.items in
    closed_fit a b r c.tuples.ensures.rows k ends c.in_ok-ends.ensures.ascending links
    (subst (λ es. AreLinks a b es r.tuples links) c.deref.ensures.value c.in_ok-links.ensures) out
    (subst (λ es. ArePairs a b es links (length es) out) c.deref-2.ensures.value c.in_ok-pairs.ensures)
    c.in_ok-heading.heading (c.in_ok-heading.ensures ∙ c.heading-2.ensures)

pub returns : goal.returns
returns c =
    let r = c.args.r.now in
    let fields = c.fields-fields.result.now in
    let a = (get_or fields 0 c.index-fields-0.result).0 in
    let b = (get_or fields 1 c.index-fields-1.result).0 in
    let k = columns_at r.heading c.requires fields c.index-fields-0.result c.index-fields-1.result (c.fields-fields.ensures ∙ ap by_name.entries c.heading.ensures) in
    let ends = c.in_ok-ends.ends.items in
    let links = c.in_ok-links.links in
    let out = c.in_ok-pairs.pairs.items in
    closed_made a b r c.tuples.ensures.rows k ends c.in_ok-ends.ensures.ascending links
    (subst (λ es. AreLinks a b es r.tuples links) c.deref.ensures.value c.in_ok-links.ensures) out
    (subst (λ es. ArePairs a b es links (length es) out) c.deref-2.ensures.value c.in_ok-pairs.ensures)
    c.in_ok-heading.heading (c.in_ok-heading.ensures ∙ c.heading-2.ensures)
    c.from_tuples.result c.from_tuples.ensures
