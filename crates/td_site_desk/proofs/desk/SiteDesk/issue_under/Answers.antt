use Rattle.std.proofs.Common.{◌∙◌, ◌++◌, ap}
use Rattle.td_site_desk.proofs.Told.{by_key}
use Rattle.td_site_desk.proofs.desk.SiteDesk.issue_under.Goals as goal

pub returns-in-Some : goal.returns-in-Some
returns-in-Some g c =
    by_key (g.R.Replica.seen c.args.self.now.site) c.args.key.now c.args.signed.now c.as_str-2.result.now c.as_str-3.result.now
    c.in_ok-status.field-0 c.in-Some.status (c.as_str-2.ensures.value ∙ c.in_ok-comment.ensures)
    (c.as_str-3.ensures.value ∙ c.in_ok-issued.ensures
    ∙ ap (λ t. t ++ c.args.signed.now) (c.as_str.ensures.value ∙ c.in_ok-comment.ensures))
    c.in_ok-status.ensures c.in-Some.is
