use Rattle.td_site_desk.proofs.Runs.{site_run}
use Rattle.td_site_desk.proofs.running.serve.Goals as goal

pub returns : goal.returns
returns g c =
    site_run (λ desk. g.R.Replica.seen desk.site) _ _ (λ s. s.api.guard) (λ s. s.api.desk) _ _ c.run.ensures
