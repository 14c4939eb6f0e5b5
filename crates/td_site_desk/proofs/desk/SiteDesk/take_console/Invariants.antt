use Rattle.std.proofs.Common.{◌≡◌}
use Rattle.td_site_desk.proofs.desk.SiteDesk.take_console.Given as goal

abbrev pub invariant-loop-byte : goal.invariant-loop-byte
invariant-loop-byte g l = g.R.Replica.seen l.self.site ≡ g.R.Replica.seen l.initial.self.site
