use Rattle.std.proofs.Common.{sym, subst}
use Rattle.td_semantics.specs.Databases.{DatabaseData}
use Rattle.td_relvars.specs.Ways.{CanGoBack}
use Rattle.td_assign.proofs.running.restore.Goals as goal

pub change_back-requires : goal.change_back-requires
change_back-requires c = c.requires.1.can_go.change

pub go_back-requires : goal.go_back-requires
go_back-requires c = subst (λ (e : DatabaseData). CanGoBack e c.args.change.now.0 c.args.change.now.1 c.args.way) (sym c.in-Err.ensures.err) c.requires.1.can_go
