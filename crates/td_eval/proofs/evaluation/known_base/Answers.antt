use Rattle.std.proofs.Common.{◌≡◌, Result, Ok, Err, MatchResult, sym, ap}
use Rattle.td_values.specs.Rows.{RowsData}
use Rattle.td_algebra.specs.declared.errors.Stop.{Stop}
use Rattle.td_eval.proofs.evaluation.known_base.Goals as goal

as_told : (m r : Result RowsData Stop) → MatchResult r (λ x. m ≡ Ok x) (λ e. m ≡ Err e) → r ≡ m
as_told m (Ok x) h = sym h
as_told m (Err e) h = sym h

pub returns : goal.returns
returns g c =
    let place = c.args.base.now.place in
    ap (λ v. record { place = place; value = v }) (as_told (g.L.Lookup.relvars c.args.lookup.now place) c.lease_of.result c.lease_of.ensures)
