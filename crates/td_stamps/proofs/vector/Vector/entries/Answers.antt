use Rattle.std.proofs.Common.{rules, ◌≡◌, ◌++◌, ◌∙◌, true, refl, sym, ap, subst}
use Rattle.std.specs.FinMap as map
use Rattle.td_stamps.specs.Vectors.{from_one}
use Rattle.td_stamps.proofs.Listings.{entries_seen}
use Rattle.td_stamps.proofs.vector.Vector.entries.Goals as goal

pub loop-site-init : goal.loop-site-init
loop-site-init c = record {
  whole = ap (λ t. t ++ c.into_iter-site-iterator.result) c.in_ok-entries.ensures.items ∙ c.into_iter-site-iterator.ensures.into_iter_gives.0
      ∙ sym (entries_seen c.self.inside.numbers.entries c.self.invariant.0 c.self.view_is);
  fit = rw c.in_ok-entries.ensures.items refl;
}

pub returns-clause-from_one : goal.returns-clause-from_one
returns-clause-from_one c =
    let all : c.loop-site.entries.items ≡ map.entries c.args.self.now = search rules in
    subst (λ t. from_one t ≡ true) (sym (all ∙ entries_seen c.self.inside.numbers.entries c.self.invariant.0 c.self.view_is)) c.self.invariant.1
