use Rattle.std.proofs.Common.{[], ◌++◌, refl, sym, subst, ◌∙◌}
use Rattle.std.proofs.KnownBytes.{Consumes-trans, Consumes-nil, Keeps-refl, Keeps-trans}
use Rattle.td_stamps.specs.Vectors.{VersionVector}
use Rattle.td_frames.specs.ForProofs.{AreAtMost}
use Rattle.td_frames.proofs.Vectors.{Leads, leads_on, leads_out, leads_to_end, none_is_at_most, none_yet}
use Rattle.td_frames.proofs.greeting.read_places.Goals as goal

pub loop-init : goal.loop-init
loop-init g c = record {
  told = ([], Consumes-nil _, subst (λ (v : VersionVector). Leads c.args.count 0 0 v []) (sym c.new-vector.ensures) (none_yet c.args.count));
  most = subst (AreAtMost 0) (sym c.new-vector.ensures) (none_is_at_most 0);
  beside = Keeps-refl _;
  count = refl;
}

pub returns-in-Err-clause-told : goal.returns-in-Err-clause-told
returns-in-Err-clause-told g c =
    let (done, taken, so_far) = c.loop.invariant.told in
    let (bytes, more, told) = c.in-Err.ensures.told in
    let l = c.loop in
    (done ++ bytes, Consumes-trans _ _ _ _ _ taken more, leads_out c.args.count l.counter l.last l.vector done bytes c.in-Err.e _ _ _ c.loop-test.true so_far (rw (← c.loop.invariant.count) told))

pub loop-preserved : goal.loop-preserved
loop-preserved g c =
    let (done, taken, so_far) = c.loop.invariant.told in
    let (bytes, more, told) = c.in-Ok.ensures.told in
    let l = c.loop in
    record {
      told = (done ++ bytes, Consumes-trans _ _ _ _ _ taken more, leads_on c.args.count l.counter l.last l.vector done bytes c.in-Ok.site c.read_place.new.vector c.loop-test.true so_far told.0);
      most = told.1;
      beside = Keeps-trans _ _ _ c.loop.invariant.beside c.in-Ok.ensures.beside;
      count = told.2 ∙ c.loop.invariant.count;
    }

pub returns-clause-told : goal.returns-clause-told
returns-clause-told g c =
    let (done, taken, so_far) = c.loop.invariant.told in
    (done, taken, (leads_to_end c.args.count c.loop.counter c.loop.last c.loop.vector done c.loop-test.false so_far, c.loop.invariant.count))
