use Rattle.std.proofs.Common.{◌≡◌, ◌≤◌, ◌++◌, Ok, Err, ap, sym, subst, ◌∙◌, arith}
use Rattle.std.proofs.KnownBytes.{Consumes-trans}
use Rattle.std.specs.FinMap as by_site
use Rattle.td_stamps.specs.Vectors.{VersionVector}
use Rattle.td_frames.specs.ForProofs.{AreAtMost}
use Rattle.td_frames.specs.Reading.{number_at, site_at, then_at}
use Rattle.td_frames.proofs.InTurn.{reads_then, told_then}
use Rattle.td_frames.proofs.Places.{number_then, with_number, is_new, inserted, at_most_after}
use Rattle.td_frames.proofs.greeting.read_place.Goals as goal

pub returns-in-Err-clause-told : goal.returns-in-Err-clause-told
returns-in-Err-clause-told g c =
    let (bytes, taken, told) = c.in-Err.ensures.told in
    (bytes, taken, told_then c.in-Err.e (site_at c.args.last bytes) (number_then c.args.vector.now) _ _ _ told)

pub returns-in-Err-read_number-clause-told : goal.returns-in-Err-read_number-clause-told
returns-in-Err-read_number-clause-told g c =
    let (first, taken, told) = c.in-Ok.ensures.told in
    let (second, more, rest) = c.in-Err-read_number.ensures.told in
    let v = c.args.vector.now in (
      first ++ second,
      Consumes-trans _ _ _ _ _ taken more,
      reads_then (site_at c.args.last) (number_then v) c.in-Ok.site first second (Err c.in-Err-read_number.e) _ _ _ _ told.0 told.1
          (told_then c.in-Err-read_number.e (number_at second) (with_number v c.in-Ok.site) _ _ _ rest),
    )

pub insert-requires-clause-site : goal.insert-requires-clause-site
insert-requires-clause-site g c = let e : 1 ≤ c.in-Ok.site = omega (arith, c.in-Ok.ensures.after) in e

pub insert-requires-clause-number : goal.insert-requires-clause-number
insert-requires-clause-number g c = c.in-Ok-read_number.ensures.some

pub returns-in-Ok-insert-clause-told : goal.returns-in-Ok-insert-clause-told
returns-in-Ok-insert-clause-told g c =
    let (first, taken, told) = c.in-Ok.ensures.told in
    let (second, more, rest) = c.in-Ok-read_number.ensures.told in
    let v = c.args.vector.now in
    let site = c.in-Ok.site in
    let number = c.in-Ok-read_number.number in
    let put : c.insert.new.self ≡ by_site.insert v site number = inserted v site number _ c.insert.new.self (is_new c.args.last site v c.requires c.in-Ok.ensures.after) c.in-Ok-insert.ensures.new c.in-Ok-insert.ensures.ok in
    let both = reads_then (site_at c.args.last) (number_then v) site first second (Ok (site, by_site.insert v site number)) (g.S.Source.left c.read_number.new.source) (g.S.Source.failures c.args.source.now) _ _ told.0 told.1
    ((λ m. ap (λ r. then_at r (with_number v site)) (rest.0 m)), rest.1) in (
      first ++ second,
      Consumes-trans _ _ _ _ _ taken more,
      ((λ m. both.0 m ∙ ap (λ (w : VersionVector). Ok ((site, w), m)) (sym put)), subst (AreAtMost site) (sym put) (at_most_after c.args.last site v number c.requires c.in-Ok.ensures.after), both.1),
    )

pub returns-in-Err-insert-clause-told : goal.returns-in-Err-insert-clause-told
returns-in-Err-insert-clause-told g c =
    let (first, taken, told) = c.in-Ok.ensures.told in
    let (second, more, rest) = c.in-Ok-read_number.ensures.told in
    (first ++ second, Consumes-trans _ _ _ _ _ taken more, rest.1 ∙ told.1)
