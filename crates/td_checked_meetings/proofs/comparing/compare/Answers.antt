use Rattle.std.proofs.Common.{rules, ◌≡◌, ℕ, true, List, length, refl, ap, subst, arith}
use Rattle.std.specs.Io.KnownBytes.{Appends}
use Rattle.td_io.specs.Streams.{AppendsFront}
use Rattle.td_comparison.specs.Messages.{differences_frame}
use Rattle.td_checked_meetings.proofs.Comparisons.{compares}
use Rattle.td_checked_meetings.proofs.comparing.compare.Goals as goal

pub put_differences-requires : goal.put_differences-requires
put_differences-requires g c = omega (arith, ap length c.deref.ensures.value, c.in-Ok-differing_by.ensures.few, c.in-Ok-read_comparison.ensures.few)

pub returns-in-Ok-put_differences-clause-compares : goal.returns-in-Ok-put_differences-clause-compares
returns-in-Ok-put_differences-clause-compares g c =
    let s = g.R.Replica.seen c.args.site.now in
    let live : s.live ≡ true = search rules in (
      live,
      c.in-Ok-read_comparison.ensures.ok.0,
      compares s c.args.vector c.args.answer.now c.in-Ok-read_comparison.comparison _ refl c.in-Ok-read_comparison.ensures.ok.1 c.in-Ok-differing_by.ensures.differ,
      subst (λ (l : List ℕ). Appends (g.K.Sink.held c.args.sink.now) (g.K.Sink.held c.put_differences.new.sink) (differences_frame l)) c.deref.ensures.value c.in-Ok-put_differences.ensures.bytes,
    )

pub returns-in-Err-put_differences-clause-compares : goal.returns-in-Err-put_differences-clause-compares
returns-in-Err-put_differences-clause-compares g c =
    let s = g.R.Replica.seen c.args.site.now in
    let live : s.live ≡ true = search rules in (
      live,
      c.in-Ok-read_comparison.ensures.ok.0,
      record { vector = c.args.vector; left_out = c.in-Ok-differing_by.differing.sites },
      compares s c.args.vector c.args.answer.now c.in-Ok-read_comparison.comparison _ refl c.in-Ok-read_comparison.ensures.ok.1 c.in-Ok-differing_by.ensures.differ,
      subst (λ (l : List ℕ). AppendsFront (g.K.Sink.held c.args.sink.now) (g.K.Sink.held c.put_differences.new.sink) (differences_frame l)) c.deref.ensures.value c.in-Err-put_differences.ensures.bytes,
      refl,
    )
