use Rattle.std.proofs.Common.{rules, arith, take, length-take-le}
use Rattle.std.proofs.KnownBytes.{Keeps-trans, Consumes-kept}
use Rattle.td_io.proofs.Moves.{goes_on, ended}
use Rattle.td_io.proofs.pieces.fill.Goals as goal

pub returns-in-Ok-eq0-clause-err : goal.returns-in-Ok-eq0-clause-err
returns-in-Ok-eq0-clause-err g c =
    let all = ended _ _ _ c.loop-at.at c.in-Ok-eq0.field-0 c.loop-at.buf c.read_some.new.buf c.in-Ok-eq0.field-0-test c.loop-at.invariant.bytes c.in-Ok-eq0.ensures.bytes.0 in
    (take c.loop-at.at c.loop-at.buf, omega (arith, c.loop-at.auto.buf, length-take-le c.loop-at.at c.loop-at.buf c.loop-at.invariant.within), all)

pub loop-at-preserved : goal.loop-at-preserved
loop-at-preserved g c = record {
  within = search rules;
  bytes = goes_on _ _ _ c.loop-at.at c.in-Ok.n c.loop-at.buf c.read_some.new.buf c.loop-at.invariant.within c.in-Ok.ensures.bound.0 c.loop-at.invariant.bytes c.in-Ok.ensures.bytes.0;
  beside = Keeps-trans _ _ _ c.loop-at.invariant.beside c.in-Ok.ensures.beside;
  count = search rules;
}

pub returns-in-Err-clause-err : goal.returns-in-Err-clause-err
returns-in-Err-clause-err g c =
    (take c.loop-at.at c.loop-at.buf, omega (arith, c.loop-at.auto.buf, length-take-le c.loop-at.at c.loop-at.buf c.loop-at.invariant.within), Consumes-kept _ _ _ _ c.loop-at.invariant.bytes c.in-Err.ensures.bytes)
