use Rattle.std.proofs.Common.{List, ◌++◌, take, drop, ℕ, length-take-le, sym, ap, ◌∙◌, subst, arith}
use Rattle.std.proofs.lemmas.List.{take-append-le, take_all}
use Rattle.std.specs.Io.Buffered.{reader_remaining}
use Rattle.std.specs.Io.KnownBytes.{Consumes}
use Rattle.td_io.proofs.LineEnds.{taken_at_most}
use Rattle.td_io.proofs.Moves.{shown_taken}
use Rattle.td_io.proofs.device.attempts.take_of_line.Goals as goal

pub returns-clause-bytes : goal.returns-clause-bytes
returns-clause-bytes g c =
    let n = c.length_of_line-length.result in
    let shown = c.buffer-shown.result.now in
    let within = c.length_of_line-length.ensures.bound in
    let rest = drop n c.args.buf.now in
    let front = ap (λ (q : List ℕ). take n (q ++ rest)) c.copy_from_slice.ensures.after
    ∙ take-append-le n (take n shown) rest (omega (arith, length-take-le n shown within))
    ∙ take_all n (take n shown) (taken_at_most n shown) in
    subst (Consumes (reader_remaining g.R.Read.remaining c.args.inner.now) (reader_remaining g.R.Read.remaining c.consume.new.self)) (sym front) (shown_taken shown n g.R.Read.remaining c.args.inner.now _ c.buffer-shown.ensures c.consume.ensures.bytes within)
