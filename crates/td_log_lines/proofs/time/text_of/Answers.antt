use Rattle.std.proofs.Common.{arith, ◌≡◌, ◌^◌, ◌-◌, false, [], ℕ, append_assoc, append-nil, ◌∙◌, to_z-of_z, FitsSigned}
use Rattle.std.specs.Int.{w16}
use Rattle.std.specs.Fmt.{padded_integral, format_spec, decimal, char_count, number_padding}
use Rattle.std.proofs.lemmas.Result.{IfOk-weaker}
use Rattle.jiff_core.proofs.SignedLemmas.{signed_arith}
use Rattle.td_log_lines.specs.Times.{zero_padded}
use Rattle.td_log_lines.proofs.time.text_of.Goals as goal

-- how many zeros come before a number's digits
zeros : (digits len : ℕ) → number_padding (format_spec 32 0 4 digits (2 ^ 64 - 1)) false [] len ≡ digits - len
unfolding char_count
zeros digits len = omega arith

-- what `{n:02}` writes
two : (n : ℕ) → padded_integral (format_spec 32 0 4 2 (2 ^ 64 - 1)) false [] (decimal n) ≡ zero_padded 2 n
unfolding padded_integral char_count
two n = simp (append-nil, zeros)

-- what `{n:04}` writes
four : (n : ℕ) → padded_integral (format_spec 32 0 4 4 (2 ^ 64 - 1)) false [] (decimal n) ≡ zero_padded 4 n
unfolding padded_integral char_count
four n = simp (append-nil, zeros)

pub returns : goal.returns
returns c =
    let year_in = c.args.at.date.year_in in
    let fits : FitsSigned w16 c.args.at.date.year = omega (arith, signed_arith) in
    IfOk-weaker c.format.result _ _
    (λ s e. let f = rw (c.laid_out.ensures, c.laid_out-2.ensures, c.laid_out-3.ensures, c.laid_out-4.ensures, c.laid_out-5.ensures, c.laid_out-6.ensures, c.unsigned_abs-year.ensures.value) at e in
    f ∙ simp (two, four, append_assoc, to_z-of_z fits)) c.format.ensures.ok
