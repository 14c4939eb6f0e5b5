-- One step of nesting.
use Rattle.std.proofs.Common.{◌≡◌, ◌<◌, ◌-◌, ℕ, zero, suc, None, refl, arith}
use Rattle.td_grammar.specs.declared.forms.Form.{Form}
use Rattle.td_grammar.specs.Grammar.{Tokens}
use Rattle.td_grammar.specs.ForProofs.Reader.{and_then, form_at, within, reads}

pub no_depth : (n b : ℕ) (g : Form) (ts : Tokens) → n ≡ 0 → reads n b g ts ≡ None
unfolding reads
no_depth zero b g ts h = refl
no_depth (suc n) b g ts h = absurd (omega arith)

pub no_levels : (n b : ℕ) (g : Form) (ts : Tokens) → b ≡ 0 → reads n b g ts ≡ None
unfolding reads
no_levels zero b g ts h = refl
no_levels (suc n) zero g ts h = refl
no_levels (suc n) (suc b) g ts h = absurd (omega arith)

less : (n : ℕ) → suc n - 1 ≡ n
less n = omega arith

pub one_deeper : (n b : ℕ) (g : Form) (ts : Tokens) → 0 < n → 0 < b → reads n b g ts ≡ and_then (form_at (reads (n - 1)) (b - 1) g ts) (within (suc (b - 1)))
unfolding reads
one_deeper zero b g ts h k = absurd (omega arith)
one_deeper (suc n) zero g ts h k = absurd (omega arith)
one_deeper (suc n) (suc b) g ts h k = rw (less n, less b) refl
