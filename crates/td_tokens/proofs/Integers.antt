-- What `parse` gives of a run of letters and digits is its value.
use Rattle.std.proofs.Common.{Option, ◌≡◌, ◌≢◌, ◌≤◌, ◌<◌, ◌+◌, ◌-◌, ◌*◌, ◌^◌, ℕ, Bool, true, false, [], ◌∷◌, Some, None, Result, Ok, Err, length, fold, refl, subst, arith, rules}
use Rattle.std.specs.Prelude.{cond, option_and_then, slice_index, nat_le}
use Rattle.std.specs.Char.{is_ascii_digit}
use Rattle.std.specs.List.{list_all}
use Rattle.std.specs.Result.{OkIff, result_ok}
use Rattle.std.specs.Str.Parse.{ParsesUnsigned}
use Rattle.std.proofs.lemmas.Bool.Decides.{nat_tests}
use Rattle.std.proofs.lemmas.Str.Parse.{IsNumeralModel, numerals_by_fold, parse_plain}
use Rattle.td_values.specs.Names.{goes_on_in_name}
use Rattle.td_tokens.specs.declared.token.TokenKind.{TokenKind}
use Rattle.td_tokens.specs.declared.token.TokenKind.TheVariants as kind
use Rattle.td_tokens.specs.Lex.{Text, value, largest_int}
use Rattle.td_tokens.specs.Lexer.{int_kind}

own : IsNumeralModel (λ ds. list_all is_ascii_digit ds ≡ true) value
own = numerals_by_fold _ (search rules) (λ n ds. fold (λ n b. 10 * n + (b - 48)) n ds) (search rules)

no_plus : (b : ℕ) → goes_on_in_name b ≡ true → b ≢ 43
no_plus b h e = let no : false ≡ true = subst (λ x. goes_on_in_name x ≡ true) e h in cc

parsed : {E : Type 0} (bs : Text) (r : Result ℕ E) → ParsesUnsigned 64 10 bs r → goes_on_in_name (slice_index bs 0) ≡ true → OkIff r ((list_all is_ascii_digit bs ≡ true) × (0 < length bs) × (value bs < 2 ^ 64)) (value bs)
parsed bs r h goes = parse_plain own 64 bs r h (no_plus (slice_index bs 0) goes)

no_int : (bs : Text) (digits small : Bool) → list_all is_ascii_digit bs ≡ digits → nat_le (value bs) largest_int ≡ small → 0 < length bs → ¬ ((list_all is_ascii_digit bs ≡ true) × (0 < length bs) × (value bs < 2 ^ 64)) → int_kind bs ≡ None
unfolding int_kind
no_int bs false small d f some_byte other = rw d refl
no_int bs true false d f some_byte other = rw (d, f) refl
no_int bs true true d f some_byte other = absurd (other (d, some_byte, (let h : value bs ≤ largest_int = grind (arith, nat_tests) in omega arith)))

nonempty : (bs : Text) → goes_on_in_name (slice_index bs 0) ≡ true → 0 < length bs
nonempty [] goes = absurd (let no : ⊥ = cc in no)
nonempty (b ∷ bs) goes = omega arith

-- an integer that is not too large
abbrev pub in_range : ℕ → Option TokenKind
in_range v = cond (nat_le v largest_int) (Some (kind.Int v)) None

-- A run is an integer where it parses as one in range.
pub int_parsed : {E : Type 0} (bs : Text) (r : Result ℕ E) → ParsesUnsigned 64 10 bs r → goes_on_in_name (slice_index bs 0) ≡ true → int_kind bs ≡ option_and_then in_range (result_ok r)
unfolding int_kind
int_parsed {E} bs (Ok v) h goes =
    let ok = parsed {E = E} bs (Ok v) h goes in rw (ok.0.0, ← ok.1) refl
int_parsed bs (Err e) h goes = no_int bs _ _ refl refl (nonempty bs goes) (parsed bs (Err e) h goes)

pub fits_range : (v : ℕ) → v ≤ largest_int → in_range v ≡ Some (kind.Int v)
fits_range v h = let fits : nat_le v largest_int ≡ true = grind (arith, nat_tests) in rw fits refl

pub past_range : (v : ℕ) → largest_int < v → in_range v ≡ None
past_range v h = let past : nat_le v largest_int ≡ false = grind (arith, nat_tests) in rw past refl
