-- A text may be cut where a piece ends.
use Rattle.std.proofs.Common.{◌≡◌, ℕ, true, sym, ◌∙◌, subst, arith, IsUtf8}
use Rattle.std.specs.List.{prefix_len}
use Rattle.std.specs.Str.{IsCharBoundary}
use Rattle.std.proofs.lemmas.Str.{IsCharBoundary-after_ascii}
use Rattle.std.proofs.lemmas.List.Folds.{length-prefix_len}
use Rattle.td_values.specs.Names.{goes_on_in_name}
use Rattle.td_tokens.specs.Lex.{Text, first}
use Rattle.td_tokens.proofs.Cuts.{IsCut, run_cut}

pub cut_boundary : (bs : Text) (n : ℕ) → IsUtf8 bs → IsCut bs n → IsCharBoundary bs n
cut_boundary bs n utf8 cut = subst (IsCharBoundary bs) (let e = cut.length_is in omega arith) (IsCharBoundary-after_ascii bs cut.last utf8 cut.within cut.ascii)

pub run_boundary : (bs : Text) (n : ℕ) → IsUtf8 bs → goes_on_in_name (first bs) ≡ true → n ≡ prefix_len goes_on_in_name bs → IsCharBoundary bs n
run_boundary bs n utf8 goes is = subst (IsCharBoundary bs) (length-prefix_len goes_on_in_name bs ∙ sym is) (cut_boundary bs _ utf8 (run_cut bs goes))
