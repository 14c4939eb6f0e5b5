use Rattle.std.proofs.Common.{◌++◌, inl, inr, List, ℕ, Bor, false, refl, ap, ◌∙◌, arith}
use Rattle.std.specs.Str.Iter.{chars_rest}
use Rattle.std.proofs.lemmas.Str.Pattern.{strip_prefix_char}
use Rattle.td_tokens.specs.Lexer.{undoubled}
use Rattle.td_tokens.proofs.Quotes.{IsKept, written, opened}
use Rattle.td_tokens.proofs.token.Token.characters.Goals as goal
use Rattle.td_tokens.proofs.token.Token.characters.Goals.{else-c-eq39-via-then-c-eq39+else-not-after_quote, else-c-eq39-via-else-c-eq39}

pub loop-c-init : goal.loop-c-init
loop-c-init c =
    let bs = c.args.self.now.text.now in
    let stripped = strip_prefix_char 39 bs c.strip_prefix.result c.strip_prefix.ensures.cases (omega arith) in
    let rest = ap chars_rest c.into_iter-c-iterator.ensures.into_iter_gives ∙ c.chars-c-items.ensures.rest ∙ ap (λ (x : Bor (List ℕ)). x.now) c.unwrap_or-rest.ensures in
    ap (λ xs. xs ++ undoubled false c.into_iter-c-iterator.result.rest.now) c.new-characters.ensures.bytes
    ∙ ap (undoubled false) (rest ∙ opened bs c.strip_prefix.result c.args.self.now.text refl stripped)

pub loop-c-preserved : goal.loop-c-preserved
loop-c-preserved c =
    let keep : IsKept c.in-Some.c c.loop-c.after_quote = elim c.else-c-eq39.branch [
      | else-c-eq39-via-then-c-eq39+else-not-after_quote w ↦ inl (w.if-c-eq39.true, w.if-not-after_quote.false)
      | else-c-eq39-via-else-c-eq39 w ↦ inr w.if-c-eq39.false
    ] in
    written _ _ _ _ _ c.in-Some.c c.loop-c.after_quote c.in_ok-push.ensures.bytes c.in-Some.ensures.steps.0 keep c.loop-c.invariant
