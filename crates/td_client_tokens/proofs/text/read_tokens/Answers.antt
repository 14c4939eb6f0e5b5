use Rattle.std.proofs.Common.{◌≡◌, ◌⊎◌, ℕ, [], List, Ok, Err, ap, map, subst, ◌∙◌}
use Rattle.std.specs.Prelude.{IfOk, IfErr}
use Rattle.std.specs.Str.Lines.{lines}
use Rattle.std.proofs.lemmas.Iterator.Consumers.{map_from_collect}
use Rattle.std.proofs.lemmas.Iterator.Splits.{YieldsList-from_lines}
use Rattle.std.specs.declared.alloc.AllocError.{AllocError}
use Rattle.td_client_tokens.specs.declared.text.ReadTokensError.TheVariants.{OutOfMemory}
use Rattle.td_client_tokens.specs.Texts.{tokens_after}
use Rattle.td_client_tokens.specs.Tokens.{shown}
use Rattle.td_client_tokens.proofs.text.read_tokens.Goals as goal

pub returns-clause-tokens : goal.returns-clause-tokens
returns-clause-tokens c =
    let same : map (λ x. x.now) c.in_ok-lines.lines.items ≡ lines c.args.text.now = map_from_collect {E = AllocError} (Ok c.in_ok-lines.lines) c.in_ok-lines.ensures.ran (YieldsList-from_lines c.args.text.now c.lines.ensures.rest) in
    let all : map (λ x. x.now) c.deref.result.now ≡ lines c.args.text.now = ap (map (λ x. x.now)) c.deref.ensures.value ∙ same in
    subst (λ (ls : List (List ℕ)). IfOk c.read_lines.result (λ v. tokens_after ls 1 [] ≡ Ok (map shown v.items))) all c.read_lines.ensures.tokens

pub returns-clause-fault : goal.returns-clause-fault
returns-clause-fault c =
    let same : map (λ x. x.now) c.in_ok-lines.lines.items ≡ lines c.args.text.now = map_from_collect {E = AllocError} (Ok c.in_ok-lines.lines) c.in_ok-lines.ensures.ran (YieldsList-from_lines c.args.text.now c.lines.ensures.rest) in
    let all : map (λ x. x.now) c.deref.result.now ≡ lines c.args.text.now = ap (map (λ x. x.now)) c.deref.ensures.value ∙ same in
    subst (λ (ls : List (List ℕ)). IfErr c.read_lines.result (λ e. (e ≡ OutOfMemory) ⊎ (tokens_after ls 1 [] ≡ Err e))) all c.read_lines.ensures.fault
