use Rattle.std.proofs.Common.{◌≡◌, ℕ, List, [], Option, Some, None, get_or, refl, ap, ◌∙◌, option_map, Bor}
use Rattle.std.specs.Prelude.{unwrap_or}
use Rattle.std.specs.Str.Lines.{lines}
use Rattle.std.proofs.lemmas.Option.{unwrap_or-slice_get}
use Rattle.std.proofs.lemmas.Iterator.Splits.{YieldsList-from_lines}
use Rattle.std.proofs.lemmas.Iterator.Consumers.{nth_from_yields_List}
use Rattle.td_parse_errors.proofs.position.line_of.Goals as goal

now_of : (r : Option (Bor (List ℕ))) (d : Bor (List ℕ)) → (unwrap_or r d).now ≡ unwrap_or (option_map (λ x. x.now) r) d.now
now_of None d = refl
now_of (Some x) d = refl

pub returns : goal.returns
returns c =
    let nth = nth_from_yields_List c.nth.result c.nth.new.self c.saturating_sub.result c.nth.ensures.ran (YieldsList-from_lines c.args.text.now c.lines.ensures.rest) in
    ap (λ (x : Bor (List ℕ)). x.now) c.unwrap_or.ensures ∙ now_of c.nth.result _ ∙ ap (λ o. unwrap_or o []) nth
    ∙ unwrap_or-slice_get (lines c.args.text.now) c.saturating_sub.result []
    ∙ ap (λ n. get_or (lines c.args.text.now) n []) c.saturating_sub.ensures
