use Rattle.std.proofs.Common.{◌≡◌, ◌<◌, List, length, get_or, map, true, sym, subst}
use Rattle.std.specs.List.{list_all}
use Rattle.std.specs.Str.{IsCharBoundary}
use Rattle.td_tokens.specs.declared.token.Token.{Token}
use Rattle.td_tokens.specs.View.{lexeme_of}
use Rattle.td_grammar.specs.ForProofs.Readings.{fits}
use Rattle.td_grammar.proofs.Lexing.{read_names}
use Rattle.td_grammar.proofs.Begins.{token_stands}
use Rattle.td_grammar.proofs.stops.stop.Goals as goal

pub new-rest-requires : goal.new-rest-requires
new-rest-requires c = subst (λ (ts : List Token). list_all fits (map lexeme_of ts) ≡ true) (sym c.deref.ensures.value) (read_names _ _ c.in_ok-all.ensures.ok)

pub returns-in-Some : goal.returns-in-Some
returns-in-Some c =
    let t = c.in-Some.token.now in
    let within = subst (λ (ts : List Token). c.saturating_sub.result < length ts) c.deref-2.ensures.value c.in-Some.ensures.lookup.3.0 in
    let at = subst (λ (ts : List Token). t ≡ get_or ts c.saturating_sub.result t) c.deref-2.ensures.value (c.in-Some.ensures.lookup.3.1 t) in
    let stands = token_stands c.args.text.now _ c.saturating_sub.result t c.utf8.text c.in_ok-all.ensures.ok within in
    subst (λ (x : Token). IsCharBoundary c.args.text.now x.start) (sym at) stands
