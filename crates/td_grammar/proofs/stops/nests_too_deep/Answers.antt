use Rattle.std.proofs.Common.{◌≡◌, List, map, true, sym, subst}
use Rattle.std.specs.List.{list_all}
use Rattle.td_tokens.specs.declared.token.Token.{Token}
use Rattle.td_tokens.specs.View.{lexeme_of}
use Rattle.td_grammar.specs.ForProofs.Readings.{fits}
use Rattle.td_grammar.proofs.Lexing.{read_names}
use Rattle.td_grammar.proofs.stops.nests_too_deep.Goals as goal

pub new-requires : goal.new-requires
new-requires c = subst (λ (ts : List Token). list_all fits (map lexeme_of ts) ≡ true) (sym c.deref.ensures.value) (read_names _ _ c.in_ok-all.ensures.ok)

pub new-requires-2 : goal.new-requires-2
new-requires-2 c = subst (λ (ts : List Token). list_all fits (map lexeme_of ts) ≡ true) (sym c.deref-2.ensures.value) (read_names _ _ c.in_ok-all.ensures.ok)
