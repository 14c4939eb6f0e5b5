-- A literal is a query, with its value's type, that means its value.
use Rattle.std.proofs.Common.{◌≡◌, [], refl, sym, ap, ◌∙◌, subst, arith}
use Rattle.std.proofs.lemmas.List.{append-nil}
use Rattle.td_values.specs.Data.{Datum}
use Rattle.td_values.specs.Shown.{shown}
use Rattle.td_values.specs.Whole.{type_of}
use Rattle.td_grammar.specs.Grammar.{IsExpr, IsQuery}
use Rattle.td_schema.specs.Kinds.{kind_of}
use Rattle.td_schema.specs.Schemas.{SchemaData}
use Rattle.td_schema.proofs.KindLemmas.{kind_back}
use Rattle.td_typing.specs.Types.{Types}
use Rattle.td_meaning.specs.Mean.{Selection}
use Rattle.td_literal_round_trip.specs.Laws.{ShownIsReadBack}
use Rattle.td_literal_round_trip.specs.Literals.{IsLiteral}
use Rattle.td_literal_round_trip.proofs.Lexing.{stands}
use Rattle.td_literal_round_trip.proofs.Meant.{back}
use Rattle.td_literal_round_trip.proofs.Pieces.{Lexes, at_end}
use Rattle.td_literal_round_trip.proofs.Reading.{reads_whole}
use Rattle.td_literal_round_trip.proofs.Shallow.{AreShallow, deep, opens, shallow_spanned}
use Rattle.td_literal_round_trip.proofs.Tokens.{tokens}
use Rattle.td_literal_round_trip.proofs.Trees.{tree}

is_query : (s : SchemaData) (selection : Selection) (d : Datum) → IsLiteral s selection d → IsQuery (shown d) (tree d)
is_query s selection d is =
    let own : Lexes (shown d) (tokens d []) = subst (λ bs. Lexes bs (tokens d [])) (append-nil (shown d)) (stands s selection d is.written [] [] (record { no_run = refl; no_quote = refl }) at_end) in
    let few = is.shallow in
    let read = own 0 in
    let fits : AreShallow 0 (tokens d []) = opens d 0 [] (omega (arith, few)) (omega arith) in
    let whole : IsExpr (tokens d []) (tree d) = record { reads = reads_whole d; shallow = omega (arith, few, deep d) } in
    record {
      spans = read.0;
      lexed = (read.1, shallow_spanned 0 read.0 (subst (AreShallow 0) (sym read.2) fits));
      tree = subst (λ ts. IsExpr ts (tree d)) (sym read.2) whole;
      short = is.short;
    }

pub read_back : ShownIsReadBack
read_back s relvars selection scope names d k has is =
    let own = back s relvars selection scope names d is.value is.whole is.written in
    let kind : kind_of (type_of d) ≡ k = ap kind_of has ∙ kind_back k in
    (tree d, own.0, is_query s selection d is, subst (Types s scope (tree d) own.0) kind own.1, own.2)
