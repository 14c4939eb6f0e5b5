use Rattle.std.proofs.Common.{rules, ◌≡◌, map, sym, ap, ◌∙◌}
use Rattle.std.proofs.lemmas.List.{drop_all}
use Rattle.td_http_api.specs.Fields.{field_texts, field_value}
use Rattle.td_http_api.specs.Members.{member_name}
use Rattle.td_http_api.proofs.FieldLemmas.{value_found, value_passed}
use Rattle.td_http_api.proofs.fields.field_value.Goals as goal

pub returns-then-eq : goal.returns-then-eq
returns-then-eq c =
    search (rules, value_found (member_name c.args.member) c.args.fields.now c.loop-name.name-index c.loop-name-item.result)

pub loop-name-preserved : goal.loop-name-preserved
loop-name-preserved c =
    search (rules, value_passed (member_name c.args.member) c.args.fields.now c.loop-name.name-index c.loop-name-item.result)

pub returns : goal.returns
unfolding field_value
returns c =
    sym (ap (λ ys. field_value (member_name c.args.member) (map field_texts ys)) (drop_all _ _ c.loop-name-test.false))
    ∙ c.loop-name.invariant
