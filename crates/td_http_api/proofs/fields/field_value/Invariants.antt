use Rattle.std.proofs.Common.{◌≡◌, map, drop}
use Rattle.td_http_api.specs.Fields.{field_texts, field_value}
use Rattle.td_http_api.specs.Members.{member_name}
use Rattle.td_http_api.proofs.fields.field_value.Given as goal

-- the fields that are left give what all of them give
abbrev pub invariant-loop-name : goal.invariant-loop-name
invariant-loop-name l =
    field_value (member_name l.member) (map field_texts (drop l.name-index l.fields)) ≡ field_value (member_name l.member) (map field_texts l.fields)
