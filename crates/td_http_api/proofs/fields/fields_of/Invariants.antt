use Rattle.std.proofs.Common.{◌≡◌, map, ◌++◌}
use Rattle.form_urlencoded.specs.Parse.{owned_pairs_left}
use Rattle.td_http_api.specs.Fields.{decoded_pair, field_texts, query_fields}
use Rattle.td_http_api.proofs.fields.fields_of.Given as goal

-- the fields so far, and those that are left, are all
abbrev pub invariant-loop-field : goal.invariant-loop-field
invariant-loop-field l =
    map field_texts l.fields.items ++ map decoded_pair (owned_pairs_left l.field-iterator) ≡ query_fields l.query
