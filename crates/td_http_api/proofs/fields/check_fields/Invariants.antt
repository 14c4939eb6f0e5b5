use Rattle.std.proofs.Common.{map, take}
use Rattle.td_http_api.specs.Fields.{field_texts}
use Rattle.td_http_api.specs.Requests.{AreKnown}
use Rattle.td_http_api.proofs.fields.check_fields.Given as goal

-- the fields so far are known
abbrev pub invariant-loop-i : goal.invariant-loop-i
invariant-loop-i l = AreKnown l.members (map field_texts (take l.i l.fields))
