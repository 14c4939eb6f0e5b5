use Rattle.std.proofs.Common.{sym, ◌∙◌}
use Rattle.td_meeting.proofs.Greeting.{differ, equal}
use Rattle.td_meeting.proofs.hearing.hear.Goals as goal

pub returns-then-ne-clause-unheard : goal.returns-then-ne-clause-unheard
returns-then-ne-clause-unheard g c =
    let (bytes, consumed, told) = c.in-Ok.ensures.told in
    (c.in-Ok.greeting, record { bytes = bytes; consumed = consumed; reads = told.0 }, (λ same. differ _ _ c.ne.result c.ne.ensures c.if-ne.true (c.as_str.ensures ∙ same ∙ sym c.script.ensures)), told.1)

pub returns-then-greeting-site-clause-unheard : goal.returns-then-greeting-site-clause-unheard
returns-then-greeting-site-clause-unheard g c =
    let (bytes, consumed, told) = c.in-Ok.ensures.told in
    (c.in-Ok.greeting, record { bytes = bytes; consumed = consumed; reads = told.0 }, sym c.as_str.ensures ∙ equal _ _ c.ne.result c.ne.ensures c.if-ne.false ∙ c.script.ensures, c.if-greeting-site.true ∙ c.site.ensures.number, told.1)
