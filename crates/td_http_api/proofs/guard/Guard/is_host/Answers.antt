use Rattle.std.proofs.Common.{length, arith, ap, refl, sym}
use Rattle.td_http_api.proofs.guard.Guard.is_host.Goals as goal

pub returns-then-eq_ignore_ascii_case : goal.returns-then-eq_ignore_ascii_case
returns-then-eq_ignore_ascii_case c =
    let items = c.deref-own-items.ensures.value in
    let same = c.if-eq_ignore_ascii_case.ensures.test.0 refl in
    λ _. (
      c.loop-own.own-index,
      c.own-item.result,
      omega (arith, ap length items),
      rw (← items) (sym c.own-item.is),
      rw (← c.as_bytes.ensures.value) same,
    )
