use Rattle.std.proofs.Common.{◌<◌, ◌≤◌, subst, ◌∙◌}
use Rattle.td_relvars.proofs.Inits.{Begun, counted, ended, more, stopped}
use Rattle.td_relvars.proofs.opening.open_in_order.Goals as goal

pub returns-in-Err-put_init : goal.returns-in-Err-put_init
returns-in-Err-put_init c =
    let k = c.args.catalogue in
    let n = c.loop-place.place in
    let begun : Begun k n c.loop-place.database = record { same = c.loop-place.invariant.same; left = c.loop-place.invariant.left } in
    let count = counted k c.catalogue.result.now c.schema.result.now c.relvar_count-place-end.result c.relvar_count-place-end.ensures c.schema.ensures.schema (c.catalogue.ensures.same ∙ c.in-Ok.ensures.catalogue) c.schema.ensures.defined in
    stopped k n c.loop-place.database begun c.in-Err-put_init.failure c.put_init.new.database.stored (subst (λ m. n < m) count c.loop-place-test.true) c.in-Err-put_init.ensures.stored

pub loop-place-preserved : goal.loop-place-preserved
loop-place-preserved c =
    let k = c.args.catalogue in
    let n = c.loop-place.place in
    let begun : Begun k n c.loop-place.database = record { same = c.loop-place.invariant.same; left = c.loop-place.invariant.left } in
    let count = counted k c.catalogue.result.now c.schema.result.now c.relvar_count-place-end.result c.relvar_count-place-end.ensures c.schema.ensures.schema (c.catalogue.ensures.same ∙ c.in-Ok.ensures.catalogue) c.schema.ensures.defined in
    let next = more k n c.loop-place.database begun c.put_init.new.database (subst (λ m. n < m) count c.loop-place-test.true) c.in-Ok-put_init.ensures.catalogue c.in-Ok-put_init.ensures.stored in
    record { same = next.same; left = next.left }

pub returns : goal.returns
returns c =
    let k = c.args.catalogue in
    let n = c.loop-place.place in
    let begun : Begun k n c.loop-place.database = record { same = c.loop-place.invariant.same; left = c.loop-place.invariant.left } in
    let count = counted k c.catalogue.result.now c.schema.result.now c.relvar_count-place-end.result c.relvar_count-place-end.ensures c.schema.ensures.schema (c.catalogue.ensures.same ∙ c.in-Ok.ensures.catalogue) c.schema.ensures.defined in
    ended k n c.loop-place.database begun (subst (λ m. m ≤ n) count c.loop-place-test.false)
