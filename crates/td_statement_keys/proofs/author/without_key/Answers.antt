use Rattle.std.proofs.Common.{rules, ◌≡◌, ◌⊎◌, ◌<◌, length, drop, if◌then◌else◌, ⊎_elim, sym, ap, arith}
use Rattle.td_statement_keys.proofs.Comments.{short-keyed}
use Rattle.td_statement_keys.proofs.author.without_key.Goals as goal

pub returns-in_default-2 : goal.returns-in_default-2
returns-in_default-2 c =
    let text = c.args.text.now in
    let either : (length text < 23) ⊎ (length text < length text) = search rules in
    let short : length text < 23 =
    ⊎_elim (λ (a : length text < 23). a) (λ (b : length text < length text). omega (arith, b)) either in
    sym (ap (λ b. if b then drop 23 text else text) (short-keyed text short))
