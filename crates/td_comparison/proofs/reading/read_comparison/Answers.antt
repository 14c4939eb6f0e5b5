use Rattle.std.proofs.Common.{◌≡◌, ◌-◌, ℕ, List, length, take, drop, sym, ap, ◌∙◌, arith}
use Rattle.std.proofs.lemmas.Bool.{and_from, and_right}
use Rattle.std.proofs.lemmas.List.{take_rest}
use Rattle.td_comparison.specs.declared.digest.SiteDigest.{SiteDigest}
use Rattle.td_comparison.specs.Messages.{are_digests, digests_in, has_head, lines_in, long_at}
use Rattle.td_comparison.proofs.Pieces.{few_digests, length-lines_in}
use Rattle.td_comparison.proofs.reading.read_comparison.Goals as goal

-- what was read behind the head
seen : (bytes : List ℕ) (n : ℕ) (ds : List SiteDigest) → ds ≡ lines_in n (take (length bytes - 43) (drop 43 bytes)) → n ≡ long_at 39 bytes → ds ≡ digests_in bytes
seen bytes n ds read count = read ∙ ap (λ (k : ℕ). lines_in k (take (length bytes - 43) (drop 43 bytes))) count ∙ ap (lines_in (long_at 39 bytes)) (take_rest bytes 43)

pub returns-then-not-are_digests-clause-malformed : goal.returns-then-not-are_digests-clause-malformed
returns-then-not-are_digests-clause-malformed c = λ _.
    let bytes = c.args.bytes.now in
    let all = seen bytes c.long_at-count.result c.in-Ok.digests.items c.in-Ok.ensures c.long_at-count.ensures in
    and_right (has_head bytes) (are_digests (digests_in bytes)) (sym (c.if-not-are_digests.ensures ∙ ap are_digests (c.deref.ensures.value ∙ all)))

pub returns-clause-ok : goal.returns-clause-ok
returns-clause-ok c =
    let bytes = c.args.bytes.now in
    let all = seen bytes c.long_at-count.result c.in-Ok.digests.items c.in-Ok.ensures c.long_at-count.ensures in (
      and_from (has_head bytes) (are_digests (digests_in bytes)) (sym c.if-not-has_head.ensures) (sym (c.if-not-are_digests.ensures ∙ ap are_digests (c.deref.ensures.value ∙ all))),
      record { site = c.short_at.ensures; script = c.script_in.ensures; digests = all },
    )

pub returns-clause-few : goal.returns-clause-few
returns-clause-few c =
    let bytes = c.args.bytes.now in
    let all = seen bytes c.long_at-count.result c.in-Ok.digests.items c.in-Ok.ensures c.long_at-count.ensures in
    let few = few_digests bytes (sym c.if-not-has_head.ensures) in
    omega (arith, few, ap length all ∙ length-lines_in (long_at 39 bytes) (drop 43 bytes))
