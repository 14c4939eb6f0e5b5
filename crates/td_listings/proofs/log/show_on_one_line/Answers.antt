use Rattle.std.proofs.Common.{◌++◌, encode_utf8, string_bytes, sym, ap, ◌∙◌}
use Rattle.td_listings.proofs.Showing.{more, one_char}
use Rattle.td_listings.proofs.log.show_on_one_line.Goals as goal

pub loop-c-preserved : goal.loop-c-preserved
loop-c-preserved c =
    c.in_ok-push.ensures.bytes ∙ ap (λ s. s ++ encode_utf8 c.showing.result) c.loop-c.invariant
    ∙ more (string_bytes c.args.out.now) c.loop-c.yielded c.in-Some.c (encode_utf8 c.showing.result) (one_char c.in-Some.c ∙ ap encode_utf8 (sym c.showing.ensures))
