use Rattle.std.specs.Str.{chars}
use Rattle.td_values.proofs.Shows.{spelled, at_end}
use Rattle.std.proofs.lemmas.Iterator.{YieldsList-from_chars}
use Rattle.std.proofs.lemmas.Iterator.Consumers.{YieldsList-end}
use Rattle.std.proofs.Common.{sym, map-id, ◌≡◌, ◌++◌, OnOk, subst, rules, ◌∙◌, codes, encode_utf8, string_bytes}
use Rattle.std.proofs.lemmas.Slice.{pushed}
use Rattle.td_values.proofs.Shows.{two_quotes, one_char}
use Rattle.td_values.proofs.shown.show_text.Goals as goal

pub loop-c-preserved-in-Continue-branch-2 : goal.loop-c-preserved-in-Continue-branch-2
loop-c-preserved-in-Continue-branch-2 c =
    pushed (codes "''") c.loop-c.invariant c.in_ok-push_str-2.was c.push_str-then-c-eq39.ensures.bytes ∙ two_quotes (string_bytes c.args.out.now) c.loop-c.yielded c.in-Some.c c.if-c-eq39.true

pub loop-c-preserved : goal.loop-c-preserved
loop-c-preserved c =
    pushed (encode_utf8 c.in-Some.c) c.loop-c.invariant c.in_ok-push.was c.push.ensures.bytes ∙ one_char (string_bytes c.args.out.now) c.loop-c.yielded c.in-Some.c c.if-c-eq39.false

pub returns : goal.returns
returns c =
    let end = YieldsList-end (YieldsList-from_chars c.args.s.now c.utf8.s cc) c.loop-c.yielded _ c.loop-c.yielded_by _ _ c.in-None.is c.next.ensures.steps in
    let done : c.loop-c.yielded ≡ chars c.args.s.now = sym (map-id c.loop-c.yielded) ∙ end.0 in
    subst (λ ys. OnOk c.push_str-2.result (string_bytes c.push_str-2.new.self ≡ string_bytes c.args.out.now ++ (codes "'" ++ (spelled ys ++ codes "'")))) done
    (subst (λ w. OnOk c.push_str-2.result (string_bytes c.push_str-2.new.self ≡ w)) (at_end (string_bytes c.args.out.now) c.loop-c.yielded) (subst (λ w. OnOk c.push_str-2.result (string_bytes c.push_str-2.new.self ≡ w ++ codes "'")) c.loop-c.invariant (search rules)))
