use Rattle.std.proofs.Common.{◌≡◌, IfOk, None, Some, refl, ap, sym, ◌∙◌, subst}
use Rattle.td_schema.specs.Kinds.{kind_of}
use Rattle.td_schema.specs.Scopes.{or_outer, visible, local}
use Rattle.td_schema.proofs.KindLemmas.{kind_back}
use Rattle.td_schema.proofs.Latests.{last_given, or_else}
use Rattle.td_schema.proofs.scope.Scope.+find.Goals as goal

pub returns-in_ok-copy-in-Some : goal.returns-in_ok-copy-in-Some
returns-in_ok-copy-in-Some t c =
    let x = c.args.name.now in
    ap (λ k. Some (local k)) (c.in_ok-copy-in-Some.ensures ∙ sym (kind_back c.ty.inside.kind) ∙ ap kind_of c.ty.view_is)
    ∙ ap (λ o. or_outer o (visible c.in-Within.outer.now x)) c.in-Some.ensures
    ∙ ap (λ s. visible s x) (sym c.in-Within.is)

pub returns-in_ok-copy-in-Some-latest_kind : goal.returns-in_ok-copy-in-Some-latest_kind
returns-in_ok-copy-in-Some-latest_kind t c =
    let outer = visible c.in-Given.outer.now in
    let x = c.args.name.now in
    ap (λ k. Some (local k)) c.in_ok-copy-in-Some-latest_kind.ensures
    ∙ ap (λ f. or_else f (outer x)) c.in-Some-latest_kind.ensures
    ∙ sym (last_given c.in-Given.names.now outer x None (outer x) refl)
    ∙ ap (λ s. visible s x) (sym c.in-Given.is)

pub returns-in-None-latest_kind : goal.returns-in-None-latest_kind
returns-in-None-latest_kind t c =
    let outer = visible c.in-Given.outer.now in
    let x = c.args.name.now in
    subst (λ m. IfOk c.find-in-None-latest_kind.result (λ r. r ≡ m))
    (ap (λ f. or_else f (outer x)) c.in-None-latest_kind.ensures
    ∙ sym (last_given c.in-Given.names.now outer x None (outer x) refl)
    ∙ ap (λ s. visible s x) (sym c.in-Given.is))
    c.find-in-None-latest_kind.ensures
