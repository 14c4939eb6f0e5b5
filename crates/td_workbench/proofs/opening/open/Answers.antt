use Rattle.std.proofs.Common.{ℕ, Option, option_map, Vec, map, string_bytes, sym, ◌∙◌, subst, inl}
use Rattle.std.specs.Global.{Global}
use Rattle.std.specs.Str.{IsUtf8}
use Rattle.td_workbench.specs.ForProofs.Reading.{IsKeptScript}
use Rattle.td_workbench.proofs.Starting.{judged, limits, new_of, no_text, opened_of}
use Rattle.td_workbench.proofs.opening.open.Goals as goal

pub returns-in-Ok-clause-judged : goal.returns-in-Ok-clause-judged
returns-in-Ok-clause-judged g c = λ text kept.
    let (is, short) = subst (λ (o : Option (Vec ℕ Global)). IsKeptScript text (option_map (λ v. v.items) o)) c.in-Some.is kept in
    judged (λ o. map g.R.Replica.seen o.sites.items) (λ o. o.catalogue) (λ o. string_bytes o.ready) c.args.options.now c.in-Ok.text.now text c.open_text.result (c.in-Ok.ensures.cases.0 ∙ c.deref.ensures.value ∙ is) (subst IsUtf8 (sym c.in-Ok.ensures.cases.0) c.in-Ok.ensures.cases.1) short c.open_text.ensures

pub returns-in-Err-clause-judged : goal.returns-in-Err-clause-judged
returns-in-Err-clause-judged g c = λ text kept.
    let (is, short) = subst (λ (o : Option (Vec ℕ Global)). IsKeptScript text (option_map (λ v. v.items) o)) c.in-Some.is kept in
    inl (no_text c.deref.result.now text (c.deref.ensures.value ∙ is) c.in-Err.ensures.cases.0)

pub returns-in-Ok-clause-catalogue : goal.returns-in-Ok-clause-catalogue
returns-in-Ok-clause-catalogue g c = opened_of (λ o. map g.R.Replica.seen o.sites.items) (λ o. o.catalogue) (λ o. string_bytes o.ready) c.args.options.now c.in-Ok.text.now c.open_text.result c.open_text.ensures

pub returns-in-Ok-clause-new : goal.returns-in-Ok-clause-new
returns-in-Ok-clause-new g c =
    new_of (λ o. map g.R.Replica.seen o.sites.items) (λ o. o.catalogue) (λ o. string_bytes o.ready) c.args.options.now c.in-Ok.text.now c.open_text.result c.requires.some_first (limits c.args.options.now c.requires) c.open_text.ensures
