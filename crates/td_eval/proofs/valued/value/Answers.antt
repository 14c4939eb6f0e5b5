use Rattle.std.proofs.Common.{Ok, Err, ap, sym, ◌∙◌}
use Rattle.td_values.specs.Data.{attrs_of}
use Rattle.td_semantics.specs.Raises.{stop_of}
use Rattle.td_eval.proofs.Told.{raised, told, typed}
use Rattle.td_eval.proofs.valued.value.Goals as goal

pub returns-in-Ok-clause-told : goal.returns-in-Ok-clause-told
returns-in-Ok-clause-told g c =
    told c.args.catalogue.now c.args.expr.now (g.L.Lookup.relvars c.args.lookup.now) c.in_ok-no_tuple.no_tuple c.was_defined.ensures c.requires.expr c.requires.bases (c.in_ok-no_tuple.ensures ∙ ap attrs_of c.new.ensures.items)
    (Ok c.in-Ok.value) c.in-Ok.ensures

pub returns-in-Ok-clause-typed : goal.returns-in-Ok-clause-typed
returns-in-Ok-clause-typed g c =
    typed c.args.catalogue.now c.args.expr.now (g.L.Lookup.relvars c.args.lookup.now) c.in_ok-no_tuple.no_tuple c.was_defined.ensures c.requires.expr c.requires.bases (c.in_ok-no_tuple.ensures ∙ ap attrs_of c.new.ensures.items)
    c.in-Ok.value c.in-Ok.ensures

pub raise_of-requires : goal.raise_of-requires
raise_of-requires g c =
    raised c.args.catalogue.now c.args.expr.now (g.L.Lookup.relvars c.args.lookup.now) c.in_ok-no_tuple.no_tuple c.was_defined.ensures c.requires.expr c.requires.bases (c.in_ok-no_tuple.ensures ∙ ap attrs_of c.new.ensures.items)
    c.in-Err-Raised.stop (rw c.in-Err-Raised.field-0-is at c.in-Err-Raised.ensures)

pub returns-in-Err-Raised-clause-told : goal.returns-in-Err-Raised-clause-told
returns-in-Err-Raised-clause-told g c =
    let stopped = rw c.in-Err-Raised.field-0-is at c.in-Err-Raised.ensures in
    told c.args.catalogue.now c.args.expr.now (g.L.Lookup.relvars c.args.lookup.now) c.in_ok-no_tuple.no_tuple c.was_defined.ensures c.requires.expr c.requires.bases (c.in_ok-no_tuple.ensures ∙ ap attrs_of c.new.ensures.items)
    (Err (stop_of c.raise_of.result)) (stopped ∙ ap Err (sym c.raise_of.ensures))
