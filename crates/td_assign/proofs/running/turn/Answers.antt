use Rattle.std.proofs.Common.{ℕ, List, [], ◌∷◌, ◌++◌, ap, sym, ◌∙◌}
use Rattle.td_relations.specs.Deltas.{DeltaData}
use Rattle.td_relations.specs.Sets.{body}
use Rattle.td_assign.proofs.Turning.{turned_goes, turned_stays, nothing_turned, some_change, takes_nothing}
use Rattle.td_assign.proofs.running.turn.Goals as goal

pub returns-then-is_empty-clause-turned : goal.returns-then-is_empty-clause-turned
returns-then-is_empty-clause-turned c =
    nothing_turned c.args.database.now c.args.relvar c.args.delta c.relvars_fit.ensures c.requires.turns c.new.result.items (c.is_empty.ensures.0 c.if-is_empty.true) c.requires.legal c.new.ensures.items

pub make_change-requires-clause-one : goal.make_change-requires-clause-one
make_change-requires-clause-one c =
    let x = c.args.delta in
    record {
      relvar = c.args.relvar;
      delta = x;
      one = c.deref.ensures.value ∙ c.in_ok-push.ensures.items ∙ ap (λ (l : List (ℕ × DeltaData)). l ++ (c.args.relvar, x) ∷ []) c.in_ok-changes.ensures.items;
      turns = c.requires.turns;
      some = some_change x.inserted x.deleted c.is_empty.result c.is_empty.ensures c.if-is_empty.false;
    }

pub make_change-requires-clause-growth : goal.make_change-requires-clause-growth
make_change-requires-clause-growth c = λ h.
    let one = c.deref.ensures.value ∙ c.in_ok-push.ensures.items ∙ ap (λ (l : List (ℕ × DeltaData)). l ++ (c.args.relvar, c.args.delta) ∷ []) c.in_ok-changes.ensures.items in
    takes_nothing c.args.relvar c.args.delta c.deref.result.now one (sym (ap body c.deleted.ensures) ∙ c.is_empty-grows.ensures.0 h)

pub returns-in-Some-clause-turned : goal.returns-in-Some-clause-turned
returns-in-Some-clause-turned c =
    let one = c.deref.ensures.value ∙ c.in_ok-push.ensures.items ∙ ap (λ (l : List (ℕ × DeltaData)). l ++ (c.args.relvar, c.args.delta) ∷ []) c.in_ok-changes.ensures.items in
    turned_goes c.args.database.now c.args.relvar c.args.delta c.relvars_fit.ensures c.requires.turns c.new-in-Some.result.items (Unit {0}) c.deref.result.now one c.in_ok-failure.field-0 c.make_change.new.database c.in_ok-failure.ensures
    c.in-Some.failure c.refusal.result c.in-Some.is c.new-in-Some.ensures.items c.refusal.ensures

pub returns-in-None-clause-turned : goal.returns-in-None-clause-turned
returns-in-None-clause-turned c =
    let x = c.args.delta in
    let listed = c.in_ok-push.ensures.items ∙ ap (λ (l : List (ℕ × DeltaData)). l ++ (c.args.relvar, x) ∷ []) c.in_ok-changes.ensures.items in
    turned_stays c.args.database.now c.args.relvar x c.relvars_fit.ensures c.requires.turns c.push.new.self.items (Unit {0}) c.deref.result.now (c.deref.ensures.value ∙ listed) c.in_ok-failure.field-0 c.make_change.new.database c.in_ok-failure.ensures
    c.in-None.is (some_change x.inserted x.deleted c.is_empty.result c.is_empty.ensures c.if-is_empty.false) listed
