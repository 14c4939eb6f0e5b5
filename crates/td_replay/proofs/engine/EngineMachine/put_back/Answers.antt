use Rattle.std.proofs.Common.{◌≡◌, ℕ, ap, sym, ◌∙◌, subst}
use Rattle.std.specs.List.{All, Contains}
use Rattle.td_headings.specs.Catalogues.{CatalogueData}
use Rattle.td_semantics.specs.Databases.{Belongs, DatabaseData}
use Rattle.td_values.specs.Rows.{RowsData}
use Rattle.td_relvars.specs.Parts.{AreTheirs}
use Rattle.td_replay.specs.Noted.{AgreeAt}
use Rattle.td_replay.specs.ForProofs.Going.{origin_of}
use Rattle.td_replay.proofs.Making.{is_put_back, may_be_put_back}
use Rattle.td_replay.proofs.Depending.{stay_stored}
use Rattle.td_replay.proofs.engine.EngineMachine.put_back.Goals as goal

pub invariant_of-self : goal.invariant_of-self
invariant_of-self c = stay_stored c.self.inside.database c.put_back.new.self _ c.self.inside.dependencies.relvars.items c.put_back.ensures c.self.invariant

pub put_back-requires-clause-belongs : goal.put_back-requires-clause-belongs
put_back-requires-clause-belongs c =
    let q = c.requires in
    subst (λ (z : DatabaseData). All (λ (p : ℕ × RowsData). Belongs z.catalogue p.0 p.1) c.args.part.copies) (sym c.self.view_is)
    (may_be_put_back q.0 c.args.self.now q.1 c.args.part.copies q.2 q.3.0 q.4)

pub put_back-requires-clause-keys : goal.put_back-requires-clause-keys
put_back-requires-clause-keys c =
    let q = c.requires in
    subst (λ (k : CatalogueData). AreTheirs k c.args.part) (ap (λ (z : DatabaseData). z.catalogue) (q.4 ∙ ap origin_of (sym c.self.view_is))) q.3.1

pub returns : goal.returns
returns c = λ s ns good is same alike.
    is_put_back s c.self.inside.database c.put_back.new.self ns c.args.part.copies c.relvars_fit.ensures c.put_back.ensures good is.0
    (subst (λ (z : DatabaseData). origin_of s ≡ origin_of z) (sym c.self.view_is) same)
    (subst (λ (z : DatabaseData). (n : ℕ) → (Contains ns n → ⊥) → AgreeAt s z n) (sym c.self.view_is) alike)
