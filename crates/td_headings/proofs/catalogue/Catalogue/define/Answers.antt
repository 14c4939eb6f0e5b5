use Rattle.std.proofs.Common.{◌≡◌, None, Some, OnOk, sym, subst, ◌∙◌}
use Rattle.td_headings.specs.Definitions.{Defines}
use Rattle.td_headings.specs.ForProofs.After.{after}
use Rattle.td_headings.specs.ForProofs.KeptConstraints.{AreKept}
use Rattle.td_headings.proofs.Deciding.{after_is, is_after}
use Rattle.td_headings.specs.ForProofs.RelvarsRead.{AreToldOf}
use Rattle.td_headings.proofs.KeptConstraints.{none_kept}
use Rattle.td_headings.proofs.RelvarsRead.{none_told_of}
use Rattle.td_headings.proofs.Placed.{taken, ill_typed}
use Rattle.td_headings.proofs.WellTyped.{still_defined}
use Rattle.td_headings.proofs.catalogue.Catalogue.define.Goals as goal

pub invariant_of-self : goal.invariant_of-self
invariant_of-self c = (still_defined c.self.inside.definitions _ c.args.definition.now _ c.self.invariant.0 c.define.ensures, subst (AreKept c.define.new.self) (sym c.new.ensures.items) (none_kept _), subst (AreToldOf c.define.new.self) (sym c.new-2.ensures.items) (none_told_of c.define.new.self))

pub returns-clause-defined : goal.returns-clause-defined
returns-clause-defined c =
    let old = c.self.inside.definitions in
    let new = c.define.new.self in
    let x = c.args.definition.now in
    subst (λ o. OnOk c.define.result (Defines o x new)) c.self.view_is (taken old new (after old x) (Defines old x new) c.define.result c.define.ensures (after_is old new x))

pub returns-clause-refused : goal.returns-clause-refused
returns-clause-refused c = λ e d defined.
    let old = c.self.inside.definitions in
    let x = c.args.definition.now in
    let nothing = ill_typed old c.define.new.self (after old x) c.define.result c.define.ensures e in
    let no : Some d ≡ None = sym (is_after (subst (λ o. Defines o x d) (sym c.self.view_is) defined)) ∙ nothing in
    cc
