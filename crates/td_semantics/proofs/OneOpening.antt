-- A text is the script of one catalogue, and opens in one way.
use Rattle.std.proofs.Common.{◌≡◌, ℕ, List, Option, Some, None, Result, Ok, Err, refl, sym, ap, subst, ◌∙◌}
use Rattle.td_syntax.specs.declared.script.Definition.{Definition}
use Rattle.td_grammar.specs.Statements.{IsScript}
use Rattle.td_grammar.proofs.OneStatement.{reader_decides_scripts}
use Rattle.td_typing.proofs.KindLemmas.{some_same}
use Rattle.td_algebra.specs.declared.errors.Stop.{Stop}
use Rattle.td_headings.specs.Catalogues.{nothing_defined}
use Rattle.td_headings.specs.declared.defined.Test.{Test}
use Rattle.td_semantics.specs.Tests.{failing}
use Rattle.td_semantics.specs.Raises.{stop_of}
use Rattle.td_semantics.specs.Databases.{DatabaseData, stored_relvars}
use Rattle.td_semantics.specs.Laws.{OpeningIsOne, OpensOrWants, ScriptIsOne}
use Rattle.td_semantics.specs.Openings.{opening}
use Rattle.td_semantics.specs.Scripts.{DefinesAll, OpensOn}
use Rattle.td_semantics.specs.declared.error.ScriptError.TheVariants.{Syntax, IllTyped, OpeningRaised, OpeningBroken, OutOfMemory}
use Rattle.td_semantics.proofs.Defining.{one_made}

one_script : (text : List ℕ) (ds es : List Definition) → IsScript text ds → IsScript text es → ds ≡ es
one_script text ds es p q = some_same ds es (sym ((reader_decides_scripts text ds).1 p) ∙ (reader_decides_scripts text es).1 q)

pub one_catalogue : ScriptIsOne
one_catalogue text c d p q = one_made nothing_defined c d p.definitions p.defines (subst (λ xs. DefinesAll nothing_defined xs d) (one_script text q.definitions p.definitions q.reads p.reads) q.defines)

ok_same : {A : Type 0} (a b : A) → ◌≡◌ {A = Result A Stop} (Ok a) (Ok b) → a ≡ b
ok_same a b h = cc

ok_err : {A P : Type 0} (a : A) (e : Stop) → ◌≡◌ {A = Result A Stop} (Ok a) (Err e) → P
ok_err a e h = cc

none_some : {A P : Type 0} (a : A) → None ≡ Some a → P
none_some a h = cc

abbrev first_in : DatabaseData → Option (Test × Option Stop)
first_in d = failing d.catalogue (stored_relvars d.stored) d.catalogue.tests

one_database : (text : List ℕ) (f g : Option (Test × Option Stop)) (d e : DatabaseData) → OpensOn text f d → OpensOn text g e → d ≡ e
one_database text f g d e p q =
    let same = one_catalogue text d.catalogue e.catalogue p.script q.script in
    let stored = ok_same d.stored e.stored (sym p.opens ∙ ap opening same ∙ q.opens) in
    λ i. record { catalogue = same i; stored = stored i }

pub one_opening : OpeningIsOne
one_opening text f g d e p q = let same = one_database text f g d e p q in (same, sym p.first ∙ ap first_in same ∙ q.first)

pub opens_or_wants : OpensOrWants
opens_or_wants text d Syntax p h = absurd (h p.script.definitions p.script.reads)
opens_or_wants text d IllTyped p h = absurd (h.refused d.catalogue (subst (λ xs. DefinesAll nothing_defined xs d.catalogue) (one_script text p.script.definitions h.definitions p.script.reads h.reads) p.script.defines))
opens_or_wants text d (OpeningRaised e) p h = ok_err d.stored (stop_of e) (sym p.opens ∙ ap opening (one_catalogue text d.catalogue h.0 p.script h.1) ∙ h.2)
opens_or_wants text d (OpeningBroken b) p h = none_some (h.1, h.2) (one_opening text None (Some (h.1, h.2)) d h.0 p h.3).1
opens_or_wants text d OutOfMemory p h = refl
