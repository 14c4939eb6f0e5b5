-- The catalogue after a history is that of the script.
use Rattle.std.proofs.Common.{◌≡◌, ℕ, List, refl, sym, subst}
use Rattle.td_stamps.proofs.Histories as histories
use Rattle.td_semantics.specs.Databases.{DatabaseData}
use Rattle.td_semantics.specs.Scripts.{IsScriptOf}
use Rattle.td_semantics.specs.Steps.{Steps, unread, raised, refused, done}
use Rattle.td_semantics.specs.declared.outcome.Outcome.{Outcome}
use Rattle.td_replica.specs.Histories.{StepsEntry}
use Rattle.td_replica.specs.Seen.{Leaves, Seen}

step_keeps : (d e : DatabaseData) (dialect : ℕ) (text : List ℕ) (o : Outcome) → Steps d dialect text o e
    → e.catalogue ≡ d.catalogue
step_keeps d e dialect text o (unread a) = refl
step_keeps d e dialect text o (raised a b) = refl
step_keeps d e dialect text o (refused a b x y) = refl
step_keeps d e dialect text o (done a b x) = refl

pub script_of : (s : Seen) (d : DatabaseData) → Leaves s d → IsScriptOf s.script d.catalogue
script_of s d (os, told) =
    let Of : DatabaseData → Type 0 = λ e. IsScriptOf s.script e.catalogue in
    histories.kept StepsEntry Of
    (λ u v e o step is. subst (IsScriptOf s.script) (sym (step_keeps u v e.dialect e.text o step)) is)
    told.opening d s.entries os told.runs told.opens.script
