use Rattle.std.proofs.Common.{◌==◌, ℕ, List, ap, sym, ◌∙◌}
use Rattle.std.specs.List.{find}
use Rattle.std.specs.Prelude.{option_map}
use Rattle.td_bases.specs.Bases.{BaseData}
use Rattle.td_relvars.specs.Parts.{PartData, copy_at}
use Rattle.td_relvars.proofs.Bases.{copied_row}
use Rattle.td_relvars.proofs.parts.Part.base_at.Goals as goal

pub returns-in-Some : goal.returns-in-Some
returns-in-Some c =
    let n = c.args.relvar in
    let is = c.in-Some.ensures ∙ ap (λ (ps : List (ℕ × BaseData)). find (λ (p : ℕ × BaseData). p.0 == n) ps) c.deref.ensures.value in
    ap (option_map (λ (p : ℕ × BaseData). p.1.rows)) is ∙ sym (copied_row c.self.inside.bases.items n) ∙ ap (λ (p : PartData). copy_at p.copies n) c.self.view_is

pub returns-in-None : goal.returns-in-None
returns-in-None c =
    let n = c.args.relvar in
    let is = c.in-None.ensures ∙ ap (λ (ps : List (ℕ × BaseData)). find (λ (p : ℕ × BaseData). p.0 == n) ps) c.deref.ensures.value in
    ap (option_map (λ (p : ℕ × BaseData). p.1.rows)) is ∙ sym (copied_row c.self.inside.bases.items n) ∙ ap (λ (p : PartData). copy_at p.copies n) c.self.view_is
