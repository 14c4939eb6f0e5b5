use Rattle.std.proofs.Common.{sym, subst}
use Rattle.td_relvars.specs.Parts.{FitsPart, PartData}
use Rattle.td_relvars.proofs.parts.Part.change_back.Goals as goal

pub change_back_copies-requires : goal.change_back_copies-requires
change_back_copies-requires c = subst (λ (p : PartData). FitsPart p.copies (c.args.relvar, c.args.delta.now)) (sym c.self.view_is) c.requires
