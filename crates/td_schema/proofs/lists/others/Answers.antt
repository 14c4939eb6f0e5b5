use Rattle.std.proofs.Common.{◌≡◌, IfOk, ap, ◌∙◌, subst}
use Rattle.td_tuples.specs.Parts.{names_of}
use Rattle.td_schema.proofs.Distinct.{names_out}
use Rattle.td_schema.proofs.lists.others.Goals as goal

pub returns : goal.returns
returns c =
    subst (λ ns. IfOk c.attribute_names.result (λ v. v ≡ ns)) (ap names_of c.in_ok-rest.ensures ∙ names_out c.args.names.now c.args.heading.now) c.attribute_names.ensures
