use Rattle.std.proofs.Common.{Err, [], ◌∷◌, ap, ◌∙◌}
use Rattle.td_type_errors.proofs.Excluded.{not_one}
use Rattle.td_type_errors.proofs.diagnose.definition.Goals as goal

pub returns-in-Err-Syntax : goal.returns-in-Err-Syntax
returns-in-Err-Syntax c = λ tree. c.read_script.ensures.syntax_only_without_any (c.in-Err-Syntax.is ∙ ap Err c.in-Err-Syntax.field-0-is) (tree ∷ [])

pub returns-else-as_slice-eq1 : goal.returns-else-as_slice-eq1
returns-else-as_slice-eq1 c = not_one c.args.text.now c.in-Ok.trees c.as_slice.result.now c.in-Ok.ensures.trees c.as_slice.ensures c.if-as_slice-eq1.false
