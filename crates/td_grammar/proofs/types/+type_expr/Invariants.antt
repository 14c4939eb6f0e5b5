use Rattle.td_grammar.proofs.types.+type_expr.Given as goal

abbrev pub decreases-type_expr : goal.decreases-type_expr
decreases-type_expr l = l.depth
