use Rattle.td_algebra.proofs.Bridges.{union_is, intersect_is, minus_is, project_is, rename_is, join_is, matching_is, not_matching_is, compose_is, grouping_is, wrap_is, ungroup_is, unwrap_is, closure_is, restricted_is}
use Rattle.td_algebra.proofs.laws.functions_are_operators.Goals as goal

pub returns : goal.returns
returns c = record {
  union = union_is;
  intersect = intersect_is;
  minus = minus_is;
  project = project_is;
  rename = rename_is;
  join = join_is;
  matching = matching_is;
  not_matching = not_matching_is;
  compose = compose_is;
  grouping = grouping_is;
  wrap = wrap_is;
  ungroup = ungroup_is;
  unwrap = unwrap_is;
  tclose = λ r b rows. closure_is r b rows;
  restrict = restricted_is;
}
