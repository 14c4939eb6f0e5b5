use Rattle.td_io.proofs.Contents.{crlf_is_cut, lf_is_cut, nothing_else_is_cut}
use Rattle.td_io.proofs.laws.content_lacks_line_end.Goals as goal

pub returns : goal.returns
returns c = record { crlf = crlf_is_cut; lf = lf_is_cut; none = nothing_else_is_cut }
