use Rattle.std.proofs.Common.{refl}
use Rattle.td_stream_bounds.specs.Extents.{scan_extent}
use Rattle.td_stream_bounds.proofs.stream.StreamScanner.new.Goals as goal

pub returns : goal.returns
unfolding scan_extent
returns c = λ bytes. refl
