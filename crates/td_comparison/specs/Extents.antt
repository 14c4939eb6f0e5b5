-- How far a comparison and a list of differences reach in the bytes that came so far, known from the counts in them.
use Rattle.std.specs.Prelude.{ℕ, ◌+◌, ◌*◌, List, length, nat_lt, if◌then◌else◌}
use Rattle.td_stream_bounds.specs.Extents.{is_compatible}
use Rattle.td_stream_bounds.specs.declared.extent.Extent.{Extent}
use Rattle.td_stream_bounds.specs.declared.extent.Extent.TheVariants.{Open, Whole, Never}
use Rattle.td_comparison.specs.Messages.{comparison_letters, long_at}

-- a count at this offset, and so many bytes for each
unfoldable pub counted_extent : ℕ → ℕ → List ℕ → Extent
counted_extent at each bytes =
    if nat_lt (length bytes) (at + 4) then Open
    else if nat_lt 65535 (long_at at bytes) then Never
    else if nat_lt (length bytes) (at + 4 + each * long_at at bytes) then Open
    else Whole (at + 4 + each * long_at at bytes)

-- 39 bytes before the count, and 22 bytes for each digest
abbrev pub comparison_extent : List ℕ → Extent
comparison_extent bytes = if is_compatible bytes comparison_letters then counted_extent 39 22 bytes else Never

-- a count, and two bytes for each site
abbrev pub differences_extent : List ℕ → Extent
differences_extent bytes = counted_extent 0 2 bytes
