-- What four numbers make.
use Rattle.std.specs.Prelude.{◌&&◌, ℤ, Result, Ok, Err, if◌then◌else◌}
use Rattle.std.specs.Ordering.{int_eq}
use Rattle.exact_plane.specs.Segment.{Segment, segment, are_coordinates, is_before}
use Rattle.exact_plane.specs.declared.segment.SegmentError.{SegmentError}
use Rattle.exact_plane.specs.declared.segment.SegmentError.TheVariants.{Range, Equal}

-- the segment between two ends, the lesser first
abbrev pub segment_of : ℤ → ℤ → ℤ → ℤ → Result Segment SegmentError
segment_of x1 y1 x2 y2 =
    if are_coordinates x1 y1 x2 y2
    then (if int_eq x1 x2 && int_eq y1 y2 then Err Equal else (if is_before x1 y1 x2 y2 then Ok (segment x1 y1 x2 y2) else Ok (segment x2 y2 x1 y1)))
    else Err Range
