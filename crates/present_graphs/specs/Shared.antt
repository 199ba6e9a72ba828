-- The points that spans of different lines share.
use Rattle.std.specs.Prelude.{◌≢◌, ◌⊎◌, List}
use Rattle.exact_plane.specs.Point.{Point, IsPoint}
use Rattle.exact_plane.specs.Span.{Span, LiesOn}
use Rattle.plane_graphs.specs.Ascending.{Member}

-- x is on two spans of different lines
pub record IsShared (s t : Span) (x : Point) : Type 0 where
  pub lines_differ : s.line ≢ t.line
  pub point : IsPoint x
  pub on_first : LiesOn s x
  pub on_second : LiesOn t x

-- the other span is one of these
abbrev pub IsSharedWith : Span → List Span → Point → Type 0
IsSharedWith s ts x = (t : Span) × Member t ts × IsShared s t x

-- both spans are
abbrev pub IsSharedByTwo : List Span → Point → Type 0
IsSharedByTwo ss x = (s : Span) × Member s ss × IsSharedWith s ss x

-- the second list has what the first one has, all that P is true of, and nothing else
pub record IsGrownBy (P : Point → Type 0) (old new : List Point) : Type 0 where
  pub kept : (x : Point) → Member x old → Member x new
  pub added : (x : Point) → P x → Member x new
  pub only : (x : Point) → Member x new → Member x old ⊎ P x
