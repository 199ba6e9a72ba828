-- What is used of a layer in the overlay: its vertices are vertices there, and its edges are cut into edges there.
use Rattle.std.proofs.Common.{◌≡◌, Bool, true, false, not, ◌&&◌}
use Rattle.std.specs.List.{Contains}
use Rattle.exact_plane.specs.Point.{Point}
use Rattle.exact_plane.specs.PointOrderLaws.{and_true}
use Rattle.plane_graphs.specs.Line.{IsProper, precedes}
use Rattle.plane_graphs.specs.Graph.{Edge, collinear}
use Rattle.plane_graphs.proofs.Lists.{and_in}
use Rattle.plane_graphs.proofs.Order.{Lt}
use Rattle.plane_graphs.proofs.Marks.{Le, le_in, le_out}
use Rattle.slab_laws.specs.Skeleton.{Skeleton}

-- e is a part of f
pub record IsWithin (f e : Edge) : Type 0 where
  pub first : Le f.low e.low
  pub last : Le e.high f.high
  pub low_on : collinear f.low f.high e.low ≡ true
  pub high_on : collinear f.low f.high e.high ≡ true

abbrev pub within : Edge → Edge → Bool
within f e = (not (precedes e.low f.low) && not (precedes f.high e.high)) && (collinear f.low f.high e.low && collinear f.low f.high e.high)

pub within_in : (f e : Edge) → IsWithin f e → within f e ≡ true
within_in f e w = and_in (and_in (le_in w.first) (le_in w.last)) (and_in w.low_on w.high_on)

pub within_out : (f e : Edge) → within f e ≡ true → IsWithin f e
within_out f e h =
    let a = and_true (not (precedes e.low f.low) && not (precedes f.high e.high)) (collinear f.low f.high e.low && collinear f.low f.high e.high) h in
    let b = and_true (not (precedes e.low f.low)) (not (precedes f.high e.high)) a.0 in
    let c = and_true (collinear f.low f.high e.low) (collinear f.low f.high e.high) a.1 in
    record { first = le_out f.low e.low b.0; last = le_out e.high f.high b.1; low_on = c.0; high_on = c.1 }

-- an edge of the layer, cut where the test turns: one of its parts is cut there
pub record IsCutPart (g : Skeleton) (own : Edge → Bool) (f : Edge) (turn : Point → Bool) : Type 0 where
  pub part : Edge
  pub part_in : Contains g.edges part
  pub is_own : own part ≡ true
  pub is_within : IsWithin f part
  pub on_part : (t : Point) → IsProper t → collinear f.low f.high t ≡ true → collinear part.low part.high t ≡ true
  pub before : turn part.low ≡ true
  pub after : turn part.high ≡ false

-- an edge of the layer of which e is a part
pub record IsPartOf (r : Skeleton) (e : Edge) : Type 0 where
  pub whole : Edge
  pub whole_in : Contains r.edges whole
  pub is_within : IsWithin whole e

-- r is laid into g, where its edges are cut into those that the test tells
pub record IsLaid (r g : Skeleton) (own : Edge → Bool) : Type 0 where
  pub proper : (v : Point) → Contains g.vertices v → IsProper v
  pub forward : (e : Edge) → Contains g.edges e → Lt e.low e.high
  pub vertex : (v : Point) → Contains r.vertices v → Contains g.vertices v
  pub cut : (f : Edge) → Contains r.edges f → (turn : Point → Bool) → turn f.low ≡ true → turn f.high ≡ false → IsCutPart g own f turn
  pub along : (e : Edge) → Contains g.edges e → own e ≡ true → IsPartOf r e
