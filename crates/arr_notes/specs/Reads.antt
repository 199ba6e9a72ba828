-- What is read of a view after a change, by name (this project): g is the view before it, h the view after it.
use Rattle.std.specs.Prelude.{◌≡◌, ◌≢◌, Bool, false}
use Rattle.exact_plane.specs.Point.{Point}
use Rattle.slab_laws.specs.declared.names.DartId.{DartId}
use Rattle.slab_laws.specs.declared.names.VertexId.{VertexId}
use Rattle.slab_laws.specs.View.{View, DartRecord, HasVertex, HasDart, point_in, pinned_in, source_in, twin_in, next_in, line_in}

-- both views say the same of a vertex
pub record IsSameVertex (g h : View) (w : VertexId) : Type 0 where
  pub has : HasVertex g w → HasVertex h w
  pub had : HasVertex h w → HasVertex g w
  pub point : point_in h w ≡ point_in g w
  pub pinned : pinned_in h w ≡ pinned_in g w

-- both views say the same of a dart
pub record IsSameDart (g h : View) (d : DartId) : Type 0 where
  pub has : HasDart g d → HasDart h d
  pub had : HasDart h d → HasDart g d
  pub source : source_in h d ≡ source_in g d
  pub twin : twin_in h d ≡ twin_in g d
  pub next : next_in h d ≡ next_in g d
  pub line : line_in h d ≡ line_in g d

-- the view has the dart with just this row
pub record HasRow (v : View) (d : DartId) (r : DartRecord) : Type 0 where
  pub has : HasDart v d
  pub source : source_in v d ≡ r.source
  pub twin : twin_in v d ≡ r.twin
  pub next : next_in v d ≡ r.next
  pub line : line_in v d ≡ r.line

-- ---- vertices
-- the vertex w is there, unpinned, at p; all else is as it was
pub record IsVertexMore (g h : View) (w : VertexId) (p : Point) : Type 0 where
  pub has : HasVertex h w
  pub point : point_in h w ≡ p
  pub pinned : pinned_in h w ≡ false
  pub others : (u : VertexId) → u ≢ w → IsSameVertex g h u
  pub darts : (d : DartId) → IsSameDart g h d

-- the vertex w is gone; all else is as it was
pub record IsVertexLess (g h : View) (w : VertexId) : Type 0 where
  pub gone : ¬ HasVertex h w
  pub others : (u : VertexId) → u ≢ w → IsSameVertex g h u
  pub darts : (d : DartId) → IsSameDart g h d

-- the vertex w has the pin b; all else is as it was
pub record IsPinSet (g h : View) (w : VertexId) (b : Bool) : Type 0 where
  pub has : (u : VertexId) → HasVertex g u → HasVertex h u
  pub had : (u : VertexId) → HasVertex h u → HasVertex g u
  pub point : (u : VertexId) → point_in h u ≡ point_in g u
  pub pinned : HasVertex g w → pinned_in h w ≡ b
  pub others : (u : VertexId) → u ≢ w → IsSameVertex g h u
  pub darts : (d : DartId) → IsSameDart g h d

-- ---- pairs of darts
-- the darts d and m have these rows; all else is as it was
pub record IsPairMore (g h : View) (d m : DartId) (r s : DartRecord) : Type 0 where
  pub first : HasRow h d r
  pub second : HasRow h m s
  pub others : (e : DartId) → e ≢ d → e ≢ m → IsSameDart g h e
  pub vertices : (w : VertexId) → IsSameVertex g h w

-- the darts d and m are gone; all else is as it was
pub record IsPairLess (g h : View) (d m : DartId) : Type 0 where
  pub first : ¬ HasDart h d
  pub second : ¬ HasDart h m
  pub others : (e : DartId) → e ≢ d → e ≢ m → IsSameDart g h e
  pub vertices : (w : VertexId) → IsSameVertex g h w

-- ---- single fields of darts
-- only which dart follows which may differ
pub record IsRelinked (g h : View) : Type 0 where
  pub has : (e : DartId) → HasDart g e → HasDart h e
  pub had : (e : DartId) → HasDart h e → HasDart g e
  pub source : (e : DartId) → source_in h e ≡ source_in g e
  pub twin : (e : DartId) → twin_in h e ≡ twin_in g e
  pub line : (e : DartId) → line_in h e ≡ line_in g e
  pub vertices : (w : VertexId) → IsSameVertex g h w

-- the dart d is followed by n; all else is as it was
pub record IsNextSet (g h : View) (d n : DartId) : Type 0 where
  pub relinked : IsRelinked g h
  pub next : HasDart g d → next_in h d ≡ n
  pub others : (e : DartId) → e ≢ d → IsSameDart g h e

-- what was followed by x is followed by y; all else is as it was
pub record IsRedirected (g h : View) (x y : DartId) : Type 0 where
  pub relinked : IsRelinked g h
  pub next : (e : DartId) → HasDart g e → next_in g e ≡ x → next_in h e ≡ y
  pub others : (e : DartId) → next_in g e ≢ x → IsSameDart g h e

-- the dart d leaves w; all else is as it was
pub record IsSourceSet (g h : View) (d : DartId) (w : VertexId) : Type 0 where
  pub has : (e : DartId) → HasDart g e → HasDart h e
  pub had : (e : DartId) → HasDart h e → HasDart g e
  pub source : HasDart g d → source_in h d ≡ w
  pub twin : (e : DartId) → twin_in h e ≡ twin_in g e
  pub next : (e : DartId) → next_in h e ≡ next_in g e
  pub line : (e : DartId) → line_in h e ≡ line_in g e
  pub others : (e : DartId) → e ≢ d → IsSameDart g h e
  pub vertices : (u : VertexId) → IsSameVertex g h u
