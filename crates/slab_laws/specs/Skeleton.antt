-- The plane graph whose cells and faces are counted: vertices, and edges from their lesser ends to their greater ones.
use Rattle.std.specs.Prelude.{◌≡◌, ℤ, pos, ◌-ℤ◌, ◌+ℤ◌, ◌*ℤ◌, ◌<ℤ◌, Bool, true, false, not, ◌&&◌, ◌||◌, List, ◌∷◌}
use Rattle.std.specs.List.{Contains, count_by}
use lib.Signed.{lt_z}
use Rattle.std.specs.Ordering.{int_eq as same_z}
use Rattle.exact_plane.specs.Point.{Point}
use Rattle.plane_graphs.specs.Graph.{Edge}

-- the vertices and edges of a plane graph, without curves and pins (this project)
pub record Skeleton : Type 0 where
  pub vertices : List Point
  pub edges : List Edge

-- a positive weight (Fogel, Halperin and Wein: exact kernel)
abbrev pub HasWeight : Point → Type 0
HasWeight p = pos 0 <ℤ p.w

-- p's abscissa is less than q's
unfoldable pub left_of : Point → Point → Bool
left_of p q = lt_z (p.x *ℤ q.w) (q.x *ℤ p.w)

-- p's ordinate is less than q's
unfoldable pub lower_than : Point → Point → Bool
lower_than p q = lt_z (p.y *ℤ q.w) (q.y *ℤ p.w)

-- two points of one abscissa (this project)
abbrev pub on_wall : Point → Point → Bool
on_wall v t = not (left_of v t) && not (left_of t v)

-- how far the edge runs to the right
unfoldable pub run : Edge → ℤ
run e = e.high.x *ℤ e.low.w -ℤ e.low.x *ℤ e.high.w

-- the determinant of the edge's ends and t: positive for t on the left of the way from the lower end to the upper
unfoldable pub side : Edge → Point → ℤ
side e t =
    (e.low.y *ℤ e.high.w -ℤ e.high.y *ℤ e.low.w) *ℤ t.x
    +ℤ (e.high.x *ℤ e.low.w -ℤ e.low.x *ℤ e.high.w) *ℤ t.y
    +ℤ (e.low.x *ℤ e.high.y -ℤ e.high.x *ℤ e.low.y) *ℤ t.w

-- the first number of the edge's line, steep * x + run * y + shift * w = 0 (Fogel, Halperin and Wein)
unfoldable pub steep : Edge → ℤ
steep e = e.low.y *ℤ e.high.w -ℤ e.high.y *ℤ e.low.w

-- the last number of the edge's line (Fogel, Halperin and Wein)
unfoldable pub shift : Edge → ℤ
shift e = e.low.x *ℤ e.high.y -ℤ e.high.x *ℤ e.low.y

-- the point of an edge's line on the wall of t, not in lowest terms
unfoldable pub foot : Edge → Point → Point
foot e t = record { x = run e *ℤ t.x; y = pos 0 -ℤ (steep e *ℤ t.x +ℤ shift e *ℤ t.w); w = run e *ℤ t.w }

-- the edge's line passes strictly above t
unfoldable pub over : Edge → Point → Bool
over e t = lt_z (side e t) (pos 0)

-- t is within the edge's abscissas, ends included
abbrev pub in_range : Edge → Point → Bool
in_range e t = not (left_of t e.low) && not (left_of e.high t)

-- positive where the line of e is above that of f at t's abscissa (it does not depend on t's ordinate)
unfoldable pub gap : Edge → Edge → Point → ℤ
gap f e t = run e *ℤ side f t -ℤ run f *ℤ side e t

abbrev pub higher_at : Edge → Edge → Point → Bool
higher_at f e t = in_range f t && in_range e t && lt_z (pos 0) (gap f e t)

-- e is above f at an end of one of them that both pass
abbrev pub below : Edge → Edge → Bool
below f e =
    higher_at f e f.low || (higher_at f e f.high || (higher_at f e e.low || higher_at f e e.high))

-- ---- what is asked of a graph, and of the weights

-- the three numbers are the same (Fogel, Halperin and Wein: exact kernel)
abbrev pub same_point : Point → Point → Bool
same_point p q = same_z p.x q.x && same_z p.y q.y && same_z p.w q.w

-- e falls from above f to below it while f climbs from below e to above it
unfoldable pub crosses : Edge → Edge → Bool
crosses e f =
    lt_z (pos 0) (side f e.low) && (lt_z (side f e.high) (pos 0) && (lt_z (side e f.low) (pos 0) && lt_z (pos 0) (side e f.high)))

-- the ends are the same (CGAL manual)
unfoldable pub same_edge : Edge → Edge → Bool
same_edge e f = same_point e.low f.low && same_point e.high f.high

-- p comes before q: by abscissa, then by ordinate
abbrev pub precedes : Point → Point → Bool
precedes p q = left_of p q || (not (left_of q p) && lower_than p q)

-- v lies on the edge, strictly between its ends
abbrev pub inside : Edge → Point → Bool
inside e v = (precedes e.low v && precedes v e.high) && (not (lt_z (side e v) (pos 0)) && not (lt_z (pos 0) (side e v)))

-- a plane graph by signs and counts: ends are vertices, vertices and edges stand once, no vertex inside an edge, no edges cross (Fogel, Halperin and Wein: straight-line embedding)
pub record IsPlaneSkeleton (g : Skeleton) : Type 0 where
  pub proper : (v : Point) → Contains g.vertices v → HasWeight v
  pub lower_in : (e : Edge) → Contains g.edges e → Contains g.vertices e.low
  pub upper_in : (e : Edge) → Contains g.edges e → Contains g.vertices e.high
  pub lower_once : (e : Edge) → Contains g.edges e → count_by (λ v. same_point e.low v) g.vertices ≡ 1
  pub upper_once : (e : Edge) → Contains g.edges e → count_by (λ v. same_point e.high v) g.vertices ≡ 1
  pub proper_edge : (e : Edge) → Contains g.edges e → HasWeight e.low × HasWeight e.high
  pub forward : (e : Edge) → Contains g.edges e → left_of e.high e.low ≡ false
  pub upright : (e : Edge) → Contains g.edges e → on_wall e.low e.high ≡ true → lower_than e.low e.high ≡ true
  pub edge_once : (e : Edge) → Contains g.edges e → count_by (same_edge e) g.edges ≡ 1
  pub distinct : (v w : Point) → Contains g.vertices v → Contains g.vertices w → precedes v w ≡ false → precedes w v ≡ false → v ≡ w
  pub clear : (e : Edge) (v : Point) → Contains g.edges e → Contains g.vertices v → inside e v ≡ false
  pub uncrossed : (e f : Edge) → Contains g.edges e → Contains g.edges f → crosses e f ≡ false

-- ---- one more edge
abbrev pub with_edge : Skeleton → Edge → Skeleton
with_edge g e = record { vertices = g.vertices; edges = e ∷ g.edges }

-- ---- strictly below a point
unfoldable pub under : Edge → Point → Bool
under e t = lt_z (pos 0) (side e t)
