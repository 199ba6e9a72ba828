-- What each step asks of the graph that it meets.
use Rattle.std.specs.Prelude.{◌≡◌, ◌⊎◌, ℕ, List, [], ◌∷◌, ⊤, true, false, ◌&&◌, ◌||◌, not}
use Rattle.std.specs.List.{list_any}
use Rattle.exact_plane.specs.Point.{Point}
use Rattle.plane_graphs.specs.Ascending.{Member}
use Rattle.plane_graphs.specs.Line.{IsProper, precedes, same_point}
use Rattle.plane_graphs.specs.Graph.{Graph, Mark, mark, same_curve, is_at, inside, collinear}
use Rattle.plane_graphs.specs.Plane.{IsPlane}
use Rattle.edit_steps.specs.Steps.{Step, AddVertex, RemoveVertex, SplitEdge, MergeEdge, AddEdge, RemoveEdge, AddCurve, RemoveCurve, SetPin, ClearPin, Clear, apply}

-- r has two edges, along one line, with the same curves (CGAL manual: the premise of merging two edges)
pub record IsPassed (g : Graph) (r : Point) : Type 0 where
  pub low : Point
  pub high : Point
  pub below : precedes low r ≡ true
  pub above : precedes r high ≡ true
  pub straight : collinear low high r ≡ true
  pub curve : ℕ
  pub some : Member (mark low r curve) g.marks
  pub only : (m : Mark) → Member m g.marks → (same_point m.low r || same_point m.high r) ≡ true → ((m.low ≡ low) × (m.high ≡ r)) ⊎ ((m.low ≡ r) × (m.high ≡ high))
  pub onwards : (c : ℕ) → Member (mark low r c) g.marks → Member (mark r high c) g.marks
  pub back : (c : ℕ) → Member (mark r high c) g.marks → Member (mark low r c) g.marks

-- r may become a vertex
pub record IsFree (g : Graph) (r : Point) : Type 0 where
  pub proper : IsProper r
  pub new : Member r g.points → ⊥

-- the graph is one that the step may change
unfoldable pub IsAllowed : Step → Graph → Type 0
IsAllowed (AddVertex p) g = IsFree g p × ((m : Mark) → Member m g.marks → inside p m ≡ false)
IsAllowed (RemoveVertex p) g = Member p g.points × ((m : Mark) → Member m g.marks → (same_point m.low p || same_point m.high p) ≡ false)
IsAllowed (SplitEdge p q r) g = IsFree g r × (list_any (λ m. is_at p q m && inside r m) g.marks ≡ true)
IsAllowed (MergeEdge r) g = Member r g.points × IsPassed g r
IsAllowed (AddEdge p q c) g = Member p g.points × Member q g.points × (precedes p q ≡ true) × (list_any (is_at p q) g.marks ≡ false)
IsAllowed (RemoveEdge p q) g = list_any (is_at p q) g.marks ≡ true
IsAllowed (AddCurve p q c) g = (list_any (is_at p q) g.marks ≡ true) × (Member (mark p q c) g.marks → ⊥)
IsAllowed (RemoveCurve p q c) g = Member (mark p q c) g.marks × (list_any (λ m. is_at p q m && not (same_curve m.curve c)) g.marks ≡ true)
IsAllowed (SetPin p) g = Member p g.points × (Member p g.pins → ⊥)
IsAllowed (ClearPin p) g = Member p g.points × Member p g.pins
IsAllowed Clear g = Unit {0}

-- the step fits the graph, and the graph after it is plane
pub record IsSound (s : Step) (g : Graph) : Type 0 where
  pub allowed : IsAllowed s g
  pub plane : IsPlane (apply s g)

-- and so for a list of steps, one after the other
abbrev pub AreSound : List Step → Graph → Type 0
AreSound [] g = ⊤
AreSound (s ∷ ss) g = IsSound s g × AreSound ss (apply s g)
