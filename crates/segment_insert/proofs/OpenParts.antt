-- Vertices on a segment, and the open parts between neighbours among them.
use Rattle.std.proofs.Common.{◌≡◌, ℕ, suc, ◌<◌, List, ◌∷◌, true, length, drop, get_or, Contains, sym, ap, ap₂, ◌∙◌, subst, arith}
use Rattle.exact_plane.specs.Line.{Line, IsOn}
use Rattle.exact_plane.specs.Point.{Point}
use Rattle.exact_plane.specs.Segment.{Segment, line_of_segment}
use Rattle.exact_plane.specs.PointOrderLaws.{and_true}
use Rattle.plane_graphs.specs.Ascending.{Member}
use Rattle.plane_graphs.specs.Graph.{mark, chain}
use Rattle.plane_graphs.specs.Line.{IsProperLine, precedes, is_on}
use Rattle.plane_graphs.proofs.Lines.{zero_out, zero_in}
use Rattle.plane_graphs.proofs.Lists.{and_in}
use Rattle.plane_graphs.proofs.Order.{Lt, lt_out, lt_in}
use Rattle.plane_graphs.proofs.Marks.{le_out, le_in, le_lt_lt, lt_le_lt, le_lt}
use Rattle.slab_laws.specs.declared.names.VertexId.{VertexId}
use Rattle.slab_laws.specs.View.{View, HasVertex, point_in}
use Rattle.dcel_records.specs.declared.spot.Met.TheVariants.{Vertex}
use Rattle.dcel_records.specs.Spots.{met_of}
use Rattle.zone_walk.specs.declared.plan.Meeting.{Meeting}
use Rattle.zone_walk.specs.Zone.{is_on_segment, is_vertex, points_of_meetings}
use Rattle.segment_insert.specs.Parts.{IsOpenPart}
use Rattle.segment_insert.specs.Insertion.{AreVertices, AreAllOn}
use Rattle.segment_insert.proofs.Chains.{next_later, none_amid, chain_next}
use Rattle.integers.proofs.Tests.{not_true}

-- ---- the part between two neighbours
-- the meetings are all vertices on the segment, each told by its name
pub record AreMet (v : View) (s : Segment) (ms : List Meeting) : Type 0 where
  pub named : AreVertices v ms
  pub on : (m : Meeting) → Contains ms m → is_on_segment s m.point ≡ true
  pub all : AreAllOn v s (points_of_meetings ms)
  pub line : IsProperLine (line_of_segment s)

-- the meetings at a place and at the next one are the vertices u and w
pub record AreNext (ms : List Meeting) (k j : ℕ) (u w : VertexId) : Type 0 where
  pub first : Meeting
  pub second : Meeting
  pub next : j ≡ suc k
  pub below : j < length ms
  pub at_first : first ≡ get_or ms k first
  pub at_second : second ≡ get_or ms j second
  pub is_first : (met_of first.spot) ≡ Vertex u
  pub is_second : (met_of second.spot) ≡ Vertex w

-- a vertex at a point of a segment
pub record IsAt (v : View) (s : Segment) (u : VertexId) (p : Point) : Type 0 where
  pub has : HasVertex v u
  pub at : point_in v u ≡ p
  pub on_segment : is_on_segment s p ≡ true

-- a named meeting's vertex
pub vertex_at : (v : View) (s : Segment) (ms : List Meeting) → AreVertices v ms → (m : Meeting) (u : VertexId) → Contains ms m → (met_of m.spot) ≡ Vertex u → is_on_segment s m.point ≡ true → IsAt v s u m.point
vertex_at v s ms named m u k e on =
    let n = named.named m k in
    let q : n.0 ≡ u = let f = n.1 in cc in
    record { has = subst (HasVertex v) q n.2; at = ap (point_in v) (sym q) ∙ n.3; on_segment = on }

-- the meeting at a place is at a vertex
pub vertex_here : (v : View) (ms : List Meeting) → AreVertices v ms → (k : ℕ) (m : Meeting) → k < length ms → m ≡ get_or ms k m → is_vertex (met_of m.spot) ≡ true
vertex_here v ms named k m h e = ap is_vertex (named.named m (k, h, sym e)).1

-- all vertices on the segment are among points, and none of these is on it strictly between two vertices of it
module _ (v : View) (s : Segment) (ps : List Point) (line : IsProperLine (line_of_segment s)) (all : AreAllOn v s ps) (u w : VertexId) (p q : Point) (at_u : IsAt v s u p) (at_w : IsAt v s w q) (ahead : Lt p q) (amid : (x : Point) → Member x ps → is_on_segment s x ≡ true → Lt p x → Lt x q → ⊥) where
  abbrev l : Line
  l = line_of_segment s

  on_line : (x : Point) → is_on_segment s x ≡ true → IsOn l x
  on_line x h = zero_out _ (and_true (is_on l x) _ h).0

  -- a point of the line between both is on the segment
  on_between : (x : Point) → IsOn l x → Lt p x → Lt x q → is_on_segment s x ≡ true
  on_between x o a b =
      let kp = and_true _ _ (and_true (is_on l p) _ at_u.on_segment).1 in
      let kq = and_true _ _ (and_true (is_on l q) _ at_w.on_segment).1 in
      and_in (zero_in _ o) (and_in (le_in (le_lt (le_lt_lt (le_out s.lower p kp.0) a))) (le_in (le_lt (lt_le_lt b (le_out q s.upper kq.1)))))

  pub open_between : IsOpenPart v l u w
  open_between = record {
    line = line;
    start = at_u.has;
    end = at_w.has;
    forward = ap₂ precedes at_u.at at_w.at ∙ lt_in ahead;
    through_start = subst (IsOn l) (sym at_u.at) (on_line p at_u.on_segment);
    through_end = subst (IsOn l) (sym at_w.at) (on_line q at_w.on_segment);
    none_between = λ x has o a. not_true _ (λ b.
        let t = point_in v x in
        let first : Lt p t = subst (λ z. Lt z t) at_u.at (lt_out _ _ a) in
        let last : Lt t q = subst (λ z. Lt t z) at_w.at (lt_out _ _ b) in
        let on = on_between t o first last in
        amid t (all x has on) on first last);
  }

-- the meetings at a place and at the next one are the vertices u and w
module _ (v : View) (s : Segment) (ms : List Meeting) (met : AreMet v s ms) (k j : ℕ) (u w : VertexId) (n : AreNext ms k j u w) where
  abbrev p : Point
  p = n.first.point

  abbrev q : Point
  q = n.second.point

  h : suc k < length ms
  h = subst (λ z. z < length ms) n.next n.below

  at_next : n.second ≡ get_or ms (suc k) n.second
  at_next = subst (λ z. n.second ≡ get_or ms z n.second) n.next n.at_second

  first_in : Contains ms n.first
  first_in = (k, omega arith, sym n.at_first)

  second_in : Contains ms n.second
  second_in = (suc k, h, sym at_next)

  at_u : IsAt v s u p
  at_u = vertex_at v s ms met.named n.first u first_in n.is_first (met.on n.first first_in)

  at_w : IsAt v s w q
  at_w = vertex_at v s ms met.named n.second w second_in n.is_second (met.on n.second second_in)

  ahead : Lt p q
  ahead = subst (λ z. Lt p z.point) (sym at_next) (subst (λ z. Lt z.point (get_or ms (suc k) n.second).point) (sym n.at_first) (next_later ms k n.first n.second met.named.ascend h))

  amid : (x : Point) → Member x (points_of_meetings ms) → Lt p x → Lt x q → ⊥
  amid x i a b = none_amid ms k n.first n.second x met.named.ascend h i (subst (λ z. Lt z.point x) n.at_first a) (subst (λ z. Lt x z.point) at_next b)

  pub open_part : IsOpenPart v (line_of_segment s) u w
  open_part = open_between v s (points_of_meetings ms) met.line met.all u w p q at_u at_w ahead (λ x i o. amid x i)

  pub chain_here : (c : ℕ) → chain c (points_of_meetings (drop k ms)) ≡ mark (point_in v u) (point_in v w) c ∷ chain c (points_of_meetings (drop (suc k) ms))
  chain_here c =
      chain_next c ms k n.first n.second h
      ∙ ap₂ (λ p q. mark p q c ∷ chain c (points_of_meetings (drop (suc k) ms))) (ap (λ z. z.point) (sym n.at_first) ∙ sym at_u.at) (ap (λ z. z.point) (sym at_next) ∙ sym at_w.at)

-- the part is there in a view with the same vertices
pub part_stays : (v g : View) (l : Line) (u w : VertexId) → g.vertices ≡ v.vertices → IsOpenPart v l u w → IsOpenPart g l u w
part_stays v g l u w e o =
    let here : IsOpenPart (record { vertices = v.vertices; darts = g.darts }) l u w = record {
      line = o.line;
      start = o.start;
      end = o.end;
      forward = o.forward;
      through_start = o.through_start;
      through_end = o.through_end;
      none_between = o.none_between;
    } in
    subst (λ vs. IsOpenPart (record { vertices = vs; darts = g.darts }) l u w) (sym e) here
