-- A vertical edge of a plane graph has no stop inside, so it covers the intervals of its wall whole.
use Rattle.std.proofs.Common.{◌≡◌, true, false, sym, ap, ◌∙◌, ◌⊎◌, inl, inr}
use Rattle.std.specs.Prelude.{not, ◌&&◌}
use Rattle.std.specs.List.{Contains}
use Rattle.std.proofs.lemmas.Bool.{false≢true, and_parts, and_from, not-true, false_from_ne_true}
use Rattle.exact_plane.specs.Point.{Point}
use Rattle.plane_graphs.specs.Graph.{Edge}
use Rattle.slab_laws.specs.Skeleton.{Skeleton, HasWeight, left_of, lower_than, on_wall, IsPlaneSkeleton}
use Rattle.slab_laws.specs.Meets.{covers_above}
use Rattle.slab_faces.proofs.Walls.{left_of-irrefl, lower_than-irrefl, lower_than-before, lower_than-after, level_walls}
use Rattle.slab_faces.proofs.Along.{IsUpright, covers_parts, no_upright}
use Rattle.slab_faces.proofs.Turns.{on_own_wall}
use Rattle.slab_faces.proofs.Upright.{not_inside}
use Rattle.headline.specs.Intervals.{at_one_place, HasVertexAt, HasEdgeThrough, IsStop, IsUpperStop, HasStopsAsEnds, CoversWholeIntervals, CoversFromStops, OpenIsUncovered}

pub on_itself : (t : Point) → on_wall t t ≡ true
on_itself t = and_from _ _ (ap not (left_of-irrefl t)) (ap not (left_of-irrefl t))

-- a vertical edge on the wall of t, with both ends there
upright_at : (e : Edge) (t r : Point) → HasWeight e.low → HasWeight e.high → HasWeight t → HasWeight r → on_wall e.low t ≡ true → on_wall e.high t ≡ true → on_wall r t ≡ true → IsUpright e r
upright_at e t r P Q T R l h w =
    let a = level_walls e.low r t P R T l w in
    let b = level_walls e.high r t Q R T h w in
    record { lower_1 = a.0; lower_2 = a.1; upper_1 = b.0; upper_2 = b.1 }

module _ (g : Skeleton) (plane : IsPlaneSkeleton g) where
  pub vertex_is_stop : (v : Point) → Contains g.vertices v → IsStop g v
  vertex_is_stop v V = record {
    wall = on_own_wall g v plane V;
    met = inl (record { vertex = v; is_vertex = V; there = and_from _ _ (on_itself v) (and_from _ _ (ap not (lower_than-irrefl v)) (ap not (lower_than-irrefl v))) });
  }

  -- no stop lies strictly inside a vertical edge: a vertex would be inside it, a passing edge would cross it
  no_stop : (e : Edge) (r : Point) → Contains g.edges e → IsStop g r → IsUpright e r → lower_than e.low r ≡ true → lower_than r e.high ≡ true → ⊥
  no_stop e r E s u a b = by s.met
    where
      at_vertex : HasVertexAt g r → ⊥
      at_vertex v =
          let p = plane.proper_edge e E in
          let R = s.wall.proper in
          let V = plane.proper v.vertex v.is_vertex in
          let w = and_parts (on_wall v.vertex r) (not (lower_than v.vertex r) && not (lower_than r v.vertex)) v.there in
          let h = and_parts (not (lower_than v.vertex r)) (not (lower_than r v.vertex)) w.1 in
          let low : on_wall e.low r ≡ true = and_from _ _ (ap not u.lower_1) (ap not u.lower_2) in
          let high : on_wall e.high r ≡ true = and_from _ _ (ap not u.upper_1) (ap not u.upper_2) in
          not_inside g e v.vertex plane E v.is_vertex (upright_at e r v.vertex p.0 p.1 R V low high w.0)
          (lower_than-before e.low r v.vertex p.0 R V a (not-true _ h.0))
          (lower_than-after v.vertex r e.high V R p.1 (not-true _ h.1) b)

      at_edge : HasEdgeThrough g r → ⊥
      at_edge f =
          let through = and_parts (left_of f.edge.low r) (left_of r f.edge.high) f.through in
          no_upright g f.edge e r (record { plane = plane; wall = s.wall; E = f.is_edge; on = f.there; through = record { from = through.0; to = through.1 } }) E u a b

      by : HasVertexAt g r ⊎ HasEdgeThrough g r → ⊥
      by (inl v) = at_vertex v
      by (inr f) = at_edge f

  module _ (e : Edge) (t : Point) (E : Contains g.edges e) where
    covered_from : on_wall e.low t ≡ true → lower_than t e.low ≡ false → IsUpperStop g t e.high → covers_above e t ≡ true
    covered_from w l u = and_from _ _ (and_from _ _ (and_from _ _ w u.wall) (ap not l)) u.above

    -- so the ends of an edge that covers the wall above t are the stops of t's interval
    stops_of : HasWeight t → covers_above e t ≡ true → HasStopsAsEnds g t e
    stops_of T h = record {
      from = record {
        stop = vertex_is_stop e.low (plane.lower_in e E);
        wall = low;
        below = c.1.0;
        nearest = λ r s w n. false_from_ne_true _ (λ k. inside r s w k (lower_than-after r t e.high s.wall.proper T p.1 n c.1.1));
      };
      to = record {
        stop = vertex_is_stop e.high (plane.upper_in e E);
        wall = high;
        above = c.1.1;
        nearest = λ r s w n. false_from_ne_true _ (λ k. inside r s w (lower_than-after e.low t r p.0 T s.wall.proper c.1.0 n) k);
      };
    }
      where
        p : HasWeight e.low × HasWeight e.high
        p = plane.proper_edge e E

        c : IsUpright e t × ((lower_than t e.low ≡ false) × (lower_than t e.high ≡ true))
        c = covers_parts e t h

        low : on_wall e.low t ≡ true
        low = and_from _ _ (ap not c.0.lower_1) (ap not c.0.lower_2)

        high : on_wall e.high t ≡ true
        high = and_from _ _ (ap not c.0.upper_1) (ap not c.0.upper_2)

        inside : (r : Point) → IsStop g r → on_wall r t ≡ true → lower_than e.low r ≡ true → lower_than r e.high ≡ true → ⊥
        inside r s w a b = no_stop e r E s (upright_at e t r p.0 p.1 T s.wall.proper low high w) a b

    -- a stop is the lower stop of its own interval
    at_stop : IsStop g t → HasStopsAsEnds g t e → at_one_place e.low t ≡ true
    at_stop s o = and_from _ _ o.from.wall (and_from _ _ (ap not (o.from.nearest t s (on_itself t) (lower_than-irrefl t))) (ap not o.from.below))

    from_stop : at_one_place e.low t ≡ true → IsUpperStop g t e.high → covers_above e t ≡ true
    from_stop h u =
        let a = and_parts (on_wall e.low t) (not (lower_than e.low t) && not (lower_than t e.low)) h in
        let b = and_parts (not (lower_than e.low t)) (not (lower_than t e.low)) a.1 in
        covered_from a.0 (not-true _ b.1) u

pub covers_whole_intervals : CoversWholeIntervals
covers_whole_intervals g t e plane T E = (stops_of g plane e t E T, λ o. covered_from g plane e t E o.from.wall o.from.below o.to)

pub covers_from_stops : CoversFromStops
covers_from_stops g t e plane s E = (
  λ h. let o = stops_of g plane e t E s.wall.proper h in (at_stop g plane e t E s o, o.to),
  λ h. from_stop g plane e t E h.0 h.1,
)

pub open_is_uncovered : OpenIsUncovered
open_is_uncovered g t plane T = (
  λ o c. false≢true (sym (o.open_at c.0 c.1) ∙ (covers_whole_intervals g t c.0 plane T c.1).1 c.2),
  λ n. record { open_at = λ e E. false_from_ne_true _ (λ h. n (e, E, stops_of g plane e t E T h)) },
)
