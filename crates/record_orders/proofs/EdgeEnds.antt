-- Edges of records by the points of their ends, and the edges of the graph that records and history draw.
use Rattle.std.proofs.Common.{◌≡◌, ◌≢◌, Bool, true, false, not, refl, sym, ap, ap₂, ◌∙◌, Option, Some, None}
use Rattle.std.specs.Prelude.{MatchOption, if◌then◌else◌}
use Rattle.exact_plane.specs.Point.{Point}
use Rattle.plane_graphs.specs.Graph.{Edge}
use Rattle.plane_graphs.specs.Line.{precedes}
use Rattle.slab_laws.specs.declared.names.DartId.{DartId}
use Rattle.slab_laws.specs.declared.names.VertexId.{VertexId}
use Rattle.slab_laws.specs.Sound.{edge_between, IsGraphSound}
use Rattle.slab_laws.specs.View.{View, HasVertex, IsOutOf, point_in, source_in, target_in, twin_in}
use Rattle.arr_notes.specs.Curves.{is_forward}
use Rattle.sound_views.proofs.GraphDrawn.{twins_are_directed}
use Rattle.record_orders.specs.Edges.{RunsBetween, IsDartAlong}

pub option_alike : {A : Type 0} (o : Option A) (N M : Type 0) (P Q : A → Type 0) → (N → M) → ((x : A) → P x → Q x) → MatchOption o N P → MatchOption o M Q
option_alike None N M P Q f g h = f h
option_alike (Some x) N M P Q f g h = g x h

-- ---- the edge between two points
abbrev pub edge_of_ends : Point → Point → Edge
edge_of_ends p q = record { low = p; high = q }

pub ahead : (p q : Point) → precedes p q ≡ true → edge_between p q ≡ edge_of_ends p q
ahead p q f = ap (λ b. if b then edge_of_ends p q else edge_of_ends q p) f

pub behind : (p q : Point) → precedes p q ≡ false → edge_between p q ≡ edge_of_ends q p
behind p q f = ap (λ b. if b then edge_of_ends p q else edge_of_ends q p) f

module _ (v : View) (s : IsGraphSound v) (e : Edge) (low high : Point) (same : e ≡ edge_of_ends low high) where
  -- the points of the ends of its forward dart
  pub along_runs : (d : DartId) → IsDartAlong v e d → RunsBetween v low high d
  along_runs d a =
      let ends = sym (ahead (point_in v (source_in v d)) (point_in v (target_in v d)) a.forward.1) ∙ a.edge ∙ same in
      record { has = a.forward.0; starts = ap (λ x. x.low) ends; ends = ap (λ x. x.high) ends }

  turned : (b : Bool) → not b ≡ false → b ≡ true
  turned true x = refl
  turned false x = sym x

  -- and a dart with these ends goes forward, since one of two twins does
  pub runs_along : precedes high low ≡ false → (d : DartId) → RunsBetween v low high d → IsDartAlong v e d
  runs_along f d r =
      let back : is_forward v (twin_in v d) ≡ false = ap₂ precedes r.ends (ap (λ x. point_in v (source_in v x)) (s.twinned.back d r.has) ∙ r.starts) ∙ f in
      let forward : is_forward v d ≡ true = turned (is_forward v d) (sym (twins_are_directed v s d r.has) ∙ back) in
      record {
        forward = (r.has, forward);
        edge = ahead (point_in v (source_in v d)) (point_in v (target_in v d)) forward ∙ ap₂ edge_of_ends r.starts r.ends ∙ sym same;
      }

-- ---- a dart from a vertex to a point
module _ (v : View) (s : IsGraphSound v) (a : VertexId) (p q : Point) (has : HasVertex v a) (at : point_in v a ≡ p) where
  pub out_runs : (d : DartId) → IsOutOf v a d × (point_in v (target_in v d) ≡ q) → RunsBetween v p q d
  out_runs d o = record { has = o.0.0; starts = ap (point_in v) o.0.1 ∙ at; ends = o.1 }

  pub none_runs : ((d : DartId) → IsOutOf v a d → point_in v (target_in v d) ≢ q) → (d : DartId) → ¬ RunsBetween v p q d
  none_runs none d r = none d (r.has, s.drawn.points (source_in v d) a (s.linked.source d r.has) has (r.starts ∙ sym at)) r.ends
