-- Where the curve runs along an open part, the dart in its direction is that of its edge.
use Rattle.std.proofs.Common.{◌≡◌, ℕ, true, sym, ap, ◌∙◌, subst}
use Rattle.exact_plane.specs.Line.{Line}
use Rattle.plane_graphs.specs.Ascending.{Member}
use Rattle.plane_graphs.specs.Graph.{mark}
use Rattle.slab_laws.specs.declared.names.DartId.{DartId}
use Rattle.slab_laws.specs.declared.names.VertexId.{VertexId}
use Rattle.slab_laws.specs.Sound.{IsGraphSound}
use Rattle.slab_laws.specs.View.{View, IsOutOf, point_in, source_in, target_in}
use Rattle.arr_notes.specs.Curves.{Curves, IsForward}
use Rattle.rotation_order.specs.Directions.{dart_direction}
use Rattle.rotation_order.specs.Place.{IsPlaceOf}
use Rattle.rotation_order.specs.VertexRings.{IsBare}
use Rattle.rotation_order.specs.declared.places.Place.TheVariants.{Along, Between}
use Rattle.sound_changes.proofs.StepCases.{one_way}
use Rattle.sound_changes.proofs.StepHolds.{held_mark, mark_held}
use Rattle.segment_insert.specs.Parts.{IsOpenPart}
use Rattle.segment_insert.specs.StepsMade.{IsDrawnAlong}
use Rattle.segment_insert.proofs.PartDarts.{along_ends, along_forward, none_between_darts, placed_on}

module _ (v : View) (s : IsGraphSound v) (l : Line) (u w : VertexId) (o : IsOpenPart v l u w) where
  -- the dart from u to w
  pub record IsFromTo (d : DartId) : Type 0 where
    pub forward : IsForward v d
    pub source : source_in v d ≡ u
    pub target : target_in v d ≡ w

  -- in the direction of the line
  pub from_to : (d : DartId) → IsPlaceOf v u (dart_direction l true) (Along d) → IsFromTo d
  from_to d k =
      let a = placed_on v s l u w o (Along d) k in
      record { forward = (a.out.0, along_forward v s l u w o d a); source = a.out.1; target = along_ends v s l u w o d a }

  -- what runs along it is drawn
  pub drawn_along : (h : Curves) (c : ℕ) (d : DartId) → IsFromTo d → Member c (h d) → IsDrawnAlong v h u w c
  drawn_along h c d f m = mark_held v s.named h (mark (point_in v u) (point_in v w) c) d (record { forward = f.forward; low = ap (point_in v) f.source; high = ap (point_in v) f.target; curve = m })

  module _ (h : Curves) (c : ℕ) (there : IsDrawnAlong v h u w c) where
    abbrev dart : DartId
    dart = (held_mark v s.named h (mark (point_in v u) (point_in v w) c) there).0

    its : IsFromTo dart
    its =
        let e = (held_mark v s.named h (mark (point_in v u) (point_in v w) c) there).1 in
        record {
          forward = e.forward;
          source = s.drawn.points (source_in v dart) u (s.linked.source dart e.forward.0) o.start e.low;
          target = s.drawn.points (target_in v dart) w (s.linked.source _ (s.twinned.has dart e.forward.0)) o.end e.high;
        }

    out : IsOutOf v u dart
    out = (its.forward.0, its.source)

    pub never_bare : IsBare v u → ⊥
    never_bare b = b dart out

    pub never_between : (a b : DartId) → IsPlaceOf v u (dart_direction l true) (Between a b) → ⊥
    never_between a b k = none_between_darts v s l u w o a b k dart out its.target

    -- what is drawn runs along it
    pub along_it : (d : DartId) → IsFromTo d → Member c (h d)
    along_it d f =
        let e = (held_mark v s.named h (mark (point_in v u) (point_in v w) c) there).1 in
        let same = one_way v dart d s its.forward.0 f.forward.0 (ap (point_in v) (its.source ∙ sym f.source)) (ap (point_in v) (its.target ∙ sym f.target)) in
        subst (λ x. Member c (h x)) same e.curve
