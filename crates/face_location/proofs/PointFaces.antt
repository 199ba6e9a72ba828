-- The face of a point off all vertices and edges is that over the highest edge below it.
use Rattle.std.proofs.Common.{◌≡◌, ℕ, ◌<◌, false, arith, refl, sym, ap, ◌∙◌, inl, inr, subst, List, [], ◌∷◌}
use Rattle.std.specs.Prelude.{Option, Some, None}
use Rattle.std.specs.List.{AllByRecursion, Contains}
use Rattle.exact_plane.specs.Point.{Point}
use Rattle.plane_graphs.specs.Graph.{Edge}
use Rattle.plane_graphs.specs.Line.{IsProper}
use Rattle.slab_laws.specs.declared.names.DartId.{DartId}
use Rattle.slab_laws.specs.Cycles.{left_of_dart}
use Rattle.slab_laws.specs.Darts.{Dart, ahead}
use Rattle.slab_laws.specs.Meets.{SameFace}
use Rattle.slab_laws.specs.Skeleton.{inside}
use Rattle.slab_laws.specs.Slabs.{left_cell}
use Rattle.slab_laws.specs.Sound.{skeleton_of, edge_in, dart_in, IsGraphSound}
use Rattle.slab_laws.specs.Tables.{NamesAscend}
use Rattle.slab_laws.specs.View.{View, Faces, face_id, cycle_in, face_in}
use Rattle.slab_faces.specs.PointLaws.{IsApart}
use Rattle.slab_faces.proofs.PlaneGraphs.{one_point}
use Rattle.slab_faces.proofs.Member.{Member, in_member}
use Rattle.sound_changes.proofs.KnownNames.{known_point, known_edge, points_proper}
use Rattle.face_changes.specs.FacesByPairs.{first_or, outside, beside}
use Rattle.face_steps.specs.VertexSteps.{IsFaceRound}
use Rattle.dcel_records.specs.Spots.{IsInFace}
use Rattle.edge_predicates.specs.FaceLaws.{cell_over}
use Rattle.edge_predicates.proofs.FaceBelow.{face_is_over_highest}
use Rattle.face_location.specs.Below.{edge_along, IsHighestDart}

-- where names ascend and 0 is one of them, it is the first
pub first_is_least : (ns : List ℕ) → NamesAscend ns → Contains ns 0 → first_or ns ≡ face_id 0
first_is_least [] a c = absurd (in_member [] 0 c)
first_is_least (n ∷ ns) a c = elim (in_member (n ∷ ns) 0 c) [ inl e ↦ ap face_id e | inr m ↦ absurd (none ns a.0 m) ]
  where
    none : (ms : List ℕ) → AllByRecursion (λ m. n < m) ms → Member ms 0 → ⊥
    none [] l m = m
    none (k ∷ ms) l (inl e) = let b = l.0 in omega arith
    none (k ∷ ms) l (inr m) = none ms l.1 m

module _ (v : View) (f : Faces) (q : Point) (s : IsGraphSound v) (Q : IsProper q) (spot : IsInFace v q) where
  pub apart : IsApart (skeleton_of v) q
  apart = record {
    from_vertices = λ p P a b.
        let w = known_point v s.named p P in
        spot.no_vertex w.0 w.1 (sym w.2 ∙ one_point p q (points_proper v s p P) Q a b);
    from_edges = λ e E. let d = known_edge v e E in subst (λ (x : Edge). inside x q ≡ false) (sym d.2) (spot.no_edge d.0 d.1);
  }

  over_highest : (o : Option DartId) → IsHighestDart v q o → SameFace (skeleton_of v) (cell_over (skeleton_of v) (edge_along v o)) (left_cell (skeleton_of v) q)
  over_highest o h = face_is_over_highest (skeleton_of v) q (edge_along v o) s.plane Q.positive apart h.highest

  pub over_dart : (d : DartId) → IsHighestDart v q (Some d) → IsFaceRound v f (face_in f (cycle_in f d)) q
  over_dart d h =
      let up : dart_in v d ≡ ahead (edge_in v d) = λ i. record { edge = edge_in v d; forward = h.seen.0.1 i } in
      (beside d, h.seen.0.0, refl, subst (λ (x : Dart). SameFace (skeleton_of v) (left_of_dart (skeleton_of v) x) (left_cell (skeleton_of v) q)) (sym up) (over_highest (Some d) h))

  pub far_outside : first_or f.faces ≡ face_id 0 → IsHighestDart v q None → IsFaceRound v f (face_id 0) q
  far_outside e h = (outside, tt, e, over_highest None h)
