-- A visit looks at a face's boundary, where it passes a dart whose twin it looks at.
use Rattle.std.proofs.Common.{◌≡◌, true, ◌<◌, Option, arith, refl, sym, ap, ◌∙◌, subst, inl, inr}
use Rattle.exact_plane.specs.Point.{Point}
use Rattle.slab_laws.specs.Darts.{Dart as PlaneDart}
use Rattle.slab_laws.specs.Skeleton.{inside}
use Rattle.slab_laws.specs.Sound.{IsGraphSound}
use Rattle.slab_laws.specs.View.{View, Faces, HasDart, cycle_in, point_in, source_in, target_in, twin_in}
use Rattle.slab_laws.specs.FaceLists.{Lists}
use Rattle.slab_laws.specs.declared.names.CycleId.{CycleId}
use Rattle.slab_laws.specs.declared.names.DartId.{DartId}
use Rattle.slab_laws.specs.declared.names.FaceId.{FaceId}
use Rattle.slab_laws.specs.declared.names.VertexId.{VertexId}
use Rattle.sound_views.proofs.NamedDarts.{twin_dart}
use Rattle.counted_looks.specs.Boundaries.{IsOnBoundary}
use Rattle.exact_plane.specs.Boxes.{are_apart}
use Rattle.counted_looks.specs.CycleLooks.{IsCycleLookOf}
use Rattle.counted_looks.specs.declared.cycle_glimpse.CycleGlimpse.{CycleGlimpse}
use Rattle.counted_looks.proofs.Covered.{apart_ends}
use Rattle.counted_looks.specs.declared.boundary_part.BoundaryPart.{BoundaryPart}
use Rattle.counted_looks.specs.declared.boundary_part.BoundaryPart.TheVariants.{Dart, Isolated}
use Rattle.zone_walk.specs.FoundPoints.{entries_in}
use Rattle.zone_walk.specs.Searches.{IsOnEdge, IsSearchFrom, IsPassed, IsVisitFrom, HasSeen, HasLooked}
use Rattle.zone_walk.specs.declared.search.Search.{Search}
use Rattle.zone_walk.proofs.Searched.{outside_taken}

-- ---- one look more
pub looked_on : (v : View) (f : Faces) (a : FaceId) (k l : Search) → ((t : BoundaryPart) → HasSeen v k t → HasSeen v l t) → (t : BoundaryPart) → HasLooked v f a k t → HasLooked v f a l t
looked_on v f a k l h (Dart d) (inl s) = inl (h (Dart d) s)
looked_on v f a k l h (Dart d) (inr p) = inr p
looked_on v f a k l h (Isolated w) s = h (Isolated w) s

pub visit_on : (v w : View) (g f : Faces) (b a : FaceId) (e : Option DartId) (k l m : Search) → (IsSearchFrom v k l → IsSearchFrom v k m) → IsVisitFrom v w g f b a e k l → IsVisitFrom v w g f b a e k m
visit_on v w g f b a e k l m h i = record { graph = i.graph; faces = i.faces; face = i.face; behind = i.behind; search = h i.search }

-- ---- a cycle whose box is apart from the segment's
pub cycle_looked : (v : View) (o k : Search) → IsSearchFrom v o k → (known f : Faces) (a : FaceId) (l : Lists) (c : CycleId) (g : CycleGlimpse) → IsCycleLookOf v f l c g → are_apart k.bounds g.area ≡ true → (d : DartId) → HasDart v d → cycle_in f d ≡ c → HasLooked v known a k (Dart d)
cycle_looked v o k h known f a l c g look e d has on =
    inl (λ failed. outside_taken v o k h d has (point_in v (source_in v d)) (point_in v (target_in v d)) refl refl (apart_ends v g.area d (look.area d has on) k.bounds e) (entries_in k.found))

-- ---- where the meeting points on edges were gathered, the isolated vertices are looked at
pub face_gathered : (v : View) (f : Faces) (face : FaceId) (o k : Search) → IsSearchFrom v o k → k.gathered ≡ true → (known : Faces) (a : FaceId) (now : Faces) (b : FaceId) (l : Search) → ((t : BoundaryPart) → HasLooked v known a k t → HasLooked v now b l t) → ((w : VertexId) → IsOnBoundary v f face (Isolated w) → HasLooked v now b l (Isolated w)) → (t : BoundaryPart) → IsOnBoundary v f face t → HasLooked v now b l t
face_gathered v f face o k h e known a now b l still seen (Isolated w) on = seen w on
face_gathered v f face o k h e known a now b l still seen (Dart d) on = still (Dart d) (inl (λ failed. h.gathered e d on.0))

-- ---- all of the boundary
module _ (v : View) (s : IsGraphSound v) (f : Faces) (a : FaceId) (l : Search) where
  -- twins have one edge and the same ends
  on_twin : (d : DartId) → HasDart v d → (p : Point) → IsOnEdge v d p → IsOnEdge v (twin_in v d) p
  on_twin d has p (inl e) = inr (inl (e ∙ ap (λ (x : DartId). point_in v (source_in v x)) (sym (s.twinned.back d has))))
  on_twin d has p (inr (inl e)) = inl e
  on_twin d has p (inr (inr i)) = inr (inr (ap (λ (x : PlaneDart). inside x.edge p) (twin_dart v s d has) ∙ i))

  twin_seen : (d : DartId) → HasDart v d → HasSeen v l (Dart (twin_in v d)) → HasSeen v l (Dart d)
  twin_seen d has h = λ failed p on. h failed p (on_twin d has p on)

  never_both : (d : DartId) → HasDart v d → IsPassed v f a d → IsPassed v f a (twin_in v d) → ⊥
  never_both d has h k =
      let x = h.lesser in
      let y : d.0 < (twin_in v d).0 = subst (λ (z : DartId). z.0 < (twin_in v d).0) (s.twinned.back d has) k.lesser in
      omega arith

  pub all_seen : ((t : BoundaryPart) → IsOnBoundary v f a t → HasLooked v f a l t) → (t : BoundaryPart) → IsOnBoundary v f a t → HasSeen v l t
  all_seen h (Isolated w) o = h (Isolated w) o
  all_seen h (Dart d) o = elim (h (Dart d) o) [
    | inl s ↦ s
    | inr p ↦ elim (h (Dart (twin_in v d)) p.twin) [
      | inl s ↦ twin_seen d o.0 s
      | inr q ↦ absurd (never_both d o.0 p q)
    ]
  ]
