-- What is known after a round of a face's boundary, and how the walk goes on from it.
use Rattle.std.proofs.Common.{◌≡◌, ◌+◌, ◌<◌, ◌≤◌, ℕ, true, false, arith, refl, sym, ap, ◌∙◌, inl, inr, subst}
use Rattle.std.specs.Prelude.{◌≢◌, ◌-◌, ◌&&◌, Option, Some, None, IfSome, nat_lt, ◌==◌}
use Rattle.std.proofs.lemmas.Bool.{cases_Bool, eqb-true}
use Rattle.std.proofs.lemmas.Bool.Decides.{nat_tests}
use Rattle.exact_plane.specs.Point.{Point}
use Rattle.exact_plane.specs.PointOrderLaws.{and_true}
use Rattle.plane_graphs.specs.Graph.{Edge}
use Rattle.plane_graphs.specs.Line.{IsProper}
use Rattle.slab_laws.specs.declared.names.DartId.{DartId}
use Rattle.slab_laws.specs.declared.names.FaceId.{FaceId}
use Rattle.slab_laws.specs.Darts.{Dart as DrawnDart}
use Rattle.slab_laws.specs.FacesSound.{IsSound}
use Rattle.slab_laws.specs.Skeleton.{inside}
use Rattle.slab_laws.specs.Slabs.{right_below}
use Rattle.slab_laws.specs.Sound.{skeleton_of, edge_in, IsGraphSound}
use Rattle.slab_laws.specs.View.{View, Faces, HasDart, HasFace, face_id, point_in, source_in, twin_in, cycle_in, face_in}
use Rattle.sound_views.proofs.NamedDarts.{twin_dart}
use Rattle.counted_looks.specs.Boundaries.{IsOnBoundary, boundary_size}
use Rattle.counted_looks.specs.declared.boundary_part.BoundaryPart.{BoundaryPart}
use Rattle.counted_looks.specs.declared.boundary_part.BoundaryPart.TheVariants.{Dart, Isolated}
use Rattle.dcel_records.specs.RecordsView.{tables_of}
use Rattle.dcel_records.specs.Spots.{IsVertexAt}
use Rattle.dcel_records.specs.declared.spot.Spot.{Spot}
use Rattle.dcel_records.specs.declared.spot.Spot.TheVariants.{Face}
use Rattle.edge_predicates.specs.Levels.{IsSeen, level}
use Rattle.face_location.specs.Below.{IsSeenOrNone}
use Rattle.face_location.specs.Spots.{IsSpotOf}
use Rattle.walk_laws.specs.Walks.{face_above, height, IsDartPassed, IsBoundaryPassed, size_ahead}
use Rattle.walk_laws.proofs.Named.{walk_ends_in_face}
use Rattle.walk_laws.proofs.Once.{faces_are_visited_once}
use Rattle.locate_walk.specs.Finds.{is_told_at_twin}
use Rattle.locate_walk.specs.Looks.{dart_of, IsBelowOrNone, IsRaised, IsPartClear, MayLook, HasSeen, HasSeenDart}
use Rattle.locate_walk.specs.Rounds.{IsHighestRound}
use Rattle.locate_walk.specs.declared.found.EdgeBelow.{EdgeBelow}
use Rattle.locate_walk.specs.declared.highest.Highest.{Highest}

-- ---- all on the boundary is clear, so all is passed
module _ (v : View) (f : Faces) (q : Point) (a : FaceId) (o : Option DartId) (s : IsGraphSound v) (clear : (t : BoundaryPart) → IsOnBoundary v f a t → IsPartClear v f q a o t) where
  -- twins have one edge and the same ends
  by_twin : (d : DartId) → HasDart v d → IsDartPassed v q o (twin_in v d) → IsDartPassed v q o d
  by_twin d has t =
      let e : edge_in v (twin_in v d) ≡ edge_in v d = ap (λ (h : DrawnDart). h.edge) (twin_dart v s d has) in
      record {
        off_source = subst (λ (x : DartId). point_in v (source_in v x) ≢ q) (s.twinned.back d has) t.off_target;
        off_target = t.off_source;
        off_edge = subst (λ (x : Edge). inside x q ≡ false) e t.off_edge;
        no_higher = subst (λ (x : Edge). IsSeen (skeleton_of v) q x → level (skeleton_of v) q x < height v q o) e t.no_higher;
      }

  after_less : (m n : ℕ) → nat_lt m n ≡ true → nat_lt n m ≡ false
  after_less m n l = grind (arith, nat_tests)

  -- of two twins, the one with the lesser name is told where it is
  not_both : (d : DartId) → HasDart v d → nat_lt (twin_in v d).0 d.0 ≡ true → is_told_at_twin v f a (twin_in v d) ≡ false
  not_both d has l =
      let e = twin_in v d in
      ap (λ b. b && (face_in f (cycle_in f (twin_in v e))).0 == a.0)
      (ap (λ (x : DartId). nat_lt x.0 e.0) (s.twinned.back d has) ∙ after_less e.0 d.0 l)

  pub all_passed : IsBoundaryPassed v f q o a
  all_passed = record {
    darts = λ d has on. elim (cases_Bool (is_told_at_twin v f a d)) [
      | inl h ↦
          let k = and_true _ _ h in
          by_twin d has
          (clear (Dart (twin_in v d)) (s.twinned.has d has, ap face_id (eqb-true (face_in f (cycle_in f (twin_in v d))).0 a.0 k.1)) (not_both d has k.0))
      | inr h ↦ clear (Dart d) (has, on) h
    ];
    bare = λ w B on. clear (Isolated w) (B, on);
  }

-- ---- after a round
module _ (v : View) (k l : Highest) (m : MayLook v k l) where
  pub round_hit : (s : Spot) → l.hit ≡ Some s → IsSpotOf v (tables_of k.glance.now) k.point s
  round_hit s e =
      let there : IsSpotOf v (tables_of l.glance.now) l.point s = subst (λ (o : Option Spot). IfSome o (IsSpotOf v (tables_of l.glance.now) l.point)) e m.hit in
      subst (λ (x : Point). IsSpotOf v (tables_of k.glance.now) x s) m.point (subst (λ (x : Faces). IsSpotOf v x l.point s) (ap tables_of m.glance) there)

  -- where no vertex is at the point, looks at the darts are enough
  pub darts_seen : IsSound v (tables_of k.glance.now) → IsVertexAt v k.point None → ((d : DartId) → IsOnBoundary v (tables_of k.glance.now) k.face (Dart d) → HasSeenDart v l (Dart d)) → (t : BoundaryPart) → IsOnBoundary v (tables_of k.glance.now) k.face t → HasSeen v l t
  darts_seen s free seen (Dart d) on = seen d on d refl
  darts_seen s free seen (Isolated w) on = λ e. subst (λ (x : Point). point_in v w ≢ x) (sym m.point) (free w (s.complete.bare_vertex w on.0))

  pub round_highest : IsGraphSound v → l.hit ≡ None → ((t : BoundaryPart) → IsOnBoundary v (tables_of k.glance.now) k.face t → HasSeen v l t) → IsHighestRound v (tables_of k.glance.now) k.point k.face k.best l.best
  round_highest s none seen = record {
    below = subst (λ (x : Point). IsBelowOrNone v x l.best) m.point m.best;
    raised = subst (λ (x : Point). IsRaised v x (dart_of k.best) (dart_of l.best)) m.point m.raised;
    passed = all_passed v (tables_of k.glance.now) k.point k.face (dart_of l.best) s (λ t on.
        subst (λ (x : FaceId). IsPartClear v (tables_of k.glance.now) k.point x (dart_of l.best) t) m.face
        (subst (λ (x : Point). IsPartClear v (tables_of k.glance.now) x l.face (dart_of l.best) t) m.point
        (subst (λ (x : Faces). IsPartClear v x l.point l.face (dart_of l.best) t) (ap tables_of m.glance) (seen t on none))));
  }

-- ---- the walk
pub seen_or_none : (v : View) (q : Point) (o : Option EdgeBelow) → IsBelowOrNone v q o → IsSeenOrNone v q (dart_of o)
seen_or_none v q None p = tt
seen_or_none v q (Some b) p = p.0

-- it is in the face over the edge that it passed last, and what it has looked at and what is ahead is at most so much
pub record IsOnWay (v : View) (f : Faces) (q : Point) (last : Option EdgeBelow) (face : FaceId) (most now : ℕ) : Type 0 where
  pub below : IsBelowOrNone v q last
  pub over : face ≡ face_above f (dart_of last)
  pub has : HasFace f face
  pub looks : now + size_ahead (boundary_size v f) v f q (dart_of last) ≤ most

module _ (v : View) (f : Faces) (q : Point) (last : Option EdgeBelow) (face : FaceId) (most now : ℕ) (s : IsSound v f) (Q : IsProper q) (w : IsOnWay v f q last face most now) where
  abbrev size : FaceId → ℕ
  size = boundary_size v f

  -- one more round is within the count
  pub way_looks : (then : ℕ) → then ≤ now + size face → then ≤ most
  way_looks then h =
      let l = subst (λ (x : FaceId). size x ≤ size_ahead size v f q (dart_of last)) (sym w.over) (faces_are_visited_once.last size v f q (dart_of last) s (seen_or_none v q last w.below)) in
      let k = w.looks in
      omega arith

  module _ (best : Option EdgeBelow) (r : IsHighestRound v f q face last best) (over : FaceId) (is : over ≡ face_above f (dart_of best)) where
    pub way_ends : over ≡ face → IsSpotOf v f q (Face face)
    way_ends e =
        let there : face ≡ face_above f (dart_of best) = sym e ∙ is in
        subst (λ (x : FaceId). IsSpotOf v f q (Face x)) (sym there)
        (walk_ends_in_face v f q (dart_of best) s Q (seen_or_none v q best r.below) (subst (IsBoundaryPassed v f q (dart_of best)) there r.passed))

    module _ (other : over ≡ face → ⊥) where
      higher : height v q (dart_of last) < height v q (dart_of best)
      higher = elim r.raised [
        | inl e ↦ absurd (other (is ∙ ap (face_above f) e ∙ sym w.over))
        | inr l ↦ l
      ]

      pub way_smaller : right_below (skeleton_of v) q - height v q (dart_of best) < right_below (skeleton_of v) q - height v q (dart_of last)
      way_smaller = let b = faces_are_visited_once.bounded v f q (dart_of best) s Q (seen_or_none v q best r.below) in let h = higher in omega arith

      pub way_on : HasFace f over → (then : ℕ) → then ≤ now + size face → IsOnWay v f q best over most then
      way_on has then h =
          let n = faces_are_visited_once.next size v f q (dart_of last) (dart_of best) s (seen_or_none v q last w.below) (seen_or_none v q best r.below) higher
          (subst (IsBoundaryPassed v f q (dart_of best)) w.over r.passed) (λ e. other (is ∙ e ∙ sym w.over)) in
          let l = subst (λ (x : FaceId). size x + size_ahead size v f q (dart_of best) ≤ size_ahead size v f q (dart_of last)) (sym w.over) n in
          let k = w.looks in
          record { below = r.below; over = is; has = has; looks = omega arith }
