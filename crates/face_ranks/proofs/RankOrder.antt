-- The ranks of faces: that of the unbounded one, and those of the others by the darts that tell them.
use Rattle.std.proofs.Common.{◌≡◌, ℕ, ◌+◌, true, refl, ap, ◌∙◌, subst, map}
use Rattle.std.specs.List.{position_or_len}
use Rattle.std.proofs.lemmas.Bool.{false_from_ne_true, eqb-true, eq-eqb}
use Rattle.plane_graphs.proofs.Ascending.{to_member, from_member}
use Rattle.slab_laws.specs.declared.names.CycleId.{CycleId}
use Rattle.slab_laws.specs.declared.names.DartId.{DartId}
use Rattle.slab_laws.specs.declared.names.FaceId.{FaceId}
use Rattle.slab_laws.specs.FacesSound.{lead_in, IsSound, IsOuterOf}
use Rattle.slab_laws.specs.Sound.{skeleton_of, dart_in}
use Rattle.slab_laws.specs.View.{View, Faces, HasDart, HasFace, cycle_in}
use Rattle.slab_faces.proofs.ClassesLemmas.{IsExact}
use Rattle.sound_views.specs.Orders.{dart_order}
use Rattle.sound_views.proofs.CycleDartOrder.{lead_in as lead_there}
use Rattle.sound_views.proofs.NamedDarts.{names_are_darts}
use Rattle.record_orders.specs.CycleKeys.{same_face, cycle_keys, ranked_faces}
use Rattle.face_ranks.specs.Ranks.{rank_in}
use Rattle.face_ranks.proofs.AscendingPlaces.{place_here, place_later, place_of_map}
use Rattle.face_ranks.proofs.LeadsRead.{lead_read}
use Rattle.face_changes.proofs.FacesByPairs.{by_number}
use Rattle.face_ranks.proofs.RankedOuter.{IsLeadOf, face_beside, outers, first, Bound, bound, ranked_are, no_outer_first}
use Rattle.face_ranks.proofs.RankedOuter.Bound.{unbounded, bounded}

pub faces_exact : IsExact same_face
faces_exact = record { itself = λ a. eq-eqb a.0 a.0 refl; path = λ a b h. by_number a b (eqb-true a.0 b.0 h) }

module _ (v : View) (f : Faces) (s : IsSound v f) where
  lead_face : (a : FaceId) (d : DartId) → IsLeadOf v f a d → HasFace f a
  lead_face a d l = subst (HasFace f) l.outer.1 (s.complete.face_has (cycle_in f d) l.outer.0)

  pub rank_unbounded : (a : FaceId) → HasFace f a → ((c : CycleId) → ¬ IsOuterOf f a c) → rank_in v f a ≡ 0
  unfolding rank_in
  rank_unbounded a has none = by (bound v f s a has)
    where
      by : Bound v f s a → position_or_len (same_face a) (ranked_faces f (cycle_keys f (dart_order v))) ≡ 0
      by (unbounded is n) = ap (position_or_len (same_face a)) (ranked_are v f s a has) ∙ place_here (same_face a) (first v f s) (map (face_beside v f s) (outers v f s)) (subst (λ b. same_face a b ≡ true) is (faces_exact.itself a))
      by (bounded c o u) = absurd (none c o)

  -- the place of its dart among those of the outer cycles, and one more
  pub rank_bounded : (a : FaceId) (d : DartId) → IsLeadOf v f a d → rank_in v f a ≡ 1 + position_or_len (λ x. same_face a (face_beside v f s x)) (outers v f s)
  unfolding rank_in
  rank_bounded a d l =
      ap (position_or_len (same_face a)) (ranked_are v f s a (lead_face a d l))
      ∙ place_later (same_face a) (first v f s) (map (face_beside v f s) (outers v f s)) (false_from_ne_true _ (λ t. no_outer_first v f s (cycle_in f d) (subst (λ b. IsOuterOf f b (cycle_in f d)) (faces_exact.path a (first v f s) t) l.outer)))
      ∙ ap (λ (n : ℕ). 1 + n) (place_of_map (face_beside v f s) (same_face a) (outers v f s))

  -- a dart on an outer cycle tells the least one
  pub lead_on : (a : FaceId) (c : CycleId) → IsOuterOf f a c → (x : DartId) → HasDart v x → cycle_in f x ≡ c → (d : DartId) × IsLeadOf v f a d
  lead_on a c o x X on =
      let g = skeleton_of v in
      let H = to_member _ _ (names_are_darts.known v x s.graph X) in
      let k = names_are_darts.there v (lead_in v x) s.graph (from_member _ _ (lead_there g s.graph.plane (dart_in v x) H)) in
      (k.0, lead_read v f s a c o x X on k.0 k.1 k.2)
