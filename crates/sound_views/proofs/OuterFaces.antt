-- Each face but the unbounded one has an outer cycle, so no face is ranked by its cells alone.
use Rattle.std.proofs.Common.{◌≡◌, ℕ, ◌<◌, true, false, cond, arith, refl, sym, ap, ◌∙◌, subst, inl, inr, List, ◌∷◌, ◌++◌, map}
use Rattle.std.specs.Prelude.{filter}
use Rattle.std.specs.List.{Contains, count_by, list_any}
use Rattle.std.proofs.lemmas.Bool.{and_parts, cases_Bool}
use Rattle.plane_graphs.specs.Ascending.{Member as In}
use Rattle.plane_graphs.proofs.Ascending.{to_member, from_member}
use Rattle.plane_graphs.proofs.Lists.{in_filter, in_map, of_map, any_in}
use Rattle.slab_laws.specs.declared.slab_cell.SlabCell.{SlabCell}
use Rattle.slab_laws.specs.Skeleton.{Skeleton, IsPlaneSkeleton}
use Rattle.slab_laws.specs.Slabs.{top_cell}
use Rattle.slab_laws.specs.Faces.{face_labels, face_of, same_cell, cells}
use Rattle.slab_laws.specs.Listed.{distinct}
use Rattle.slab_laws.specs.Subdivision.{Cycle, subdivision, ranked, first_cell}
use Rattle.slab_faces.specs.CycleLaws.{bounds}
use Rattle.slab_faces.proofs.Found.{found}
use Rattle.slab_faces.proofs.FacesLemmas.{cells_exact}
use Rattle.slab_faces.proofs.EveryFace.{first_width, outer_cycles_of_every_face}
use Rattle.sound_views.specs.FaceOrderLaws.{FacesAreRanked}
use Rattle.sound_views.proofs.FirstDarts.{distinct-known}

-- ---- the first slab has one cell
pub top_is_first : (g : Skeleton) → IsPlaneSkeleton g → top_cell g 0 ≡ first_cell
unfolding top_cell
top_is_first g plane = λ i. record { slab = 0; place = first_width g plane i }

-- ---- the faces
-- those of outer cycles
abbrev pub outer_faces : Skeleton → List SlabCell
outer_faces g = map (λ c. c.face) (filter (λ c. c.outer) (subdivision g).cycles)

-- those and the unbounded one
abbrev pub cycle_faces : Skeleton → List SlabCell
cycle_faces g = face_of (face_labels g) first_cell ∷ outer_faces g

pub faces_are : (g : Skeleton) → (subdivision g).faces ≡ distinct same_cell (cycle_faces g ++ map (face_of (face_labels g)) (cells g))
unfolding subdivision ranked
faces_are g = refl

module _ (g : Skeleton) (plane : IsPlaneSkeleton g) where
  -- a face that isn't the unbounded one has an odd number of outer cycles, so it has one
  pub bounded_there : (c : SlabCell) → Contains (cells g) c → same_cell (face_of (face_labels g) (top_cell g 0)) (face_of (face_labels g) c) ≡ false → In (face_of (face_labels g) c) (outer_faces g)
  bounded_there c C h =
      let f = face_of (face_labels g) c in
      let e = outer_cycles_of_every_face g c plane C in
      let z : cond {A = ℕ} (same_cell (face_of (face_labels g) (top_cell g 0)) f) 1 0 ≡ 0 = ap (λ b. cond {A = ℕ} b 1 0) h in
      let some : 0 < count_by (bounds f) (subdivision g).cycles = omega arith in
      let w = found (bounds f) (subdivision g).cycles some in
      let b = and_parts w.0.outer (same_cell w.0.face f) w.2 in
      subst (λ x. In x (outer_faces g)) (cells_exact.path w.0.face f b.1)
      (in_map (λ (c : Cycle). c.face) w.0 (filter (λ c. c.outer) (subdivision g).cycles) (in_filter (λ (c : Cycle). c.outer) w.0 (subdivision g).cycles (to_member (subdivision g).cycles w.0 w.1) b.0))

  -- the face of each cell is the unbounded one, or that of an outer cycle
  pub face_there : (c : SlabCell) → Contains (cells g) c → In (face_of (face_labels g) c) (cycle_faces g)
  face_there c C =
      elim (cases_Bool (same_cell (face_of (face_labels g) (top_cell g 0)) (face_of (face_labels g) c))) [
        | inl e ↦ inl (sym (cells_exact.path _ _ e) ∙ ap (face_of (face_labels g)) (top_is_first g plane))
        | inr e ↦ inr (bounded_there c C e)
      ]

  known : (f : SlabCell) → In f (map (face_of (face_labels g)) (cells g)) → list_any (λ x. same_cell x f) (cycle_faces g) ≡ true
  known f m =
      let w = of_map (face_of (face_labels g)) f (cells g) m in
      any_in (λ x. same_cell x f) f (cycle_faces g) (subst (λ x. In x (cycle_faces g)) (sym w.2) (face_there w.0 (from_member (cells g) w.0 w.1))) (cells_exact.itself f)

  ranked_faces : (subdivision g).faces ≡ distinct same_cell (cycle_faces g)
  ranked_faces = faces_are g ∙ distinct-known same_cell (cycle_faces g) (map (face_of (face_labels g)) (cells g)) known

pub faces_are_ranked : FacesAreRanked
faces_are_ranked g plane = ranked_faces g plane
