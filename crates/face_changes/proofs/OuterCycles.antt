-- Cycles and the faces that they bound in one plane graph: all darts of a cycle have one face, so its parity beside each of them is one;
-- a face without an outer cycle is the unbounded one.
use Rattle.std.proofs.Common.{◌≡◌, ℕ, ◌+◌, Bool, true, false, cond, arith, refl, sym, ap, ◌∙◌, subst, ◌⊎◌, inl, inr}
use Rattle.std.specs.Prelude.{◌%◌, ◌&&◌, filter}
use Rattle.std.specs.List.{count_by, Contains}
use Rattle.std.proofs.lemmas.Bool.{cases_lt, and_parts, eqb-true}
use Rattle.plane_graphs.proofs.Ascending.{Member-ascending, to_member, from_member}
use Rattle.slab_laws.specs.declared.slab_cell.SlabCell.{SlabCell}
use Rattle.slab_laws.specs.Skeleton.{Skeleton, IsPlaneSkeleton}
use Rattle.slab_laws.specs.Slabs.{top_cell}
use Rattle.slab_laws.specs.Weights.{Even}
use Rattle.slab_laws.specs.Darts.{Dart, darts}
use Rattle.slab_laws.specs.Meets.{SameFace}
use Rattle.slab_laws.specs.Classes.{class_of}
use Rattle.slab_laws.specs.Rotation.{next, same_dart, dart_cmp}
use Rattle.slab_laws.specs.Cycles.{dart_labels, leads, odd, left_of_dart}
use Rattle.slab_laws.specs.Faces.{face_labels, face_of, same_cell, cells}
use Rattle.slab_laws.specs.Rows.{least_dart_of}
use Rattle.slab_laws.specs.Subdivision.{cycle, cycles, subdivision, first_cell}
use Rattle.slab_faces.specs.CycleLaws.{bounds}
use Rattle.slab_faces.proofs.Found.{found}
use Rattle.slab_faces.proofs.Shift.{sum_by-map}
use Rattle.slab_faces.proofs.Member.{in_member, member_in, filter_out}
use Rattle.slab_faces.proofs.FacesLemmas.{cells_exact, one_label, one_face}
use Rattle.slab_faces.proofs.NextLemmas.{darts_exact, next_keeps_face}
use Rattle.slab_faces.proofs.CyclesLemmas.{cycle_parity}
use Rattle.slab_faces.proofs.DartOrder.{dart_cmp_total}
use Rattle.slab_faces.proofs.EveryFace.{outer_cycles_of_every_face, first_width}
use Rattle.sound_changes.specs.NextLaws.{IsDartOf}
use Rattle.face_changes.specs.Kinds.{IsBeside}
use Rattle.face_changes.proofs.OrbitSplices.{told}
use Rattle.face_changes.proofs.LinkedCycles.{labelled, there_dart}
use Rattle.face_changes.proofs.CycleParities.{weight_of}

-- a number that isn't even
abbrev pub Odd : ℕ → Type 0
Odd n = n % 2 ≡ 1

-- the weight of a dart's own cycle in the cell on its left: odd where the cycle is outer
abbrev pub own_weight : Skeleton → Dart → ℕ
own_weight g d = weight_of g (least_dart_of g d) (left_of_dart g d)

pub is_odd : (g : Skeleton) (l : Dart) (c : SlabCell) → odd g (dart_labels (darts g)) l c ≡ true → Odd (weight_of g l c)
unfolding odd
is_odd g l c h = eqb-true (weight_of g l c % 2) 1 h

module _ (g : Skeleton) (plane : IsPlaneSkeleton g) where
  face : Dart → SlabCell
  face d = face_of (face_labels g) (left_of_dart g d)

  -- the darts of a cycle have one face
  pub cycle_face : (d e : Dart) → least_dart_of g d ≡ least_dart_of g e → SameFace g (left_of_dart g d) (left_of_dart g e)
  unfolding face
  cycle_face d e q =
      let t = told (next (darts g)) (darts g) (least_dart_of g) (labelled g) (λ z. same_cell (face z) (face e))
      (λ z Z. ap (λ f. same_cell f (face e)) (one_label g _ _ plane (next_keeps_face g z plane (there_dart g z Z)))) d e q in
      one_face g _ _ plane (cells_exact.path (face d) (face e) (t ∙ cells_exact.itself (face e)))

  -- so that its parity is the same beside all of them
  pub one_kind : (d e : Dart) → least_dart_of g d ≡ least_dart_of g e → Even (own_weight g d + own_weight g e)
  one_kind d e q =
      let p = cycle_parity g (least_dart_of g d) (left_of_dart g d) (left_of_dart g e) plane (cycle_face d e q) in
      let k : weight_of g (least_dart_of g d) (left_of_dart g e) ≡ own_weight g e = ap (λ l. weight_of g l (left_of_dart g e)) q in
      omega arith

  top_is_first : top_cell g 0 ≡ first_cell
  unfolding top_cell
  top_is_first = λ i. record { slab = 0; place = first_width g plane i }

  -- an outer cycle of the face, or the face is the unbounded one
  abbrev pub HasOuter : SlabCell → Type 0
  HasOuter c = (d : Dart) × IsDartOf g d × IsBeside g d c × Odd (own_weight g d)

  of_lead : (d : Dart) → Contains (leads (darts g) (dart_labels (darts g))) d → IsDartOf g d × (least_dart_of g d ≡ d)
  unfolding leads
  of_lead d D =
      let m = Member-ascending dart_cmp dart_cmp_total d (filter (λ d. same_dart d (class_of same_dart (dart_labels (darts g)) d)) (darts g)) (to_member (leads (darts g) (dart_labels (darts g))) d D) in
      let f = filter_out (λ d. same_dart d (class_of same_dart (dart_labels (darts g)) d)) (darts g) d (in_member (filter (λ d. same_dart d (class_of same_dart (dart_labels (darts g)) d)) (darts g)) d (from_member (filter (λ d. same_dart d (class_of same_dart (dart_labels (darts g)) d)) (darts g)) d m)) in
      (there_dart g d (member_in (darts g) d f.0), sym (darts_exact.path d (least_dart_of g d) f.1))

  counts : (f : SlabCell) → count_by (bounds f) (subdivision g).cycles ≡ count_by (λ d. odd g (dart_labels (darts g)) d (left_of_dart g d) && same_cell (face_of (face_labels g) (left_of_dart g d)) f) (leads (darts g) (dart_labels (darts g)))
  unfolding subdivision cycles cycle
  counts f = sum_by-map (λ x. cond (bounds f x) 1 0) (cycle g (face_labels g) (darts g) (dart_labels (darts g))) (leads (darts g) (dart_labels (darts g)))

  -- each listed cell is in the unbounded face, or in one with an outer cycle
  pub outer_there : (c : SlabCell) → Contains (cells g) c → SameFace g c first_cell ⊎ HasOuter c
  outer_there c C =
      let f = face_of (face_labels g) c in
      let k = outer_cycles_of_every_face g c plane C in
      let n = counts f in
      let p : Dart → Bool = λ d. odd g (dart_labels (darts g)) d (left_of_dart g d) && same_cell (face_of (face_labels g) (left_of_dart g d)) f in
      elim (cases_lt 0 (count_by p (leads (darts g) (dart_labels (darts g))))) [
        | inl l ↦
            let w = found p (leads (darts g) (dart_labels (darts g))) l in
            let t = of_lead w.0 w.1 in
            let b = and_parts (odd g (dart_labels (darts g)) w.0 (left_of_dart g w.0)) (same_cell (face_of (face_labels g) (left_of_dart g w.0)) f) w.2 in
            inr (w.0, t.0, one_face g (left_of_dart g w.0) c plane (cells_exact.path _ f b.1), subst (λ l. Odd (weight_of g l (left_of_dart g w.0))) (sym t.1) (is_odd g w.0 (left_of_dart g w.0) b.0))
        | inr l ↦
            inl (same (same_cell (face_of (face_labels g) (top_cell g 0)) f) refl (omega arith))
      ]
    where
      same : (b : Bool) → same_cell (face_of (face_labels g) (top_cell g 0)) (face_of (face_labels g) c) ≡ b → Odd (cond b 1 0) → SameFace g c first_cell
      same true e h = subst (SameFace g c) top_is_first (one_face g c (top_cell g 0) plane (sym (cells_exact.path (face_of (face_labels g) (top_cell g 0)) (face_of (face_labels g) c) e)))
      same false e h = absurd (omega arith)
