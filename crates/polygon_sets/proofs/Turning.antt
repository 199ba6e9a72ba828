-- A dart is on the border by the sets of faces where it is by cells.
use Rattle.std.proofs.Common.{◌≡◌, ℕ, ◌<◌, sym, ap, ◌∙◌, subst, List, length}
use Rattle.std.specs.Prelude.{◌%◌, ◌==◌, ◌&&◌, not, Option}
use Rattle.plane_graphs.specs.Graph.{Edge}
use Rattle.slab_laws.specs.declared.names.DartId.{DartId}
use Rattle.slab_laws.specs.declared.names.FaceId.{FaceId}
use Rattle.slab_laws.specs.declared.slab_cell.SlabCell.{SlabCell}
use Rattle.slab_laws.specs.Cycles.{left_of_dart}
use Rattle.slab_laws.specs.Sound.{skeleton_of, dart_in, IsGraphSound}
use Rattle.slab_laws.specs.FacesSound.{IsFaced, IsComplete}
use Rattle.slab_laws.specs.View.{View, Faces, dart_id, face_id, HasDart, HasFace, cycle_in, face_in, twin_in}
use Rattle.sound_views.proofs.NamedDarts.{edge_known, twin_dart}
use Rattle.set_laws.specs.declared.op.Op.{Op}
use Rattle.set_laws.specs.EvenOdd.{by_op, op_in, turns_at}
use Rattle.set_laws.specs.EvenOddLaws.{IsOfFaces}
use Rattle.polygon_sets.specs.declared.crossings.Inside.{Inside}
use Rattle.polygon_sets.specs.declared.crossings.Crossing.{Crossing}
use Rattle.polygon_sets.specs.Borders.{is_turn}
use Rattle.polygon_sets.specs.Crossings.{crossing_at, crossed}
use Rattle.polygon_sets.specs.Spread.{set_at, held, IsKnown, IsSetting, AreSpread}
use Rattle.polygon_sets.proofs.FaceSides.{sides, truth, truth_left, truth_outside, across_dart, left_met}

-- the name of the face on the left of a dart
abbrev pub rank_left : Faces → DartId → ℕ
rank_left f d = (face_in f (cycle_in f d)).0

-- the crossing is that of the dart of a name
pub record IsCrossingOf (v : View) (f : Faces) (red blue : Edge → ℕ) (d : DartId) (c : Crossing) : Type 0 where
  pub has : HasDart v d
  pub left : c.left ≡ rank_left f d
  pub right : c.right ≡ rank_left f (twin_in v d)
  pub red_odd : c.red ≡ (red (dart_in v d).edge % 2 == 1)
  pub blue_odd : c.blue ≡ (blue (dart_in v d).edge % 2 == 1)

module _ (v : View) (f : Faces) (s : IsGraphSound v) (complete : IsComplete v f) (cell : FaceId → SlabCell) (faced : IsFaced v f cell) (red blue : Edge → ℕ) (r : IsOfFaces (skeleton_of v) red) (b : IsOfFaces (skeleton_of v) blue) (some : HasFace f (face_id 0)) (cs : List Crossing) (are : (k : ℕ) → k < length cs → IsCrossingOf v f red blue (dart_id k) (crossing_at cs k)) (all : (d : DartId) → HasDart v d → d.0 < length cs) where
  abbrev truth' : ℕ → Inside
  truth' = truth v f s complete cell faced red blue r b

  setting : IsSetting cs truth'
  setting = record {
    outside = truth_outside v f s complete cell faced red blue r b some;
    across = λ k l.
        let a = are k l in
        let d = dart_id k in
        ap truth' a.right
        ∙ truth_left v f s complete cell faced red blue r b (twin_in v d) (s.twinned.has d a.has)
        ∙ ap (λ x. sides (skeleton_of v) red blue (left_of_dart (skeleton_of v) x)) (twin_dart v s d a.has)
        ∙ across_dart (skeleton_of v) red blue r b (crossing_at cs k) (dart_in v d) (edge_known v d a.has) a.red_odd a.blue_odd
        ∙ ap (crossed (crossing_at cs k)) (sym (truth_left v f s complete cell faced red blue r b d a.has) ∙ ap truth' (sym a.left));
  }

  module _ (faces : ℕ) (sets : List (Option Inside)) (spread : AreSpread cs faces sets) where
    met : (d : DartId) → HasDart v d → IsKnown sets (rank_left f d)
    met =
        left_met v f s complete cell faced red blue r b some (IsKnown sets) spread.outside
        (λ d H k. let l = all d H in let a = are d.0 l in subst (IsKnown sets) a.right (spread.closed d.0 l (subst (IsKnown sets) (sym a.left) k)))

    held_is : (d : DartId) → HasDart v d → held (set_at sets (rank_left f d)) ≡ sides (skeleton_of v) red blue (left_of_dart (skeleton_of v) (dart_in v d))
    held_is d H = let k = met d H in ap held k.1 ∙ spread.told truth' setting (rank_left f d) k.0 k.1 ∙ truth_left v f s complete cell faced red blue r b d H

    pub turn_is : (op : Op) (k : ℕ) → k < length cs → is_turn op sets (crossing_at cs k) ≡ turns_at op (skeleton_of v) red blue (dart_in v (dart_id k))
    unfolding turns_at op_in
    turn_is op k l =
        let a = are k l in
        let d = dart_id k in
        let x = ap (λ n. held (set_at sets n)) a.left ∙ held_is d a.has in
        let y = ap (λ n. held (set_at sets n)) a.right ∙ held_is (twin_in v d) (s.twinned.has d a.has) ∙ ap (λ z. sides (skeleton_of v) red blue (left_of_dart (skeleton_of v) z)) (twin_dart v s d a.has) in
        (λ i. by_op op (x i).red (x i).blue && not (by_op op (y i).red (y i).blue))
