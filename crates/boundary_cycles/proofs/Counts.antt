-- The parity of a cycle above a cell, by the names of its darts.
use Rattle.std.proofs.Common.{◌≡◌, ℕ, ◌+◌, Bool, true, false, cond, arith, sym, ap, ◌∙◌, subst, inl, inr, map}
use Rattle.std.specs.Prelude.{not, ◌&&◌, ◌==◌, ◌%◌}
use Rattle.std.specs.List.{sum_by, count_by, Contains}
use Rattle.std.proofs.lemmas.Bool.{cases_Bool, true≢false}
use Rattle.plane_graphs.specs.Graph.{Edge}
use Rattle.integers.proofs.Tests.{not_true}
use Rattle.slab_laws.specs.declared.names.DartId.{DartId}
use Rattle.slab_laws.specs.declared.slab_cell.SlabCell.{SlabCell}
use Rattle.slab_laws.specs.Cycles.{dart_labels, darts_on, odd, left_of_dart}
use Rattle.slab_laws.specs.Darts.{Dart, darts}
use Rattle.slab_laws.specs.FacesSound.{lead_in}
use Rattle.slab_laws.specs.Rotation.{same_dart}
use Rattle.slab_laws.specs.Skeleton.{Skeleton, HasWeight}
use Rattle.slab_laws.specs.Sound.{IsGraphSound, skeleton_of, dart_in, edge_in}
use Rattle.slab_laws.specs.View.{View, HasDart, next_in}
use Rattle.slab_laws.specs.Weights.{weight_above}
use Rattle.slab_faces.proofs.Sums.{each, sum_by-same, sum_by-none}
use Rattle.slab_faces.proofs.Shift.{same_sum, sum_by-map}
use Rattle.slab_faces.proofs.NextLemmas.{darts_exact}
use Rattle.slab_faces.proofs.CyclesLemmas.{is_set}
use Rattle.slab_faces.proofs.Member.{member_in, in_member, map_in, map_out}
use Rattle.sound_views.proofs.NamedDarts.{names_are_darts, edge_known}
use Rattle.sound_views.proofs.NameTables.{names_exact}
use Rattle.edge_predicates.proofs.CellsBeside.{weight_is}
use Rattle.exact_plane.specs.Point.{Point}
use Rattle.slab_laws.specs.Slabs.{left_cell}
use Rattle.boundary_cycles.specs.declared.asked.Asked.TheVariants.{Left}
use Rattle.boundary_cycles.proofs.Above.{left_weight_is}
use Rattle.edge_predicates.proofs.DartsAbove.{on_and_above, by_darts, cond_both, flips}
use Rattle.arr_notes.specs.CycleNames.{dart_names, same_name}
use Rattle.face_changes.specs.Kinds.{odd_at}
use Rattle.face_changes.proofs.OneToOneMaps.{tally}
use Rattle.boundary_cycles.specs.declared.asked.Asked.{Asked}
use Rattle.boundary_cycles.specs.Asked.{is_above_asked, IsAskedBeside}
use Rattle.boundary_cycles.specs.Counted.{is_on_cycle, is_odd_above}
use Rattle.boundary_cycles.proofs.NamedWalks.{IsWalked, more, names_set, listed, of_list, counted, counted_all}

module _ (v : View) (s : IsGraphSound v) where
  abbrev g : Skeleton
  g = skeleton_of v

  -- the darts that names name are all the graph's, each once
  named_sum : (F : Dart → ℕ) → sum_by F (darts g) ≡ sum_by (λ x. F (dart_in v x)) (dart_names v)
  named_sum F =
      same_sum same_dart F (darts g) (map (dart_in v) (dart_names v)) (is_set g s.plane) (record { sound = darts_exact.path; self = darts_exact.itself; once = drawn_once })
      (λ z c. let k = names_are_darts.there v z s c in subst (Contains (map (dart_in v) (dart_names v))) k.2 (member_in _ _ (map_in (dart_in v) (dart_names v) k.0 (in_member _ _ (listed v s k.0 k.1)))))
      (λ z c. let r = map_out (dart_in v) (dart_names v) z (in_member _ _ c) in subst (Contains (darts g)) r.2 (names_are_darts.known v r.0 s (of_list v s r.0 (member_in _ _ r.1))))
      ∙ sum_by-map F (dart_in v) (dart_names v)
    where
      told : (z : Dart) (x y : DartId) → dart_in v x ≡ z → HasDart v x → HasDart v y → same_dart z (dart_in v y) ≡ same_name x y
      told z x y e hx hy = elim (cases_Bool (same_name x y)) [
        | inl t ↦ subst (λ d. same_dart z (dart_in v d) ≡ true) (names_exact.path x y t) (subst (λ d. same_dart d (dart_in v x) ≡ true) e (darts_exact.itself (dart_in v x))) ∙ sym t
        | inr t ↦ not_true (same_dart z (dart_in v y)) (λ h. true≢false (sym (subst (λ d. same_name x d ≡ true) (s.turned.differ x y hx hy (e ∙ darts_exact.path z (dart_in v y) h)) (names_exact.itself x)) ∙ t)) ∙ sym t
      ]

      drawn_once : (z : Dart) → Contains (map (dart_in v) (dart_names v)) z → count_by (same_dart z) (map (dart_in v) (dart_names v)) ≡ 1
      drawn_once z c =
          let r = map_out (dart_in v) (dart_names v) z (in_member _ _ c) in
          sum_by-map (λ y. cond (same_dart z y) 1 0) (dart_in v) (dart_names v)
          ∙ sum_by-same (λ x. tally (same_dart z (dart_in v x))) (λ x. tally (same_name r.0 x)) (dart_names v)
          (each (λ x. tally (same_dart z (dart_in v x)) ≡ tally (same_name r.0 x)) (dart_names v) (λ x k. ap tally (told z r.0 x r.2 (of_list v s r.0 (member_in _ _ r.1)) (of_list v s x k))))
          ∙ (names_set v s).once r.0 (member_in _ _ r.1)

  module _ (d : DartId) (above : Edge → Bool) where
    abbrev told : Dart → ℕ
    told = on_and_above g (lead_in v d) above

    by_names : sum_by (λ e. cond (above e) (darts_on (dart_labels (darts g)) (lead_in v d) e) 0) g.edges ≡ count_by (λ x. is_on_cycle v d x && above (edge_in v x)) (dart_names v)
    unfolding darts_on
    by_names =
        by_darts g (lead_in v d) above ∙ named_sum told
        ∙ sum_by-same (λ x. told (dart_in v x)) (λ x. cond (is_on_cycle v d x && above (edge_in v x)) 1 0) (dart_names v)
        (each (λ x. told (dart_in v x) ≡ cond (is_on_cycle v d x && above (edge_in v x)) 1 0) (dart_names v) (λ x _. cond_both (above (edge_in v x)) (is_on_cycle v d x)))

    -- where the weights above a cell are those of such edges
    pub odd_by_names : (c : SlabCell) → ((m : Edge → ℕ) → weight_above g m c.slab c.place ≡ sum_by (λ f. cond (above f) (m f) 0) g.edges) → (count_by (λ x. is_on_cycle v d x && above (edge_in v x)) (dart_names v) % 2 == 1) ≡ odd_at g (dart_in v d) c
    unfolding odd
    odd_by_names c w = sym (ap (λ n. n % 2 == 1) (w (darts_on (dart_labels (darts g)) (lead_in v d)) ∙ by_names))

-- ---- along a walk
module _ (v : View) (s : IsGraphSound v) (d : DartId) (D : HasDart v d) (at : DartId) (seen : DartId → Bool) (w : IsWalked v d at seen) (p : DartId → Bool) (b : Bool) (B : b ≡ (count_by (λ x. seen x && p x) (dart_names v) % 2 == 1)) where
  pub odd_more : p at ≡ true → not b ≡ (count_by (λ x. more at seen x && p x) (dart_names v) % 2 == 1)
  odd_more h =
      ap not B ∙ sym (flips (count_by (λ x. seen x && p x) (dart_names v)))
      ∙ ap (λ n. n % 2 == 1) (sym (counted v s d D at seen w p ∙ ap (λ t. count_by (λ x. seen x && p x) (dart_names v) + tally t) h))

  pub odd_same : p at ≡ false → b ≡ (count_by (λ x. more at seen x && p x) (dart_names v) % 2 == 1)
  odd_same h =
      let n = count_by (λ x. seen x && p x) (dart_names v) in
      let e : n ≡ n + 0 = omega arith in
      B ∙ ap (λ n. n % 2 == 1) (e ∙ sym (counted v s d D at seen w p ∙ ap (λ t. count_by (λ x. seen x && p x) (dart_names v) + tally t) h))

module _ (v : View) (s : IsGraphSound v) (d : DartId) (D : HasDart v d) (at : DartId) (seen : DartId → Bool) (w : IsWalked v d at seen) where
  pub odd_all : (p : DartId → Bool) → next_in v at ≡ d → (b : Bool) → b ≡ (count_by (λ x. more at seen x && p x) (dart_names v) % 2 == 1) → b ≡ (count_by (λ x. is_on_cycle v d x && p x) (dart_names v) % 2 == 1)
  odd_all p e b B = B ∙ ap (λ n. n % 2 == 1) (counted_all v s d D at seen w p e)

pub none_counted : (v : View) (p : DartId → Bool) → false ≡ (count_by (λ x. false && p x) (dart_names v) % 2 == 1)
none_counted v p = sym (ap (λ n. n % 2 == 1) (sum_by-none (dart_names v)))

module _ (v : View) (s : IsGraphSound v) (d : DartId) where
  -- above the left cell of a dart
  pub odd_beside : (k : DartId) → HasDart v k → (a : Asked) → IsAskedBeside (dart_in v k) a → is_odd_above v d a ≡ odd_at (skeleton_of v) (dart_in v d) (left_of_dart (skeleton_of v) (dart_in v k))
  odd_beside k K a A =
      odd_by_names v s d (is_above_asked a) (left_of_dart (skeleton_of v) (dart_in v k))
      (λ m. weight_is (skeleton_of v) s.plane (edge_in v k) (edge_known v k K) m (dart_in v k).forward
      ∙ sum_by-same _ _ (skeleton_of v).edges (each _ (skeleton_of v).edges (λ f _. ap (λ b. cond {A = ℕ} b (m f) 0) (sym (A f)))))

  -- above the cell on the left of a point
  pub odd_left : (t : Point) → HasWeight t → is_odd_above v d (Left t) ≡ odd_at (skeleton_of v) (dart_in v d) (left_cell (skeleton_of v) t)
  odd_left t T = odd_by_names v s d (is_above_asked (Left t)) (left_cell (skeleton_of v) t) (left_weight_is (skeleton_of v) t s.plane T)
