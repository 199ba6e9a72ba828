-- Location answers the rank of the face that is named.
use Rattle.std.proofs.Common.{◌≡◌, ℕ, ◌+◌, Bool, false, cond, refl, sym, ap, ap₂, ◌∙◌, subst, inl, inr, List, [], ◌∷◌}
use Rattle.std.specs.Prelude.{not, Some, None}
use Rattle.std.specs.List.{position_or_len}
use Rattle.std.specs.Option.{option_map}
use Rattle.std.proofs.lemmas.Bool.{false_from_ne_true}
use Rattle.plane_graphs.specs.Ascending.{Member}
use Rattle.plane_graphs.specs.Graph.{Edge}
use Rattle.slab_laws.specs.declared.cell.Cell.TheVariants.{Face}
use Rattle.slab_laws.specs.declared.names.FaceId.{FaceId}
use Rattle.slab_laws.specs.declared.slab_cell.SlabCell.{SlabCell}
use Rattle.slab_laws.specs.Faces.{face_labels, face_of, same_cell}
use Rattle.slab_laws.specs.FacesSound.{IsSound}
use Rattle.slab_laws.specs.Skeleton.{inside}
use Rattle.slab_laws.specs.Slabs.{left_cell}
use Rattle.slab_laws.specs.Sound.{skeleton_of}
use Rattle.slab_laws.specs.Subdivision.{subdivision, rank}
use Rattle.slab_laws.specs.Tables.{name_after}
use Rattle.slab_laws.specs.View.{View, Faces, HasFace, cycle_in, face_id}
use Rattle.slab_faces.specs.Locations.{IsOnNoEdge}
use Rattle.slab_faces.specs.LocationLaws.{IsNoVertex}
use Rattle.slab_faces.proofs.FacesLemmas.{one_label}
use Rattle.slab_faces.proofs.LocationLemmas.{location_is}
use Rattle.slab_faces.proofs.Parity.{same_point_is}
use Rattle.face_changes.specs.FacesByPairs.{Item, HasItem, name_at, cell_at, first_or}
use Rattle.face_changes.specs.FacesByPairs.Item.{outside, beside, round}
use Rattle.sound_views.specs.Orders.{dart_order}
use Rattle.sound_changes.proofs.KnownNames.{known_point, known_edge}
use Rattle.record_orders.specs.CycleKeys.{same_face, cycle_keys, ranked_faces}
use Rattle.arr_text.proofs.FaceNames.{faces_named, first_face, same_faces}
use Rattle.face_ranks.specs.Ranks.{rank_in, FaceIsLocated}
use Rattle.face_ranks.proofs.AscendingPlaces.{place_of_map}
use Rattle.face_ranks.proofs.RankedOuter.{ranked_are, ranked_has}

-- tests that agree on the elements find one place
place_same : {X : Type 0} (p q : X → Bool) (xs : List X) → ((x : X) → Member x xs → p x ≡ q x) → position_or_len p xs ≡ position_or_len q xs
place_same p q [] h = refl
place_same p q (x ∷ xs) h = ap₂ (λ (b : Bool) (n : ℕ). cond (not b) (1 + n) 0) (h x (inl refl)) (place_same p q xs (λ y m. h y (inr m)))

first_is : (ns : List ℕ) (a : FaceId) → option_map face_id (name_after ns None) ≡ Some a → first_or ns ≡ a
unfolding name_after
first_is [] a e = absurd cc
first_is (n ∷ ns) a e = cc

module _ (v : View) (f : Faces) (s : IsSound v f) where
  abbrev cell : FaceId → SlabCell
  cell = s.faced.0

  -- the rank of a name is that of its cell
  pub rank_is : (a : FaceId) → HasFace f a → rank (subdivision (skeleton_of v)) (cell a) ≡ rank_in v f a
  unfolding rank rank_in
  rank_is a A =
      let fs = ranked_faces f (cycle_keys f (dart_order v)) in
      ap (position_or_len (same_cell (cell a))) (sym (faces_named v f s cell s.faced.1))
      ∙ place_of_map cell (same_cell (cell a)) fs
      ∙ sym (place_same (same_face a) (λ b. same_cell (cell a) (cell b)) fs (λ b m. same_faces v f s s.faced.0 s.faced.1 a b A (ranked_has v f s a b A (subst (Member b) (ranked_are v f s a A) m))))

  -- ---- what has a face
  item_face : (i : Item) → HasItem v i → HasFace f (name_at f i) × (cell (name_at f i) ≡ face_of (face_labels (skeleton_of v)) (cell_at v i))
  item_face outside h =
      let k = first_face v f s cell s.faced.1 in
      let e = first_is f.faces k.0 k.1 in
      (subst (HasFace f) (sym e) k.2, ap cell e ∙ k.3)
  item_face (beside d) h = (s.complete.face_has (cycle_in f d) (s.complete.cycle_has d h), s.faced.1.darts d h)
  item_face (round w) h =
      let b = (s.complete.bare w h.0).1 h.1 in
      (s.complete.bare_has w b, s.faced.1.bare w b)

pub face_is_located : FaceIsLocated
face_is_located v f p a s proper spot r =
    let g = skeleton_of v in
    let at = item_face v f s r.0 r.1 in
    let A : HasFace f a = subst (HasFace f) r.2 at.0 in
    let is : face_of (face_labels g) (left_cell g p) ≡ s.faced.0 a = sym (one_label g (cell_at v r.0) (left_cell g p) s.graph.plane r.3) ∙ sym at.1 ∙ ap s.faced.0 r.2 in
    let no_vertex : IsNoVertex g p = λ q Q. let w = known_point v s.graph.named q Q in false_from_ne_true _ (λ t. spot.no_vertex w.0 w.1 (sym w.2 ∙ sym (same_point_is p q t))) in
    let no_edge : IsOnNoEdge g p = λ e E. let d = known_edge v e E in subst (λ (x : Edge). inside x p ≡ false) (sym d.2) (spot.no_edge d.0 d.1) in
    location_is.in_face g p no_vertex no_edge ∙ ap Face (ap (rank (subdivision g)) is ∙ rank_is v f s a A)
