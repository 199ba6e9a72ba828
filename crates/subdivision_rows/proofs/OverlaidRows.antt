-- What an overlay tells of a layer is of its edges and faces.
use Rattle.std.proofs.Common.{◌≡◌, ℕ, ◌+◌, ◌<◌, arith, refl, sym, ap, ◌∙◌, subst, List, [], ◌∷◌, map, length, get_or, Vec, Global, Option, Some, None}
use Rattle.std.specs.Prelude.{slice_get, slice_index_or}
use Rattle.std.specs.List.{filter, Contains}
use Rattle.std.specs.Option.{option_map}
use Rattle.std.specs.List.Sorted.{IsStrictlyIncreasing}
use Rattle.std.specs.Ordering.{nat_cmp}
use Rattle.std.proofs.lemmas.Cmp.{nat_cmp_total}
use Rattle.std.proofs.lemmas.Map.Keys.{IsStrictlyIncreasing-from_sorted}
use Rattle.std.proofs.lemmas.List.{length-map, get_or-map}
use Rattle.std.proofs.lemmas.Option.{slice_get-map, slice_get-get_or}
use Rattle.plane_graphs.specs.Graph.{Edge, edges}
use Rattle.plane_graphs.specs.Piece.{Piece, Present}
use Rattle.plane_graphs.proofs.Ascending.{to_std, IsAscending-ascending}
use Rattle.slab_laws.specs.Subdivision.{subdivision}
use Rattle.slab_laws.specs.declared.names.CurveId.{CurveId}
use Rattle.slab_laws.specs.declared.names.DartId.{DartId}
use Rattle.slab_laws.specs.declared.names.FaceId.{FaceId}
use Rattle.slab_laws.specs.View.{HasFace, twin_in, curve_id}
use Rattle.slab_faces.proofs.Member.{in_member}
use Rattle.slab_faces.proofs.Searches.{range_below}
use Rattle.arr_notes.proofs.Names.{numbers_of}
use Rattle.slab_laws.specs.Overlay.{curves_along, runs_along, label}
use Rattle.slab_laws.specs.Layers.{LayerRows, rows_of}
use Rattle.subdivision_rows.specs.Listed.{Drawing, skeleton_in, subdivision_in, view_of, faces_of}
use Rattle.subdivision_rows.specs.LayerTables.{numbers_in}
use Rattle.subdivision_rows.proofs.Numbers.{face_names}
use Rattle.subdivision_rows.specs.OverlayInMemory.{Overlaid, AreRowsOf, edge_place_at, graph_of, faces_in, red_of, blue_of}
use Rattle.subdivision_rows.specs.BothInMemory.{overlaid_of, IsSoundOverlay}
use Rattle.subdivision_rows.specs.declared.both.Both.TheInside.{Inside}

curves_rise : (layer : Present) (e : Edge) → IsStrictlyIncreasing (curves_along layer e)
unfolding curves_along
curves_rise layer e =
    let cs : List ℕ = map (λ (k : Piece). k.curve) (filter (runs_along e) layer.pieces) in
    IsStrictlyIncreasing-from_sorted _ (to_std nat_cmp _ (IsAscending-ascending nat_cmp nat_cmp_total cs))

row_rises : (layer : Present) (o : Option Edge) (cs : List ℕ) → option_map (curves_along layer) o ≡ Some cs → IsStrictlyIncreasing cs
row_rises layer None cs h = cc
row_rises layer (Some e) cs h = let s : curves_along layer e ≡ cs = cc in subst IsStrictlyIncreasing s (curves_rise layer e)

told : (layer : Present) (d : Drawing) → AreRowsOf d (rows_of layer (subdivision_in d))
unfolding rows_of subdivision
told layer d = record {
  of_edges = length-map (edges d.graph) (curves_along layer);
  of_faces = length-map (subdivision_in d).faces (label layer (skeleton_in d));
  ascend = λ k cs h. row_rises layer (slice_get (edges d.graph) k) cs (sym (slice_get-map (curves_along layer) (edges d.graph) k) ∙ h);
}

pub rows_sound : (layer : Present) (d : Drawing) (r : LayerRows) → r ≡ rows_of layer (subdivision_in d) → AreRowsOf d r
rows_sound layer d r e = subst (AreRowsOf d) (sym e) (told layer d)

-- ---- what is read of a layer
rows_back : (cs : List CurveId) → map curve_id (map (λ (c : CurveId). c.0) cs) ≡ cs
rows_back [] = refl
rows_back (c ∷ cs) = ap (λ xs. c ∷ xs) (rows_back cs)

pub row_is : (t : List (Vec CurveId Global)) (rows : LayerRows) (k : ℕ) (v : Vec CurveId Global) (cs : List CurveId) → numbers_in t ≡ rows.curves → k < length rows.curves → v ≡ get_or t k v → cs ≡ v.items → cs ≡ map curve_id (slice_index_or rows.curves k [])
row_is t rows k v cs e b r f =
    let numbers : Vec CurveId Global → List ℕ = λ v. map (λ (c : CurveId). c.0) v.items in
    let h : k < length t = subst (λ (n : ℕ). k < n) (ap length (sym e) ∙ length-map t numbers) b in
    let at : slice_index_or rows.curves k [] ≡ numbers v = ap (λ (xs : List (List ℕ)). slice_index_or xs k []) (sym e) ∙ get_or-map numbers t k v [] h ∙ ap numbers (sym r) in
    f ∙ sym (rows_back v.items) ∙ ap (map curve_id) (sym at)

pub row_ascends : (d : Drawing) (r : LayerRows) (k p : ℕ) → AreRowsOf d r → k < length (edges d.graph) → k ≡ p → IsStrictlyIncreasing (map (λ (c : CurveId). c.0) (map curve_id (slice_index_or r.curves p [])))
row_ascends d r k p s h e =
    let n = s.of_edges in
    let at : slice_get r.curves k ≡ Some (slice_index_or r.curves k []) = slice_get-get_or r.curves k [] (omega arith) in
    subst (λ (m : ℕ). IsStrictlyIncreasing (map (λ (c : CurveId). c.0) (map curve_id (slice_index_or r.curves m [])))) e
    (subst IsStrictlyIncreasing (sym (numbers_of (slice_index_or r.curves k []))) (s.ascend k _ at))

-- ---- the names of faces are their ranks
pub label_within : (d : Drawing) (r : LayerRows) (f : FaceId) → AreRowsOf d r → HasFace (faces_of d) f → f.0 < length r.labels
label_within d r f s h =
    let n = s.of_faces in
    let m : f.0 < 0 + length (subdivision_in d).faces = range_below 0 _ f.0 (in_member _ f.0 (subst (λ ns. Contains ns f.0) (face_names d) h)) in
    omega arith

-- ---- the same of the value that is seen
module _ (b : Inside) (o : Overlaid) (s : IsSoundOverlay b) (is : overlaid_of b ≡ o) where
  pub red_ascends : (h : DartId) (k : ℕ) → k ≡ edge_place_at b.rows h.0 → k < length (edges b.rows.graph) → IsStrictlyIncreasing (map (λ (c : CurveId). c.0) ((red_of o).curves h))
  red_ascends h k e l = subst (λ (o : Overlaid). IsStrictlyIncreasing (map (λ (c : CurveId). c.0) ((red_of o).curves h))) is (row_ascends b.rows b.red k (edge_place_at b.rows h.0) s.red l e)

  pub blue_ascends : (h : DartId) (k : ℕ) → k ≡ edge_place_at b.rows h.0 → k < length (edges b.rows.graph) → IsStrictlyIncreasing (map (λ (c : CurveId). c.0) ((blue_of o).curves h))
  blue_ascends h k e l = subst (λ (o : Overlaid). IsStrictlyIncreasing (map (λ (c : CurveId). c.0) ((blue_of o).curves h))) is (row_ascends b.rows b.blue k (edge_place_at b.rows h.0) s.blue l e)

  pub red_turned : (h : DartId) → edge_place_at b.rows (twin_in (view_of b.rows) h).0 ≡ edge_place_at b.rows h.0 → (red_of o).curves (twin_in (graph_of o) h) ≡ (red_of o).curves h
  red_turned h e = subst (λ (o : Overlaid). (red_of o).curves (twin_in (graph_of o) h) ≡ (red_of o).curves h) is (ap (λ (p : ℕ). map curve_id (slice_index_or b.red.curves p [])) e)

  pub blue_turned : (h : DartId) → edge_place_at b.rows (twin_in (view_of b.rows) h).0 ≡ edge_place_at b.rows h.0 → (blue_of o).curves (twin_in (graph_of o) h) ≡ (blue_of o).curves h
  blue_turned h e = subst (λ (o : Overlaid). (blue_of o).curves (twin_in (graph_of o) h) ≡ (blue_of o).curves h) is (ap (λ (p : ℕ). map curve_id (slice_index_or b.blue.curves p [])) e)

  pub red_within : (f : FaceId) → HasFace (faces_in o) f → f.0 < length b.red.labels
  red_within f h = label_within b.rows b.red f s.red (subst (λ (o : Overlaid). HasFace (faces_in o) f) (sym is) h)

  pub blue_within : (f : FaceId) → HasFace (faces_in o) f → f.0 < length b.blue.labels
  blue_within f h = label_within b.rows b.blue f s.blue (subst (λ (o : Overlaid). HasFace (faces_in o) f) (sym is) h)
