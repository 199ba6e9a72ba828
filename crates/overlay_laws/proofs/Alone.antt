-- With an empty layer the overlay is the other layer's own subdivision.
use Rattle.std.proofs.Common.{◌≡◌, ℕ, Bool, true, false, cond, ◌&&◌, arith, refl, sym, ap, ◌∙◌, subst, [], ⊎_elim}
use Rattle.std.specs.Prelude.{◌/◌, Some}
use Rattle.std.specs.List.{Contains, count_by, slice_get}
use Rattle.exact_plane.specs.PointOrder.{point_cmp}
use Rattle.exact_plane.specs.PointOrderLaws.{point_cmp_total}
use Rattle.plane_graphs.specs.Ascending.{Member, ascending}
use Rattle.plane_graphs.specs.Piece.{Piece, Present}
use Rattle.plane_graphs.specs.Fit.{IsFit}
use Rattle.plane_graphs.specs.Graph.{Edge, edge_cmp, graph, vertices, edges}
use Rattle.plane_graphs.proofs.Ascending.{ascending_unique, to_member}
use Rattle.plane_graphs.proofs.Lists.{and_in, any_in}
use Rattle.plane_graphs.proofs.Marks.{on_in}
use Rattle.plane_graphs.proofs.Vertices.{vertices_ascend}
use Rattle.plane_graphs.proofs.Meaning.{edge_cmp_total, edges_ascend}
use Rattle.slab_laws.specs.declared.slab_cell.SlabCell.{SlabCell}
use Rattle.slab_laws.specs.Skeleton.{Skeleton}
use Rattle.slab_laws.specs.Meets.{SameFace}
use Rattle.slab_laws.specs.Slabs.{slab_right, spans, place}
use Rattle.slab_laws.specs.Faces.{face_labels, face_of, same_cell, cells}
use Rattle.slab_laws.specs.Subdivision.{subdivision, rank, first_cell}
use Rattle.slab_faces.proofs.Member.{member_in, in_member}
use lib.Dec.{ltb, leb}
use Rattle.slab_faces.proofs.Sums.{each, sum_by-same, sum_by-none}
use Rattle.slab_faces.proofs.FacesLemmas.{cells_exact, in_its_face, one_label, first_rank}
use Rattle.slab_faces.proofs.LocationLemmas.{cells_have_faces}
use Rattle.slab_laws.specs.Overlay.{renamed, red_name, blue_name, both, plane_of, runs_along, has_curve_along, cell_in, label}
use Rattle.overlay_laws.specs.OverlayLaws.{empty, IsAlone, EmptyLayerAddsNothing}
use Rattle.overlay_laws.proofs.Both.{same_along, Origin, from_red, from_blue, origin, pin_out, both_fit}
use Rattle.overlay_laws.proofs.Counts.{cell_by}
use Rattle.overlay_laws.proofs.Parts.{IsStretch, stretch_out, stretch_in, IsLayerOf, red_layer, blue_layer, vertex_kept, on_name}
use Rattle.overlay_laws.proofs.Labels.{plane_by, cell_is, label_is, one_face}
use Rattle.overlay_laws.proofs.OwnCells.{lies_in_itself, face_of_cell, position_once, there}

-- ---- two presents, each a layer of the other, have one plane graph
stretch_kept : (a b : Present) (fa : IsFit a) (fb : IsFit b) (p : IsLayerOf a b) (q : IsLayerOf b a) (e : Edge) → IsStretch a e → IsStretch b e
stretch_kept a b fa fb p q e s = record {
  piece = renamed p.name s.piece;
  here = p.piece_in s.piece s.here;
  low_in = vertex_kept a b fa fb p e.low s.low_in;
  high_in = vertex_kept a b fa fb p e.high s.high_in;
  next = record {
    lt = s.next.lt;
    at_p = on_name a b fa fb p s.piece e.low s.next.at_p;
    at_q = on_name a b fa fb p s.piece e.high s.next.at_q;
    none = λ r n l u o. s.next.none r (vertex_kept b a fb fa q r n) l u (sym (same_along p.name s.piece r) ∙ o);
  };
}

module _ (layer whole : Present) (fl : IsFit layer) (fw : IsFit whole) (part : IsLayerOf layer whole) (back : IsLayerOf whole layer) where
  same_vertices : vertices whole ≡ vertices layer
  same_vertices = ascending_unique point_cmp point_cmp_total (vertices whole) (vertices layer) (vertices_ascend whole) (vertices_ascend layer) (λ x h. vertex_kept whole layer fw fl back x h) (λ x h. vertex_kept layer whole fl fw part x h)

  same_edges : edges (graph whole) ≡ edges (graph layer)
  same_edges =
      ascending_unique edge_cmp edge_cmp_total (edges (graph whole)) (edges (graph layer)) (edges_ascend (graph whole)) (edges_ascend (graph layer))
      (λ e h. stretch_in layer e (stretch_kept whole layer fw fl back part e (stretch_out whole e h)))
      (λ e h. stretch_in whole e (stretch_kept layer whole fl fw part back e (stretch_out layer e h)))

  same_plane : plane_of whole ≡ plane_of layer
  unfolding graph
  same_plane = λ i. record { vertices = same_vertices i; edges = same_edges i }

  -- each edge has a curve of the layer
  all_own : (e : Edge) → Contains (plane_of layer).edges e → has_curve_along layer e ≡ true
  unfolding has_curve_along
  all_own e h =
      let s = stretch_out layer e (to_member (edges (graph layer)) e h) in
      any_in (runs_along e) s.piece layer.pieces s.here (and_in (on_in s.piece e.low s.next.at_p) (on_in s.piece e.high s.next.at_q))

  own_label : (k : ℕ) (f : SlabCell) → slice_get (subdivision (plane_of whole)).faces k ≡ Some f → label layer (plane_of whole) f ≡ k
  own_label k f at =
      let r = plane_of layer in
      let g = plane_of whole in
      let pr = plane_by layer fl in
      let at' : slice_get (subdivision r).faces k ≡ Some f = ap (λ s. slice_get (subdivision s).faces k) (sym same_plane) ∙ at in
      let w = face_of_cell r pr f (in_member (subdivision r).faces f (there (same_cell f) (subdivision r).faces k f at')) in
      let c = w.0 in
      let same_c : cell_in layer g c ≡ c = cell_is layer g c ∙ ap (λ s. cell_by (has_curve_along layer) r s c) same_plane ∙ lies_in_itself r pr (has_curve_along layer) all_own c w.1 in
      let in_f : SameFace g c f = subst (λ s. SameFace s c f) (sym same_plane) (subst (SameFace r c) w.2 (in_its_face r c pr)) in
      let b : SameFace r c (cell_in layer g f) = subst (λ d. SameFace r d (cell_in layer g f)) same_c (one_face layer whole fl fw part c f in_f) in
      let e : face_of (face_labels r) (cell_in layer g f) ≡ f = sym (one_label r c (cell_in layer g f) pr b) ∙ w.2 in
      let once : count_by (same_cell f) (subdivision r).faces ≡ 1 = subst (λ d. count_by (same_cell d) (subdivision r).faces ≡ 1) w.2 (cells_have_faces.once r c (member_in (cells r) c w.1)) in
      label_is layer g f ∙ ap (rank (subdivision r)) e ∙ rank_at r f k once at'
    where
      rank_at : (r : Skeleton) (f : SlabCell) (k : ℕ) → count_by (same_cell f) (subdivision r).faces ≡ 1 → slice_get (subdivision r).faces k ≡ Some f → rank (subdivision r) f ≡ k
      rank_at r f k once at = unfold rank in position_once (same_cell f) (subdivision r).faces k f once at (cells_exact.itself f)

-- ---- an empty layer has one face
no_vertices : (plane_of empty).vertices ≡ []
unfolding graph vertices ascending
no_vertices = refl

none_of : (e : Edge) → has_curve_along empty e ≡ false
unfolding has_curve_along
none_of e = refl

in_first : (g : Skeleton) (f : SlabCell) → cell_in empty g f ≡ first_cell
in_first g f =
    let lies : Edge → ℕ = λ e. cond ((spans g f.slab e && ltb (place g f.slab e) f.place) && has_curve_along empty e) 1 0 in
    let a : count_by (λ v. leb (slab_right g v) f.slab) (plane_of empty).vertices ≡ 0 = ap (λ vs. count_by (λ v. leb (slab_right g v) f.slab) vs) no_vertices in
    let b : count_by (λ e. (spans g f.slab e && ltb (place g f.slab e) f.place) && has_curve_along empty e) g.edges ≡ 0 =
    sum_by-same lies (λ e. 0) g.edges (each (λ e. lies e ≡ 0) g.edges (λ e E. ap (λ b. cond {A = ℕ} ((spans g f.slab e && ltb (place g f.slab e) f.place) && b) 1 0) (none_of e) ∙ never (spans g f.slab e && ltb (place g f.slab e) f.place))) ∙ sum_by-none g.edges in
    cell_is empty g f ∙ (λ k. record { slab = a k; place = b k })
  where
    never : (b : Bool) → cond {A = ℕ} (b && false) 1 0 ≡ 0
    never true = refl
    never false = refl

other_label : (g : Skeleton) (f : SlabCell) → label empty g f ≡ 0
other_label g f = label_is empty g f ∙ ap (λ c. rank (subdivision (plane_of empty)) (face_of (face_labels (plane_of empty)) c)) (in_first g f) ∙ first_rank (plane_of empty)

-- ---- with an empty layer
half : ℕ → ℕ
half n = n / 2

half_red : (c : ℕ) → half (red_name c) ≡ c
unfolding half
half_red c = omega arith

half_blue : (c : ℕ) → half (blue_name c) ≡ c
unfolding half
half_blue c = omega arith

named_back : (name : ℕ → ℕ) → ((c : ℕ) → half (name c) ≡ c) → (k m : Piece) → k ≡ renamed name m → renamed half k ≡ m
named_back name h k m e = ap (renamed half) e ∙ (λ i. record { curve = h m.curve i; side = m.side; segment = m.segment; from = m.from; to = m.to })

piece_back_red : (layer : Present) (k : Piece) → Origin layer empty k → Member (renamed half k) layer.pieces
piece_back_red layer k (from_red m h e) = subst (λ z. Member z layer.pieces) (sym (named_back red_name half_red k m e)) h
piece_back_red layer k (from_blue m h e) = absurd h

piece_back_blue : (layer : Present) (k : Piece) → Origin empty layer k → Member (renamed half k) layer.pieces
piece_back_blue layer k (from_red m h e) = absurd h
piece_back_blue layer k (from_blue m h e) = subst (λ z. Member z layer.pieces) (sym (named_back blue_name half_blue k m e)) h

back_red : (layer : Present) → IsLayerOf (both layer empty) layer
back_red layer = record { name = half; piece_in = λ k h. piece_back_red layer k (origin layer empty k h); pin_in = λ r h. ⊎_elim (λ a. a) (λ a. absurd a) (pin_out layer empty r h) }

back_blue : (layer : Present) → IsLayerOf (both empty layer) layer
back_blue layer = record { name = half; piece_in = λ k h. piece_back_blue layer k (origin empty layer k h); pin_in = λ r h. ⊎_elim (λ a. absurd a) (λ a. a) (pin_out empty layer r h) }

empty_fit : IsFit empty
empty_fit = record {
  piece = λ k h. absurd h;
  pin = λ r h. absurd h;
  pins_ascend = tt;
  one_segment = λ k m h i s. absurd h;
  one_piece = λ k m h i s t pt x y. absurd h;
}

alone : (layer whole : Present) → IsFit layer → IsFit whole → IsLayerOf layer whole → IsLayerOf whole layer → IsAlone layer whole
alone layer whole fl fw part back = record {
  same = ap subdivision (same_plane layer whole fl fw part back);
  own_label = own_label layer whole fl fw part back;
  other_label = other_label (plane_of whole);
}

pub empty_layer_adds_nothing : EmptyLayerAddsNothing
empty_layer_adds_nothing layer fit = (
  alone layer (both layer empty) fit (both_fit layer empty fit empty_fit) (red_layer layer empty) (back_red layer),
  alone layer (both empty layer) fit (both_fit empty layer empty_fit fit) (blue_layer empty layer) (back_blue layer),
)
