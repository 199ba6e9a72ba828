-- The sides of curves along an edge of a layer are as many as its pieces that hold it.
use Rattle.std.proofs.Common.{◌≡◌, ℕ, ◌+◌, ◌*◌, ◌≤◌, Bool, true, false, cond, ◌&&◌, if◌then◌else◌, arith, refl, sym, ap, ◌∙◌, subst, inl, inr, List, [], ◌∷◌, length, map}
use Rattle.std.specs.List.{count_by, filter, list_any}
use Rattle.std.specs.Ordering.{nat_cmp}
use Rattle.std.proofs.lemmas.List.{length-map}
use Rattle.std.proofs.lemmas.List.Sums.{length-filter, sum_by-cons}
use Rattle.exact_plane.specs.Point.{Point}
use Rattle.exact_plane.specs.PointOrderLaws.{and_true}
use Rattle.plane_graphs.specs.Ascending.{Member, ascending}
use Rattle.plane_graphs.specs.Graph.{Edge, Graph, curves, graph, is_at, mark}
use Rattle.plane_graphs.specs.Line.{precedes}
use Rattle.plane_graphs.specs.Piece.{Piece, Present, on}
use Rattle.plane_graphs.specs.Strands.{strand_piece, strand_pieces, strands}
use Rattle.plane_graphs.proofs.Edges.{curves_of_edge}
use Rattle.plane_graphs.proofs.Lists.{and_in, any_in, of_filter, of_map, some_of}
use Rattle.plane_graphs.proofs.Order.{same_itself}
use Rattle.plane_graphs.proofs.Strands.{of_strands, strand_on, strands_fit}
use Rattle.edit_steps.specs.Layer.{ArePiecesOnce}
use Rattle.set_laws.specs.PolygonSets.{pieces_along}
use Rattle.slab_laws.specs.declared.names.DartId.{DartId}
use Rattle.slab_laws.specs.FaceLists.{AreOnce}
use Rattle.slab_laws.specs.Overlay.{runs_along}
use Rattle.slab_laws.specs.Sound.{edge_in}
use Rattle.slab_laws.specs.View.{View, point_in, source_in, target_in}
use Rattle.arr_notes.specs.Curves.{AreCurvesOf, IsForward}
use Rattle.sound_views.proofs.DartCurves.{curves_of_darts}
use Rattle.sound_views.proofs.GraphHolds.{graphs_hold}
use Rattle.curve_history.specs.Past.{Past, strands_on}
use Rattle.curve_history.proofs.Histories.{same_length}
use Rattle.curve_history.proofs.Sides.{strands_of_edges}
use Rattle.told_steps.specs.RecordLayers.{IsLayer, layer_of}

-- ---- pieces with numbers of their own for their sides
strands_run : (e : Edge) (ks : List Piece) → count_by (λ k. on k e.low && on k e.high) (strand_pieces ks) ≡ count_by (runs_along e) ks
strands_run e [] = refl
strands_run e (k ∷ ks) =
    sum_by-cons (λ j. cond {A = ℕ} (on j e.low && on j e.high) 1 0) (strand_piece k) (strand_pieces ks)
    ∙ (λ i. cond {A = ℕ} (strand_on k e.low i && strand_on k e.high i) 1 0 + strands_run e ks i)
    ∙ sym (sum_by-cons (λ j. cond {A = ℕ} (runs_along e j) 1 0) k ks)

module _ (v : View) (p : Past) (l : IsLayer v p) where
  abbrev layer : Present
  layer = (layer_of v p).present

  sides : AreCurvesOf v (strands_on p)
  sides = strands_of_edges v p l.curves

  module _ (d : DartId) (f : IsForward v d) where
    abbrev low : Point
    low = point_in v (source_in v d)

    abbrev high : Point
    high = point_in v (target_in v d)

    abbrev along : Piece → Bool
    along k = on k low && on k high

    -- an edge that the layer draws, its sides told apart
    drawn : list_any (is_at low high) (graph (strands layer)).marks ≡ true
    drawn =
        let c = some_of (strands_on p d) (sides.some d f) in
        let m = ((graphs_hold v (strands_on p) l.sound).marks (mark low high c.0)).1 (d, record { forward = f; low = refl; high = refl; curve = c.1 }) in
        any_in (is_at low high) (mark low high c.0) (graph (strands layer)).marks (subst (λ (g : Graph). Member (mark low high c.0) g.marks) l.strands m) (and_in (same_itself low) (same_itself high))

    -- pieces along one edge have sides of their own
    one_piece : (k j : Piece) → Member k layer.pieces → Member j layer.pieces → along k ≡ true → along j ≡ true → (strand_piece k).curve ≡ (strand_piece j).curve → k ≡ j
    one_piece k j K J a b e =
        let fk = l.lawful.fit.piece k K in
        let fj = l.lawful.fit.piece j J in
        let s = fk.last_side in
        let t = fj.last_side in
        l.lawful.fit.one_piece k j K J (omega arith, omega arith) low (l.sound.drawn.proper (source_in v d) (l.sound.linked.source d f.0)) (and_true (on k low) (on k high) a).0 (and_true (on j low) (on j high) b).0

    abbrev numbers : List Piece → List ℕ
    numbers ks = map (λ (k : Piece). k.curve) (filter along (strand_pieces ks))

    own_along : (k : Piece) → along (strand_piece k) ≡ true → along k ≡ true
    own_along k h = sym (λ i. strand_on k low i && strand_on k high i) ∙ h

    -- its number doesn't come again
    again : (k : Piece) (ks : List Piece) → ((j : Piece) → Member j (k ∷ ks) → Member j layer.pieces) → (Member k ks → ⊥) → along (strand_piece k) ≡ true → Member (strand_piece k).curve (numbers ks) → ⊥
    again k ks sub new a m =
        let c = of_map (λ (j : Piece). j.curve) (strand_piece k).curve (filter along (strand_pieces ks)) m in
        let s = of_filter along c.0 (strand_pieces ks) c.1 in
        let j = of_strands c.0 ks s.0 in
        let b : along (strand_piece j.0) ≡ true = subst (λ z. along z ≡ true) j.2 s.1 in
        let e : (strand_piece k).curve ≡ (strand_piece j.0).curve = c.2 ∙ ap (λ (z : Piece). z.curve) j.2 in
        new (subst (λ z. Member z ks) (sym (one_piece k j.0 (sub k (inl refl)) (sub j.0 (inr j.1)) (own_along k a) (own_along j.0 b) e)) j.1)

    kept : (k : Piece) (ks : List Piece) (t : Bool) → (t ≡ true → Member (strand_piece k).curve (numbers ks) → ⊥) → AreOnce (numbers ks) → AreOnce (map (λ (j : Piece). j.curve) (cond t (strand_piece k ∷ filter along (strand_pieces ks)) (filter along (strand_pieces ks))))
    kept k ks true n o = (n refl, o)
    kept k ks false n o = o

    once_numbers : (ks : List Piece) → ((k : Piece) → Member k ks → Member k layer.pieces) → ArePiecesOnce ks → AreOnce (numbers ks)
    once_numbers [] sub o = tt
    once_numbers (k ∷ ks) sub o = kept k ks (along (strand_piece k)) (again k ks sub o.0) (once_numbers ks (λ j m. sub j (inr m)) o.1)

    pub sides_counted : length (strands_on p d) ≡ pieces_along layer (edge_in v d)
    unfolding pieces_along
    sides_counted =
        let js = filter along (strand_pieces layer.pieces) in
        let up : Edge = record { low = low; high = high } in
        let down : Edge = record { low = high; high = low } in
        let ahead : edge_in v d ≡ up = ap (λ (b : Bool). if b then up else down) f.1 in
        ap length (sym (curves_of_darts v (strands_on p) d l.sound sides f) ∙ ap (λ g. curves g low high) l.strands ∙ curves_of_edge (strands layer) low high (strands_fit layer l.lawful.fit) drawn)
        ∙ same_length (map (λ (k : Piece). k.curve) js) (once_numbers layer.pieces (λ k m. m) l.lawful.once)
        ∙ length-map js (λ (k : Piece). k.curve)
        ∙ length-filter along (strand_pieces layer.pieces)
        ∙ strands_run up layer.pieces
        ∙ ap (λ (e : Edge). count_by (runs_along e) layer.pieces) (sym ahead)
