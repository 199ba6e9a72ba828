-- The pieces of a layer that run along an edge, and their curves.
use Rattle.std.proofs.Common.{◌≡◌, ℕ, Bool, true, false, ◌&&◌, Vec, Global, refl, sym, ap, ◌∙◌, List, [], ◌∷◌, ◌++◌, map}
use Rattle.std.specs.Prelude.{filter, ◌||◌}
use Rattle.std.specs.List.{list_any}
use Rattle.std.specs.Ordering.{nat_cmp}
use Rattle.std.proofs.lemmas.List.{map-append}
use Rattle.exact_plane.specs.Point.{Point}
use Rattle.plane_graphs.specs.Ascending.{ascending}
use Rattle.plane_graphs.specs.Graph.{Edge}
use Rattle.plane_graphs.specs.Piece.{Piece, on}
use Rattle.plane_graphs.proofs.Lists.{map_map, filter_of_map}
use Rattle.present_graphs.specs.Spans.{span_of_piece, lies_on}
use Rattle.present_graphs.proofs.OnSpans.{lies_on-is}
use Rattle.slab_laws.specs.declared.names.CurveId.{CurveId}
use Rattle.slab_laws.specs.declared.present.Piece.{Piece as PieceInMemory}
use Rattle.slab_laws.specs.declared.present.Present.{Present as PresentInMemory}
use Rattle.slab_laws.specs.Pieces.{piece_of, present_of}
use Rattle.slab_laws.specs.Overlay.{runs_along, curves_along, has_curve_along}
use Rattle.subdivision_rows.specs.LayerTables.{numbers_in}
use Rattle.plain_slabs.specs.LayerEdges.{numbers_along}

-- ---- to run along an edge is to hold both its ends
pub both_held : (k : Piece) (low p q : Point) (a b : Bool) → p ≡ low → a ≡ lies_on (span_of_piece k) p → a ≡ true → b ≡ lies_on (span_of_piece k) q → (high : Point) → q ≡ high → b ≡ (on k low && on k high)
both_held k low p q a b l e t f high h =
    let x : on k low ≡ true = ap (on k) (sym l) ∙ sym (lies_on-is k p) ∙ sym e ∙ t in
    let y : b ≡ on k high = f ∙ lies_on-is k q ∙ ap (on k) h in
    y ∙ ap (λ z. z && on k high) (sym x)

pub one_missed : (k : Piece) (low high p : Point) (a : Bool) → p ≡ low → a ≡ lies_on (span_of_piece k) p → a ≡ false → a ≡ (on k low && on k high)
one_missed k low high p a l e f =
    let x : on k low ≡ false = ap (on k) (sym l) ∙ sym (lies_on-is k p) ∙ sym e ∙ f in
    f ∙ ap (λ z. z && on k high) (sym x)

-- ---- in memory
pub along_is : (layer : PresentInMemory) (e : Edge) → numbers_along layer.pieces e ≡ curves_along (present_of layer) e
unfolding curves_along
along_is layer e =
    let here : List PieceInMemory = filter (λ k. runs_along e (piece_of k)) layer.pieces in
    ap (ascending nat_cmp)
    (map_map (λ (k : PieceInMemory). k.curve) (λ (c : CurveId). c.0) here
    ∙ sym (map_map piece_of (λ (k : Piece). k.curve) here)
    ∙ ap (map (λ (k : Piece). k.curve)) (sym (filter_of_map piece_of (runs_along e) layer.pieces)))

any_of_map : {X Y : Type 0} (f : X → Y) (p : Y → Bool) (xs : List X) → list_any p (map f xs) ≡ list_any (λ x. p (f x)) xs
any_of_map f p [] = refl
any_of_map f p (x ∷ xs) = ap (λ b. p (f x) || b) (any_of_map f p xs)

pub has_along_is : (layer : PresentInMemory) (e : Edge) → list_any (λ k. runs_along e (piece_of k)) layer.pieces ≡ has_curve_along (present_of layer) e
unfolding has_curve_along
has_along_is layer e = sym (any_of_map piece_of (runs_along e) layer.pieces)

pub row_added : (layer : PresentInMemory) (e : Edge) (ks : List PieceInMemory) (rows new : List (Vec CurveId Global)) (row : Vec CurveId Global) → ks ≡ layer.pieces → map (λ (c : CurveId). c.0) row.items ≡ numbers_along ks e → new ≡ rows ++ row ∷ [] → numbers_in new ≡ numbers_in rows ++ curves_along (present_of layer) e ∷ []
row_added layer e ks rows new row k is n =
    let at : map (λ (c : CurveId). c.0) row.items ≡ curves_along (present_of layer) e = is ∙ ap (λ xs. numbers_along xs e) k ∙ along_is layer e in
    ap numbers_in n ∙ map-append (λ (v : Vec CurveId Global). map (λ (c : CurveId). c.0) v.items) rows (row ∷ []) ∙ ap (λ (ys : List ℕ). numbers_in rows ++ ys ∷ []) at
