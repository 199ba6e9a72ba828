-- Both layers under the numbers of places are fit, and have the vertices and edges that they have under numbers of their own.
use Rattle.std.proofs.Common.{◌≡◌, ℕ, suc, ◌≤◌, arith, refl, sym, ap, ap₂, ◌∙◌, subst, ⊎_elim, inl, inr, List, [], ◌∷◌, ◌++◌, map}
use Rattle.std.specs.List.{flat_map}
use Rattle.std.proofs.lemmas.List.{map-append}
use Rattle.exact_plane.specs.Point.{Point}
use Rattle.exact_plane.specs.PointOrder.{point_cmp}
use Rattle.plane_graphs.specs.Ascending.{Member, ascending}
use Rattle.plane_graphs.specs.Piece.{Piece, Present, along, on}
use Rattle.plane_graphs.specs.Fit.{IsFit, IsFitPiece}
use Rattle.plane_graphs.specs.Graph.{edge_cmp, edges, graph, vertices, ends, common_points}
use Rattle.plane_graphs.specs.Meaning.{IsEdgeOf}
use Rattle.plane_graphs.proofs.Ascending.{ascending_unique}
use Rattle.plane_graphs.proofs.Lists.{in_map, of_map, in_either}
use Rattle.plane_graphs.proofs.Meaning.{edges_are, edges_ascend, edge_cmp_total}
use Rattle.slab_laws.specs.Overlay.{renamed, red_name, blue_name, both, plane_of}
use Rattle.overlay_laws.proofs.Both.{same_on, fit_piece, both_fit}
use Rattle.overlay_laws.specs.United.{numbered_from, united}

-- ---- vertices and edges don't depend on numbers
-- the piece without its number
abbrev bare : Piece → Piece
bare k = renamed (λ c. 0) k

bare_named : (name : ℕ → ℕ) (ks : List Piece) → map bare (map (renamed name) ks) ≡ map bare ks
bare_named name [] = refl
bare_named name (k ∷ ks) = ap (λ xs. bare k ∷ xs) (bare_named name ks)

bare_numbered : (n : ℕ) (ks : List Piece) → map bare (numbered_from n ks) ≡ map bare ks
bare_numbered n [] = refl
bare_numbered n (k ∷ ks) = ap (λ xs. bare k ∷ xs) (bare_numbered (suc n) ks)

flat_bare : {X : Type 0} (f g : Piece → List X) → ((k : Piece) → f (bare k) ≡ g k) → (ks : List Piece) → flat_map f (map bare ks) ≡ flat_map g ks
flat_bare f g h [] = refl
flat_bare f g h (k ∷ ks) = ap₂ (λ xs ys. xs ++ ys) (h k) (flat_bare f g h ks)

bare_ends : (k : Piece) → ends (bare k) ≡ ends k
unfolding ends
bare_ends k = refl

bare_first : (k m : Piece) → common_points (bare k) m ≡ common_points k m
unfolding common_points on along
bare_first k m = refl

bare_second : (k m : Piece) → common_points k (bare m) ≡ common_points k m
unfolding common_points on along
bare_second k m = refl

bare_vertices : (ks : List Piece) (pins : List Point) → vertices (record { pieces = map bare ks; pins = pins }) ≡ vertices (record { pieces = ks; pins = pins })
unfolding vertices
bare_vertices ks pins =
    let crossings : (k : Piece) → flat_map (common_points (bare k)) (map bare ks) ≡ flat_map (common_points k) ks = λ k. flat_bare (common_points (bare k)) (common_points k) (λ m. bare_second (bare k) m ∙ bare_first k m) ks in
    ap₂ (λ xs ys. ascending point_cmp (xs ++ (pins ++ ys))) (flat_bare ends ends bare_ends ks) (flat_bare (λ k. flat_map (common_points k) (map bare ks)) (λ k. flat_map (common_points k) ks) crossings ks)

module _ (p q : Present) (pieces : map bare p.pieces ≡ map bare q.pieces) (pins : p.pins ≡ q.pins) where
  same_vertices : vertices p ≡ vertices q
  same_vertices = sym (bare_vertices p.pieces p.pins) ∙ ap₂ (λ ks r. vertices (record { pieces = ks; pins = r })) pieces pins ∙ bare_vertices q.pieces q.pins

  kept_edge : (a b : Point) → IsEdgeOf p a b → IsEdgeOf q a b
  kept_edge a b i =
      let w = of_map bare (bare i.piece) q.pieces (subst (Member (bare i.piece)) pieces (in_map bare i.piece p.pieces i.piece_in)) in
      let one : (t : Point) → on w.0 t ≡ on i.piece t = λ t. sym (same_on (λ c. 0) w.0 t) ∙ ap (λ (k : Piece). on k t) (sym w.2) ∙ same_on (λ c. 0) i.piece t in
      record {
        piece = w.0;
        piece_in = w.1;
        first = subst (Member a) same_vertices i.first;
        last = subst (Member b) same_vertices i.last;
        forward = i.forward;
        on_first = one a ∙ i.on_first;
        on_last = one b ∙ i.on_last;
        none_between = λ r h l u. one r ∙ i.none_between r (subst (Member r) (sym same_vertices) h) l u;
      }

same_edges : (p q : Present) → map bare p.pieces ≡ map bare q.pieces → p.pins ≡ q.pins → edges (graph p) ≡ edges (graph q)
same_edges p q pieces pins =
    ascending_unique edge_cmp edge_cmp_total (edges (graph p)) (edges (graph q)) (edges_ascend (graph p)) (edges_ascend (graph q))
    (λ e h. (edges_are q e).1 (kept_edge p q pieces pins e.low e.high ((edges_are p e).0 h)))
    (λ e h. (edges_are p e).1 (kept_edge q p (sym pieces) (sym pins) e.low e.high ((edges_are q e).0 h)))

-- the vertices and edges of both layers
pub united_plane : (red blue : Present) → plane_of (united red blue) ≡ plane_of (both red blue)
unfolding graph united
united_plane red blue =
    let r : List Piece = map (renamed red_name) red.pieces in
    let b : List Piece = map (renamed blue_name) blue.pieces in
    let here : map bare (united red blue).pieces ≡ map bare red.pieces ++ map bare blue.pieces = bare_numbered 0 (red.pieces ++ blue.pieces) ∙ map-append bare red.pieces blue.pieces in
    let there : map bare (both red blue).pieces ≡ map bare red.pieces ++ map bare blue.pieces = map-append bare r b ∙ ap₂ (λ xs ys. xs ++ ys) (bare_named red_name red.pieces) (bare_named blue_name blue.pieces) in
    let pieces = here ∙ sym there in
    λ i. record { vertices = same_vertices (united red blue) (both red blue) pieces refl i; edges = same_edges (united red blue) (both red blue) pieces refl i }

-- ---- a piece that has a number of its own is fit where it was
pub record IsNumbered (n : ℕ) (ks : List Piece) (k : Piece) : Type 0 where
  pub origin : Piece
  pub origin_in : Member origin ks
  pub name : ℕ
  pub is : k ≡ renamed (λ c. name) origin
  pub from_on : n ≤ name

numbered_out : (n : ℕ) (ks : List Piece) (k : Piece) → Member k (numbered_from n ks) → IsNumbered n ks k
numbered_out n [] k h = absurd h
numbered_out n (m ∷ ks) k h =
    ⊎_elim
    (λ e. record { origin = m; origin_in = inl refl; name = n; is = e; from_on = omega arith })
    (λ t. let i = numbered_out (suc n) ks k t in record { origin = i.origin; origin_in = inr i.origin_in; name = i.name; is = i.is; from_on = let l = i.from_on in omega arith })
    h

name_is : (k m : Piece) (n : ℕ) → k ≡ renamed (λ c. n) m → k.curve ≡ n
name_is k m n e = ap (λ (z : Piece). z.curve) e

apart : (k m o : Piece) (n p : ℕ) → k.curve ≡ m.curve → k.curve ≡ n → m.curve ≡ p → suc n ≤ p → ⊥
apart k m o n p s e f l = omega arith

numbered_once : (n : ℕ) (ks : List Piece) (k m : Piece) → Member k (numbered_from n ks) → Member m (numbered_from n ks) → k.curve ≡ m.curve → k ≡ m
numbered_once n [] k m h i s = absurd h
numbered_once n (o ∷ ks) k m h i s =
    ⊎_elim
    (λ e. ⊎_elim
    (λ f. e ∙ sym f)
    (λ t. let w = numbered_out (suc n) ks m t in absurd (apart k m o n w.name s (name_is k o n e) (name_is m w.origin w.name w.is) w.from_on))
    i)
    (λ u. ⊎_elim
    (λ f. let w = numbered_out (suc n) ks k u in absurd (apart m k o n w.name (sym s) (name_is m o n f) (name_is k w.origin w.name w.is) w.from_on))
    (λ t. numbered_once (suc n) ks k m u t s)
    i)
    h

pub united_fit : (red blue : Present) → IsFit red → IsFit blue → IsFit (united red blue)
unfolding united
united_fit red blue fr fb =
    let ks : List Piece = red.pieces ++ blue.pieces in
    let f = both_fit red blue fr fb in
    record {
      piece = λ k h.
          let w = numbered_out 0 ks k h in
          let at : IsFitPiece w.origin = ⊎_elim (λ a. fr.piece w.origin a) (λ a. fb.piece w.origin a) (in_either w.origin red.pieces blue.pieces w.origin_in) in
          subst IsFitPiece (sym w.is) (fit_piece (λ c. w.name) w.origin at);
      pin = f.pin;
      pins_ascend = f.pins_ascend;
      one_segment = λ k m h i s. ap (λ (z : Piece). z.segment) (numbered_once 0 ks k m h i s.0);
      one_piece = λ k m h i s t pt x y. numbered_once 0 ks k m h i s.0;
    }

pub united_pins : (red blue : Present) → (graph (united red blue)).pins ≡ (both red blue).pins
unfolding graph united
united_pins red blue = refl
