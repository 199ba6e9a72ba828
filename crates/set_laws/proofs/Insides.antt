-- The set of a closed layer is made of whole faces.
use Rattle.std.proofs.Common.{◌≡◌, ℕ, zero, suc, ◌+◌, ◌<◌, Bool, true, false, cond, arith, refl, sym, ap, ◌∙◌}
use Rattle.std.specs.Prelude.{not, ◌&&◌, ◌%◌, ◌==◌}
use Rattle.std.specs.List.{Contains}
use Rattle.std.proofs.lemmas.Bool.{and_from, lt-leb}
use lib.Dec.{leb}
use Rattle.plane_graphs.specs.Graph.{Edge}
use Rattle.plane_graphs.specs.Piece.{Present}
use Rattle.plane_graphs.specs.Fit.{IsFit}
use Rattle.slab_laws.specs.declared.slab_cell.SlabCell.{SlabCell}
use Rattle.slab_laws.specs.Skeleton.{Skeleton, left_of, on_wall, IsPlaneSkeleton}
use Rattle.slab_laws.specs.Slabs.{slab_right, spans, place, width, top_cell}
use Rattle.slab_laws.specs.Weights.{Even, weight_above, IsEvenAtVertices}
use Rattle.slab_laws.specs.Darts.{cell_by, ahead, back}
use Rattle.slab_laws.specs.Cycles.{left_of_dart}
use Rattle.slab_laws.specs.Overlay.{both, plane_of}
use Rattle.slab_faces.proofs.Sums.{each, sum_by-same, sum_by-none}
use Rattle.slab_faces.proofs.Walls.{left_of-irrefl}
use Rattle.slab_faces.proofs.Cells.{spans_right, parity_face}
use Rattle.slab_faces.proofs.Nudge.{is_slab_right, right_inside}
use Rattle.slab_faces.proofs.Slabs.{weight_step}
use Rattle.slab_faces.proofs.Outside.{place_in}
use Rattle.slab_faces.proofs.Turns.{on_own_wall}
use Rattle.slab_faces.proofs.Upright.{parity_upright}
use Rattle.overlay_laws.proofs.Both.{both_fit}
use Rattle.overlay_laws.proofs.Labels.{plane_by}
use Rattle.set_laws.specs.PolygonSets.{IsClosedLayer, pieces_along, inside}
use Rattle.set_laws.specs.EvenOdd.{odd_above}
use Rattle.set_laws.specs.EvenOddLaws.{IsOfFaces, SetsAreOfFaces}
use Rattle.set_laws.specs.PolygonLaws.{IsTurnedByPieces, IsSetOfFaces, InsideIsOfFaces}
use Rattle.set_laws.proofs.PieceEnds.{ends_of_both}
use Rattle.slab_faces.proofs.CyclesOfFaces.{across}
use Rattle.slab_faces.proofs.OddSums.{odd_alike, alike_even}

-- ---- odd and even
pub is_odd : ℕ → Bool
is_odd n = n % 2 == 1

pub odd_is : (n : ℕ) (b : Bool) → Even (n + cond b 1 0) → (n % 2 == 1) ≡ b
odd_is n true h = let e : n % 2 ≡ 1 = omega arith in ap (λ r. r == 1) e
odd_is n false h = let e : n % 2 ≡ 0 = omega arith in ap (λ r. r == 1) e

-- ---- nothing is above the topmost cell of a slab
pub top_weight : (g : Skeleton) (m : Edge → ℕ) (i : ℕ) → IsPlaneSkeleton g → weight_above g m i (width g i) ≡ 0
top_weight g m i plane =
    sum_by-same (λ e. cond (spans g i e && leb (width g i) (place g i e)) (m e) 0) (λ (e : Edge). 0) g.edges (each (λ e. cond (spans g i e && leb (width g i) (place g i e)) (m e) 0 ≡ 0) g.edges (λ e E.
    none (spans g i e) (leb (width g i) (place g i e)) (m e) (λ s. lt-leb (width g i) (place g i e) (place_in g i e plane E s)))) ∙ sum_by-none g.edges
  where
    none : (s b : Bool) (n : ℕ) → (s ≡ true → b ≡ false) → cond (s && b) n 0 ≡ 0
    none true b n h = rw (h refl) refl
    none false b n h = refl

-- ---- across an edge
-- ---- the set of weights that are even round each vertex
module _ (g : Skeleton) (m : Edge → ℕ) (plane : IsPlaneSkeleton g) (even : IsEvenAtVertices g m) where
  abbrev up : Edge → SlabCell
  up e = left_of_dart g (ahead e)

  abbrev down : Edge → SlabCell
  down e = left_of_dart g (back e)

  odd_is_above : (c : SlabCell) → odd_above g m c ≡ (weight_above g m c.slab c.place % 2 == 1)
  unfolding odd_above
  odd_is_above c = refl

  by_edge : (e : Edge) → Contains g.edges e → Even (weight_above g m (up e).slab (up e).place + weight_above g m (down e).slab (down e).place + m e)
  by_edge e E = across g m e plane even E (left_of e.low e.high) refl

  none : (weight_above g m (top_cell g 0).slab (top_cell g 0).place % 2 == 1) ≡ false
  unfolding top_cell
  none = ap (λ n. n % 2 == 1) (top_weight g m 0 plane)

  pub of_faces : IsOfFaces g m
  of_faces = record {
    one_face = λ c d h. odd_is_above c ∙ odd_alike _ _ (parity_face g m c d plane even h) ∙ sym (odd_is_above d);
    across = λ e E. (
      (λ k. let a = by_edge e E in odd_is_above (up e) ∙ odd_alike _ _ (omega arith) ∙ sym (odd_is_above (down e))),
      (λ k. let a = by_edge e E in let b = alike_even _ _ (sym (odd_is_above (up e)) ∙ k ∙ odd_is_above (down e)) in omega arith),
    );
    outside = odd_is_above (top_cell g 0) ∙ none;
  }

pub sets_are_of_faces : SetsAreOfFaces
sets_are_of_faces g m plane even = of_faces g m plane even

-- ---- the set of a closed layer
module _ (layer whole : Present) (fw : IsFit whole) (turned : IsTurnedByPieces layer whole) (closed : IsClosedLayer layer) where
  pub even_layer : IsEvenAtVertices (plane_of whole) (pieces_along layer)
  even_layer = record { even_at = λ v V. let a = turned v V in let b = closed v in omega arith }

  set_of_faces : IsSetOfFaces layer whole
  unfolding inside
  set_of_faces =
      let f = of_faces (plane_of whole) (pieces_along layer) (plane_by whole fw) even_layer in
      record { one_face = f.one_face; across = f.across; outside = f.outside }

pub inside_is_of_faces : InsideIsOfFaces
inside_is_of_faces red blue fr fb =
    let f = both_fit red blue fr fb in
    let t = ends_of_both red blue fr fb in
    (λ c. set_of_faces red (both red blue) f t.0 c, λ c. set_of_faces blue (both red blue) f t.1 c)
