-- What is joined in an overlay: the labels of a layer told by the graph of both, and both layers as one present.
use Rattle.std.proofs.Common.{◌≡◌, ℕ, zero, suc, ◌+◌, ◌<◌, true, false, arith, sym, ◌∙◌, subst, List, [], ◌∷◌, ◌++◌, length, map, get_or, Option, Some, None}
use Rattle.std.specs.List.{Contains}
use Rattle.plane_graphs.specs.Fit.{IsFit}
use Rattle.plane_graphs.specs.Graph.{Edge}
use Rattle.plane_graphs.specs.Piece.{Piece, Present}
use Rattle.slab_laws.specs.Darts.{ahead}
use Rattle.slab_laws.specs.Overlay.{both, plane_of, has_curve_along, label}
use Rattle.slab_laws.specs.Rows.{edge_place}
use Rattle.slab_laws.specs.Skeleton.{Skeleton}
use Rattle.sweep_graphs.specs.Edges.{curve_at}
use Rattle.overlay_laws.specs.United.{numbered_from, united}
use Rattle.overlay_laws.proofs.UnitedGraph.{united_plane}
use Rattle.overlay_sweep.specs.KnownLabels.{AreKnown, AreLabelled}
use Rattle.overlay_sweep.specs.LabelsAbove.{known_at, IsLabelling}
use Rattle.overlay_sweep.specs.LayerLabels.{is_held, rank_beside}
use Rattle.overlay_sweep.proofs.KnownLabels.{labels_by_known_edges}

-- ---- a layer's labels depend on the graph of the whole alone
module _ (layer v w : Present) (e : plane_of w ≡ plane_of v) where
  known_over : (known : List (Option ℕ)) → AreKnown layer w known → AreKnown layer v known
  known_over known k = record {
    own = subst (λ (g : Skeleton). (x : Edge) (n : ℕ) → Contains g.edges x → known_at known (edge_place g x) ≡ Some n → (has_curve_along layer x ≡ true) × ((f : Edge) × Contains (plane_of layer).edges f × (is_held f x ≡ true) × (n ≡ rank_beside (plane_of layer) (ahead f)))) e k.own;
    other = subst (λ (g : Skeleton). (x : Edge) → Contains g.edges x → known_at known (edge_place g x) ≡ None → has_curve_along layer x ≡ false) e k.other;
  }

  labelled_over : AreLabelled layer v → AreLabelled layer w
  labelled_over l known k = subst (λ (g : Skeleton). IsLabelling g known (λ c. label layer g c)) (sym e) (l known (known_over known k))

pub red_labelled : (red blue : Present) → IsFit red → IsFit blue → AreLabelled red (united red blue)
red_labelled red blue fr fb = labelled_over red (both red blue) (united red blue) (united_plane red blue) (labels_by_known_edges red blue fr fb).0

pub blue_labelled : (red blue : Present) → IsFit red → IsFit blue → AreLabelled blue (united red blue)
blue_labelled red blue fr fb = labelled_over blue (both red blue) (united red blue) (united_plane red blue) (labels_by_known_edges red blue fr fb).1

-- ---- each piece is numbered by its place
numbered_at : (n : ℕ) (ks : List Piece) (i : ℕ) → i < length (numbered_from n ks) → get_or (map (λ k. k.curve) (numbered_from n ks)) i 0 ≡ n + i
numbered_at n [] i l = absurd (omega arith)
numbered_at n (k ∷ ks) zero l = omega arith
numbered_at n (k ∷ ks) (suc i) l = numbered_at (suc n) ks i (omega arith) ∙ omega arith

pub curves_by_place : (red blue : Present) (i : ℕ) → i < length (united red blue).pieces → curve_at (united red blue) i ≡ i
unfolding united
curves_by_place red blue i l = numbered_at 0 (red.pieces ++ blue.pieces) i l ∙ omega arith
