-- The curves of an edge of the overlay, by layers.
use Rattle.std.proofs.Common.{◌≡◌, ◌≢◌, ℕ, [], ◌++◌, map, true, ◌&&◌, refl, sym, ap, ◌∙◌, subst, ⊎_elim, nat_cmp}
use Rattle.std.specs.List.{Contains, filter}
use Rattle.std.proofs.lemmas.Cmp.{nat_cmp_total}
use Rattle.plane_graphs.specs.Ascending.{ascending, Member}
use Rattle.plane_graphs.specs.Piece.{Piece, Present}
use Rattle.plane_graphs.specs.Fit.{IsFit}
use Rattle.plane_graphs.specs.Graph.{Edge, graph, edges, is_at, curves}
use Rattle.plane_graphs.proofs.Ascending.{to_member}
use Rattle.plane_graphs.proofs.Edges.{curves_of_edge, same_list}
use Rattle.plane_graphs.proofs.Lists.{and_in, any_in, any_out, in_map, of_map, in_filter, of_filter, of_ascending, in_ascending, in_left, in_right, in_either, some_of}
use Rattle.plane_graphs.proofs.Meaning.{edge_out}
use Rattle.plane_graphs.proofs.Order.{same_in}
use Rattle.integers.proofs.Tests.{nat_exact}
use Rattle.slab_laws.specs.Overlay.{renamed, red_name, blue_name, both, plane_of, runs_along, curves_along, has_curve_along}
use Rattle.overlay_laws.specs.OverlayLaws.{CurvesOfBoth}
use Rattle.overlay_laws.proofs.Both.{same_on, Origin, from_red, from_blue, origin, red_in, blue_in, both_fit}

-- ---- a layer's curves along an edge are those of its pieces that run along it
pub record IsCurveAlong (layer : Present) (e : Edge) (c : ℕ) : Type 0 where
  pub piece : Piece
  pub here : Member piece layer.pieces
  pub runs : runs_along e piece ≡ true
  pub curve : c ≡ piece.curve

listed_out : (layer : Present) (e : Edge) (c : ℕ) → Member c (map (λ k. k.curve) (filter (runs_along e) layer.pieces)) → IsCurveAlong layer e c
listed_out layer e c h =
    let a = of_map (λ (k : Piece). k.curve) c (filter (runs_along e) layer.pieces) h in
    let b = of_filter (runs_along e) a.0 layer.pieces a.1 in
    record { piece = a.0; here = b.0; runs = b.1; curve = a.2 }

listed_in : (layer : Present) (e : Edge) (c : ℕ) → IsCurveAlong layer e c → Member c (map (λ k. k.curve) (filter (runs_along e) layer.pieces))
listed_in layer e c h = subst (λ n. Member n (map (λ k. k.curve) (filter (runs_along e) layer.pieces))) (sym h.curve) (in_map (λ (k : Piece). k.curve) h.piece (filter (runs_along e) layer.pieces) (in_filter (runs_along e) h.piece layer.pieces h.here h.runs))

pub along_out : (layer : Present) (e : Edge) (c : ℕ) → Member c (curves_along layer e) → IsCurveAlong layer e c
unfolding curves_along
along_out layer e c h = listed_out layer e c (of_ascending nat_cmp nat_cmp_total nat_exact c (map (λ k. k.curve) (filter (runs_along e) layer.pieces)) h)

pub along_in : (layer : Present) (e : Edge) (c : ℕ) → IsCurveAlong layer e c → Member c (curves_along layer e)
unfolding curves_along
along_in layer e c h = in_ascending nat_cmp nat_cmp_total nat_exact c (map (λ k. k.curve) (filter (runs_along e) layer.pieces)) (listed_in layer e c h)

-- another number changes nothing of where a piece runs
same_runs : (name : ℕ → ℕ) (e : Edge) (k : Piece) → runs_along e (renamed name k) ≡ runs_along e k
same_runs name e k = λ i. same_on name k e.low i && same_on name k e.high i

-- ---- the curves of both
module _ (red blue : Present) (e : Edge) where
  to_layers : (c : ℕ) (h : IsCurveAlong (both red blue) e c) → Origin red blue h.piece → Member c (map red_name (curves_along red e) ++ map blue_name (curves_along blue e))
  to_layers c h (from_red m i p) =
      let d : IsCurveAlong red e m.curve = record { piece = m; here = i; runs = sym (same_runs red_name e m) ∙ ap (runs_along e) (sym p) ∙ h.runs; curve = refl } in
      in_left c (map red_name (curves_along red e)) (map blue_name (curves_along blue e)) (subst (λ n. Member n (map red_name (curves_along red e))) (sym (h.curve ∙ ap (λ (k : Piece). k.curve) p)) (in_map red_name m.curve (curves_along red e) (along_in red e m.curve d)))
  to_layers c h (from_blue m i p) =
      let d : IsCurveAlong blue e m.curve = record { piece = m; here = i; runs = sym (same_runs blue_name e m) ∙ ap (runs_along e) (sym p) ∙ h.runs; curve = refl } in
      in_right c (map red_name (curves_along red e)) (map blue_name (curves_along blue e)) (subst (λ n. Member n (map blue_name (curves_along blue e))) (sym (h.curve ∙ ap (λ (k : Piece). k.curve) p)) (in_map blue_name m.curve (curves_along blue e) (along_in blue e m.curve d)))

  from_layers : (c : ℕ) → Member c (map red_name (curves_along red e) ++ map blue_name (curves_along blue e)) → IsCurveAlong (both red blue) e c
  from_layers c h =
      ⊎_elim
      (λ a.
      let d = of_map red_name c (curves_along red e) a in
      let w = along_out red e d.0 d.1 in
      record { piece = renamed red_name w.piece; here = red_in red blue w.piece w.here; runs = same_runs red_name e w.piece ∙ w.runs; curve = d.2 ∙ ap red_name w.curve })
      (λ a.
      let d = of_map blue_name c (curves_along blue e) a in
      let w = along_out blue e d.0 d.1 in
      record { piece = renamed blue_name w.piece; here = blue_in red blue w.piece w.here; runs = same_runs blue_name e w.piece ∙ w.runs; curve = d.2 ∙ ap blue_name w.curve })
      (in_either c (map red_name (curves_along red e)) (map blue_name (curves_along blue e)) h)

  apart : IsFit red → IsFit blue → Contains (plane_of (both red blue)).edges e → curves (graph (both red blue)) e.low e.high ≡ ascending nat_cmp (map red_name (curves_along red e) ++ map blue_name (curves_along blue e))
  apart fr fb h =
      let g = graph (both red blue) in
      let w = edge_out g e (to_member (edges g) e h) in
      let low : w.0.low ≡ e.low = ap (λ (d : Edge). d.low) (sym w.2) in
      let high : w.0.high ≡ e.high = ap (λ (d : Edge). d.high) (sym w.2) in
      curves_of_edge (both red blue) e.low e.high (both_fit red blue fr fb) (any_in (is_at e.low e.high) w.0 g.marks w.1 (and_in (same_in w.0.low e.low low) (same_in w.0.high e.high high)))
      ∙ same_list (map (λ k. k.curve) (filter (runs_along e) (both red blue).pieces)) (map red_name (curves_along red e) ++ map blue_name (curves_along blue e))
      (λ c i. let d = listed_out (both red blue) e c i in to_layers c d (origin red blue d.piece d.here))
      (λ c i. listed_in (both red blue) e c (from_layers c i))

-- ---- an edge of a layer has curves of it
own_out : (layer : Present) (e : Edge) → has_curve_along layer e ≡ true → curves_along layer e ≢ []
unfolding has_curve_along
own_out layer e h n =
    let w = any_out (runs_along e) layer.pieces h in
    subst (Member w.0.curve) n (along_in layer e w.0.curve (record { piece = w.0; here = w.1; runs = w.2; curve = refl }))

own_in : (layer : Present) (e : Edge) → curves_along layer e ≢ [] → has_curve_along layer e ≡ true
unfolding has_curve_along
own_in layer e h =
    let c = some_of (curves_along layer e) h in
    let w = along_out layer e c.0 c.1 in
    any_in (runs_along e) w.piece layer.pieces w.here w.runs

pub curves_of_both : CurvesOfBoth
curves_of_both = record { apart = apart; own = λ layer e. (own_out layer e, own_in layer e) }
