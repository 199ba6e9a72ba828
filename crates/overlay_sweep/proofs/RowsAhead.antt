-- The rows of the darts that go forward, by the places of the edges' ends.
use Rattle.std.proofs.Common.{◌≡◌, ℕ, suc, ◌+◌, ◌<◌, ◌≤◌, true, inl, inr, arith, refl, sym, ap, ◌∙◌, subst, List, [], ◌∷◌, ◌++◌, length, map, drop, get_or, append_assoc}
use Rattle.std.proofs.lemmas.List.{append-nil, get_or-map, length-map, drop_more, drop_all}
use Rattle.exact_plane.specs.Point.{Point}
use Rattle.exact_plane.specs.PointOrder.{point_cmp}
use Rattle.exact_plane.specs.PointOrderLaws.{point_cmp_total}
use Rattle.exact_plane.specs.Span.{Span}
use Rattle.plane_graphs.specs.Ascending.{Member, IsAscending, ascending}
use Rattle.plane_graphs.specs.Fit.{IsFit}
use Rattle.plane_graphs.specs.Graph.{Edge}
use Rattle.plane_graphs.specs.Piece.{Present}
use Rattle.plane_graphs.proofs.Ascending.{IsAscending-ascending, Member-ascending, ascending-Member, ascending_unique}
use Rattle.plane_graphs.proofs.Lists.{in_map, of_map}
use Rattle.present_graphs.specs.Spans.{span_of_piece}
use Rattle.slab_laws.specs.declared.rows.ListedDart.{ListedDart}
use Rattle.slab_laws.specs.Darts.{ahead}
use Rattle.slab_laws.specs.Rows.{no_dart, vertex_place, edge_place, dart_row}
use Rattle.slab_laws.specs.Skeleton.{Skeleton, IsPlaneSkeleton, same_point}
use Rattle.slab_laws.specs.SpansDrawn.{drawn, edge_of}
use Rattle.slab_faces.proofs.Places.{points_exact}
use Rattle.overlay_laws.proofs.Labels.{plane_by}
use Rattle.sweep_graphs.specs.declared.edges.EdgeEnds.{EdgeEnds}
use Rattle.sweep_graphs.specs.declared.trace.Stretch.{Stretch}
use Rattle.sweep_graphs.specs.declared.trace.Trace.{Trace}
use Rattle.sweep_graphs.specs.Edges.{ends_of, ends_cmp, stretch_cmp, edge_between}
use Rattle.sweep_graphs.specs.TraceLaws.{IsTraceOf}
use Rattle.sweep_graphs.specs.Traces.{IsTrace, no_point, point_at}
use Rattle.sweep_graphs.proofs.EdgeOrders.{ends_cmp_total, ends_cmp_exact, stretch_cmp_total, stretch_cmp_exact}
use Rattle.dart_orbits.specs.DartRows.{ahead_rows}
use Rattle.dart_orbits.proofs.Listed.{edge_place_at}
use Rattle.dart_orbits.proofs.Placed.{place_at, ascending_apart}
use Rattle.overlay_sweep.specs.EdgeRows.{ends_row, ends_rows}
use Rattle.overlay_sweep.proofs.TracedEdges.{drawn_is}

-- ---- edges along sorted stretches
among : (xs : List EdgeEnds) (e : EdgeEnds) → Member e xs → Member e (ascending ends_cmp xs)
among xs e m = ascending-Member ends_cmp ends_cmp_total e xs (λ x y _ _ q. ends_cmp_exact x y q) m

-- edges along stretches are along others that have all of these
carried : (ss ts : List Stretch) → ((s : Stretch) → Member s ss → Member s ts) → (e : EdgeEnds) → Member e (ascending ends_cmp (map ends_of ss)) → Member e (ascending ends_cmp (map ends_of ts))
carried ss ts h e m =
    let s = of_map ends_of e ss (Member-ascending ends_cmp ends_cmp_total e (map ends_of ss) m) in
    among (map ends_of ts) e (subst (λ x. Member x (map ends_of ts)) (sym s.2) (in_map ends_of s.0 ts (h s.0 s.1)))

pub edges_told : (ts ss : List Stretch) (es : List EdgeEnds) → ss ≡ ascending stretch_cmp ts → es ≡ ascending ends_cmp (map ends_of ss) → es ≡ ascending ends_cmp (map ends_of ts)
edges_told ts ss es a b =
    b ∙ ap (λ (xs : List Stretch). ascending ends_cmp (map ends_of xs)) a
    ∙ ascending_unique ends_cmp ends_cmp_total (ascending ends_cmp (map ends_of (ascending stretch_cmp ts))) (ascending ends_cmp (map ends_of ts)) (IsAscending-ascending ends_cmp ends_cmp_total (map ends_of (ascending stretch_cmp ts))) (IsAscending-ascending ends_cmp ends_cmp_total (map ends_of ts))
    (carried (ascending stretch_cmp ts) ts (λ s m. Member-ascending stretch_cmp stretch_cmp_total s ts m))
    (carried ts (ascending stretch_cmp ts) (λ s m. ascending-Member stretch_cmp stretch_cmp_total s ts (λ x y _ _ q. stretch_cmp_exact x y q) m))

-- ---- one more row
pub row_more : (es : List EdgeEnds) (i : ℕ) (d : EdgeEnds) (us vs ws : List ListedDart) → i < length es → vs ≡ us ++ (ends_row i (get_or es i d) ∷ []) → us ++ ends_rows i (drop i es) ≡ ws → vs ++ ends_rows (i + 1) (drop (i + 1) es) ≡ ws
unfolding ends_rows
row_more es i d us vs ws l e h =
    ap (λ xs. xs ++ ends_rows (i + 1) (drop (i + 1) es)) e ∙ append_assoc us (ends_row i (get_or es i d) ∷ []) (ends_rows (i + 1) (drop (i + 1) es))
    ∙ sym (ap (λ xs. us ++ ends_rows i xs) (drop_more es i d l)) ∙ h

pub rows_done : (es : List EdgeEnds) (i : ℕ) (us ws : List ListedDart) → length es ≤ i → us ++ ends_rows i (drop i es) ≡ ws → us ≡ ws
unfolding ends_rows
rows_done es i us ws l h = sym (append-nil us) ∙ sym (ap (λ xs. us ++ ends_rows i xs) (drop_all i es l)) ∙ h

-- ---- the rows are those of the graph's darts
abbrev pub no_ends : EdgeEnds
no_ends = record { low = 0; high = 0 }

module _ (points : List Point) (spans : List Span) (plane : IsPlaneSkeleton (drawn points spans)) (ascend : IsAscending point_cmp points) where
  abbrev G : Skeleton
  G = drawn points spans

  abbrev IsInside : EdgeEnds → Type 0
  IsInside e = (e.low < length points) × (e.high < length points)

  stands : (k : ℕ) → k < length points → k ≡ vertex_place (drawn points spans) (point_at points k)
  stands k l = sym (place_at same_point points_exact points (ascending_apart point_cmp point_cmp_total points ascend) k no_point l)

  rows_from : (i : ℕ) (fs : List EdgeEnds) → ((k : ℕ) → k < length fs → edge_place (drawn points spans) (edge_between points (get_or fs k no_ends)) ≡ i + k) → ((f : EdgeEnds) → Member f fs → (f.low < length points) × (f.high < length points)) → ends_rows i fs ≡ map (λ (e : Edge). dart_row (drawn points spans) (ahead e)) (map (edge_between points) fs)
  unfolding ends_rows
  rows_from i [] h w = refl
  rows_from i (f ∷ fs) h w =
      let n = w f (inl refl) in
      let a = stands f.low n.0 in
      let b = stands f.high n.1 in
      let c : i ≡ edge_place G (edge_between points f) = (let x = h 0 (omega arith) in omega arith) in
      let rest = rows_from (i + 1) fs (λ k l. let x = h (suc k) (omega arith) in omega arith) (λ g m. w g (inr m)) in
      λ j. record { source = a j; target = b j; edge = c j; forward = true } ∷ rest j

  rows_told : (es : List EdgeEnds) → map edge_of spans ≡ map (edge_between points) es → ((f : EdgeEnds) → Member f es → (f.low < length points) × (f.high < length points)) → ends_rows 0 es ≡ ahead_rows (drawn points spans)
  rows_told es told w =
      rows_from 0 es
      (λ k l.
      let n = length-map es (edge_between points) in
      let m = ap length told in
      let e : get_or (map edge_of spans) k no_dart.edge ≡ edge_between points (get_or es k no_ends) = ap (λ xs. get_or xs k no_dart.edge) told ∙ get_or-map (edge_between points) es k no_ends no_dart.edge l in
      sym (ap (edge_place G) e) ∙ edge_place_at G plane k no_dart.edge (omega arith) ∙ omega arith)
      w
      ∙ ap (map (λ (e : Edge). dart_row G (ahead e))) (sym told)

pub ahead_is : (p : Present) (t : Trace) → IsFit p → IsTrace (map span_of_piece p.pieces) p.pins t → IsTraceOf p t → (points : List Point) (spans : List Span) (es : List EdgeEnds) → points ≡ t.points → map edge_of spans ≡ map (edge_between points) es → es ≡ ascending ends_cmp (map ends_of t.stretches) → ends_rows 0 es ≡ ahead_rows (drawn points spans)
ahead_is p t fit h g points spans es at told all =
    rows_told points spans
    (subst IsPlaneSkeleton (sym (drawn_is p t g points spans es at told all)) (plane_by p fit))
    (subst (IsAscending point_cmp) (sym at) h.ascends)
    es told
    (λ f m.
    let s = of_map ends_of f t.stretches (Member-ascending ends_cmp ends_cmp_total f (map ends_of t.stretches) (subst (Member f) all m)) in
    let w = h.sound s.0 s.1 in
    let n = ap length at in
    let low : f.low ≡ s.0.low = ap (λ e. e.low) s.2 in
    let high : f.high ≡ s.0.high = ap (λ e. e.high) s.2 in
    (omega (arith, w.low_in), omega (arith, w.high_in)))
