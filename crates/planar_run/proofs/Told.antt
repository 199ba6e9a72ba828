-- What a world tells of edges and curves.
use Rattle.std.proofs.Common.{◌≡◌, ℕ, true, List, Result, Ok, Err, refl, sym, ap, subst, inl, inr}
use Rattle.std.specs.Prelude.{◌↔◌, map, IfOk, IfErr, OnOk, IsErrOf}
use Rattle.std.specs.declared.vec.Vec.{Vec}
use Rattle.std.specs.List.{list_any}
use Rattle.exact_plane.specs.Point.{Point}
use Rattle.exact_plane.specs.PointOrderLaws.{and_true}
use Rattle.plane_graphs.specs.Ascending.{Member, IsAscending}
use Rattle.plane_graphs.specs.Graph.{Graph, Edge, edge_cmp, edges, curves, is_at, same_curve}
use Rattle.plane_graphs.specs.Line.{same_point}
use Rattle.plane_graphs.proofs.Ascending.{ascending_unique}
use Rattle.plane_graphs.proofs.Lists.{any_in, any_out, and_in, clash, decide, in_filter, of_filter, IsAscending-filter}
use Rattle.plane_graphs.proofs.Meaning.{edge_cmp_total, edges_ascend, edge_in, edge_out}
use Rattle.plane_graphs.proofs.Order.{curve_in, curve_out, same_in, same_out}
use Rattle.arrangement.specs.Answers.{edge_of as edge_of_ends, HistoryError, Unknown, NoMemoryForEdges}
use Rattle.arrangement.specs.declared.questions.EdgeError.{EdgeError}
use Rattle.arrangement.specs.declared.questions.EdgeError.TheVariants.{NoEdge, NoMemory as NoMemoryForCurves}
use Rattle.planar_run.specs.World.{World}
use Rattle.planar_run.specs.Premises.{graph_of, is_named, is_edge}
use Rattle.planar_run.specs.Answer.{edges_along}
use Rattle.planar_run.specs.Refusals.{BarsEdge, BarsEdges}

-- the edges of a curve, ascending, are those of the graph that have it
pub edges_told : (c : ℕ) (g : Graph) (es : List Edge) → ((e : Edge) → Member e es ↔ (Member e (edges g) × Member c (curves g e.low e.high))) → IsAscending edge_cmp es → es ≡ edges_along c g
edges_told c g es are asc =
    ascending_unique edge_cmp edge_cmp_total es (edges_along c g) asc (IsAscending-filter edge_cmp (λ e. list_any (same_curve c) (curves g e.low e.high)) (edges g) (edges_ascend g))
    (λ e m. let k = (are e).0 m in in_filter (λ e. list_any (same_curve c) (curves g e.low e.high)) e (edges g) k.0 (any_in (same_curve c) c (curves g e.low e.high) k.1 (curve_in c c refl)))
    (λ e m.
    let k = of_filter (λ e. list_any (same_curve c) (curves g e.low e.high)) e (edges g) m in
    let n = any_out (same_curve c) (curves g e.low e.high) k.1 in
    (are e).1 (k.0, subst (λ x. Member x (curves g e.low e.high)) (sym (curve_out c n.0 n.2)) n.1))

-- and so for the pairs of points of an answer
pub listed : {Z : Type 0} → (c : ℕ) (g : Graph) (r : Result (Vec (Point × Point) Z) HistoryError)
    → IfOk r (λ v. (e : Edge) → Member e (map edge_of_ends v.items) ↔ (Member e (edges g) × Member c (curves g e.low e.high)))
    → IfOk r (λ v. IsAscending edge_cmp (map edge_of_ends v.items))
    → IfOk r (λ v. map edge_of_ends v.items ≡ edges_along c g)
listed c g (Ok v) are asc = edges_told c g (map edge_of_ends v.items) are asc
listed c g (Err e) are asc = tt

-- ---- an edge joins two points exactly where it is one of the graph's
edge_there : (g : Graph) (e : Edge) → Member e (edges g) → list_any (is_at e.low e.high) g.marks ≡ true
edge_there g e m =
    let k = edge_out g e m in
    any_in (is_at e.low e.high) k.0 g.marks k.1 (and_in (same_in k.0.low e.low (sym (ap (λ (x : Edge). x.low) k.2))) (same_in k.0.high e.high (sym (ap (λ (x : Edge). x.high) k.2))))

edge_here : (g : Graph) (e : Edge) → list_any (is_at e.low e.high) g.marks ≡ true → Member e (edges g)
edge_here g e t =
    let k = any_out (is_at e.low e.high) g.marks t in
    let w = and_true (same_point k.0.low e.low) (same_point k.0.high e.high) k.2 in
    subst (λ x. Member x (edges g)) (λ i. record { low = same_out k.0.low e.low w.0 i; high = same_out k.0.high e.high w.1 i }) (edge_in g k.0 k.1)

no_error : {T E : Type 0} → (v : T) (x : E) → IsErrOf {T = T} {E = E} (Ok v) x → ⊥
no_error v x h = cc

-- want of memory is no refusal
none_for_curves : {T : Type 0} → IsErrOf {T = T} (Err NoMemoryForCurves) NoEdge → ⊥
none_for_curves h = cc

none_for_edges : {T : Type 0} → IsErrOf {T = T} (Err NoMemoryForEdges) Unknown → ⊥
none_for_edges h = cc

pub edge_or_none : {T : Type 0} → (r : Result T EdgeError) (e : Edge) (w : World) → (IsErrOf r NoEdge ↔ ¬ Member e (edges (graph_of w))) → OnOk r (is_edge e w ≡ true) × IfErr r (λ x. BarsEdge x e w)
edge_or_none (Ok v) e w h = (elim (decide (is_edge e w)) [ inl t ↦ t | inr f ↦ absurd (no_error v NoEdge (h.1 (λ m. clash (edge_there (graph_of w) e m) f))) ], tt)
edge_or_none (Err NoEdge) e w h = (tt, elim (decide (is_edge e w)) [ inl t ↦ absurd (h.0 refl (edge_here (graph_of w) e t)) | inr f ↦ f ])
edge_or_none {T = T} (Err NoMemoryForCurves) e w h = (tt, elim (decide (is_edge e w)) [ inl t ↦ t | inr f ↦ absurd (none_for_curves {T = T} (h.1 (λ m. clash (edge_there (graph_of w) e m) f))) ])

-- ---- a curve has a number exactly where it is one of the names
named_there : (c : ℕ) (ns : List ℕ) → Member c ns → list_any (same_curve c) ns ≡ true
named_there c ns m = any_in (same_curve c) c ns m (curve_in c c refl)

named_here : (c : ℕ) (ns : List ℕ) → list_any (same_curve c) ns ≡ true → Member c ns
named_here c ns t = let n = any_out (same_curve c) ns t in subst (λ x. Member x ns) (sym (curve_out c n.0 n.2)) n.1

pub named_or_none : {T : Type 0} → (r : Result T HistoryError) (c : ℕ) (w : World) → (IsErrOf r Unknown ↔ ¬ Member c w.layer.names) → OnOk r (is_named c w ≡ true) × IfErr r (λ x. BarsEdges x c w)
named_or_none (Ok v) c w h = (elim (decide (is_named c w)) [ inl t ↦ t | inr f ↦ absurd (no_error v Unknown (h.1 (λ m. clash (named_there c w.layer.names m) f))) ], tt)
named_or_none (Err Unknown) c w h = (tt, elim (decide (is_named c w)) [ inl t ↦ absurd (h.0 refl (named_here c w.layer.names t)) | inr f ↦ f ])
named_or_none {T = T} (Err NoMemoryForEdges) c w h = (tt, elim (decide (is_named c w)) [ inl t ↦ t | inr f ↦ absurd (none_for_edges {T = T} (h.1 (λ m. clash (named_there c w.layer.names m) f))) ])
