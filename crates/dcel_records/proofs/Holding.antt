-- From the two slabs to what a caller sees of them.
use Rattle.std.proofs.Common.{◌≡◌, ℕ, ◌-◌, Option, Some, None, is_some, IsSome, option_map, refl, sym, ap, subst, ◌∙◌, List}
use Rattle.std.proofs.lemmas.Bool.{false≢true}
use Rattle.slab.specs.Slab.{Slab, get, slab_len}
use Rattle.slab_laws.specs.declared.names.DartId.{DartId}
use Rattle.slab_laws.specs.declared.names.VertexId.{VertexId}
use Rattle.slab_laws.specs.Sound.{IsTwinned}
use Rattle.slab_laws.specs.Tables.{row_at, names, NamesAscend}
use Rattle.slab_laws.specs.View.{VertexRecord, DartRecord, HasVertex, HasDart, IsOutOf, point_or, pin_or, source_or, twin_or, next_or, line_or, point_in, pinned_in, source_in, twin_in, next_in, line_in, target_in}
use Rattle.chain_laws.specs.Rows.{tabled}
use Rattle.chain_laws.proofs.Tabled.{row-tabled, ascend-tabled}
use Rattle.dcel_records.specs.declared.records.Records.TheInside.{Inside}
use Rattle.dcel_records.specs.declared.rows.StoredVertex.{StoredVertex}
use Rattle.dcel_records.specs.declared.rows.StoredDart.{StoredDart}
use Rattle.dcel_records.specs.RecordsView.{GraphView, RecordsView, point_found, ends_found}
use Rattle.dcel_records.specs.StoredRows.{vertex_of, dart_of, graph_in, graph_view, graph_of_slabs, records_view, out_or, out_at, AreSoundRows}
use Rattle.dcel_records.specs.Outs.{IsOut}
use Rattle.plane_graphs.proofs.Lists.{some_mapped}

module _ (vs : Slab StoredVertex) (ds : Slab StoredDart) (h : GraphView) (is : graph_view vs ds ≡ h) where
  pub graph_is : graph_in vs ds ≡ h.graph
  graph_is = ap (λ x. x.graph) is

  pub vertices_are : tabled vertex_of vs ≡ h.graph.vertices
  vertices_are = ap (λ x. x.graph.vertices) is

  pub darts_are : tabled dart_of ds ≡ h.graph.darts
  darts_are = ap (λ x. x.graph.darts) is

  pub vertex_at : (w : VertexId) → row_at h.graph.vertices w.0 ≡ option_map vertex_of (get vs w.0)
  vertex_at w = ap (λ rs. row_at rs w.0) (sym vertices_are) ∙ row-tabled vertex_of vs w.0

  pub dart_at : (d : DartId) → row_at h.graph.darts d.0 ≡ option_map dart_of (get ds d.0)
  dart_at d = ap (λ rs. row_at rs d.0) (sym darts_are) ∙ row-tabled dart_of ds d.0

  -- ---- names that have rows
  pub vertex_key : (w : VertexId) → HasVertex h.graph w → IsSome (get vs w.0)
  vertex_key w o = sym (ap is_some (vertex_at w) ∙ some_mapped vertex_of (get vs w.0)) ∙ o

  pub dart_key : (d : DartId) → HasDart h.graph d → IsSome (get ds d.0)
  dart_key d o = sym (ap is_some (dart_at d) ∙ some_mapped dart_of (get ds d.0)) ∙ o

  pub vertex_has : (w : VertexId) → IsSome (get vs w.0) → HasVertex h.graph w
  vertex_has w o = ap is_some (vertex_at w) ∙ some_mapped vertex_of (get vs w.0) ∙ o

  pub dart_has : (d : DartId) → IsSome (get ds d.0) → HasDart h.graph d
  dart_has d o = ap is_some (dart_at d) ∙ some_mapped dart_of (get ds d.0) ∙ o

  pub vertex_vacant : (w : VertexId) → get vs w.0 ≡ None → ¬ HasVertex h.graph w
  vertex_vacant w e o = false≢true (sym (ap is_some (vertex_at w ∙ ap (option_map vertex_of) e)) ∙ o)

  pub dart_vacant : (d : DartId) → get ds d.0 ≡ None → ¬ HasDart h.graph d
  dart_vacant d e o = false≢true (sym (ap is_some (dart_at d ∙ ap (option_map dart_of) e)) ∙ o)

  -- ---- what rows say
  dart_row : (d : DartId) (r : StoredDart) → get ds d.0 ≡ Some r → row_at h.graph.darts d.0 ≡ Some (dart_of r)
  dart_row d r e = dart_at d ∙ ap (option_map dart_of) e

  vertex_row : (w : VertexId) (r : StoredVertex) → get vs w.0 ≡ Some r → row_at h.graph.vertices w.0 ≡ Some (vertex_of r)
  vertex_row w r e = vertex_at w ∙ ap (option_map vertex_of) e

  pub source_is : (d : DartId) (r : StoredDart) → get ds d.0 ≡ Some r → r.source ≡ source_in h.graph d
  source_is d r e = sym (ap source_or (dart_row d r e))

  pub twin_is : (d : DartId) (r : StoredDart) → get ds d.0 ≡ Some r → r.twin ≡ twin_in h.graph d
  twin_is d r e = sym (ap (twin_or d) (dart_row d r e))

  pub next_is : (d : DartId) (r : StoredDart) → get ds d.0 ≡ Some r → r.next ≡ next_in h.graph d
  next_is d r e = sym (ap (next_or d) (dart_row d r e))

  pub line_is : (d : DartId) (r : StoredDart) → get ds d.0 ≡ Some r → r.line ≡ line_in h.graph d
  line_is d r e = sym (ap line_or (dart_row d r e))

  pub point_is : (w : VertexId) (r : StoredVertex) → get vs w.0 ≡ Some r → r.point ≡ point_in h.graph w
  point_is w r e = sym (ap point_or (vertex_row w r e))

  pub pin_is : (w : VertexId) (r : StoredVertex) → get vs w.0 ≡ Some r → r.pinned ≡ pinned_in h.graph w
  pin_is w r e = sym (ap pin_or (vertex_row w r e))

  -- the source of a row's twin is the target
  pub target_is : (d : DartId) (r q : StoredDart) → get ds d.0 ≡ Some r → get ds r.twin.0 ≡ Some q → q.source ≡ target_in h.graph d
  target_is d r q e f = source_is r.twin q f ∙ ap (source_in h.graph) (twin_is d r e)

  -- ---- what a reader that may miss answers
  pub point_missed : (w : VertexId) → get vs w.0 ≡ None → None ≡ point_found h.graph w
  point_missed w e = sym (ap (option_map (λ r. r.point)) (vertex_at w ∙ ap (option_map vertex_of) e))

  pub point_read : (w : VertexId) (r : StoredVertex) → get vs w.0 ≡ Some r → Some r.point ≡ point_found h.graph w
  point_read w r e = sym (ap (option_map (λ r. r.point)) (vertex_row w r e))

  pub ends_missed : (d : DartId) → get ds d.0 ≡ None → None ≡ ends_found h.graph d
  ends_missed d e = sym (ap (option_map (λ r. (r.source, target_in h.graph d))) (dart_at d ∙ ap (option_map dart_of) e))

  pub ends_read : (d : DartId) (r q : StoredDart) → get ds d.0 ≡ Some r → get ds r.twin.0 ≡ Some q → Some (r.source, q.source) ≡ ends_found h.graph d
  ends_read d r q e f = ap (λ t. Some (r.source, t)) (target_is d r q e f) ∙ sym (ap (option_map (λ r. (r.source, target_in h.graph d))) (dart_row d r e))

  -- ---- what is always true
  module _ (k : AreSoundRows vs ds) where
    pub twinned : IsTwinned h.graph
    twinned = subst (λ v. IsTwinned v) graph_is k.twinned

    pub outs : (w : VertexId) → IsOut h.graph w (out_at vs w)
    outs w = subst (λ v. IsOut v w (out_at vs w)) graph_is (k.outs w)

    -- a row's twin has a row
    pub twin_key : (d : DartId) (r : StoredDart) → HasDart h.graph d → get ds d.0 ≡ Some r → IsSome (get ds r.twin.0)
    twin_key d r o e = dart_key r.twin (subst (λ (x : DartId). HasDart h.graph x) (sym (twin_is d r e)) (twinned.has d o))

    -- what a dart leaves has a row
    pub out_key : (w : VertexId) (d : DartId) → IsOutOf h.graph w d → IsSome (get vs w.0)
    out_key w d o = step (get vs w.0) refl
      where
        step : (x : Option StoredVertex) → get vs w.0 ≡ x → IsSome x
        step None e = absurd ((outs w).none (ap out_or e) d o)
        step (Some r) e = refl

  pub vertex_names : NamesAscend (names h.graph.vertices)
  vertex_names = subst (λ (rs : List (ℕ × VertexRecord)). NamesAscend (names rs)) vertices_are (ascend-tabled vertex_of vs)

  pub dart_names : NamesAscend (names h.graph.darts)
  dart_names = subst (λ (rs : List (ℕ × DartRecord)). NamesAscend (names rs)) darts_are (ascend-tabled dart_of ds)

-- the graph of the records, from all their slabs
pub graph_seen : (store : Inside) (h : RecordsView) → records_view store ≡ h → graph_view store.vertices store.darts ≡ graph_of_slabs store.vertices store.darts h
graph_seen store h is = λ i. record { graph = (is i).graph; spare_vertices = store.vertices.capacity - slab_len store.vertices; spare_darts = store.darts.capacity - slab_len store.darts; capacity_of_vertices = store.vertices.capacity; capacity_of_darts = store.darts.capacity }
