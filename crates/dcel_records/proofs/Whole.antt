-- Slabs that keep all that they hold, and slabs that hold nothing.
use Rattle.std.proofs.Common.{◌≡◌, ℕ, ◌+◌, ◌-◌, ◌≤◌, [], length, count_by, List, None, is_some, slice_index_or, sym, ap, subst, ◌∙◌, arith}
use Rattle.slab.specs.Slab.{Slab, slab_len}
use Rattle.slab_laws.specs.View.{VertexRecord}
use Rattle.arr_notes.specs.ViewChanges.{no_rows}
use Rattle.chain_laws.proofs.Tabled.{tabled_slots, tabled_empty, length-tabled}
use Rattle.dcel_records.specs.declared.records.Records.TheInside.{Inside}
use Rattle.dcel_records.specs.declared.rows.StoredVertex.{StoredVertex}
use Rattle.dcel_records.specs.declared.rows.StoredDart.{StoredDart}
use Rattle.dcel_records.specs.RecordsView.{RecordsView}
use Rattle.dcel_records.specs.StoredRows.{vertex_of, dart_of, graph_in, records_view, out_or, pins_among, AreSoundRows, AreSoundGraphs}
use Rattle.dcel_records.specs.Outs.{IsOut}
use Rattle.dcel_records.specs.declared.vertex_map.VertexMap.{VertexMap}
use Rattle.dcel_records.specs.VertexMaps.{IsMapOf}
use Rattle.dcel_records.proofs.Twins.{twinned_empty}
use Rattle.dcel_records.proofs.Leaving.{out_empty}
use Rattle.dcel_records.proofs.Writing.{kept_by}

module _ (vs : Slab StoredVertex) (ds : Slab StoredDart) where
  module _ (xs : Slab StoredVertex) (es : Slab StoredDart) (a : xs.slots ≡ vs.slots) (b : es.slots ≡ ds.slots) where
    pub graph_slots : graph_in xs es ≡ graph_in vs ds
    graph_slots =
        let p = tabled_slots vertex_of vs xs a in
        let q = tabled_slots dart_of ds es b in
        (λ i. record { vertices = p i; darts = q i })

    kept_slots : AreSoundRows vs ds → AreSoundRows xs es
    kept_slots k = kept_by xs es (graph_in vs ds) graph_slots k.twinned (λ w. subst (λ o. IsOut (graph_in vs ds) w o) (sym (ap (λ os. out_or (slice_index_or os w.0 None)) a)) (k.outs w))

    pub records_slots : {at : VertexMap} (pins : ℕ) → AreSoundGraphs vs ds at pins → AreSoundGraphs xs es at pins
    records_slots {at} pins k =
        let table = sym (tabled_slots vertex_of vs xs a) in
        record { rows = kept_slots k.rows; mapped = subst (λ (rs : List (ℕ × VertexRecord)). IsMapOf at rs) table k.mapped; counted = k.counted ∙ ap pins_among table }

  module _ (a : vs.slots ≡ []) (b : ds.slots ≡ []) where
    pub graph_empty : graph_in vs ds ≡ no_rows
    graph_empty =
        let p = tabled_empty vertex_of vs a in
        let q = tabled_empty dart_of ds b in
        (λ i. record { vertices = p i; darts = q i })

    kept_empty : AreSoundRows vs ds
    kept_empty = kept_by vs ds no_rows graph_empty twinned_empty (λ w. subst (λ o. IsOut no_rows w o) (sym (ap (λ os. out_or (slice_index_or os w.0 None)) a)) (out_empty w))

    pub records_empty : {at : VertexMap} → IsMapOf at [] → AreSoundGraphs vs ds at 0
    records_empty {at} m =
        let table = sym (tabled_empty vertex_of vs a) in
        record { rows = kept_empty; mapped = subst (λ (rs : List (ℕ × VertexRecord)). IsMapOf at rs) table m; counted = ap pins_among table }

-- what an emptied slab has room for
spare_all : {X : Type 0} (s t : Slab X) (room spare many : ℕ) → room - slab_len s ≡ spare → many ≡ slab_len s → slab_len s ≤ room → t.slots ≡ [] → spare + many ≤ room - slab_len t
spare_all s t room spare many e m l z = let n : slab_len t ≡ 0 = ap (λ os. count_by is_some os) z in omega arith

module _ (store : Inside) (h : RecordsView) (is : records_view store ≡ h) where
  pub vertices_spare : (t : Slab StoredVertex) → slab_len store.vertices ≤ store.vertex_room → t.slots ≡ [] → h.spare_vertices + length h.graph.vertices ≤ store.vertex_room - slab_len t
  vertices_spare t l z = spare_all store.vertices t store.vertex_room h.spare_vertices (length h.graph.vertices) (ap (λ x. x.spare_vertices) is) (sym (ap (λ x. length x.graph.vertices) is) ∙ length-tabled vertex_of store.vertices) l z

  pub darts_spare : (t : Slab StoredDart) → slab_len store.darts ≤ store.darts.capacity → t.slots ≡ [] → t.capacity ≡ store.darts.capacity → h.spare_darts + length h.graph.darts ≤ t.capacity - slab_len t
  darts_spare t l z c = let a = spare_all store.darts t store.darts.capacity h.spare_darts (length h.graph.darts) (ap (λ x. x.spare_darts) is) (sym (ap (λ x. length x.graph.darts) is) ∙ length-tabled dart_of store.darts) l z in omega (arith, a, c)
