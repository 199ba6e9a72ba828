-- The column of cycles, read and written.
use Rattle.std.proofs.Common.{◌≡◌, ◌-◌, Option, Some, is_some, option_map, refl, sym, ap, subst, ◌∙◌}
use Rattle.slab.specs.Slab.{Slab, get, slab_len, with_value}
use Rattle.slab.proofs.SlabLemmas.{Updates-with_value}
use Rattle.slab_laws.specs.declared.names.CycleId.{CycleId}
use Rattle.slab_laws.specs.declared.names.DartId.{DartId}
use Rattle.slab_laws.specs.Sound.{IsTwinned}
use Rattle.slab_laws.specs.Tables.{row_at}
use Rattle.chain_laws.proofs.Tabled.{row-tabled}
use Rattle.dcel_records.specs.declared.records.Records.TheInside.{Inside}
use Rattle.dcel_records.specs.declared.rows.StoredDart.{StoredDart}
use Rattle.dcel_records.specs.declared.rows.StoredVertex.{StoredVertex}
use Rattle.dcel_records.specs.Outs.{IsOut}
use Rattle.dcel_records.specs.RecordsView.{RecordsView, graph_part}
use Rattle.dcel_records.specs.StoredRows.{dart_of, graph_in, records_view, out_at, AreSoundRows}
use Rattle.dcel_records.proofs.Removing.{len_written}
use Rattle.dcel_records.proofs.Tabled.{tabled_same}

abbrev pub row_cycle : CycleId → StoredDart → StoredDart
row_cycle c r = record { source = r.source; twin = r.twin; next = r.next; parts = r.parts; target_parts = r.target_parts; line = r.line; cycle = c }

-- the cycle that a row keeps is what a caller sees
pub cycle_read : (store : Inside) (h : RecordsView) → records_view store ≡ h → (d : DartId) (o : Option StoredDart) → get store.darts d.0 ≡ o → option_map (λ r. r.cycle) o ≡ row_at h.faces.tables.cycle_of d.0
cycle_read store h is d o e = sym (ap (option_map (λ r. r.cycle)) e) ∙ sym (row-tabled (λ r. r.cycle) store.darts d.0) ∙ ap (λ v. row_at v.faces.tables.cycle_of d.0) is

module _ (vs : Slab StoredVertex) (ds : Slab StoredDart) (d : DartId) (c : CycleId) (r : StoredDart) (g : get ds d.0 ≡ Some r) where
  abbrev written : Slab StoredDart
  written = with_value ds d.0 (row_cycle c r)

  cycle_graph : graph_in vs written ≡ graph_in vs ds
  cycle_graph = let e = tabled_same dart_of ds written d.0 r (row_cycle c r) g refl (Updates-with_value ds d.0 _ (ap is_some g)) in λ i. record { vertices = (graph_in vs ds).vertices; darts = e i }

  pub cycle_kept : AreSoundRows vs ds → AreSoundRows vs written
  cycle_kept k = let e = sym cycle_graph in record { twinned = subst (λ v. IsTwinned v) e k.twinned; outs = λ w. subst (λ v. IsOut v w (out_at vs w)) e (k.outs w) }

pub cycle_graph_part : (store : Inside) (h : RecordsView) → records_view store ≡ h → (d : DartId) (c : CycleId) (r : StoredDart) → get store.darts d.0 ≡ Some r → graph_part (records_view (record store { darts = with_value store.darts d.0 (row_cycle c r) })) ≡ graph_part h
cycle_graph_part store h is d c r g =
    let l = len_written store.darts d.0 r (row_cycle c r) g in
    (λ i. record { graph = cycle_graph store.vertices store.darts d c r g i; spare_vertices = store.vertex_room - slab_len store.vertices; spare_darts = store.darts.capacity - l i; capacity_of_vertices = store.vertex_room; capacity_of_darts = store.darts.capacity }) ∙ ap graph_part is
