-- A dart that is told other whole parts of the point that it reaches: a caller sees what was there.
use Rattle.std.proofs.Common.{◌≡◌, inl, inr, ℕ, ◌-◌, Option, Some, None, option_map, refl, sym, ap, subst, ◌∙◌}
use Rattle.std.proofs.lemmas.Bool.{cases_eq}
use Rattle.exact_plane.specs.declared.whole_parts.WholeParts.{WholeParts}
use Rattle.slab.specs.Slab.{Slab, get, entries, slab_len, Updates}
use Rattle.slab_laws.specs.Sound.{IsTwinned}
use Rattle.slab_laws.specs.Tables.{names}
use Rattle.arr_notes.proofs.RowLaws.{one_table}
use Rattle.chain_laws.specs.Rows.{tabled}
use Rattle.chain_laws.proofs.Tabled.{row-tabled, ascend-tabled}
use Rattle.dcel_records.specs.declared.records.Records.TheInside.{Inside}
use Rattle.dcel_records.specs.declared.rows.StoredCycle.{StoredCycle}
use Rattle.dcel_records.specs.declared.rows.StoredDart.{StoredDart}
use Rattle.dcel_records.specs.declared.rows.StoredVertex.{StoredVertex}
use Rattle.dcel_records.specs.declared.vertex_map.VertexMap.{VertexMap}
use Rattle.dcel_records.specs.Areas.{HasParts}
use Rattle.dcel_records.specs.Given.{reaching}
use Rattle.dcel_records.specs.Outs.{IsOut}
use Rattle.dcel_records.specs.StoredRows.{vertex_of, dart_of, bare_of, somes, cycle_record, face_rows, moved_room, ranks_view, graph_in, records_view, out_at, AreSoundRows, AreSoundGraphs, AreOnCycles}
use Rattle.dcel_records.proofs.EachRow.{each_mapped}

module _ (vs : Slab StoredVertex) (ds es : Slab StoredDart) (t : ℕ) (p : WholeParts) (u : Updates ds es t (option_map (reaching p) (get ds t))) where
  column_told : {Y : Type 0} (f : StoredDart → Y) → ((r : StoredDart) → f (reaching p r) ≡ f r) → tabled f es ≡ tabled f ds
  column_told f same = one_table _ _ (ascend-tabled f es) (ascend-tabled f ds) (λ j. row-tabled f es j ∙ found j ∙ sym (row-tabled f ds j))
    where
      of_row : (o : Option StoredDart) → option_map f (option_map (reaching p) o) ≡ option_map f o
      of_row None = refl
      of_row (Some r) = ap Some (same r)

      found : (j : ℕ) → option_map f (get es j) ≡ option_map f (get ds j)
      found j = elim (cases_eq j t) [
        | inl q ↦ rw q (ap (option_map f) u.changed ∙ of_row (get ds t))
        | inr ne ↦ ap (option_map f) (u.others j ne)
      ]

  graph_told : graph_in vs es ≡ graph_in vs ds
  graph_told = let e = column_told dart_of (λ r. refl) in λ i. record { vertices = tabled vertex_of vs; darts = e i }

  rows_told : AreSoundRows vs ds → AreSoundRows vs es
  rows_told k = let e = sym graph_told in record { twinned = subst (λ v. IsTwinned v) e k.twinned; outs = λ w. subst (λ v. IsOut v w (out_at vs w)) e (k.outs w) }

  pub graphs_told : (at : VertexMap) (pins : ℕ) → AreSoundGraphs vs ds at pins → AreSoundGraphs vs es at pins
  graphs_told at pins k = record { rows = rows_told k.rows; mapped = k.mapped; counted = k.counted }

  pub cycles_told : (cs : Slab StoredCycle) → AreOnCycles ds cs → AreOnCycles es cs
  cycles_told cs = each_mapped (λ r. HasParts (get cs r.cycle.0) r.parts) (reaching p) (λ r k. k) ds es t u

  -- a dart keeps its cycle
  pub cycle_told : (j : ℕ) (r q : StoredDart) → get ds j ≡ Some r → get es j ≡ Some q → r.cycle ≡ q.cycle
  cycle_told j r q e f = elim (cases_eq j t) [
    | inl i ↦ (let z : Some q ≡ Some (reaching p r) = sym f ∙ ap (get es) i ∙ u.changed ∙ ap (option_map (reaching p)) (ap (get ds) (sym i) ∙ e) in let y : q.cycle ≡ r.cycle = cc in sym y)
    | inr ne ↦ (let z : Some q ≡ Some r = sym f ∙ u.others j ne ∙ e in let y : q.cycle ≡ r.cycle = cc in sym y)
  ]

pub view_told : (store : Inside) (es : Slab StoredDart) (t : ℕ) (p : WholeParts) → Updates store.darts es t (option_map (reaching p) (get store.darts t)) → slab_len es ≡ slab_len store.darts → es.capacity ≡ store.darts.capacity → records_view (record store { darts = es }) ≡ records_view store
view_told store es t p u len capacity =
    let e = column_told store.vertices store.darts es t p u (λ r. r.cycle) (λ r. refl) in
    λ i. record {
      graph = graph_told store.vertices store.darts es t p u i;
      spare_vertices = store.vertex_room - slab_len store.vertices;
      spare_darts = capacity i - len i;
      capacity_of_vertices = store.vertex_room;
      capacity_of_darts = capacity i;
      faces = record {
        tables = record { cycle_of = e i; bare = somes (tabled bare_of store.vertices); cycles = tabled cycle_record store.cycles; faces = names (entries store.faces) };
        rows = face_rows store.vertices store.cycles store.faces;
        darts = tabled (λ r. r.dart) store.cycles;
        spare_cycles = store.cycle_room - slab_len store.cycles;
        spare_faces = store.faces.capacity - slab_len store.faces;
        capacity_of_cycles = store.cycle_room;
        capacity_of_faces = store.faces.capacity;
        moved = option_map moved_room store.moved;
      };
      ranks = ranks_view store.faces store.order.items;
      mapped = store.at.whole;
    }
