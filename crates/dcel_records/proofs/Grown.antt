-- Slabs that have grown keep all that they hold.
use Rattle.std.proofs.Common.{◌≡◌, ℕ, ◌+◌, ◌≤◌, count_by, max, List, is_some, refl, sym, ap, subst, ◌∙◌, arith, vec_capacity}
use Rattle.slab.specs.Slab.{Slab, slab_len, HasRoomFor}
use Rattle.slab_laws.specs.View.{VertexRecord}
use Rattle.chain_laws.specs.Rows.{tabled}
use Rattle.dcel_records.specs.declared.records.Records.TheInside.{Inside}
use Rattle.dcel_records.specs.declared.rows.StoredVertex.{StoredVertex}
use Rattle.dcel_records.specs.declared.rows.StoredCycle.{StoredCycle}
use Rattle.dcel_records.specs.declared.rows.StoredDart.{StoredDart}
use Rattle.dcel_records.specs.declared.rows.StoredFace.{StoredFace}
use Rattle.dcel_records.specs.Placing.{own}
use Rattle.dcel_records.specs.RecordsView.{RecordsView, lists_of, tables_of}
use Rattle.dcel_records.specs.StoredRows.{graph_in, tables_in, lists_in, records_view, IsGrown, IsRoom, AreReadyWhere, AreSoundGraphs, AreSoundFaces, AreSoundRecords}
use Rattle.dcel_records.proofs.FaceTables.{lists_seen}
use Rattle.dcel_records.proofs.OnCycles.{on_slots}
use Rattle.dcel_records.proofs.Marked.{marked_slots}
use Rattle.dcel_records.proofs.Isolated.{isolated_slots}
use Rattle.dcel_records.proofs.Whole.{graph_slots, records_slots}
use Rattle.dcel_records.specs.VertexMaps.{IsMapOf}
use Rattle.dcel_records.proofs.VertexMapped.{remapped}

module _ {X : Type 0} (s t : Slab X) (g : IsGrown s t) where
  pub grown_len : slab_len t ≡ slab_len s
  grown_len = ap (λ (x : Slab X). count_by is_some x.slots) g.rest

  pub grown_room : (room : ℕ) → IsRoom room s → IsRoom room t
  grown_room room k = let l = grown_len in let c = g.capacity in let h = k.holds in let w = k.within in record { holds = omega arith; within = omega arith }

  -- more is promised, and fits
  pub raised_room : (room more : ℕ) → IsRoom room s → HasRoomFor t more → IsRoom (max room (slab_len t + more)) t
  raised_room room more k r = let l = grown_len in let c = g.capacity in let h = k.holds in let w = k.within in record { holds = omega arith; within = omega arith }

abbrev roomy : {X : Type 0} → Slab X → ℕ → Slab X
roomy s n = record s { capacity = n }

-- each table has grown from the first to the second
abbrev pub IsGrownStore : Inside → Inside → Type 0
IsGrownStore s t = IsGrown s.vertices t.vertices × IsGrown s.darts t.darts × IsGrown s.cycles t.cycles × IsGrown s.faces t.faces

module _ (vs : Slab StoredVertex) (cs : Slab StoredCycle) (fs : Slab StoredFace) where
  lists_roomy : (a c d : ℕ) → lists_in (roomy vs a) (roomy cs c) (roomy fs d) ≡ lists_in vs cs fs
  unfolding own
  lists_roomy a c d = refl

module _ (vs : Slab StoredVertex) (ds : Slab StoredDart) (cs : Slab StoredCycle) (fs : Slab StoredFace) where
  tables_roomy : (a b c d : ℕ) → tables_in (roomy vs a) (roomy ds b) (roomy cs c) (roomy fs d) ≡ tables_in vs ds cs fs
  unfolding tabled
  tables_roomy a b c d = refl

faces_grown : (vs ws : Slab StoredVertex) (cs os : Slab StoredCycle) (fs gs : Slab StoredFace) → IsGrown vs ws → IsGrown cs os → IsGrown fs gs → AreSoundFaces vs cs fs → AreSoundFaces ws os gs
faces_grown vs ws cs os fs gs a c d k = subst (λ (s : Slab StoredVertex). AreSoundFaces s os gs) (sym a.rest) (subst (λ (s : Slab StoredCycle). AreSoundFaces (roomy vs ws.capacity) s gs) (sym c.rest) (subst (λ (s : Slab StoredFace). AreSoundFaces (roomy vs ws.capacity) (roomy cs os.capacity) s) (sym d.rest) (record { cycles = k.cycles; bare = k.bare; unbounded = k.unbounded })))

module _ (s t : Inside) (g : IsGrownStore s t) where
  -- the invariant, with the promises given
  pub sound_grown : ((rows : List (ℕ × VertexRecord)) → IsMapOf s.at rows → IsMapOf t.at rows) → t.pins ≡ s.pins → t.isolated ≡ s.isolated → AreSoundRecords s → IsRoom t.vertex_room t.vertices → IsRoom t.cycle_room t.cycles → AreReadyWhere t.moved t.cycle_room t.vertex_room → t.cycle_room ≤ vec_capacity t.order → AreSoundRecords t
  sound_grown keeps pins isolated k v e m l = record {
    graph = subst (λ n. AreSoundGraphs t.vertices t.darts t.at n) (sym pins) (remapped t.vertices t.darts s.pins keeps (records_slots s.vertices s.darts t.vertices t.darts (ap (λ x. x.slots) g.0.rest) (ap (λ x. x.slots) g.1.rest) s.pins k.graph));
    faces = faces_grown s.vertices t.vertices s.cycles t.cycles s.faces t.faces g.0 g.2 g.3 k.faces;
    vertex_room = v;
    cycle_room = e;
    on_cycles = on_slots s.darts t.darts s.cycles t.cycles (ap (λ x. x.slots) g.1.rest) (ap (λ x. x.slots) g.2.rest) k.on_cycles;
    marked = marked_slots s.vertices t.vertices s.darts t.darts (ap (λ x. x.slots) g.0.rest) (ap (λ x. x.slots) g.1.rest) k.marked;
    moved = m;
    isolated = isolated ∙ k.isolated ∙ sym (isolated_slots s.vertices t.vertices (ap (λ x. x.slots) g.0.rest));
    keys = l;
  }

  module _ (h : RecordsView) (is : records_view s ≡ h) where
    pub graph_grown : graph_in t.vertices t.darts ≡ h.graph
    graph_grown = graph_slots s.vertices s.darts t.vertices t.darts (ap (λ x. x.slots) g.0.rest) (ap (λ x. x.slots) g.1.rest) ∙ ap (λ v. v.graph) is

    pub tables_grown : tables_in t.vertices t.darts t.cycles t.faces ≡ h.faces.tables
    tables_grown = (λ i. tables_in (g.0.rest i) (g.1.rest i) (g.2.rest i) (g.3.rest i)) ∙ tables_roomy s.vertices s.darts s.cycles s.faces t.vertices.capacity t.darts.capacity t.cycles.capacity t.faces.capacity ∙ ap tables_of is

    pub lists_grown : lists_of (records_view t) ≡ lists_of h
    lists_grown =
        lists_seen t.vertices t.cycles t.faces t.darts t.moved t.cycle_room ∙ (λ i. lists_in (g.0.rest i) (g.2.rest i) (g.3.rest i)) ∙ lists_roomy s.vertices s.cycles s.faces t.vertices.capacity t.cycles.capacity t.faces.capacity
        ∙ sym (lists_seen s.vertices s.cycles s.faces s.darts s.moved s.cycle_room) ∙ ap lists_of is
