-- While a run is written: with what is still to come of it, what was written is the whole run.
use Rattle.std.proofs.Common.{◌≡◌, ◌≢◌, ◌<◌, refl, sym, ap, ◌∙◌, subst, List, [], ◌∷◌}
use Rattle.slab_laws.specs.declared.names.CycleId.{CycleId}
use Rattle.slab_laws.specs.declared.names.DartId.{DartId}
use Rattle.slab_laws.specs.FacesSound.{lead_in}
use Rattle.slab_laws.specs.Sound.{IsGraphSound}
use Rattle.slab_laws.specs.View.{Faces, HasCycle, HasDart, next_in}
use Rattle.arr_notes.specs.FaceWriters.{on_cycle}
use Rattle.dcel_records.specs.RecordsView.{RecordsView, FacesView, graph_part}
use Rattle.boundary_cycles.proofs.NamedWalks.{ways, closer, lead_step}
use Rattle.face_steps.specs.RowsWritten.{all_on}
use Rattle.cycle_writers.specs.Runs.{IsRun}
use Rattle.cycle_writers.proofs.RunLists.{one_dart, one_before}

-- old is before the call, now where the dart `at` is still to be written
pub record IsWriting (old now : RecordsView) (from to at : DartId) (c : CycleId) : Type 0 where
  pub there : HasDart old.graph at
  pub has : HasCycle now.faces.tables c
  pub on : lead_in old.graph at ≡ lead_in old.graph to
  pub graph : graph_part now ≡ graph_part old
  pub faces : now.faces ≡ record old.faces { tables = now.faces.tables }
  pub written : (rest : List DartId) → IsRun old.graph at to rest → (ds : List DartId) × IsRun old.graph from to ds × (all_on ds c old.faces.tables ≡ all_on rest c now.faces.tables)

module _ (old : RecordsView) (from to : DartId) (c : CycleId) where
  pub begins : HasDart old.graph from → HasCycle old.faces.tables c → lead_in old.graph from ≡ lead_in old.graph to → IsWriting old old from to from c
  begins h k e = record { there = h; has = k; on = e; graph = refl; faces = refl; written = λ rest r. (rest, r, refl) }

  -- the dart where it ends is nearer
  pub shorter : (now : RecordsView) (at : DartId) → IsWriting old now from to at c → IsGraphSound old.graph → HasDart old.graph to → next_in old.graph at ≢ to → ways old.graph to (next_in old.graph (next_in old.graph at)) < ways old.graph to (next_in old.graph at)
  shorter now at w s T n = closer old.graph s to T (next_in old.graph at) (s.linked.has at w.there) (lead_step old.graph s at w.there ∙ w.on) n

  module _ (now new : RecordsView) (at : DartId) (w : IsWriting old now from to at c) (graph : graph_part new ≡ graph_part now) (faces : new.faces ≡ record now.faces { tables = on_cycle at c now.faces.tables }) where
    same_graph : graph_part new ≡ graph_part old
    same_graph = graph ∙ w.graph

    new_tables : new.faces.tables ≡ on_cycle at c now.faces.tables
    new_tables = ap (λ (f : FacesView). f.tables) faces

    new_faces : new.faces ≡ record old.faces { tables = new.faces.tables }
    new_faces = faces ∙ ap (λ (f : FacesView). record f { tables = on_cycle at c now.faces.tables }) w.faces ∙ ap (λ (t : Faces). record old.faces { tables = t }) (sym new_tables)

    pub goes_on : IsGraphSound old.graph → next_in old.graph at ≢ to → IsWriting old new from to (next_in old.graph at) c
    unfolding all_on
    goes_on s n = record {
      there = s.linked.has at w.there;
      has = subst (λ (t : Faces). HasCycle t c) (sym new_tables) w.has;
      on = lead_step old.graph s at w.there ∙ w.on;
      graph = same_graph;
      faces = new_faces;
      written = λ rest r.
          let z = w.written (at ∷ rest) (one_before old.graph to at n rest r) in
          (z.0, z.1, z.2 ∙ ap (λ t. all_on rest c t) (sym new_tables));
    }

    pub ends : next_in old.graph at ≡ to → (ds : List DartId) × IsRun old.graph from to ds × (new.faces ≡ record old.faces { tables = all_on ds c old.faces.tables })
    unfolding all_on
    ends e =
        let z = w.written (at ∷ []) (one_dart old.graph to at e) in
        (z.0, z.1, new_faces ∙ ap (λ (t : Faces). record old.faces { tables = t }) (new_tables ∙ sym z.2))
