-- Whether records are a sound map depends on the graph, the tables and the lists alone.
use Rattle.std.proofs.Common.{◌≡◌, sym, subst}
use Rattle.slab_laws.specs.FaceLists.{AreDartsOn}
use Rattle.slab_laws.specs.FacesSound.{IsSound}
use Rattle.slab_laws.specs.View.{View, Faces}
use Rattle.dcel_records.specs.RecordsView.{RecordsView, IsReturned, lists_of, tables_of}
use Rattle.dcel_records.specs.SoundMaps.{IsSoundMap, IsMapAtRest, map_of}

module _ (h k : RecordsView) (graph : k.graph ≡ h.graph) (tables : tables_of k ≡ tables_of h) (lists : lists_of k ≡ lists_of h) where
  pub map_by : IsSoundMap h → IsSoundMap k
  map_by m = record {
    sound = subst (λ (v : View). IsSound v (tables_of k)) (sym graph) (subst (λ (f : Faces). IsSound h.graph f) (sym tables) m.sound);
    darts = subst (λ (v : View). AreDartsOn v (tables_of k) (lists_of k)) (sym graph) (subst (λ (f : Faces). AreDartsOn h.graph f (lists_of k)) (sym tables) (subst (λ l. AreDartsOn h.graph (tables_of h) l) (sym lists) m.darts));
  }

  pub rest_by : (IsReturned h → IsReturned k) → IsMapAtRest h → IsMapAtRest k
  rest_by back m = record { map = map_by m.map; returned = back m.returned }

-- the whole map depends on the graph and the tables
pub one_map : (new old : RecordsView) → new.graph ≡ old.graph → tables_of new ≡ tables_of old → map_of new ≡ map_of old
one_map new old graph tables = λ i. record { graph = graph i; faces = tables i }
