-- The lists of what moves come back to the records: all else is as it was.
use Rattle.std.proofs.Common.{◌≡◌, Some, refl, sym, subst}
use Rattle.dcel_records.specs.RecordsView.{MovedRoom, RecordsView, graph_part}
use Rattle.dcel_records.specs.SoundMaps.{IsMapAtRest, IsSoundMap}

module _ (mid new : RecordsView) (room : MovedRoom) (graph : graph_part new ≡ graph_part mid) (faces : new.faces ≡ record mid.faces { moved = Some room }) where
  as_given : new ≡ record mid { faces = record mid.faces { moved = Some room }; ranks = new.ranks; mapped = new.mapped }
  as_given i = record {
    graph = (graph i).graph;
    spare_vertices = (graph i).spare_vertices;
    spare_darts = (graph i).spare_darts;
    capacity_of_vertices = (graph i).capacity_of_vertices;
    capacity_of_darts = (graph i).capacity_of_darts;
    faces = faces i;
    ranks = new.ranks;
    mapped = new.mapped;
  }

  pub map_restored : IsSoundMap mid → IsMapAtRest new
  map_restored m = subst IsMapAtRest (sym as_given) (record { map = record { sound = m.sound; darts = m.darts }; returned = refl })
