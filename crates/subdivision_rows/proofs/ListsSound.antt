-- The records in lists are a sound view of the subdivision.
use Rattle.subdivision_rows.specs.Listed.{view_of, faces_of}
use Rattle.subdivision_rows.specs.ListedLaws.{ListsAreSound}
use Rattle.face_changes.proofs.FacesByPairs.{outer_cycles_follow}
use Rattle.subdivision_rows.proofs.ListsGraphSound.{graph_sound}
use Rattle.subdivision_rows.proofs.ListsComplete.{complete}
use Rattle.subdivision_rows.proofs.ListsCycled.{cycled}
use Rattle.subdivision_rows.proofs.ListsFaced.{cell, faced}

pub lists_are_sound : ListsAreSound
lists_are_sound d pl lines =
    let graph = graph_sound d pl lines in
    record {
      graph = graph;
      complete = complete d pl;
      cycled = cycled d pl;
      faced = (cell d, outer_cycles_follow (view_of d) (faces_of d) (cell d) graph (complete d pl) (cycled d pl) (faced d pl));
    }
