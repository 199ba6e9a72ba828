use Rattle.std.proofs.Common.{◌++◌, ◌∷◌, [], ◌∙◌, refl, ap}
use Rattle.arr_notes.specs.NamedRows.{put}
use Rattle.mirror_observer.specs.FaceParts.{linked_then}
use Rattle.mirror_observer.specs.Tables.{rows, numbers_in, darts_of}
use Rattle.mirror_observer.proofs.Changed.{edge_added, added_sound, added_on, places_known}
use Rattle.mirror_observer.proofs.CycleFound.{joined_at}
use Rattle.mirror_observer.proofs.tables.Tables.add_edge.Goals as goal

pub returns : goal.returns
returns c =
    let s = c.args.start in
    let f = c.args.finish in
    edge_added c.args.self.now _ c.args.d c.args.m s.vertex f.vertex s.place f.place c.args.line c.args.curve c.args.faces.now c.requires refl c.in_ok-link.ensures
    (c.in_ok-lay.ensures ∙ ap (λ ks. put c.args.d.0 (numbers_in ks) (rows numbers_in c.args.self.now.curves.entries)) (c.in_ok-push.ensures.added ∙ ap (λ ks. ks ++ c.args.curve ∷ []) c.new-curves.ensures))
    (c.in_ok-link_then.ensures ∙ ap (linked_then (darts_of c.link.new.darts.entries) c.args.faces.now) c.in_ok-link_first.ensures)

pub link_first-requires : goal.link_first-requires
link_first-requires c =
    let t = c.args.self.now in
    let s = c.args.start in
    let f = c.args.finish in
    let places = places_known t c.args.d c.args.m s.vertex f.vertex s.place f.place c.args.line c.args.curve c.args.faces.now c.requires in
    record {
      sound = (t.vertices.entries, c.requires.standing.sound.map);
      first = places.0;
      second = places.1;
      joined = joined_at t c.args.d c.args.m s.vertex f.vertex s.place f.place c.args.line c.args.curve c.args.faces.now c.requires;
    }

pub link_then-requires : goal.link_then-requires
link_then-requires c =
    let t = c.args.self.now in
    let s = c.args.start in
    let f = c.args.finish in
    record {
      sound = added_sound t c.args.d c.args.m s.vertex f.vertex s.place f.place c.args.line c.args.curve c.args.faces.now c.requires _ c.in_ok-link.ensures;
      rows = added_on t c.args.d c.args.m s.vertex f.vertex s.place f.place c.args.line c.args.curve c.args.faces.now c.requires _ c.in_ok-link.ensures _ c.in_ok-link_first.ensures;
    }
