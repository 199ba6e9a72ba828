use Rattle.std.proofs.Common.{◌∙◌, refl, ap}
use Rattle.mirror_observer.specs.FaceParts.{unlinked_then}
use Rattle.mirror_observer.specs.Tables.{darts_of}
use Rattle.mirror_observer.proofs.Changed.{edge_removed, tables_named, twin_apart, less_sound, less_on}
use Rattle.mirror_observer.proofs.FacesUnited.{united_at}
use Rattle.mirror_observer.proofs.tables.Tables.remove_edge.Goals as goal

pub returns : goal.returns
returns c =
    edge_removed c.args.self.now _ c.args.d c.args.m c.args.faces.now c.requires refl c.unlink.ensures c.lift.ensures
    (c.in_ok-unlink_then.ensures ∙ ap (unlinked_then (darts_of c.unlink.new.darts.entries) c.args.faces.now) c.in_ok-unlink_first.ensures)

pub unlink_first-requires : goal.unlink_first-requires
unlink_first-requires c =
    let t = c.args.self.now in
    record {
      sound = (t.vertices.entries, c.requires.standing.sound.map);
      dart = c.requires.fits.0;
      twin = c.requires.fits.1;
      united = united_at t c.args.d c.args.m c.args.faces.now c.requires;
    }

pub unlink-requires : goal.unlink-requires
unlink-requires c =
    let t = c.args.self.now in
    record { named = tables_named t c.requires.standing; back = c.requires.standing.back; apart = twin_apart t c.args.d c.args.m c.args.faces.now c.requires }

pub unlink_then-requires : goal.unlink_then-requires
unlink_then-requires c =
    let t = c.args.self.now in
    record {
      sound = less_sound t c.args.d c.args.m c.args.faces.now c.requires _ c.unlink.ensures;
      rows = less_on t c.args.d c.args.m c.args.faces.now c.requires _ c.unlink.ensures _ c.in_ok-unlink_first.ensures;
    }
