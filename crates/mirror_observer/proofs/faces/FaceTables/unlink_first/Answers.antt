use Rattle.std.proofs.Common.{sym, subst}
use Rattle.slab_laws.specs.View.{HasDart}
use Rattle.mirror_observer.specs.FaceParts.{AreUnitedAt}
use Rattle.mirror_observer.specs.FaceTables.{faces_in}
use Rattle.mirror_observer.specs.Tables.{darts_of}
use Rattle.mirror_observer.proofs.faces.FaceTables.unlink_first.Goals as goal

pub unite-requires-clause-second : goal.unite-requires-clause-second
unite-requires-clause-second c =
    let g = darts_of c.args.darts.now.entries in
    subst (λ z. HasDart g z) (sym c.requires.twin) (c.requires.sound.1.graph.twinned.has c.args.d c.requires.dart)

pub unite-requires-clause-found : goal.unite-requires-clause-found
unite-requires-clause-found c =
    subst (λ told. AreUnitedAt c.args.darts.now.entries (faces_in c.args.self.now) c.args.d c.args.m told) c.in-Unites.is c.requires.united
