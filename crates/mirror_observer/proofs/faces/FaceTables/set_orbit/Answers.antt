use Rattle.std.proofs.Common.{◌∙◌, sym, ap, is_some}
use Rattle.std.proofs.lemmas.Bool.{false≢true}
use Rattle.slab_laws.specs.View.{Faces}
use Rattle.mirror_observer.specs.FaceTables.{faces_in}
use Rattle.mirror_observer.proofs.OrbitWalk.{no_orbit}
use Rattle.mirror_observer.proofs.Readers.{has_is, is_has}
use Rattle.mirror_observer.proofs.faces.FaceTables.set_orbit.Goals as goal

pub put_orbit-requires-clause-dart : goal.put_orbit-requires-clause-dart
put_orbit-requires-clause-dart c = has_is c.args.darts.now.entries c.args.d (ap is_some (sym c.entry_of.ensures) ∙ sym c.is_some.ensures ∙ c.if-is_some.true)

pub returns-else-is_some : goal.returns-else-is_some
returns-else-is_some c =
    let ds = c.args.darts.now.entries in
    let f : Faces = faces_in c.args.self.now in
    ap (λ rs. record f { cycle_of = rs })
    (no_orbit ds c.args.d c.args.cycle c.requires.sound (λ h. false≢true (sym c.if-is_some.false ∙ c.is_some.ensures ∙ ap is_some c.entry_of.ensures ∙ is_has ds c.args.d h)) f.cycle_of c.requires.rows)
