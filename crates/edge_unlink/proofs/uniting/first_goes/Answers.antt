use Rattle.std.proofs.Common.{◌≡◌, inl, refl, sym, ap, ◌∙◌, subst}
use Rattle.std.proofs.lemmas.Bool.{true≢false}
use Rattle.slab_laws.specs.declared.names.CycleKind.TheVariants.{Inner}
use Rattle.slab_laws.specs.Kinds.{is_outer as bounds_from_outside}
use Rattle.slab_laws.specs.View.{Faces, HasDart, HasCycle, cycle_in, kind_in}
use Rattle.face_steps.proofs.StepHoles.{kinds_are_two}
use Rattle.edge_unlink.proofs.UnitedMaps.{other_outer}
use Rattle.edge_unlink.proofs.uniting.first_goes.Goals as goal

pub returns-then-not-is_outer-clause-second : goal.returns-then-not-is_outer-clause-second
returns-then-not-is_outer-clause-second c =
    let f : Faces = c.args.records.now.faces.tables in
    let inner : kind_in f (cycle_in f c.args.d) ≡ Inner =
    kinds_are_two _ (λ e. true≢false (sym (ap bounds_from_outside (c.kind.ensures ∙ ap (kind_in f) c.cycle.ensures.cycle ∙ e)) ∙ sym c.is_outer.ensures ∙ c.if-not-is_outer.true))
    in
    λ q. other_outer c.args.records.now.graph f c.args.d c.args.d c.args.m _ _ c.requires.map.sound c.requires.dart (inl (refl, c.requires.twin)) c.requires.two refl refl inner

pub cycle-requires-2 : goal.cycle-requires-2
cycle-requires-2 c = subst (HasDart c.args.records.now.graph) (sym c.requires.twin) (c.requires.map.sound.graph.twinned.has c.args.d c.requires.dart)

pub kind-requires-2 : goal.kind-requires-2
kind-requires-2 c =
    let twin : HasDart c.args.records.now.graph c.args.m = subst (HasDart c.args.records.now.graph) (sym c.requires.twin) (c.requires.map.sound.graph.twinned.has c.args.d c.requires.dart) in
    subst (HasCycle c.args.records.now.faces.tables) (sym c.cycle-2.ensures.cycle) (c.requires.map.sound.complete.cycle_has c.args.m twin)

pub is_no_longer-requires-clause-other : goal.is_no_longer-requires-clause-other
is_no_longer-requires-clause-other c = subst (HasDart c.args.records.now.graph) (sym c.requires.twin) (c.requires.map.sound.graph.twinned.has c.args.d c.requires.dart)
