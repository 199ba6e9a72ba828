-- Two views with the same darts, whose ends have the same points, draw the same marks.
use Rattle.std.proofs.Common.{◌≡◌, refl, sym, ap, ◌∙◌, subst}
use Rattle.plane_graphs.specs.Ascending.{Member}
use Rattle.plane_graphs.specs.Graph.{Mark}
use Rattle.slab_laws.specs.declared.names.DartId.{DartId}
use Rattle.slab_laws.specs.Sound.{IsNamed, IsGraphSound}
use Rattle.slab_laws.specs.View.{View, HasDart, point_in, source_in, twin_in}
use Rattle.arr_notes.specs.Reads.{IsSameDart}
use Rattle.arr_notes.specs.Curves.{Curves, AreCurvesOf}
use Rattle.arr_notes.specs.RecordGraph.{drawn_graph}
use Rattle.sound_changes.proofs.StepHolds.{mark_held, held_mark}
use Rattle.sound_changes.proofs.StepSkeletons.{IsPaired, ends_apart}
use Rattle.sound_changes.proofs.StepCases.{IsSameWay, mark_moves, mark_moves_back, labelled, label_moves, curves_by}

module _ (v g : View) (s : IsGraphSound v) (named : IsNamed g) (darts : (d : DartId) → IsSameDart v g d) (at : (d : DartId) → HasDart v d → point_in g (source_in v d) ≡ point_in v (source_in v d)) where
  start : (d : DartId) → HasDart v d → point_in g (source_in g d) ≡ point_in v (source_in v d)
  start d o = ap (point_in g) (darts d).source ∙ at d o

  way : (d : DartId) → HasDart v d → IsSameWay v g d
  way d o = record {
    before = o;
    after = (darts d).has o;
    start = start d o;
    end = ap (λ z. point_in g (source_in g z)) (darts d).twin ∙ start (twin_in v d) (s.twinned.has d o);
  }

  module _ (h : Curves) where
    pub marks_kept : (m : Mark) → Member m (drawn_graph v h).marks → Member m (drawn_graph g h).marks
    marks_kept m k = let r = held_mark v s.named h m k in mark_held g named h m r.0 (mark_moves v g h h r.0 m (way r.0 r.1.forward.0) refl r.1)

    pub marks_known : (m : Mark) → Member m (drawn_graph g h).marks → Member m (drawn_graph v h).marks
    marks_known m k = let r = held_mark g named h m k in mark_held v s.named h m r.0 (mark_moves_back v g h h r.0 m (way r.0 ((darts r.0).had r.1.forward.0)) refl r.1)

    pub curves_kept : AreCurvesOf v h → AreCurvesOf g h
    curves_kept a = curves_by g h (λ d o. let b = (darts d).had o in label_moves v g h h d (way d b) refl (labelled v h d a b)) (λ d no_dart. a.without_dart d (λ o. no_dart ((darts d).has o)))

  pub darts_paired : IsPaired g
  darts_paired = record {
    named = named;
    has = λ d o. subst (HasDart g) (sym (darts d).twin) ((darts (twin_in v d)).has (s.twinned.has d ((darts d).had o)));
    back = λ d o. ap (twin_in g) (darts d).twin ∙ (darts (twin_in v d)).twin ∙ s.twinned.back d ((darts d).had o);
    apart = λ d o q. let w = way d ((darts d).had o) in ends_apart v d s ((darts d).had o) (sym w.start ∙ q ∙ w.end);
  }
