-- What the plan of a curve's insertion gives to each of its parts.
use Rattle.std.proofs.Common.{◌≡◌, ℕ, ◌+◌, List, [], ◌∷◌, ◌++◌, map, length, sym, ap, ◌∙◌, subst}
use Rattle.std.proofs.lemmas.List.{length-map}
use Rattle.exact_plane.specs.Point.{Point}
use Rattle.exact_plane.specs.Segment.{Segment}
use Rattle.plane_graphs.specs.Ascending.{Member}
use Rattle.plane_graphs.specs.Graph.{Mark}
use Rattle.plane_graphs.specs.Piece.{Present}
use Rattle.edit_steps.specs.Allowed.{AreSound}
use Rattle.edit_steps.specs.EditLaws.{hold_step}
use Rattle.edit_steps.specs.Edits.{Insert, after, path_pieces, steps, AreSides, IsAccepted}
use Rattle.edit_steps.specs.Layer.{Layer, layer_after, IsAcceptedBy}
use Rattle.edit_steps.specs.Steps.{Step, run, more_step}
use Rattle.edit_steps.proofs.Layers.{layers_lawful}
use Rattle.slab_laws.specs.View.{View}
use Rattle.arr_notes.specs.Curves.{Curves}
use Rattle.curve_history.specs.Past.{Past, SameStrands, curves_on}
use Rattle.curve_history.proofs.Sides.{same_strands_curves}
use Rattle.arr_notes.specs.MapView.{MapView}
use Rattle.arr_notes.specs.RecordGraph.{drawn_graph}
use Rattle.observer_bus.specs.Rounds.{BusRow}
use Rattle.told_steps.specs.RecordLayers.{IsLayer, layer_of, IsRunOfSteps}
use Rattle.told_steps.proofs.ToldTogether.{told_runs_lawful}
use Rattle.told_steps.specs.SidedRuns.{IsSidedRun}
use Rattle.told_steps.specs.StrandRuns.{IsStrandRun, strand_graph, strand_steps}
use Rattle.told_steps.specs.ToldRuns.{IsToldRun}
use Rattle.told_steps.proofs.Layers.{steps_make_layers}
use Rattle.told_steps.proofs.Moved.{one_curves}
use Rattle.told_steps.proofs.StrandRuns.{strands_then}
use Rattle.zone_walk.specs.declared.plan.Meeting.{Meeting}
use Rattle.zone_walk.specs.Zone.{points_of_meetings}
use Rattle.segment_insert.specs.Coming.{steps_at}
use Rattle.segment_insert.specs.Insertion.{AreAllOn}
use Rattle.segment_insert.proofs.Halves.{AreTold}
use Rattle.segment_insert.proofs.Halves as halves
use Rattle.segment_insert.proofs.Layers.{one_sides}

-- marks that come, where there are these vertices
abbrev pub marks_then : View → Curves → List Mark → List Step
marks_then w d es = map (more_step (drawn_graph w d)) es

pub same_length : (ms ns : List Meeting) → points_of_meetings ns ≡ points_of_meetings ms → length ns ≡ length ms
same_length ms ns e = sym (length-map ns (λ (m : Meeting). m.point)) ∙ ap length e ∙ length-map ms (λ (m : Meeting). m.point)

pub one_name : (old : List ℕ) (c n : ℕ) → c ≡ n → old ++ (n ∷ []) ≡ old ++ (c ∷ [])
one_name old c n e = ap (λ k. old ++ (k ∷ [])) (sym e)

-- the steps for the meetings of a list are those for an equal one, by a history of the same sides of curves
pub told_of_plan : (v : MapView) (past mid : Past) (old : BusRow) (w : MapView) (d : Past) (now : BusRow) {ms ns : List Meeting} → SameStrands past mid → ms ≡ ns →
    IsSidedRun v mid old (steps_at v.graph (curves_on mid) (points_of_meetings ms)) w d now → IsSidedRun v past old (steps_at v.graph (curves_on past) (points_of_meetings ns)) w d now
told_of_plan v past mid old w d now {ms} {ns} s e m =
    let curves = one_curves past mid (same_strands_curves past mid s) in
    record {
      told = subst (λ h. IsToldRun v h old (steps_at v.graph h (points_of_meetings ns)) w (curves_on d) now) curves (subst (λ os. IsToldRun v (curves_on mid) old (steps_at v.graph (curves_on mid) (points_of_meetings os)) w (curves_on d) now) e m.told);
      strands = m.strands ∙ (λ i. run (steps_at v.graph (curves i) (points_of_meetings (e i))) (drawn_graph v.graph (one_sides past mid s i)));
    }

-- records and history that are a layer, and meetings that tell a curve of these sides, which gets the next number: its marks are E of their points, and Z of them where its sides are told apart
pub record IsCurve (v : MapView) (past : Past) (ss : List Segment) (c : ℕ) (ms : List Meeting) (E Z : List Point → List Mark) : Type 0 where
  pub layer : IsLayer v.graph past
  pub sides : AreSides ss
  pub number : c ≡ past.next
  pub told : AreTold (layer_of v.graph past).present c ss (points_of_meetings ms) (E (points_of_meetings ms)) (Z (points_of_meetings ms))

-- the meetings are vertices now
pub record IsHalfMade (v : MapView) (past : Past) (ms : List Meeting) (old : BusRow) (w : MapView) (d : Past) (now : BusRow) (ns : List Meeting) : Type 0 where
  pub told : IsSidedRun v past old (steps_at v.graph (curves_on past) (points_of_meetings ms)) w d now
  pub kept : points_of_meetings ns ≡ points_of_meetings ms

module _ {v : MapView} {past : Past} {ss : List Segment} {c : ℕ} {ms : List Meeting} {E Z : List Point → List Mark} (curve : IsCurve v past ss c ms E Z) where
  abbrev l : Layer
  l = layer_of v.graph past

  abbrev p : Present
  p = l.present

  abbrev ps : List Point
  ps = points_of_meetings ms

  accepted_by : IsAcceptedBy (Insert c ss) l
  accepted_by = (curve.number, curve.sides)

  accepted : IsAccepted (Insert c ss) p
  accepted = layers_lawful.accepted (Insert c ss) l curve.layer.lawful accepted_by

  -- ---- by curves that are the history's
  module _ (b : Curves) (same : b ≡ curves_on past) where
    pub sound_first : AreSound (steps_at v.graph b ps) (drawn_graph v.graph b)
    sound_first = subst (λ z. AreSound (steps_at v.graph z ps) (drawn_graph v.graph z)) (sym same) (halves.first_sound v.graph (curves_on past) curve.layer.sound curve.layer.curves p c ss ps (E ps) (Z ps) curve.layer.stands curve.layer.lawful.fit accepted curve.told)

  module _ {old : BusRow} {w : MapView} {d : Past} {now : BusRow} {ns : List Meeting} (half : IsHalfMade v past ms old w d now ns) where
    abbrev first : List Step
    first = steps_at v.graph (curves_on past) ps

    made_here : IsRunOfSteps v.graph (curves_on past) first w.graph (curves_on d)
    made_here = told_runs_lawful.steps v (curves_on past) old first w (curves_on d) now half.told.told

    pub all_on : (g : Segment) → Member g ss → AreAllOn w.graph g (points_of_meetings ns)
    all_on g i = subst (AreAllOn w.graph g) (sym half.kept) (halves.all_on v.graph (curves_on past) curve.layer.sound curve.layer.curves p c ss ps (E ps) (Z ps) curve.layer.stands curve.layer.lawful.fit accepted curve.told w.graph (curves_on d) made_here g i)

    pub plane_then : AreSound (marks_then w.graph (curves_on d) (E (points_of_meetings ns))) (drawn_graph w.graph (curves_on d))
    plane_then = subst (λ z. AreSound (marks_then w.graph (curves_on d) (E z)) (drawn_graph w.graph (curves_on d))) (sym half.kept) (halves.last_sound v.graph (curves_on past) curve.layer.sound curve.layer.curves p c ss ps (E ps) (Z ps) curve.layer.stands curve.layer.lawful.fit accepted curve.told w.graph (curves_on d) made_here)

    module _ (x : MapView) (q : Past) (new : BusRow) (then : IsToldRun w (curves_on d) now (marks_then w.graph (curves_on d) (E (points_of_meetings ns))) x (curves_on q) new) where
      pub all_told : IsToldRun v (curves_on past) old (steps (Insert c ss) p) x (curves_on q) new
      all_told =
          halves.told_whole v.graph (curves_on past) curve.layer.sound curve.layer.curves p c ss ps (E ps) (Z ps) curve.layer.stands curve.layer.lawful.fit accepted curve.told w.graph (curves_on d) made_here v w x old now new (curves_on q) half.told.told
          (subst (λ z. IsToldRun w (curves_on d) now (marks_then w.graph (curves_on d) (E z)) x (curves_on q) new) half.kept then)

      -- the sides of curves told apart
      module _ (sides : IsStrandRun w.graph d (map hold_step (Z (points_of_meetings ns))) x.graph q) where
        all_apart : IsStrandRun v.graph past (strand_steps (Insert c ss) p) x.graph q
        all_apart =
            strands_then v.graph past first (map hold_step (Z ps)) w.graph d x.graph q half.told.strands (subst (λ z. IsStrandRun w.graph d (map hold_step (Z z)) x.graph q) half.kept sides)
            ∙ ap (λ zs. run zs (strand_graph v.graph past)) (sym (halves.sides_held v.graph (curves_on past) curve.layer.sound curve.layer.curves p c ss ps (E ps) (Z ps) curve.layer.stands curve.layer.lawful.fit accepted curve.told))

        pub layer_made : q.pieces ≡ past.pieces ++ path_pieces c ss → q.names ≡ past.names ++ (c ∷ []) → q.next ≡ past.next + 1 → IsLayer x.graph q × (layer_of x.graph q ≡ layer_after (Insert c ss) l)
        unfolding after
        layer_made pieces names next = steps_make_layers (Insert c ss) v.graph past x.graph q curve.layer accepted_by (told_runs_lawful.steps v (curves_on past) old (steps (Insert c ss) p) x (curves_on q) new all_told) all_apart pieces names next
