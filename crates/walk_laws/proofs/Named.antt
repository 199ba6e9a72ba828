-- Where a walk up from the unbounded face ends, by names.
use Rattle.std.proofs.Common.{◌≡◌, ◌<◌, Bool, true, false, refl, sym, ap, ◌∙◌, ◌⊎◌, inl, inr, subst}
use Rattle.std.specs.Prelude.{Option, Some, None}
use Rattle.std.specs.List.{Contains}
use Rattle.std.proofs.lemmas.Bool.{false≢true, false_from_ne_true}
use Rattle.exact_plane.specs.Point.{Point}
use Rattle.plane_graphs.specs.Graph.{Edge}
use Rattle.plane_graphs.specs.Line.{IsProper}
use Rattle.slab_laws.specs.declared.names.DartId.{DartId}
use Rattle.slab_laws.specs.Cycles.{left_of_dart}
use Rattle.slab_laws.specs.Darts.{Dart, ahead, back, source, target}
use Rattle.slab_laws.specs.FacesSound.{IsSound}
use Rattle.slab_laws.specs.Meets.{SameFace, here}
use Rattle.slab_laws.specs.Skeleton.{inside}
use Rattle.slab_laws.specs.Slabs.{left_cell, right_below, right_bottom}
use Rattle.slab_laws.specs.Sound.{skeleton_of, edge_in, dart_in}
use Rattle.slab_laws.specs.View.{View, Faces, HasDart, HasBareFace, IsOutOf, point_in, source_in, target_in, twin_in, cycle_in, face_in}
use Rattle.slab_faces.proofs.PlaneGraphs.{one_point}
use Rattle.slab_faces.proofs.Turns.{face_trans, face_sym}
use Rattle.sound_changes.proofs.KnownNames.{point_known, known_point, known_edge}
use Rattle.sound_views.proofs.NamedDarts.{names_are_darts, edge_known}
use Rattle.face_changes.specs.FacesByPairs.{Item, outside, beside, round, HasItem, cell_at, name_at}
use Rattle.face_changes.proofs.FacesByPairs.{told_by_pairs}
use Rattle.face_changes.proofs.LinkedCycles.{dart_there}
use Rattle.dcel_records.specs.declared.spot.Spot.TheVariants.{Face}
use Rattle.dcel_records.specs.Spots.{IsInFace}
use Rattle.edge_predicates.specs.FaceLaws.{cell_over}
use Rattle.edge_predicates.specs.Levels.{IsSeen, level}
use Rattle.edge_predicates.proofs.FaceBelow.{face_is_over_highest}
use Rattle.edge_predicates.proofs.Levels.{levels_tell_highest}
use Rattle.face_location.specs.Below.{IsSeenOrNone, edge_along}
use Rattle.face_location.specs.Spots.{IsSpotOf}
use Rattle.face_location.proofs.PointFaces.{apart}
use Rattle.face_location.proofs.SeenDarts.{seen_at_most}
use Rattle.walk_laws.specs.Laws.{WalkEndsInFace, HighestTellsFace}
use Rattle.walk_laws.specs.Walks.{face_above, height, IsBoundaryPassed}
use Rattle.walk_laws.proofs.Arrive.{IsSamePlace, IsAtEdge, at_low, at_high, within, IsMet, along, alone, met_within, met_vertex}
use Rattle.walk_laws.proofs.Stack.{IsNoneAhead, complete, at_bottom, in_level}

-- an end of a dart is an end of its edge
ends : (y : Edge) (b : Bool) (q : Point) → source (record { edge = y; forward = b }) ≡ q → (y.low ≡ q) ⊎ (y.high ≡ q)
ends y true q e = inl e
ends y false q e = inr e

-- ---- what is over the edge that was passed last
pub item_over : Option DartId → Item
item_over None = outside
item_over (Some d) = beside d

pub item_there : (v : View) (q : Point) (o : Option DartId) → IsSeenOrNone v q o → HasItem v (item_over o)
unfolding item_over
item_there v q None p = tt
item_there v q (Some d) p = p.0.0

pub item_name : (f : Faces) (o : Option DartId) → name_at f (item_over o) ≡ face_above f o
unfolding item_over
item_name f None = refl
item_name f (Some d) = refl

item_cell : (v : View) (q : Point) (o : Option DartId) → IsSeenOrNone v q o → SameFace (skeleton_of v) (cell_over (skeleton_of v) (edge_along v o)) (cell_at v (item_over o))
unfolding item_over
item_cell v q None p = here _
item_cell v q (Some d) p =
    let up : dart_in v d ≡ ahead (edge_in v d) = λ i. record { edge = edge_in v d; forward = p.0.1 i } in
    subst (λ (x : Dart). SameFace (skeleton_of v) (left_of_dart (skeleton_of v) (ahead (edge_in v d))) (left_of_dart (skeleton_of v) x)) (sym up) (here _)

module _ (v : View) (f : Faces) (q : Point) (o : Option DartId) (s : IsSound v f) (Q : IsProper q) (p : IsSeenOrNone v q o) where
  -- what is in the face over the edge has its name
  named_so : (i : Item) → HasItem v i → SameFace (skeleton_of v) (cell_over (skeleton_of v) (edge_along v o)) (cell_at v i) → name_at f i ≡ face_above f o
  named_so i has m =
      ((told_by_pairs v f s).same i (item_over o) has (item_there v q o p)).1 (face_trans (skeleton_of v) _ _ _ (face_sym (skeleton_of v) _ _ m) (item_cell v q o p)) ∙ item_name f o

  -- the dart from the upper to the lower end of an edge, where the face is on its left
  record IsBack (h : Edge) : Type 0 where
    dart : DartId
    has : HasDart v dart
    is : dart_in v dart ≡ back h
    face : face_in f (cycle_in f dart) ≡ face_above f o

  backward : (h : Edge) → Contains (skeleton_of v).edges h → SameFace (skeleton_of v) (cell_over (skeleton_of v) (edge_along v o)) (left_of_dart (skeleton_of v) (back h)) → IsBack h
  backward h H m =
      let d = names_are_darts.there v (back h) s.graph (dart_there (skeleton_of v) (back h) H) in
      record {
        dart = d.0;
        has = d.1;
        is = d.2;
        face = named_so (beside d.0) d.1 (subst (λ (x : Dart). SameFace (skeleton_of v) (cell_over (skeleton_of v) (edge_along v o)) (left_of_dart (skeleton_of v) x)) (sym d.2) m);
      }

  -- ---- where all is passed, there is nothing at the point
  module _ (all : IsBoundaryPassed v f q o (face_above f o)) where
    none_ahead : IsNoneAhead (skeleton_of v) q (edge_along v o)
    none_ahead h H m =
        let d = backward h H.in' m in
        let e : edge_in v d.dart ≡ h = ap (λ (x : Dart). x.edge) d.is in
        subst (λ (x : Edge). IsSeen (skeleton_of v) q x → level (skeleton_of v) q x < height v q o) e (all.darts d.dart d.has d.face).no_higher H

    ended : height v q o ≡ right_below (skeleton_of v) q
    ended = complete (skeleton_of v) q s.graph.plane Q.positive (edge_along v o) (seen_at_most v q o p) none_ahead

    bottom : SameFace (skeleton_of v) (cell_over (skeleton_of v) (edge_along v o)) (right_bottom (skeleton_of v) q)
    bottom = at_bottom (skeleton_of v) q s.graph.plane Q.positive (edge_along v o) (seen_at_most v q o p) ended

    not_met : IsMet (skeleton_of v) q → ⊥
    not_met (along h H x m) =
        let d = backward h H (face_trans (skeleton_of v) _ _ _ bottom m) in
        let e : edge_in v d.dart ≡ h = ap (λ (x : Dart). x.edge) d.is in
        let t = all.darts d.dart d.has d.face in
        let S = s.graph.linked.source d.dart d.has in
        let W = s.graph.linked.source (twin_in v d.dart) (s.graph.twinned.has d.dart d.has) in
        let u : point_in v (source_in v d.dart) ≡ h.high = sym (names_are_darts.source v d.dart s.graph d.has) ∙ ap source d.is in
        let w : point_in v (target_in v d.dart) ≡ h.low = sym (names_are_darts.target v d.dart s.graph d.has) ∙ ap target d.is in
        by x
        (λ z. t.off_target (w ∙ one_point h.low q (subst IsProper w (s.graph.drawn.proper _ W)) Q z.not_before z.not_after))
        (λ z. t.off_source (u ∙ one_point h.high q (subst IsProper u (s.graph.drawn.proper _ S)) Q z.not_before z.not_after))
        (λ z. false≢true (sym t.off_edge ∙ subst (λ y. inside y q ≡ true) (sym e) z))
      where
        by : {h : Edge} → IsAtEdge h q → (IsSamePlace h.low q → ⊥) → (IsSamePlace h.high q → ⊥) → (inside h q ≡ true → ⊥) → ⊥
        by (at_low z) a b c = a z
        by (at_high z) a b c = b z
        by (within z) a b c = c z
    not_met (alone V none m) =
        let w = known_point v s.graph.named q V in
        let no_dart : (d : DartId) → ¬ IsOutOf v w.0 d = λ d O. none (edge_in v d) (edge_known v d O.0) (ends (edge_in v d) (dart_in v d).forward q (names_are_darts.source v d s.graph O.0 ∙ ap (point_in v) O.1 ∙ sym w.2)) in
        let B : HasBareFace f w.0 = (s.complete.bare w.0 w.1).1 no_dart in
        all.bare w.0 B
        (named_so (round w.0) (w.1, no_dart) (subst (λ (z : Point). SameFace (skeleton_of v) (cell_over (skeleton_of v) (edge_along v o)) (left_cell (skeleton_of v) z)) w.2 (face_trans (skeleton_of v) _ _ _ bottom m)))
        (sym w.2)

    nothing_there : IsInFace v q
    nothing_there = record {
      no_vertex = λ w W e. not_met (met_vertex (skeleton_of v) q s.graph.plane Q.positive (subst (Contains (skeleton_of v).vertices) e (point_known v s.graph.named w W)));
      no_edge = λ d D. false_from_ne_true _ (λ i. not_met (met_within (skeleton_of v) q s.graph.plane Q.positive (edge_in v d) (edge_known v d D) i));
    }

    below_all : (e : Edge) → IsSeen (skeleton_of v) q e → level (skeleton_of v) q e < height v q o
    below_all e S = subst (λ n. level (skeleton_of v) q e < n) (sym ended) (in_level (skeleton_of v) q s.graph.plane Q.positive e S)

  -- ---- off all vertices and edges, over the highest
  pub over_highest : IsInFace v q → ((e : Edge) → IsSeen (skeleton_of v) q e → level (skeleton_of v) q e < height v q o) → IsSpotOf v f q (Face (face_above f o))
  over_highest spot most =
      let high = levels_tell_highest.highest (skeleton_of v) q (edge_along v o) s.graph.plane Q.positive (seen_at_most v q o p) most in
      let there = face_is_over_highest (skeleton_of v) q (edge_along v o) s.graph.plane Q.positive (apart v f q s.graph Q spot) high in
      record {
        met = spot;
        face = (item_over o, item_there v q o p, item_name f o, face_trans (skeleton_of v) _ _ _ (face_sym (skeleton_of v) _ _ (item_cell v q o p)) there);
      }

pub walk_ends_in_face : WalkEndsInFace
walk_ends_in_face v f q o s Q p all = over_highest v f q o s Q p (nothing_there v f q o s Q p all) (below_all v f q o s Q p all)

pub highest_tells_face : HighestTellsFace
highest_tells_face v f q o s Q p spot most =
    over_highest v f q o s Q p spot (λ e S.
    let d = known_edge v e S.in' in
    subst (λ (x : Edge). level (skeleton_of v) q x < height v q o) (sym d.2) (most d.0 d.1 (subst (IsSeen (skeleton_of v) q) d.2 S)))
