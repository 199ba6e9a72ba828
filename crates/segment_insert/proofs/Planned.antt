-- What the plan of a segment's insertion gives to each of its parts.
use Rattle.std.proofs.Common.{◌≡◌, ℕ, ◌+◌, ◌*◌, ◌≤◌, List, [], ◌∷◌, ◌++◌, true, length, Contains, is_lt, refl, sym, ap, ◌∙◌, subst, ⊎_elim, arith}
use Rattle.std.proofs.lemmas.List.{length-map}
use Rattle.exact_plane.specs.Point.{Point}
use Rattle.exact_plane.specs.PointOrder.{point_cmp}
use Rattle.exact_plane.specs.Segment.{Segment, AreEnds}
use Rattle.plane_graphs.specs.Ascending.{Member, IsAscending}
use Rattle.plane_graphs.specs.Fit.{IsFit}
use Rattle.plane_graphs.specs.Graph.{chain}
use Rattle.plane_graphs.specs.Line.{precedes}
use Rattle.plane_graphs.specs.Piece.{Piece}
use Rattle.plane_graphs.specs.Strands.{strand}
use Rattle.plane_graphs.proofs.Ascending.{to_member}
use Rattle.plane_graphs.proofs.Lists.{in_map}
use Rattle.edit_steps.specs.Edits.{Insert, after, whole_piece, AreSides, IsSide}
use Rattle.edit_steps.specs.Steps.{with_piece}
use Rattle.edit_steps.proofs.Laws.{keeps_fit}
use Rattle.edit_steps.proofs.Layers.{layers_lawful}
use Rattle.slab_laws.specs.View.{View, Faces}
use Rattle.dcel_records.specs.declared.spot.Spot.{Spot}
use Rattle.curve_history.specs.Past.{Past, curves_on}
use Rattle.arr_notes.specs.MapView.{MapView}
use Rattle.told_steps.specs.RecordLayers.{IsLayer, layer_of}
use Rattle.zone_walk.specs.declared.plan.Meeting.{Meeting}
use Rattle.zone_walk.specs.declared.plan.ZonePlan.{ZonePlan}
use Rattle.zone_walk.specs.Zone.{IsZoneOf, AreSpotsBetween, is_on_segment, meeting_points, splits_needed, points_of_meetings}
use Rattle.segment_insert.specs.Insertion.{AreMeetings}
use Rattle.segment_insert.proofs.CurvePlanned.{same_length, IsCurve}
use Rattle.segment_insert.proofs.Halves.{AreTold}
use Rattle.segment_insert.proofs.Passing.{points_ascend}
use Rattle.segment_insert.proofs.Whole.{on_segment, segment_told}

-- there is one more point than open parts
parts_fewer : (v : View) (f : Faces) (s : Segment) (ps : List Point) (parts : List Spot) → AreSpotsBetween v f s ps parts → length ps ≡ length parts + 1
parts_fewer v f s [] parts b = absurd b
parts_fewer v f s (p ∷ []) [] b = omega arith
parts_fewer v f s (p ∷ []) (x ∷ parts) b = absurd b
parts_fewer v f s (p ∷ q ∷ ps) [] b = absurd b
parts_fewer v f s (p ∷ q ∷ ps) (x ∷ parts) b = let k = parts_fewer v f s (q ∷ ps) parts b.1 in omega arith

-- the pieces of a history with one more
pub one_piece : (old ps : List Piece) (c : ℕ) (g : Segment) (a b : Point) → ps ≡ old → a ≡ g.lower → b ≡ g.upper → ps ++ (record { curve = c; side = 1; segment = g; from = a; to = b } ∷ []) ≡ old ++ (whole_piece c 1 g ∷ [])
one_piece old ps c g a b q e f = λ i. q i ++ (record { curve = c; side = 1; segment = g; from = e i; to = f i } ∷ [])

-- a segment with whole ends is a side
pub is_side : (g : Segment) → AreEnds g → IsSide g
is_side g ends = record {
  lower = ap (λ z. z.lower.w) ends.whole;
  upper = ap (λ z. z.upper.w) ends.whole;
  forward = (λ i. precedes (ends.whole i).lower (ends.whole i).upper) ∙ ap is_lt ends.is.ascending;
}

one_side : (g : Segment) → AreEnds g → AreSides (g ∷ [])
one_side g ends = record {
  each = λ s m. ⊎_elim (λ e. subst IsSide (sym e) (is_side g ends)) (λ z. absurd z) m;
  some = let e : length (g ∷ []) ≡ 1 = refl in omega arith;
  few = let e : length (g ∷ []) ≡ 1 = refl in omega arith;
}

-- records and history that are a layer, and the plan of a segment that gets the next number
pub record IsPlanned (v : MapView) (past : Past) (g : Segment) (plan : ZonePlan) (c : ℕ) : Type 0 where
  pub layer : IsLayer v.graph past
  pub ends : AreEnds g
  pub zone : IsZoneOf v.graph v.faces g plan
  pub number : c ≡ past.next

module _ {v : MapView} {past : Past} {g : Segment} {plan : ZonePlan} {c : ℕ} (planned : IsPlanned v past g plan c) where
  abbrev ms : List Meeting
  ms = plan.vertices

  fit : IsFit (with_piece (layer_of v.graph past).present (whole_piece c 1 g))
  unfolding after
  fit =
      let l = layer_of v.graph past in
      keeps_fit (Insert c (g ∷ [])) l.present planned.layer.lawful.fit (layers_lawful.accepted (Insert c (g ∷ [])) l planned.layer.lawful (planned.number, one_side g planned.ends))

  pub curve : IsCurve v past (g ∷ []) c ms (chain c) (chain (strand c 1))
  curve = record {
    layer = planned.layer;
    sides = one_side g planned.ends;
    number = planned.number;
    told = subst (λ z. AreTold (layer_of v.graph past).present c (g ∷ []) z (chain c z) (chain (strand c 1) z)) (sym planned.zone.points)
        (segment_told v.graph (curves_on past) planned.layer.sound planned.layer.curves (layer_of v.graph past).present g c planned.layer.stands fit);
  }

  pub meetings : AreMeetings v.graph v.faces ms
  meetings = record {
    ascend = subst (IsAscending point_cmp) (sym planned.zone.points) (points_ascend v.graph (curves_on past) planned.layer.sound planned.layer.curves (layer_of v.graph past).present g c 1 planned.layer.stands fit);
    spots = planned.zone.spots;
  }

  pub each_on : (ns : List Meeting) → points_of_meetings ns ≡ points_of_meetings ms → (m : Meeting) → Contains ns m → is_on_segment g m.point ≡ true
  each_on ns kept m k =
      on_segment v.graph (curves_on past) planned.layer.sound planned.layer.curves (layer_of v.graph past).present g c planned.layer.stands fit m.point
      (subst (Member m.point) (kept ∙ planned.zone.points) (in_map (λ m. m.point) m ns (to_member ns m k)))

  one_more : length ms ≡ length plan.between + 1
  one_more = sym (length-map ms (λ (m : Meeting). m.point)) ∙ ap length planned.zone.points ∙ parts_fewer v.graph v.faces g (meeting_points v.graph g) plan.between planned.zone.between

  -- there are two darts for each open part
  pub room_left : (ns : List Meeting) (before left : ℕ) → points_of_meetings ns ≡ points_of_meetings ms → 2 * plan.room.edges ≤ before → before ≤ left + 2 * splits_needed ms → 2 * length ns ≤ left + 2
  room_left ns before left e fits uses =
      let a = same_length ms ns e in
      let b = one_more in
      let d = planned.zone.edges in
      omega arith

  -- there is a cycle for each open part, and a face
  pub one_for_each : (ns : List Meeting) (room before left : ℕ) → points_of_meetings ns ≡ points_of_meetings ms → room ≡ length plan.between → room ≤ before → left ≡ before + 0 → length ns ≤ left + 1
  one_for_each ns room before left e many fits same =
      let a = same_length ms ns e in
      let b = one_more in
      omega arith

  pub pairs_left : (ns : List Meeting) (before left parted : ℕ) → points_of_meetings ns ≡ points_of_meetings ms → length ms + parted ≤ before → before ≤ left + parted → length ns ≤ left
  pairs_left ns before left parted e fits uses = let a = same_length ms ns e in omega arith
