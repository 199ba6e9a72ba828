-- What holds while meetings become vertices, one after the other.
use Rattle.std.proofs.Common.{arith, ◌≡◌, cond, not, ℕ, ◌+◌, ◌*◌, ◌<◌, ◌≤◌, add-one, get_or, take, drop, set, List, [], ◌∷◌, ◌++◌, length, refl, sym, ap, ap₂, ◌∙◌, subst, inl, inr, Less, is_lt}
use Rattle.std.proofs.Math.Seq.{drop-cons, map-set_same}
use Rattle.std.proofs.lemmas.Grind.{take-set_at}
use Rattle.std.proofs.lemmas.List.{length-map, drop-set-lt, drop_all, take_all}
use Rattle.std.proofs.lemmas.List.Sums.{sum_by-cons}
use Rattle.exact_plane.specs.Point.{Point}
use Rattle.exact_plane.specs.PointOrder.{point_cmp}
use Rattle.plane_graphs.specs.Ascending.{Member, IsAscending}
use Rattle.plane_graphs.specs.Line.{IsProper}
use Rattle.plane_graphs.proofs.Ascending.{All-member, to_member, from_member}
use Rattle.plane_graphs.proofs.Lists.{in_map, in_either}
use Rattle.edit_steps.specs.Allowed.{AreSound}
use Rattle.slab_laws.specs.declared.names.VertexId.{VertexId}
use Rattle.slab_laws.specs.Sound.{IsGraphSound}
use Rattle.slab_laws.specs.View.{View}
use Rattle.arr_notes.specs.Curves.{Curves, AreCurvesOf}
use Rattle.curve_history.specs.Past.{Past, curves_on, strands_on}
use Rattle.dcel_records.specs.declared.spot.Met.{Met}
use Rattle.dcel_records.specs.declared.spot.Met.TheVariants.{Vertex, Edge, Nothing}
use Rattle.dcel_records.specs.Spots.{IsMet, met_of}
use Rattle.face_location.specs.Spots.{IsFaceNamed}
use Rattle.dcel_records.specs.declared.spot.Spot.TheVariants as spot
use Rattle.arr_notes.specs.MapView.{MapView}
use Rattle.arr_notes.specs.RecordGraph.{drawn_graph}
use Rattle.observer_bus.specs.Rounds.{BusRow}
use Rattle.told_steps.specs.SidedRuns.{IsSidedRun}
use Rattle.told_steps.proofs.SidedRuns.{none_sided, sided_as, sided_then}
use Rattle.told_steps.proofs.ToldTogether.{told_runs_lawful}
use Rattle.told_steps.specs.ToldRuns.{AreInStep}
use Rattle.zone_walk.specs.Zone.{is_vertex, is_edge, vertices_needed, splits_needed, points_of_meetings}
use Rattle.zone_walk.specs.declared.plan.Meeting.{Meeting}
use Rattle.segment_insert.specs.Coming.{steps_at, IsMetStill, IsMadeAt}
use Rattle.segment_insert.specs.Coming.LeadsTo.{here}
use Rattle.told_steps.specs.VertexMade.{pairs_at}
use Rattle.segment_insert.specs.Insertion.{AreMeetings, IsNamedVertex, AreVertices, pairs_to_part}
use Rattle.segment_insert.proofs.VerticesFound.{face_new, edge_new}
use Rattle.segment_insert.proofs.VerticesTurns.{IsTurn, turn, none_left, first_sound, missing_in, proper_by_steps}
use Rattle.segment_insert.proofs.VerticesWalk.{leads_forward, leads_inside}

-- the meetings that are still to come
pub record IsComing (v : MapView) (h : Past) (ms : List Meeting) : Type 0 where
  pub sound : IsGraphSound v.graph
  pub curves : AreCurvesOf v.graph (curves_on h)
  pub ascend : IsAscending point_cmp (points_of_meetings ms)
  pub met : (m : Meeting) → Member m ms → IsMetStill v.graph (strands_on h) m.point (met_of m.spot)
  pub faces : (m : Meeting) → Member m ms → IsFaceNamed v.graph v.faces m.point m.spot
  pub plane : AreSound (steps_at v.graph (curves_on h) (points_of_meetings ms)) (drawn_graph v.graph (curves_on h))

-- a spot that is right says where the point lies
met_still : (v : View) (h : Curves) (p : Point) (s : Met) → IsMet v p s → IsMetStill v h p s
met_still v h p (Vertex w) k = k
met_still v h p (Edge d) k = (d, here k, refl)
met_still v h p Nothing k = k

-- all are to come before the first
all_coming : (v : MapView) (h : Past) (ms : List Meeting) → IsGraphSound v.graph → AreCurvesOf v.graph (curves_on h) → AreMeetings v.graph v.faces ms → AreSound (steps_at v.graph (curves_on h) (points_of_meetings ms)) (drawn_graph v.graph (curves_on h)) → IsComing v h ms
all_coming v h ms s a k y = record {
  sound = s;
  curves = a;
  ascend = k.ascend;
  met = λ m n. met_still v.graph (strands_on h) m.point (met_of m.spot) (k.spots m (from_member ms m n)).met;
  faces = λ m n. (k.spots m (from_member ms m n)).face;
  plane = y;
}

-- a point with a spot is a point of the plane: it is a vertex, or its step is sound
pub proper_by_met : (v : View) (h : Past) (ps : List Point) (p : Point) (s : Met) → IsGraphSound v → AreSound (steps_at v (curves_on h) ps) (drawn_graph v (curves_on h)) → Member p ps → IsMetStill v (strands_on h) p s → IsProper p
proper_by_met v h ps p (Vertex w) s y m k = subst IsProper k.1 (s.drawn.proper w k.0)
proper_by_met v h ps p (Edge d) s y m k =
    let i = leads_inside v p k.0 d k.1 in
    proper_by_steps p _ (drawn_graph v (curves_on h)) y (missing_in p ps (drawn_graph v (curves_on h)).points m (edge_new v (curves_on h) s p k.0 i.0.0 i.1))
proper_by_met v h ps p Nothing s y m k = proper_by_steps p _ (drawn_graph v (curves_on h)) y (missing_in p ps (drawn_graph v (curves_on h)).points m (face_new v (curves_on h) s p k))

-- ---- the next one
module _ (v : MapView) (h : Past) (m : Meeting) (ms : List Meeting) (c : IsComing v h (m ∷ ms)) where
  pub next_met : IsMetStill v.graph (strands_on h) m.point (met_of m.spot)
  next_met = c.met m (inl refl)

  pub next_face : IsFaceNamed v.graph v.faces m.point m.spot
  next_face = c.faces m (inl refl)

  pub next_sound : AreSound (steps_at v.graph (curves_on h) (m.point ∷ [])) (drawn_graph v.graph (curves_on h))
  next_sound = first_sound v.graph (curves_on h) c.sound c.curves m.point (points_of_meetings ms) c.ascend.0 c.plane

  module _ {b : BusRow} (w : MapView) (k : Past) {d : BusRow} (x : VertexId) (y : IsMadeAt v h b w k d m x) where
    after : IsTurn v.graph (curves_on h) m.point (points_of_meetings ms) w.graph (curves_on k)
    after =
        turn v.graph (curves_on h) c.sound c.curves m.point (points_of_meetings ms) c.ascend.0 w.graph (curves_on k)
        (told_runs_lawful.steps v (curves_on h) b (steps_at v.graph (curves_on h) (m.point ∷ [])) w (curves_on k) d y.told.told)

    among : (n : Meeting) → Member n ms → Member n.point (points_of_meetings ms)
    among n i = in_map (λ o. o.point) n ms i

    proper : (n : Meeting) → Member n ms → IsProper n.point
    proper n i = proper_by_met v.graph h (points_of_meetings (m ∷ ms)) n.point (met_of n.spot) c.sound c.plane (inr (among n i)) (c.met n (inr i))

    met_after : (n : Meeting) → Member n ms → IsMetStill w.graph (strands_on k) n.point (met_of n.spot)
    met_after n i =
        let l : point_cmp m.point n.point ≡ Less = All-member (λ q. point_cmp m.point q ≡ Less) n.point (points_of_meetings ms) c.ascend.0 (among n i) in
        y.later n.point (met_of n.spot) (proper n i) (ap is_lt l) (c.met n (inr i))

    pub rest_coming : IsComing w k ms
    rest_coming = record {
      sound = after.sound;
      curves = after.curves;
      ascend = c.ascend.1;
      met = met_after;
      faces = λ n i. y.faces n.point n.spot (proper n i) (c.faces n (inr i));
      plane = after.plane c.plane;
    }

    rest_told : (u : MapView) (l : Past) (e : BusRow) → IsSidedRun w k d (steps_at w.graph (curves_on k) (points_of_meetings ms)) u l e → IsSidedRun v h b (steps_at v.graph (curves_on h) (points_of_meetings (m ∷ ms))) u l e
    rest_told u l e z =
        let ss = steps_at v.graph (curves_on h) (m.point ∷ []) in
        let ts = steps_at w.graph (curves_on k) (points_of_meetings ms) in
        sided_as v h b (ss ++ ts) (steps_at v.graph (curves_on h) (points_of_meetings (m ∷ ms))) u l e (sided_then v h b ss ts w k d y.told u l e z) (sym after.steps)

    pairs_still : (s : Met) (p : Point) → IsMetStill v.graph (strands_on h) p s → pairs_at (strands_on k) s ≡ pairs_at (strands_on h) s
    pairs_still (Vertex u) p z = refl
    pairs_still (Edge d) p z = ap length (y.sides d (leads_forward v.graph p z.0 d z.1).0)
    pairs_still Nothing p z = refl

    same_pairs : (ns : List Meeting) → ((n : Meeting) → Member n ns → IsMetStill v.graph (strands_on h) n.point (met_of n.spot)) → pairs_to_part (strands_on k) ns ≡ pairs_to_part (strands_on h) ns
    same_pairs [] f = refl
    same_pairs (n ∷ ns) f = ap₂ (λ a b. a + b) (pairs_still (met_of n.spot) n.point (f n (inl refl))) (same_pairs ns (λ o i. f o (inr i)))

    pub rest_pairs : pairs_to_part (strands_on k) ms ≡ pairs_to_part (strands_on h) ms
    rest_pairs = same_pairs ms (λ n i. c.met n (inr i))

-- ---- those that have come
pub record AreNamed (v : View) (ms : List Meeting) : Type 0 where
  pub each : (m : Meeting) → Member m ms → IsNamedVertex v m

-- the meeting is told its vertex
abbrev pub told_at : Meeting → VertexId → Meeting
told_at m x = record { point = m.point; spot = spot.Vertex x }

named_more : {v : MapView} {h : Past} {b : BusRow} (w : MapView) {k : Past} {c : BusRow} (m : Meeting) (x : VertexId) (ms : List Meeting) → AreNamed v.graph ms → IsMadeAt v h b w k c m x → AreNamed w.graph (ms ++ told_at m x ∷ [])
named_more w m x ms a y = record {
  each = λ n i. elim (in_either n ms (told_at m x ∷ []) i) [
    | inl o ↦ let r = a.each n o in let z = y.vertices r.0 r.2 in (r.0, r.1, z.0, z.1 ∙ r.3)
    | inr o ↦ elim o [
      | inl e ↦ subst (IsNamedVertex w.graph) (sym e) (x, refl, y.has, y.point)
      | inr b ↦ absurd b
    ]
  ];
}

-- ---- what the first of some meetings needs
pub vertices_first : (m : Meeting) (ms : List Meeting) → vertices_needed (m ∷ ms) ≡ vertices_needed (m ∷ []) + vertices_needed ms
vertices_first m ms =
    let f : Meeting → ℕ = λ n. cond (not (is_vertex (met_of n.spot))) 1 0 in
    omega (arith, sum_by-cons f m ms, sum_by-cons f m [])

pub darts_first : (m : Meeting) (ms : List Meeting) → 2 * splits_needed (m ∷ ms) ≡ 2 * splits_needed (m ∷ []) + 2 * splits_needed ms
darts_first m ms =
    let f : Meeting → ℕ = λ n. cond (is_edge (met_of n.spot)) 1 0 in
    omega (arith, sum_by-cons f m ms, sum_by-cons f m [])

-- ---- a list and its next element
tail_of : {X : Type 0} → List X → List X
tail_of [] = []
tail_of (x ∷ xs) = xs

module _ {X : Type 0} where
  pub first_left : (xs : List X) (i : ℕ) (x : X) → i < length xs → x ≡ get_or xs i x → drop i xs ≡ x ∷ drop (i + 1) xs
  first_left xs i x l e = drop-cons xs i x l ∙ ap₂ (λ y n. y ∷ drop n xs) (sym e) (sym (add-one i))

  left_after : (xs ys : List X) (i : ℕ) (x : X) → i < length xs → i < length ys → drop i xs ≡ drop i ys → drop (i + 1) xs ≡ drop (i + 1) ys
  unfolding tail_of
  left_after xs ys i x l k e =
      ap (λ n. drop n xs) (add-one i) ∙ ap tail_of (sym (drop-cons xs i x l) ∙ e ∙ drop-cons ys i x k) ∙ sym (ap (λ n. drop n ys) (add-one i))

-- ---- midway: the first i meetings are named vertices, the others are to come, and what is told of the records so far leaves the steps of these
pub record IsMidway (v : MapView) (h : Past) (b : BusRow) (ms : List Meeting) (w : MapView) (k : Past) (c : BusRow) (ns : List Meeting) (i : ℕ) : Type 0 where
  pub coming : IsComing w k (drop i ms)
  pub in_step : AreInStep w (curves_on k) c
  pub then_told : (u : MapView) (l : Past) (d : BusRow) → IsSidedRun w k c (steps_at w.graph (curves_on k) (points_of_meetings (drop i ms))) u l d → IsSidedRun v h b (steps_at v.graph (curves_on h) (points_of_meetings ms)) u l d
  pub points : points_of_meetings ns ≡ points_of_meetings ms
  pub rest : drop i ns ≡ drop i ms
  pub named : AreNamed w.graph (take i ns)

pub at_start : (v : MapView) (h : Past) {b : BusRow} (ms : List Meeting) → AreInStep v (curves_on h) b → AreMeetings v.graph v.faces ms → AreSound (steps_at v.graph (curves_on h) (points_of_meetings ms)) (drawn_graph v.graph (curves_on h)) → IsMidway v h b ms v h b ms 0
at_start v h ms t k y = record { coming = all_coming v h ms t.sound.graph t.curves k y; in_step = t; then_told = λ u l d y. y; points = refl; rest = refl; named = record { each = λ m i. absurd i } }

module _ {v : MapView} {h : Past} {b : BusRow} {ms : List Meeting} {w : MapView} {k : Past} {d : BusRow} {ns : List Meeting} {i : ℕ} (c : IsMidway v h b ms w k d ns i) where
  pub same_length : length ns ≡ length ms
  same_length = sym (length-map ns (λ m. m.point)) ∙ ap length c.points ∙ length-map ms (λ m. m.point)

  module _ (m : Meeting) (l : i < length ns) (e : m ≡ get_or ns i m) where
    -- the next one is the first of those to come
    pub next_first : drop i ms ≡ m ∷ drop (i + 1) ms
    next_first = sym c.rest ∙ first_left ns i m l e ∙ ap (λ ys. m ∷ ys) (left_after ns ms i m l (subst (λ n. i < n) same_length l) c.rest)

    now_coming : IsComing w k (m ∷ drop (i + 1) ms)
    now_coming = subst (IsComing w k) next_first c.coming

    pub spot_now : IsMetStill w.graph (strands_on k) m.point (met_of m.spot)
    spot_now = next_met w k m (drop (i + 1) ms) now_coming

    pub face_now : IsFaceNamed w.graph w.faces m.point m.spot
    face_now = next_face w k m (drop (i + 1) ms) now_coming

    pub sound_now : AreSound (steps_at w.graph (curves_on k) (m.point ∷ [])) (drawn_graph w.graph (curves_on k))
    sound_now = next_sound w k m (drop (i + 1) ms) now_coming

    pub proper_now : IsProper m.point
    proper_now = proper_by_met w.graph k (m.point ∷ []) m.point (met_of m.spot) c.coming.sound sound_now (inl refl) spot_now

    -- once it is a vertex, and is told so
    module _ (u : MapView) (q : Past) {f : BusRow} (x : VertexId) (y : IsMadeAt w k d u q f m x) where
      pub onwards : (o : Meeting) → o ≡ told_at m x → AreInStep u (curves_on q) f → IsMidway v h b ms u q f (set ns i o) (i + 1)
      onwards o same t = record {
        coming = rest_coming w k m (drop (i + 1) ms) now_coming u q x y;
        in_step = t;
        then_told = λ r j g z. c.then_told r j g (subst (λ ls. IsSidedRun w k d (steps_at w.graph (curves_on k) (points_of_meetings ls)) r j g) (sym next_first) (rest_told w k m (drop (i + 1) ms) now_coming u q x y r j g z));
        points = map-set_same (λ n. n.point) ns i o m (ap (λ n. n.point) same ∙ ap (λ n. n.point) e) ∙ c.points;
        rest = drop-set-lt (i + 1) ns i o (omega arith) ∙ left_after ns ms i m l (subst (λ n. i < n) same_length l) c.rest;
        named = subst (AreNamed u.graph) (sym (ap (λ z. take (i + 1) (set ns i z)) same ∙ take-set_at ns i (i + 1) (told_at m x) refl l)) (named_more u m x (take i ns) c.named y);
      }

      -- as many sides run along the others' edges
      pub same_pairs_left : pairs_to_part (strands_on q) (drop (i + 1) ms) ≡ pairs_to_part (strands_on k) (drop (i + 1) ms)
      same_pairs_left = rest_pairs w k m (drop (i + 1) ms) now_coming u q x y

  module _ (done : length ns ≤ i) where
    nothing_left : drop i ms ≡ []
    nothing_left = drop_all i ms (subst (λ n. n ≤ i) same_length done)

    -- at the end all steps are told
    pub all_told : IsSidedRun v h b (steps_at v.graph (curves_on h) (points_of_meetings ms)) w k d
    all_told =
        let g = drawn_graph w.graph (curves_on k) in
        c.then_told w k d (sided_as w k d [] (steps_at w.graph (curves_on k) (points_of_meetings (drop i ms))) w k d (none_sided w k d) (sym (ap (λ ls. steps_at w.graph (curves_on k) (points_of_meetings ls)) nothing_left ∙ none_left g g)))

    -- and all meetings are named
    pub all_named : IsAscending point_cmp (points_of_meetings ms) → AreVertices w.graph ns
    all_named a = record {
      ascend = subst (IsAscending point_cmp) (sym c.points) a;
      named = λ m j. c.named.each m (subst (Member m) (sym (take_all i ns done)) (to_member ns m j));
    }
