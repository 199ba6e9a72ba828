-- The next meeting point, along an edge or through a face, and where the search stands then.
use Rattle.std.specs.Prelude.{◌↔◌, IsSome}
use Rattle.std.proofs.Common.{◌≡◌, ◌≢◌, ◌⊎◌, ◌<◌, ◌≤◌, ℕ, Bool, true, false, cond, is_eq, is_some, Contains, Option, None, List, [], ◌∷◌, length, arith, refl, sym, ap, ◌∙◌, subst, inl, inr}
use Rattle.std.specs.Map.{keys_of, lookup, remove_entry}
use Rattle.std.specs.List.Sorted.{IsStrictlySortedBy}
use Rattle.std.specs.BTreeSet.{BTreeSet, contains}
use Rattle.std.specs.List.{list_any}
use Rattle.std.specs.Ordering.{nat_cmp}
use Rattle.exact_plane.specs.Line.{Line, IsOn}
use Rattle.exact_plane.specs.Point.{Point}
use Rattle.exact_plane.specs.PointOrder.{point_cmp}
use Rattle.exact_plane.specs.Segment.{Segment, AreEnds, line_of_segment}
use Rattle.exact_plane.specs.Span.{IsSpan, span_of_segment}
use Rattle.std.specs.declared.cmp.Ordering.TheVariants.{Less}
use Rattle.exact_plane.specs.WholeParts.{bounding_box}
use Rattle.plane_graphs.specs.Ascending.{Member}
use Rattle.plane_graphs.specs.Line.{IsProper, precedes}
use Rattle.plane_graphs.proofs.Ascending.{All-member, to_member, from_std}
use Rattle.plane_graphs.proofs.Lists.{clash, in_filter}
use Rattle.plane_graphs.proofs.Marks.{le_lt_lt}
use Rattle.plane_graphs.proofs.Order.{Lt, lt_out, lt_in, lt_trans, lt_never, Tri, tri, curve_out as same_number}
use Rattle.plane_graphs.proofs.Order.Tri.{less, same, more}
use Rattle.integers.proofs.Tests.{not_true, is_equal}
use Rattle.exact_plane.specs.PointOrderLaws.{same_point}
use Rattle.slab_laws.specs.declared.names.DartId.{DartId}
use Rattle.slab_laws.specs.declared.names.FaceId.{FaceId}
use Rattle.slab_laws.specs.declared.names.VertexId.{VertexId}
use Rattle.slab_laws.specs.FacesSound.{IsSound}
use Rattle.slab_laws.specs.Sound.{IsGraphSound}
use Rattle.slab_laws.specs.View.{View, Faces, HasVertex, HasFace, face_id, point_in, target_in}
use Rattle.counted_looks.specs.Boundaries.{IsOnBoundary, boundary_size}
use Rattle.zone_walk.specs.FoundPoints.{entries_in, IsFirstOf}
use Rattle.zone_walk.proofs.PartLaws.{faces_are_told}
use Rattle.counted_looks.specs.declared.boundary_part.BoundaryPart.{BoundaryPart}
use Rattle.counted_looks.specs.declared.boundary_part.BoundaryPart.TheVariants.{Dart, Isolated}
use Rattle.dcel_records.specs.declared.spot.Spot.{Spot}
use Rattle.dcel_records.specs.declared.spot.Spot.TheVariants.{Vertex, Edge, Face}
use Rattle.dcel_records.specs.declared.spot.Met.TheVariants.{Nothing}
use Rattle.dcel_records.specs.Spots.{IsInFace}
use Rattle.face_location.specs.Spots.{IsSpotOf}
use Rattle.locate_naive.proofs.Within.{in_dart}
use Rattle.zone_walk.specs.Parts.{TellsFace}
use Rattle.sound_views.proofs.ForwardDarts.{target_has}
use Rattle.zone_walk.specs.Searches.{IsThere, IsFoundAfter, AreFoundAfter, IsLedTo, IsPartTaken, IsSearchFrom, HasSeen}
use Rattle.zone_walk.specs.Walk.{IsAhead, IsSpotStretch, IsSearchAt, lesser}
use Rattle.zone_walk.specs.Zone.{meeting_points, later_points, IsNextMeeting, IsSpotBetween}
use Rattle.zone_walk.specs.declared.plan.Meeting.{Meeting}
use Rattle.zone_walk.specs.declared.search.Search.{Search}
use Rattle.zone_walk.proofs.Aheads.{at_most}
use Rattle.zone_walk.proofs.Courses.{IsCourse, LiesOn}
use Rattle.zone_walk.proofs.Entries.{is_there}
use Rattle.zone_walk.proofs.InFaces.{spots, face_at, nothing_met, alone_is_upper}
use Rattle.zone_walk.proofs.MeetingPoints.{upper}
use Rattle.zone_walk.proofs.Searched.{part_kept}
use Rattle.zone_walk.proofs.Stretches.{along_edge, stretch_to, told, listed, meets_lies}
use Rattle.zone_walk.proofs.Walked.{next_is}

abbrev Entries : Type 0
Entries = List (Point × Spot)

-- ---- one entry less
module _ (q : Point) where
  abbrev here : Point → Bool
  here k = is_eq (point_cmp q k)

  removed_by : (b : Bool) (e : Point × Spot) (es : Entries) (r : Point) (at : Spot) → (Member (r, at) (remove_entry here es) → Member (r, at) es) → Member (r, at) (cond b es (e ∷ remove_entry here es)) → Member (r, at) (e ∷ es)
  removed_by true e es r at f m = inr m
  removed_by false e es r at f (inl i) = inl i
  removed_by false e es r at f (inr m) = inr (f m)

  pub removed_from : (es : Entries) (r : Point) (at : Spot) → Member (r, at) (remove_entry here es) → Member (r, at) es
  removed_from [] r at m = m
  removed_from (e ∷ es) r at m = removed_by (here e.0) e es r at (removed_from es r at) m

  kept_by : (b : Bool) (e : Point × Spot) (es : Entries) (r : Point) → here e.0 ≡ b → r ≢ q → (Member r (keys_of es) → Member r (keys_of (remove_entry here es))) → Member r (keys_of (e ∷ es)) → Member r (keys_of (cond b es (e ∷ remove_entry here es)))
  kept_by true e es r i n f (inl j) = absurd (n (j ∙ sym (same_point q e.0 (is_equal (point_cmp q e.0) i))))
  kept_by true e es r i n f (inr m) = m
  kept_by false e es r i n f (inl j) = inl j
  kept_by false e es r i n f (inr m) = inr (f m)

  pub others_kept : (es : Entries) (r : Point) → r ≢ q → Member r (keys_of es) → Member r (keys_of (remove_entry here es))
  others_kept [] r n m = m
  others_kept (e ∷ es) r n m = kept_by (here e.0) e es r refl n (others_kept es r n) m

  pub none_there : (es : Entries) → lookup here es ≡ None → Member q (keys_of es) → ⊥
  none_there es e m = clash (is_there q es m) (ap is_some e)

-- ---- the first entry
-- where a map gives no first entry, it has none
pub no_entries : {X : Type 0} (r : Option (Point × X)) (es : List (Point × X)) → r ≡ None → (IsSome r ↔ (0 < length es)) → es ≡ []
no_entries r [] e h = refl
no_entries {X} r (x ∷ es) e h = let z : IsSome {T = Point × X} None = subst (λ (o : Option (Point × X)). IsSome o) e (h.1 (omega arith)) in absurd cc

-- what is found there is a spot
pub spot_there : (v : View) (f : Faces) (g : Segment) (p q : Point) (at : Spot) → IsFoundAfter v g p q at → IsSpotOf v f q at
spot_there v f g p q at h = by at h.there
  where
    by : (at : Spot) → IsThere v q at → IsSpotOf v f q at
    by (Vertex w) t = record { met = t; face = tt }
    by (Edge d) t = record { met = t; face = tt }
    by (Face a) t = absurd t

module _ (q : Point) (at : Spot) (es : Entries) (ascend : IsStrictlySortedBy point_cmp (keys_of ((q, at) ∷ es))) where
  pub after_first : (r : Point) → Member r (keys_of es) → Lt q r
  after_first r m = record { is = All-member (λ x. point_cmp q x ≡ Less) r (keys_of es) (from_std point_cmp (keys_of ((q, at) ∷ es)) ascend).0 m }

-- ---- from one meeting point to the next
module _ (v : View) (f : Faces) (g : Segment) (l m : Search) (p q : Point) (a : IsSearchAt v f g p l) (n : IsNextMeeting v g p q) (segment : m.segment ≡ l.segment) (here : m.here ≡ q) (visited : m.visited ≡ l.visited) (whole : m.whole ≡ l.whole) (bounds : m.bounds ≡ l.bounds) (gathered : m.gathered ≡ l.gathered) where
  module _ (only : (r : Point) (at : Spot) → Member (r, at) (entries_in m.found) → Member (r, at) (entries_in l.found) × (r ≢ q)) (kept : (r : Point) → Member r (keys_of (entries_in l.found)) → r ≢ q → Member r (keys_of (entries_in m.found))) where
    pub found_before : AreFoundAfter v g p (entries_in l.found)
    found_before = subst (λ (z : Segment). AreFoundAfter v z p (entries_in l.found)) a.segment (subst (λ (z : Point). AreFoundAfter v l.segment z (entries_in l.found)) a.here a.search.found)

    found_after : AreFoundAfter v g q (entries_in m.found)
    found_after r at i =
        let w = only r at i in
        let h = found_before r at w.0 in
        record { meets = h.meets; later = by r h w.1 (tri q r); there = h.there }
      where
        by : (r : Point) → IsFoundAfter v g p r at → r ≢ q → Tri q r → precedes q r ≡ true
        by r h d (less k) = lt_in k
        by r h d (same e) = absurd (d (sym e))
        by r h d (more k) = clash (lt_in k) (n.none_between r h.meets h.later)

    left_over : (es : Entries) (fs : Entries) → ((r : Point) → Member r (keys_of es) → r ≢ q → Member r (keys_of fs)) → (r : Point) → precedes q r ≡ true → Member r (keys_of es) ⊎ IsLedTo v g r → Member r (keys_of fs) ⊎ IsLedTo v g r
    left_over es fs k r i (inl j) = inl (k r j (λ e. lt_never (subst (Lt q) e (lt_out q r i))))
    left_over es fs k r i (inr e) = inr e

    part_after : (es : Entries) (fs : Entries) → ((r : Point) → Member r (keys_of es) → r ≢ q → Member r (keys_of fs)) → (t : BoundaryPart) → IsPartTaken v g p es t → IsPartTaken v g q fs t
    part_after es fs k (Dart d) h = λ r o c i. left_over es fs k r i (h r o c (lt_in (lt_trans (lt_out p q n.later) (lt_out q r i))))
    part_after es fs k (Isolated w) h = λ c i. left_over es fs k (point_in v w) i (h c (lt_in (lt_trans (lt_out p q n.later) (lt_out q (point_in v w) i))))

    same_segment : m.segment ≡ g
    same_segment = segment ∙ a.segment

    gathered_after : (d : DartId) → IsPartTaken v l.segment l.here (entries_in l.found) (Dart d) → IsPartTaken v m.segment m.here (entries_in m.found) (Dart d)
    gathered_after d h =
        subst (λ (z : Segment). IsPartTaken v z m.here (entries_in m.found) (Dart d)) (sym same_segment)
        (subst (λ (z : Point). IsPartTaken v g z (entries_in m.found) (Dart d)) (sym here)
        (part_after (entries_in l.found) (entries_in m.found) kept (Dart d)
        (subst (λ (z : Segment). IsPartTaken v z p (entries_in l.found) (Dart d)) a.segment (subst (λ (z : Point). IsPartTaken v l.segment z (entries_in l.found) (Dart d)) a.here h))))

    pub moved : IsSearchAt v f g q m
    moved = record {
      search = record {
        one = record { segment = refl; here = refl; visited = refl; whole = refl; bounds = refl; failed = λ e. e };
        sound = a.search.sound;
        ends = subst AreEnds (sym segment) a.search.ends;
        whole = subst (λ (z : Segment). IsSpan (span_of_segment z)) (sym segment) a.search.whole;
        spanned = whole ∙ a.search.spanned ∙ ap span_of_segment (sym segment);
        boxed = bounds ∙ a.search.boxed ∙ ap bounding_box (sym whole);
        stands = subst (λ (z : Segment). Contains (meeting_points v z) m.here) (sym same_segment) (subst (Contains (meeting_points v g)) (sym here) n.meets);
        found = subst (λ (z : Segment). AreFoundAfter v z m.here (entries_in m.found)) (sym same_segment) (subst (λ (z : Point). AreFoundAfter v g z (entries_in m.found)) (sym here) found_after);
        kept = λ r i. i;
        gathered = λ e d has. gathered_after d (a.search.gathered (sym gathered ∙ e) d has);
      };
      segment = same_segment;
      here = here;
      visited = λ b h t o. part_after (entries_in l.found) (entries_in m.found) kept t (a.visited b (ap (λ z. contains nat_cmp z b.0) (sym visited) ∙ h) t o);
    }

-- ---- along an edge
module _ (v : View) (f : Faces) (s : IsGraphSound v) (g : Segment) (c : IsCourse g) (p : Point) (on : LiesOn g p) (before : Lt p g.upper) (d : DartId) (h : IsAhead v (line_of_segment g) p d) where
  pub edge_stretch : (q : Point) → q ≡ lesser g.upper (point_in v (target_in v d)) → IsSpotStretch v f g p (Edge d) q
  edge_stretch q e =
      let k = along_edge v s g c p on d h before q e in
      record { stretch = k; spots = λ t T o a b. record { met = k.between t T o a b; face = tt } }

  pub upper_there : Lt g.upper (point_in v (target_in v d)) → IsSpotOf v f g.upper (Edge d)
  upper_there k = record {
    met = (h.forward.0, h.forward.1, in_dart v s d g.upper h.forward c.upper (record { on = subst (λ (l : Line). IsOn l g.upper) (sym h.line) c.upper_on; after = le_lt_lt (at_most (point_in v _) p h.begins) before; before = k }));
    face = tt;
  }

  pub end_there : (w : VertexId) → w ≡ target_in v d → IsSpotOf v f (point_in v (target_in v d)) (Vertex w)
  end_there w e = record { met = (subst (HasVertex v) (sym e) (target_has v s d h.forward.0), ap (point_in v) e); face = tt }

  -- the segment's end or the edge's, whichever comes first
  pub along_next : (next : Meeting) (end : Point) → end ≡ point_in v (target_in v d) → ((next ≡ record { point = g.upper; spot = Edge d }) × (precedes g.upper end ≡ true)) ⊎ ((w : VertexId) × (next ≡ record { point = end; spot = Vertex w }) × (precedes g.upper end ≡ false) × (w ≡ target_in v d)) → IsSpotStretch v f g p (Edge d) next.point × IsSpotOf v f next.point next.spot
  along_next next end e (inl w) =
      subst (λ (m : Meeting). IsSpotStretch v f g p (Edge d) m.point × IsSpotOf v f m.point m.spot) (sym w.0)
      (edge_stretch g.upper (sym (ap (λ (b : Bool). cond b g.upper (point_in v (target_in v d))) (ap (precedes g.upper) (sym e) ∙ w.1))), upper_there (lt_out g.upper _ (ap (precedes g.upper) (sym e) ∙ w.1)))
  along_next next end e (inr w) =
      subst (λ (m : Meeting). IsSpotStretch v f g p (Edge d) m.point × IsSpotOf v f m.point m.spot) (sym w.1)
      (edge_stretch end (e ∙ sym (ap (λ (b : Bool). cond b g.upper (point_in v (target_in v d))) (ap (precedes g.upper) (sym e) ∙ w.2))), subst (λ (x : Point). IsSpotOf v f x (Vertex w.0)) (sym e) (end_there w.0 w.3))

-- ---- through a face
module _ (v : View) (f : Faces) (S : IsSound v f) (g : Segment) (c : IsCourse g) (p : Point) (proper : IsProper p) (on : LiesOn g p) (before : Lt p g.upper) where
  s : IsGraphSound v
  s = S.graph

  -- there is one
  some_next : (qs : List Point) → qs ≡ later_points v g p → (q : Point) × IsNextMeeting v g p q
  some_next [] e = absurd (subst (Member g.upper) (sym e) (in_filter (precedes p) g.upper (meeting_points v g) (to_member (meeting_points v g) g.upper (listed v s g c g.upper (upper refl))) (lt_in before)))
  some_next (q ∷ rest) e = (q, next_is v f s g c p q rest e)

  pub next_one : (q : Point) × IsNextMeeting v g p q
  next_one = some_next (later_points v g p) refl

  module _ (a : FaceId) (none : (d : DartId) → IsAhead v (line_of_segment g) p d → ⊥) (tells : TellsFace v f p g.upper a) where
    pub face_stretch : (q : Point) → IsNextMeeting v g p q → IsSpotStretch v f g p (Face a) q
    face_stretch q n = record {
      stretch = stretch_to v s g c p on before Nothing none q n;
      spots = spots v f S g c p proper on before a none tells q n;
    }

    pub size_fits : (n : ℕ) → ((q : Point) (b : FaceId) → IsNextMeeting v g p q → IsSpotBetween v f g p q (Face b) → boundary_size v f b ≤ n) → boundary_size v f a ≤ n
    size_fits n h = let z = next_one in h z.0 a z.1 (face_stretch z.0 z.1).spots

    pub named_face : HasFace f a
    named_face = faces_are_told.has v f p g.upper a S tells

    module _ (es : Entries) (found : AreFoundAfter v g p es) (taken : (t : BoundaryPart) → IsOnBoundary v f a t → IsPartTaken v g p es t) where
      nothing : (q : Point) → IsNextMeeting v g p q → (Member q (keys_of es) → ⊥) → IsInFace v q
      nothing q n missing = nothing_met v f S g c p proper on before a none tells q n es taken missing

      -- the first that is found
      pub first_is_next : (next : Meeting) (rest : Entries) → IsFirstOf es rest next → IsNextMeeting v g p next.point
      first_is_next next rest first =
          let h = found q next.spot first.there in
          record { meets = h.meets; later = h.later; none_between = λ r m k. not_true (precedes r q) (λ l. never h r m (lt_out p r k) (lt_out r q l)) }
        where
          q : Point
          q = next.point

          not_before : (z : Point) → Lt z q → Member z (keys_of es) → ⊥
          not_before z l m = lt_never (lt_trans l (lt_out q z (first.before z (first.kept z m (λ e. lt_never (subst (λ (x : Point). Lt x q) e l))))))

          -- the next one is no later than another later one
          no_later : (z r : Point) → IsNextMeeting v g p z → Contains (meeting_points v g) r → Lt p r → Lt r q → Lt z q
          no_later z r n m k l = le_lt_lt (at_most z r (n.none_between r m (lt_in k))) l

          never : IsFoundAfter v g p q next.spot → (r : Point) → Contains (meeting_points v g) r → Lt p r → Lt r q → ⊥
          never h r m k l =
              let z = next_one in
              let b = no_later z.0 r z.1 m k l in
              let i = nothing z.0 z.1 (λ x. not_before z.0 b x) in
              let u = alone_is_upper v s g c p on z.0 z.1 i in
              (meets_lies v s g c q (told v s g c q h.meets)).upto.never (subst (λ (x : Point). Lt x q) u b)

      -- nothing is found
      pub none_is_upper : es ≡ [] → IsNextMeeting v g p g.upper × IsSpotOf v f g.upper (Face a)
      none_is_upper e =
          let z = next_one in
          let h = nothing z.0 z.1 (λ m. subst (λ (xs : Entries). Member z.0 (keys_of xs)) e m) in
          let u = alone_is_upper v s g c p on z.0 z.1 h in
          (subst (IsNextMeeting v g p) u z.1, subst (λ (x : Point). IsSpotOf v f x (Face a)) u (face_at v f S g c p proper on before a none tells z.0 z.1 h))

-- ---- one more face visited
-- the search with other faces that it visited
abbrev pub with_visited : Search → BTreeSet ℕ → Search
with_visited l w = record { alloc = l.alloc; segment = l.segment; whole = l.whole; bounds = l.bounds; here = l.here; found = l.found; visited = w; gathered = l.gathered; failed = l.failed }

pub from_itself : (v : View) (l : Search) (w : BTreeSet ℕ) → IsSearchFrom v l l → IsSearchFrom v (with_visited l w) (with_visited l w)
from_itself v l w h = record {
  one = record { segment = refl; here = refl; visited = refl; whole = refl; bounds = refl; failed = λ e. e };
  sound = h.sound;
  ends = h.ends;
  whole = h.whole;
  spanned = h.spanned;
  boxed = h.boxed;
  stands = h.stands;
  found = h.found;
  kept = λ r i. i;
  gathered = h.gathered;
}

module _ (v : View) (f : Faces) (l : Search) (a : IsSearchAt v f l.segment l.here l) (w : BTreeSet ℕ) where
  -- the same faces
  pub visited_same : w.keys ≡ l.visited.keys → IsSearchAt v f l.segment l.here (with_visited l w)
  visited_same e = record {
    search = from_itself v l w a.search;
    segment = refl;
    here = refl;
    visited = λ b h. a.visited b (ap (λ ks. list_any (λ k. is_eq (nat_cmp b.0 k)) ks) (sym e) ∙ h);
  }

  -- one more, whose boundary was looked at
  module _ (m : Search) (face : FaceId) (ready : IsSearchFrom v (with_visited l w) m) (seen : (t : BoundaryPart) → IsOnBoundary v f face t → HasSeen v m t) (failed : m.failed ≡ false) (more : (b : ℕ) → contains nat_cmp w b ≡ cond (is_eq (nat_cmp face.0 b)) true (contains nat_cmp l.visited b)) where
    taken_now : (t : BoundaryPart) → IsOnBoundary v f face t → IsPartTaken v l.segment l.here (entries_in m.found) t
    taken_now t o =
        subst (λ (z : Segment). IsPartTaken v z l.here (entries_in m.found) t) ready.one.segment
        (subst (λ (z : Point). IsPartTaken v m.segment z (entries_in m.found) t) ready.one.here (seen t o failed))

    taken_by : (b : FaceId) (z : Bool) → is_eq (nat_cmp face.0 b.0) ≡ z → cond z true (contains nat_cmp l.visited b.0) ≡ true → (t : BoundaryPart) → IsOnBoundary v f b t → IsPartTaken v l.segment l.here (entries_in m.found) t
    taken_by b true i h t o = taken_now t (subst (λ (c : FaceId). IsOnBoundary v f c t) (ap face_id (sym (same_number face.0 b.0 i))) o)
    taken_by b false i h t o = part_kept v l.segment l.here (entries_in l.found) (entries_in m.found) ready.kept t (a.visited b h t o)

    pub visited_one : IsSearchAt v f l.segment l.here m
    visited_one = record {
      search = record {
        one = record { segment = refl; here = refl; visited = refl; whole = refl; bounds = refl; failed = λ e. e };
        sound = ready.sound;
        ends = ready.ends;
        whole = ready.whole;
        spanned = ready.spanned;
        boxed = ready.boxed;
        stands = ready.stands;
        found = ready.found;
        kept = λ r i. i;
        gathered = ready.gathered;
      };
      segment = ready.one.segment;
      here = ready.one.here;
      visited = λ b h. taken_by b (is_eq (nat_cmp face.0 b.0)) refl (sym (more b.0) ∙ ap (λ z. contains nat_cmp z b.0) (sym ready.one.visited) ∙ h);
    }
