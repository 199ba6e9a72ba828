-- From one meeting point to the next: along the edge that goes on from there, or through a face.
use Rattle.std.proofs.Common.{◌≡◌, Bool, true, false, not, cond, Contains, refl, sym, ap, ◌∙◌, subst, inl, ⊎_elim}
use Rattle.exact_plane.specs.Line.{Line, IsOn}
use Rattle.exact_plane.specs.Point.{Point}
use Rattle.exact_plane.specs.Segment.{Segment, line_of_segment}
use Rattle.plane_graphs.specs.Ascending.{Member}
use Rattle.plane_graphs.specs.Line.{IsProper, precedes, are_parallel}
use Rattle.plane_graphs.proofs.Ascending.{to_member, from_member}
use Rattle.plane_graphs.proofs.Lists.{clash, decide}
use Rattle.plane_graphs.proofs.Marks.{Le, le_lt, le_same, le_lt_lt, lt_le_lt}
use Rattle.plane_graphs.proofs.Order.{Lt, lt_out, lt_in, lt_trans, Tri, tri}
use Rattle.plane_graphs.proofs.Order.Tri.{less, same, more}
use Rattle.slab_laws.specs.declared.names.DartId.{DartId}
use Rattle.slab_laws.specs.Darts.{Dart}
use Rattle.slab_laws.specs.Skeleton.{inside}
use Rattle.slab_laws.specs.Sound.{edge_in, dart_in, IsGraphSound}
use Rattle.slab_laws.specs.View.{View, HasDart, point_in, source_in, twin_in, target_in, line_in}
use Rattle.plane_graphs.specs.Graph.{Edge}
use Rattle.arr_notes.specs.Curves.{IsForward}
use Rattle.dcel_records.specs.declared.spot.Met.{Met}
use Rattle.dcel_records.specs.declared.spot.Met.TheVariants.{Vertex, Edge as OnEdge, Nothing}
use Rattle.sound_views.proofs.NamedDarts.{twin_dart}
use Rattle.zone_walk.specs.Walk.{lesser, IsAhead, IsMetAhead, IsStretch}
use Rattle.zone_walk.specs.Zone.{meeting_points, IsMetBetween, IsNextMeeting}
use Rattle.locate_naive.proofs.Within.{in_dart, dart_in_out}
use Rattle.sound_views.proofs.ForwardDarts.{target_has}
use Rattle.zone_walk.proofs.Aheads.{at_most, no_vertex_inside, one_inside}
use Rattle.zone_walk.proofs.Courses.{IsCourse, LiesOn, lies_out, lies_in, lower_lies, upper_lies, one_line, parallel_itself}
use Rattle.zone_walk.proofs.LineCrossings.{crossing_proper, is_crossing}
use Rattle.zone_walk.proofs.MeetingPoints.{MeetsAt, lower, upper, vertex, passed, of_meetings, in_meetings, passes_out, passes_one}
use Rattle.integers.proofs.Tests.{not_true}

-- of the two darts of an edge one is forward
pub record HasForward (v : View) (d : DartId) : Type 0 where
  pub dart : DartId
  pub forward : IsForward v dart
  pub edge : edge_in v dart ≡ edge_in v d
  pub line : line_in v dart ≡ line_in v d

module _ (v : View) (s : IsGraphSound v) where
  pub forward_one : (d : DartId) → HasDart v d → HasForward v d
  forward_one d has = by (dart_in v d).forward refl
    where
      by : (b : Bool) → (dart_in v d).forward ≡ b → HasForward v d
      by true e = record { dart = d; forward = (has, e); edge = refl; line = refl }
      by false e =
          let t = twin_dart v s d has in
          record {
            dart = twin_in v d;
            forward = (s.twinned.has d has, ap (λ (x : Dart). x.forward) t ∙ ap not e);
            edge = ap (λ (x : Dart). x.edge) t;
            line = s.twinned.line d has;
          }

  module _ (g : Segment) (c : IsCourse g) where
    abbrev line : Line
    line = line_of_segment g

    -- ---- meeting points are points of the segment
    pub meets_lies : (p : Point) → MeetsAt v g p → LiesOn g p
    meets_lies p (lower e) = subst (LiesOn g) (sym e) (lower_lies g c)
    meets_lies p (upper e) = subst (LiesOn g) (sym e) (upper_lies g c)
    meets_lies p (vertex w has e on) = lies_out g p on
    meets_lies p (passed d has m) = lies_out g p (passes_out v g d p m).on_segment

    pub meets_proper : (p : Point) → MeetsAt v g p → IsProper p
    meets_proper p (lower e) = subst IsProper (sym e) c.lower
    meets_proper p (upper e) = subst IsProper (sym e) c.upper
    meets_proper p (vertex w has e on) = subst IsProper (sym e) (s.drawn.proper w has)
    meets_proper p (passed d has m) = let k = passes_out v g d p m in subst IsProper (sym k.crossing) (crossing_proper line (line_in v d) k.crosses)

    pub told : (p : Point) → Contains (meeting_points v g) p → MeetsAt v g p
    told p m = of_meetings v g s.named.vertices p (to_member (meeting_points v g) p m)

    pub listed : (p : Point) → MeetsAt v g p → Contains (meeting_points v g) p
    listed p m = from_member (meeting_points v g) p (in_meetings v g s.named.vertices p m)

    module _ (p : Point) (here : LiesOn g p) where
      -- ---- along an edge
      module _ (d : DartId) (h : IsAhead v line p d) where
        -- where it ends: at the dart's upper end or at the segment's
        record IsStop (q : Point) : Type 0 where
          meets : MeetsAt v g q
          later : Lt p q
          upto_high : Le q (point_in v (target_in v d))
          upto_upper : Le q g.upper

        stop_by : (before : Lt p g.upper) (b : Bool) → precedes g.upper (point_in v (target_in v d)) ≡ b → IsStop (cond b g.upper (point_in v (target_in v d)))
        stop_by before true e = record { meets = upper refl; later = before; upto_high = le_lt (lt_out g.upper (point_in v (target_in v d)) e); upto_upper = le_same g.upper }
        stop_by before false e =
            let q = point_in v (target_in v d) in
            let l : Lt p q = lt_out p q h.ends in
            let u : Le q g.upper = at_most q g.upper e in
            record {
              meets = vertex (target_in v d) (target_has v s d h.forward.0) refl (lies_in g q (record { on = subst (λ (m : Line). IsOn m q) h.line (s.drawn.ends d h.forward.0); from = le_lt (le_lt_lt here.from l); upto = u }));
              later = l;
              upto_high = le_same q;
              upto_upper = u;
            }

        module _ (q : Point) (stop : IsStop q) where
          inside_there : (t : Point) → IsProper t → LiesOn g t → Lt p t → Lt t q → inside (edge_in v d) t ≡ true
          inside_there t proper on k m =
              in_dart v s d t h.forward proper
              (record {
                on = subst (λ (n : Line). IsOn n t) (sym h.line) on.on;
                after = le_lt_lt (at_most (point_in v (source_in v d)) p h.begins) k;
                before = lt_le_lt m stop.upto_high;
              })

          none_at : (r : Point) → MeetsAt v g r → Lt p r → Lt r q → inside (edge_in v d) r ≡ true → IsProper r → ⊥
          none_at r (lower e) k m i proper = here.from.never (subst (Lt p) e k)
          none_at r (upper e) k m i proper = stop.upto_upper.never (subst (λ (x : Point). Lt x q) e m)
          none_at r (vertex w has e on) k m i proper = no_vertex_inside v s d w h.forward.0 has (ap (inside (edge_in v d)) (sym e) ∙ i)
          none_at r (passed x has n) k m i proper =
              let z = passes_out v g x r n in
              let f = forward_one x has in
              let one : f.dart ≡ d = one_inside v s f.dart d r f.forward h.forward proper (ap (λ (y : Edge). inside y r) f.edge ∙ z.inner) i in
              clash (parallel_itself line (line_in v x) (sym h.line ∙ ap (line_in v) (sym one) ∙ f.line)) z.crosses

          none_until : (r : Point) → Contains (meeting_points v g) r → precedes p r ≡ true → precedes r q ≡ false
          none_until r m k =
              let a = told r m in
              let proper = meets_proper r a in
              not_true (precedes r q) (λ n. none_at r a (lt_out p r k) (lt_out r q n) (inside_there r proper (meets_lies r a) (lt_out p r k) (lt_out r q n)) proper)

          stretch_on : IsStretch v g p (OnEdge d) q
          stretch_on = record {
            ahead = h;
            next = record { meets = listed q stop.meets; later = lt_in stop.later; none_between = none_until };
            between = λ t proper on k m. (h.forward.0, h.forward.1, inside_there t proper (lies_out g t on) (lt_out p t k) (lt_out t q m));
          }

        pub along_edge : Lt p g.upper → (q : Point) → q ≡ lesser g.upper (point_in v (target_in v d)) → IsStretch v g p (OnEdge d) q
        along_edge before q e = stretch_on q (subst IsStop (sym e) (stop_by before (precedes g.upper (point_in v (target_in v d))) refl))

      -- ---- through a face
      module _ (none : (d : DartId) → IsAhead v line p d → ⊥) (q : Point) (next : IsNextMeeting v g p q) where
        module _ (t : Point) (proper : IsProper t) (on : LiesOn g t) (k : Lt p t) (m : Lt t q) where
          never : MeetsAt v g t → ⊥
          never a = clash (lt_in m) (next.none_between t (listed t a) (lt_in k))

          module _ (e : DartId) (f : IsForward v e) (i : inside (edge_in v e) t ≡ true) where
            crossing_there : IsOn (line_in v e) t → are_parallel line (line_in v e) ≡ false → ⊥
            crossing_there w z =
                let r = passes_one v g e t (record { crosses = z; crossing = is_crossing line (line_in v e) z t proper on.on w; on_segment = lies_in g t on; inner = i }) in
                never (passed e f.0 (subst (Member t) (sym r) (inl refl)))

            -- it would go on from p, or begin between
            along_there : Lt (point_in v (source_in v e)) t → Lt t (point_in v (target_in v e)) → line ≡ line_in v e → (b : Bool) → precedes p (point_in v (source_in v e)) ≡ b → ⊥
            along_there a z one false b = none e (record { forward = f; line = sym one; begins = b; ends = lt_in (lt_trans k z) })
            along_there a z one true b =
                let x = point_in v (source_in v e) in
                let l : Lt p x = lt_out p x b in
                let on_line : IsOn line x = subst (λ (n : Line). IsOn n x) (sym one) (s.drawn.starts e f.0) in
                let at = listed x (vertex (source_in v e) (s.linked.source e f.0) refl (lies_in g x (record { on = on_line; from = le_lt (le_lt_lt here.from l); upto = le_lt (lt_le_lt a on.upto) }))) in
                clash (lt_in (lt_trans a m)) (next.none_between x at b)

            no_edge_there : ⊥
            no_edge_there =
                let w = dart_in_out v s e t f proper i in
                ⊎_elim
                (λ z. along_there w.after w.before (one_line line (line_in v e) t c.line (s.drawn.line e f.0) proper on.on w.on z) (precedes p (point_in v (source_in v e))) refl)
                (λ z. crossing_there w.on z)
                (decide (are_parallel line (line_in v e)))

          no_edge_at : (d : DartId) → HasDart v d → inside (edge_in v d) t ≡ false
          no_edge_at d has =
              not_true (inside (edge_in v d) t) (λ i. let f = forward_one d has in no_edge_there f.dart f.forward (ap (λ (y : Edge). inside y t) f.edge ∙ i))

        pub face_between : IsMetBetween v g p q Nothing
        face_between t proper on k m =
            let l = lies_out g t on in
            let a = lt_out p t k in
            let b = lt_out t q m in
            record {
              no_vertex = λ w has e. never t proper l a b (vertex w has (sym e) on);
              no_edge = no_edge_at t proper l a b;
            }

      -- ---- whatever lies ahead
      pub one_next : (q r : Point) → IsNextMeeting v g p q → IsNextMeeting v g p r → q ≡ r
      one_next q r h k = by (tri q r)
        where
          by : Tri q r → q ≡ r
          by (less l) = clash (lt_in l) (k.none_between q h.meets h.later)
          by (same e) = e
          by (more l) = clash (lt_in l) (h.none_between r k.meets k.later)

      pub stretch_to : Lt p g.upper → (met : Met) → IsMetAhead v line p met → (q : Point) → IsNextMeeting v g p q → IsStretch v g p met q
      stretch_to before (Vertex w) h q next = absurd h
      stretch_to before (OnEdge d) h q next =
          let k = along_edge d h before (lesser g.upper (point_in v (target_in v d))) refl in
          subst (IsStretch v g p (OnEdge d)) (one_next (lesser g.upper (point_in v (target_in v d))) q k.next next) k
      stretch_to before Nothing h q next = record { ahead = h; next = next; between = face_between h q next }
