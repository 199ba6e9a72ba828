-- Parts of sides that become edges one after the other, in edge order, and what is still to come.
use Rattle.std.proofs.Common.{◌≡◌, inl, inr, ℕ, suc, ◌<◌, ◌≤◌, true, false, cond, List, [], ◌∷◌, map, length, get_or, Option, Some, None, refl, sym, ap, ap₂, ◌∙◌, subst, arith, Less}
use Rattle.std.specs.List.{list_any}
use Rattle.std.proofs.lemmas.Bool.{cases_lt}
use Rattle.std.proofs.lemmas.Cmp.{tied_itself}
use Rattle.std.proofs.lemmas.List.{get_or-map, length-map}
use Rattle.std.proofs.lemmas.Option.{none-some, same_Some}
use Rattle.exact_plane.specs.Point.{Point}
use Rattle.exact_plane.specs.PointOrder.{point_cmp}
use Rattle.exact_plane.specs.Segment.{Segment, line_of_segment}
use Rattle.plane_graphs.specs.Ascending.{Member, IsAscending}
use Rattle.plane_graphs.specs.Graph.{Graph, Mark, mark, mark_cmp, is_at}
use Rattle.plane_graphs.specs.Line.{IsProperLine}
use Rattle.plane_graphs.specs.Strands.{strand}
use Rattle.plane_graphs.proofs.Ascending.{All-member, from_member}
use Rattle.plane_graphs.proofs.Lists.{and_in, any_none, clash, decide, in_map, in_place, of_place}
use Rattle.plane_graphs.proofs.Order.{Lt, lt_both, lt_never, mark_cmp_total, mark_cmp_exact, same_in}
use Rattle.plane_graphs.proofs.Sorting.{any_default, member_at, rises}
use Rattle.edit_steps.specs.Allowed.{AreSound, IsAllowed, IsSound}
use Rattle.edit_steps.specs.EditLaws.{hold_step}
use Rattle.edit_steps.specs.Steps.{apply, more_step}
use Rattle.edit_steps.proofs.Changes.{more_is}
use Rattle.side_parts.specs.declared.part.Part.{Part}
use Rattle.side_parts.specs.SideParts.{edge_mark, edge_marks, edge_marks_after, holds, point_at, side_at, strand_mark, IsPartIn, IsPartOf}
use Rattle.side_parts.proofs.Ordered.{ends_agree, in_edges, strands_ascend}
use Rattle.slab_laws.specs.declared.names.VertexId.{VertexId}
use Rattle.slab_laws.specs.View.{View, point_in}
use Rattle.arr_notes.specs.MapView.{MapView}
use Rattle.arr_notes.specs.RecordGraph.{drawn_graph}
use Rattle.sound_changes.proofs.StepHolds.{held_mark, mark_held}
use Rattle.curve_history.specs.Past.{Past, SameCurves, curves_on, strands_on}
use Rattle.dcel_records.specs.declared.spot.Met.TheVariants.{Vertex}
use Rattle.dcel_records.specs.Spots.{met_of}
use Rattle.observer_bus.specs.Rounds.{BusRow}
use Rattle.told_steps.proofs.Begun.{moved}
use Rattle.told_steps.proofs.StrandRuns.{curve_along}
use Rattle.told_steps.specs.StrandRuns.{IsStrandRun, strand_graph}
use Rattle.told_steps.specs.ToldRuns.{AreInStep, IsToldRun}
use Rattle.zone_walk.specs.declared.plan.Meeting.{Meeting}
use Rattle.zone_walk.specs.Zone.{is_on_segment, points_of_meetings}
use Rattle.segment_insert.specs.Insertion.{AreVertices}
use Rattle.segment_insert.specs.Parts.{IsOpenPart, part_step}
use Rattle.segment_insert.specs.StepsMade.{goes_along, AreAllOnSides, ArePartsOf, IsDrawnAlong}
use Rattle.segment_insert.proofs.Makes.{on_edge_there, on_new_edge}
use Rattle.segment_insert.proofs.MarksCome.{AreHeld, IsGoing, all_held, begins, comes, ends, goes_on, next_held, part_sound, side_made, steps_of}
use Rattle.segment_insert.proofs.OpenParts.{IsAt, open_between, vertex_at}

-- ---- the marks along edges that are still to come, behind a part
abbrev pub marks_behind : List Point → ℕ → Option Part → List Part → List Mark
marks_behind ps c None ts = edge_marks ps c ts
marks_behind ps c (Some s) ts = edge_marks_after ps c s ts

module _ (ps : List Point) (c : ℕ) where
  none_behind : (before : Option Part) → marks_behind ps c before [] ≡ []
  unfolding edge_marks edge_marks_after
  none_behind None = refl
  none_behind (Some s) = refl

  new_edge_next : (before : Option Part) (t : Part) (us : List Part) → goes_along before t ≡ false → marks_behind ps c before (t ∷ us) ≡ edge_mark ps c t ∷ marks_behind ps c (Some t) us
  unfolding edge_marks edge_marks_after
  new_edge_next None t us e = refl
  new_edge_next (Some s) t us e = ap (λ b. cond b (edge_marks_after ps c t us) (edge_mark ps c t ∷ edge_marks_after ps c t us)) e

  same_edge_next : (before : Option Part) (t : Part) (us : List Part) → goes_along before t ≡ true → marks_behind ps c before (t ∷ us) ≡ marks_behind ps c (Some t) us
  unfolding edge_marks_after
  same_edge_next None t us e = clash e refl
  same_edge_next (Some s) t us e = ap (λ b. cond b (edge_marks_after ps c t us) (edge_mark ps c t ∷ edge_marks_after ps c t us)) e

-- marks that may come aren't there
not_yet : (f g : Graph) (ms : List Mark) → AreSound (map (more_step f) ms) g → (m : Mark) → Member m ms → Member m g.marks → ⊥
unfolding IsAllowed
not_yet f g [] s m k h = k
not_yet f g (n ∷ ms) s m (inl e) h = elim (decide (list_any (is_at n.low n.high) f.marks)) [
  | inl o ↦ (subst (λ t. IsAllowed t g) (on_edge_there n f o) s.0.allowed).1 (subst (λ x. Member x g.marks) e h)
  | inr o ↦ any_none (is_at n.low n.high) m g.marks (subst (λ t. IsAllowed t g) (on_new_edge n f o) s.0.allowed).3 h (and_in (same_in m.low n.low (ap (λ x. x.low) e)) (same_in m.high n.high (ap (λ x. x.high) e)))
]
not_yet f g (n ∷ ms) s m (inr k) h = not_yet f (apply (more_step f n) g) ms s.1 m k (subst (λ (x : Graph). Member m x.marks) (sym (more_is f g n)) (in_place mark_cmp mark_cmp_total mark_cmp_exact m n g.marks (inr h)))

-- ---- a part by its places
-- of two places the first is that of the lesser point
place_before : (ps : List Point) → IsAscending point_cmp ps → (i j : ℕ) → i < length ps → j < length ps → Lt (point_at ps i) (point_at ps j) → i < j
place_before ps a i j hi hj l = elim (cases_lt i j) [
  | inl k ↦ k
  | inr k ↦ elim (cases_lt j i) [
    | inl m ↦ absurd (lt_both l (record { is = rises point_cmp ps a j i _ m hi }))
    | inr m ↦ absurd (lt_never (subst (λ n. Lt (point_at ps i) (point_at ps n)) (omega (arith, k, m)) l))
  ]
]

-- the meetings are vertices, all vertices on a side are among them, and so are the ends of parts
pub record AreGiven (v : View) (ms : List Meeting) (ss : List Segment) (ts : List Part) : Type 0 where
  pub named : AreVertices v ms
  pub all_on : AreAllOnSides v ss (points_of_meetings ms)
  pub few : length ss ≤ 8
  pub parts : ArePartsOf (points_of_meetings ms) ss ts

-- the part is of the side s, from the vertex u to w
pub record IsPartAt (ms : List Meeting) (ss : List Segment) (ts : List Part) (at : ℕ) (t : Part) (s : Segment) (u w : VertexId) : Type 0 where
  pub first : Meeting
  pub second : Meeting
  pub below : at < length ts
  pub at_part : t ≡ get_or ts at t
  pub at_side : s ≡ get_or ss t.side s
  pub at_first : first ≡ get_or ms t.low first
  pub at_second : second ≡ get_or ms t.high second
  pub is_first : (met_of first.spot) ≡ Vertex u
  pub is_second : (met_of second.spot) ≡ Vertex w

module _ (v : View) (ms : List Meeting) (ss : List Segment) (ts : List Part) (given : AreGiven v ms ss ts) where
  abbrev ps : List Point
  ps = points_of_meetings ms

  as_many : length ps ≡ length ms
  as_many = length-map ms (λ (m : Meeting). m.point)

  -- ---- the places of a part are there
  module _ (at : ℕ) (t : Part) (below : at < length ts) (at_part : t ≡ get_or ts at t) where
    there : Member t ts
    there = subst (λ z. Member z ts) (sym at_part) (member_at ts at t below)

    pub in_list : IsPartIn ps t
    in_list = All-member (IsPartIn ps) t ts given.parts.within there

    pub of_side : IsPartOf ps ss t
    of_side = All-member (IsPartOf ps ss) t ts given.parts.sides there

    pub low_below : t.low < length ms
    low_below = let a = in_list.ahead in let b = in_list.within in let e = as_many in omega arith

    pub high_below : t.high < length ms
    high_below = let b = in_list.within in let e = as_many in omega arith

    pub few_sides : t.side < 8
    few_sides = let a = of_side.side in let b = given.few in omega arith

  module _ (at : ℕ) (t : Part) (s : Segment) (u w : VertexId) (n : IsPartAt ms ss ts at t s u w) where
    abbrev p : Point
    p = point_at ps t.low

    abbrev q : Point
    q = point_at ps t.high

    abbrev its : IsPartIn ps t
    its = in_list at t n.below n.at_part

    abbrev its_side : IsPartOf ps ss t
    its_side = of_side at t n.below n.at_part

    same_side : side_at ss t.side ≡ s
    same_side = any_default ss t.side _ s its_side.side ∙ sym n.at_side

    -- a meeting's point stands at its place
    point_of : (m : Meeting) (k : ℕ) → k < length ms → m ≡ get_or ms k m → m.point ≡ point_at ps k
    point_of m k h e = ap (λ (z : Meeting). z.point) e ∙ sym (get_or-map (λ (z : Meeting). z.point) ms k m _ h)

    at_place : (m : Meeting) (k : ℕ) (x : VertexId) → k < length ms → m ≡ get_or ms k m → (met_of m.spot) ≡ Vertex x → holds (side_at ss t.side) (point_at ps k) ≡ true → IsAt v s x (point_at ps k)
    at_place m k x h e i on =
        let same = point_of m k h e in
        subst (IsAt v s x) same (vertex_at v s ms given.named m x (k, h, sym e) i (ap (is_on_segment s) same ∙ ap (λ z. holds z (point_at ps k)) (sym same_side) ∙ on))

    at_u : IsAt v s u p
    at_u = at_place n.first t.low u (low_below at t n.below n.at_part) n.at_first n.is_first its_side.begins

    at_w : IsAt v s w q
    at_w = at_place n.second t.high w (high_below at t n.below n.at_part) n.at_second n.is_second its_side.ends

    ahead : Lt p q
    ahead = record { is = rises point_cmp ps given.named.ascend t.low t.high _ its.ahead its.within }

    amid : (x : Point) → Member x ps → is_on_segment s x ≡ true → Lt p x → Lt x q → ⊥
    amid x m on a b =
        let k = from_member ps x m in
        let is : point_at ps k.0 ≡ x = any_default ps k.0 _ x k.1 ∙ k.2 in
        let l : t.low < k.0 = place_before ps given.named.ascend t.low k.0 (let i = its.ahead in let j = its.within in omega arith) k.1 (subst (Lt p) (sym is) a) in
        let h : k.0 < t.high = place_before ps given.named.ascend k.0 t.high k.1 its.within (subst (λ z. Lt z q) (sym is) b) in
        clash on (ap (holds s) (sym is) ∙ ap (λ z. holds z (point_at ps k.0)) (sym same_side) ∙ its_side.none_between k.0 l h)

    pub side_open : IsProperLine (line_of_segment s) → IsOpenPart v (line_of_segment s) u w
    side_open line = open_between v s ps line (given.all_on s (subst (λ z. Member z ss) (sym n.at_side) (member_at ss t.side s its_side.side))) u w p q at_u at_w ahead amid

    -- its marks are from u to w
    pub marked : (z : ℕ) → mark p q z ≡ mark (point_in v u) (point_in v w) z
    marked z = ap₂ (λ x y. mark x y z) (sym at_u.at) (sym at_w.at)

-- ---- the loop over the parts
-- those of the list are still to come; where one came before them, its edge has the curve, and none of them has its side along its edge
pub record AreComing (v : MapView) (p : Past) (old : BusRow) (c : ℕ) (ms : List Meeting) (ts : List Part) (before : Option Part) (rest : List Part) (g : MapView) (q : Past) (now : BusRow) : Type 0 where
  pub going : IsGoing v (curves_on p) old (edge_marks (points_of_meetings ms) c ts) (marks_behind (points_of_meetings ms) c before rest) g (curves_on q) now
  pub held : AreHeld v.graph p (map (strand_mark (points_of_meetings ms) c) ts) (map (strand_mark (points_of_meetings ms) c) rest) g.graph q
  pub there : (s : Part) → before ≡ Some s → Member (edge_mark (points_of_meetings ms) c s) (drawn_graph g.graph (curves_on q)).marks
  pub new : (u : Part) → Member u rest → Member (strand_mark (points_of_meetings ms) c u) (strand_graph g.graph q).marks → ⊥
  pub order : IsAscending mark_cmp (map (strand_mark (points_of_meetings ms) c) rest)

-- by equal records, history and bus
pub coming_as : (v : MapView) (p : Past) (old : BusRow) (c : ℕ) (ms : List Meeting) (ts : List Part) (before : Option Part) (rest : List Part) (g : MapView) (q : Past) (now : BusRow) {x : MapView} {r : Past} {new : BusRow} → g ≡ x → q ≡ r → now ≡ new →
    AreComing v p old c ms ts before rest g q now → AreComing v p old c ms ts before rest x r new
coming_as v p old c ms ts before rest g q now {x} {r} {new} e f n i = subst (λ b. AreComing v p old c ms ts before rest x r b) n (subst (λ h. AreComing v p old c ms ts before rest x h now) f (subst (λ m. AreComing v p old c ms ts before rest m q now) e i))

module _ (v : MapView) (p : Past) (old : BusRow) (c : ℕ) (ms : List Meeting) (ss : List Segment) (ts : List Part) (given : AreGiven v.graph ms ss ts) where
  abbrev qs : List Point
  qs = points_of_meetings ms

  -- a side along an edge would be one of the curve, which isn't there yet
  none_held : AreInStep v (curves_on p) old → AreSound (steps_of v (curves_on p) (edge_marks qs c ts)) (drawn_graph v.graph (curves_on p)) → (u : Part) → Member u ts → Member (strand_mark qs c u) (strand_graph v.graph p).marks → ⊥
  none_held i s u m h =
      let d = held_mark v.graph i.sound.graph.named (strands_on p) (strand_mark qs c u) h in
      let few : suc u.side ≤ 8 = (let a = (All-member (IsPartOf qs ss) u ts given.parts.sides m).side in let b = given.few in omega arith) in
      let along = curve_along p d.0 c (suc u.side) few d.1.curve in
      let drawn = mark_held v.graph i.sound.graph.named (curves_on p) (edge_mark qs c u) d.0 (record { forward = d.1.forward; low = d.1.low; high = d.1.high; curve = along }) in
      not_yet (drawn_graph v.graph (curves_on p)) (drawn_graph v.graph (curves_on p)) (edge_marks qs c ts) s (edge_mark qs c u) (in_edges qs given.named.ascend c u ts m) drawn

  pub parts_begin : AreInStep v (curves_on p) old → AreSound (steps_of v (curves_on p) (edge_marks qs c ts)) (drawn_graph v.graph (curves_on p)) → AreComing v p old c ms ts None ts v p old
  parts_begin i s = record {
    going = begins v (curves_on p) (edge_marks qs c ts) i s;
    held = refl;
    there = λ s e. absurd (none-some s e);
    new = none_held i s;
    order = strands_ascend qs given.named.ascend c ts given.parts.within given.parts.order;
  }

  module _ (before : Option Part) (rest : List Part) (g : MapView) (q : Past) (now : BusRow) (i : AreComing v p old c ms ts before rest g q now) where
    none_left : rest ≡ [] → marks_behind qs c before rest ≡ []
    none_left e = ap (marks_behind qs c before) e ∙ none_behind qs c before

    pub parts_told : rest ≡ [] → IsToldRun v (curves_on p) old (steps_of v (curves_on p) (edge_marks qs c ts)) g (curves_on q) now
    parts_told e = ends v (curves_on p) _ _ g (curves_on q) i.going (none_left e)

    pub parts_held : rest ≡ [] → IsStrandRun v.graph p (map hold_step (map (strand_mark qs c) ts)) g.graph q
    parts_held e = all_held v.graph p _ _ g.graph q i.held (ap (map (strand_mark qs c)) e)

    module _ (t : Part) (us : List Part) (next : rest ≡ t ∷ us) (u w : VertexId) (marked : (z : ℕ) → mark (point_at qs t.low) (point_at qs t.high) z ≡ mark (point_in v.graph u) (point_in v.graph w) z) where
      -- the ends of the part now
      now_marked : (z : ℕ) → mark (point_at qs t.low) (point_at qs t.high) z ≡ mark (point_in g.graph u) (point_in g.graph w) z
      now_marked z = marked z ∙ ap (λ (vs : _). mark (point_in (record { vertices = vs; darts = g.graph.darts }) u) (point_in (record { vertices = vs; darts = g.graph.darts }) w) z) (sym i.going.vertices)

      pub not_held : ¬ IsDrawnAlong g.graph (strands_on q) u w (strand c (suc t.side))
      not_held h = i.new t (subst (Member t) (sym next) (inl refl)) (subst (λ m. Member m (strand_graph g.graph q).marks) (sym (now_marked (strand c (suc t.side)))) h)

      edge_there : goes_along before t ≡ true → Member (edge_mark qs c t) (drawn_graph g.graph (curves_on q)).marks
      edge_there e = by before e i.there
        where
          by : (b : Option Part) → goes_along b t ≡ true → ((s : Part) → b ≡ Some s → Member (edge_mark qs c s) (drawn_graph g.graph (curves_on q)).marks) → Member (edge_mark qs c t) (drawn_graph g.graph (curves_on q)).marks
          by None f k = clash f refl
          by (Some s) f k = subst (λ m. Member m (drawn_graph g.graph (curves_on q)).marks) (ends_agree qs given.named.ascend c s t f) (k s refl)

      -- the curve runs along the edge of the part before, which is this one's
      pub along_there : goes_along before t ≡ true → IsDrawnAlong g.graph (curves_on q) u w c
      along_there e = subst (λ m. Member m (drawn_graph g.graph (curves_on q)).marks) (now_marked c) (edge_there e)

      holds_next : map (strand_mark qs c) rest ≡ mark (point_in v.graph u) (point_in v.graph w) (strand c (suc t.side)) ∷ map (strand_mark qs c) us
      holds_next = ap (map (strand_mark qs c)) next ∙ ap (λ m. m ∷ map (strand_mark qs c) us) (marked (strand c (suc t.side)))

      order_here : IsAscending mark_cmp (map (strand_mark qs c) (t ∷ us))
      order_here = subst (λ z. IsAscending mark_cmp (map (strand_mark qs c) z)) next i.order

      -- ---- its side is held
      module _ (x : MapView) (r : Past) (t_held : IsStrandRun g.graph q (hold_step (mark (point_in g.graph u) (point_in g.graph w) (strand c (suc t.side))) ∷ []) x.graph r) where
        held_then : AreHeld v.graph p (map (strand_mark qs c) ts) (map (strand_mark qs c) us) x.graph r
        held_then = next_held v.graph p _ _ g.graph q i.held u w (strand c (suc t.side)) _ i.going.vertices holds_next x.graph r t_held

        drawn_then : strand_graph x.graph r ≡ apply (hold_step (strand_mark qs c t)) (strand_graph g.graph q)
        drawn_then = side_made v.graph p _ _ g.graph q i.held u w (strand c (suc t.side)) _ i.going.vertices holds_next x.graph r t_held ∙ ap (λ m. apply (hold_step m) (strand_graph g.graph q)) (sym (marked (strand c (suc t.side))))

        new_then : (o : Part) → Member o us → Member (strand_mark qs c o) (strand_graph x.graph r).marks → ⊥
        unfolding apply
        new_then o m h = elim (of_place mark_cmp mark_cmp_total mark_cmp_exact (strand_mark qs c o) (strand_mark qs c t) (strand_graph g.graph q).marks (subst (λ (k : Graph). Member (strand_mark qs c o) k.marks) drawn_then h)) [
          | inl e ↦ never (All-member (λ n. mark_cmp (strand_mark qs c t) n ≡ Less) (strand_mark qs c o) _ order_here.0 (in_map (strand_mark qs c) o us m)) e
          | inr k ↦ i.new o (subst (Member o) (sym next) (inr m)) k
        ]
          where
            never : mark_cmp (strand_mark qs c t) (strand_mark qs c o) ≡ Less → strand_mark qs c o ≡ strand_mark qs c t → ⊥
            never l e = let k = tied_itself mark_cmp_total (strand_mark qs c t) in let n = subst (λ z. mark_cmp (strand_mark qs c t) z ≡ Less) e l in cc

        -- the edge was there
        pub side_comes : goes_along before t ≡ true → SameCurves q r → x ≡ g → AreComing v p old c ms ts (Some t) us x r now
        side_comes e same view =
            let k = ap (marks_behind qs c before) next ∙ same_edge_next qs c before t us e in
            record {
              going = subst (λ z. IsGoing v (curves_on p) old (edge_marks qs c ts) z x (curves_on r) now) k (moved g q x r view same (λ z h. IsGoing v (curves_on p) old (edge_marks qs c ts) (marks_behind qs c before rest) z h now) i.going);
              held = held_then;
              there = λ s o. subst (λ z. Member (edge_mark qs c z) (drawn_graph x.graph (curves_on r)).marks) (same_Some _ _ o) (moved g q x r view same (λ z h. Member (edge_mark qs c t) (drawn_graph z.graph h).marks) (edge_there e));
              new = new_then;
              order = order_here.1;
            }

      -- ---- an edge comes, or gets the curve
      module _ (apart : goes_along before t ≡ false) where
        marks_next : marks_behind qs c before rest ≡ mark (point_in v.graph u) (point_in v.graph w) c ∷ marks_behind qs c (Some t) us
        marks_next = ap (marks_behind qs c before) next ∙ new_edge_next qs c before t us apart ∙ ap (λ m. m ∷ marks_behind qs c (Some t) us) (marked c)

        pub edge_may : IsSound (part_step (drawn_graph g.graph (curves_on q)) g.graph u w c) (drawn_graph g.graph (curves_on q))
        edge_may = part_sound v (curves_on p) _ _ g (curves_on q) i.going u w c _ marks_next

        pub edge_comes : (x : MapView) (r : Past) (new : BusRow) → IsStrandRun g.graph q (hold_step (mark (point_in g.graph u) (point_in g.graph w) (strand c (suc t.side))) ∷ []) x.graph r → IsToldRun g (curves_on q) now (part_step (drawn_graph g.graph (curves_on q)) g.graph u w c ∷ []) x (curves_on r) new → AreInStep x (curves_on r) new → x.graph.vertices ≡ g.graph.vertices → AreComing v p old c ms ts (Some t) us x r new
        edge_comes x r new h told n e = record {
          going = goes_on v (curves_on p) _ _ g (curves_on q) i.going u w c _ marks_next x (curves_on r) new told n e;
          held = held_then x r h;
          there = λ s o. subst (λ z. Member (edge_mark qs c z) (drawn_graph x.graph (curves_on r)).marks) (same_Some _ _ o) (subst (λ m. Member m (drawn_graph x.graph (curves_on r)).marks) (sym (marked c)) (comes v (curves_on p) _ _ g (curves_on q) i.going u w c _ marks_next x (curves_on r) new told));
          new = new_then x r h;
          order = order_here.1;
        }
