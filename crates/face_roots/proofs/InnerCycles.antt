-- An inner cycle has, at its least vertex, the first dart out of a vertex where something starts. In the slab on the left of that vertex the cycle has no edge, so its
-- parity is even there; going round the vertex clockwise it stays even up to the first edge with a dart of the cycle, whose dart out must then be on the cycle.
use Rattle.std.proofs.Common.{◌≡◌, ℕ, zero, suc, ◌+◌, ◌<◌, ◌≤◌, Bool, true, false, cond, arith, refl, sym, ap, ◌∙◌, subst, ◌⊎◌, inl, inr}
use Rattle.std.specs.Prelude.{pos, not, ◌&&◌, ◌%◌, ◌≢◌}
use Rattle.std.specs.Ordering.{ordering_then, is_lt}
use Rattle.std.specs.List.{count_by, Contains}
use Rattle.std.proofs.lemmas.Int.{ints, by_lt_z}
use Rattle.std.proofs.lemmas.Bool.{false≢true, and_parts, and_from, or_left, or_right, false_from_ne_true, cases_Bool, cases_lt, lt-ltb, le-leb, lt-leb, ltb-true}
use lib.Dec.{ltb, leb}
use lib.IntN.{*ℤ-zero}
use Rattle.exact_plane.specs.Point.{Point}
use Rattle.exact_plane.specs.PointOrder.{point_cmp}
use Rattle.plane_graphs.specs.Graph.{Edge}
use Rattle.plane_graphs.proofs.Ascending.{to_member, from_member}
use Rattle.plane_graphs.proofs.Order.{Lt}
use Rattle.slab_laws.specs.Skeleton.{Skeleton, IsPlaneSkeleton, left_of, lower_than, precedes, run, side, over, same_point}
use Rattle.slab_laws.specs.Slabs.{spans, place, reaches_left, reaches_right, slab_left, slab_right, left_count}
use Rattle.slab_laws.specs.Weights.{Even, IsEvenAtVertices, weight_above, left_weight, right_weight, cover_weight}
use Rattle.slab_laws.specs.Meets.{covers_above}
use Rattle.slab_laws.specs.Darts.{Dart, darts, IsOut, IsTurn, on, round, ahead, back, source, target, start, class, kind, cell_of, cell_by, by_class, on_right}
use Rattle.slab_laws.specs.Cycles.{dart_labels, darts_on, left_of_dart, odd}
use Rattle.slab_laws.specs.Rotation.{twin, next, earlier, same_dart, OutOf}
use Rattle.slab_laws.specs.Rows.{least_dart_of}
use Rattle.slab_faces.proofs.Next.{level_at_lower}
use Rattle.slab_faces.proofs.Ints.{times_less}
use Rattle.slab_faces.proofs.Sums.{each, sum_by-same, sum_by-none, fewer_than}
use Rattle.slab_faces.proofs.Found.{found}
use Rattle.slab_faces.proofs.Shift.{sum_by-shift}
use Rattle.slab_faces.proofs.Parity.{parity_wall, same_point_is, same_point_refl}
use Rattle.slab_faces.proofs.Walls.{run_positive, left_of-irrefl, side-lower}
use Rattle.slab_faces.proofs.Order.{below_from, gap-on_e, gap-on_f, gap-swap}
use Rattle.slab_faces.proofs.Cells.{right_side, spans_right, left_side, cell_weight}
use Rattle.slab_faces.proofs.Slabs.{place_less, no_order, through, by_gap, below_at}
use Rattle.slab_faces.proofs.OverUnder.{over_in, positive_not_over, zero_not_over}
use Rattle.slab_faces.proofs.Nudge.{right_inside, is_slab_right}
use Rattle.slab_faces.proofs.Along.{covers_parts}
use Rattle.slab_faces.proofs.Turns.{on_own_wall}
use Rattle.slab_faces.proofs.EveryFace.{passing}
use Rattle.slab_faces.proofs.NextLemmas.{darts_exact, dart_in, next_from, next_follows, turn_of, start_in}
use Rattle.slab_faces.proofs.CyclesLemmas.{is_set, one_to_one, one_cycle, cycle_even}
use Rattle.slab_faces.proofs.CyclesOfFaces.{cycle_across_edge}
use Rattle.slab_faces.proofs.DartOrder.{lead_lead}
use Rattle.slab_faces.proofs.RingLemmas.{IsRound}
use Rattle.slab_faces.proofs.RotationLemmas.{round_at, earlier_in, earlier_out}
use Rattle.sound_views.proofs.CycleDartOrder.{lead_not_after, lead_in}
use Rattle.sound_changes.specs.NextLaws.{IsDartOf}
use Rattle.face_changes.specs.Kinds.{is_outer}
use Rattle.face_changes.proofs.OneToOneMaps.{tally}
use Rattle.face_changes.proofs.LinkedCycles.{dart_there, there_dart}
use Rattle.face_changes.proofs.CycleParities.{on_edge, same_is}
use Rattle.face_changes.proofs.OneMoreEdge.{odd_yes, one_kind_each}
use Rattle.face_roots.specs.CycleLinks.{IsStart, IsFirstOut}
use Rattle.face_roots.proofs.PointOrder.{before}
use Rattle.face_roots.proofs.StartFaces.{goes_forward}

nothing : (b : Bool) (n : ℕ) → (b ≡ true → n ≡ 0) → cond {A = ℕ} b n 0 ≡ 0
nothing true n h = h refl
nothing false n h = refl

same_if : (b c : Bool) (n : ℕ) → (n ≢ 0 → b ≡ c) → cond {A = ℕ} b n 0 ≡ cond c n 0
same_if b c zero h = zeros b ∙ sym (zeros c)
  where
    zeros : (b : Bool) → cond {A = ℕ} b 0 0 ≡ 0
    zeros true = refl
    zeros false = refl
same_if b c (suc n) h = ap (λ x. cond {A = ℕ} x (suc n) 0) (h (λ e. absurd (omega arith)))

tally_pos : (b : Bool) → b ≡ true → tally b ≡ 1
tally_pos b h = ap tally h

module _ (g : Skeleton) (plane : IsPlaneSkeleton g) where
  -- an edge's lower end comes before its upper end
  pub rises : (e : Edge) → Contains g.edges e → precedes e.low e.high ≡ true
  rises e E = elim (cases_Bool (left_of e.low e.high)) [
    | inl a ↦ or_left _ _ a
    | inr a ↦ or_right (left_of e.low e.high) _ (and_from _ _ (ap not (plane.forward e E)) (plane.upright e E (rw (a, plane.forward e E) refl)))
  ]

  -- the dart before one on its cycle
  previous : (a : Dart) → IsDartOf g a → (p : Dart) × IsDartOf g p × (next (darts g) p ≡ a)
  previous a A =
      let s = sum_by-shift same_dart (next (darts g)) (λ x. tally (same_dart a x)) (darts g) (is_set g plane) (one_to_one g plane) in
      let n = (is_set g plane).once a (dart_there g a A) in
      let w = found (λ x. same_dart a (next (darts g) x)) (darts g) (omega arith) in
      (w.0, there_dart g w.0 w.1, sym (darts_exact.path a _ w.2))

  module _ (d : Dart) (D : IsDartOf g d) where
    l : Dart
    l = least_dart_of g d

    v : Point
    v = source l

    m : Edge → ℕ
    m e = darts_on (dart_labels (darts g)) l e

    lead_there : IsDartOf g l
    unfolding l
    lead_there = there_dart g _ (from_member (darts g) _ (lead_in g plane d (to_member (darts g) d (dart_there g d D))))

    pub lead_vertex : Contains g.vertices (source (least_dart_of g d))
    unfolding l
    lead_vertex = start_in g (least_dart_of g d).edge (least_dart_of g d).forward plane lead_there

    lead_own : least_dart_of g l ≡ l
    unfolding l
    lead_own = lead_lead g d

    vertex : Contains g.vertices v
    unfolding v
    vertex = start_in g l.edge l.forward plane lead_there

    weighs : (e : Edge) → m e ≡ tally (same_dart (least_dart_of g (ahead e)) l) + tally (same_dart (least_dart_of g (back e)) l)
    unfolding m
    weighs e = on_edge g l e

    -- no dart of the cycle goes out of, or into, a vertex before v
    off : (k : Dart) → Lt (source k) v → same_dart (least_dart_of g k) l ≡ false
    unfolding v
    off k h = false_from_ne_true _ (λ s.
        let q = darts_exact.path (least_dart_of g k) l s in
        let n : is_lt (ordering_then (point_cmp (source k) (source l)) (point_cmp (target k) (target l))) ≡ false = subst (λ z. is_lt (ordering_then (point_cmp (source k) (source z)) (point_cmp (target k) (target z))) ≡ false) q (lead_not_after g k) in
        false≢true (sym n ∙ ap (λ o. is_lt (ordering_then o (point_cmp (target k) (target l)))) h.is))

    off_target : (k : Dart) → IsDartOf g k → Lt (target k) v → same_dart (least_dart_of g k) l ≡ false
    off_target k K h =
        ap (λ z. same_dart z l) (one_cycle g k (dart_in g k.edge k.forward K)) ∙ off (next (darts g) k) (subst (λ u. Lt u v) (sym ((next_from g k plane K).at)) h)

    light_low : (e : Edge) → Contains g.edges e → precedes e.low v ≡ true → m e ≡ 0
    light_low e E h =
        let b = before e.low v (plane.proper_edge e E).0 (plane.proper v vertex) h in
        weighs e ∙ (λ i. tally (off (ahead e) b i) + tally (off_target (back e) E b i))

    even : IsEvenAtVertices g m
    unfolding m
    even = cycle_even g l plane

    -- on the left of v the cycle has no edge
    left_light : left_weight g m v ≡ 0
    left_light =
        sum_by-same (λ e. cond (reaches_left e v && over e v) (m e) 0) (λ e. 0) g.edges (each (λ e. cond {A = ℕ} (reaches_left e v && over e v) (m e) 0 ≡ 0) g.edges (λ e E. nothing _ (m e) (λ h.
        light_low e E (or_left _ _ (and_parts (left_of e.low v) (not (left_of e.high v)) (and_parts (reaches_left e v) (over e v) h).0).0)))) ∙ sum_by-none g.edges

    left_even : weight_above g m (slab_left g v) (left_count g v) ≡ 0
    left_even = cell_weight g m v (slab_left g v) (λ e. reaches_left e v) plane (left_side g v plane (on_own_wall g v plane vertex)) ∙ left_light

    -- ---- a dart out of v before which, clockwise, no edge has a dart of the cycle
    abbrev IsLight : Dart → Type 0
    IsLight a = (c : Dart) → OutOf g v c → earlier c a ≡ true → m c.edge ≡ 0

    -- it goes forward, if its own edge has one
    forward_if : (a : Dart) → OutOf g v a → m a.edge ≢ 0 → a.forward ≡ true
    forward_if a o h = go a.forward refl
      where
        go : (b : Bool) → a.forward ≡ b → b ≡ true
        go true q = refl
        go false q = absurd (h (light_low a.edge o.in' (subst (λ u. precedes a.edge.low u ≡ true) (subst (λ f. start a.edge f ≡ v) q o.at) (rises a.edge o.in'))))

    -- ---- on its left the parity is even: above it, beside v, are the same edges of the cycle as above v
    module _ (e : Edge) (E : Contains g.edges e) (at_v : e.low ≡ v) (long : left_of e.low e.high ≡ true) (light : IsLight (ahead e)) where
      i : ℕ
      i = slab_right g v

      on_v : side e v ≡ pos 0
      on_v = subst (λ u. side e u ≡ pos 0) at_v (side-lower e)

      reach_e : reaches_right e v ≡ true
      reach_e = subst (λ u. reaches_right e u ≡ true) at_v (and_from _ _ (ap not (left_of-irrefl e.low)) long)

      spans_e : spans g i e ≡ true
      unfolding i
      spans_e = spans_right g v e plane (on_own_wall g v plane vertex) E ∙ reach_e

      second : class e true ≡ 2
      second = ap (λ x. kind x true) long

      above_or_not : (f : Edge) → Contains g.edges f → reaches_right f v ≡ true → m f ≢ 0 → leb (place g i e + 1) (place g i f) ≡ over f v
      unfolding i
      above_or_not f F r w =
          let wall = on_own_wall g v plane vertex in
          let s = right_side g v plane wall in
          let P = s.passes f e F E r reach_e in
          let Q = s.passes e f E F reach_e r in
          let slab = is_slab_right g v plane wall in
          let sf = spans_right g v f plane wall F ∙ r in
          let G = gap-on_e f e v on_v in
          let H = gap-on_f e f v on_v in
          let z = *ℤ-zero (run e) in
          let re = run_positive e P.e_long in
          by_lt_z (side f v) (pos 0)
          (λ k. let t = times_less (run e) (side f v) (pos 0) re k in
          let b = below_from e f v Q (omega (arith, ints)) in
          let n = place_less g (slab_right g v) (right_inside g v) e f plane slab E F spans_e sf b in
          le-leb _ _ (omega arith) ∙ sym (over_in f v k))
          (λ k. by_lt_z (pos 0) (side f v)
          (λ k'. let t = times_less (run e) (pos 0) (side f v) re k' in
          let b = below_from f e v P (omega (arith, ints)) in
          let n = place_less g (slab_right g v) (right_inside g v) f e plane slab F E sf spans_e b in
          lt-leb _ _ (omega arith) ∙ sym (positive_not_over f v k'))
          (λ k'. let o : side f v ≡ pos 0 = omega (arith, ints) in
          let a = level_at_lower g f v plane F vertex r o in
          let M = right_inside g v in
          let tf = through g (slab_right g v) M f slab F sf in
          let te = through g (slab_right g v) M e slab E spans_e in
          let third : class f true ≡ 2 = ap (λ x. kind x true) (subst (λ u. left_of u f.high ≡ true) (sym a) (and_parts (not (left_of v f.low)) (left_of v f.high) r).1) in
          let n : place g (slab_right g v) f < place g (slab_right g v) e + 1 = by_gap g f e M plane F E slab.proper tf te
          (λ u. let y = place_less g (slab_right g v) M f e plane slab F E sf spans_e (below_at g f e M plane F E slab.proper tf te u) in omega arith)
          (λ u. let S = gap-swap f e M in
          let b = below_at g e f M plane E F slab.proper te tf (omega (arith, ints)) in
          absurd (w (light (ahead f) (record { in' = F; at = a }) (earlier_in (ahead f) (ahead e) (on_right third second b)))))
          (λ u. let y : place g (slab_right g v) f ≡ place g (slab_right g v) e = ap (place g (slab_right g v)) u in omega arith) in
          lt-leb _ _ n ∙ sym (zero_not_over f v o)))

      right_same : weight_above g m i (place g i e + 1) ≡ right_weight g m v
      unfolding i
      right_same =
          sum_by-same (λ f. cond (spans g i f && leb (place g i e + 1) (place g i f)) (m f) 0) (λ f. cond (reaches_right f v && over f v) (m f) 0) g.edges
          (each (λ f. cond {A = ℕ} (spans g i f && leb (place g i e + 1) (place g i f)) (m f) 0 ≡ cond (reaches_right f v && over f v) (m f) 0) g.edges (λ f F.
          same_if _ _ (m f) (λ w. elim (cases_Bool (reaches_right f v)) [
            | inl r ↦ rw (spans_right g v f plane (on_own_wall g v plane vertex) F, r) (above_or_not f F r w)
            | inr r ↦ rw (spans_right g v f plane (on_own_wall g v plane vertex) F, r) refl
          ])))

      -- no edge of the cycle goes straight up from v
      cover_light : cover_weight g m v ≡ 0
      cover_light =
          sum_by-same (λ f. cond (covers_above f v) (m f) 0) (λ f. 0) g.edges (each (λ f. cond {A = ℕ} (covers_above f v) (m f) 0 ≡ 0) g.edges (λ f F. nothing _ (m f) (λ h.
          let c = covers_parts f v h in
          let u = c.0 in
          elim (cases_Bool (lower_than f.low v)) [
            | inl k ↦ light_low f F (or_right (left_of f.low v) _ (and_from _ _ (ap not u.lower_2) k))
            | inr k ↦
                let a = plane.distinct f.low v (plane.lower_in f F) vertex (no_order f.low v u.lower_1 u.lower_2 k) (no_order v f.low u.lower_2 u.lower_1 c.1.0) in
                let third : class f true ≡ 1 = ap (λ x. kind x true) (subst (λ w. left_of w f.high ≡ false) (sym a) u.upper_2) in
                light (ahead f) (record { in' = F; at = a }) (earlier_in (ahead f) (ahead e) (by_class (let s = second in omega arith)))
          ]))) ∙ sum_by-none g.edges

      right_even : Even (weight_above g m (slab_right g v) (place g (slab_right g v) e + 1))
      unfolding i
      right_even =
          let p = parity_wall g m v plane even (plane.proper v vertex) in
          let a = left_light in
          let b = cover_light in
          let c = right_same in
          omega arith

    light_even : (e : Edge) → Contains g.edges e → e.low ≡ v → IsLight (ahead e) → Even (weight_above g m (cell_of g e true).slab (cell_of g e true).place)
    light_even e E at light = go (left_of e.low e.high) refl
      where
        go : (b : Bool) → left_of e.low e.high ≡ b → Even (weight_above g m (cell_by g e b true).slab (cell_by g e b true).place)
        go true q = subst (λ u. Even (weight_above g m (slab_right g u) (place g (slab_right g u) e + 1))) (sym at) (right_even e E at q light)
        go false q = let z = subst (λ u. weight_above g m (slab_left g u) (left_count g u) ≡ 0) (sym at) left_even in omega arith

    -- ---- the first dart out of v whose edge has a dart of the cycle
    around : IsRound earlier (OutOf g v)
    around = round_at g v plane vertex

    out_of : (c : Dart) → Contains (darts g) c → same_point (source c) v ≡ true → OutOf g v c
    out_of c C h = record { in' = there_dart g c C; at = same_point_is (source c) v h }

    at_source : (c : Dart) → OutOf g v c → same_point (source c) v ≡ true
    at_source c o = subst (λ u. same_point (source c) u ≡ true) o.at (same_point_refl (source c))

    before_it : Dart → ℕ
    before_it a = count_by (λ c. same_point (source c) v && earlier c a) (darts g)

    fewer_before : (c a : Dart) → OutOf g v c → OutOf g v a → earlier c a ≡ true → before_it c < before_it a
    unfolding before_it
    fewer_before c a oc oa h =
        fewer_than (λ e. same_point (source e) v && earlier e c) (λ e. same_point (source e) v && earlier e a) (darts g) c (dart_there g c oc.in')
        (false_from_ne_true _ (λ k. around.itself c oc (and_parts (same_point (source c) v) (earlier c c) k).1))
        (and_from _ _ (at_source c oc) h)
        (λ e E k. let p = and_parts (same_point (source e) v) (earlier e c) k in and_from _ _ p.0 (around.on e c a (out_of e E p.0) oc oa p.1 h))

    record IsFirstWithOne (a : Dart) : Type 0 where
      out : OutOf g v a
      weighty : m a.edge ≢ 0
      light : IsLight a

    first_step : (a : Dart) → OutOf g v a → m a.edge ≢ 0 → ((c : Dart) → OutOf g v c → m c.edge ≢ 0 → before_it c < before_it a → (x : Dart) × IsFirstWithOne x) → (x : Dart) × IsFirstWithOne x
    first_step a o w on' =
        let q : Dart → Bool = λ c. (same_point (source c) v && earlier c a) && ltb 0 (m c.edge) in
        elim (cases_lt 0 (count_by q (darts g))) [
          | inl k ↦
              let c = found q (darts g) k in
              let s = and_parts (same_point (source c.0) v && earlier c.0 a) (ltb 0 (m c.0.edge)) c.2 in
              let t = and_parts (same_point (source c.0) v) (earlier c.0 a) s.0 in
              let z = ltb-true 0 (m c.0.edge) s.1 in
              on' c.0 (out_of c.0 c.1 t.0) (λ n. absurd (omega arith)) (fewer_before c.0 a (out_of c.0 c.1 t.0) o t.1)
          | inr k ↦ (
            a,
            record {
              out = o;
              weighty = w;
              light = λ c oc h. elim (cases_lt 0 (m c.edge)) [
                | inl z ↦ (let y = passing q (darts g) c (dart_there g c oc.in') (and_from _ _ (and_from _ _ (at_source c oc) h) (lt-ltb 0 (m c.edge) z)) in absurd (omega arith))
                | inr z ↦ omega arith
              ];
            },
          )
        ]

    first_by : (n : ℕ) (a : Dart) → OutOf g v a → m a.edge ≢ 0 → before_it a ≤ n → (x : Dart) × IsFirstWithOne x
    first_by zero a o w h = first_step a o w (λ c oc wc k. absurd (omega arith))
    first_by (suc n) a o w h = first_step a o w (λ c oc wc k. first_by n c oc wc (omega arith))

    -- an edge with a dart of the cycle weighs something
    weighty_of : (k : Dart) → least_dart_of g k ≡ l → m k.edge ≢ 0
    weighty_of k q = go k.forward refl
      where
        on_it : (b : Bool) → k.forward ≡ b → same_dart (least_dart_of g (record { edge = k.edge; forward = b })) l ≡ true
        on_it b e = subst (λ f. same_dart (least_dart_of g (record { edge = k.edge; forward = f })) l ≡ true) e (same_is (least_dart_of g k) l q)

        go : (b : Bool) → k.forward ≡ b → m k.edge ≢ 0
        go true e = λ z. let w = weighs k.edge in let t = ap tally (on_it true e) in absurd (omega arith)
        go false e = λ z. let w = weighs k.edge in let t = ap tally (on_it false e) in absurd (omega arith)

    -- the least dart of a cycle goes forward
    pub lead_forward : (least_dart_of g d).forward ≡ true
    unfolding v l
    lead_forward = forward_if (least_dart_of g d) (record { in' = lead_there; at = refl }) (weighty_of (least_dart_of g d) lead_own)

    first_there : (x : Dart) × IsFirstWithOne x
    unfolding v
    first_there = first_by (before_it l) l (record { in' = lead_there; at = refl }) (weighty_of l lead_own) (omega arith)

    -- ---- an inner cycle: the first such dart is on the cycle, nothing ends at v, and it is the first of all
    across : (e : Edge) → Contains g.edges e → Even (weight_above g m (cell_of g e true).slab (cell_of g e true).place + weight_above g m (cell_of g e false).slab (cell_of g e false).place + m e)
    unfolding m
    across e E = cycle_across_edge g l e plane E

    outer_if : (k : Dart) → least_dart_of g k ≡ l → weight_above g m (left_of_dart g k).slab (left_of_dart g k).place % 2 ≡ 1 → is_outer g k ≡ true
    unfolding m
    outer_if k q h = subst (λ z. odd g (dart_labels (darts g)) z (left_of_dart g k) ≡ true) (sym q) (odd_yes g l (left_of_dart g k) h)

    module _ (inner : is_outer g d ≡ false) where
      same_kind : (k : Dart) → least_dart_of g k ≡ l → is_outer g k ≡ false
      unfolding l
      same_kind k q = one_kind_each.kind g k d plane q ∙ inner

      -- the dart out of v is on the cycle, since the parity is odd beyond an edge with one dart on it
      on_cycle : (e : Edge) → Contains g.edges e → e.low ≡ v → m e ≢ 0 → IsLight (ahead e) → least_dart_of g (ahead e) ≡ l
      on_cycle e E at w light =
          elim (cases_Bool (same_dart (least_dart_of g (ahead e)) l)) [
            | inl s ↦ darts_exact.path _ _ s
            | inr s ↦ elim (cases_Bool (same_dart (least_dart_of g (back e)) l)) [
              | inl t ↦
                  let a = weighs e in
                  let b = ap tally s in
                  let c = ap tally t in
                  let p = light_even e E at light in
                  let x = across e E in
                  let q = darts_exact.path _ _ t in
                  absurd (false≢true (sym (same_kind (back e) q) ∙ outer_if (back e) q (omega arith)))
              | inr t ↦
                  let a = weighs e in
                  let b = ap tally s in
                  let c = ap tally t in
                  absurd (w (omega arith))
            ]
          ]

      class_ahead : (e : Edge) → (class e true ≡ 1) ⊎ (class e true ≡ 2)
      class_ahead e = go (left_of e.low e.high) refl
        where
          go : (b : Bool) → left_of e.low e.high ≡ b → (class e true ≡ 1) ⊎ (class e true ≡ 2)
          go true q = inr (ap (λ x. kind x true) q)
          go false q = inl (ap (λ x. kind x true) q)

      class_back : (e : Edge) → (class e false ≡ 0) ⊎ (class e false ≡ 3)
      class_back e = go (left_of e.low e.high) refl
        where
          go : (b : Bool) → left_of e.low e.high ≡ b → (class e false ≡ 0) ⊎ (class e false ≡ 3)
          go true q = inl (ap (λ x. kind x false) q)
          go false q = inr (ap (λ x. kind x false) q)

      by_turn : (a b : Edge) → IsOut g v a true → IsOut g v b true → IsLight (ahead a) → m b ≢ 0 → IsTurn g v b a true true → IsStart g v × IsFirstOut g v (ahead a)
      by_turn a b oa ob light w (on e none) = absurd (w (light (ahead b) ob (earlier_in (ahead b) (ahead a) e)))
      by_turn a b oa ob light w (round last first) = (
        record {
          vertex = vertex;
          none_ends = λ e E q.
              let o : IsOut g v e false = record { in' = E; at = q } in
              elim (class_back e) [
                | inl z ↦ elim (class_ahead a) [ inl y ↦ first e false o (by_class (omega arith)) | inr y ↦ first e false o (by_class (omega arith)) ]
                | inr z ↦ elim (class_ahead b) [ inl y ↦ last e false o (by_class (omega arith)) | inr y ↦ last e false o (by_class (omega arith)) ]
              ];
        },
        record { out = oa; first = λ c C h. first c.edge c.forward C (earlier_out c (ahead a) h) },
      )

      pub record StartsThere : Type 0 where
        pub point : Point
        pub dart : Dart
        pub start : IsStart g point
        pub first : IsFirstOut g point dart
        pub same : least_dart_of g dart ≡ least_dart_of g d
        pub least : point ≡ source (least_dart_of g d)

      ahead_out : (x : Dart) → OutOf g v x → m x.edge ≢ 0 → IsOut g v x.edge true
      ahead_out x o w = subst (λ f. IsOut g v x.edge f) (forward_if x o w) o

      pub starts_there : StartsThere
      unfolding v l
      starts_there =
          let f = first_there.1 in
          let e = first_there.0.edge in
          let E = f.out.in' in
          let fw = forward_if first_there.0 f.out f.weighty in
          let oa = ahead_out first_there.0 f.out f.weighty in
          let light : IsLight (ahead e) = subst (λ k. IsLight (record { edge = e; forward = k })) fw f.light in
          let q = on_cycle e E oa.at f.weighty light in
          let p = previous (ahead e) E in
          let n = next_from g p.0 plane p.1 in
          let tv : target p.0 ≡ v = sym n.at ∙ ap source p.2 ∙ oa.at in
          let lp : least_dart_of g p.0 ≡ l = one_cycle g p.0 (dart_in g p.0.edge p.0.forward p.1) ∙ ap (least_dart_of g) p.2 ∙ q in
          let wb = weighty_of p.0 lp in
          let ob : OutOf g v (twin p.0) = record { in' = p.1; at = tv } in
          let fb = forward_if (twin p.0) ob wb in
          let t0 = turn_of g (target p.0) plane (start_in g p.0.edge (not p.0.forward) plane p.1) (twin p.0) (next (darts g) p.0) (next_follows g p.0 plane p.1) in
          let t1 : IsTurn g v p.0.edge (next (darts g) p.0).edge (not p.0.forward) (next (darts g) p.0).forward = subst (λ u. IsTurn g u p.0.edge (next (darts g) p.0).edge (not p.0.forward) (next (darts g) p.0).forward) tv t0 in
          let t2 : IsTurn g v p.0.edge e (not p.0.forward) true = subst (λ (z : Dart). IsTurn g v p.0.edge z.edge (not p.0.forward) z.forward) p.2 t1 in
          let t3 : IsTurn g v p.0.edge e true true = subst (λ k. IsTurn g v p.0.edge e k true) fb t2 in
          let r = by_turn e p.0.edge oa (ahead_out (twin p.0) ob wb) light wb t3 in
          record { point = v; dart = ahead e; start = r.0; first = r.1; same = q; least = refl }

    -- and where the cycle has the first dart out of its least vertex, at which nothing ends, it is inner
    not_odd : (k : Dart) → least_dart_of g k ≡ l → Even (weight_above g m (left_of_dart g k).slab (left_of_dart g k).place) → is_outer g k ≡ false
    unfolding m odd
    not_odd k q h = subst (λ z. odd g (dart_labels (darts g)) z (left_of_dart g k) ≡ false) (sym q) (rw h refl)

    pub inner_if : (x : Dart) → IsStart g (source (least_dart_of g d)) → IsFirstOut g (source (least_dart_of g d)) x → least_dart_of g x ≡ least_dart_of g d → is_outer g d ≡ false
    unfolding v l
    inner_if x s f q =
        let fw = goes_forward g plane (source (least_dart_of g d)) x s f.out in
        let at : x.edge.low ≡ source (least_dart_of g d) = subst (λ k. start x.edge k ≡ source (least_dart_of g d)) fw f.out.at in
        let light : IsLight (ahead x.edge) = λ c C h. absurd (f.first c C (subst (λ k. earlier c (record { edge = x.edge; forward = k }) ≡ true) (sym fw) h)) in
        let e = light_even x.edge f.out.in' at light in
        let e' : Even (weight_above g m (left_of_dart g x).slab (left_of_dart g x).place) = subst (λ k. Even (weight_above g m (cell_of g x.edge k).slab (cell_of g x.edge k).place)) (sym fw) e in
        one_kind_each.kind g d x plane (sym q) ∙ not_odd x q e'
