-- The meeting points inside an edge, and those from which the segment goes on along it, are two at most for each edge that the segment meets, and none for another.
use Rattle.std.proofs.Common.{◌≡◌, ◌⊎◌, ℕ, ◌+◌, ◌*◌, ◌≤◌, Bool, true, false, cond, arith, is_eq, List, [], ◌∷◌, length, refl, sym, ap, ◌∙◌, subst, inl, inr, ⊎_elim}
use Rattle.std.specs.Prelude.{nat_lt}
use Rattle.std.specs.List.{count_by, sum_by}
use Rattle.std.proofs.lemmas.Bool.{cases_Bool}
use Rattle.std.proofs.lemmas.List.Sums.{sum_by-cons}
use Rattle.std.specs.declared.cmp.Ordering.TheVariants.{Less}
use Rattle.integers.proofs.Decisions.{or_out}
use Rattle.exact_plane.specs.Line.{Line}
use Rattle.exact_plane.specs.Point.{Point}
use Rattle.plane_graphs.specs.Graph.{Edge}
use Rattle.exact_plane.specs.PointOrder.{point_cmp}
use Rattle.exact_plane.specs.PointOrderLaws.{and_true, same_point}
use Rattle.exact_plane.specs.Segment.{Segment, line_of_segment}
use Rattle.integers.proofs.Tests.{is_equal, not_true}
use Rattle.plane_graphs.specs.Ascending.{Member, IsAscending}
use Rattle.plane_graphs.specs.Line.{IsProper, precedes, are_parallel, crossing}
use Rattle.plane_graphs.proofs.Ascending.{All-member, from_member}
use Rattle.plane_graphs.proofs.Lists.{and_in, or_left, or_right, clash}
use Rattle.plane_graphs.proofs.Marks.{le_lt_lt, lt_le_lt}
use Rattle.plane_graphs.proofs.Order.{Lt, lt_out, lt_in, lt_never, lt_trans, Tri, tri}
use Rattle.plane_graphs.proofs.Order.Tri.{less, same, more}
use Rattle.slab_laws.specs.declared.names.DartId.{DartId}
use Rattle.slab_laws.specs.Skeleton.{inside}
use Rattle.slab_laws.specs.Sound.{edge_in, IsGraphSound}
use Rattle.slab_laws.specs.Tables.{names}
use Rattle.slab_laws.specs.View.{View, HasDart, dart_id, point_in, source_in, target_in, line_in}
use Rattle.arr_notes.specs.Curves.{IsForward, is_forward}
use Rattle.arr_notes.specs.CycleNames.{dart_names}
use Rattle.exact_plane.proofs.Meetings.{same_line-is}
use Rattle.locate_naive.proofs.Within.{dart_in_out}
use Rattle.slab_faces.proofs.Sums.{sum_by-plus}
use Rattle.plane_graphs.proofs.Lists.{of_map}
use Rattle.sound_views.proofs.NameTables.{name_has}
use Rattle.zone_walk.specs.Walk.{goes_on, stop_looks}
use Rattle.zone_walk.specs.Zone.{meeting_points, passes, degree_at, has_point, edges_met, are_one}
use Rattle.zone_walk.proofs.Aheads.{no_vertex_inside, one_inside}
use Rattle.zone_walk.proofs.Courses.{IsCourse, LiesOn, lies_in, one_line, line-itself, parallel_itself}
use Rattle.zone_walk.proofs.LineCrossings.{is_crossing}
use Rattle.zone_walk.proofs.MeetingPoints.{MeetsAt, lower, upper, vertex, passed, IsPassed, passes_out, passes_one, meetings_ascend}
use Rattle.zone_walk.proofs.Stretches.{forward_one, told, meets_lies, meets_proper}

-- ---- sums
count_step : {X : Type 0} (q : X → Bool) (x : X) (xs : List X) → count_by q (x ∷ xs) ≡ cond {A = ℕ} (q x) 1 0 + count_by q xs
count_step q x xs = sum_by-cons (λ y. cond (q y) 1 0) x xs

-- no column, or one more
module _ {X Y : Type 0} (R : X → Y → Bool) (T : Y → Bool) where
  -- all rows of a column count two at most, and none where T fails
  abbrev Fits : List X → Y → Type 0
  Fits xs y = count_by (λ x. R x y) xs ≤ 2 * cond {A = ℕ} (T y) 1 0

  add_column : (y : Y) (ys : List Y) (xs : List X) → sum_by (λ x. count_by (R x) (y ∷ ys)) xs ≡ count_by (λ x. R x y) xs + sum_by (λ x. count_by (R x) ys) xs
  add_column y ys [] = refl
  add_column y ys (x ∷ xs) =
      let a = sum_by-cons (λ z. count_by (R z) (y ∷ ys)) x xs in
      let b = count_step (R x) y ys in
      let c = count_step (λ z. R z y) x xs in
      let d = sum_by-cons (λ z. count_by (R z) ys) x xs in
      let e = add_column y ys xs in
      omega arith

  no_columns : (xs : List X) → sum_by (λ x. count_by (R x) []) xs ≡ 0
  no_columns [] = refl
  no_columns (x ∷ xs) = let a = sum_by-cons (λ z. count_by (R z) []) x xs in let b = no_columns xs in omega arith

  pub by_columns : (xs : List X) (ys : List Y) → ((y : Y) → Member y ys → Fits xs y) → sum_by (λ x. count_by (R x) ys) xs ≤ 2 * count_by T ys
  by_columns xs [] f = let a = no_columns xs in omega arith
  by_columns xs (y ∷ ys) f =
      let a = add_column y ys xs in
      let b = by_columns xs ys (λ z m. f z (inr m)) in
      let c = f y (inl refl) in
      let d = count_step T y ys in
      omega arith

-- ---- in an ascending list, those that are one of two points count two at most
module _ (q : Point → Bool) where
  none_counted : (ps : List Point) → ((p : Point) → Member p ps → q p ≡ true → ⊥) → count_by q ps ≡ 0
  none_counted [] f = refl
  none_counted (p ∷ ps) f =
      let a = count_step q p ps in
      let b : cond {A = ℕ} (q p) 1 0 ≡ 0 = ap (λ (z : Bool). cond {A = ℕ} z 1 0) (not_true (q p) (f p (inl refl))) in
      let c = none_counted ps (λ r m. f r (inr m)) in
      omega arith

  at_most_one : (z : Bool) → cond {A = ℕ} z 1 0 ≤ 1
  at_most_one true = omega arith
  at_most_one false = omega arith

  after_it : (p : Point) (ps : List Point) → IsAscending point_cmp (p ∷ ps) → (r : Point) → Member r ps → Lt p r
  after_it p ps a r m = record { is = All-member (λ x. point_cmp p x ≡ Less) r ps a.0 m }

  one_counted : (a : Point) (ps : List Point) → IsAscending point_cmp ps → ((p : Point) → Member p ps → q p ≡ true → p ≡ a) → count_by q ps ≤ 1
  one_counted a [] up f = omega arith
  one_counted a (p ∷ ps) up f = by (one_counted a ps up.1 (λ r m h. f r (inr m) h)) (cases_Bool (q p))
    where
      by : count_by q ps ≤ 1 → (q p ≡ true) ⊎ (q p ≡ false) → count_by q (p ∷ ps) ≤ 1
      by i (inl t) =
          let b = count_step q p ps in
          let c = at_most_one (q p) in
          let d = none_counted ps (λ r m h. lt_never (subst (Lt p) (f r (inr m) h ∙ sym (f p (inl refl) t)) (after_it p ps up r m))) in
          omega arith
      by i (inr n) =
          let b = count_step q p ps in
          let c : cond {A = ℕ} (q p) 1 0 ≡ 0 = ap (λ (z : Bool). cond {A = ℕ} z 1 0) n in
          omega arith

  other : (x y p r : Point) → Lt p r → p ≡ x → (r ≡ x) ⊎ (r ≡ y) → r ≡ y
  other x y p r l e (inl i) = absurd (lt_never (subst (Lt p) (i ∙ sym e) l))
  other x y p r l e (inr i) = i

  swap : {A B : Type 0} → A ⊎ B → B ⊎ A
  swap (inl a) = inr a
  swap (inr b) = inl b

  two_counted : (x y : Point) (ps : List Point) → IsAscending point_cmp ps → ((p : Point) → Member p ps → q p ≡ true → (p ≡ x) ⊎ (p ≡ y)) → count_by q ps ≤ 2
  two_counted x y [] up f = omega arith
  two_counted x y (p ∷ ps) up f = by (two_counted x y ps up.1 (λ r m h. f r (inr m) h)) (cases_Bool (q p))
    where
      first : (p ≡ x) ⊎ (p ≡ y) → count_by q ps ≤ 1
      first (inl e) = one_counted y ps up.1 (λ r m h. other x y p r (after_it p ps up r m) e (f r (inr m) h))
      first (inr e) = one_counted x ps up.1 (λ r m h. other y x p r (after_it p ps up r m) e (swap (f r (inr m) h)))

      by : count_by q ps ≤ 2 → (q p ≡ true) ⊎ (q p ≡ false) → count_by q (p ∷ ps) ≤ 2
      by i (inl t) =
          let b = count_step q p ps in
          let c = at_most_one (q p) in
          let d = first (f p (inl refl) t) in
          omega arith
      by i (inr n) =
          let b = count_step q p ps in
          let c : cond {A = ℕ} (q p) 1 0 ≡ 0 = ap (λ (z : Bool). cond {A = ℕ} z 1 0) n in
          omega arith

some_length : (xs : List Point) (p : Point) → xs ≡ p ∷ [] → nat_lt 0 (length xs) ≡ true
some_length xs p e = ap (λ (ys : List Point). nat_lt 0 (length ys)) e

module _ (v : View) (s : IsGraphSound v) (g : Segment) (c : IsCourse g) where
  abbrev line : Line
  line = line_of_segment g

  -- ---- one forward dart
  module _ (d : DartId) (F : IsForward v d) where
    abbrev from : Point
    from = point_in v (source_in v d)

    abbrev to : Point
    to = point_in v (target_in v d)

    Counted : Point → Type 0
    Counted p = (inside (edge_in v d) p ≡ true) ⊎ ((line_in v d ≡ line) × (from ≡ p) × Lt p g.upper)

    counted : (p : Point) → goes_on v g p d ≡ true → Counted p
    unfolding Counted
    counted p h =
        let a = and_true (is_forward v d) _ h in
        elim (or_out (inside (edge_in v d) p) _ a.1) [
          | inl i ↦ inl i
          | inr o ↦
              let b = and_true (are_one line (line_in v d)) _ o in
              let e = and_true (is_eq (point_cmp from p)) (precedes p g.upper) b.1 in
              inr (sym (same_line-is line (line_in v d) b.0), same_point from p (is_equal (point_cmp from p) e.0), lt_out p g.upper e.1)
        ]

    module _ (p : Point) (m : MeetsAt v g p) where
      on : LiesOn g p
      on = meets_lies v s g c p m

      proper : IsProper p
      proper = meets_proper v s g c p m

      -- on another line it is the crossing
      crossed : inside (edge_in v d) p ≡ true → (line_in v d ≡ line → ⊥) → IsPassed v g d p
      crossed i other_line =
          let w = dart_in_out v s d p F proper i in
          let z : are_parallel line (line_in v d) ≡ false = not_true (are_parallel line (line_in v d)) (λ y. other_line (sym (one_line line (line_in v d) p c.line (s.drawn.line d F.0) proper on.on w.on y))) in
          record { crosses = z; crossing = is_crossing line (line_in v d) z p proper on.on w.on; on_segment = lies_in g p on; inner = i }

      -- along the segment it is one of its ends
      ended : inside (edge_in v d) p ≡ true → line_in v d ≡ line → (p ≡ g.lower) ⊎ (p ≡ g.upper)
      ended i e = by m
        where
          by : MeetsAt v g p → (p ≡ g.lower) ⊎ (p ≡ g.upper)
          by (lower k) = inl k
          by (upper k) = inr k
          by (vertex w hw k o) = absurd (no_vertex_inside v s d w F.0 hw (ap (inside (edge_in v d)) (sym k) ∙ i))
          by (passed x hx n) =
              let z = passes_out v g x p n in
              let f = forward_one v s x hx in
              let one : f.dart ≡ d = one_inside v s f.dart d p f.forward F proper (ap (λ (y : Edge). inside y p) f.edge ∙ z.inner) i in
              clash (parallel_itself line (line_in v x) (sym e ∙ ap (line_in v) (sym one) ∙ f.line)) z.crosses

      -- where it is counted the edge has a point of the segment
      has_by : (b : Bool) → are_one line (line_in v d) ≡ b → Counted p → has_point v g d ≡ true
      unfolding Counted
      has_by true e (inl i) =
          let w = dart_in_out v s d p F proper i in
          and_in F.1 (or_right (nat_lt 0 (length (passes v g d))) _ (and_in e (and_in (lt_in (lt_le_lt w.after on.upto)) (lt_in (le_lt_lt on.from w.before)))))
      has_by false e (inl i) =
          let k = crossed i (λ q. clash (line-itself line (line_in v d) (sym q)) e) in
          and_in F.1 (or_left (nat_lt 0 (length (passes v g d))) _ (some_length (passes v g d) p (passes_one v g d p k)))
      has_by true e (inr w) =
          and_in F.1 (or_right (nat_lt 0 (length (passes v g d))) _ (and_in e (and_in (lt_in (subst (λ (x : Point). Lt x g.upper) (sym w.1) w.2)) (lt_in (le_lt_lt on.from (subst (λ (x : Point). Lt x to) w.1 (lt_out from to F.1)))))))
      has_by false e (inr w) = clash (line-itself line (line_in v d) (sym w.0)) e

    there : (p : Point) → Member p (meeting_points v g) → MeetsAt v g p
    there p m = told v s g c p (from_member (meeting_points v g) p m)

    pub none_for : has_point v g d ≡ false → count_by (λ p. goes_on v g p d) (meeting_points v g) ≡ 0
    none_for n = none_counted (λ p. goes_on v g p d) (meeting_points v g) (λ p m h. clash (has_by p (there p m) (are_one line (line_in v d)) refl (counted p h)) n)

    own_ends : line_in v d ≡ line → Tri g.lower from → (x : Point) × (y : Point) × ((p : Point) → MeetsAt v g p → Counted p → (p ≡ x) ⊎ (p ≡ y))
    unfolding Counted
    own_ends e (less l) = (from, g.upper, first)
      where
        first : (p : Point) → MeetsAt v g p → Counted p → (p ≡ from) ⊎ (p ≡ g.upper)
        first p m (inr w) = inl (sym w.1)
        first p m (inl i) = ⊎_elim (λ k. absurd (lt_never (lt_trans l (subst (Lt from) k (dart_in_out v s d p F (proper p m) i).after)))) (λ k. inr k) (ended p m i e)
    own_ends e (same q) = (from, g.upper, first)
      where
        first : (p : Point) → MeetsAt v g p → Counted p → (p ≡ from) ⊎ (p ≡ g.upper)
        first p m (inr w) = inl (sym w.1)
        first p m (inl i) = ⊎_elim (λ k. absurd (lt_never (subst (Lt from) (k ∙ q) (dart_in_out v s d p F (proper p m) i).after))) (λ k. inr k) (ended p m i e)
    own_ends e (more l) = (g.lower, g.upper, first)
      where
        first : (p : Point) → MeetsAt v g p → Counted p → (p ≡ g.lower) ⊎ (p ≡ g.upper)
        first p m (inr w) = absurd ((on p m).from.never (subst (λ (x : Point). Lt x g.lower) w.1 l))
        first p m (inl i) = ended p m i e

    two_by : (b : Bool) → are_one line (line_in v d) ≡ b → count_by (λ p. goes_on v g p d) (meeting_points v g) ≤ 2
    unfolding Counted
    two_by true e =
        let w = own_ends (sym (same_line-is line (line_in v d) e)) (tri g.lower from) in
        two_counted (λ p. goes_on v g p d) w.0 w.1 (meeting_points v g) (meetings_ascend v g) (λ p m h. w.2 p (there p m) (counted p h))
    two_by false e =
        two_counted (λ p. goes_on v g p d) (crossing line (line_in v d)) (crossing line (line_in v d)) (meeting_points v g) (meetings_ascend v g) (λ p m h. inl (only p (there p m) (counted p h)))
      where
        only : (p : Point) → MeetsAt v g p → Counted p → p ≡ crossing line (line_in v d)
        only p m (inl i) = (crossed p m i (λ q. clash (line-itself line (line_in v d) (sym q)) e)).crossing
        only p m (inr w) = clash (line-itself line (line_in v d) (sym w.0)) e

    pub two_for : count_by (λ p. goes_on v g p d) (meeting_points v g) ≤ 2
    two_for = two_by (are_one line (line_in v d)) refl

  -- ---- any dart
  backward_none : (d : DartId) → is_forward v d ≡ false → count_by (λ p. goes_on v g p d) (meeting_points v g) ≡ 0
  backward_none d n = none_counted (λ p. goes_on v g p d) (meeting_points v g) (λ p m h. clash (and_true (is_forward v d) _ h).0 n)

  dart_there : (d : DartId) → Member d (dart_names v) → HasDart v d
  dart_there d m = let w = of_map dart_id d (names v.darts) m in subst (HasDart v) (sym w.2) (name_has v.darts w.0 w.1)

  fits : (d : DartId) → Member d (dart_names v) → count_by (λ p. goes_on v g p d) (meeting_points v g) ≤ 2 * cond {A = ℕ} (has_point v g d) 1 0
  fits d m = by (cases_Bool (is_forward v d)) (cases_Bool (has_point v g d))
    where
      by : (is_forward v d ≡ true) ⊎ (is_forward v d ≡ false) → (has_point v g d ≡ true) ⊎ (has_point v g d ≡ false) → count_by (λ p. goes_on v g p d) (meeting_points v g) ≤ 2 * cond {A = ℕ} (has_point v g d) 1 0
      by (inr n) h = let a = backward_none d n in omega arith
      by (inl f) (inr n) = let a = none_for d (dart_there d m, f) n in omega arith
      by (inl f) (inl t) =
          let a = two_for d (dart_there d m, f) in
          let b : cond {A = ℕ} (has_point v g d) 1 0 ≡ 1 = ap (λ (z : Bool). cond {A = ℕ} z 1 0) t in
          omega arith

  pub looks_fit : sum_by (stop_looks v g) (meeting_points v g) ≤ sum_by (degree_at v) (meeting_points v g) + 2 * edges_met v g
  looks_fit =
      let a = sum_by-plus (degree_at v) (λ p. count_by (goes_on v g p) (dart_names v)) (meeting_points v g) in
      let b = by_columns (goes_on v g) (has_point v g) (meeting_points v g) (dart_names v) fits in
      omega arith
