-- The finite list of meets over the stops of the walls, against meets over any point of a wall.
use Rattle.std.proofs.Common.{◌≡◌, ℕ, Bool, true, false, cond, arith, refl, sym, ap, subst, ◌∙◌, ◌⊎◌, inl, inr, List, [], ◌∷◌, ◌++◌, map}
use Rattle.std.specs.Prelude.{pos, ◌<ℤ◌, not, ◌&&◌, filter}
use Rattle.std.specs.List.{Contains, count_by}
use Rattle.std.proofs.lemmas.Int.{ints}
use Rattle.std.proofs.lemmas.Bool.{false≢true, and_parts, and_from, not-true, false_from_ne_true, cases_Bool}
use Rattle.exact_plane.specs.Point.{Point}
use Rattle.plane_graphs.specs.Graph.{Edge}
use Rattle.slab_laws.specs.Skeleton.{Skeleton, HasWeight, left_of, lower_than, on_wall, run, side, over, foot, IsPlaneSkeleton}
use Rattle.slab_laws.specs.Meets.{IsOnWall, IsOpenAbove, covers_above, Meets, across}
use Rattle.slab_laws.specs.Slabs.{slab_left, slab_right, reaches_left, reaches_right, left_count, right_count, left_cell, right_cell}
use Rattle.slab_laws.specs.declared.slab_cell.SlabCell.{SlabCell}
use Rattle.slab_faces.proofs.Sums.{each, sum_by-same, sum_by-none}
use Rattle.slab_faces.proofs.Walls.{left_of-irrefl, left_of-asym, left_of-before, left_of-after, lower_than-irrefl, lower_than-asym, lower_than-before, lower_than-after, on_wall_parts, run_positive, side_keeps}
use Rattle.slab_faces.proofs.Slabs.{IsThrough}
use Rattle.slab_faces.proofs.Along.{IsReach, left_reach, right_reach, covers_parts, side_below}
use Rattle.slab_faces.proofs.Turns.{foot_is_on, foot_before, foot_after, on_own_wall}
use Rattle.slab_faces.proofs.Corners.{same_before, same_after}
use Rattle.slab_laws.specs.Faces.{is_lowest, walls, passes, is_open, link_at, corner_links, foot_links, wall_links, links}
use Rattle.slab_faces.proofs.OverUnder.{not_over, weak_over}
use Rattle.slab_faces.proofs.Member.{Member, member_in, in_member, append_cases, append_left, append_right, filter_in, filter_out, map_in, map_out, flat_in, none_passes, none_passing}

-- ---- two points on one wall
pub record OneWall (s t : Point) : Type 0 where
  pub there : left_of s t ≡ false
  pub back : left_of t s ≡ false

wall_swap : (s t : Point) → OneWall s t → OneWall t s
wall_swap s t w = record { there = w.back; back = w.there }

wall_trans : (s t u : Point) → HasWeight s → HasWeight t → HasWeight u → OneWall s t → OneWall t u → OneWall s u
wall_trans s t u S T U a b = record {
  there = false_from_ne_true _ (λ h. false≢true (sym b.there ∙ left_of-after t s u T S U a.there h));
  back = false_from_ne_true _ (λ h. false≢true (sym b.back ∙ left_of-before u s t U S T h a.back));
}

one_wall : (s t : Point) → on_wall s t ≡ true → OneWall s t
one_wall s t h = let p = on_wall_parts s t h in record { there = p.0; back = p.1 }

on_one : (s t : Point) → OneWall s t → on_wall s t ≡ true
on_one s t w = rw (w.there, w.back) refl

-- ---- the stops of a wall: its vertices, and the points where edges pass through it
unfoldable pub stops : Skeleton → Point → List Point
stops g v = filter (λ u. on_wall u v) g.vertices ++ map (λ e. foot e v) (filter (passes v) g.edges)

pub data Stop (g : Skeleton) (v : Point) : Point → Type 0 where
  corner : (u : Point) → Contains g.vertices u → OneWall u v → Stop g v u
  crossed : (e : Edge) → Contains g.edges e → IsThrough e v → Stop g v (foot e v)

pub is_stop : (g : Skeleton) (v t : Point) → Member (stops g v) t → Stop g v t
unfolding stops
is_stop g v t m =
    elim (append_cases (filter (λ u. on_wall u v) g.vertices) (map (λ e. foot e v) (filter (passes v) g.edges)) t m) [
      | inl a ↦ (let r = filter_out (λ u. on_wall u v) g.vertices t a in corner t (member_in g.vertices t r.0) (one_wall t v r.1))
      | inr b ↦
          let r = map_out (λ e. foot e v) (filter (passes v) g.edges) t b in
          let k = filter_out (passes v) g.edges r.0 r.1 in
          let p = and_parts (left_of r.0.low v) (left_of v r.0.high) k.1 in
          subst (Stop g v) r.2 (crossed r.0 (member_in g.edges r.0 k.0) (record { from = p.0; to = p.1 }))
    ]

pub a_corner : (g : Skeleton) (v u : Point) → Contains g.vertices u → OneWall u v → Member (stops g v) u
unfolding stops
a_corner g v u in' w = append_left _ _ u (filter_in (λ u. on_wall u v) g.vertices u (in_member g.vertices u in') (on_one u v w))

pub a_foot : (g : Skeleton) (v : Point) (e : Edge) → Contains g.edges e → IsThrough e v → Member (stops g v) (foot e v)
unfolding stops
a_foot g v e in' th =
    append_right (filter (λ u. on_wall u v) g.vertices) _ (foot e v)
    (map_in (λ e. foot e v) (filter (passes v) g.edges) e (filter_in (passes v) g.edges e (in_member g.edges e in') (and_from _ _ th.from th.to)))

pub on_its_wall : (g : Skeleton) (v t : Point) → IsPlaneSkeleton g → Contains g.vertices v → Stop g v t → IsOnWall g t × OneWall t v
on_its_wall g v t plane V (corner u U w) = (on_own_wall g u plane U, w)
on_its_wall g v t plane V (crossed e E th) =
    let o = foot_is_on g e v plane (on_own_wall g v plane V) E th in
    (o.wall, wall_swap v (foot e v) (at_foot g e v plane V E th))
  where
    at_foot : (g : Skeleton) (e : Edge) (v : Point) → IsPlaneSkeleton g → Contains g.vertices v → Contains g.edges e → IsThrough e v → OneWall v (foot e v)
    at_foot g e v plane V E th =
        let q = plane.proper_edge e E in
        let R = run_positive e (left_of-before e.low v e.high q.0 (plane.proper v V) q.1 th.from (left_of-asym _ _ th.to)) in
        record { there = foot_before e v v R ∙ left_of-irrefl v; back = foot_after e v v R ∙ left_of-irrefl v }

-- ---- the highest stop that isn't above t
pub record IsHighest (ss : List Point) (t s : Point) : Type 0 where
  pub in' : Member ss s
  pub low : lower_than t s ≡ false
  pub most : (u : Point) → Member ss u → lower_than t u ≡ false → lower_than s u ≡ false

pub highest : (t : Point) (ss : List Point) → HasWeight t → ((s : Point) → Member ss s → HasWeight s) → ((s : Point) → Member ss s → lower_than t s ≡ true) ⊎ ((s : Point) × IsHighest ss t s)
highest t [] T P = inl (λ s h. absurd h)
highest t (x ∷ xs) T P =
    let X = P x (inl refl) in
    let ih = highest t xs T (λ s h. P s (inr h)) in
    elim (cases_Bool (lower_than t x)) [
      | inl a ↦ elim ih [
        | inl none ↦ inl (λ s h. elim h [ inl e ↦ subst (λ y. lower_than t y ≡ true) e a | inr k ↦ none s k ])
        | inr best ↦ inr (
          best.0,
          record {
            in' = inr best.1.in';
            low = best.1.low;
            most = λ u h k. elim h [ inl e ↦ absurd (false≢true (sym k ∙ subst (λ y. lower_than t y ≡ true) e a)) | inr m ↦ best.1.most u m k ];
          },
        )
      ]
      | inr a ↦ elim ih [
        | inl none ↦ inr (
          x,
          record {
            in' = inl refl;
            low = a;
            most = λ u h k. elim h [ inl e ↦ subst (λ y. lower_than x y ≡ false) e (lower_than-irrefl x) | inr m ↦ absurd (false≢true (sym k ∙ none u m)) ];
          },
        )
        | inr best ↦
            let B = P best.0 (inr best.1.in') in
            elim (cases_Bool (lower_than best.0 x)) [
              | inl b ↦ inr (
                x,
                record {
                  in' = inl refl;
                  low = a;
                  most = λ u h k. elim h [
                    | inl e ↦ subst (λ y. lower_than x y ≡ false) e (lower_than-irrefl x)
                    | inr m ↦ false_from_ne_true _ (λ n. false≢true (sym (best.1.most u m k) ∙ lower_than-before best.0 x u B X (P u (inr m)) b (lower_than-asym x u n)))
                  ];
                },
              )
              | inr b ↦ inr (
                best.0,
                record {
                  in' = inr best.1.in';
                  low = best.1.low;
                  most = λ u h k. elim h [ inl e ↦ subst (λ y. lower_than best.0 y ≡ false) e b | inr m ↦ best.1.most u m k ];
                },
              )
            ]
      ]
    ]

-- ---- an edge that reaches the wall at or below t does so at a stop

record Under (g : Skeleton) (v t : Point) (e : Edge) : Type 0 where
  at : Point
  in' : Member (stops g v) at
  proper : HasWeight at
  wall : OneWall at t
  on : side e at ≡ pos 0

-- v and t are on one wall
record Site (g : Skeleton) (v t : Point) : Type 0 where
  plane : IsPlaneSkeleton g
  V : Contains g.vertices v
  T : HasWeight t
  one : OneWall v t

site_wall : (g : Skeleton) (v t : Point) → Site g v t → IsOnWall g t
site_wall g v t s = record { proper = s.T; vertex = v; is_vertex = s.V; same = on_one v t s.one }

stop_of : (g : Skeleton) (v t : Point) (e : Edge) (reach : Edge → Bool) (i : ℕ) → Site g v t → Contains g.edges e → IsReach g t i reach → reach e ≡ true → Under g v t e
stop_of g v t e reach i s E r h =
    let P = s.plane.proper v s.V in
    let q = s.plane.proper_edge e E in
    elim (r.ends_at e E h) [
      | inl th ↦
          let th' : IsThrough e v = record { from = left_of-before e.low t v q.0 s.T P th.from s.one.there; to = left_of-after v t e.high P s.T q.1 s.one.back th.to } in
          let o = foot_is_on g e v s.plane (on_own_wall g v s.plane s.V) E th' in
          let w = on_its_wall g v (foot e v) s.plane s.V (crossed e E th') in
          record { at = foot e v; in' = a_foot g v e E th'; proper = o.wall.proper; wall = wall_trans (foot e v) v t o.wall.proper P s.T w.1 s.one; on = o.on }
      | inr k ↦
          let U = s.plane.proper k.0 k.1 in
          let w : OneWall k.0 t = record { there = k.2; back = k.3 } in
          record { at = k.0; in' = a_corner g v k.0 k.1 (wall_trans k.0 t v U s.T P w (wall_swap v t s.one)); proper = U; wall = w; on = k.4 }
    ]

-- and that stop isn't above t
stop_low : (g : Skeleton) (v t : Point) (e : Edge) → HasWeight t → (u : Under g v t e) → pos 0 <ℤ run e → over e t ≡ false → lower_than t u.at ≡ false
stop_low g v t e T u R h =
    false_from_ne_true _ (λ k. let a = side_below e u.at t u.proper R u.on u.wall.back u.wall.there k in let b = not_over e t h in absurd (omega (arith, ints)))

-- ---- at the highest stop the same edges are over as at t
same_over : (g : Skeleton) (v t s : Point) (e : Edge) (reach : Edge → Bool) (i : ℕ) → Site g v t → HasWeight s → OneWall s t → IsHighest (stops g v) t s → Contains g.edges e → IsReach g t i reach → reach e ≡ true → over e t ≡ over e s
same_over g v t s e reach i site S w high E r h =
    let R : pos 0 <ℤ run e = run_positive e (r.sided.passes e e E E h h).f_long in
    elim (cases_Bool (over e s)) [
      | inl a ↦ elim (cases_Bool (over e t)) [
        | inl b ↦ b ∙ sym a
        | inr b ↦
            let u = stop_of g v t e reach i site E r h in
            let l = stop_low g v t e site.T u R b in
            let m = high.most u.at u.in' l in
            let k = wall_trans u.at t s u.proper site.T S u.wall (wall_swap s t w) in
            let z = u.on in
            let n = side_keeps e u.at s u.proper S R k.there k.back m (omega (arith, ints)) in
            absurd (false≢true (sym (weak_over e s n) ∙ a))
      ]
      | inr a ↦ weak_over e t (side_keeps e s t S site.T R w.there w.back high.low (not_over e s a)) ∙ sym a
    ]

same_slab_left : (g : Skeleton) (s t : Point) → IsPlaneSkeleton g → HasWeight s → HasWeight t → OneWall s t → slab_left g t ≡ slab_left g s
same_slab_left g s t plane S T w =
    sum_by-same (λ v. cond (left_of v t) 1 0) (λ v. cond (left_of v s) 1 0) g.vertices (each (λ v. cond {A = ℕ} (left_of v t) 1 0 ≡ cond (left_of v s) 1 0) g.vertices (λ v i. ap (λ b. cond b 1 0) (same_before v t s (plane.proper v i) T S w.back w.there)))

same_slab_right : (g : Skeleton) (s t : Point) → IsPlaneSkeleton g → HasWeight s → HasWeight t → OneWall s t → slab_right g t ≡ slab_right g s
same_slab_right g s t plane S T w =
    sum_by-same (λ v. cond (not (left_of t v)) 1 0) (λ v. cond (not (left_of s v)) 1 0) g.vertices (each (λ v. cond {A = ℕ} (not (left_of t v)) 1 0 ≡ cond (not (left_of s v)) 1 0) g.vertices (λ v i. ap (λ b. cond (not b) 1 0) (same_after v t s (plane.proper v i) T S w.back w.there)))

same_term : (r r' o o' : Bool) → r ≡ r' → (r ≡ true → o ≡ o') → cond {A = ℕ} (r && not o) 1 0 ≡ cond (r' && not o') 1 0
same_term true r' o o' e f = ap (λ b. cond {A = ℕ} (b && not o) 1 0) e ∙ ap (λ b. cond {A = ℕ} (r' && not b) 1 0) (f refl)
same_term false r' o o' e f = ap (λ b. cond {A = ℕ} (b && not o') 1 0) e

same_left : (g : Skeleton) (v t s : Point) → Site g v t → HasWeight s → OneWall s t → IsHighest (stops g v) t s → left_cell g t ≡ left_cell g s
same_left g v t s site S w high =
    let r = left_reach g t site.plane (site_wall g v t site) in
    let a = same_slab_left g s t site.plane S site.T w in
    let now : Edge → ℕ = λ e. cond (reaches_left e t && not (over e t)) 1 0 in
    let then : Edge → ℕ = λ e. cond (reaches_left e s && not (over e s)) 1 0 in
    let b : left_count g t ≡ left_count g s = sum_by-same now then g.edges (each (λ e. now e ≡ then e) g.edges (λ e E.
    let q = site.plane.proper_edge e E in
    same_term (reaches_left e t) (reaches_left e s) (over e t) (over e s)
    (λ i. same_before e.low t s q.0 site.T S w.back w.there i && not (same_before e.high t s q.1 site.T S w.back w.there i))
    (λ h. same_over g v t s e (λ e. reaches_left e t) (slab_left g t) site S w high E r h))) in
    λ i. record { slab = a i; place = b i }

same_right : (g : Skeleton) (v t s : Point) → Site g v t → HasWeight s → OneWall s t → IsHighest (stops g v) t s → right_cell g t ≡ right_cell g s
same_right g v t s site S w high =
    let r = right_reach g t site.plane (site_wall g v t site) in
    let a = same_slab_right g s t site.plane S site.T w in
    let now : Edge → ℕ = λ e. cond (reaches_right e t && not (over e t)) 1 0 in
    let then : Edge → ℕ = λ e. cond (reaches_right e s && not (over e s)) 1 0 in
    let b : right_count g t ≡ right_count g s = sum_by-same now then g.edges (each (λ e. now e ≡ then e) g.edges (λ e E.
    let q = site.plane.proper_edge e E in
    same_term (reaches_right e t) (reaches_right e s) (over e t) (over e s)
    (λ i. not (same_after e.low t s q.0 site.T S w.back w.there i) && same_after e.high t s q.1 site.T S w.back w.there i)
    (λ h. same_over g v t s e (λ e. reaches_right e t) (slab_right g t) site S w high E r h))) in
    λ i. record { slab = a i; place = b i }

-- ---- below all stops nothing reaches the wall
none_over : (r o : Bool) → (r ≡ true → o ≡ true) → cond {A = ℕ} (r && not o) 1 0 ≡ 0
none_over true o f = ap (λ b. cond {A = ℕ} (not b) 1 0) (f refl)
none_over false o f = refl

all_over : (g : Skeleton) (v t : Point) (reach : Edge → Bool) (i : ℕ) → Site g v t → ((s : Point) → Member (stops g v) s → lower_than t s ≡ true) → IsReach g t i reach → count_by (λ e. reach e && not (over e t)) g.edges ≡ 0
all_over g v t reach i site none r =
    let now : Edge → ℕ = λ e. cond (reach e && not (over e t)) 1 0 in
    sum_by-same now (λ (e : Edge). 0) g.edges (each (λ e. now e ≡ 0) g.edges (λ e E. none_over (reach e) (over e t) (λ h.
    let R : pos 0 <ℤ run e = run_positive e (r.sided.passes e e E E h h).f_long in
    let u = stop_of g v t e reach i site E r h in
    elim (cases_Bool (over e t)) [ inl a ↦ a | inr a ↦ absurd (false≢true (sym (stop_low g v t e site.T u R a) ∙ none u.at u.in')) ])))
    ∙ sum_by-none g.edges

-- ---- the wall is open at the highest stop where it is open at t
open_at_stop : (g : Skeleton) (v t s : Point) → Site g v t → HasWeight s → OneWall s t → IsHighest (stops g v) t s → IsOpenAbove g t → is_open g s ≡ true
unfolding is_open
open_at_stop g v t s site S w high open' =
    ap not (none_passing (λ e. covers_above e s) g.edges (λ f m.
    false_from_ne_true _ (λ h.
    let F = member_in g.edges f m in
    let c = covers_parts f s h in
    let p = site.plane.proper_edge f F in
    let V = site.plane.proper v site.V in
    let wl = wall_trans f.low s t p.0 S site.T (record { there = c.0.lower_1; back = c.0.lower_2 }) w in
    let wu = wall_trans f.high s t p.1 S site.T (record { there = c.0.upper_1; back = c.0.upper_2 }) w in
    let low : lower_than t f.low ≡ false = false_from_ne_true _ (λ k. false≢true (sym c.1.0 ∙ lower_than-after s t f.low S site.T p.0 high.low k)) in
    let up : lower_than t f.high ≡ true = elim (cases_Bool (lower_than t f.high)) [
      | inl k ↦ k
      | inr k ↦ absurd (false≢true (sym (high.most f.high (a_corner g v f.high (site.plane.upper_in f F) (wall_trans f.high t v p.1 site.T V wu (wall_swap v t site.one))) k) ∙ c.1.1))
    ] in
    false≢true (sym (open'.open_at f F) ∙ and_from (on_wall f.low t && on_wall f.high t && not (lower_than t f.low)) _ (and_from (on_wall f.low t && on_wall f.high t) _ (and_from _ _ (on_one f.low t wl) (on_one f.high t wu)) (ap not low)) up))))

pub open_from : (g : Skeleton) (t : Point) → is_open g t ≡ true → IsOpenAbove g t
unfolding is_open
open_from g t h = record { open_at = λ e E. none_passes (λ e. covers_above e t) g.edges (not-true _ h) e (in_member g.edges e E) }

-- ---- each wall has a lowest vertex
record IsLow (g : Skeleton) (vs : List Point) (t v : Point) : Type 0 where
  one : OneWall v t
  in' : Member g.vertices v
  least : (u : Point) → Member vs u → OneWall u t → lower_than u v ≡ false

lowest_of : (g : Skeleton) (t v : Point) (vs : List Point) → IsPlaneSkeleton g → HasWeight t → Member g.vertices v → OneWall v t → ((u : Point) → Member vs u → Member g.vertices u) → (w : Point) × IsLow g vs t w
lowest_of g t v [] plane T V w sub = (v, record { one = w; in' = V; least = λ u h k. absurd h })
lowest_of g t v (x ∷ xs) plane T V w sub =
    let ih = lowest_of g t v xs plane T V w (λ u h. sub u (inr h)) in
    let X = sub x (inl refl) in
    let P : (u : Point) → Member g.vertices u → HasWeight u = λ u h. plane.proper u (member_in g.vertices u h) in
    elim (cases_Bool (on_wall x t && lower_than x ih.0)) [
      | inl a ↦
          let b = and_parts (on_wall x t) (lower_than x ih.0) a in (
            x,
            record {
              one = one_wall x t b.0;
              in' = X;
              least = λ u h k. elim h [
                | inl e ↦ subst (λ y. lower_than y x ≡ false) e (lower_than-irrefl x)
                | inr m ↦ false_from_ne_true _ (λ n. false≢true (sym (ih.1.least u m k) ∙ lower_than-before u x ih.0 (P u (sub u (inr m))) (P x X) (P ih.0 ih.1.in') n (lower_than-asym x ih.0 b.1)))
              ];
            },
          )
      | inr a ↦ (
        ih.0,
        record {
          one = ih.1.one;
          in' = ih.1.in';
          least = λ u h k. elim h [
            | inl e ↦ false_from_ne_true _ (λ n. false≢true (sym a ∙ and_from _ _ (on_one x t (subst (λ y. OneWall y t) (sym e) k)) (subst (λ y. lower_than y ih.0 ≡ true) (sym e) n)))
            | inr m ↦ ih.1.least u m k
          ];
        },
      )
    ]

wall_of : (g : Skeleton) (t : Point) → IsPlaneSkeleton g → IsOnWall g t → (v : Point) × Member (walls g) v × Site g v t
unfolding walls is_lowest
wall_of g t plane wall =
    let W = plane.proper wall.vertex wall.is_vertex in
    let r = lowest_of g t wall.vertex g.vertices plane wall.proper (in_member g.vertices wall.vertex wall.is_vertex) (one_wall wall.vertex t wall.same) (λ u h. h) in
    let V = member_in g.vertices r.0 r.1.in' in
    let P = plane.proper r.0 V in (
      r.0,
      filter_in (is_lowest g.vertices) g.vertices r.0 r.1.in' (ap not (none_passing (λ u. on_wall u r.0 && lower_than u r.0) g.vertices (λ u m. false_from_ne_true _ (λ h.
          let b = and_parts (on_wall u r.0) (lower_than u r.0) h in
          let U = plane.proper u (member_in g.vertices u m) in
          false≢true (sym (r.1.least u m (wall_trans u r.0 t U P wall.proper (one_wall u r.0 b.0) r.1.one)) ∙ b.1))))),
      record { plane = plane; V = V; T = wall.proper; one = r.1.one },
    )

-- ---- an open stop has its link
stop_link : (g : Skeleton) (v s : Point) → Stop g v s → is_open g s ≡ true → Member (corner_links g v ++ foot_links g v) (link_at g s)
unfolding corner_links foot_links
stop_link g v s (corner u U w) o = append_left _ _ (link_at g s) (map_in (link_at g) (filter (λ u. on_wall u v && is_open g u) g.vertices) u (filter_in (λ u. on_wall u v && is_open g u) g.vertices u (in_member g.vertices u U) (and_from _ _ (on_one u v w) o)))
stop_link g v s (crossed e E th) o =
    append_right (map (link_at g) (filter (λ u. on_wall u v && is_open g u) g.vertices)) _ (link_at g s)
    (map_in (λ e. link_at g (foot e v)) (filter (passes v) g.edges) e (filter_in (passes v) g.edges e (in_member g.edges e E) (and_from _ _ th.from th.to)))

-- ---- each meet is a link
pub meet_is_link : (g : Skeleton) (c d : SlabCell) → IsPlaneSkeleton g → Meets g c d → Member (links g) (record { one = c; other = d })
unfolding links wall_links
meet_is_link g c d plane (across t wall open') =
    let r = wall_of g t plane wall in
    let v = r.0 in
    let site = r.2 in
    let P : (s : Point) → Member (stops g v) s → HasWeight s = λ s m. (on_its_wall g v s plane site.V (is_stop g v s m)).0.proper in
    flat_in (wall_links g) (walls g) v (record { one = left_cell g t; other = right_cell g t }) r.1 (elim (highest t (stops g v) site.T P) [
      | inl none ↦
          let a : left_count g t ≡ 0 = all_over g v t (λ e. reaches_left e t) (slab_left g t) site none (left_reach g t plane wall) in
          let b : right_count g t ≡ 0 = all_over g v t (λ e. reaches_right e t) (slab_right g t) site none (right_reach g t plane wall) in
          let sl = same_slab_left g v t plane (plane.proper v site.V) site.T site.one in
          let sr = same_slab_right g v t plane (plane.proper v site.V) site.T site.one in
          inl (sym (λ i. record { one = record { slab = sl i; place = a i }; other = record { slab = sr i; place = b i } }))
      | inr best ↦
          let s = best.0 in
          let m = on_its_wall g v s plane site.V (is_stop g v s best.1.in') in
          let w : OneWall s t = wall_trans s v t m.0.proper (plane.proper v site.V) site.T m.1 site.one in
          let o = open_at_stop g v t s site m.0.proper w best.1 open' in
          let l = same_left g v t s site m.0.proper w best.1 in
          let k = same_right g v t s site m.0.proper w best.1 in
          inr (subst (Member (corner_links g v ++ foot_links g v)) (sym (λ i. record { one = l i; other = k i })) (stop_link g v s (is_stop g v s best.1.in') o))
    ])
