-- Faces by labels are faces by meets: each link is a meet, so labels are equal exactly on the cells of one face.
use Rattle.std.proofs.Common.{◌≡◌, ℕ, ◌+◌, Bool, true, false, cond, arith, refl, sym, ap, subst, ◌∙◌, inl, inr}
use Rattle.std.specs.Prelude.{ℤ, pos, ◌+ℤ◌, ◌-ℤ◌, ◌*ℤ◌, ◌<ℤ◌, not, ◌&&◌, filter}
use Rattle.std.specs.List.{Contains, sum_by, count_by}
use Rattle.std.proofs.lemmas.Int.{ints}
use Rattle.std.proofs.lemmas.Bool.{false≢true, false_from_ne_true, and_parts}
use Rattle.std.proofs.lemmas.Bool.Decides.{nat_tests}
use borrow.Author.Differences.{up}
use Rattle.exact_plane.specs.Point.{Point}
use Rattle.plane_graphs.specs.Graph.{Edge}
use Rattle.slab_laws.specs.Skeleton.{Skeleton, HasWeight, left_of, lower_than, on_wall, run, side, over, foot, IsPlaneSkeleton}
use Rattle.slab_laws.specs.Meets.{IsOnWall, IsOpenAbove, Meets, SameFace, across, here, right, left}
use Rattle.slab_laws.specs.Slabs.{slab_left, slab_right, reaches_left, reaches_right, left_count, right_count}
use Rattle.slab_laws.specs.declared.slab_cell.SlabCell.{SlabCell}
use Rattle.slab_faces.proofs.Ints.{as_dif, dif_add, dif_sub, dif_mul, dif_same, swapped}
use Rattle.slab_faces.proofs.Sums.{each, sum_by-same, sum_by-none}
use Rattle.slab_faces.proofs.Walls.{run_positive}
use Rattle.slab_faces.proofs.Cells.{left_side, right_side}
use Rattle.slab_faces.proofs.Nudge.{large}
use Rattle.slab_faces.proofs.Along.{covers_parts, open_above}
use Rattle.slab_faces.proofs.Outside.{at_least}
use Rattle.slab_faces.proofs.Turns.{face_trans, face_sym, on_own_wall, foot_is_on}
use Rattle.slab_laws.specs.declared.classes.Link.{Link}
use Rattle.slab_laws.specs.Faces.{is_lowest, walls, passes, is_open, link_at, corner_links, foot_links, wall_links, links, face_labels, face_of, same_cell, cell_below}
use Rattle.slab_laws.specs.Listed.{distinct}
use Rattle.slab_laws.specs.Subdivision.{subdivision, rank, ranked, first_cell}
use Rattle.slab_faces.proofs.OverUnder.{over_in}
use Rattle.slab_faces.proofs.Member.{Member, member_in, map_out, filter_out, flat_out, append_cases}
use Rattle.slab_faces.proofs.ClassesLemmas.{IsExact, IsEquivalence, IsOrder, along_link, connected, not_above}
use Rattle.slab_faces.proofs.Stops.{open_from, meet_is_link}

-- ---- a point below all on its wall
depth : Skeleton → Point → ℤ
depth g t = pos (sum_by (λ (e : Edge). up (side e t)) g.edges + 1) +ℤ pos (sum_by (λ (v : Point). up (t.y *ℤ v.w -ℤ v.y *ℤ t.w)) g.vertices + 1)

low : Skeleton → Point → Point
low g t = record { x = t.x; y = t.y -ℤ depth g t; w = t.w }

depth_up : (g : Skeleton) (t : Point) → pos 0 <ℤ depth g t
unfolding depth
depth_up g t = omega (arith, ints)

depth_edge : (g : Skeleton) (t : Point) (e : Edge) → Contains g.edges e → side e t <ℤ depth g t
unfolding depth
depth_edge g t e in' = let a = large (λ (e : Edge). side e t) g.edges e in' in omega (arith, ints)

depth_vertex : (g : Skeleton) (t v : Point) → Contains g.vertices v → (t.y *ℤ v.w -ℤ v.y *ℤ t.w) <ℤ depth g t
unfolding depth
depth_vertex g t v in' = let a = large (λ (v : Point). t.y *ℤ v.w -ℤ v.y *ℤ t.w) g.vertices v in' in omega (arith, ints)

sunk : (a b c x y w k : ℤ) → a *ℤ x +ℤ b *ℤ (y -ℤ k) +ℤ c *ℤ w ≡ a *ℤ x +ℤ b *ℤ y +ℤ c *ℤ w -ℤ b *ℤ k
sunk a b c x y w k = rw (as_dif a, as_dif b, as_dif c, as_dif x, as_dif y, as_dif w, as_dif k) (simp (dif_add, dif_sub, dif_mul) (dif_same _ _ _ _ (omega arith)))

side_low : (g : Skeleton) (t : Point) (e : Edge) → side e (low g t) ≡ side e t -ℤ run e *ℤ depth g t
unfolding side run low
side_low g t e = sunk (e.low.y *ℤ e.high.w -ℤ e.high.y *ℤ e.low.w) (e.high.x *ℤ e.low.w -ℤ e.low.x *ℤ e.high.w) (e.low.x *ℤ e.high.y -ℤ e.high.x *ℤ e.low.y) t.x t.y t.w (depth g t)

low_over : (g : Skeleton) (t : Point) (e : Edge) → Contains g.edges e → pos 0 <ℤ run e → over e (low g t) ≡ true
low_over g t e E R =
    let a = at_least (run e) (depth g t) R (depth_up g t) in
    let b = depth_edge g t e E in
    let c = side_low g t e in
    over_in e (low g t) (omega (arith, ints))

spread : (y k w : ℤ) → (y -ℤ k) *ℤ w ≡ y *ℤ w -ℤ k *ℤ w
spread y k w = rw (as_dif y, as_dif k, as_dif w) (simp (dif_add, dif_sub, dif_mul) (dif_same _ _ _ _ (omega arith)))

low_vertex : (g : Skeleton) (t v : Point) → Contains g.vertices v → HasWeight v → lower_than (low g t) v ≡ true
unfolding lower_than low
low_vertex g t v in' V =
    let a = at_least v.w (depth g t) V (depth_up g t) in
    let b = depth_vertex g t v in' in
    let c = spread t.y (depth g t) v.w in
    let d = swapped v.w (depth g t) in
    sym (omega (arith, ints))

none_at : (g : Skeleton) (t : Point) (reach : Edge → Bool) → ((e : Edge) → Contains g.edges e → reach e ≡ true → pos 0 <ℤ run e) → count_by (λ e. reach e && not (over e (low g t))) g.edges ≡ 0
none_at g t reach r =
    let now : Edge → ℕ = λ e. cond (reach e && not (over e (low g t))) 1 0 in
    sum_by-same now (λ (e : Edge). 0) g.edges (each (λ e. now e ≡ 0) g.edges (λ e E. none (reach e) (over e (low g t)) (λ h. low_over g t e E (r e E h)))) ∙ sum_by-none g.edges
  where
    none : (r o : Bool) → (r ≡ true → o ≡ true) → cond {A = ℕ} (r && not o) 1 0 ≡ 0
    none true o f = ap (λ b. cond {A = ℕ} (not b) 1 0) (f refl)
    none false o f = refl

pub lowest_meets : (g : Skeleton) (t : Point) → IsPlaneSkeleton g → IsOnWall g t → Meets g (record { slab = slab_left g t; place = 0 }) (record { slab = slab_right g t; place = 0 })
unfolding low left_of
lowest_meets g t plane wall =
    let u = low g t in
    let wall' : IsOnWall g u = record { proper = wall.proper; vertex = wall.vertex; is_vertex = wall.is_vertex; same = wall.same } in
    let free : IsOpenAbove g u = record { open_at = λ f F. false_from_ne_true _ (λ h. let c = covers_parts f u h in false≢true (sym c.1.0 ∙ low_vertex g t f.low (plane.lower_in f F) (plane.proper_edge f F).0)) } in
    let a : left_count g u ≡ 0 = none_at g t (λ e. reaches_left e t) (λ e E h. run_positive e ((left_side g t plane wall).passes e e E E h h).e_long) in
    let b : right_count g u ≡ 0 = none_at g t (λ e. reaches_right e t) (λ e E h. run_positive e ((right_side g t plane wall).passes e e E E h h).e_long) in
    let m : Meets g (record { slab = slab_left g t; place = left_count g u }) (record { slab = slab_right g t; place = right_count g u }) = across u wall' free in
    subst (λ (p : ℕ × ℕ). Meets g (record { slab = slab_left g t; place = p.0 }) (record { slab = slab_right g t; place = p.1 })) (λ i. (a i, b i)) m

-- ---- each link is a meet
corner_meets : (g : Skeleton) (v : Point) (m : Link SlabCell) → IsPlaneSkeleton g → Member (corner_links g v) m → Meets g m.one m.other
unfolding corner_links
corner_meets g v m plane h =
    let s = map_out (link_at g) (filter (λ u. on_wall u v && is_open g u) g.vertices) m h in
    let f = filter_out (λ u. on_wall u v && is_open g u) g.vertices s.0 s.1 in
    let o = and_parts (on_wall s.0 v) (is_open g s.0) f.1 in
    subst (λ (m : Link SlabCell). Meets g m.one m.other) s.2 (across s.0 (on_own_wall g s.0 plane (member_in g.vertices s.0 f.0)) (open_from g s.0 o.1))

foot_meets : (g : Skeleton) (v : Point) (m : Link SlabCell) → IsPlaneSkeleton g → Contains g.vertices v → Member (foot_links g v) m → Meets g m.one m.other
unfolding foot_links
foot_meets g v m plane V h =
    let s = map_out (λ e. link_at g (foot e v)) (filter (passes v) g.edges) m h in
    let f = filter_out (passes v) g.edges s.0 s.1 in
    let E = member_in g.edges s.0 f.0 in
    let p = and_parts (left_of s.0.low v) (left_of v s.0.high) f.1 in
    let on = foot_is_on g s.0 v plane (on_own_wall g v plane V) E (record { from = p.0; to = p.1 }) in
    subst (λ (m : Link SlabCell). Meets g m.one m.other) s.2 (across (foot s.0 v) on.wall (open_above g s.0 (foot s.0 v) on))

pub link_is_meet : (g : Skeleton) (m : Link SlabCell) → IsPlaneSkeleton g → Member (links g) m → Meets g m.one m.other
unfolding links wall_links walls
link_is_meet g m plane h =
    let r = flat_out (wall_links g) (walls g) m h in
    let v = r.0 in
    let V = member_in g.vertices v ((filter_out (is_lowest g.vertices) g.vertices v r.1).0) in
    elim r.2 [
      | inl e ↦ subst (λ (m : Link SlabCell). Meets g m.one m.other) e (lowest_meets g v plane (on_own_wall g v plane V))
      | inr k ↦ elim (append_cases (corner_links g v) (foot_links g v) m k) [
        | inl a ↦ corner_meets g v m plane a
        | inr a ↦ foot_meets g v m plane V a
      ]
    ]

-- ---- labels
cell_path : (c d : SlabCell) → c.slab ≡ d.slab → c.place ≡ d.place → c ≡ d
cell_path c d e f = λ i. record { slab = e i; place = f i }

pub cells_exact : IsExact same_cell
cells_exact = record { itself = λ c. itself c; path = λ c d e. cell_path c d (grind (arith, nat_tests)) (grind (arith, nat_tests)) }
  where
    itself : (c : SlabCell) → same_cell c c ≡ true
    itself c = grind (arith, nat_tests)

pub cells_order : IsOrder cell_below
cells_order = record { itself = λ c. itself c; down = λ c d e h k. down c d e h k; asym = λ c d h. asym c d h }
  where
    itself : (c : SlabCell) → cell_below c c ≡ false
    itself c = grind (arith, nat_tests)

    down : (c d e : SlabCell) → cell_below c d ≡ false → cell_below d e ≡ false → cell_below c e ≡ false
    down c d e h k = grind (arith, nat_tests)

    asym : (c d : SlabCell) → cell_below c d ≡ true → cell_below d c ≡ false
    asym c d h = grind (arith, nat_tests)

face_equivalence : (g : Skeleton) → IsEquivalence (SameFace g)
face_equivalence g = record { itself = here; back = face_sym g; on = face_trans g }

-- a cell is in the face that it is labelled with
pub in_its_face : (g : Skeleton) (c : SlabCell) → IsPlaneSkeleton g → SameFace g c (face_of (face_labels g) c)
unfolding face_labels
in_its_face g c plane = connected same_cell cell_below cells_exact (SameFace g) (face_equivalence g) (links g) (λ m h. right _ _ _ (here m.one) (link_is_meet g m plane h)) c

-- the cells of one face have one label
pub one_label : (g : Skeleton) (c d : SlabCell) → IsPlaneSkeleton g → SameFace g c d → face_of (face_labels g) c ≡ face_of (face_labels g) d
unfolding face_labels
one_label g c d plane (here c') = refl
one_label g c d plane (right c' x d' h m) = one_label g c x plane h ∙ along_link same_cell cell_below cells_exact (links g) (record { one = x; other = d }) (meet_is_link g x d plane m)
one_label g c d plane (left c' x d' h m) = one_label g c x plane h ∙ sym (along_link same_cell cell_below cells_exact (links g) (record { one = d; other = x }) (meet_is_link g d x plane m))

-- and cells of one label are in one face
pub one_face : (g : Skeleton) (c d : SlabCell) → IsPlaneSkeleton g → face_of (face_labels g) c ≡ face_of (face_labels g) d → SameFace g c d
one_face g c d plane e = face_trans g c _ d (in_its_face g c plane) (subst (λ x. SameFace g x d) (sym e) (face_sym g d _ (in_its_face g d plane)))

-- the label is the least cell of its face
pub least_label : (g : Skeleton) (c d : SlabCell) → IsPlaneSkeleton g → SameFace g c d → cell_below d (face_of (face_labels g) c) ≡ false
least_label g c d plane h = subst (λ x. cell_below d x ≡ false) (sym (one_label g c d plane h)) (lowest g d)
  where
    lowest : (g : Skeleton) (d : SlabCell) → cell_below d (face_of (face_labels g) d) ≡ false
    lowest g d = unfold face_labels in not_above same_cell cell_below cells_exact cells_order (links g) d

-- the unbounded face has the first rank
pub first_rank : (g : Skeleton) → rank (subdivision g) (face_of (face_labels g) first_cell) ≡ 0
unfolding rank subdivision ranked distinct
first_rank g = rw (cells_exact.itself (face_of (face_labels g) first_cell)) refl
