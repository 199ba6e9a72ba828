-- Walls and slabs: each wall has a lowest vertex, each slab but the first begins at a wall, and a point off all walls is in one cell.
use Rattle.std.proofs.Common.{◌≡◌, ℕ, ◌<◌, ◌≤◌, Bool, true, false, cond, arith, refl, sym, ap, subst, ◌∙◌, ◌⊎◌, inl, inr, ◌∷◌, map, suc}
use Rattle.std.specs.Prelude.{not, ◌&&◌}
use Rattle.std.specs.List.{Contains, list_any, range_with_len}
use Rattle.std.proofs.lemmas.Bool.{false≢true, and_parts, and_from, not-true, false_from_ne_true, cases_Bool, le-leb, lt-ltb}
use Rattle.exact_plane.specs.Point.{Point}
use Rattle.plane_graphs.specs.Graph.{Edge}
use Rattle.slab_laws.specs.Skeleton.{Skeleton, HasWeight, left_of, lower_than, on_wall, over, IsPlaneSkeleton}
use Rattle.slab_laws.specs.Slabs.{slab_left, slab_right, spans, reaches_left, reaches_right, left_count, left_cell, right_count, width}
use Rattle.slab_laws.specs.Faces.{is_lowest, walls, cells, slab_cells}
use Rattle.slab_faces.specs.LocationLaws.{OffWalls}
use Rattle.slab_faces.proofs.Sums.{each, sum_by-same, sum_by-none, fewer, fewer_than}
use Rattle.slab_faces.proofs.Walls.{left_of-irrefl, left_of-asym, left_of-before, left_of-after, lower_than-irrefl, lower_than-asym, lower_than-before, on_wall_parts}
use Rattle.slab_faces.proofs.Cells.{left_few, not_right_trans}
use Rattle.slab_faces.proofs.Member.{Member, member_in, in_member, filter_in, filter_out, map_in, flat_in, none_passing}
use Rattle.slab_faces.proofs.Searches.{best_of, in_range}

-- ---- each wall has a lowest vertex
pub record IsWallOf (g : Skeleton) (w v : Point) : Type 0 where
  pub wall : Member (walls g) v
  pub there : left_of v w ≡ false
  pub back : left_of w v ≡ false

pub wall_vertex : (g : Skeleton) (v : Point) → Member (walls g) v → Contains g.vertices v
unfolding walls
wall_vertex g v m = member_in g.vertices v (filter_out (is_lowest g.vertices) g.vertices v m).0

pub wall_of_vertex : (g : Skeleton) (w : Point) → IsPlaneSkeleton g → Contains g.vertices w → (v : Point) × IsWallOf g w v
unfolding walls is_lowest
wall_of_vertex g w plane W =
    let P : (u : Point) → Member g.vertices u → HasWeight u = λ u m. plane.proper u (member_in g.vertices u m) in
    let own : on_wall w w ≡ true = and_from _ _ (ap not (left_of-irrefl w)) (ap not (left_of-irrefl w)) in
    elim (best_of (λ u. on_wall u w) lower_than g.vertices lower_than-irrefl (λ x y z a b c h k. lower_than-before x y z (P x a) (P y b) (P z c) h (lower_than-asym y z k))) [
      | inl none ↦ absurd (false≢true (sym (none w (in_member g.vertices w W)) ∙ own))
      | inr b ↦
          let v = b.0 in
          let o = on_wall_parts v w b.1.passes in
          let lowest : (u : Point) → Member g.vertices u → (on_wall u v && lower_than u v) ≡ false = λ u m. false_from_ne_true _ (λ h.
          let a = and_parts (on_wall u v) (lower_than u v) h in
          let c = on_wall_parts u v a.0 in
          let there = not_right_trans w v u (plane.proper w W) (P v b.1.in') (P u m) o.0 c.0 in
          let back = not_right_trans u v w (P u m) (P v b.1.in') (plane.proper w W) c.1 o.1 in
          false≢true (sym (b.1.best u m (and_from _ _ (ap not there) (ap not back))) ∙ a.1)) in (
            v,
            record {
              wall = filter_in (λ u. not (list_any (λ x. on_wall x u && lower_than x u) g.vertices)) g.vertices v b.1.in' (ap not (none_passing (λ u. on_wall u v && lower_than u v) g.vertices lowest));
              there = o.0;
              back = o.1;
            },
          )
    ]

-- ---- the slab to the left of t is the first one, or begins at a wall
begins_at : (g : Skeleton) (t : Point) → IsPlaneSkeleton g → HasWeight t → (slab_left g t ≡ 0) ⊎ ((w : Point) × Contains g.vertices w × (slab_right g w ≡ slab_left g t))
begins_at g t plane T =
    let P : (u : Point) → Member g.vertices u → HasWeight u = λ u m. plane.proper u (member_in g.vertices u m) in
    elim (best_of (λ u. left_of u t) (λ x y. left_of y x) g.vertices left_of-irrefl (λ x y z a b c h k. left_of-before z y x (P z c) (P y b) (P x a) k (left_of-asym y x h))) [
      | inl none ↦ inl (sum_by-same (λ v. cond (left_of v t) 1 0) (λ (v : Point). 0) g.vertices (each (λ v. cond {A = ℕ} (left_of v t) 1 0 ≡ 0) g.vertices (λ v V. ap (λ b. cond {A = ℕ} b 1 0) (none v (in_member g.vertices v V)))) ∙ sum_by-none g.vertices)
      | inr b ↦
          let w = b.0 in
          let W = P w b.1.in' in
          let same : (v : Point) → Contains g.vertices v → not (left_of w v) ≡ left_of v t = λ v V.
          elim (cases_Bool (left_of v t)) [
            | inl a ↦ ap not (b.1.best v (in_member g.vertices v V) a) ∙ sym a
            | inr a ↦ ap not (left_of-before w t v W T (plane.proper v V) b.1.passes a) ∙ sym a
          ] in
          inr (w, member_in g.vertices w b.1.in', sum_by-same (λ v. cond (not (left_of w v)) 1 0) (λ v. cond (left_of v t) 1 0) g.vertices (each (λ v. cond {A = ℕ} (not (left_of w v)) 1 0 ≡ cond (left_of v t) 1 0) g.vertices (λ v V. ap (λ b. cond {A = ℕ} b 1 0) (same v V))))
    ]

same_right : (g : Skeleton) (v w : Point) → IsPlaneSkeleton g → HasWeight v → HasWeight w → left_of v w ≡ false → left_of w v ≡ false → slab_right g v ≡ slab_right g w
same_right g v w plane V W a b =
    sum_by-same (λ u. cond (not (left_of v u)) 1 0) (λ u. cond (not (left_of w u)) 1 0) g.vertices (each (λ u. cond {A = ℕ} (not (left_of v u)) 1 0 ≡ cond (not (left_of w u)) 1 0) g.vertices (λ u U. ap (λ b. cond {A = ℕ} (not b) 1 0) (same u (plane.proper u U))))
  where
    same : (u : Point) → HasWeight u → left_of v u ≡ left_of w u
    same u U = elim (cases_Bool (left_of w u)) [
      | inl h ↦ left_of-after v w u V W U b h ∙ sym h
      | inr h ↦ not_right_trans u w v U W V h a ∙ sym h
    ]

-- ---- the cell of each point is among the cells
spanned : (g : Skeleton) (t : Point) (e : Edge) → IsPlaneSkeleton g → HasWeight t → Contains g.edges e → reaches_left e t ≡ true → spans g (slab_left g t) e ≡ true
spanned g t e plane T E h =
    let p = plane.proper_edge e E in
    let a = and_parts (left_of e.low t) (not (left_of e.high t)) h in
    let r = not-true _ a.1 in
    let few = left_few g e.low t plane p.0 T a.0 in
    let many : slab_left g t < slab_right g e.high =
    fewer_than (λ v. left_of v t) (λ v. not (left_of e.high v)) g.vertices e.high (plane.upper_in e E) r (ap not (left_of-irrefl e.high))
    (λ v V k. ap not (left_of-asym v e.high (left_of-before v t e.high (plane.proper v V) T p.1 k r))) in
    and_from _ _ (le-leb _ _ few) (lt-ltb _ _ many)

in_width : (g : Skeleton) (t : Point) → IsPlaneSkeleton g → HasWeight t → left_count g t ≤ width g (slab_left g t)
unfolding width
in_width g t plane T = fewer (λ e. reaches_left e t && not (over e t)) (spans g (slab_left g t)) g.edges (λ e E h. spanned g t e plane T E (and_parts (reaches_left e t) (not (over e t)) h).0)

slab_there : (g : Skeleton) (t : Point) → IsPlaneSkeleton g → HasWeight t → Member (0 ∷ map (slab_right g) (walls g)) (slab_left g t)
slab_there g t plane T =
    elim (begins_at g t plane T) [
      | inl e ↦ inl (sym e)
      | inr b ↦
          let w = wall_of_vertex g b.0 plane b.1 in
          let e = same_right g w.0 b.0 plane (plane.proper w.0 (wall_vertex g w.0 w.1.wall)) (plane.proper b.0 b.1) w.1.there w.1.back in
          inr (subst (Member (map (slab_right g) (walls g))) (e ∙ b.2) (map_in (slab_right g) (walls g) w.0 w.1.wall))
    ]

pub cell_there : (g : Skeleton) (t : Point) → IsPlaneSkeleton g → HasWeight t → Member (cells g) (left_cell g t)
unfolding cells slab_cells
cell_there g t plane T =
    let i = slab_left g t in
    let k = in_width g t plane T in
    flat_in (slab_cells g) (0 ∷ map (slab_right g) (walls g)) i (left_cell g t) (slab_there g t plane T)
    (map_in (λ j. record { slab = i; place = j }) (range_with_len 0 (suc (width g i))) (left_count g t) (in_range 0 (suc (width g i)) (left_count g t) (omega arith) (omega arith)))

-- ---- off all walls
pub off_walls : OffWalls
off_walls g t plane T off =
    let same : (v : Point) → Contains g.vertices v → left_of v t ≡ not (left_of t v) = λ v V. one (left_of v t) (left_of t v) (off v V) (left_of-asym v t) in
    let a : slab_left g t ≡ slab_right g t =
    sum_by-same (λ v. cond (left_of v t) 1 0) (λ v. cond (not (left_of t v)) 1 0) g.vertices (each (λ v. cond {A = ℕ} (left_of v t) 1 0 ≡ cond (not (left_of t v)) 1 0) g.vertices (λ v V. ap (λ b. cond {A = ℕ} b 1 0) (same v V))) in
    let now : Edge → ℕ = λ e. cond (reaches_left e t && not (over e t)) 1 0 in
    let then : Edge → ℕ = λ e. cond (reaches_right e t && not (over e t)) 1 0 in
    let b : left_count g t ≡ right_count g t =
    sum_by-same now then g.edges (each (λ e. now e ≡ then e) g.edges (λ e E. reach (left_of e.low t) (left_of t e.low) (left_of e.high t) (left_of t e.high) (over e t) (same e.low (plane.lower_in e E)) (same e.high (plane.upper_in e E)))) in
    λ i. record { slab = a i; place = b i }
  where
    one : (a b : Bool) → (not a && not b) ≡ false → (a ≡ true → b ≡ false) → a ≡ not b
    one true true h f = absurd (false≢true (sym (f refl)))
    one true false h f = refl
    one false true h f = refl
    one false false h f = absurd (false≢true (sym h))

    reach : (a b c d o : Bool) → a ≡ not b → c ≡ not d → cond {A = ℕ} ((a && not c) && not o) 1 0 ≡ cond ((not b && d) && not o) 1 0
    reach a b c true o e f = rw (e, f) refl
    reach a b c false o e f = rw (e, f) refl
