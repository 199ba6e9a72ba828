-- An edge that is split: at each point as many edges are below as before, and the same points of walls are open.
-- g has the edge e, h its two parts at v; hv and hs are the vertices and edges of h, `rest` the edges of both.
use Rattle.std.proofs.Common.{◌≡◌, ℕ, ◌+◌, Bool, true, false, cond, arith, refl, sym, ap, ◌∙◌, subst, ◌⊎◌, inl, inr, List}
use Rattle.std.specs.Prelude.{not, ◌&&◌}
use Rattle.std.proofs.lemmas.Bool.{false≢true, and_parts, not-true, false_from_ne_true, cases_Bool}
use Rattle.exact_plane.specs.Point.{Point}
use Rattle.plane_graphs.specs.Graph.{Edge}
use Rattle.slab_laws.specs.Skeleton.{over, lower_than, Skeleton, HasWeight, left_of, on_wall}
use Rattle.slab_laws.specs.Slabs.{reaches_left, reaches_right, left_count, right_count}
use Rattle.slab_laws.specs.Meets.{IsOpenAbove, covers_above}
use Rattle.slab_faces.proofs.Walls.{left_of-before, left_of-after, level_walls, on_wall_parts, lower_than-before, lower_than-asym}
use Rattle.face_changes.proofs.NewWall.{AreEdgesAlike}
use Rattle.face_changes.specs.EdgeSplit.{HasEdgeSplit}
use Rattle.rotation_order.specs.EdgeParts.{lower_part, upper_part}
use Rattle.face_changes.proofs.EdgeParts.{lower_is, upper_is}
use Rattle.face_changes.proofs.EdgeSplitFacts.{SplitFacts, split_facts}

-- which part is beside a wall: a, b, c say that the lower end, the point between and the upper end are left of it
one_part : (a b c o : Bool) → (c ≡ true → b ≡ true) → (b ≡ true → a ≡ true) → cond {A = ℕ} ((a && not b) && o) 1 0 + cond ((b && not c) && o) 1 0 ≡ cond ((a && not c) && o) 1 0
one_part true true true o f g = refl
one_part true true false o f g = omega arith
one_part true false true o f g = absurd (false≢true (f refl))
one_part true false false o f g = omega arith
one_part false true c o f g = absurd (false≢true (g refl))
one_part false false true o f g = absurd (false≢true (f refl))
one_part false false false o f g = refl

other_part : (a b c o : Bool) → (a ≡ true → b ≡ true) → (b ≡ true → c ≡ true) → cond {A = ℕ} ((not a && b) && o) 1 0 + cond ((not b && c) && o) 1 0 ≡ cond ((not a && c) && o) 1 0
other_part true true true o f k = refl
other_part true true false o f k = absurd (false≢true (k refl))
other_part true false c o f k = absurd (false≢true (f refl))
other_part false true true o f k = omega arith
other_part false true false o f k = absurd (false≢true (k refl))
other_part false false true o f k = omega arith
other_part false false false o f k = refl

-- the edge q is vertical and covers the wall just above t
pub record Covers (q : Edge) (t : Point) : Type 0 where
  pub low_wall : on_wall q.low t ≡ true
  pub high_wall : on_wall q.high t ≡ true
  pub from : lower_than t q.low ≡ false
  pub to : lower_than t q.high ≡ true

pub covers_out : (q : Edge) (t : Point) → covers_above q t ≡ true → Covers q t
covers_out q t k =
    let a = and_parts (on_wall q.low t && on_wall q.high t && not (lower_than t q.low)) (lower_than t q.high) k in
    let b = and_parts (on_wall q.low t && on_wall q.high t) (not (lower_than t q.low)) a.0 in
    let c = and_parts (on_wall q.low t) (on_wall q.high t) b.0 in
    record { low_wall = c.0; high_wall = c.1; from = not-true _ b.1; to = a.1 }

covers_in : (q : Edge) (t : Point) → Covers q t → covers_above q t ≡ true
covers_in q t c = rw (c.low_wall, c.high_wall, c.from, c.to) refl

module _ (g : Skeleton) (hv : List Point) (hs : List Edge) (e : Edge) (v : Point) (rest : List Edge) (m : HasEdgeSplit g (record { vertices = hv; edges = hs }) e v rest) where
  abbrev h : Skeleton
  h = record { vertices = hv; edges = hs }

  abbrev facts : SplitFacts g hv hs e v rest
  facts = split_facts g hv hs e v rest m

  -- ---- counts at points
  high_left : (t : Point) → HasWeight t → left_of e.high t ≡ true → left_of v t ≡ true
  high_left t T k = left_of-after v e.high t facts.weight facts.high_weight T facts.before_high k

  same_left : (t : Point) → HasWeight t → left_count h t ≡ left_count g t
  same_left t T =
      let a = m.sums_more (λ f. cond (reaches_left f t && not (over f t)) 1 0) in
      let b = m.sums (λ f. cond (reaches_left f t && not (over f t)) 1 0) in
      let c = one_part (left_of e.low t) (left_of v t) (left_of e.high t) (not (over e t)) (high_left t T) (facts.low_left t T) in
      let x : cond {A = ℕ} (reaches_left (lower_part e v) t && not (over (lower_part e v) t)) 1 0 ≡ cond ((left_of e.low t && not (left_of v t)) && not (over e t)) 1 0 = ap (λ o. cond {A = ℕ} (reaches_left (lower_part e v) t && not o) 1 0) ((lower_is e v facts.mean).sides_over t) in
      let y : cond {A = ℕ} (reaches_left (upper_part e v) t && not (over (upper_part e v) t)) 1 0 ≡ cond ((left_of v t && not (left_of e.high t)) && not (over e t)) 1 0 = ap (λ o. cond {A = ℕ} (reaches_left (upper_part e v) t && not o) 1 0) ((upper_is e v facts.mean).sides_over t) in
      omega arith

  right_low : (t : Point) → HasWeight t → left_of t e.low ≡ true → left_of t v ≡ true
  right_low t T k = left_of-before t e.low v T facts.low_weight facts.weight k facts.after_low

  same_right : (t : Point) → HasWeight t → right_count h t ≡ right_count g t
  same_right t T =
      let a = m.sums_more (λ f. cond (reaches_right f t && not (over f t)) 1 0) in
      let b = m.sums (λ f. cond (reaches_right f t && not (over f t)) 1 0) in
      let c = other_part (left_of t e.low) (left_of t v) (left_of t e.high) (not (over e t)) (right_low t T) (facts.right_high t T) in
      let x : cond {A = ℕ} (reaches_right (lower_part e v) t && not (over (lower_part e v) t)) 1 0 ≡ cond ((not (left_of t e.low) && left_of t v) && not (over e t)) 1 0 = ap (λ o. cond {A = ℕ} (reaches_right (lower_part e v) t && not o) 1 0) ((lower_is e v facts.mean).sides_over t) in
      let y : cond {A = ℕ} (reaches_right (upper_part e v) t && not (over (upper_part e v) t)) 1 0 ≡ cond ((not (left_of t v) && left_of t e.high) && not (over e t)) 1 0 = ap (λ o. cond {A = ℕ} (reaches_right (upper_part e v) t && not o) 1 0) ((upper_is e v facts.mean).sides_over t) in
      omega arith

  -- ---- what covers a wall: e, where it is vertical, as both its parts
  parted_cover : (t : Point) → HasWeight t → Covers e t → Covers (lower_part e v) t ⊎ Covers (upper_part e v) t
  parted_cover t T c =
      let a = on_wall_parts e.low t c.low_wall in
      let b = on_wall_parts e.high t c.high_wall in
      let x = false_from_ne_true (left_of v t) (λ k. false≢true (sym a.0 ∙ facts.low_left t T k)) in
      let y = false_from_ne_true (left_of t v) (λ k. false≢true (sym b.1 ∙ facts.right_high t T k)) in
      let on_v : on_wall v t ≡ true = rw (x, y) refl in
      elim (cases_Bool (lower_than t v)) [
        | inl k ↦ inl (record { low_wall = c.low_wall; high_wall = on_v; from = c.from; to = k })
        | inr k ↦ inr (record { low_wall = on_v; high_wall = c.high_wall; from = k; to = c.to })
      ]

  open_down : (t : Point) → HasWeight t → IsOpenAbove h t → IsOpenAbove g t
  open_down t T free = record {
    open_at = λ z Z. elim ((m.edges z).0 Z) [
      | inl k ↦ free.open_at z (facts.kept_edge z k)
      | inr q ↦ subst (λ y. covers_above y t ≡ false) (sym q) (false_from_ne_true _ (λ k. elim (parted_cover t T (covers_out e t k)) [
        | inl c ↦ false≢true (sym (free.open_at (lower_part e v) facts.lower_in) ∙ covers_in (lower_part e v) t c)
        | inr c ↦ false≢true (sym (free.open_at (upper_part e v) facts.upper_in) ∙ covers_in (upper_part e v) t c)
      ]))
    ];
  }

  whole_cover : (t : Point) → HasWeight t → Covers (lower_part e v) t ⊎ Covers (upper_part e v) t → Covers e t
  whole_cover t T (inl c) =
      let a = on_wall_parts e.low t c.low_wall in
      let w = level_walls e.low v t facts.low_weight facts.weight T c.low_wall c.high_wall in
      let s : left_of e.low e.high ≡ false = sym facts.low_slant ∙ w.0 in
      let f = m.plane.forward e facts.edge_in in
      let x = false_from_ne_true (left_of e.high t) (λ k. false≢true (sym f ∙ left_of-before e.high t e.low facts.high_weight T facts.low_weight k a.0)) in
      let y = false_from_ne_true (left_of t e.high) (λ k. false≢true (sym s ∙ left_of-after e.low t e.high facts.low_weight T facts.high_weight a.1 k)) in
      let on_high : on_wall e.high t ≡ true = rw (x, y) refl in
      let l = level_walls v e.high t facts.weight facts.high_weight T c.high_wall on_high in
      let up = m.plane_more.upright (upper_part e v) facts.upper_in (rw (l.0, l.1) refl) in
      record { low_wall = c.low_wall; high_wall = on_high; from = c.from; to = lower_than-before t v e.high T facts.weight facts.high_weight c.to (lower_than-asym v e.high up) }
  whole_cover t T (inr c) =
      let a = on_wall_parts e.high t c.high_wall in
      let w = level_walls v e.high t facts.weight facts.high_weight T c.low_wall c.high_wall in
      let s : left_of e.low e.high ≡ false = sym facts.high_slant ∙ w.0 in
      let f = m.plane.forward e facts.edge_in in
      let x = false_from_ne_true (left_of e.low t) (λ k. false≢true (sym s ∙ left_of-before e.low t e.high facts.low_weight T facts.high_weight k a.0)) in
      let y = false_from_ne_true (left_of t e.low) (λ k. false≢true (sym f ∙ left_of-after e.high t e.low facts.high_weight T facts.low_weight a.1 k)) in
      let on_low : on_wall e.low t ≡ true = rw (x, y) refl in
      let l = level_walls e.low v t facts.low_weight facts.weight T on_low c.low_wall in
      let up = m.plane_more.upright (lower_part e v) facts.lower_in (rw (l.0, l.1) refl) in
      record { low_wall = on_low; high_wall = c.high_wall; from = false_from_ne_true (lower_than t e.low) (λ k. false≢true (sym c.from ∙ lower_than-before t e.low v T facts.low_weight facts.weight k (lower_than-asym e.low v up))); to = c.to }

  open_up : (t : Point) → HasWeight t → IsOpenAbove g t → IsOpenAbove h t
  open_up t T free = record {
    open_at = λ z Z. elim ((m.edges_more z).0 Z) [
      | inl k ↦ free.open_at z (facts.old_edge z k)
      | inr q ↦ false_from_ne_true _ (λ k. false≢true (sym (free.open_at e facts.edge_in) ∙ covers_in e t (whole_cover t T (elim q [
        | inl r ↦ inl (covers_out (lower_part e v) t (subst (λ y. covers_above y t ≡ true) r k))
        | inr r ↦ inr (covers_out (upper_part e v) t (subst (λ y. covers_above y t ≡ true) r k))
      ]))))
    ];
  }

  pub alike : AreEdgesAlike g h
  alike = record { on_left = same_left; on_right = same_right; open_down = open_down; open_up = open_up }
