-- The looks by which the walk tells what follows a meeting point are within its bound.
use Rattle.std.proofs.Common.{◌≡◌, ◌+◌, ◌≤◌, Bool, true, false, cond, arith, sym, ap, ◌∙◌, List, [], ◌∷◌, inl, inr}
use Rattle.std.specs.Prelude.{◌==◌}
use Rattle.std.specs.List.{count_by}
use Rattle.std.specs.Ordering.{is_eq}
use Rattle.std.proofs.lemmas.Bool.{cases_Bool, eqb-true}
use Rattle.std.proofs.lemmas.Cmp.{tied_itself}
use Rattle.std.proofs.lemmas.List.Sums.{sum_by-cons}
use Rattle.exact_plane.specs.Point.{Point}
use Rattle.exact_plane.specs.PointOrder.{point_cmp}
use Rattle.exact_plane.specs.PointOrderLaws.{point_cmp_total}
use Rattle.exact_plane.specs.Segment.{Segment, line_of_segment}
use Rattle.plane_graphs.specs.Ascending.{Member}
use Rattle.plane_graphs.specs.Line.{precedes}
use Rattle.plane_graphs.proofs.Lists.{and_in, or_left, or_right, in_map}
use Rattle.slab_laws.specs.declared.names.DartId.{DartId}
use Rattle.slab_laws.specs.declared.names.VertexId.{VertexId}
use Rattle.slab_laws.specs.Skeleton.{inside}
use Rattle.slab_laws.specs.Sound.{edge_in}
use Rattle.slab_laws.specs.Tables.{names}
use Rattle.slab_laws.specs.View.{View, HasDart, vertex_id, dart_id, point_in, source_in}
use Rattle.arr_notes.specs.Curves.{IsForward}
use Rattle.arr_notes.specs.CycleNames.{dart_names}
use Rattle.sound_views.proofs.NameTables.{has_name}
use Rattle.zone_walk.specs.Sights.{degree}
use Rattle.zone_walk.specs.Walk.{IsAhead, goes_on, stop_looks}
use Rattle.zone_walk.specs.Zone.{degree_at}
use Rattle.zone_walk.proofs.Courses.{line-itself}

-- ---- counts
module _ {X : Type 0} where
  count_yes : (q : X → Bool) (x : X) (xs : List X) → q x ≡ true → count_by q (x ∷ xs) ≡ 1 + count_by q xs
  count_yes q x xs e = sum_by-cons (λ y. cond (q y) 1 0) x xs ∙ ap (λ (b : Bool). cond b 1 0 + count_by q xs) e

  count_no : (q : X → Bool) (x : X) (xs : List X) → q x ≡ false → count_by q (x ∷ xs) ≡ count_by q xs
  count_no q x xs e =
      let a : count_by q (x ∷ xs) ≡ 0 + count_by q xs = sum_by-cons (λ y. cond (q y) 1 0) x xs ∙ ap (λ (b : Bool). cond b 1 0 + count_by q xs) e in
      omega arith

  pub some_count : (q : X → Bool) (x : X) (xs : List X) → Member x xs → q x ≡ true → 1 ≤ count_by q xs
  some_count q x [] m e = absurd m
  some_count q x (y ∷ ys) (inl i) e = let a = count_yes q y ys (ap q (sym i) ∙ e) in omega arith
  some_count q x (y ∷ ys) (inr m) e =
      let k = some_count q x ys m e in
      elim (cases_Bool (q y)) [ inl t ↦ let a = count_yes q y ys t in omega arith | inr n ↦ let a = count_no q y ys n in omega arith ]

  pub more_count : (p q : X → Bool) → ((x : X) → p x ≡ true → q x ≡ true) → (xs : List X) → count_by p xs ≤ count_by q xs
  more_count p q f [] = omega arith
  more_count p q f (y ∷ ys) =
      let k = more_count p q f ys in
      elim (cases_Bool (p y)) [
        | inl t ↦ let a = count_yes p y ys t in let b = count_yes q y ys (f y t) in omega arith
        | inr n ↦ let a = count_no p y ys n in elim (cases_Bool (q y)) [ inl t ↦ let b = count_yes q y ys t in omega arith | inr m ↦ let b = count_no q y ys m in omega arith ]
      ]

pub named : (v : View) (d : DartId) → HasDart v d → Member d (dart_names v)
named v d has = in_map dart_id d.0 (names v.darts) (has_name v.darts d.0 has)

pub degree_fits : (v : View) (w : VertexId) (p : Point) → point_in v w ≡ p → degree v w ≤ degree_at v p
degree_fits v w p e =
    more_count (λ d. (source_in v d).0 == w.0) (λ d. is_eq (point_cmp (point_in v (source_in v d)) p))
    (λ d h.
    let q : source_in v d ≡ w = ap vertex_id (eqb-true (source_in v d).0 w.0 h) in
    ap (λ (x : Point). is_eq (point_cmp x p)) (ap (point_in v) q ∙ e) ∙ ap is_eq (tied_itself point_cmp_total p))
    (dart_names v)

module _ (v : View) (g : Segment) (p : Point) where
  pub edge_inside : (d : DartId) → IsForward v d → inside (edge_in v d) p ≡ true → 1 ≤ stop_looks v g p
  edge_inside d F i =
      let k = some_count (goes_on v g p) d (dart_names v) (named v d F.0) (and_in F.1 (or_left (inside (edge_in v d) p) _ i)) in
      omega arith

  pub vertex_turn : (w : VertexId) → point_in v w ≡ p → degree v w ≤ stop_looks v g p
  vertex_turn w e = let k = degree_fits v w p e in omega arith

  pub vertex_along : (w : VertexId) → point_in v w ≡ p → precedes p g.upper ≡ true → (d : DartId) → source_in v d ≡ w → IsAhead v (line_of_segment g) p d → degree v w + 1 ≤ stop_looks v g p
  vertex_along w e before d from h =
      let a = degree_fits v w p e in
      let at : is_eq (point_cmp (point_in v (source_in v d)) p) ≡ true = ap (λ (x : Point). is_eq (point_cmp x p)) (ap (point_in v) from ∙ e) ∙ ap is_eq (tied_itself point_cmp_total p) in
      let k = some_count (goes_on v g p) d (dart_names v) (named v d h.forward.0) (and_in h.forward.1 (or_right (inside (edge_in v d) p) _ (and_in (line-itself (line_of_segment g) _ (sym h.line)) (and_in at before)))) in
      omega arith
