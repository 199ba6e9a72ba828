-- The edges of the slab on the right of an edge's lower end: how many are below the edge, and which are above its cells.
use Rattle.std.proofs.Common.{◌≡◌, ℕ, ◌+◌, Bool, true, false, cond, arith, refl, sym, ap, ◌∙◌, subst, List, map, Contains}
use Rattle.std.specs.Prelude.{not, ◌&&◌}
use Rattle.std.specs.List.{sum_by, count_by}
use Rattle.std.proofs.lemmas.Int.{ints}
use Rattle.std.proofs.lemmas.Bool.{and_parts, and_from, not-true, false_from_ne_true, le-leb, lt-leb}
use lib.Dec.{leb}
use Rattle.exact_plane.specs.Point.{Point}
use Rattle.exact_plane.specs.Span.{Span}
use Rattle.plane_graphs.specs.Graph.{Edge}
use Rattle.slab_laws.specs.declared.slab_cell.SlabCell.{SlabCell}
use Rattle.slab_laws.specs.Skeleton.{Skeleton, HasWeight, left_of, below, below as is_lower, IsPlaneSkeleton}
use Rattle.slab_laws.specs.Slabs.{reaches_left, reaches_right, slab_left, slab_right, spans, place, left_cell, right_cell}
use Rattle.slab_laws.specs.Meets.{IsOnWall}
use Rattle.slab_laws.specs.Weights.{weight_above}
use Rattle.slab_laws.specs.Darts.{cell_by, cell_of}
use Rattle.slab_laws.specs.SpansDrawn.{edge_of, drawn}
use Rattle.slab_faces.proofs.Sums.{each, sum_by-same}
use Rattle.slab_faces.proofs.Shift.{sum_by-map}
use Rattle.slab_faces.proofs.Walls.{left_of-irrefl, left_of-after}
use Rattle.slab_faces.proofs.Cells.{spans_right, cell_weight, left_side, right_side, on_side}
use Rattle.slab_faces.proofs.Order.{below_asym, gap-swap}
use Rattle.slab_faces.proofs.Slabs.{IsSlab, through, by_gap, below_at, place_less}
use Rattle.slab_faces.proofs.Nudge.{is_slab_right, right_inside}
use Rattle.slab_faces.proofs.Turns.{on_own_wall}
use Rattle.edge_predicates.specs.CellsAbove.{above_by, is_above}

-- an edge that reaches a wall from its right isn't vertical
pub reached_slants : (f : Edge) (t : Point) → HasWeight f.low → HasWeight t → HasWeight f.high → reaches_right f t ≡ true → left_of f.low f.high ≡ true
reached_slants f t P T Q h =
    let a = and_parts (not (left_of t f.low)) (left_of t f.high) h in
    left_of-after f.low t f.high P T Q (not-true _ a.0) a.1

module _ (g : Skeleton) (plane : IsPlaneSkeleton g) (e : Edge) (E : Contains g.edges e) where
  wall : IsOnWall g e.low
  wall = on_own_wall g e.low plane (plane.lower_in e E)

  -- the edge's place there, by what is tested at its lower end
  pub place_is_count : place g (slab_right g e.low) e ≡ count_by (λ f. reaches_right f e.low && below f e) g.edges
  place_is_count =
      sum_by-same (λ f. cond (spans g (slab_right g e.low) f && below f e) 1 0) (λ f. cond (reaches_right f e.low && below f e) 1 0) g.edges
      (each (λ f. cond {A = ℕ} (spans g (slab_right g e.low) f && below f e) 1 0 ≡ cond (reaches_right f e.low && below f e) 1 0) g.edges (λ f F. ap (λ b. cond (b && below f e) 1 0) (spans_right g e.low f plane wall F)))

  -- ---- an edge that isn't vertical
  module _ (slants : left_of e.low e.high ≡ true) where
    i : ℕ
    i = slab_right g e.low

    M : Point
    M = right_inside g e.low

    slab : IsSlab g i M
    unfolding i M
    slab = is_slab_right g e.low plane wall

    own : spans g i e ≡ true
    unfolding i
    own = spans_right g e.low e plane wall E ∙ and_from _ _ (ap not (left_of-irrefl e.low)) slants

    -- an edge of the slab is above it, below it, or the edge
    three : {X : Type 0} (f : Edge) → Contains g.edges f → spans g i f ≡ true → (below e f ≡ true → X) → (below f e ≡ true → X) → (e ≡ f → X) → X
    three f F s up down same =
        let te = through g i M e slab E own in
        let tf = through g i M f slab F s in
        by_gap g e f M plane E F slab.proper te tf
        (λ k. up (below_at g e f M plane E F slab.proper te tf k))
        (λ k. let w = gap-swap e f M in down (below_at g f e M plane F E slab.proper tf te (omega (arith, ints))))
        same

    never : (f : Edge) → Contains g.edges f → below e f ≡ true → below f e ≡ false
    never f F b = false_from_ne_true _ (λ h. below_asym g f e plane F E h b)

    never_back : (f : Edge) → Contains g.edges f → below f e ≡ true → below e f ≡ false
    never_back f F b = false_from_ne_true _ (λ h. below_asym g e f plane E F h b)

    not_itself : below e e ≡ false
    not_itself = false_from_ne_true _ (λ h. below_asym g e e plane E E h h)

    -- an edge of the slab is above the cell over the edge where it is above the edge
    over_forward : (f : Edge) → Contains g.edges f → spans g i f ≡ true → leb (place g i e + 1) (place g i f) ≡ below e f
    over_forward f F s =
        three f F s
        (λ b. let l = place_less g i M e f plane slab E F own s b in le-leb (place g i e + 1) (place g i f) (omega arith) ∙ sym b)
        (λ b. let l = place_less g i M f e plane slab F E s own b in lt-leb (place g i e + 1) (place g i f) (omega arith) ∙ sym (never_back f F b))
        (λ q. subst (λ f. leb (place g i e + 1) (place g i f) ≡ below e f) q (lt-leb (place g i e + 1) (place g i e) (omega arith) ∙ sym not_itself))

    -- and above the cell under it where it isn't below it
    over_back : (f : Edge) → Contains g.edges f → spans g i f ≡ true → leb (place g i e) (place g i f) ≡ not (below f e)
    over_back f F s =
        three f F s
        (λ b. let l = place_less g i M e f plane slab E F own s b in le-leb (place g i e) (place g i f) (omega arith) ∙ sym (ap not (never f F b)))
        (λ b. let l = place_less g i M f e plane slab F E s own b in lt-leb (place g i e) (place g i f) (omega arith) ∙ sym (ap not b))
        (λ q. subst (λ f. leb (place g i e) (place g i f) ≡ not (below f e)) q (le-leb (place g i e) (place g i e) (omega arith) ∙ sym (ap not not_itself)))

    reached : (f : Edge) → Contains g.edges f → spans g i f ≡ reaches_right f e.low
    unfolding i
    reached f F = spans_right g e.low f plane wall F

    -- so the weights above the two cells are those of the edges that pass these tests
    weight_forward : (m : Edge → ℕ) → weight_above g m i (place g i e + 1) ≡ sum_by (λ f. cond (reaches_right f e.low && below e f) (m f) 0) g.edges
    weight_forward m =
        sum_by-same _ _ g.edges (each _ g.edges (λ f F. ap (λ b. cond b (m f) 0) (on_side (spans g i f) _ (reaches_right f e.low) (below e f) (reached f F) (λ r. over_forward f F (reached f F ∙ r)))))

    weight_back : (m : Edge → ℕ) → weight_above g m i (place g i e) ≡ sum_by (λ f. cond (reaches_right f e.low && not (below f e)) (m f) 0) g.edges
    weight_back m =
        sum_by-same _ _ g.edges (each _ g.edges (λ f F. ap (λ b. cond b (m f) 0) (on_side (spans g i f) _ (reaches_right f e.low) (not (below f e)) (reached f F) (λ r. over_back f F (reached f F ∙ r)))))

  weight_by : (m : Edge → ℕ) (slants forward : Bool) → left_of e.low e.high ≡ slants → weight_above g m (cell_by g e slants forward).slab (cell_by g e slants forward).place ≡ sum_by (λ f. cond (above_by slants forward e f) (m f) 0) g.edges
  unfolding i
  weight_by m true true h = weight_forward h m
  weight_by m true false h = weight_back h m
  weight_by m false true h = cell_weight g m e.low (slab_left g e.low) (λ f. reaches_left f e.low) plane (left_side g e.low plane wall)
  weight_by m false false h = cell_weight g m e.low (slab_right g e.low) (λ f. reaches_right f e.low) plane (right_side g e.low plane wall)

  -- the weight above the cell on the left of a dart is that of the edges above it
  pub weight_is : (m : Edge → ℕ) (forward : Bool) → weight_above g m (cell_of g e forward).slab (cell_of g e forward).place ≡ sum_by (λ f. cond (is_above e forward f) (m f) 0) g.edges
  weight_is m forward = weight_by m (left_of e.low e.high) forward refl

-- ---- the edges of spans
pub place_of_spans : (vs : List Point) (ss : List Span) (s : Span) → IsPlaneSkeleton (drawn vs ss) → Contains (map edge_of ss) (edge_of s) → place (drawn vs ss) (slab_right (drawn vs ss) s.lower) (edge_of s) ≡ count_by (λ f. reaches_right (edge_of f) s.lower && below (edge_of f) (edge_of s)) ss
place_of_spans vs ss s plane in' =
    place_is_count (drawn vs ss) plane (edge_of s) in'
    ∙ sum_by-map (λ f. cond (reaches_right f s.lower && below f (edge_of s)) 1 0) edge_of ss

-- the cells on the left of the two darts of a span, from what is counted
module _ (vs : List Point) (ss : List Span) (s : Span) (forward : Bool) where
  pub cell_above : IsPlaneSkeleton (drawn vs ss) → Contains (map edge_of ss) (edge_of s) → left_of s.lower s.upper ≡ true → forward ≡ true → (slab below : ℕ) → slab ≡ slab_right (drawn vs ss) s.lower → below ≡ count_by (λ f. reaches_right (edge_of f) s.lower && is_lower (edge_of f) (edge_of s)) ss → ◌≡◌ {A = SlabCell} (record { slab = slab; place = below + 1 }) (cell_of (drawn vs ss) (edge_of s) forward)
  cell_above plane in' h k slab below a b =
      let p = b ∙ sym (place_of_spans vs ss s plane in') in
      let q : ◌≡◌ {A = SlabCell} (record { slab = slab; place = below + 1 }) (cell_by (drawn vs ss) (edge_of s) true true) = λ i. record { slab = a i; place = p i + 1 } in
      q ∙ (λ i. cell_by (drawn vs ss) (edge_of s) (sym h i) (sym k i))

  pub cell_below : IsPlaneSkeleton (drawn vs ss) → Contains (map edge_of ss) (edge_of s) → left_of s.lower s.upper ≡ true → forward ≡ false → (slab below : ℕ) → slab ≡ slab_right (drawn vs ss) s.lower → below ≡ count_by (λ f. reaches_right (edge_of f) s.lower && is_lower (edge_of f) (edge_of s)) ss → ◌≡◌ {A = SlabCell} (record { slab = slab; place = below }) (cell_of (drawn vs ss) (edge_of s) forward)
  cell_below plane in' h k slab below a b =
      let p = b ∙ sym (place_of_spans vs ss s plane in') in
      let q : ◌≡◌ {A = SlabCell} (record { slab = slab; place = below }) (cell_by (drawn vs ss) (edge_of s) true false) = λ i. record { slab = a i; place = p i } in
      q ∙ (λ i. cell_by (drawn vs ss) (edge_of s) (sym h i) (sym k i))

  pub cell_left : left_of s.lower s.upper ≡ false → forward ≡ true → left_cell (drawn vs ss) s.lower ≡ cell_of (drawn vs ss) (edge_of s) forward
  cell_left h k = λ i. cell_by (drawn vs ss) (edge_of s) (sym h i) (sym k i)

  pub cell_right : left_of s.lower s.upper ≡ false → forward ≡ false → right_cell (drawn vs ss) s.lower ≡ cell_of (drawn vs ss) (edge_of s) forward
  cell_right h k = λ i. cell_by (drawn vs ss) (edge_of s) (sym h i) (sym k i)
