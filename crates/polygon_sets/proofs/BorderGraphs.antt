-- The edges across which a set of faces changes, alone, with all vertices: a plane graph with an even number of edges at each vertex, and above the cell on each side of such an edge an odd number of them exactly where the set is there.
use Rattle.std.proofs.Common.{◌≡◌, ℕ, ◌+◌, Bool, true, false, cond, arith, refl, sym, ap, ◌∙◌, List, [], ◌∷◌}
use Rattle.std.specs.Prelude.{not, ◌&&◌}
use Rattle.std.specs.List.{Contains, filter, sum_by, count_by}
use Rattle.std.proofs.lemmas.Bool.{and_from, le-leb, lt-leb}
use Rattle.std.proofs.lemmas.Int.{ints}
use Rattle.std.proofs.lemmas.List.Sums.{sum_by-cons}
use lib.Dec.{leb}
use Rattle.exact_plane.specs.Point.{Point}
use Rattle.plane_graphs.specs.Graph.{Edge}
use Rattle.plane_graphs.proofs.Ascending.{to_member, from_member}
use Rattle.plane_graphs.proofs.Lists.{in_filter, of_filter}
use Rattle.slab_laws.specs.Skeleton.{Skeleton, left_of, over, below, same_edge, IsPlaneSkeleton}
use Rattle.slab_laws.specs.Slabs.{slab_left, slab_right, spans, place, reaches_left}
use Rattle.slab_laws.specs.Weights.{weight_above}
use Rattle.slab_laws.specs.Darts.{cell_by}
use Rattle.slab_faces.proofs.Sums.{each, sum_by-same, sum_by-once}
use Rattle.slab_faces.proofs.Slabs.{IsSlab, through, by_gap, below_at, place_less, same_edge_is}
use Rattle.slab_faces.proofs.Order.{gap-swap}
use Rattle.slab_faces.proofs.Walls.{left_of-irrefl}
use Rattle.slab_faces.proofs.Cells.{spans_right, cell_weight, left_side}
use Rattle.slab_faces.proofs.Nudge.{is_slab_right, right_inside}
use Rattle.slab_faces.proofs.Turns.{on_own_wall}

-- ---- fewer edges
-- a sum over what passes a test
pub sum_by-filter : {X : Type 0} (p : X → Bool) (f : X → ℕ) (xs : List X) → sum_by f (filter p xs) ≡ sum_by (λ x. cond (p x) (f x) 0) xs
sum_by-filter p f [] = refl
sum_by-filter {X} p f (x ∷ xs) = step (p x) ∙ ap (λ n. cond (p x) (f x) 0 + n) (sum_by-filter p f xs) ∙ sym (sum_by-cons (λ x. cond (p x) (f x) 0) x xs)
  where
    step : (b : Bool) → sum_by f (cond b (x ∷ filter p xs) (filter p xs)) ≡ cond b (f x) 0 + sum_by f (filter p xs)
    step true = sum_by-cons f x (filter p xs)
    step false = omega arith

-- each edge weighs one, and each that passes a test
abbrev pub one : Edge → ℕ
one e = 1

abbrev pub own : (Edge → Bool) → Edge → ℕ
own p e = cond (p e) 1 0

module _ (g : Skeleton) (p : Edge → Bool) where
  -- the edges that pass a test, with all vertices
  abbrev pub part : Skeleton
  part = record { vertices = g.vertices; edges = filter p g.edges }

  pub part_out : (e : Edge) → Contains (filter p g.edges) e → Contains g.edges e × (p e ≡ true)
  part_out e E = let a = of_filter p e g.edges (to_member (filter p g.edges) e E) in (from_member g.edges e a.0, a.1)

  pub part_in : (e : Edge) → Contains g.edges e → p e ≡ true → Contains (filter p g.edges) e
  part_in e E h = from_member (filter p g.edges) e (in_filter p e g.edges (to_member g.edges e E) h)

  module _ (plane : IsPlaneSkeleton g) where
    once : (e : Edge) → Contains (filter p g.edges) e → count_by (same_edge e) (filter p g.edges) ≡ 1
    once e E =
        let a = part_out e E in
        sum_by-filter p (λ x. cond (same_edge e x) 1 0) g.edges
        ∙ sum_by-once p (same_edge e) e 1 g.edges (λ x h. ap p (sym (same_edge_is e x h))) (plane.edge_once e a.0)
        ∙ ap (λ b. cond {A = ℕ} b 1 0) a.1

    pub part_plane : IsPlaneSkeleton part
    part_plane = record {
      proper = plane.proper;
      lower_in = λ e E. plane.lower_in e (part_out e E).0;
      upper_in = λ e E. plane.upper_in e (part_out e E).0;
      lower_once = λ e E. plane.lower_once e (part_out e E).0;
      upper_once = λ e E. plane.upper_once e (part_out e E).0;
      proper_edge = λ e E. plane.proper_edge e (part_out e E).0;
      forward = λ e E. plane.forward e (part_out e E).0;
      upright = λ e E. plane.upright e (part_out e E).0;
      edge_once = once;
      distinct = plane.distinct;
      clear = λ e v E V. plane.clear e v (part_out e E).0 V;
      uncrossed = λ e f E F. plane.uncrossed e f (part_out e E).0 (part_out f F).0;
    }

    -- ---- weights of the part, as weights of the whole
    -- what passes one test where it passes another, in both
    same_terms : (s t : Edge → Bool) → ((e : Edge) → Contains g.edges e → p e ≡ true → s e ≡ t e) → sum_by (λ e. cond (s e) 1 0) (filter p g.edges) ≡ sum_by (λ e. cond (t e) (own p e) 0) g.edges
    same_terms s t same =
        sum_by-filter p (λ e. cond (s e) 1 0) g.edges
        ∙ sum_by-same (λ e. cond (p e) (cond (s e) 1 0) 0) (λ e. cond (t e) (own p e) 0) g.edges (each (λ e. cond {A = ℕ} (p e) (cond (s e) 1 0) 0 ≡ cond (t e) (cond (p e) 1 0) 0) g.edges (λ e E. at (p e) (s e) (t e) (same e E)))
      where
        at : (b u v : Bool) → (b ≡ true → u ≡ v) → cond {A = ℕ} b (cond u 1 0) 0 ≡ cond v (cond b 1 0) 0
        at true u v h = ap (λ x. cond {A = ℕ} x 1 0) (h refl)
        at false u true h = refl
        at false u false h = refl

    -- one of two edges in a slab is below the other, or they are one
    by_order : {A : Type 0} (i : ℕ) (M : Point) (f e : Edge) → IsSlab g i M → Contains g.edges f → Contains g.edges e → spans g i f ≡ true → spans g i e ≡ true → (below f e ≡ true → A) → (below e f ≡ true → A) → (f ≡ e → A) → A
    by_order i M f e slab F E sf se up down same =
        let tf = through g i M f slab F sf in
        let te = through g i M e slab E se in
        let w = gap-swap f e M in
        by_gap g f e M plane F E slab.proper tf te
        (λ k. up (below_at g f e M plane F E slab.proper tf te k))
        (λ k. down (below_at g e f M plane E F slab.proper te tf (omega (arith, ints))))
        same

    -- of two edges of the part, one is above the other at the same places
    module _ (i : ℕ) (M : Point) (slab : IsSlab g i M) (f e : Edge) (F : Contains (filter p g.edges) f) (E : Contains (filter p g.edges) e) (sf : spans g i f ≡ true) (se : spans g i e ≡ true) where
      part_slab : IsSlab part i M
      part_slab = record { proper = slab.proper; spanned = λ e E. slab.spanned e (part_out e E).0 }

      higher : leb (place part i f + 1) (place part i e) ≡ leb (place g i f + 1) (place g i e)
      higher =
          by_order i M f e slab (part_out f F).0 (part_out e E).0 sf se
          (λ h.
          let a = place_less g i M f e plane slab (part_out f F).0 (part_out e E).0 sf se h in
          let b = place_less part i M f e part_plane part_slab F E sf se h in
          le-leb (place part i f + 1) (place part i e) (omega arith) ∙ sym (le-leb (place g i f + 1) (place g i e) (omega arith)))
          (λ h.
          let a = place_less g i M e f plane slab (part_out e E).0 (part_out f F).0 se sf h in
          let b = place_less part i M e f part_plane part_slab E F se sf h in
          lt-leb (place part i f + 1) (place part i e) (omega arith) ∙ sym (lt-leb (place g i f + 1) (place g i e) (omega arith)))
          (λ q.
          let a : place g i e ≡ place g i f = ap (place g i) (sym q) in
          let b : place part i e ≡ place part i f = ap (place part i) (sym q) in
          lt-leb (place part i f + 1) (place part i e) (omega arith) ∙ sym (lt-leb (place g i f + 1) (place g i e) (omega arith)))

    -- above the cell on the left of an edge that is gone forward
    pub above_ahead : (e : Edge) → Contains (filter p g.edges) e → (b : Bool) → left_of e.low e.high ≡ b → weight_above part one (cell_by part e b true).slab (cell_by part e b true).place ≡ weight_above g (own p) (cell_by g e b true).slab (cell_by g e b true).place
    above_ahead e E true h =
        let i = slab_right g e.low in
        let E' = (part_out e E).0 in
        let wall = on_own_wall g e.low plane (plane.lower_in e E') in
        let slab = is_slab_right g e.low plane wall in
        let se : spans g i e ≡ true = spans_right g e.low e plane wall E' ∙ and_from _ _ (ap not (left_of-irrefl e.low)) h in
        same_terms (λ z. spans g i z && leb (place part i e + 1) (place part i z)) (λ z. spans g i z && leb (place g i e + 1) (place g i z)) (λ z Z k. at (spans g i z) _ _ (λ sz. higher i (right_inside g e.low) slab e z E (part_in z Z k) se sz))
      where
        at : (a u v : Bool) → (a ≡ true → u ≡ v) → (a && u) ≡ (a && v)
        at true u v h = h refl
        at false u v h = refl
    above_ahead e E false h =
        let t = e.low in
        let E' = (part_out e E).0 in
        cell_weight part one t (slab_left g t) (λ z. reaches_left z t) part_plane (left_side part t part_plane (on_own_wall part t part_plane (plane.lower_in e E')))
        ∙ same_terms (λ z. reaches_left z t && over z t) (λ z. reaches_left z t && over z t) (λ z Z k. refl)
        ∙ sym (cell_weight g (own p) t (slab_left g t) (λ z. reaches_left z t) plane (left_side g t plane (on_own_wall g t plane (plane.lower_in e E'))))
