-- Counts of the points up to a cut of the abscissas, once over vertices and once over walls: they have one order, so walls tell slabs, and the edges in them, as vertices do.
use Rattle.std.proofs.Common.{◌≡◌, ℕ, ◌<◌, ◌≤◌, Bool, true, false, cond, arith, refl, sym, ap, ◌∙◌, ◌⊎◌, inl, inr, List}
use Rattle.std.specs.Prelude.{not, ◌&&◌, ◌↔◌}
use Rattle.std.specs.List.{Contains, count_by}
use Rattle.std.proofs.lemmas.Bool.{false≢true, and_parts, not-true, false_from_ne_true, cases_lt, le-leb, lt-leb, le-ltb, lt-ltb}
use lib.Dec.{leb, ltb}
use Rattle.exact_plane.specs.Point.{Point}
use Rattle.plane_graphs.specs.Graph.{Edge}
use Rattle.slab_laws.specs.Skeleton.{Skeleton, HasWeight, left_of, below, IsPlaneSkeleton}
use Rattle.slab_laws.specs.Slabs.{spans}
use Rattle.slab_laws.specs.Faces.{walls}
use Rattle.slab_faces.specs.LocationLaws.{IsOrderedAs, WallsTellSlabs, spans_by_walls, IsSlabByWalls, WallsTellEdges}
use Rattle.slab_faces.proofs.Sums.{each, sum_by-same, sum_by-none, fewer, fewer_than}
use Rattle.slab_faces.proofs.Walls.{left_of-asym, left_of-after}
use Rattle.slab_faces.proofs.Cells.{not_right_trans}
use Rattle.slab_faces.proofs.Member.{member_in, in_member}
use Rattle.slab_faces.proofs.Searches.{best_of}
use Rattle.slab_faces.proofs.WallsLemmas.{wall_vertex, wall_of_vertex}

-- ---- cuts
-- with a point, the test passes each point of its abscissa and of a lesser one
record IsCut (p : Point → Bool) : Type 0 where
  closed : (v w : Point) → HasWeight v → HasWeight w → left_of w v ≡ false → p w ≡ true → p v ≡ true

left_cut : (t : Point) → HasWeight t → IsCut (λ v. left_of v t)
left_cut t T = record { closed = λ v w V W a h. left_of-after v w t V W T a h }

up_to_cut : (t : Point) → HasWeight t → IsCut (λ v. not (left_of t v))
up_to_cut t T = record { closed = λ v w V W a h. ap not (not_right_trans v w t V W T a (not-true _ h)) }

no_cut : IsCut (λ v. false)
no_cut = record { closed = λ v w V W a h. h }

none_pass : (xs : List Point) → count_by (λ v. false) xs ≡ 0
none_pass xs = sum_by-none xs

-- with a point that it fails, it fails each of the same abscissa and of a greater one
failed : (p : Point → Bool) (v w : Point) → IsCut p → HasWeight v → HasWeight w → left_of w v ≡ false → p v ≡ false → p w ≡ false
failed p v w P V W a h = false_from_ne_true _ (λ k. false≢true (sym h ∙ P.closed v w V W a k))

-- ---- the counts of two cuts
-- more pass q than p, of the vertices and of the walls; or no more do
record IsMore (g : Skeleton) (p q : Point → Bool) : Type 0 where
  vertices : count_by p g.vertices < count_by q g.vertices
  walls : count_by p (walls g) < count_by q (walls g)

record IsNoMore (g : Skeleton) (p q : Point → Bool) : Type 0 where
  vertices : count_by q g.vertices ≤ count_by p g.vertices
  walls : count_by q (walls g) ≤ count_by p (walls g)

more_or_not : (g : Skeleton) (p q : Point → Bool) → IsPlaneSkeleton g → IsCut p → IsCut q → IsMore g p q ⊎ IsNoMore g p q
more_or_not g p q plane P Q =
    elim (best_of (λ v. q v && not (p v)) (λ x y. false) g.vertices (λ x. refl) (λ x y z a b c h k. absurd (false≢true h))) [
      | inl none ↦
          let sub : (v : Point) → Contains g.vertices v → q v ≡ true → p v ≡ true = λ v V h. still (q v) (p v) (none v (in_member g.vertices v V)) h in
          inr (record {
            vertices = fewer q p g.vertices sub;
            walls = fewer q p (walls g) (λ v V h. sub v (wall_vertex g v (in_member (walls g) v V)) h);
          })
      | inr b ↦
          let v = b.0 in
          let V = member_in g.vertices v b.1.in' in
          let a = and_parts (q v) (not (p v)) b.1.passes in
          let off = not-true _ a.1 in
          let w = wall_of_vertex g v plane V in
          let W = plane.proper w.0 (wall_vertex g w.0 w.1.wall) in
          let sub : (x : Point) → Contains g.vertices x → p x ≡ true → q x ≡ true = λ x X h.
          let k = false_from_ne_true (left_of v x) (λ l. false≢true (sym off ∙ P.closed v x (plane.proper v V) (plane.proper x X) (left_of-asym v x l) h)) in
          Q.closed x v (plane.proper x X) (plane.proper v V) k a.0 in
          inl (record {
            vertices = fewer_than p q g.vertices v V off a.0 sub;
            walls = fewer_than p q (walls g) w.0 (member_in (walls g) w.0 w.1.wall)
                (failed p v w.0 P (plane.proper v V) W w.1.there off)
                (Q.closed w.0 v W (plane.proper v V) w.1.back a.0)
                (λ x X h. sub x (wall_vertex g x (in_member (walls g) x X)) h);
          })
    ]
  where
    still : (a b : Bool) → (a && not b) ≡ false → a ≡ true → b ≡ true
    still a true h k = refl
    still true false h k = absurd (false≢true (sym h))
    still false false h k = k

less_same : (g : Skeleton) (p q : Point → Bool) → IsPlaneSkeleton g → IsCut p → IsCut q → (count_by p g.vertices < count_by q g.vertices) ↔ (count_by p (walls g) < count_by q (walls g))
less_same g p q plane P Q = elim (more_or_not g p q plane P Q) [ inl a ↦ (λ e. a.walls, λ e. a.vertices) | inr a ↦ (λ e. omega arith, λ e. omega arith) ]

both_ways : (i j m n : ℕ) → (i < j) ↔ (m < n) → (j < i) ↔ (n < m) → IsOrderedAs i j m n
both_ways i j m n a b = record { same = (λ e. grind arith, λ e. grind arith); less = a; at_most = (λ e. grind arith, λ e. grind arith) }

one_order : (g : Skeleton) (p q : Point → Bool) → IsPlaneSkeleton g → IsCut p → IsCut q → IsOrderedAs (count_by p g.vertices) (count_by q g.vertices) (count_by p (walls g)) (count_by q (walls g))
one_order g p q plane P Q = both_ways _ _ _ _ (less_same g p q plane P Q) (less_same g q p plane Q P)

-- none passes a cut of the vertices exactly where none does of the walls
first : (g : Skeleton) (p : Point → Bool) → IsPlaneSkeleton g → IsCut p → (count_by p g.vertices ≡ 0) ↔ (count_by p (walls g) ≡ 0)
first g p plane P =
    let o = one_order g p (λ v. false) plane P no_cut in
    (λ e. o.same.0 (e ∙ sym (none_pass g.vertices)) ∙ none_pass (walls g), λ e. o.same.1 (e ∙ sym (none_pass (walls g))) ∙ none_pass g.vertices)

pub walls_tell_slabs : WallsTellSlabs
walls_tell_slabs = record {
  left_and_left = λ g t u plane T U. one_order g (λ v. left_of v t) (λ v. left_of v u) plane (left_cut t T) (left_cut u U);
  right_and_right = λ g t u plane T U. one_order g (λ v. not (left_of t v)) (λ v. not (left_of u v)) plane (up_to_cut t T) (up_to_cut u U);
  left_and_right = λ g t u plane T U. one_order g (λ v. left_of v t) (λ v. not (left_of u v)) plane (left_cut t T) (up_to_cut u U);
  right_and_left = λ g t u plane T U. one_order g (λ v. not (left_of t v)) (λ v. left_of v u) plane (up_to_cut t T) (left_cut u U);
  left_is_first = λ g t plane T. first g (λ v. left_of v t) plane (left_cut t T);
  right_is_first = λ g t plane T. first g (λ v. not (left_of t v)) plane (up_to_cut t T);
}

-- ---- edges in the slab at a cut
leb_same : (i j m n : ℕ) → IsOrderedAs i j m n → leb i j ≡ leb m n
leb_same i j m n o = elim (cases_lt j i) [
  | inl a ↦ lt-leb i j a ∙ sym (lt-leb m n (grind (arith, o.at_most)))
  | inr a ↦ le-leb i j a ∙ sym (le-leb m n (o.at_most.0 a))
]

ltb_same : (i j m n : ℕ) → IsOrderedAs i j m n → ltb i j ≡ ltb m n
ltb_same i j m n o = elim (cases_lt i j) [
  | inl a ↦ lt-ltb i j a ∙ sym (lt-ltb m n (o.less.0 a))
  | inr a ↦ le-ltb i j a ∙ sym (le-ltb m n (grind (arith, o.less)))
]

spans_same : (g : Skeleton) (p : Point → Bool) (e : Edge) → IsPlaneSkeleton g → IsCut p → Contains g.edges e → spans g (count_by p g.vertices) e ≡ spans_by_walls g (count_by p (walls g)) e
spans_same g p e plane P E =
    let h = plane.proper_edge e E in
    let low = leb_same _ _ _ _ (one_order g (λ v. not (left_of e.low v)) p plane (up_to_cut e.low h.0) P) in
    let high = ltb_same _ _ _ _ (one_order g p (λ v. not (left_of e.high v)) plane P (up_to_cut e.high h.1)) in
    λ i. low i && high i

at_cut : (g : Skeleton) (p : Point → Bool) → IsPlaneSkeleton g → IsCut p → IsSlabByWalls g (count_by p g.vertices) (count_by p (walls g))
at_cut g p plane P =
    let i = count_by p g.vertices in
    let n = count_by p (walls g) in
    record {
      same_spans = λ e E. spans_same g p e plane P E;
      same_place = λ e. let counted : (Edge → Bool) → Edge → ℕ = λ s f. cond (s f && below f e) 1 0 in
          sum_by-same (counted (spans g i)) (counted (spans_by_walls g n)) g.edges (each (λ f. counted (spans g i) f ≡ counted (spans_by_walls g n) f) g.edges (λ f F. ap (λ b. cond {A = ℕ} (b && below f e) 1 0) (spans_same g p f plane P F)));
    }

pub walls_tell_edges : WallsTellEdges
walls_tell_edges = record {
  in_left = λ g t plane T. at_cut g (λ v. left_of v t) plane (left_cut t T);
  in_right = λ g t plane T. at_cut g (λ v. not (left_of t v)) plane (up_to_cut t T);
  in_first = λ g plane. rw (none_pass g.vertices, none_pass (walls g)) at (at_cut g (λ v. false) plane no_cut);
}
