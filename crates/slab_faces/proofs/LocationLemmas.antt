-- Where a point lies, and the faces of cells.
use Rattle.std.proofs.Common.{◌≡◌, ℕ, ◌+◌, ◌<◌, Bool, true, false, cond, arith, refl, sym, ap, ◌∙◌, subst, inl, inr, List, [], ◌∷◌, ◌++◌, map, length, Option, Some, None}
use Rattle.std.specs.Prelude.{not, filter, find}
use Rattle.std.specs.List.{Contains, count_by, position_or_len}
use Rattle.std.proofs.lemmas.Bool.{false≢true, false_from_ne_true}
use Rattle.std.proofs.lemmas.List.Sums.{sum_by-cons}
use Rattle.exact_plane.specs.Point.{Point}
use Rattle.plane_graphs.specs.Graph.{Edge}
use Rattle.slab_laws.specs.declared.slab_cell.SlabCell.{SlabCell}
use Rattle.slab_laws.specs.declared.cell.Cell.TheVariants.{Vertex, Edge as OnEdge, Face}
use Rattle.slab_laws.specs.Listed.{distinct}
use Rattle.slab_laws.specs.Skeleton.{Skeleton, same_point, inside, IsPlaneSkeleton}
use Rattle.slab_laws.specs.Slabs.{left_cell}
use Rattle.slab_laws.specs.Faces.{face_labels, face_of, same_cell, cells}
use Rattle.slab_laws.specs.Subdivision.{Cycle, subdivision, cycles, ranked, holds, rank, spot_on, holds_in, first_cell}
use Rattle.slab_laws.specs.Darts.{darts}
use Rattle.slab_faces.specs.LocationLaws.{IsNoVertex}
use Rattle.slab_faces.specs.Locations.{LocationIs, CellsHaveFaces}
use Rattle.slab_faces.proofs.Member.{Member, member_in, in_member, filter_out, map_in, append_right, distinct_in}
use Rattle.slab_faces.proofs.ClassesLemmas.{IsExact}
use Rattle.slab_faces.proofs.FacesLemmas.{cells_exact}
use Rattle.slab_faces.proofs.Parity.{same_point_is, same_point_refl}

-- ---- the first that passes a test
module _ {X : Type 0} (p : X → Bool) where
  pub find_none : (xs : List X) → ((x : X) → Member xs x → p x ≡ false) → find p xs ≡ None
  find_none [] f = refl
  find_none (x ∷ xs) f = rw (f x (inl refl)) (find_none xs (λ z h. f z (inr h)))

  pub record IsFound (xs : List X) : Type 0 where
    pub item : X
    pub there : Member xs item
    pub passes : p item ≡ true
    pub is : find p xs ≡ Some item

  pub find_some : (xs : List X) (x : X) → Member xs x → p x ≡ true → IsFound xs
  find_some [] x h e = absurd h
  find_some (y ∷ ys) x h e = step (p y) refl h (λ k. find_some ys x k e)
    where
      step : (b : Bool) → p y ≡ b → Member (y ∷ ys) x → (Member ys x → IsFound ys) → IsFound (y ∷ ys)
      step true q h f = record { item = y; there = inl refl; passes = q; is = rw q refl }
      step false q (inl a) f = absurd (false≢true (sym q ∙ ap p a ∙ e))
      step false q (inr k) f = let r = f k in record { item = r.item; there = inr r.there; passes = r.passes; is = rw q r.is }

-- ---- where a point lies
holds_is : (g : Skeleton) (q : Point) → holds (subdivision g) q ≡ spot_on (find (same_point q) g.vertices) (find (λ e. inside e q) g.edges) (rank (subdivision g) (face_of (face_labels g) (left_cell g q)))
unfolding holds_in subdivision rank
holds_is g q = refl

vertex_spot : (o : Option Point) (e : Option Edge) (k : ℕ) (v : Point) → o ≡ Some v → spot_on o e k ≡ Vertex v
unfolding spot_on
vertex_spot o e k v h = rw h refl

edge_spot : (o : Option Point) (e : Option Edge) (k : ℕ) (d : Edge) → o ≡ None → e ≡ Some d → spot_on o e k ≡ OnEdge d.low d.high
unfolding spot_on
edge_spot o e k d h i = rw (h, i) refl

face_spot : (o : Option Point) (e : Option Edge) (k : ℕ) → o ≡ None → e ≡ None → spot_on o e k ≡ Face k
unfolding spot_on
face_spot o e k h i = rw (h, i) refl

no_vertex : (g : Skeleton) (e : Edge) (q : Point) → IsPlaneSkeleton g → Contains g.edges e → inside e q ≡ true → IsNoVertex g q
no_vertex g e q plane E h v V = false_from_ne_true (same_point q v) (λ s. false≢true (sym (plane.clear e v E V) ∙ subst (λ z. inside e z ≡ true) (same_point_is q v s) h))

none_found : (g : Skeleton) (q : Point) → IsNoVertex g q → find (same_point q) g.vertices ≡ None
none_found g q f = find_none (same_point q) g.vertices (λ v h. f v (member_in g.vertices v h))

pub location_is : LocationIs
location_is = record {
  on_vertex = λ g v V.
      let r = find_some (same_point v) g.vertices v (in_member g.vertices v V) (same_point_refl v) in
      holds_is g v ∙ vertex_spot _ _ _ v (r.is ∙ ap Some (sym (same_point_is v r.item r.passes)));
  no_vertex = no_vertex;
  on_edge = λ g e q plane E h.
      let r = find_some (λ e. inside e q) g.edges e (in_member g.edges e E) h in
      record { edge = r.item; is_edge = member_in g.edges r.item r.there; inside_it = r.passes; located = holds_is g q ∙ edge_spot _ _ _ r.item (none_found g q (no_vertex g e q plane E h)) r.is };
  in_face = λ g q f h. holds_is g q ∙ face_spot _ _ _ (none_found g q f) (find_none (λ e. inside e q) g.edges (λ e E. h e (member_in g.edges e E)));
}

-- ---- the first of each kind stands once
module _ {X : Type 0} (same : X → X → Bool) (exact : IsExact same) where
  tally : (p : X → Bool) (x : X) (xs : List X) → count_by p (x ∷ xs) ≡ cond (p x) 1 0 + count_by p xs
  tally p x xs = sum_by-cons (λ y. cond (p y) 1 0) x xs

  none_counted : (p : X → Bool) (xs : List X) → ((z : X) → Member xs z → p z ≡ false) → count_by p xs ≡ 0
  none_counted p [] f = refl
  none_counted p (x ∷ xs) f =
      let e = tally p x xs in
      let k : cond {A = ℕ} (p x) 1 0 ≡ 0 = rw (f x (inl refl)) refl in
      let ih = none_counted p xs (λ z h. f z (inr h)) in
      omega arith

  -- counted once in a list from which another element was taken out
  kept_count : (x z : X) (xs : List X) → same x z ≡ false → count_by (same z) (filter (λ y. not (same x y)) xs) ≡ count_by (same z) xs
  kept_count x z [] h = refl
  kept_count x z (y ∷ ys) h = step (same x y) refl (kept_count x z ys h)
    where
      step : (b : Bool) → same x y ≡ b → count_by (same z) (filter (λ y. not (same x y)) ys) ≡ count_by (same z) ys → count_by (same z) (cond (not b) (y ∷ filter (λ y. not (same x y)) ys) (filter (λ y. not (same x y)) ys)) ≡ count_by (same z) (y ∷ ys)
      step true e ih =
          let t = tally (same z) y ys in
          let n : same z y ≡ false = false_from_ne_true (same z y) (λ s. false≢true (sym h ∙ subst (λ w. same x w ≡ true) (sym (exact.path z y s)) e)) in
          let k : cond {A = ℕ} (same z y) 1 0 ≡ 0 = rw n refl in
          omega arith
      step false e ih =
          let t = tally (same z) y ys in
          let u = tally (same z) y (filter (λ y. not (same x y)) ys) in
          omega arith

  pub distinct_once : (z : X) (xs : List X) → Member xs z → count_by (same z) (distinct same xs) ≡ 1
  unfolding distinct
  distinct_once z [] h = absurd h
  distinct_once z (x ∷ xs) h = step (same x z) refl h (distinct_once z xs)
    where
      step : (b : Bool) → same x z ≡ b → Member (x ∷ xs) z → (Member xs z → count_by (same z) (distinct same xs) ≡ 1) → count_by (same z) (x ∷ filter (λ y. not (same x y)) (distinct same xs)) ≡ 1
      step true e h f =
          let p : x ≡ z = exact.path x z e in
          let t = tally (same z) x (filter (λ y. not (same x y)) (distinct same xs)) in
          let k : cond {A = ℕ} (same z x) 1 0 ≡ 1 = rw (subst (λ w. same z w ≡ true) (sym p) (exact.itself z)) refl in
          let n : count_by (same z) (filter (λ y. not (same x y)) (distinct same xs)) ≡ 0 = none_counted (same z) (filter (λ y. not (same x y)) (distinct same xs)) (λ y m. false_from_ne_true (same z y) (λ s.
          let o = (filter_out (λ y. not (same x y)) (distinct same xs) y m).1 in
          let w : same x y ≡ true = subst (λ v. same v y ≡ true) (sym p) s in
          false≢true (sym (ap not w) ∙ o))) in
          omega arith
      step false e (inl a) f = absurd (false≢true (sym e ∙ subst (λ w. same x w ≡ true) a (exact.itself x)))
      step false e (inr k) f =
          let t = tally (same z) x (filter (λ y. not (same x y)) (distinct same xs)) in
          let n : same z x ≡ false = false_from_ne_true (same z x) (λ s. false≢true (sym e ∙ subst (λ w. same w z ≡ true) (exact.path z x s) (exact.itself z))) in
          let c : cond {A = ℕ} (same z x) 1 0 ≡ 0 = rw n refl in
          let kc = kept_count x z (distinct same xs) e in
          let ih = f k in
          omega arith

-- what is there has its place within
within : {X : Type 0} (p : X → Bool) (xs : List X) (x : X) → Member xs x → p x ≡ true → position_or_len p xs < length xs
within p [] x h e = absurd h
within p (y ∷ ys) x h e = step (p y) refl h (λ k. within p ys x k e)
  where
    step : (b : Bool) → p y ≡ b → Member (y ∷ ys) x → (Member ys x → position_or_len p ys < length ys) → position_or_len p (y ∷ ys) < length (y ∷ ys)
    step true q h f = rw q (omega arith)
    step false q (inl a) f = absurd (false≢true (sym q ∙ ap p a ∙ e))
    step false q (inr k) f = let r = f k in rw q (omega arith)

ranked_list : (g : Skeleton) → List SlabCell
ranked_list g = face_of (face_labels g) first_cell ∷ (map (λ (c : Cycle). c.face) (filter (λ (c : Cycle). c.outer) (cycles g (darts g) (face_labels g))) ++ map (face_of (face_labels g)) (cells g))

faces_are : (g : Skeleton) → (subdivision g).faces ≡ distinct same_cell (ranked_list g)
unfolding subdivision ranked ranked_list
faces_are g = refl

face_listed : (g : Skeleton) (c : SlabCell) → Contains (cells g) c → Member (ranked_list g) (face_of (face_labels g) c)
unfolding ranked_list
face_listed g c h = inr (append_right (map (λ (c : Cycle). c.face) (filter (λ (c : Cycle). c.outer) (cycles g (darts g) (face_labels g)))) (map (face_of (face_labels g)) (cells g)) _ (map_in (face_of (face_labels g)) (cells g) c (in_member (cells g) c h)))

has_rank : (g : Skeleton) (c : SlabCell) → Contains (cells g) c → rank (subdivision g) (face_of (face_labels g) c) < length (subdivision g).faces
unfolding rank
has_rank g c h =
    let f = face_of (face_labels g) c in
    let d = distinct_in same_cell (ranked_list g) (λ x _. cells_exact.itself x) (λ x y z _ _ _ a b. subst (λ w. same_cell x w ≡ true) (cells_exact.path y z b) a) f (face_listed g c h) in
    subst (λ fs. position_or_len (same_cell f) fs < length fs) (sym (faces_are g))
    (within (same_cell f) (distinct same_cell (ranked_list g)) d.0 d.1 (subst (λ w. same_cell w d.0 ≡ true) (cells_exact.path d.0 f d.2) (cells_exact.itself d.0)))

pub cells_have_faces : CellsHaveFaces
cells_have_faces = record {
  once = λ g c h. subst (λ fs. count_by (same_cell (face_of (face_labels g) c)) fs ≡ 1) (sym (faces_are g)) (distinct_once same_cell cells_exact (face_of (face_labels g) c) (ranked_list g) (face_listed g c h));
  ranked = has_rank;
}
