-- A skeleton laid into itself: each cell lies in itself, and each face in the list of faces is that of a cell.
use Rattle.std.proofs.Common.{◌≡◌, ℕ, ◌+◌, ◌≤◌, Bool, true, false, cond, arith, refl, sym, ap, ◌∙◌, subst, inl, inr, ⊎_elim, List, [], ◌∷◌, ◌++◌, map, zero, suc}
use Rattle.std.specs.Prelude.{not, ◌&&◌, ◌==◌, filter, Some}
use Rattle.std.specs.List.{Contains, count_by, sum_by, position_or_len, slice_get}
use Rattle.std.proofs.lemmas.Bool.{false≢true, and_parts, and_from, false_from_ne_true, eqb-true, ltb-true, leb-true, eq-eqb}
use Rattle.std.proofs.lemmas.List.Sums.{sum_by-cons}
use Rattle.std.proofs.lemmas.Option.{slice_get_within, get_or_from_slice_get}
use lib.Dec.{ltb, leb}
use Rattle.exact_plane.specs.Point.{Point}
use Rattle.plane_graphs.specs.Graph.{Edge}
use Rattle.plane_graphs.proofs.Ascending.{to_member, from_member, Member-ascending}
use Rattle.slab_laws.specs.declared.slab_cell.SlabCell.{SlabCell}
use Rattle.slab_laws.specs.Skeleton.{Skeleton, left_of, IsPlaneSkeleton}
use Rattle.slab_laws.specs.Slabs.{slab_right, spans, place, width}
use Rattle.slab_laws.specs.Darts.{Dart, darts}
use Rattle.slab_laws.specs.Rotation.{same_dart, dart_cmp}
use Rattle.slab_laws.specs.Classes.{class_of}
use Rattle.slab_laws.specs.Cycles.{dart_labels, leads, left_of_dart}
use Rattle.slab_laws.specs.Faces.{face_labels, face_of, same_cell, walls, cells}
use Rattle.slab_laws.specs.Subdivision.{Cycle, cycle, cycles, subdivision, ranked, first_cell}
use Rattle.slab_faces.proofs.Sums.{each, sum_by-same, sum_by-plus}
use Rattle.slab_faces.proofs.Walls.{left_of-irrefl}
use Rattle.slab_faces.proofs.Slabs.{IsSlab, place_same}
use Rattle.slab_faces.proofs.Nudge.{right_inside, is_slab_right}
use Rattle.slab_faces.proofs.Turns.{on_own_wall}
use Rattle.slab_faces.proofs.Member.{Member, member_in, in_member, append_cases, filter_out, map_out, distinct_out}
use Rattle.slab_faces.proofs.WallsLemmas.{wall_vertex}
use Rattle.slab_faces.proofs.ListedCells.{cell_out, first_listed, dart_cell}
use Rattle.slab_faces.proofs.DartOrder.{dart_cmp_total}
use Rattle.slab_faces.proofs.NextLemmas.{dart_out}
use Rattle.slab_faces.proofs.EveryFace.{place_step, edge_at, none_counted, passing, first_width}
use Rattle.overlay_laws.proofs.Pairs.{only_counted}
use Rattle.overlay_laws.proofs.Counts.{right_cut, cell_by, slab_cut}

-- ---- places are counts
module _ (g : Skeleton) (plane : IsPlaneSkeleton g) where
  below_none : (i : ℕ) → count_by (λ e. spans g i e && ltb (place g i e) 0) g.edges ≡ 0
  below_none i =
      none_counted (λ e. spans g i e && ltb (place g i e) 0) g.edges (λ e E. false_from_ne_true _ (λ h.
      let a = and_parts (spans g i e) (ltb (place g i e) 0) h in
      let b = ltb-true _ _ a.1 in
      absurd (omega arith)))

  -- of the edges of a slab just j have a place below j
  below_count : (i : ℕ) (M : Point) → IsSlab g i M → (j : ℕ) → j ≤ width g i → count_by (λ e. spans g i e && ltb (place g i e) j) g.edges ≡ j
  below_count i M slab zero h = below_none i
  below_count i M slab (suc j) h =
      let now : Edge → ℕ = λ e. cond (spans g i e && ltb (place g i e) (suc j)) 1 0 in
      let old : Edge → ℕ = λ e. cond (spans g i e && ltb (place g i e) j) 1 0 in
      let new : Edge → ℕ = λ e. cond (spans g i e && (place g i e == j)) 1 0 in
      let a : sum_by now g.edges ≡ sum_by (λ e. old e + new e) g.edges = sum_by-same now (λ e. old e + new e) g.edges (each (λ e. now e ≡ old e + new e) g.edges (λ e E. place_step (spans g i e) (place g i e) j)) in
      let b = sum_by-plus old new g.edges in
      let w = edge_at g i M plane slab j (omega arith) in
      let c : sum_by new g.edges ≡ 1 = only_counted (λ e. spans g i e && (place g i e == j)) g.edges plane.edge_once (record {
        edge = w.0;
        there = w.1;
        passes = and_from _ _ w.2 (eq-eqb _ _ w.3);
        only = λ e E k.
            let x = and_parts (spans g i e) (place g i e == j) k in
            place_same g i M w.0 e plane slab w.1 E w.2 x.0 (w.3 ∙ sym (eqb-true _ _ x.1));
      }) in
      let d = below_count i M slab j (omega arith) in
      omega arith

  no_slab : count_by (λ v. leb (slab_right g v) 0) g.vertices ≡ 0
  no_slab = none_counted (λ v. leb (slab_right g v) 0) g.vertices (λ v V. false_from_ne_true _ (λ h.
      let a = leb-true _ _ h in
      let b = passing (λ w. not (left_of v w)) g.vertices v V (ap not (left_of-irrefl v)) in
      absurd (omega arith)))

  slab_is : (w : Point) → Contains g.vertices w → count_by (λ v. leb (slab_right g v) (slab_right g w)) g.vertices ≡ slab_right g w
  slab_is w W =
      let starts : Point → ℕ = λ v. cond (leb (slab_right g v) (slab_right g w)) 1 0 in
      sum_by-same starts (λ v. cond (not (left_of w v)) 1 0) g.vertices (each (λ v. starts v ≡ cond (not (left_of w v)) 1 0) g.vertices (λ v V. ap (λ b. cond {A = ℕ} b 1 0) (slab_cut g plane w (plane.proper w W) (λ v. not (left_of w v)) (right_cut w (plane.proper w W)) v V)))

  module _ (own : Edge → Bool) (all : (e : Edge) → Contains g.edges e → own e ≡ true) where
    with_own : (i j : ℕ) → count_by (λ e. (spans g i e && ltb (place g i e) j) && own e) g.edges ≡ count_by (λ e. spans g i e && ltb (place g i e) j) g.edges
    with_own i j =
        let lies : Edge → ℕ = λ e. cond ((spans g i e && ltb (place g i e) j) && own e) 1 0 in
        let below : Edge → ℕ = λ e. cond (spans g i e && ltb (place g i e) j) 1 0 in
        sum_by-same lies below g.edges (each (λ e. lies e ≡ below e) g.edges (λ e E. ap (λ b. cond {A = ℕ} b 1 0) (ap (λ b. (spans g i e && ltb (place g i e) j) && b) (all e E) ∙ same_and (spans g i e && ltb (place g i e) j))))
      where
        same_and : (b : Bool) → (b && true) ≡ b
        same_and true = refl
        same_and false = refl

    own_cell : (i j : ℕ) → Member (0 ∷ map (slab_right g) (walls g)) i → j ≤ width g i → cell_by own g g (record { slab = i; place = j }) ≡ record { slab = i; place = j }
    own_cell i j (inl e) h =
        let z : j ≡ 0 = (let w = first_width g plane in let k = subst (λ n. j ≤ width g n) (sym e) h in omega arith) in
        let a : count_by (λ v. leb (slab_right g v) i) g.vertices ≡ i = subst (λ n. count_by (λ v. leb (slab_right g v) n) g.vertices ≡ n) e no_slab in
        let b : count_by (λ e. (spans g i e && ltb (place g i e) j) && own e) g.edges ≡ j = with_own i j ∙ subst (λ n. count_by (λ e. spans g i e && ltb (place g i e) n) g.edges ≡ n) (sym z) (below_none i) in
        λ k. record { slab = a k; place = b k }
    own_cell i j (inr m) h =
        let r = map_out (slab_right g) (walls g) i m in
        let w = r.0 in
        let W = wall_vertex g w r.1 in
        let slab : IsSlab g i (right_inside g w) = subst (λ n. IsSlab g n (right_inside g w)) r.2 (is_slab_right g w plane (on_own_wall g w plane W)) in
        let a : count_by (λ v. leb (slab_right g v) i) g.vertices ≡ i = subst (λ n. count_by (λ v. leb (slab_right g v) n) g.vertices ≡ n) r.2 (slab_is w W) in
        let b : count_by (λ e. (spans g i e && ltb (place g i e) j) && own e) g.edges ≡ j = with_own i j ∙ below_count i (right_inside g w) slab j h in
        λ k. record { slab = a k; place = b k }

    pub lies_in_itself : (c : SlabCell) → Member (cells g) c → cell_by own g g c ≡ c
    lies_in_itself c m = let l = cell_out g c m in own_cell c.slab c.place l.slab l.place

  -- ---- each face in the list is that of a cell
  abbrev pub OfCell : SlabCell → Type 0
  OfCell f = (c : SlabCell) × Member (cells g) c × (face_of (face_labels g) c ≡ f)

  is_lead : Dart → Bool
  is_lead d = same_dart d (class_of same_dart (dart_labels (darts g)) d)

  lead_dart : (d : Dart) → Member (leads (darts g) (dart_labels (darts g))) d → Member (darts g) d
  unfolding leads is_lead
  lead_dart d h = (filter_out is_lead (darts g) d (in_member (filter is_lead (darts g)) d (from_member (filter is_lead (darts g)) d (Member-ascending dart_cmp dart_cmp_total d (filter is_lead (darts g)) (to_member (leads (darts g) (dart_labels (darts g))) d (member_in (leads (darts g) (dart_labels (darts g))) d h)))))).0

  cycle_face : (f : SlabCell) → Member (map (λ (c : Cycle). c.face) (filter (λ (c : Cycle). c.outer) (cycles g (darts g) (face_labels g)))) f → OfCell f
  unfolding cycles cycle
  cycle_face f h =
      let a = map_out (λ (c : Cycle). c.face) (filter (λ (c : Cycle). c.outer) (cycles g (darts g) (face_labels g))) f h in
      let b = filter_out (λ (c : Cycle). c.outer) (cycles g (darts g) (face_labels g)) a.0 a.1 in
      let d = map_out (cycle g (face_labels g) (darts g) (dart_labels (darts g))) (leads (darts g) (dart_labels (darts g))) a.0 b.0 in
      (left_of_dart g d.0, dart_cell g plane d.0.edge d.0.forward (dart_out g d.0 (lead_dart d.0 d.1)), ap (λ (c : Cycle). c.face) d.2 ∙ a.2)

  pub face_of_cell : (f : SlabCell) → Member (subdivision g).faces f → OfCell f
  unfolding subdivision ranked
  face_of_cell f h =
      let ls = face_labels g in
      let outer : List SlabCell = map (λ (c : Cycle). c.face) (filter (λ (c : Cycle). c.outer) (cycles g (darts g) ls)) in
      by (distinct_out same_cell (face_of ls first_cell ∷ (outer ++ map (face_of ls) (cells g))) f h)
    where
      by : Member (face_of (face_labels g) first_cell ∷ (map (λ (c : Cycle). c.face) (filter (λ (c : Cycle). c.outer) (cycles g (darts g) (face_labels g))) ++ map (face_of (face_labels g)) (cells g))) f → OfCell f
      by (inl e) = (first_cell, first_listed g, e)
      by (inr m) =
          ⊎_elim
          (λ a. cycle_face f a)
          (λ a. map_out (face_of (face_labels g)) (cells g) f a)
          (append_cases (map (λ (c : Cycle). c.face) (filter (λ (c : Cycle). c.outer) (cycles g (darts g) (face_labels g)))) (map (face_of (face_labels g)) (cells g)) f m)

-- ---- the place of what passes once
module _ {X : Type 0} (t : X → Bool) where
  pub there : (xs : List X) (k : ℕ) (x : X) → slice_get xs k ≡ Some x → Contains xs x
  there xs k x at = (k, slice_get_within xs k x at, get_or_from_slice_get xs k x x at)

  pub position_once : (xs : List X) (k : ℕ) (x : X) → count_by t xs ≡ 1 → slice_get xs k ≡ Some x → t x ≡ true → position_or_len t xs ≡ k
  position_once [] k x once at h = absurd (cc)
  position_once (y ∷ ys) k x once at h = step (t y) refl k at (λ j c a. position_once ys j x c a h)
    where
      tally : count_by t (y ∷ ys) ≡ cond (t y) 1 0 + count_by t ys
      tally = sum_by-cons (λ z. cond (t z) 1 0) y ys

      step : (b : Bool) → t y ≡ b → (k : ℕ) → slice_get (y ∷ ys) k ≡ Some x → ((j : ℕ) → count_by t ys ≡ 1 → slice_get ys j ≡ Some x → position_or_len t ys ≡ j) → position_or_len t (y ∷ ys) ≡ k
      step true e zero at f = rw e refl
      step true e (suc k) at f =
          let a : cond {A = ℕ} (t y) 1 0 ≡ 1 = rw e refl in
          let b = passing t ys x (there ys k x at) h in
          let c = tally in
          absurd (omega arith)
      step false e zero at f = let i : y ≡ x = cc in absurd (false≢true (sym e ∙ ap t i ∙ h))
      step false e (suc k) at f =
          let a : cond {A = ℕ} (t y) 1 0 ≡ 0 = rw e refl in
          let c = tally in
          let ih = f k (omega arith) at in
          rw e (omega arith)
