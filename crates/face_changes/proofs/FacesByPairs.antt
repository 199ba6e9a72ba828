-- Three ways of saying that face records stand for the faces are one: by least cells, by least cells and outer cycles, by pairs of things.
-- Outer cycles follow from the rest, since every plane graph has one for each bounded face, and none for the unbounded one. v is the view, f its cycles and faces, g the graph that v draws.
use Rattle.std.proofs.Common.{refl, ◌≡◌, ℕ, ◌<◌, ◌≤◌, true, arith, sym, ap, ◌∙◌, subst, ◌⊎◌, inl, inr, List, [], ◌∷◌}
use Rattle.std.specs.Prelude.{◌==◌}
use Rattle.std.specs.List.{Contains, AllByRecursion}
use Rattle.std.proofs.lemmas.Bool.{cases_Bool, cases_lt, eqb-true, eq-eqb, false≢true}
use Rattle.slab_laws.specs.declared.names.CycleId.{CycleId}
use Rattle.slab_laws.specs.declared.names.CycleKind.TheVariants.{Outer}
use Rattle.slab_laws.specs.declared.names.DartId.{DartId}
use Rattle.slab_laws.specs.declared.names.FaceId.{FaceId}
use Rattle.slab_laws.specs.declared.slab_cell.SlabCell.{SlabCell}
use Rattle.slab_laws.specs.Skeleton.{Skeleton, IsPlaneSkeleton}
use Rattle.slab_laws.specs.Darts.{Dart}
use Rattle.slab_laws.specs.Meets.{SameFace}
use Rattle.slab_laws.specs.Cycles.{left_of_dart}
use Rattle.slab_laws.specs.Faces.{face_labels, face_of, cells}
use Rattle.slab_laws.specs.FacesSound.{IsSound, IsFaced, IsCycled, IsComplete, IsOuterOf}
use Rattle.slab_laws.specs.Sound.{skeleton_of, dart_in, IsGraphSound}
use Rattle.slab_laws.specs.Subdivision.{first_cell}
use Rattle.slab_laws.specs.Tables.{NamesAscend}
use Rattle.slab_laws.specs.View.{View, Faces, HasDart, HasFace, point_in, cycle_in, kind_in, face_in}
use Rattle.slab_faces.proofs.Member.{Member, member_in, in_member}
use Rattle.slab_faces.proofs.FacesLemmas.{one_label, one_face}
use Rattle.slab_faces.proofs.Turns.{face_sym}
use Rattle.slab_faces.proofs.WallsLemmas.{cell_there}
use Rattle.sound_changes.specs.NextLaws.{IsDartOf}
use Rattle.sound_views.proofs.NamedDarts.{names_are_darts}
use Rattle.face_changes.specs.Kinds.{is_outer}
use Rattle.face_changes.specs.FacesByPairs.{Item, outside, beside, round, HasItem, cell_at, name_at, first_or, AreFacesTold, AreFacesByCells, OuterCyclesFollow, FacesToldByPairs}
use Rattle.face_changes.proofs.LinkedCycles.{dart_there, there_dart}
use Rattle.slab_faces.proofs.ListedCells.{dart_cell, first_listed}
use Rattle.face_changes.proofs.OuterCycles.{outer_there}
use Rattle.face_changes.proofs.OneMoreEdge.{one_kind_each, one_outer_cycle}

pub by_number : (a b : FaceId) → a.0 ≡ b.0 → a ≡ b
by_number a b q = λ i. record { 0 = q i }

has_or_not : (ns : List ℕ) (n : ℕ) → Contains ns n ⊎ ¬ Contains ns n
has_or_not [] n = inr (λ h. in_member [] n h)
has_or_not (k ∷ ns) n = elim (cases_Bool (k == n)) [
  | inl t ↦ inl (member_in (k ∷ ns) n (inl (eqb-true k n t)))
  | inr t ↦ elim (has_or_not ns n) [
    | inl h ↦ inl (member_in (k ∷ ns) n (inr (in_member ns n h)))
    | inr h ↦ inr (λ c. elim (in_member (k ∷ ns) n c) [ inl e ↦ false≢true (sym t ∙ eq-eqb k n e) | inr m ↦ h (member_in ns n m) ])
  ]
]

-- of names that ascend the first is the least
pub first_least : (ns : List ℕ) (n : ℕ) → NamesAscend ns → Contains ns n → (first_or ns).0 ≤ n
first_least [] n h c = absurd (in_member [] n c)
first_least (k ∷ ns) n h c = elim (in_member (k ∷ ns) n c) [ inl e ↦ omega arith | inr m ↦ go ns h.0 m ]
  where
    go : (ms : List ℕ) → AllByRecursion (λ m. k < m) ms → Member ms n → k ≤ n
    go [] a m = absurd m
    go (l ∷ ms) a (inl e) = let b = a.0 in omega arith
    go (l ∷ ms) a (inr m) = go ms a.1 m

first_in : (ns : List ℕ) (n : ℕ) → Contains ns n → Contains ns (first_or ns).0
first_in [] n h = absurd (in_member [] n h)
first_in (k ∷ ns) n h = member_in (k ∷ ns) k (inl refl)

module _ (v : View) (f : Faces) (sound : IsGraphSound v) (full : IsComplete v f) (cycled : IsCycled v f) where
  abbrev g : Skeleton
  g = skeleton_of v

  plane : IsPlaneSkeleton (skeleton_of v)
  plane = sound.plane

  is_dart : (d : DartId) → HasDart v d → IsDartOf g (dart_in v d)
  is_dart d h = there_dart g (dart_in v d) (names_are_darts.known v d sound h)

  named : (x : Dart) → IsDartOf g x → (d : DartId) × HasDart v d × (dart_in v d ≡ x)
  named x X = names_are_darts.there v x sound (dart_there g x X)

  -- a cycle's kind by any of its darts
  kind_to : (d : DartId) → HasDart v d → kind_in f (cycle_in f d) ≡ Outer → is_outer g (dart_in v d) ≡ true
  kind_to d h k = one_kind_each.lead g (dart_in v d) plane ∙ (cycled.kind d h).0 k

  kind_from : (d : DartId) → HasDart v d → is_outer g (dart_in v d) ≡ true → kind_in f (cycle_in f d) ≡ Outer
  kind_from d h k = (cycled.kind d h).1 (sym (one_kind_each.lead g (dart_in v d) plane) ∙ k)

  -- the cells of all that is there are listed
  listed : (i : Item) → HasItem v i → Contains (cells g) (cell_at v i)
  listed outside h = member_in (cells g) first_cell (first_listed g)
  listed (beside d) h = member_in (cells g) _ (dart_cell g plane (dart_in v d).edge (dart_in v d).forward (is_dart d h))
  listed (round w) h = member_in (cells g) _ (cell_there g (point_in v w) plane (sound.drawn.proper w h.0).positive)

  abbrev label : SlabCell → SlabCell
  label c = face_of (face_labels (skeleton_of v)) c

  -- cells with one label are in one face
  in_face : (c d : SlabCell) → label c ≡ label d → SameFace g c d
  in_face c d q = one_face g c d plane q

  -- ---- faces by their least cells
  module _ (cell : FaceId → SlabCell) (by : AreFacesByCells v f cell) where
    there : HasFace f (first_or f.faces)
    there = let a = by.all first_cell (member_in (cells g) first_cell (first_listed g)) in first_in f.faces a.0.0 a.1

    first_is : cell (first_or f.faces) ≡ label first_cell
    first_is = by.first (first_or f.faces) there (λ b h l. let k = first_least f.faces b.0 full.faces_ascend h in absurd (omega arith))

    -- a face that has another before it isn't the unbounded one
    bounded : (a b : FaceId) → HasFace f a → HasFace f b → b.0 < a.0 → cell a ≡ label first_cell → ⊥
    bounded a b h k l q =
        let m = first_least f.faces b.0 full.faces_ascend k in
        let e = ap (λ (z : FaceId). z.0) (by.differ a (first_or f.faces) h there (q ∙ sym first_is)) in
        absurd (omega arith)

    -- of an outer cycle: a dart, which has the face on its left
    outer_dart : (a : FaceId) (c : CycleId) → IsOuterOf f a c → (d : DartId) × HasDart v d × (cycle_in f d ≡ c) × (cell a ≡ label (left_of_dart g (dart_in v d))) × (is_outer g (dart_in v d) ≡ true)
    outer_dart a c o =
        let d = full.dart_has c o.0 in
        (d.0, d.1, d.2, sym (ap cell (ap (face_in f) d.2 ∙ o.1)) ∙ by.darts d.0 d.1, kind_to d.0 d.1 (ap (kind_in f) d.2 ∙ o.2))

    none_outside : (a : FaceId) (c : CycleId) → cell a ≡ label first_cell → IsOuterOf f a c → ⊥
    none_outside a c q o =
        let d = outer_dart a c o in
        false≢true (sym (one_outer_cycle.unbounded g (dart_in v d.0) plane (is_dart d.0 d.1) (in_face _ first_cell (sym d.3 ∙ q))) ∙ d.4)

    once_each : (a : FaceId) (c e : CycleId) → IsOuterOf f a c → IsOuterOf f a e → e ≡ c
    once_each a c e o o' =
        let d = outer_dart a c o in
        let k = outer_dart a e o' in
        let l = one_outer_cycle.once g (dart_in v k.0) (dart_in v d.0) plane (is_dart k.0 k.1) (is_dart d.0 d.1) (in_face _ _ (sym k.3 ∙ d.3)) k.4 d.4 in
        sym k.2 ∙ (cycled.orbits k.0 d.0 k.1 d.1).1 l ∙ d.2

    has_outer : (a : FaceId) → HasFace f a → (cell a ≡ label first_cell → ⊥) → (c : CycleId) × IsOuterOf f a c
    has_outer a h far =
        let r = by.real a h in
        let w = one_outer_cycle.bounded g r.0 plane r.1 (λ s. far (r.2 ∙ one_label g r.0 first_cell plane s)) in
        let d = named w.0 w.1 in
        let has = full.cycle_has d.0 d.1 in
        let s : label (left_of_dart g (dart_in v d.0)) ≡ label r.0 = ap (λ z. label (left_of_dart g z)) d.2 ∙ one_label g (left_of_dart g w.0) r.0 plane w.2 in
        (cycle_in f d.0, (has, by.differ _ a (full.face_has (cycle_in f d.0) has) h (by.darts d.0 d.1 ∙ s ∙ sym r.2), kind_from d.0 d.1 (ap (is_outer g) d.2 ∙ w.3)))

    outer_cycles : IsFaced v f cell
    outer_cycles = record {
      unbounded = λ a h none. (by.first a h none, λ c o. none_outside a c (by.first a h none) o);
      bounded = λ a b h k l. let w = has_outer a h (bounded a b h k l) in (w.0, w.1, λ e o. once_each a w.0 e w.1 o);
      darts = by.darts;
      bare = by.bare;
      differ = by.differ;
      all = by.all;
    }

  -- ---- faces by pairs: the least cell of a face is that of an item in it
  module _ (t : AreFacesTold v f) where
    cell_by : (a : FaceId) → HasFace f a ⊎ ¬ HasFace f a → SlabCell
    cell_by a (inl h) = label (cell_at v (t.all a h).0)
    cell_by a (inr h) = first_cell

    least : FaceId → SlabCell
    least a = cell_by a (has_or_not f.faces a.0)

    least_is : (i : Item) → HasItem v i → HasFace f (name_at f i) → least (name_at f i) ≡ label (cell_at v i)
    unfolding least cell_by
    least_is i h k = go (has_or_not f.faces (name_at f i).0)
      where
        go : (c : HasFace f (name_at f i) ⊎ ¬ HasFace f (name_at f i)) → cell_by (name_at f i) c ≡ label (cell_at v i)
        go (inl k') = let w = t.all (name_at f i) k' in one_label g (cell_at v w.0) (cell_at v i) plane ((t.same w.0 i w.1 h).0 w.2)
        go (inr n) = absurd (n k)

    -- of a name that is there
    least_of : (a : FaceId) → HasFace f a → (i : Item) × HasItem v i × (name_at f i ≡ a) × (least a ≡ label (cell_at v i))
    least_of a h = let w = t.all a h in (w.0, w.1, w.2, subst (λ b. least b ≡ label (cell_at v w.0)) w.2 (least_is w.0 w.1 (subst (HasFace f) (sym w.2) h)))

    first_by : (a : FaceId) → HasFace f a → ((b : FaceId) → HasFace f b → b.0 < a.0 → ⊥) → first_or f.faces ≡ a
    first_by a h none =
        let l = first_least f.faces a.0 full.faces_ascend h in
        by_number (first_or f.faces) a (elim (cases_lt (first_or f.faces).0 a.0) [ inl k ↦ absurd (none (first_or f.faces) t.there k) | inr k ↦ omega arith ])

    by_cells : AreFacesByCells v f least
    by_cells = record {
      first = λ a h none. subst (λ b. least b ≡ label first_cell) (first_by a h none) (least_is outside tt t.there);
      darts = λ d h. least_is (beside d) h (full.face_has (cycle_in f d) (full.cycle_has d h));
      bare = λ w h. let V = full.bare_vertex w h in least_is (round w) (V, (full.bare w V).0 h) (full.bare_has w h);
      differ = λ a b h k q.
          let w = least_of a h in
          let u = least_of b k in
          sym w.2 ∙ (t.same w.0 u.0 w.1 u.1).1 (in_face (cell_at v w.0) (cell_at v u.0) (sym w.3 ∙ q ∙ u.3)) ∙ u.2;
      all = λ c C. elim (outer_there g plane c C) [
        | inl s ↦ (first_or f.faces, t.there, least_is outside tt t.there ∙ one_label g first_cell c plane (face_sym g _ _ s))
        | inr w ↦
            let d = named w.0 w.1 in
            let s = subst (λ z. SameFace g (left_of_dart g z) c) (sym d.2) w.2 in
            let h = full.face_has (cycle_in f d.0) (full.cycle_has d.0 d.1) in
            (face_in f (cycle_in f d.0), h, least_is (beside d.0) d.1 h ∙ one_label g _ c plane s)
      ];
      real = λ a h. let w = least_of a h in (cell_at v w.0, listed w.0 w.1, w.3);
    }

pub outer_cycles_follow : OuterCyclesFollow
outer_cycles_follow v f cell sound full cycled by = outer_cycles v f sound full cycled cell by

-- each item's name has a record
pub has_name : (v : View) (f : Faces) → IsComplete v f → HasFace f (first_or f.faces) → (i : Item) → HasItem v i → HasFace f (name_at f i)
has_name v f full first outside h = first
has_name v f full first (beside d) h = full.face_has (cycle_in f d) (full.cycle_has d h)
has_name v f full first (round w) h = full.bare_has w ((full.bare w h.0).1 h.1)

-- ---- and back: what IsFaced says, by pairs
module _ (v : View) (f : Faces) (cell : FaceId → SlabCell) (sound : IsGraphSound v) (full : IsComplete v f) (cycled : IsCycled v f) (t : IsFaced v f cell) where
  abbrev s : Skeleton
  s = skeleton_of v

  has_first : HasFace f (first_or f.faces)
  has_first = let a = t.all first_cell (member_in (cells s) first_cell (first_listed s)) in first_in f.faces a.0.0 a.1

  none_before : (b : FaceId) → HasFace f b → b.0 < (first_or f.faces).0 → ⊥
  none_before b h l = let k = first_least f.faces b.0 full.faces_ascend h in absurd (omega arith)

  cell_is : (i : Item) → HasItem v i → cell (name_at f i) ≡ face_of (face_labels (skeleton_of v)) (cell_at v i)
  cell_is outside h = (t.unbounded (first_or f.faces) has_first none_before).0
  cell_is (beside d) h = t.darts d h
  cell_is (round w) h = t.bare w ((full.bare w h.0).1 h.1)

  faced_told : AreFacesTold v f
  faced_told = record {
    there = has_first;
    same = λ i j hi hj. (
      λ q. one_face s (cell_at v i) (cell_at v j) sound.plane (sym (cell_is i hi) ∙ ap cell q ∙ cell_is j hj),
      λ k. t.differ (name_at f i) (name_at f j) (has_name v f full has_first i hi) (has_name v f full has_first j hj) (cell_is i hi ∙ one_label s (cell_at v i) (cell_at v j) sound.plane k ∙ sym (cell_is j hj)),
    );
    all = λ a h. elim (cases_lt (first_or f.faces).0 a.0) [
      | inl l ↦
          let w = t.bounded a (first_or f.faces) h has_first l in
          let d = full.dart_has w.0 w.1.0 in
          (beside d.0, d.1, ap (face_in f) d.2 ∙ w.1.1)
      | inr l ↦
          let k = first_least f.faces a.0 full.faces_ascend h in
          (outside, tt, by_number (first_or f.faces) a (omega arith))
    ];
  }

pub faces_told_by_pairs : FacesToldByPairs
faces_told_by_pairs = record {
  cells = λ v f sound full cycled t. (least v f sound full cycled t, outer_cycles v f sound full cycled (least v f sound full cycled t) (by_cells v f sound full cycled t));
  pairs = λ v f cell sound full cycled t. faced_told v f cell sound full cycled t;
}

-- sound records of faces tell them by pairs
pub told_by_pairs : (v : View) (f : Faces) → IsSound v f → AreFacesTold v f
told_by_pairs v f s = faces_told_by_pairs.pairs v f s.faced.0 s.graph s.complete s.cycled s.faced.1
