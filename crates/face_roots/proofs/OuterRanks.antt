-- The faces of a plane graph are the unbounded one and those of its outer cycles, in their order; so ranks by roots are the ranks.
use Rattle.std.proofs.Common.{◌≡◌, ◌⊎◌, ℕ, zero, suc, ◌+◌, ◌<◌, Bool, true, false, cond, arith, refl, sym, ap, ◌∙◌, subst, inl, inr, List, [], ◌∷◌, ◌++◌, length, take, drop, get_or, map, Less}
use Rattle.std.specs.Prelude.{not, filter, slice_index_or, Option, Some}
use Rattle.std.specs.Cmp.{tied_itself}
use Rattle.std.specs.List.{count_by, position_or_len, Contains}
use Rattle.std.specs.Ordering.{is_lt, ordering_then}
use Rattle.std.proofs.lemmas.Bool.{false≢true, cases_Bool, false_from_ne_true}
use Rattle.std.proofs.lemmas.List.{get_or-map, length-map}
use Rattle.std.proofs.lemmas.List.Sums.{sum_by-cons}
use Rattle.exact_plane.specs.PointOrder.{point_cmp}
use Rattle.plane_graphs.specs.Graph.{Edge}
use Rattle.plane_graphs.specs.Ascending.{IsAscending, Member as In}
use Rattle.plane_graphs.proofs.Ascending.{IsAscending-ascending, Member-ascending, All-member, from_member}
use Rattle.plane_graphs.proofs.Sorting.{rises, member_at}
use Rattle.slab_laws.specs.declared.slab_cell.SlabCell.{SlabCell}
use Rattle.slab_laws.specs.Skeleton.{Skeleton, IsPlaneSkeleton}
use Rattle.slab_laws.specs.Darts.{Dart, darts, source, target, ahead}
use Rattle.slab_laws.specs.Meets.{SameFace}
use Rattle.slab_laws.specs.Classes.{class_of}
use Rattle.slab_laws.specs.Cycles.{dart_labels, leads, odd, left_of_dart}
use Rattle.slab_laws.specs.Faces.{face_labels, face_of, same_cell}
use Rattle.slab_laws.specs.Listed.{distinct}
use Rattle.slab_laws.specs.Rotation.{same_dart, dart_cmp, dart_below}
use Rattle.slab_laws.specs.Rows.{least_dart_of, lead_list, no_dart}
use Rattle.slab_laws.specs.Subdivision.{cycle, cycles, subdivision, rank, first_cell}
use Rattle.slab_faces.proofs.Member.{in_member, member_in, filter_out}
use Rattle.slab_faces.proofs.FacesLemmas.{cells_exact, one_label, one_face}
pub use Rattle.slab_faces.proofs.FacesLemmas.{first_rank}
use Rattle.slab_faces.proofs.NextLemmas.{darts_exact}
use Rattle.slab_faces.proofs.DartOrder.{dart_cmp_total}
use Rattle.slab_faces.proofs.Turns.{face_trans, face_sym}
use Rattle.sound_views.proofs.OuterFaces.{faces_are_ranked}
use Rattle.sound_changes.specs.NextLaws.{IsDartOf}
use Rattle.face_changes.specs.Kinds.{is_outer}
use Rattle.face_changes.proofs.LinkedCycles.{there_dart}
use Rattle.face_changes.proofs.OneMoreEdge.{one_kind_each, one_outer_cycle}
use Rattle.face_roots.specs.declared.ranks.Root.{Root}
use Rattle.face_roots.specs.declared.ranks.Root.TheVariants.{Outer, Outside, Above}
use Rattle.edge_predicates.specs.FaceLaws.{cell_over}
use Rattle.edge_predicates.specs.Highest.{IsHighestBelow, highest}
use Rattle.face_roots.specs.CycleRanks.{root_at, is_outer_root, rank_of_root, faces_before, AreRankedBy, lead_at, IsRootOf, AreRootsOf, RanksByRoots}
use Rattle.face_roots.proofs.FaceLinks.{lead_before}
use Rattle.face_roots.proofs.InnerCycles.{lead_vertex, lead_forward, starts_there}
use Rattle.face_roots.proofs.PointOrder.{before}
use Rattle.face_roots.proofs.StartFaces.{start_face}

-- ---- lists
module _ {X : Type 0} (same : X → X → Bool) where
  AllUnlike : List X → Type 0
  AllUnlike [] = Unit {0}
  AllUnlike (x ∷ xs) = ((y : X) → In y xs → same x y ≡ false) × AllUnlike xs

  all_pass : (x : X) (ys : List X) → ((y : X) → In y ys → same x y ≡ false) → filter (λ y. not (same x y)) ys ≡ ys
  all_pass x [] h = refl
  all_pass x (y ∷ ys) h = let a = h y (inl refl) in let b = all_pass x ys (λ z m. h z (inr m)) in rw a (ap (λ zs. y ∷ zs) b)

  distinct_same : (xs : List X) → AllUnlike xs → distinct same xs ≡ xs
  unfolding distinct AllUnlike
  distinct_same [] h = refl
  distinct_same (x ∷ xs) h = ap (λ zs. x ∷ filter (λ y. not (same x y)) zs) (distinct_same xs h.1) ∙ ap (λ zs. x ∷ zs) (all_pass x xs h.0)

first_at : {X : Type 0} (t : X → Bool) (us vs : List X) (x : X) → ((u : X) → In u us → t u ≡ false) → t x ≡ true → position_or_len t (us ++ (x ∷ vs)) ≡ length us
first_at t [] vs x f h = grind (arith, h)
first_at t (u ∷ us) vs x f h = let a = f u (inl refl) in let b = first_at t us vs x (λ z m. f z (inr m)) h in grind (arith, a, b)

through : {X Y Z : Type 0} (c : X → Y) (p : Y → Bool) (f : Y → Z) (xs : List X) → map f (filter p (map c xs)) ≡ map (λ x. f (c x)) (filter (λ x. p (c x)) xs)
through c p f [] = refl
through c p f (x ∷ xs) = elim (cases_Bool (p (c x))) [
  | inl a ↦ rw a (ap (λ zs. f (c x) ∷ zs) (through c p f xs))
  | inr a ↦ rw a (through c p f xs)
]

filtered_at : {X Y : Type 0} (p : X → Bool) (f : X → Y) (us vs : List X) (x : X) → p x ≡ true → map f (filter p (us ++ (x ∷ vs))) ≡ map f (filter p us) ++ (f x ∷ map f (filter p vs))
filtered_at p f [] vs x h = rw h refl
filtered_at p f (u ∷ us) vs x h = elim (cases_Bool (p u)) [
  | inl a ↦ rw a (ap (λ zs. f u ∷ zs) (filtered_at p f us vs x h))
  | inr a ↦ rw a (filtered_at p f us vs x h)
]

of_filtered : {X Y : Type 0} (p : X → Bool) (f : X → Y) (xs : List X) (y : Y) → In y (map f (filter p xs)) → (x : X) × In x xs × (p x ≡ true) × (f x ≡ y)
of_filtered p f [] y m = elim m [ ]
of_filtered {X = X} p f (x ∷ xs) y m =
    let later : In y (map f (filter p xs)) → (z : X) × In z (x ∷ xs) × (p z ≡ true) × (f z ≡ y) = λ k. let r = of_filtered p f xs y k in (r.0, inr r.1, r.2, r.3) in
    elim (cases_Bool (p x)) [
      | inl a ↦ elim (subst (λ b. In y (map f (cond b (x ∷ filter p xs) (filter p xs)))) a m) [ inl e ↦ (x, inl refl, a, sym e) | inr k ↦ later k ]
      | inr a ↦ later (subst (λ b. In y (map f (cond b (x ∷ filter p xs) (filter p xs)))) a m)
    ]

filtered_count : {X Y : Type 0} (p : X → Bool) (f : X → Y) (xs : List X) → length (map f (filter p xs)) ≡ count_by p xs
filtered_count p f [] = refl
filtered_count p f (x ∷ xs) =
    let s = sum_by-cons (λ z. cond {A = ℕ} (p z) 1 0) x xs in
    let i = filtered_count p f xs in
    elim (cases_Bool (p x)) [
      | inl a ↦ (let k : cond {A = ℕ} (p x) 1 0 ≡ 1 = rw a refl in let l : length (map f (filter p (x ∷ xs))) ≡ suc (length (map f (filter p xs))) = rw a refl in omega arith)
      | inr a ↦ (let k : cond {A = ℕ} (p x) 1 0 ≡ 0 = rw a refl in let l : length (map f (filter p (x ∷ xs))) ≡ length (map f (filter p xs)) = rw a refl in omega arith)
    ]

cut_at : {X : Type 0} (xs : List X) (k : ℕ) (d : X) → k < length xs → xs ≡ take k xs ++ (get_or xs k d ∷ drop (suc k) xs)
cut_at [] k d h = absurd (omega arith)
cut_at (x ∷ xs) zero d h = refl
cut_at (x ∷ xs) (suc k) d h = ap (λ zs. x ∷ zs) (cut_at xs k d (omega arith))

-- a member of the first k stands at a place below k
taken_place : {X : Type 0} (xs : List X) (k : ℕ) (x d : X) → In x (take k xs) → (j : ℕ) × (j < k) × (j < length xs) × (get_or xs j d ≡ x)
taken_place [] zero x d m = elim m [ ]
taken_place [] (suc k) x d m = elim m [ ]
taken_place (y ∷ ys) zero x d m = elim m [ ]
taken_place (y ∷ ys) (suc k) x d (inl e) = (0, omega arith, omega arith, sym e)
taken_place (y ∷ ys) (suc k) x d (inr m) = let r = taken_place ys k x d m in (suc r.0, (let a = r.1 in omega arith), (let a = r.2 in omega arith), r.3)

take_all : {X : Type 0} (xs : List X) → take (length xs) xs ≡ xs
take_all [] = refl
take_all (x ∷ xs) = ap (λ zs. x ∷ zs) (take_all xs)

-- the place in the list of what stands at k among those that pass
filtered_place : {X : Type 0} (p : X → Bool) (xs : List X) (d : X) (k : ℕ) → k < length (filter p xs) → (c : ℕ) × (c < length xs) × (p (get_or xs c d) ≡ true) × (count_by p (take c xs) ≡ k) × (get_or (filter p xs) k d ≡ get_or xs c d)
filtered_place p [] d k h = absurd (omega arith)
filtered_place {X = X} p (x ∷ xs) d k h =
    let later : (j : ℕ) → j < length (filter p xs) → cond {A = ℕ} (p x) 1 0 + j ≡ k → get_or (filter p (x ∷ xs)) k d ≡ get_or (filter p xs) j d → (c : ℕ) × (c < length (x ∷ xs)) × (p (get_or (x ∷ xs) c d) ≡ true) × (count_by p (take c (x ∷ xs)) ≡ k) × (get_or (filter p (x ∷ xs)) k d ≡ get_or (x ∷ xs) c d) = λ j l n e.
    let r = filtered_place p xs d j l in
    let s = sum_by-cons (λ z. cond {A = ℕ} (p z) 1 0) x (take r.0 xs) in
    (suc r.0, (let a = r.1 in omega arith), r.2, (let a = r.3 in omega arith), e ∙ r.4)
    in
    elim (cases_Bool (p x)) [
      | inl a ↦ elim (cases_zero k) [
        | inl z ↦ (0, omega arith, a, sym z, subst (λ n. get_or (filter p (x ∷ xs)) n d ≡ x) (sym z) (ap (λ b. get_or (cond b (x ∷ filter p xs) (filter p xs)) 0 d) a))
        | inr j ↦
            let e : k ≡ suc j.0 = j.1 in
            later j.0 (let q : length (filter p (x ∷ xs)) ≡ suc (length (filter p xs)) = ap (λ b. length (cond b (x ∷ filter p xs) (filter p xs))) a in omega arith) (let o : cond {A = ℕ} (p x) 1 0 ≡ 1 = ap (λ b. cond {A = ℕ} b 1 0) a in omega arith) (ap (λ n. get_or (filter p (x ∷ xs)) n d) e ∙ ap (λ b. get_or (cond b (x ∷ filter p xs) (filter p xs)) (suc j.0) d) a)
      ]
      | inr a ↦ later k (let q : length (filter p (x ∷ xs)) ≡ length (filter p xs) = ap (λ b. length (cond b (x ∷ filter p xs) (filter p xs))) a in omega arith) (let o : cond {A = ℕ} (p x) 1 0 ≡ 0 = ap (λ b. cond {A = ℕ} b 1 0) a in omega arith) (ap (λ b. get_or (cond b (x ∷ filter p xs) (filter p xs)) k d) a)
    ]
  where
    cases_zero : (n : ℕ) → (n ≡ 0) ⊎ ((j : ℕ) × (n ≡ suc j))
    cases_zero zero = inl refl
    cases_zero (suc j) = inr (j, refl)

-- what stands at k among the faces: the unbounded one, or that of an outer cycle of this rank
pub data IsFaceAtRank (g : Skeleton) (roots : List Root) (ranks : List ℕ) (k : ℕ) : Type 0 where
  first : k ≡ 0 → get_or (subdivision g).faces k first_cell ≡ face_of (face_labels g) first_cell → IsFaceAtRank g roots ranks k
  outer : (c : ℕ) → c < length roots → slice_index_or ranks c 0 ≡ k → get_or (subdivision g).faces k first_cell ≡ face_of (face_labels g) (left_of_dart g (lead_at g c)) → IsFaceAtRank g roots ranks k

same_counts : {X Y : Type 0} (p : X → Bool) (q : Y → Bool) (xs : List X) (ys : List Y) (d : X) (e : Y) (k : ℕ) → length xs ≡ length ys → ((j : ℕ) → j < length xs → p (get_or xs j d) ≡ q (get_or ys j e)) → count_by p (take k xs) ≡ count_by q (take k ys)
same_counts p q [] [] d e zero l h = refl
same_counts p q [] [] d e (suc k) l h = refl
same_counts p q [] (y ∷ ys) d e k l h = absurd (omega arith)
same_counts p q (x ∷ xs) [] d e k l h = absurd (omega arith)
same_counts p q (x ∷ xs) (y ∷ ys) d e zero l h = refl
same_counts p q (x ∷ xs) (y ∷ ys) d e (suc k) l h =
    let a = sum_by-cons (λ z. cond {A = ℕ} (p z) 1 0) x (take k xs) in
    let b = sum_by-cons (λ z. cond {A = ℕ} (q z) 1 0) y (take k ys) in
    let i = same_counts p q xs ys d e k (omega arith) (λ j s. h (suc j) (omega arith)) in
    let f : cond {A = ℕ} (p x) 1 0 ≡ cond (q y) 1 0 = ap (λ z. cond {A = ℕ} z 1 0) (h 0 (omega arith)) in
    omega arith

module _ (g : Skeleton) (plane : IsPlaneSkeleton g) where
  face : Dart → SlabCell
  face l = face_of (face_labels g) (left_of_dart g l)

  out : Dart → Bool
  out l = odd g (dart_labels (darts g)) l (left_of_dart g l)

  of_lead : (d : Dart) → In d (lead_list g) → IsDartOf g d × (least_dart_of g d ≡ d)
  unfolding leads
  of_lead d m' =
      let m = Member-ascending dart_cmp dart_cmp_total d (filter (λ d. same_dart d (class_of same_dart (dart_labels (darts g)) d)) (darts g)) m' in
      let f = filter_out (λ d. same_dart d (class_of same_dart (dart_labels (darts g)) d)) (darts g) d (in_member (filter (λ d. same_dart d (class_of same_dart (dart_labels (darts g)) d)) (darts g)) d (from_member (filter (λ d. same_dart d (class_of same_dart (dart_labels (darts g)) d)) (darts g)) d m)) in
      (there_dart g d (member_in (darts g) d f.0), sym (darts_exact.path d (least_dart_of g d) f.1))

  leads_ascend : IsAscending dart_cmp (lead_list g)
  unfolding leads
  leads_ascend = IsAscending-ascending dart_cmp dart_cmp_total (filter (λ d. same_dart d (class_of same_dart (dart_labels (darts g)) d)) (darts g))

  out_is : (l : Dart) → In l (lead_list g) → out l ≡ is_outer g l
  unfolding out
  out_is l m = sym (ap (λ z. odd g (dart_labels (darts g)) z (left_of_dart g l)) (of_lead l m).1)

  faces_list : (subdivision g).faces ≡ distinct same_cell (face_of (face_labels g) first_cell ∷ map face (filter out (lead_list g)))
  unfolding face out subdivision cycles cycle
  faces_list =
      faces_are_ranked g plane
      ∙ ap (λ fs. distinct same_cell (face_of (face_labels g) first_cell ∷ fs)) (through (cycle g (face_labels g) (darts g) (dart_labels (darts g))) (λ c. c.outer) (λ c. c.face) (lead_list g))

  -- faces of outer cycles differ from each other, and from the unbounded one
  one_lead : (k l : Dart) → In k (lead_list g) → In l (lead_list g) → out k ≡ true → out l ≡ true → face k ≡ face l → k ≡ l
  unfolding face
  one_lead k l mk ml ok ol q =
      let a = of_lead k mk in
      let b = of_lead l ml in
      sym a.1 ∙ one_outer_cycle.once g k l plane a.0 b.0 (one_face g _ _ plane q) (sym (out_is k mk) ∙ ok) (sym (out_is l ml) ∙ ol) ∙ b.1

  not_first : (l : Dart) → In l (lead_list g) → out l ≡ true → same_cell (face_of (face_labels g) first_cell) (face l) ≡ false
  unfolding face
  not_first l m o = false_from_ne_true _ (λ h.
      let a = of_lead l m in
      let s = one_face g first_cell (left_of_dart g l) plane (cells_exact.path _ _ h) in
      false≢true (sym (one_outer_cycle.unbounded g l plane a.0 (face_sym g _ _ s)) ∙ sym (out_is l m) ∙ o))

  never_itself : (l : Dart) → dart_cmp l l ≡ Less → ⊥
  never_itself l h = let t = tied_itself dart_cmp_total l in cc

  unlike : (ls : List Dart) → IsAscending dart_cmp ls → ((l : Dart) → In l ls → In l (lead_list g)) → AllUnlike same_cell (map face (filter out ls))
  unfolding AllUnlike
  unlike [] a h = tt
  unlike (l ∷ ls) a h =
      let rest : AllUnlike same_cell (map face (filter out ls)) = unlike ls a.1 (λ k m. h k (inr m)) in
      elim (cases_Bool (out l)) [
        | inl o ↦ subst (λ b. AllUnlike same_cell (map face (cond b (l ∷ filter out ls) (filter out ls)))) (sym o) (
          λ y m. false_from_ne_true _ (λ s.
              let r = of_filtered out face ls y m in
              let q : l ≡ r.0 = one_lead l r.0 (h l (inl refl)) (h r.0 (inr r.1)) o r.2 (cells_exact.path _ _ s ∙ sym r.3) in
              never_itself l (subst (λ z. dart_cmp l z ≡ Less) (sym q) (All-member (λ z. dart_cmp l z ≡ Less) r.0 ls a.0 r.1))),
          rest,
        )
        | inr o ↦ subst (λ b. AllUnlike same_cell (map face (cond b (l ∷ filter out ls) (filter out ls)))) (sym o) rest
      ]

  plain_faces : (subdivision g).faces ≡ face_of (face_labels g) first_cell ∷ map face (filter out (lead_list g))
  unfolding AllUnlike
  plain_faces =
      faces_list ∙ distinct_same same_cell (face_of (face_labels g) first_cell ∷ map face (filter out (lead_list g)))
      (λ y m. let r = of_filtered out face (lead_list g) y m in subst (λ z. same_cell (face_of (face_labels g) first_cell) z ≡ false) r.3 (not_first r.0 r.1 r.2), unlike (lead_list g) leads_ascend (λ l m. m))

  same_turned : (c d : SlabCell) → same_cell c d ≡ false → same_cell d c ≡ false
  same_turned c d h = false_from_ne_true _ (λ k. false≢true (sym h ∙ subst (λ z. same_cell c z ≡ true) (sym (cells_exact.path d c k)) (cells_exact.itself c)))

  outer_rank : (c : ℕ) → c < length (lead_list g) → out (lead_at g c) ≡ true → rank (subdivision g) (face (lead_at g c)) ≡ suc (count_by out (take c (lead_list g)))
  unfolding rank
  outer_rank c h o =
      let ls = lead_list g in
      let l = lead_at g c in
      let us = take c ls in
      let m = member_at ls c no_dart h in
      let f0 = face_of (face_labels g) first_cell in
      let e : (subdivision g).faces ≡ (f0 ∷ map face (filter out us)) ++ (face l ∷ map face (filter out (drop (suc c) ls))) =
      plain_faces ∙ ap (λ zs. f0 ∷ map face (filter out zs)) (cut_at ls c no_dart h) ∙ ap (λ zs. f0 ∷ zs) (filtered_at out face us (drop (suc c) ls) l o) in
      let none : (u : SlabCell) → In u (f0 ∷ map face (filter out us)) → same_cell (face l) u ≡ false = λ u k. elim k [
        | inl q ↦ subst (λ z. same_cell (face l) z ≡ false) (sym q) (same_turned f0 (face l) (not_first l m o))
        | inr k' ↦
            let r = of_filtered out face us u k' in
            let j = taken_place ls c r.0 no_dart r.1 in
            let mj = subst (λ z. In z ls) j.3 (member_at ls j.0 no_dart j.2) in
            false_from_ne_true _ (λ s.
            let q : l ≡ r.0 = one_lead l r.0 m mj o r.2 (cells_exact.path _ _ s ∙ sym r.3) in
            never_itself l (subst (λ z. dart_cmp z l ≡ Less) (j.3 ∙ sym q) (rises dart_cmp ls leads_ascend j.0 c no_dart j.1 h)))
      ] in
      ap (position_or_len (same_cell (face l))) e ∙ first_at (same_cell (face l)) (f0 ∷ map face (filter out us)) (map face (filter out (drop (suc c) ls))) (face l) none (cells_exact.itself (face l)) ∙ ap suc (filtered_count out face us)

  -- ---- by roots
  module _ (roots : List Root) (ranks : List ℕ) (are : AreRootsOf g roots) (by : AreRankedBy roots ranks) where
    place_in : (c : ℕ) → c < length roots → c < length (lead_list g)
    place_in c h = let k = are.counted in omega arith

    one_test : (root : Root) (c : ℕ) → In (lead_at g c) (lead_list g) → IsRootOf g c root → is_outer_root root ≡ out (lead_at g c)
    one_test Outer c m h = sym (out_is (lead_at g c) m ∙ h)
    one_test Outside c m h = sym (out_is (lead_at g c) m ∙ h.0)
    one_test (Above k) c m h = sym (out_is (lead_at g c) m ∙ h.0)

    counts : (c : ℕ) → count_by is_outer_root (take c roots) ≡ count_by out (take c (lead_list g))
    counts c = same_counts is_outer_root out roots (lead_list g) Outside no_dart c are.counted (λ j h. one_test (root_at roots j) j (member_at (lead_list g) j no_dart (place_in j h)) (are.each j h))

    by_root : (c : ℕ) → c < length roots → (root : Root) → IsRootOf g c root → ((k : ℕ) → k < c → slice_index_or ranks k 0 ≡ rank (subdivision g) (face (lead_at g k))) → rank_of_root root ranks (faces_before roots c) ≡ rank (subdivision g) (face (lead_at g c))
    unfolding face
    by_root c h Outer i before = ap suc (counts c) ∙ sym (outer_rank c (place_in c h) (out_is (lead_at g c) (member_at (lead_list g) c no_dart (place_in c h)) ∙ i))
    by_root c h Outside i before = sym (ap (rank (subdivision g)) (one_label g (left_of_dart g (lead_at g c)) first_cell plane i.1) ∙ first_rank g)
    by_root c h (Above k) i before = before k i.1 ∙ ap (rank (subdivision g)) (sym (one_label g (left_of_dart g (lead_at g c)) (left_of_dart g (lead_at g k)) plane i.2))

    all_upto : (n c : ℕ) → c < n → c < length roots → slice_index_or ranks c 0 ≡ rank (subdivision g) (face (lead_at g c))
    all_upto zero c l h = absurd (omega arith)
    all_upto (suc n) c l h = by.each c h ∙ by_root c h (root_at roots c) (are.each c h) (λ k s. all_upto n k (omega arith) (omega arith))

    pub ranks_are : (c : ℕ) → c < length roots → slice_index_or ranks c 0 ≡ rank (subdivision g) (face_of (face_labels g) (left_of_dart g (lead_at g c)))
    unfolding face
    ranks_are c h = all_upto (suc c) c (omega arith) h

    -- ---- the faces in their order
    pub faces_counted : length (subdivision g).faces ≡ faces_before roots (length roots)
    faces_counted =
        ap length plain_faces
        ∙ ap suc (filtered_count out face (lead_list g) ∙ sym (ap (count_by out) (take_all (lead_list g))) ∙ ap (λ n. count_by out (take n (lead_list g))) (sym are.counted) ∙ sym (counts (length roots)))

    -- the face at k is the unbounded one, or that of an outer cycle of rank k
    pub face_at_rank : (k : ℕ) → k < length (subdivision g).faces → IsFaceAtRank g roots ranks k
    unfolding face
    face_at_rank zero h = first refl (ap (λ fs. get_or fs 0 first_cell) plain_faces)
    face_at_rank (suc k) h =
        let few : k < length (filter out (lead_list g)) = (let a = ap length plain_faces in let b = length-map (filter out (lead_list g)) face in omega arith) in
        let x = filtered_place out (lead_list g) no_dart k few in
        let c = x.0 in
        let inside : c < length roots = (let a = x.1 in let b = are.counted in omega arith) in
        outer c inside
        (ranks_are c inside ∙ outer_rank c x.1 x.2 ∙ ap suc x.3)
        (ap (λ fs. get_or fs (suc k) first_cell) plain_faces ∙ get_or-map face (filter out (lead_list g)) k no_dart first_cell few ∙ ap face x.4)

  -- ---- what is below an inner cycle
  inner_face : (d : Dart) (o : Option Edge) → IsDartOf g d → is_outer g d ≡ false → IsHighestBelow (Contains g.edges) (source (least_dart_of g d)) o → SameFace g (left_of_dart g d) (cell_over g o)
  inner_face d o D i b =
      let s = starts_there g plane d D i in
      face_trans g _ _ _ (one_kind_each.face g d s.dart plane (sym s.same)) (start_face g plane s.point s.dart o s.start s.first (subst (λ u. IsHighestBelow (Contains g.edges) u o) (sym s.least) b))

  lesser_cycle : (d : Dart) (e : Edge) → IsDartOf g d → IsHighestBelow (Contains g.edges) (source (least_dart_of g d)) (Some e) → dart_below (least_dart_of g (ahead e)) (least_dart_of g d) ≡ true
  lesser_cycle d e D (highest e' E s u most) =
      let v = source (least_dart_of g d) in
      let l = lead_before g (ahead e) v (before e.low v (plane.proper_edge e E).0 (plane.proper v (lead_vertex g plane d D)) s.from) in
      ap (λ o. is_lt (ordering_then o (point_cmp (target (least_dart_of g (ahead e))) (target (least_dart_of g d))))) l.is

pub ranks_by_roots : RanksByRoots
ranks_by_roots = record {
  forward = λ g d plane D. lead_forward g plane d D;
  face = λ g d o plane D i b. inner_face g plane d o D i b;
  lesser = λ g d e plane D b. lesser_cycle g plane d e D b;
  ranks = λ g roots ranks plane are by c h. ranks_are g plane roots ranks are by c h;
}
