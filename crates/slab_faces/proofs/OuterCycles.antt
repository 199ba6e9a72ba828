-- How many outer cycles a face has.
use Rattle.std.proofs.Common.{◌≡◌, ℕ, ◌+◌, Bool, true, false, cond, arith, refl, sym, ap, ap₂, ◌∙◌, subst, List}
use Rattle.std.specs.Prelude.{◌&&◌, ◌==◌, ◌%◌}
use Rattle.std.specs.List.{Contains, count_by, sum_by, filter}
use Rattle.std.proofs.lemmas.Bool.{eqb-true, eqb-false}
use lib.Dec.{leb}
use Rattle.plane_graphs.specs.Ascending.{IsAscending, Member as In}
use Rattle.plane_graphs.specs.Graph.{Edge}
use Rattle.plane_graphs.proofs.Ascending.{IsAscending-ascending, ascending-Member, to_member, from_member}
use Rattle.slab_laws.specs.declared.slab_cell.SlabCell.{SlabCell}
use Rattle.slab_laws.specs.Skeleton.{Skeleton, left_of, IsPlaneSkeleton}
use Rattle.slab_laws.specs.Slabs.{spans, place, top_cell, forward_cell, backward_cell}
use Rattle.slab_laws.specs.Weights.{Even, weight_above, IsEvenAtVertices}
use Rattle.slab_laws.specs.Meets.{SameFace}
use Rattle.slab_laws.specs.Changes.{IsFaceSet}
use Rattle.slab_laws.specs.Darts.{Dart, darts, cell_of, ahead, back}
use Rattle.slab_laws.specs.Rotation.{next, same_dart, dart_cmp}
use Rattle.slab_laws.specs.Classes.{class_of}
use Rattle.slab_laws.specs.Cycles.{dart_labels, darts_on, leads, odd, left_of_dart}
use Rattle.slab_laws.specs.Faces.{face_labels, face_of, same_cell}
use Rattle.slab_laws.specs.Subdivision.{cycle, cycles, subdivision}
use Rattle.slab_faces.specs.CycleLaws.{bounds, OuterCyclesOfFaces}
use Rattle.slab_faces.proofs.Sums.{each, even_sum, sum_by-same, sum_by-plus, sum_by-swap, cond-sum_by, sum_by-once}
use Rattle.slab_faces.proofs.Shift.{sum_by-map, handshake}
use Rattle.slab_faces.proofs.Member.{member_in, in_member, filter_in, filter_out, Member}
use Rattle.slab_faces.proofs.ClassesLemmas.{IsEquivalence}
use Rattle.slab_faces.proofs.FacesLemmas.{cells_exact, one_label, one_face}
use Rattle.slab_faces.proofs.NextLemmas.{darts_exact, dart_out, dart_in, next_keeps_face, next_from}
use Rattle.slab_faces.proofs.CyclesLemmas.{is_set, one_to_one, cycle_parity}
use Rattle.slab_faces.proofs.DartOrder.{dart_cmp_total, tied_edges, along, lead_lead}
use Rattle.slab_faces.proofs.Outside.{good_forward, good_backward}
use Rattle.slab_faces.proofs.PlaneGraphs.{once}

-- ---- sums
even_terms : {X : Type 0} (F G : X → ℕ) (xs : List X) → ((x : X) → Contains xs x → Even (F x + G x)) → Even (sum_by F xs + sum_by G xs)
even_terms F G xs h = subst Even (sum_by-plus F G xs) (even_sum (λ x. F x + G x) xs (each (λ x. Even (F x + G x)) xs h))

cond_turn : (a b : Bool) (n : ℕ) → cond a (cond b n 0) 0 ≡ cond b (cond a n 0) 0
cond_turn true true n = refl
cond_turn true false n = refl
cond_turn false true n = refl
cond_turn false false n = refl

pub cond_plus : (a : Bool) (m n : ℕ) → cond a (m + n) 0 ≡ cond a m 0 + cond a n 0
cond_plus true m n = refl
cond_plus false m n = refl

-- the weights above a cell add up
weights : {X : Type 0} (g : Skeleton) (a : X → Bool) (m : X → Edge → ℕ) (xs : List X) (i j : ℕ) → sum_by (λ x. cond (a x) (weight_above g (m x) i j) 0) xs ≡ weight_above g (λ e. sum_by (λ x. cond (a x) (m x e) 0) xs) i j
weights g a m xs i j =
    sum_by-same (λ x. cond (a x) (weight_above g (m x) i j) 0) (λ x. sum_by (λ e. cond (a x) (cond (spans g i e && leb j (place g i e)) (m x e) 0) 0) g.edges) xs
    (each (λ x. cond (a x) (weight_above g (m x) i j) 0 ≡ sum_by (λ e. cond (a x) (cond (spans g i e && leb j (place g i e)) (m x e) 0) 0) g.edges) xs (λ x _. cond-sum_by (a x) (λ e. cond (spans g i e && leb j (place g i e)) (m x e) 0) g.edges))
    ∙ sum_by-swap (λ x e. cond (a x) (cond (spans g i e && leb j (place g i e)) (m x e) 0) 0) xs g.edges
    ∙ sum_by-same (λ e. sum_by (λ x. cond (a x) (cond (spans g i e && leb j (place g i e)) (m x e) 0) 0) xs) (λ e. cond (spans g i e && leb j (place g i e)) (sum_by (λ x. cond (a x) (m x e) 0) xs) 0) g.edges
    (each (λ e. sum_by (λ x. cond (a x) (cond (spans g i e && leb j (place g i e)) (m x e) 0) 0) xs ≡ cond (spans g i e && leb j (place g i e)) (sum_by (λ x. cond (a x) (m x e) 0) xs) 0) g.edges
    (λ e _. sum_by-same (λ x. cond (a x) (cond (spans g i e && leb j (place g i e)) (m x e) 0) 0) (λ x. cond (spans g i e && leb j (place g i e)) (cond (a x) (m x e) 0) 0) xs
    (each (λ x. cond (a x) (cond (spans g i e && leb j (place g i e)) (m x e) 0) 0 ≡ cond (spans g i e && leb j (place g i e)) (cond (a x) (m x e) 0) 0) xs (λ x _. cond_turn (a x) (spans g i e && leb j (place g i e)) (m x e)))
    ∙ sym (cond-sum_by (spans g i e && leb j (place g i e)) (λ x. cond (a x) (m x e) 0) xs)))

-- ---- the cycles of a plane skeleton
module _ (g : Skeleton) (plane : IsPlaneSkeleton g) where
  label : Dart → Dart
  label d = class_of same_dart (dart_labels (darts g)) d

  -- the label of a dart has its own label
  label_label : (d : Dart) → label (label d) ≡ label d
  unfolding label
  label_label d = lead_lead g d

  -- it is a dart of the skeleton
  label_in : (d : Dart) → Member (darts g) d → Member (darts g) (label d)
  unfolding label
  label_in d h = (along g (λ x y. (Member (darts g) x → Member (darts g) y) × (Member (darts g) y → Member (darts g) x)) (record { itself = λ x. (λ k. k, λ k. k); back = λ x y k. (k.1, k.0); on = λ x y z k l. (λ m. l.0 (k.0 m), λ m. k.1 (l.1 m)) })
      (λ x k. (λ _. in_member (darts g) _ ((one_to_one g plane).inside x (member_in (darts g) x k)), λ _. k)) d).0 h

  -- and has the dart's face
  label_face : (d : Dart) → Member (darts g) d → face_of (face_labels g) (left_of_dart g (label d)) ≡ face_of (face_labels g) (left_of_dart g d)
  unfolding label
  label_face d h = sym ((along g (λ x y. (Member (darts g) x → Member (darts g) y) × (Member (darts g) y → Member (darts g) x) × (Member (darts g) x → face_of (face_labels g) (left_of_dart g x) ≡ face_of (face_labels g) (left_of_dart g y))) q step d).2 h)
    where
      q : IsEquivalence (λ x y. (Member (darts g) x → Member (darts g) y) × (Member (darts g) y → Member (darts g) x) × (Member (darts g) x → face_of (face_labels g) (left_of_dart g x) ≡ face_of (face_labels g) (left_of_dart g y)))
      q = record { itself = λ x. (λ k. k, λ k. k, λ k. refl); back = λ x y k. (k.1, k.0, λ m. sym (k.2 (k.1 m))); on = λ x y z k l. (λ m. l.0 (k.0 m), λ m. k.1 (l.1 m), λ m. k.2 m ∙ l.2 (k.0 m)) }

      step : (x : Dart) → Member (darts g) x → (Member (darts g) x → Member (darts g) (next (darts g) x)) × (Member (darts g) (next (darts g) x) → Member (darts g) x) × (Member (darts g) x → face_of (face_labels g) (left_of_dart g x) ≡ face_of (face_labels g) (left_of_dart g (next (darts g) x)))
      step x k = (λ _. in_member (darts g) _ ((one_to_one g plane).inside x (member_in (darts g) x k)), λ _. k, λ _. one_label g _ _ plane (next_keeps_face g x plane (dart_out g x k)))

  lead_list : List Dart
  lead_list = leads (darts g) (dart_labels (darts g))

  is_lead : Dart → Bool
  is_lead d = same_dart d (class_of same_dart (dart_labels (darts g)) d)

  of_leads : (x : Dart) → In x (filter is_lead (darts g)) → Member (darts g) x
  of_leads x h = (filter_out is_lead (darts g) x (in_member (filter is_lead (darts g)) x (from_member (filter is_lead (darts g)) x h))).0

  leads_ascend : IsAscending dart_cmp lead_list
  unfolding leads lead_list
  leads_ascend = IsAscending-ascending dart_cmp dart_cmp_total _

  lead_there : (d : Dart) → Member (darts g) d → In (label d) lead_list
  unfolding leads lead_list label is_lead
  lead_there d h =
      ascending-Member dart_cmp dart_cmp_total (label d) (filter is_lead (darts g)) (λ x y a b e. tied_edges g plane x y (dart_out g x (of_leads x a)) (dart_out g y (of_leads y b)) e)
      (to_member (filter is_lead (darts g)) (label d) (member_in (filter is_lead (darts g)) (label d) (filter_in is_lead (darts g) (label d) (label_in d h) (subst (λ z. same_dart (label d) z ≡ true) (sym (label_label d)) (darts_exact.itself (label d))))))

  lead_once : (d : Dart) → Member (darts g) d → count_by (same_dart (label d)) lead_list ≡ 1
  lead_once d h = once dart_cmp dart_cmp_total (same_dart (label d)) (label d) lead_list leads_ascend (lead_there d h) (darts_exact.itself (label d)) (λ z e. sym (darts_exact.path (label d) z e))

  -- ---- the darts in a face
  module _ (f : SlabCell) where
    inn : SlabCell → Bool
    inn c = same_cell (face_of (face_labels g) c) f

    dart_sum : (a : Dart) → Member (darts g) a → sum_by (λ l. cond (inn (left_of_dart g l)) (cond (same_dart (label a) l) 1 0) 0) lead_list ≡ cond (inn (left_of_dart g a)) 1 0
    unfolding inn
    dart_sum a h =
        sum_by-once (λ l. inn (left_of_dart g l)) (same_dart (label a)) (label a) 1 lead_list (λ x e. ap (λ z. inn (left_of_dart g z)) (sym (darts_exact.path (label a) x e))) (lead_once a h)
        ∙ ap (λ c. cond (same_cell c f) 1 0) (label_face a h)

    edge_sum : (e : Edge) → Contains g.edges e → sum_by (λ l. cond (inn (left_of_dart g l)) (darts_on (dart_labels (darts g)) l e) 0) lead_list ≡ cond (inn (cell_of g e true)) 1 0 + cond (inn (cell_of g e false)) 1 0
    unfolding darts_on label
    edge_sum e E =
        sum_by-same (λ l. cond (inn (left_of_dart g l)) (darts_on (dart_labels (darts g)) l e) 0) (λ l. cond (inn (left_of_dart g l)) (cond (same_dart (label (ahead e)) l) 1 0) 0 + cond (inn (left_of_dart g l)) (cond (same_dart (label (back e)) l) 1 0) 0) lead_list
        (each (λ l. cond (inn (left_of_dart g l)) (darts_on (dart_labels (darts g)) l e) 0 ≡ cond (inn (left_of_dart g l)) (cond (same_dart (label (ahead e)) l) 1 0) 0 + cond (inn (left_of_dart g l)) (cond (same_dart (label (back e)) l) 1 0) 0) lead_list
        (λ l _. cond_plus (inn (left_of_dart g l)) (cond (same_dart (label (ahead e)) l) 1 0) (cond (same_dart (label (back e)) l) 1 0)))
        ∙ sum_by-plus (λ l. cond (inn (left_of_dart g l)) (cond (same_dart (label (ahead e)) l) 1 0) 0) (λ l. cond (inn (left_of_dart g l)) (cond (same_dart (label (back e)) l) 1 0) 0) lead_list
        ∙ ap₂ ◌+◌ (dart_sum (ahead e) (dart_in g e true E)) (dart_sum (back e) (dart_in g e false E))

    -- how many darts of an edge are in the face
    sides : Edge → ℕ
    sides e = cond (inn (cell_of g e true)) 1 0 + cond (inn (cell_of g e false)) 1 0

    respects : (c d : SlabCell) → SameFace g c d → inn c ≡ inn d
    unfolding inn
    respects c d h = ap (λ x. same_cell x f) (one_label g c d plane h)

    by_sides : (e : Edge) → left_of e.low e.high ≡ true → sides e ≡ cond (inn (forward_cell g e)) 1 0 + cond (inn (backward_cell g e)) 1 0
    unfolding sides
    by_sides e h = rw h refl

    face_set : IsFaceSet g inn sides
    face_set = record { respects = respects; counts = λ e E h. by_sides e h }

    sides_even : IsEvenAtVertices g sides
    unfolding sides
    sides_even =
        handshake g same_dart (next (darts g)) (λ d. inn (left_of_dart g d)) (is_set g plane) (one_to_one g plane)
        (λ d h. ((next_from g d plane (dart_out g d (in_member (darts g) d h))).at, sym (respects _ _ (next_keeps_face g d plane (dart_out g d (in_member (darts g) d h))))))

    -- the weights of the face's cycles add up to those of its darts
    all_weights : (c : SlabCell) → sum_by (λ l. cond (inn (left_of_dart g l)) (weight_above g (darts_on (dart_labels (darts g)) l) c.slab c.place) 0) lead_list ≡ weight_above g sides c.slab c.place
    unfolding sides
    all_weights c =
        weights g (λ l. inn (left_of_dart g l)) (λ l. darts_on (dart_labels (darts g)) l) lead_list c.slab c.place
        ∙ sum_by-same (λ e. cond (spans g c.slab e && leb c.place (place g c.slab e)) (sum_by (λ l. cond (inn (left_of_dart g l)) (darts_on (dart_labels (darts g)) l e) 0) lead_list) 0) (λ e. cond (spans g c.slab e && leb c.place (place g c.slab e)) (sides e) 0) g.edges
        (each (λ e. cond (spans g c.slab e && leb c.place (place g c.slab e)) (sum_by (λ l. cond (inn (left_of_dart g l)) (darts_on (dart_labels (darts g)) l e) 0) lead_list) 0 ≡ cond (spans g c.slab e && leb c.place (place g c.slab e)) (sides e) 0) g.edges
        (λ e E. ap (λ n. cond (spans g c.slab e && leb c.place (place g c.slab e)) n 0) (edge_sum e E)))

    parity : (n m : ℕ) → Even (n + m) → Even (cond (n % 2 == 1) 1 0 + m)
    parity n m h = go (n % 2 == 1) refl
      where
        go : (b : Bool) → (n % 2 == 1) ≡ b → Even (cond b 1 0 + m)
        go true e = let k : n % 2 ≡ 1 = eqb-true (n % 2) 1 e in omega arith
        go false e = let k : n % 2 ≡ 1 → _ = eqb-false (n % 2) 1 e in omega arith

    -- a cycle of the face is outer where its weight is odd, at any cell of the face
    one_cycle_more : (c : SlabCell) → inn c ≡ true → (l : Dart) → Even (cond (odd g (dart_labels (darts g)) l (left_of_dart g l) && inn (left_of_dart g l)) 1 0 + cond (inn (left_of_dart g l)) (weight_above g (darts_on (dart_labels (darts g)) l) c.slab c.place) 0)
    unfolding odd inn
    one_cycle_more c here l = go (inn (left_of_dart g l)) refl
      where
        both_true : (b : Bool) → (b && true) ≡ b
        both_true true = refl
        both_true false = refl

        both_false : (b : Bool) → (b && false) ≡ false
        both_false true = refl
        both_false false = refl

        go : (b : Bool) → inn (left_of_dart g l) ≡ b → Even (cond (odd g (dart_labels (darts g)) l (left_of_dart g l) && b) 1 0 + cond b (weight_above g (darts_on (dart_labels (darts g)) l) c.slab c.place) 0)
        go true e =
            let same : face_of (face_labels g) (left_of_dart g l) ≡ face_of (face_labels g) c = cells_exact.path _ f e ∙ sym (cells_exact.path _ f here) in
            let p = parity _ _ (cycle_parity g l (left_of_dart g l) c plane (one_face g (left_of_dart g l) c plane same)) in
            subst (λ b. Even (cond b 1 0 + weight_above g (darts_on (dart_labels (darts g)) l) c.slab c.place)) (sym (both_true _)) p
        go false e = subst (λ b. Even (cond b 1 0 + 0)) (sym (both_false _)) refl

    counted : (c : SlabCell) → inn c ≡ true → Even (count_by (bounds f) (subdivision g).cycles + weight_above g sides c.slab c.place)
    unfolding subdivision cycles cycle inn lead_list
    counted c here =
        let sum = even_terms (λ l. cond (odd g (dart_labels (darts g)) l (left_of_dart g l) && inn (left_of_dart g l)) 1 0) (λ l. cond (inn (left_of_dart g l)) (weight_above g (darts_on (dart_labels (darts g)) l) c.slab c.place) 0) lead_list (λ l _. one_cycle_more c here l) in
        let count = sum_by-map (λ x. cond (bounds f x) 1 0) (cycle g (face_labels g) (darts g) (dart_labels (darts g))) lead_list in
        let weight = all_weights c in
        omega arith

  cell_there : (d : Dart) → (b : Bool) → left_of d.edge.low d.edge.high ≡ true → Contains g.edges d.edge → (f : SlabCell) → (fw : Bool) → Even (weight_above g (sides f) (cell_of g d.edge fw).slab (cell_of g d.edge fw).place + cond (inn f (cell_of g d.edge fw)) 1 0 + cond (inn f (top_cell g 0)) 1 0)
  cell_there d b h E f true = rw h (good_forward g (inn f) (sides f) d.edge plane (sides_even f) (face_set f) E h)
  cell_there d b h E f false = rw h (good_backward g (inn f) (sides f) d.edge plane (sides_even f) (face_set f) E h)

  outer : (d : Dart) → Contains g.edges d.edge → left_of d.edge.low d.edge.high ≡ true → Even (count_by (bounds (face_of (face_labels g) (left_of_dart g d))) (subdivision g).cycles + 1 + cond (same_cell (face_of (face_labels g) (top_cell g 0)) (face_of (face_labels g) (left_of_dart g d))) 1 0)
  unfolding inn
  outer d E h =
      let f = face_of (face_labels g) (left_of_dart g d) in
      let here : inn f (left_of_dart g d) ≡ true = cells_exact.itself f in
      let a = counted f (left_of_dart g d) here in
      let b = cell_there d true h E f d.forward in
      let one : cond {A = ℕ} (inn f (left_of_dart g d)) 1 0 ≡ 1 = rw here refl in
      omega arith

pub outer_cycles_of_faces : OuterCyclesOfFaces
outer_cycles_of_faces g d plane E h = outer g plane d E h
