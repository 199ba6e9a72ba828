-- The parities of cycles with one more edge, by those without it: a dart of the edge counts where the edge is above a cell, and each other edge counts as it did.
-- g is without the edge e, h with it; L and M give the least dart of a dart's cycle in g and in h; x is a dart of e; l and k are cycles, by their least darts.
use Rattle.std.proofs.Common.{◌≡◌, ℕ, ◌+◌, Bool, true, false, cond, arith, refl, sym, ap, ◌∙◌, subst, ◌⊎◌, inl, inr, List}
use Rattle.std.specs.Prelude.{not, ◌&&◌}
use Rattle.std.specs.List.{Contains}
use Rattle.std.proofs.lemmas.Bool.{false≢true, cases_Bool}
use lib.Dec.{leb}
use Rattle.plane_graphs.specs.Graph.{Edge}
use Rattle.slab_laws.specs.declared.slab_cell.SlabCell.{SlabCell}
use Rattle.slab_laws.specs.Skeleton.{Skeleton, IsPlaneSkeleton, with_edge}
use Rattle.slab_laws.specs.Slabs.{spans, place}
use Rattle.slab_laws.specs.Weights.{Even, weight_above}
use Rattle.slab_laws.specs.Darts.{Dart, darts, ahead, back}
use Rattle.slab_laws.specs.Changes.{merged, IsCell}
use Rattle.slab_laws.specs.Rotation.{twin, same_dart}
use Rattle.slab_laws.specs.Cycles.{dart_labels, darts_on}
use Rattle.slab_laws.specs.Rows.{least_dart_of}
use Rattle.slab_faces.proofs.Sums.{each, even_sum, sum_by-same, sum_by-plus}
use Rattle.slab_faces.proofs.Parity.{even_if}
use Rattle.slab_faces.proofs.OuterCycles.{cond_plus}
use Rattle.slab_faces.proofs.NextLemmas.{darts_exact}
use Rattle.sound_changes.specs.NextLaws.{HasEdgeMore, IsDartOf}
use Rattle.face_changes.specs.Orbits.{IsOrbitSplit, AreOrbitsUnited}
use Rattle.face_changes.proofs.OneToOneMaps.{unlike, tally}
use Rattle.face_changes.proofs.EdgeOrder.{weight_apart}
use Rattle.face_changes.proofs.LinkedCycles.{dart_there}

-- how often the edges above a cell have a dart of the cycle
abbrev pub weight_of : Skeleton → Dart → SlabCell → ℕ
weight_of g l c = weight_above g (darts_on (dart_labels (darts g)) l) c.slab c.place

-- an edge's darts on a cycle, one after the other
pub on_edge : (g : Skeleton) (l : Dart) (z : Edge) → darts_on (dart_labels (darts g)) l z ≡ tally (same_dart (least_dart_of g (ahead z)) l) + tally (same_dart (least_dart_of g (back z)) l)
unfolding darts_on
on_edge g l z = refl

-- tests of darts
pub same_is : (d e : Dart) → d ≡ e → same_dart d e ≡ true
same_is d e q = subst (λ x. same_dart d x ≡ true) q (darts_exact.itself d)

pub same_not : (d e : Dart) → (d ≡ e → ⊥) → same_dart d e ≡ false
same_not d e h = unlike same_dart darts_exact.path d e h

pub choose : (d e : Dart) → (d ≡ e) ⊎ (d ≡ e → ⊥)
choose d e = elim (cases_Bool (same_dart d e)) [ inl t ↦ inl (darts_exact.path d e t) | inr t ↦ inr (λ q. false≢true (sym t ∙ same_is d e q)) ]

-- ---- sums of weights
pub weights_plus : (g : Skeleton) (m n : Edge → ℕ) (i j : ℕ) → weight_above g (λ z. m z + n z) i j ≡ weight_above g m i j + weight_above g n i j
weights_plus g m n i j =
    sum_by-same (λ z. cond (spans g i z && leb j (place g i z)) (m z + n z) 0) (λ z. cond (spans g i z && leb j (place g i z)) (m z) 0 + cond (spans g i z && leb j (place g i z)) (n z) 0) g.edges
    (each (λ z. cond (spans g i z && leb j (place g i z)) (m z + n z) 0 ≡ cond (spans g i z && leb j (place g i z)) (m z) 0 + cond (spans g i z && leb j (place g i z)) (n z) 0) g.edges (λ z _. cond_plus (spans g i z && leb j (place g i z)) (m z) (n z)))
    ∙ sum_by-plus (λ z. cond (spans g i z && leb j (place g i z)) (m z) 0) (λ z. cond (spans g i z && leb j (place g i z)) (n z) 0) g.edges

pub weights_even : (g : Skeleton) (m : Edge → ℕ) (i j : ℕ) → ((z : Edge) → Contains g.edges z → Even (m z)) → Even (weight_above g m i j)
weights_even g m i j h =
    even_sum (λ z. cond (spans g i z && leb j (place g i z)) (m z) 0) g.edges (each (λ z. Even (cond (spans g i z && leb j (place g i z)) (m z) 0)) g.edges (λ z Z. even_if (spans g i z && leb j (place g i z)) (m z) (h z Z)))

module _ (g : Skeleton) (hs : List Edge) (e : Edge) (plane : IsPlaneSkeleton (record { vertices = g.vertices; edges = hs })) (plane_g : IsPlaneSkeleton g) (more : HasEdgeMore g (record { vertices = g.vertices; edges = hs }) e) where
  abbrev h : Skeleton
  h = record { vertices = g.vertices; edges = hs }

  abbrev L : Dart → Dart
  L = least_dart_of g

  abbrev M : Dart → Dart
  M = least_dart_of (record { vertices = g.vertices; edges = hs })

  -- weights that differ by an even number on each old edge, and are even on e
  pub even_apart : (m n : Edge → ℕ) (c : SlabCell) → IsCell g e c → Even (m e) → ((z : Edge) → Contains g.edges z → Even (m z + n z)) → Even (weight_above h m c.slab c.place + weight_above g n (merged g e c).slab (merged g e c).place)
  even_apart m n c real own others =
      let a = weight_apart g hs e plane plane_g more m c real in
      let b = even_if (spans g c.slab e && leb c.place (place (with_edge g e) c.slab e)) (m e) own in
      let d = weights_even g (λ z. m z + n z) (merged g e c).slab (merged g e c).place others in
      let k = weights_plus g m n (merged g e c).slab (merged g e c).place in
      omega arith

  -- ---- a cycle whose old darts are those of one old cycle
  pub one_even : (l l' : Dart) (c : SlabCell) → IsCell g e c → Even (darts_on (dart_labels (darts h)) l e) → ((y : Dart) → IsDartOf g y → same_dart (M y) l ≡ same_dart (L y) l') → Even (weight_of h l c + weight_of g l' (merged g e c))
  one_even l l' c real own same =
      even_apart (darts_on (dart_labels (darts h)) l) (darts_on (dart_labels (darts g)) l') c real own (λ z Z.
      let a = on_edge h l z in
      let b = on_edge g l' z in
      let p : tally (same_dart (M (ahead z)) l) ≡ tally (same_dart (L (ahead z)) l') = ap tally (same (ahead z) Z) in
      let q : tally (same_dart (M (back z)) l) ≡ tally (same_dart (L (back z)) l') = ap tally (same (back z) Z) in
      omega arith)

  -- two cycles whose old darts are those of one old cycle
  pub two_even : (l k l' : Dart) (c : SlabCell) → IsCell g e c → Even (darts_on (dart_labels (darts h)) l e + darts_on (dart_labels (darts h)) k e) → ((y : Dart) → IsDartOf g y → tally (same_dart (M y) l) + tally (same_dart (M y) k) ≡ tally (same_dart (L y) l')) → Even (weight_of h l c + weight_of h k c + weight_of g l' (merged g e c))
  two_even l k l' c real own same =
      let s = even_apart (λ z. darts_on (dart_labels (darts h)) l z + darts_on (dart_labels (darts h)) k z) (darts_on (dart_labels (darts g)) l') c real own (λ z Z.
      let a = on_edge h l z in
      let a' = on_edge h k z in
      let b = on_edge g l' z in
      let p = same (ahead z) Z in
      let q = same (back z) Z in
      omega arith) in
      let t = weights_plus h (darts_on (dart_labels (darts h)) l) (darts_on (dart_labels (darts h)) k) c.slab c.place in
      omega arith

  -- a cycle whose old darts are those of two old cycles
  pub both_even : (l l' k' : Dart) (c : SlabCell) → IsCell g e c → Even (darts_on (dart_labels (darts h)) l e) → ((y : Dart) → IsDartOf g y → tally (same_dart (M y) l) ≡ tally (same_dart (L y) l') + tally (same_dart (L y) k')) → Even (weight_of h l c + weight_of g l' (merged g e c) + weight_of g k' (merged g e c))
  both_even l l' k' c real own same =
      let s = even_apart (darts_on (dart_labels (darts h)) l) (λ z. darts_on (dart_labels (darts g)) l' z + darts_on (dart_labels (darts g)) k' z) c real own (λ z Z.
      let a = on_edge h l z in
      let b = on_edge g l' z in
      let b' = on_edge g k' z in
      let p = same (ahead z) Z in
      let q = same (back z) Z in
      omega arith) in
      let t = weights_plus g (darts_on (dart_labels (darts g)) l') (darts_on (dart_labels (darts g)) k') (merged g e c).slab (merged g e c).place in
      omega arith

  -- ---- the darts of e itself
  module _ (x : Dart) (q : x.edge ≡ e) where
    on_new : (l : Dart) → darts_on (dart_labels (darts h)) l e ≡ tally (same_dart (M x) l) + tally (same_dart (M (twin x)) l)
    on_new l = go x.forward refl
      where
        path : (b : Bool) → x.forward ≡ b → ◌≡◌ {A = Dart} x (record { edge = e; forward = b })
        path b k = λ i. record { edge = q i; forward = k i }

        turned : (b : Bool) → x.forward ≡ b → ◌≡◌ {A = Dart} (twin x) (record { edge = e; forward = not b })
        turned b k = λ i. record { edge = q i; forward = not (k i) }

        go : (b : Bool) → x.forward ≡ b → darts_on (dart_labels (darts h)) l e ≡ tally (same_dart (M x) l) + tally (same_dart (M (twin x)) l)
        go true k =
            let a = on_edge h l e in
            let s : tally (same_dart (M x) l) ≡ tally (same_dart (M (ahead e)) l) = ap (λ z. tally (same_dart (M z) l)) (path true k) in
            let t : tally (same_dart (M (twin x)) l) ≡ tally (same_dart (M (back e)) l) = ap (λ z. tally (same_dart (M z) l)) (turned true k) in
            omega arith
        go false k =
            let a = on_edge h l e in
            let s : tally (same_dart (M x) l) ≡ tally (same_dart (M (back e)) l) = ap (λ z. tally (same_dart (M z) l)) (path false k) in
            let t : tally (same_dart (M (twin x)) l) ≡ tally (same_dart (M (ahead e)) l) = ap (λ z. tally (same_dart (M z) l)) (turned false k) in
            omega arith

    -- both on one cycle: it has an even number of them, as each other cycle has
    pub own_even : M x ≡ M (twin x) → (l : Dart) → Even (darts_on (dart_labels (darts h)) l e)
    own_even k l =
        let a = on_new l in
        let b : tally (same_dart (M x) l) ≡ tally (same_dart (M (twin x)) l) = ap (λ z. tally (same_dart z l)) k in
        omega arith

    -- on two cycles: each has one
    pub own_one : (M x ≡ M (twin x) → ⊥) → darts_on (dart_labels (darts h)) (M x) e ≡ 1
    own_one k =
        let a = on_new (M x) in
        let b : tally (same_dart (M x) (M x)) ≡ 1 = ap tally (same_is (M x) (M x) refl) in
        let c : tally (same_dart (M (twin x)) (M x)) ≡ 0 = ap tally (same_not (M (twin x)) (M x) (λ r. k (sym r))) in
        omega arith

    pub own_other : (M x ≡ M (twin x) → ⊥) → darts_on (dart_labels (darts h)) (M (twin x)) e ≡ 1
    own_other k =
        let a = on_new (M (twin x)) in
        let b : tally (same_dart (M (twin x)) (M (twin x))) ≡ 1 = ap tally (same_is (M (twin x)) (M (twin x)) refl) in
        let c : tally (same_dart (M x) (M (twin x))) ≡ 0 = ap tally (same_not (M x) (M (twin x)) k) in
        omega arith

    -- on neither: each other cycle has none
    pub own_none : (l : Dart) → (M x ≡ l → ⊥) → (M (twin x) ≡ l → ⊥) → Even (darts_on (dart_labels (darts h)) l e)
    own_none l u v =
        let a = on_new l in
        let b : tally (same_dart (M x) l) ≡ 0 = ap tally (same_not (M x) l u) in
        let c : tally (same_dart (M (twin x)) l) ≡ 0 = ap tally (same_not (M (twin x)) l v) in
        omega arith

    -- ---- the old cycle is parted
    module _ (a : Dart) (s : IsOrbitSplit L M (darts g) x (twin x) a) where
      split_terms : (y : Dart) → IsDartOf g y → tally (same_dart (M y) (M x)) + tally (same_dart (M y) (M (twin x))) ≡ tally (same_dart (L y) (L a))
      split_terms y Y =
          elim (choose (L y) (L a)) [
            | inl r ↦
                let one : tally (same_dart (L y) (L a)) ≡ 1 = ap tally (same_is (L y) (L a) r) in
                elim (s.within y (dart_there g y Y) r) [
                  | inl t ↦
                      let u : tally (same_dart (M y) (M x)) ≡ 1 = ap tally (same_is (M y) (M x) t) in
                      let v : tally (same_dart (M y) (M (twin x))) ≡ 0 = ap tally (same_not (M y) (M (twin x)) (λ w. s.two (sym t ∙ w))) in
                      omega arith
                  | inr t ↦
                      let u : tally (same_dart (M y) (M (twin x))) ≡ 1 = ap tally (same_is (M y) (M (twin x)) t) in
                      let v : tally (same_dart (M y) (M x)) ≡ 0 = ap tally (same_not (M y) (M x) (λ w. s.two (sym w ∙ t))) in
                      omega arith
                ]
            | inr r ↦
                let none : tally (same_dart (L y) (L a)) ≡ 0 = ap tally (same_not (L y) (L a) r) in
                let u : tally (same_dart (M y) (M x)) ≡ 0 = ap tally (same_not (M y) (M x) (λ w. r (s.from_d y (dart_there g y Y) w))) in
                let v : tally (same_dart (M y) (M (twin x))) ≡ 0 = ap tally (same_not (M y) (M (twin x)) (λ w. r (s.from_m y (dart_there g y Y) w))) in
                omega arith
          ]

      -- the parities of both halves add up to that of the whole
      pub halves_even : (c : SlabCell) → IsCell g e c → Even (weight_of h (M x) c + weight_of h (M (twin x)) c + weight_of g (L a) (merged g e c))
      halves_even c real =
          let p = own_one s.two in
          let q = own_other s.two in
          two_even (M x) (M (twin x)) (L a) c real (omega arith) split_terms

      -- any other cycle has the parity that it had
      pub others_even : (y : Dart) → IsDartOf g y → (L y ≡ L a → ⊥) → (c : SlabCell) → IsCell g e c → Even (weight_of h (M y) c + weight_of g (L y) (merged g e c))
      others_even y Y ne c real =
          one_even (M y) (L y) c real
          (own_none (M y) (λ k. ne (s.from_d y (dart_there g y Y) (sym k))) (λ k. ne (s.from_m y (dart_there g y Y) (sym k))))
          (λ z Z. elim (choose (L z) (L y)) [
            | inl r ↦ same_is (M z) (M y) (sym (s.still y z (dart_there g y Y) (dart_there g z Z) ne (sym r))) ∙ sym (same_is (L z) (L y) r)
            | inr r ↦ same_not (M z) (M y) (λ k. r (s.kept z y (dart_there g z Z) (dart_there g y Y) k)) ∙ sym (same_not (L z) (L y) r)
          ])

    -- ---- two old cycles have become one
    module _ (a b : Dart) (two : L a ≡ L b → ⊥) (s : AreOrbitsUnited L M (darts g) x (twin x) a b) where
      united_terms : (y : Dart) → IsDartOf g y → tally (same_dart (M y) (M x)) ≡ tally (same_dart (L y) (L a)) + tally (same_dart (L y) (L b))
      united_terms y Y =
          elim (choose (L y) (L a)) [
            | inl r ↦
                let u : tally (same_dart (L y) (L a)) ≡ 1 = ap tally (same_is (L y) (L a) r) in
                let v : tally (same_dart (L y) (L b)) ≡ 0 = ap tally (same_not (L y) (L b) (λ w. two (sym r ∙ w))) in
                let t : tally (same_dart (M y) (M x)) ≡ 1 = ap tally (same_is (M y) (M x) (s.within y (dart_there g y Y) (inl r))) in
                omega arith
            | inr r ↦
                let u : tally (same_dart (L y) (L a)) ≡ 0 = ap tally (same_not (L y) (L a) r) in
                elim (choose (L y) (L b)) [
                  | inl r' ↦
                      let v : tally (same_dart (L y) (L b)) ≡ 1 = ap tally (same_is (L y) (L b) r') in
                      let t : tally (same_dart (M y) (M x)) ≡ 1 = ap tally (same_is (M y) (M x) (s.within y (dart_there g y Y) (inr r'))) in
                      omega arith
                  | inr r' ↦
                      let v : tally (same_dart (L y) (L b)) ≡ 0 = ap tally (same_not (L y) (L b) r') in
                      let t : tally (same_dart (M y) (M x)) ≡ 0 = ap tally (same_not (M y) (M x) (λ k. elim (s.from y (dart_there g y Y) k) [ inl w ↦ r w | inr w ↦ r' w ])) in
                      omega arith
                ]
          ]

      -- the parity of the new cycle is the sum of both old ones
      pub whole_even : (c : SlabCell) → IsCell g e c → Even (weight_of h (M x) c + weight_of g (L a) (merged g e c) + weight_of g (L b) (merged g e c))
      whole_even c real = both_even (M x) (L a) (L b) c real (own_even s.one (M x)) united_terms

      -- any other cycle has the parity that it had
      pub rest_even : (y : Dart) → IsDartOf g y → (M y ≡ M x → ⊥) → (c : SlabCell) → IsCell g e c → Even (weight_of h (M y) c + weight_of g (L y) (merged g e c))
      rest_even y Y ne c real =
          one_even (M y) (L y) c real (own_even s.one (M y))
          (λ z Z. elim (choose (L z) (L y)) [
            | inl r ↦ same_is (M z) (M y) (s.still z y (dart_there g z Z) (dart_there g y Y) r) ∙ sym (same_is (L z) (L y) r)
            | inr r ↦ same_not (M z) (M y) (λ k. elim (s.kept z y (dart_there g z Z) (dart_there g y Y) k) [ inl w ↦ r w | inr w ↦ ne (sym k ∙ w) ]) ∙ sym (same_not (L z) (L y) r)
          ])
