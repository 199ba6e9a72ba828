-- The labels of faces by their ranks, one cycle more.
use Rattle.std.proofs.Common.{◌≡◌, ℕ, ◌+◌, ◌<◌, ◌≤◌, true, false, cond, arith, refl, sym, ap, ◌∙◌, subst, inl, inr, List, [], ◌∷◌, ◌++◌, length, get_or}
use Rattle.std.proofs.lemmas.Bool.{false≢true, cases_lt}
use Rattle.std.proofs.lemmas.List.{get_or_append_left, get_or_push, length-append}
use Rattle.slab_laws.specs.declared.slab_cell.SlabCell.{SlabCell}
use Rattle.slab_laws.specs.Cycles.{left_of_dart}
use Rattle.slab_laws.specs.Darts.{Dart}
use Rattle.slab_laws.specs.Skeleton.{Skeleton, IsPlaneSkeleton}
use Rattle.dart_orbits.proofs.Listed.{rows_length}
use Rattle.face_roots.specs.declared.ranks.Root.{Root}
use Rattle.face_roots.specs.declared.ranks.Root.TheVariants.{Outer, Outside, Above}
use Rattle.face_roots.specs.CycleRanks.{root_at, is_outer_root, rank_of_root, lead_at, faces_before, IsRootOf, AreRootsOf, AreRankedBy}
use Rattle.face_roots.proofs.RootRanks.{more_faces}
use Rattle.dart_orbits.specs.declared.orbits.Orbits.{Orbits}
use Rattle.dart_orbits.specs.Orbits.{AreOrbits}
use Rattle.overlay_sweep.specs.KnownLabels.{IsToldBy, AreFaceLabels}
use Rattle.overlay_sweep.proofs.CycleRoots.{lead_within, lead_dart, lead_forward}

-- of the first n cycles
pub record AreFacesUpto (g : Skeleton) (roots : List Root) (labels : List ℕ) (n : ℕ) (faces : List ℕ) : Type 0 where
  pub within : n ≤ length roots
  pub counted : length faces ≡ faces_before roots n
  pub first : get_or faces 0 0 ≡ 0
  pub each : (label : SlabCell → ℕ) (ranks : List ℕ) → IsToldBy g labels label → AreRankedBy roots ranks → (c : ℕ) → c < n → (get_or ranks c 0 < length faces) × (get_or faces (get_or ranks c 0) 0 ≡ label (left_of_dart g (lead_at g c)))

module _ (g : Skeleton) (roots : List Root) (labels : List ℕ) where
  pub first_face : (faces : List ℕ) → faces ≡ [] ++ 0 ∷ [] → AreFacesUpto g roots labels 0 faces
  first_face faces e = record {
    within = omega arith;
    counted = ap length e;
    first = ap (λ xs. get_or xs 0 0) e;
    each = λ label ranks w r c l. absurd (omega arith);
  }

  pub all_faces : (n : ℕ) (faces : List ℕ) → length roots ≤ n → AreFacesUpto g roots labels n faces → AreFaceLabels g roots labels faces
  all_faces n faces l t =
      let k = t.within in
      let e : n ≡ length roots = omega arith in
      record {
        counted = t.counted ∙ ap (faces_before roots) e;
        first = t.first;
        each = λ label ranks w r c m. (t.each label ranks w r c (omega arith)).1;
      }

  module _ (plane : IsPlaneSkeleton g) (o : Orbits) (h : AreOrbits g o) (are : AreRootsOf g roots) (n : ℕ) (old : List ℕ) (t : AreFacesUpto g roots labels n old) (inside : n < length roots) (listed : n < length o.cycles.items) where
    lead_told : (label : SlabCell → ℕ) → IsToldBy g labels label → get_or labels (get_or o.cycles.items n 0) 0 ≡ label (left_of_dart g (lead_at g n))
    lead_told label w =
        let d = lead_dart g plane o h n listed in
        w.told (get_or o.cycles.items n 0) (let a = lead_within g plane o h n listed in let b = rows_length g in let c = ap length h.darts in omega arith) (ap (λ (x : Dart). x.forward) d ∙ lead_forward g plane o h n listed) ∙ ap (λ x. label (left_of_dart g x)) d

    pub outer_face : (new : List ℕ) (l : ℕ) → is_outer_root (root_at roots n) ≡ true → l ≡ get_or labels (get_or o.cycles.items n 0) 0 → new ≡ old ++ l ∷ [] → AreFacesUpto g roots labels (n + 1) new
    outer_face new l q e grown =
        let longer : length new ≡ length old + 1 = ap length grown ∙ length-append old (l ∷ []) in
        let m = more_faces roots n inside in
        let one : cond {A = ℕ} (is_outer_root (root_at roots n)) 1 0 ≡ 1 = ap (λ b. cond {A = ℕ} b 1 0) q in
        let some = t.counted in
        record {
          within = omega arith;
          counted = omega arith;
          first = ap (λ xs. get_or xs 0 0) grown ∙ get_or_append_left old (l ∷ []) 0 0 (omega arith) ∙ t.first;
          each = λ label ranks w r c a. elim (cases_lt c n) [
            | inl b ↦ (let x = t.each label ranks w r c b in let i = x.0 in (omega arith, ap (λ xs. get_or xs (get_or ranks c 0) 0) grown ∙ get_or_append_left old (l ∷ []) 0 (get_or ranks c 0) x.0 ∙ x.1))
            | inr b ↦
                let i : n ≡ c = omega arith in
                let k : get_or ranks n 0 ≡ length old = r.each n inside ∙ next (root_at roots n) q ranks ∙ sym t.counted in
                subst (λ j. (get_or ranks j 0 < length new) × (get_or new (get_or ranks j 0) 0 ≡ label (left_of_dart g (lead_at g j)))) i
                (omega arith, ap (λ xs. get_or xs (get_or ranks n 0) 0) grown ∙ get_or_push old l 0 (get_or ranks n 0) (sym k) ∙ e ∙ lead_told label w)
          ];
        }
      where
        next : (root : Root) → is_outer_root root ≡ true → (ranks : List ℕ) → rank_of_root root ranks (faces_before roots n) ≡ faces_before roots n
        next Outer q' ranks = refl
        next Outside q' ranks = absurd (false≢true q')
        next (Above k) q' ranks = absurd (false≢true q')

    pub inner_face : (new : List ℕ) → is_outer_root (root_at roots n) ≡ false → new ≡ old → AreFacesUpto g roots labels (n + 1) new
    inner_face new q same =
        let m = more_faces roots n inside in
        let none : cond {A = ℕ} (is_outer_root (root_at roots n)) 1 0 ≡ 0 = ap (λ b. cond {A = ℕ} b 1 0) q in
        let some = t.counted in
        let longer : length new ≡ length old = ap length same in
        record {
          within = omega arith;
          counted = omega arith;
          first = ap (λ xs. get_or xs 0 0) same ∙ t.first;
          each = λ label ranks w r c a. subst (λ xs. (get_or ranks c 0 < length xs) × (get_or xs (get_or ranks c 0) 0 ≡ label (left_of_dart g (lead_at g c)))) (sym same) (elim (cases_lt c n) [
            | inl b ↦ t.each label ranks w r c b
            | inr b ↦
                let i : n ≡ c = omega arith in
                subst (λ j. (get_or ranks j 0 < length old) × (get_or old (get_or ranks j 0) 0 ≡ label (left_of_dart g (lead_at g j)))) i
                (go (root_at roots n) q (are.each n inside) label ranks w r (r.each n inside))
          ]);
        }
      where
        go : (root : Root) → is_outer_root root ≡ false → IsRootOf g n root → (label : SlabCell → ℕ) (ranks : List ℕ) → IsToldBy g labels label → AreRankedBy roots ranks → get_or ranks n 0 ≡ rank_of_root root ranks (faces_before roots n) → (get_or ranks n 0 < length old) × (get_or old (get_or ranks n 0) 0 ≡ label (left_of_dart g (lead_at g n)))
        go Outer q' x label ranks w r e = absurd (false≢true (sym q'))
        go Outside q' x label ranks w r e = (let k = t.counted in omega arith, ap (λ j. get_or old j 0) e ∙ t.first ∙ sym (w.constant _ _ x.1 ∙ w.first))
        go (Above k) q' x label ranks w r e =
            let y = t.each label ranks w r k x.1 in
            let z = y.0 in
            (omega arith, ap (λ j. get_or old j 0) e ∙ y.1 ∙ sym (w.constant _ _ x.2))
