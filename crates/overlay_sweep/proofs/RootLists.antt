-- The roots of cycles, one more of them.
use Rattle.std.proofs.Common.{◌≡◌, ℕ, ◌+◌, ◌<◌, arith, sym, ap, ◌∙◌, subst, inl, inr, List, [], ◌∷◌, ◌++◌, length}
use Rattle.std.proofs.lemmas.Bool.{cases_lt}
use Rattle.std.proofs.lemmas.List.{get_or_append_left, get_or_push, length-append, length-map}
use Rattle.slab_laws.specs.Rows.{dart_place, lead_list}
use Rattle.slab_laws.specs.Skeleton.{Skeleton, IsPlaneSkeleton}
use Rattle.face_roots.specs.declared.ranks.Root.{Root}
use Rattle.face_roots.specs.declared.ranks.Root.TheVariants.{Outer, Outside, Above}
use Rattle.face_roots.specs.CycleRanks.{root_at, IsAboveOf, IsRootOf, AreRootsOf, AreRankedBy}
use Rattle.face_roots.proofs.OuterRanks.{ranks_by_roots}
use Rattle.overlay_sweep.specs.CycleFaces.{AreCycleRanks}
use Rattle.dart_orbits.specs.declared.orbits.Orbits.{Orbits}
use Rattle.dart_orbits.specs.Orbits.{AreOrbits}

module _ (g : Skeleton) where
  -- the roots of the first n cycles
  pub record AreRootsUpto (n : ℕ) (roots : List Root) : Type 0 where
    pub counted : length roots ≡ n
    pub each : (c : ℕ) → c < n → IsRootOf g c (root_at roots c)

  pub none_yet : (roots : List Root) → roots ≡ [] → AreRootsUpto 0 roots
  none_yet roots e = record { counted = ap length e; each = λ c l. absurd (omega arith) }

  pub one_more : (n : ℕ) (old new : List Root) (r : Root) → IsRootOf g n r → new ≡ old ++ r ∷ [] → AreRootsUpto n old → AreRootsUpto (n + 1) new
  one_more n old new r h e u = record {
    counted = ap length e ∙ length-append old (r ∷ []) ∙ ap (λ k. k + 1) u.counted;
    each = λ c l. elim (cases_lt c n) [
      | inl a ↦
          let q : root_at new c ≡ root_at old c = ap (λ z. root_at z c) e ∙ get_or_append_left old (r ∷ []) Outside c (let k = u.counted in omega arith) in
          subst (IsRootOf g c) (sym q) (u.each c a)
      | inr a ↦
          let i : c ≡ n = omega arith in
          let q : root_at new c ≡ r = ap (λ z. root_at z c) e ∙ get_or_push old r Outside c (u.counted ∙ sym i) in
          subst (IsRootOf g c) (sym q) (subst (λ k. IsRootOf g k r) (sym i) h)
    ];
  }

  pub all_roots : (o : Orbits) (n : ℕ) (roots : List Root) → AreOrbits g o → n ≡ length o.cycles.items → AreRootsUpto n roots → AreRootsOf g roots
  all_roots o n roots h e u = record {
    counted = u.counted ∙ e ∙ ap length h.cycles ∙ length-map (lead_list g) (dart_place g);
    each = λ c l. u.each c (let k = u.counted in omega arith);
  }

  -- a root is an earlier cycle
  pub ordered : (roots : List Root) → AreRootsOf g roots → (c k : ℕ) → c < length roots → IsAboveOf (root_at roots c) k → k < c
  ordered roots h c k l a = go (root_at roots c) (h.each c l) a
    where
      go : (r : Root) → IsRootOf g c r → IsAboveOf r k → k < c
      go Outer w b = absurd b
      go Outside w b = absurd b
      go (Above j) w b = subst (λ i. i < c) b w.1

  pub all_ranks : IsPlaneSkeleton g → (roots : List Root) (ranks : List ℕ) → AreRootsOf g roots → AreRankedBy roots ranks → AreCycleRanks g ranks
  all_ranks plane roots ranks h r = record {
    counted = r.counted ∙ h.counted;
    each = λ c l. ranks_by_roots.ranks g roots ranks plane h r c (let e = h.counted in omega arith);
  }
