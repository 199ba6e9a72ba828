-- The sides of the rings are the darts.
use Rattle.std.proofs.Common.{◌≡◌, ℕ, zero, suc, ◌+◌, ◌-◌, ◌<◌, ◌≤◌, inl, inr, Bool, arith, refl, sym, ap, ◌∙◌, subst, List, [], ◌∷◌, ◌++◌, map, length, get_or, drop}
use Rattle.std.specs.Prelude.{Option}
use Rattle.std.proofs.lemmas.Bool.{cases_lt}
use Rattle.std.proofs.lemmas.List.{get_or-map, length-map, length-drop, length-take-le, get_or_append_left, get_or_push}
use Rattle.exact_plane.specs.Point.{Point}
use Rattle.polygon_sets.specs.ClosedBorders.{IsNextSide, no_point, dart_at}
use Rattle.region_rings.specs.Cycles.{ring_start, ring_end, AreCut, IsAfter, along, back, AreCycles}
use Rattle.region_rings.specs.Holes.{corner_in, ring_of, AreHoles}
use Rattle.region_rings.specs.Nesting.{AreLeasts, AreOuters}
use Rattle.region_rings.specs.Nexts.{AreNexts}
use Rattle.region_rings.specs.Rings.{RingTable, side, source_at, AreRingsOf}
use Rattle.region_rings.proofs.RingsCut.{ends_within, inside_ring}

-- ---- each place is of a ring
pub ring_through : (n : ℕ) (ends : List ℕ) → AreCut n ends → (i m : ℕ) → m ≤ length ends → i < ring_start ends m → (r : ℕ) × (j : ℕ) × IsAfter ends r i j
ring_through n ends c i zero l h = absurd (omega arith)
ring_through n ends c i (suc m) l h = elim (cases_lt i (ring_start ends m)) [
  | inl a ↦ ring_through n ends c i m (omega arith) a
  | inr a ↦ elim (cases_lt (i + 1) (ring_end ends m)) [
    | inl b ↦ (m, i + 1, along (omega arith) a b refl)
    | inr b ↦ (m, ring_start ends m, back (omega arith) a (omega arith) refl)
  ]
]

module _ (points : List Point) (ends : List ℕ) (c : AreCut (length points) ends) where
  pub upto : (r : ℕ) → r < length ends → ring_start ends r ≤ ring_end ends r
  upto r l = let s = c.some r l in omega arith

  pub ring_some : (r : ℕ) → r < length ends → 0 < length (ring_of points ends r)
  ring_some r l =
      let s = c.some r l in
      let w = ends_within (length points) ends c r l in
      let d = length-drop (ring_start ends r) points in
      let t = length-take-le (ring_end ends r - ring_start ends r) (drop (ring_start ends r) points) (omega arith) in
      omega arith

-- ---- one ring more is told
pub told_more : {X : Type 0} (P : ℕ → X → Type 0) (d : X) (n : ℕ) (old new : List X) (x : X) → length old ≡ n → ((r : ℕ) → r < n → P r (get_or old r d)) → P n x → new ≡ old ++ (x ∷ []) → (r : ℕ) → r < n + 1 → P r (get_or new r d)
told_more P d n old new x c h k e r l = elim (cases_lt r n) [
  | inl a ↦ subst (P r) (sym (ap (λ xs. get_or xs r d) e ∙ get_or_append_left old (x ∷ []) d r (omega arith))) (h r a)
  | inr a ↦ (let q : n ≡ r = omega arith in subst (λ s. P s (get_or new s d)) q (subst (P n) (sym (ap (λ xs. get_or xs n d) e ∙ get_or_push old x d n c)) k))
]

-- ---- all
module _ (ds : List (Point × Point)) (nexts : List ℕ) (h : AreNexts ds nexts) (order ends : List ℕ) (c : AreCycles nexts order ends) (points : List Point) (e : points ≡ map (source_at ds) order) (holes : List Bool) (told : AreHoles points ends holes) (leasts : List Point) (least : AreLeasts points ends leasts) (outers : List (Option ℕ)) (nested : AreOuters points ends holes leasts outers) where
  abbrev table : RingTable
  table = record { points = points; ends = ends; holes = holes; leasts = leasts; outers = outers }

  dart : ℕ → Point × Point
  dart i = dart_at ds (get_or order i 0)

  below : (i : ℕ) → i < length order → get_or order i 0 < length ds
  below i l = let w = c.within i l in let n = h.counted in omega arith

  corner_is : (i : ℕ) → i < length order → corner_in points i ≡ (dart_at ds (get_or order i 0)).0
  corner_is i l = ap (λ ps. get_or ps i no_point) e ∙ get_or-map (source_at ds) order i 0 no_point l

  goes_on : (r i j : ℕ) → IsAfter ends r i j → IsNextSide ds (dart_at ds (get_or order i 0)) (dart_at ds (get_or order j 0))
  goes_on r i j a = let b = inside_ring (length order) ends c.cut r i j a in subst (λ k. IsNextSide ds (dart_at ds (get_or order i 0)) (dart_at ds k)) (c.follows r i j a) (h.rule (get_or order i 0) (below i b.0))

  side_is : (r i j : ℕ) → IsAfter ends r i j → side table i j ≡ dart_at ds (get_or order i 0)
  side_is r i j a =
      let b = inside_ring (length order) ends c.cut r i j a in
      let s = corner_is j b.1 ∙ sym (goes_on r i j a).joined in
      λ t. (corner_is i b.0 t, s t)

  same_length : length points ≡ length order
  same_length = ap length e ∙ length-map order (source_at ds)

  pub are_rings : AreRingsOf ds (record { points = points; ends = ends; holes = holes; leasts = leasts; outers = outers })
  are_rings = record {
    counted = same_length ∙ c.counted ∙ h.counted;
    cut = subst (λ n. AreCut n ends) (sym same_length) c.cut;
    sides = λ r i j a. (let b = inside_ring (length order) ends c.cut r i j a in (get_or order i 0, below i b.0, sym (side_is r i j a)));
    all = λ k l. (
        let n = h.counted in
        let K : k < length nexts = omega arith in
        let p = c.all k K in
        let w = ring_through (length order) ends c.cut p.0 (length ends) (omega arith) (let q = c.cut.whole in let P : p.0 < length order = p.1 in omega arith) in
        (w.0, p.0, w.1, w.2, side_is w.0 p.0 w.1 w.2 ∙ ap (dart_at ds) p.2));
    once = λ q r i j k l a b f. (
        let I = inside_ring (length order) ends c.cut q i j a in
        let K = inside_ring (length order) ends c.cut r k l b in
        c.once i k I.0 K.0 (h.apart (get_or order i 0) (get_or order k 0) (below i I.0) (below k K.0) (sym (side_is q i j a) ∙ f ∙ side_is r k l b)));
    rule = λ r i j k a b. subst (λ (x : Point × Point). IsNextSide ds x (side table j k)) (sym (side_is r i j a)) (subst (λ (x : Point × Point). IsNextSide ds (dart_at ds (get_or order i 0)) x) (sym (side_is r j k b)) (goes_on r i j a));
    holes = told;
    leasts = least;
    outers = nested;
  }
