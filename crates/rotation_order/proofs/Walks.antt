-- A walk round a vertex in search of a direction's place comes to an end, by how many darts are still to be met.
use Rattle.std.proofs.Common.{◌≡◌, ℕ, ◌+◌, ◌<◌, ◌≤◌, Bool, true, false, cond, arith, ap, ◌∙◌, List, [], ◌∷◌, is_some, inl, inr, eq-eqb}
use Rattle.std.specs.Prelude.{◌&&◌, ◌==◌}
use Rattle.std.proofs.lemmas.Bool.{cases_eq, cases_Bool, false≢true, and_parts, and_from, ne_eqb}
use Rattle.exact_plane.specs.Direction.{Direction}
use Rattle.slab_laws.specs.declared.names.DartId.{DartId}
use Rattle.slab_laws.specs.declared.names.VertexId.{VertexId}
use Rattle.slab_laws.specs.Sound.{IsGraphSound}
use Rattle.slab_laws.specs.Tables.{row_at}
use Rattle.slab_laws.specs.View.{View, HasVertex, IsOutOf, dart_id, source_in}
use Rattle.rotation_order.specs.Directions.{direction_before}
use Rattle.rotation_order.specs.Place.{direction_in, sooner_way}
use Rattle.arr_notes.specs.AfterAround.{after_in}
use Rattle.rotation_order.proofs.Turning.{through_by, further_by, same_by}
use Rattle.rotation_order.proofs.LineDirections.{on, asym, itself}
use Rattle.rotation_order.proofs.Around.{some_way, after_out}
use Rattle.slab_faces.proofs.PointLemmas.{and_none}

-- ---- how many names of a table pass a test
unfoldable pub count : {X : Type 0} → (ℕ → Bool) → List (ℕ × X) → ℕ
count p [] = 0
count p (r ∷ rs) = cond (p r.0) 1 0 + count p rs

at_most : {X : Type 0} (p q : ℕ → Bool) → ((n : ℕ) → p n ≡ true → q n ≡ true) → (rs : List (ℕ × X)) → count p rs ≤ count q rs
unfolding count
at_most p q f [] = omega arith
at_most p q f (r ∷ rs) =
    let k = at_most p q f rs in
    elim (cases_Bool (p r.0)) [ inl y ↦ rw (y, f r.0 y) (omega arith) | inr n ↦ rw n (omega arith) ]

-- one that has a row passes only the second
pub fewer : {X : Type 0} (p q : ℕ → Bool) → ((n : ℕ) → p n ≡ true → q n ≡ true) → (rs : List (ℕ × X)) (k : ℕ) → is_some (row_at rs k) ≡ true → p k ≡ false → q k ≡ true → count p rs < count q rs
unfolding count row_at
fewer p q f [] k h n y = absurd (false≢true h)
fewer p q f (r ∷ rs) k h n y =
    elim (cases_eq r.0 k) [
      | inl s ↦
          let m = at_most p q f rs in
          let a : p r.0 ≡ false = ap p s ∙ n in
          let b : q r.0 ≡ true = ap q s ∙ y in
          rw (a, b) (omega arith)
      | inr ne ↦
          let d : (r.0 == k) ≡ false = ne_eqb r.0 k ne in
          let h' = rw d at h in
          let m = fewer p q f rs k h' n y in
          elim (cases_Bool (p r.0)) [ inl z ↦ rw (z, f r.0 z) (omega arith) | inr z ↦ rw z (omega arith) ]
    ]

-- ---- the darts out of w that are met after y, clockwise from x
abbrev pub is_later : View → VertexId → Direction → Direction → ℕ → Bool
is_later v w x y n = is_some (row_at v.darts n) && (((source_in v (dart_id n)).0 == w.0) && sooner_way x y (direction_in v (dart_id n)))

-- how many darts are still to be met after d
abbrev pub to_meet : View → VertexId → Direction → DartId → ℕ
to_meet v w x d = count (is_later v w x (direction_in v d)) v.darts

module _ (v : View) (s : IsGraphSound v) (w : VertexId) (known : HasVertex v w) (x : Direction) (d : DartId) (o : IsOutOf v w d) where
  module _ (either : direction_before x (direction_in v d) ≡ false → direction_before (direction_in v d) x ≡ true) (miss : sooner_way (direction_in v d) x (direction_in v (after_in v d)) ≡ false) where
    after : IsOutOf v w (after_in v d)
    after = after_out v s w known d o

    next_later : sooner_way x (direction_in v d) (direction_in v (after_in v d)) ≡ true
    next_later =
        further_by (direction_before x (direction_in v d)) (direction_before (direction_in v d) x) (direction_before x (direction_in v (after_in v d))) (direction_before (direction_in v d) (direction_in v (after_in v d)))
        (asym x (direction_in v d)) either miss

    still : (n : ℕ) → is_later v w x (direction_in v (after_in v d)) n ≡ true → is_later v w x (direction_in v d) n ≡ true
    still n p =
        let a = and_parts (is_some (row_at v.darts n)) (((source_in v (dart_id n)).0 == w.0) && sooner_way x (direction_in v (after_in v d)) (direction_in v (dart_id n))) p in
        let b = and_parts ((source_in v (dart_id n)).0 == w.0) (sooner_way x (direction_in v (after_in v d)) (direction_in v (dart_id n))) a.1 in
        let N = some_way v s (dart_id n) a.0 in
        let A = some_way v s (after_in v d) after.0 in
        and_from _ _ a.0 (and_from _ _ b.0 (through_by (direction_before x (direction_in v d)) (direction_before x (direction_in v (after_in v d))) (direction_before x (direction_in v (dart_id n)))
        (direction_before (direction_in v d) (direction_in v (after_in v d))) (direction_before (direction_in v (after_in v d)) (direction_in v (dart_id n))) (direction_before (direction_in v d) (direction_in v (dart_id n)))
        (on (direction_in v d) (direction_in v (after_in v d)) (direction_in v (dart_id n)) A N) next_later b.1))

    -- where the direction is not met before the dart after d, fewer are to be met after that one
    pub nearer : to_meet v w x (after_in v d) < to_meet v w x d
    nearer =
        fewer (is_later v w x (direction_in v (after_in v d))) (is_later v w x (direction_in v d)) still v.darts (after_in v d).0 after.0
        (and_none _ _ (and_none _ _ (same_by (direction_before x (direction_in v (after_in v d))) (direction_before (direction_in v (after_in v d)) (direction_in v (after_in v d))) (itself (direction_in v (after_in v d))))))
        (and_from _ _ after.0 (and_from _ _ (eq-eqb (source_in v (after_in v d)).0 w.0 (ap (λ u. u.0) after.1)) next_later))
