-- How many darts a round of a vertex has left: the vertex's degree at first, one fewer after each dart, and one at the last dart.
use Rattle.std.proofs.Common.{◌≡◌, ◌≢◌, ℕ, ◌+◌, ◌≤◌, Bool, true, false, cond, arith, refl, sym, ap, ◌∙◌, List, [], ◌∷◌, is_some, map, eq-eqb, inl, inr}
use Rattle.std.specs.Prelude.{◌&&◌, ◌==◌, not}
use Rattle.std.specs.List.{count_by}
use Rattle.std.proofs.lemmas.Bool.{cases_Bool, cases_eq, and_parts, and_from, eqb-true, false≢true}
use Rattle.std.proofs.lemmas.List.Sums.{sum_by-cons}
use Rattle.plane_graphs.proofs.Lists.{not_in, not_out, clash}
use Rattle.slab_laws.specs.declared.names.DartId.{DartId}
use Rattle.slab_laws.specs.declared.names.VertexId.{VertexId}
use Rattle.slab_laws.specs.Rotation.{earlier}
use Rattle.slab_laws.specs.Sound.{IsGraphSound, dart_in}
use Rattle.slab_laws.specs.Tables.{row_at, names, NamesAscend}
use Rattle.slab_laws.specs.View.{View, HasDart, IsOutOf, dart_id, vertex_id, source_in}
use Rattle.arr_notes.specs.AfterAround.{after_in}
use Rattle.arr_notes.proofs.RowLaws.{absent}
use Rattle.rotation_order.specs.Place.{direction_in}
use Rattle.rotation_order.specs.RingOrder.{sooner_by}
use Rattle.rotation_order.proofs.Around.{same_order}
use Rattle.rotation_order.proofs.Circuits.{is_left, left, first_met, last_met, none_between, nearer}
use Rattle.rotation_order.proofs.LineDirections.{itself}
use Rattle.rotation_order.proofs.Turning.{same_by}
use Rattle.rotation_order.proofs.Walks.{count, fewer}
use Rattle.zone_walk.specs.Sights.{degree}

-- ---- counting the rows of a table
module _ {X : Type 0} where
  first_row : (r : ℕ × X) (rs : List (ℕ × X)) → is_some (row_at (r ∷ rs) r.0) ≡ true
  unfolding row_at
  first_row r rs = rw (eq-eqb r.0 r.0 refl) refl

  later_row : (r : ℕ × X) (rs : List (ℕ × X)) (n : ℕ) → is_some (row_at rs n) ≡ true → is_some (row_at (r ∷ rs) n) ≡ true
  unfolding row_at
  later_row r rs n h = elim (cases_Bool (r.0 == n)) [ inl y ↦ rw y refl | inr z ↦ rw z h ]

  -- where each name with a row that passes the first test passes the second, no more pass the first
  within : (p q : ℕ → Bool) (rs : List (ℕ × X)) → ((n : ℕ) → is_some (row_at rs n) ≡ true → p n ≡ true → q n ≡ true) → count p rs ≤ count q rs
  unfolding count
  within p q [] f = omega arith
  within p q (r ∷ rs) f =
      let k = within p q rs (λ n h. f n (later_row r rs n h)) in
      elim (cases_Bool (p r.0)) [ inl y ↦ rw (y, f r.0 (first_row r rs) y) (omega arith) | inr n ↦ rw n (omega arith) ]

  -- where only one name passes the first test and not the second, at most one more passes the first
  one_more : (p q : ℕ → Bool) (k : ℕ) (rs : List (ℕ × X)) → NamesAscend (names rs) → ((n : ℕ) → is_some (row_at rs n) ≡ true → n ≢ k → p n ≡ true → q n ≡ true) → count p rs ≤ count q rs + 1
  unfolding count
  one_more p q k [] a f = omega arith
  one_more p q k (r ∷ rs) a f =
      elim (cases_eq r.0 k) [
        | inl e ↦
            let m = within p q rs (λ n h. f n (later_row r rs n h) (λ i. false≢true (sym (ap is_some (absent r.0 n rs (e ∙ sym i) a.0)) ∙ h))) in
            elim (cases_Bool (p r.0)) [ inl y ↦ rw y (omega arith) | inr z ↦ rw z (omega arith) ]
        | inr ne ↦
            let m = one_more p q k rs a.1 (λ n h. f n (later_row r rs n h)) in
            elim (cases_Bool (p r.0)) [ inl y ↦ rw (y, f r.0 (first_row r rs) ne y) (omega arith) | inr z ↦ rw z (omega arith) ]
      ]

  count_none : (rs : List (ℕ × X)) → count (λ n. false) rs ≡ 0
  unfolding count
  count_none [] = refl
  count_none (r ∷ rs) = let k = count_none rs in omega arith

  by_names : (q : DartId → Bool) (rs : List (ℕ × X)) → count_by q (map dart_id (names rs)) ≡ count (λ n. q (dart_id n)) rs
  unfolding count
  by_names q [] = refl
  by_names q (r ∷ rs) = sum_by-cons (λ y. cond (q y) 1 0) (dart_id r.0) (map dart_id (names rs)) ∙ ap (λ k. cond (q (dart_id r.0)) 1 0 + k) (by_names q rs)

-- ---- the darts out of a vertex
abbrev leaves : View → VertexId → ℕ → Bool
leaves v w n = (source_in v (dart_id n)).0 == w.0

-- a vertex that no dart leaves has none
pub none_out : (v : View) (w : VertexId) → ((d : DartId) → ¬ IsOutOf v w d) → degree v w ≡ 0
none_out v w none =
    let a = by_names (λ d. (source_in v d).0 == w.0) v.darts in
    let b = within (leaves v w) (λ n. false) v.darts (λ n has h. absurd (none (dart_id n) (has, ap vertex_id (eqb-true (source_in v (dart_id n)).0 w.0 h)))) in
    let c = count_none v.darts in
    omega arith

module _ (v : View) (s : IsGraphSound v) (d : DartId) (has : HasDart v d) where
  abbrev w : VertexId
  w = source_in v d

  abbrev sooner : ℕ → DartId → Bool
  sooner n x = sooner_by earlier (dart_in v d) (dart_in v (dart_id n)) (dart_in v x)

  -- of a name that is left: it leaves the vertex, and wasn't met
  left_out : (x : DartId) (n : ℕ) → is_left v d x n ≡ true → leaves v w n ≡ true
  left_out x n h = (and_parts (leaves v w n) (not (sooner n x)) (and_parts (is_some (row_at v.darts n)) (leaves v w n && not (sooner n x)) h).1).0

  left_yet : (x : DartId) (n : ℕ) → is_left v d x n ≡ true → sooner n x ≡ true → ⊥
  left_yet x n h t = clash t (not_out (sooner n x) (and_parts (leaves v w n) (not (sooner n x)) (and_parts (is_some (row_at v.darts n)) (leaves v w n && not (sooner n x)) h).1).1)

  out_by : (n : ℕ) → is_some (row_at v.darts n) ≡ true → leaves v w n ≡ true → IsOutOf v w (dart_id n)
  out_by n there h = (there, ap vertex_id (eqb-true (source_in v (dart_id n)).0 w.0 h))

  left_by : (x : DartId) (n : ℕ) → is_some (row_at v.darts n) ≡ true → leaves v w n ≡ true → (sooner n x ≡ true → ⊥) → is_left v d x n ≡ true
  left_by x n there h f = and_from _ _ there (and_from _ _ h (not_in (sooner n x) f))

  -- at the first dart after d all are left
  pub all_left : left v d (after_in v d) ≡ degree v w
  all_left =
      let a = by_names (λ e. (source_in v e).0 == w.0) v.darts in
      let b = within (is_left v d (after_in v d)) (leaves v w) v.darts (λ n there h. left_out (after_in v d) n h) in
      let c = within (leaves v w) (is_left v d (after_in v d)) v.darts (λ n there h. left_by (after_in v d) n there h (first_met v s d has (dart_id n) (out_by n there h))) in
      omega arith

  -- then one fewer after each dart but d
  pub one_fewer : (x : DartId) → IsOutOf v w x → x ≢ d → left v d x ≡ left v d (after_in v x) + 1
  one_fewer x o other =
      let a = nearer v s d has x o other in
      let b = one_more (is_left v d x) (is_left v d (after_in v x)) x.0 v.darts s.named.darts
      (λ n there ne h. left_by (after_in v x) n there (left_out x n h) (λ t. left_yet x n h (none_between v s d has x o other (dart_id n) (out_by n there (left_out x n h)) (λ e. ne (ap (λ (z : DartId). z.0) e)) t))) in
      omega arith

  never : sooner_by earlier (dart_in v d) (dart_in v d) (dart_in v d) ≡ false
  never =
      let e : earlier (dart_in v d) (dart_in v d) ≡ false = same_order v s w (s.linked.source d has) d d (has, refl) (has, refl) ∙ itself (direction_in v d) in
      same_by (earlier (dart_in v d) (dart_in v d)) (earlier (dart_in v d) (dart_in v d)) e

  -- and d alone at d, where the round ends
  pub last_left : left v d d ≡ 1
  last_left =
      let a = fewer (λ n. false) (is_left v d d) (λ n h. absurd (clash h refl)) v.darts d.0 has refl (left_by d d.0 has (eq-eqb w.0 w.0 refl) (λ t. clash t never)) in
      let b = one_more (is_left v d d) (λ n. false) d.0 v.darts s.named.darts
      (λ n there ne h. absurd (left_yet d n h (last_met v s d has (dart_id n) (out_by n there (left_out d n h)) (λ e. ne (ap (λ (z : DartId). z.0) e))))) in
      let c = count_none v.darts in
      omega arith
