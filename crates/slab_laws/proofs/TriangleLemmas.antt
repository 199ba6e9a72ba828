-- The names of a triangle's records, and what each record has.
use Rattle.std.proofs.Common.{◌≡◌, ◌≢◌, ℕ, zero, suc, ◌+◌, ◌<◌, ◌≤◌, true, false, List, [], ◌∷◌, Option, Some, None, refl, sym, ap, subst, ◌∙◌, arith, IsSome, slice_index_or, nat_lt, ◌==◌}
use Rattle.std.specs.Option.{is_some, option_map}
use Rattle.std.proofs.lemmas.Bool.Decides.{nat_tests}
use Rattle.slab_laws.specs.declared.names.DartId.{DartId}
use Rattle.slab_laws.specs.declared.names.VertexId.{VertexId}
use Rattle.slab_laws.specs.declared.names.CycleId.{CycleId}
use Rattle.slab_laws.specs.declared.names.CycleKind.TheVariants.{Outer, Inner}
use Rattle.slab_laws.specs.declared.names.FaceId.{FaceId}
use Rattle.slab_laws.specs.declared.triangle.DartRecord.{DartRecord}
use Rattle.slab_laws.specs.Tables.{row_at, name_after}
use Rattle.slab_laws.specs.View.{HasDart, HasVertex, HasCycle, HasBareFace, IsOutOf, dart_id, vertex_id, cycle_id, face_id, source_in, twin_in, next_in, cycle_in, face_in, kind_in, point_in, line_in, pinned_in, vertex_after_in, dart_after_in, cycle_after_in, face_after_in}
use Rattle.slab_laws.specs.Triangle.{Shape, triangle_view, triangle_faces}
use Rattle.slab_laws.specs.TriangleRows.{row, triangle_rows}

-- no row has a name past the last
past : {X : Type 0} (n : ℕ) (rs : List (ℕ × X)) → row_at rs n ≡ None → IsSome (row_at rs n) → ⊥
past n rs e h = let g : is_some (row_at rs n) ≡ true = h in let f = sym (ap is_some e) ∙ g in cc

six : {X : Type 0} (n : ℕ) (a b c d e f : X) → row_at ((0, a) ∷ (1, b) ∷ (2, c) ∷ (3, d) ∷ (4, e) ∷ (5, f) ∷ []) (suc (suc (suc (suc (suc (suc n)))))) ≡ None
unfolding row_at
six n a b c d e f =
    let m : ℕ = suc (suc (suc (suc (suc (suc n))))) in
    let e0 : (0 == m) ≡ false = grind (arith, nat_tests) in
    let e1 : (1 == m) ≡ false = grind (arith, nat_tests) in
    let e2 : (2 == m) ≡ false = grind (arith, nat_tests) in
    let e3 : (3 == m) ≡ false = grind (arith, nat_tests) in
    let e4 : (4 == m) ≡ false = grind (arith, nat_tests) in
    let e5 : (5 == m) ≡ false = grind (arith, nat_tests) in
    rw (e0, e1, e2, e3, e4, e5) refl

three : {X : Type 0} (n : ℕ) (a b c : X) → row_at ((0, a) ∷ (1, b) ∷ (2, c) ∷ []) (suc (suc (suc n))) ≡ None
unfolding row_at
three n a b c =
    let m : ℕ = suc (suc (suc n)) in
    let e0 : (0 == m) ≡ false = grind (arith, nat_tests) in
    let e1 : (1 == m) ≡ false = grind (arith, nat_tests) in
    let e2 : (2 == m) ≡ false = grind (arith, nat_tests) in
    rw (e0, e1, e2) refl

two : {X : Type 0} (n : ℕ) (a b : X) → row_at ((0, a) ∷ (1, b) ∷ []) (suc (suc n)) ≡ None
unfolding row_at
two n a b =
    let m : ℕ = suc (suc n) in
    let e0 : (0 == m) ≡ false = grind (arith, nat_tests) in
    let e1 : (1 == m) ≡ false = grind (arith, nat_tests) in
    rw (e0, e1) refl

-- what holds of six names holds of every row that has one of them
pub six_cases : {X : Type 0} (a b c d e f : X) (P : ℕ → Type 0) → P 0 → P 1 → P 2 → P 3 → P 4 → P 5 → (n : ℕ) → IsSome (row_at ((0, a) ∷ (1, b) ∷ (2, c) ∷ (3, d) ∷ (4, e) ∷ (5, f) ∷ []) n) → P n
six_cases a b c d e f P p0 p1 p2 p3 p4 p5 zero h = p0
six_cases a b c d e f P p0 p1 p2 p3 p4 p5 (suc zero) h = p1
six_cases a b c d e f P p0 p1 p2 p3 p4 p5 (suc (suc zero)) h = p2
six_cases a b c d e f P p0 p1 p2 p3 p4 p5 (suc (suc (suc zero))) h = p3
six_cases a b c d e f P p0 p1 p2 p3 p4 p5 (suc (suc (suc (suc zero)))) h = p4
six_cases a b c d e f P p0 p1 p2 p3 p4 p5 (suc (suc (suc (suc (suc zero))))) h = p5
six_cases a b c d e f P p0 p1 p2 p3 p4 p5 (suc (suc (suc (suc (suc (suc n)))))) h = absurd (past _ _ (six n a b c d e f) h)

-- so of every dart
pub dart_cases : (t : Shape) (P : ℕ → Type 0) → P 0 → P 1 → P 2 → P 3 → P 4 → P 5 → (n : ℕ) → HasDart (triangle_view t) (dart_id n) → P n
dart_cases t P p0 p1 p2 p3 p4 p5 n h = six_cases _ _ _ _ _ _ P p0 p1 p2 p3 p4 p5 n h

pub vertex_cases : (t : Shape) (P : ℕ → Type 0) → P 0 → P 1 → P 2 → (n : ℕ) → HasVertex (triangle_view t) (vertex_id n) → P n
vertex_cases t P p0 p1 p2 zero h = p0
vertex_cases t P p0 p1 p2 (suc zero) h = p1
vertex_cases t P p0 p1 p2 (suc (suc zero)) h = p2
vertex_cases t P p0 p1 p2 (suc (suc (suc n))) h = absurd (past _ _ (three n _ _ _) h)

pub cycle_cases : (P : ℕ → Type 0) → P 0 → P 1 → (n : ℕ) → HasCycle triangle_faces (cycle_id n) → P n
cycle_cases P p0 p1 zero h = p0
cycle_cases P p0 p1 (suc zero) h = p1
cycle_cases P p0 p1 (suc (suc n)) h = absurd (past _ _ (two n _ _) h)

-- ---- darts
pub dart_below : (t : Shape) (d : DartId) → HasDart (triangle_view t) d → d.0 < 6
dart_below t d h = dart_cases t (λ n. n < 6) (omega arith) (omega arith) (omega arith) (omega arith) (omega arith) (omega arith) d.0 h

abbrev pub row_in : List DartRecord → ℕ → DartRecord
row_in rs n = slice_index_or rs n (row 0 0 0 0)

module _ (t : Shape) (rs : List DartRecord) (e : rs ≡ triangle_rows) (d : DartId) (h : HasDart (triangle_view t) d) where
  pub source_is : vertex_id (row_in rs d.0).source ≡ source_in (triangle_view t) d
  unfolding row_at
  source_is = rw e (dart_cases t (λ n. vertex_id (row_in triangle_rows n).source ≡ source_in (triangle_view t) (dart_id n)) refl refl refl refl refl refl d.0 h)

  pub twin_is : dart_id (row_in rs d.0).twin ≡ twin_in (triangle_view t) d
  unfolding row_at
  twin_is = rw e (dart_cases t (λ n. dart_id (row_in triangle_rows n).twin ≡ twin_in (triangle_view t) (dart_id n)) refl refl refl refl refl refl d.0 h)

  pub next_is : dart_id (row_in rs d.0).next ≡ next_in (triangle_view t) d
  unfolding row_at
  next_is = rw e (dart_cases t (λ n. dart_id (row_in triangle_rows n).next ≡ next_in (triangle_view t) (dart_id n)) refl refl refl refl refl refl d.0 h)

  pub twin_has : HasDart (triangle_view t) (dart_id (row_in rs d.0).twin)
  unfolding row_at
  twin_has = rw e (dart_cases t (λ n. HasDart (triangle_view t) (dart_id (row_in triangle_rows n).twin)) refl refl refl refl refl refl d.0 h)

  pub twin_back : twin_in (triangle_view t) (dart_id (row_in rs d.0).twin) ≡ d
  unfolding row_at
  twin_back = rw e (dart_cases t (λ n. twin_in (triangle_view t) (dart_id (row_in triangle_rows n).twin) ≡ dart_id n) refl refl refl refl refl refl d.0 h)

  pub cycle_is : cycle_id (row_in rs d.0).cycle ≡ cycle_in triangle_faces d
  unfolding row_at
  cycle_is = rw e (dart_cases t (λ n. cycle_id (row_in triangle_rows n).cycle ≡ cycle_in triangle_faces (dart_id n)) refl refl refl refl refl refl d.0 h)

  pub cycle_has : HasCycle triangle_faces (cycle_id (row_in rs d.0).cycle)
  unfolding row_at
  cycle_has = rw e (dart_cases t (λ n. HasCycle triangle_faces (cycle_id (row_in triangle_rows n).cycle)) refl refl refl refl refl refl d.0 h)

-- ---- vertices
module _ (t : Shape) (v : VertexId) where
  pub point_a : v.0 ≡ 0 → t.a ≡ point_in (triangle_view t) v
  unfolding row_at
  point_a e = let P : ℕ → Type 0 = λ n. t.a ≡ point_in (triangle_view t) (vertex_id n) in subst P (sym e) refl

  pub point_b : v.0 ≡ 1 → t.b ≡ point_in (triangle_view t) v
  unfolding row_at
  point_b e = let P : ℕ → Type 0 = λ n. t.b ≡ point_in (triangle_view t) (vertex_id n) in subst P (sym e) refl

  pub point_c : HasVertex (triangle_view t) v → v.0 ≢ 0 → v.0 ≢ 1 → t.c ≡ point_in (triangle_view t) v
  unfolding row_at
  point_c h = vertex_cases t (λ n. n ≢ 0 → n ≢ 1 → t.c ≡ point_in (triangle_view t) (vertex_id n)) (λ z _. absurd (z refl)) (λ _ z. absurd (z refl)) (λ _ _. refl) v.0 h

  pub unpinned : HasVertex (triangle_view t) v → false ≡ pinned_in (triangle_view t) v
  unfolding row_at
  unpinned h = vertex_cases t (λ n. false ≡ pinned_in (triangle_view t) (vertex_id n)) refl refl refl v.0 h

  pub out_of_a : v.0 ≡ 0 → IsOutOf (triangle_view t) v (dart_id 0)
  unfolding row_at
  out_of_a e = (refl, ap vertex_id (sym e))

  pub out_of_b : v.0 ≡ 1 → IsOutOf (triangle_view t) v (dart_id 2)
  unfolding row_at
  out_of_b e = (refl, ap vertex_id (sym e))

  pub out_of_c : HasVertex (triangle_view t) v → v.0 ≢ 0 → v.0 ≢ 1 → IsOutOf (triangle_view t) v (dart_id 4)
  unfolding row_at
  out_of_c h n0 n1 = (refl, vertex_cases t (λ n. n ≢ 0 → n ≢ 1 → vertex_id 2 ≡ vertex_id n) (λ z _. absurd (z refl)) (λ _ z. absurd (z refl)) (λ _ _. refl) v.0 h n0 n1)

-- ---- cycles and faces
module _ (c : CycleId) where
  pub face_0 : c.0 ≡ 0 → face_id 1 ≡ face_in triangle_faces c
  unfolding row_at
  face_0 e = let P : ℕ → Type 0 = λ n. face_id 1 ≡ face_in triangle_faces (cycle_id n) in subst P (sym e) refl

  pub face_1 : HasCycle triangle_faces c → c.0 ≢ 0 → face_id 0 ≡ face_in triangle_faces c
  unfolding row_at
  face_1 h = cycle_cases (λ n. n ≢ 0 → face_id 0 ≡ face_in triangle_faces (cycle_id n)) (λ z. absurd (z refl)) (λ _. refl) c.0 h

  pub kind_0 : c.0 ≡ 0 → Outer ≡ kind_in triangle_faces c
  unfolding row_at
  kind_0 e = let P : ℕ → Type 0 = λ n. Outer ≡ kind_in triangle_faces (cycle_id n) in subst P (sym e) refl

  pub kind_1 : HasCycle triangle_faces c → c.0 ≢ 0 → Inner ≡ kind_in triangle_faces c
  unfolding row_at
  kind_1 h = cycle_cases (λ n. n ≢ 0 → Inner ≡ kind_in triangle_faces (cycle_id n)) (λ z. absurd (z refl)) (λ _. refl) c.0 h

pub none_bare : (v : VertexId) → HasBareFace triangle_faces v → ⊥
unfolding row_at
none_bare v h = past {X = FaceId} v.0 [] refl h

-- ---- the next greater name
pass : (n m : ℕ) (ns : List ℕ) → n ≤ m → name_after (n ∷ ns) (Some m) ≡ name_after ns (Some m)
unfolding name_after
pass n m ns h = let e : nat_lt m n ≡ false = grind (arith, nat_tests) in rw e refl

over_two : (m : ℕ) → 1 ≤ m → name_after (0 ∷ 1 ∷ []) (Some m) ≡ None
unfolding name_after
over_two m h = pass 0 m (1 ∷ []) (omega arith) ∙ pass 1 m [] h

over_three : (m : ℕ) → 2 ≤ m → name_after (0 ∷ 1 ∷ 2 ∷ []) (Some m) ≡ None
unfolding name_after
over_three m h = pass 0 m (1 ∷ 2 ∷ []) (omega arith) ∙ pass 1 m (2 ∷ []) (omega arith) ∙ pass 2 m [] h

over_six : (m : ℕ) → 5 ≤ m → name_after (0 ∷ 1 ∷ 2 ∷ 3 ∷ 4 ∷ 5 ∷ []) (Some m) ≡ None
unfolding name_after
over_six m h = pass 0 m (1 ∷ 2 ∷ 3 ∷ 4 ∷ 5 ∷ []) (omega arith) ∙ pass 1 m (2 ∷ 3 ∷ 4 ∷ 5 ∷ []) (omega arith) ∙ pass 2 m (3 ∷ 4 ∷ 5 ∷ []) (omega arith) ∙ pass 3 m (4 ∷ 5 ∷ []) (omega arith) ∙ pass 4 m (5 ∷ []) (omega arith) ∙ pass 5 m [] h

in_two : (m : ℕ) → m < 1 → name_after (0 ∷ 1 ∷ []) (Some m) ≡ Some 1
unfolding name_after
in_two zero h = refl
in_two (suc m) h = absurd (omega arith)

in_three : (m : ℕ) → m < 2 → name_after (0 ∷ 1 ∷ 2 ∷ []) (Some m) ≡ Some (m + 1)
unfolding name_after
in_three zero h = refl
in_three (suc zero) h = refl
in_three (suc (suc m)) h = absurd (omega arith)

in_six : (m : ℕ) → m < 5 → name_after (0 ∷ 1 ∷ 2 ∷ 3 ∷ 4 ∷ 5 ∷ []) (Some m) ≡ Some (m + 1)
unfolding name_after
in_six zero h = refl
in_six (suc zero) h = refl
in_six (suc (suc zero)) h = refl
in_six (suc (suc (suc zero))) h = refl
in_six (suc (suc (suc (suc zero)))) h = refl
in_six (suc (suc (suc (suc (suc m))))) h = absurd (omega arith)

module _ (t : Shape) (v : Option VertexId) where
  pub vertex_first : v ≡ None → Some (vertex_id 0) ≡ vertex_after_in (triangle_view t) v
  unfolding name_after
  vertex_first e = let P : Option VertexId → Type 0 = λ w. Some (vertex_id 0) ≡ vertex_after_in (triangle_view t) w in subst P (sym e) refl

  pub vertex_then : (u : VertexId) → v ≡ Some u → u.0 < 2 → Some (vertex_id (u.0 + 1)) ≡ vertex_after_in (triangle_view t) v
  vertex_then u e h = let P : Option VertexId → Type 0 = λ w. Some (vertex_id (u.0 + 1)) ≡ vertex_after_in (triangle_view t) w in subst P (sym e) (ap (option_map vertex_id) (sym (in_three u.0 h)))

  pub vertex_last : (u : VertexId) → v ≡ Some u → 2 ≤ u.0 → None ≡ vertex_after_in (triangle_view t) v
  vertex_last u e h = let P : Option VertexId → Type 0 = λ w. None ≡ vertex_after_in (triangle_view t) w in subst P (sym e) (ap (option_map vertex_id) (sym (over_three u.0 h)))

module _ (t : Shape) (d : Option DartId) where
  pub dart_first : d ≡ None → Some (dart_id 0) ≡ dart_after_in (triangle_view t) d
  unfolding name_after
  dart_first e = let P : Option DartId → Type 0 = λ w. Some (dart_id 0) ≡ dart_after_in (triangle_view t) w in subst P (sym e) refl

  pub dart_then : (u : DartId) → d ≡ Some u → u.0 < 5 → Some (dart_id (u.0 + 1)) ≡ dart_after_in (triangle_view t) d
  dart_then u e h = let P : Option DartId → Type 0 = λ w. Some (dart_id (u.0 + 1)) ≡ dart_after_in (triangle_view t) w in subst P (sym e) (ap (option_map dart_id) (sym (in_six u.0 h)))

  pub dart_last : (u : DartId) → d ≡ Some u → 5 ≤ u.0 → None ≡ dart_after_in (triangle_view t) d
  dart_last u e h = let P : Option DartId → Type 0 = λ w. None ≡ dart_after_in (triangle_view t) w in subst P (sym e) (ap (option_map dart_id) (sym (over_six u.0 h)))

module _ (c : Option CycleId) where
  pub cycle_first : c ≡ None → Some (cycle_id 0) ≡ cycle_after_in triangle_faces c
  unfolding name_after
  cycle_first e = let P : Option CycleId → Type 0 = λ w. Some (cycle_id 0) ≡ cycle_after_in triangle_faces w in subst P (sym e) refl

  pub cycle_then : (u : CycleId) → c ≡ Some u → u.0 < 1 → Some (cycle_id 1) ≡ cycle_after_in triangle_faces c
  cycle_then u e h = let P : Option CycleId → Type 0 = λ w. Some (cycle_id 1) ≡ cycle_after_in triangle_faces w in subst P (sym e) (ap (option_map cycle_id) (sym (in_two u.0 h)))

  pub cycle_last : (u : CycleId) → c ≡ Some u → 1 ≤ u.0 → None ≡ cycle_after_in triangle_faces c
  cycle_last u e h = let P : Option CycleId → Type 0 = λ w. None ≡ cycle_after_in triangle_faces w in subst P (sym e) (ap (option_map cycle_id) (sym (over_two u.0 h)))

module _ (f : Option FaceId) where
  pub face_first : f ≡ None → Some (face_id 0) ≡ face_after_in triangle_faces f
  unfolding name_after
  face_first e = let P : Option FaceId → Type 0 = λ w. Some (face_id 0) ≡ face_after_in triangle_faces w in subst P (sym e) refl

  pub face_then : (u : FaceId) → f ≡ Some u → u.0 < 1 → Some (face_id 1) ≡ face_after_in triangle_faces f
  face_then u e h = let P : Option FaceId → Type 0 = λ w. Some (face_id 1) ≡ face_after_in triangle_faces w in subst P (sym e) (ap (option_map face_id) (sym (in_two u.0 h)))

  pub face_last : (u : FaceId) → f ≡ Some u → 1 ≤ u.0 → None ≡ face_after_in triangle_faces f
  face_last u e h = let P : Option FaceId → Type 0 = λ w. None ≡ face_after_in triangle_faces w in subst P (sym e) (ap (option_map face_id) (sym (over_two u.0 h)))

-- ---- lines
pub line_ab : (t : Shape) (d : DartId) → HasDart (triangle_view t) d → d.0 < 2 → t.ab ≡ line_in (triangle_view t) d
unfolding row_at
line_ab t d h = dart_cases t (λ n. n < 2 → t.ab ≡ line_in (triangle_view t) (dart_id n)) (λ s. refl) (λ s. refl) (λ s. absurd (omega arith)) (λ s. absurd (omega arith)) (λ s. absurd (omega arith)) (λ s. absurd (omega arith)) d.0 h

pub line_bc : (t : Shape) (d : DartId) → HasDart (triangle_view t) d → 2 ≤ d.0 → d.0 < 4 → t.bc ≡ line_in (triangle_view t) d
unfolding row_at
line_bc t d h = dart_cases t (λ n. 2 ≤ n → n < 4 → t.bc ≡ line_in (triangle_view t) (dart_id n)) (λ r s. absurd (omega arith)) (λ r s. absurd (omega arith)) (λ r s. refl) (λ r s. refl) (λ r s. absurd (omega arith)) (λ r s. absurd (omega arith)) d.0 h

pub line_ca : (t : Shape) (d : DartId) → HasDart (triangle_view t) d → 4 ≤ d.0 → t.ca ≡ line_in (triangle_view t) d
unfolding row_at
line_ca t d h = dart_cases t (λ n. 4 ≤ n → t.ca ≡ line_in (triangle_view t) (dart_id n)) (λ s. absurd (omega arith)) (λ s. absurd (omega arith)) (λ s. absurd (omega arith)) (λ s. absurd (omega arith)) (λ s. refl) (λ s. refl) d.0 h
