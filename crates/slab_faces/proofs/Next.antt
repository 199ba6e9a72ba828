-- The way round a vertex from a dart to the next stays in one face.
use Rattle.std.proofs.Common.{◌≡◌, ℕ, ◌+◌, ◌-◌, ◌<◌, ◌≤◌, Bool, true, false, arith, refl, sym, ap, ◌∙◌, subst, zero, suc}
use Rattle.std.specs.Prelude.{pos, not, ◌&&◌, ◌<ℤ◌}
use Rattle.std.specs.List.{Contains}
use Rattle.std.proofs.lemmas.Bool.{false≢true, and_parts, and_from, or_left, not-true, false_from_ne_true}
use lib.Signed.{lt_z}
use Rattle.std.proofs.lemmas.Int.{ints}
use Rattle.exact_plane.specs.Point.{Point}
use Rattle.plane_graphs.specs.Graph.{Edge}
use Rattle.slab_laws.specs.Skeleton.{Skeleton, HasWeight, left_of, lower_than, run, side, below, IsPlaneSkeleton}
use Rattle.slab_laws.specs.Slabs.{slab_left, slab_right, reaches_left, reaches_right, place, left_cell, right_cell, left_bottom, left_top, right_top, right_bottom, forward_cell, backward_cell}
use Rattle.slab_laws.specs.declared.slab_cell.SlabCell.{SlabCell}
use Rattle.slab_laws.specs.Meets.{SameFace, here}
use Rattle.slab_laws.specs.Darts.{start, kind, class, cell_by, cell_of, Earlier, by_class, on_left, on_right, IsOut, IsTurn, on, round}
use Rattle.slab_faces.proofs.OverUnder.{zero_not_over}
use Rattle.slab_faces.proofs.Walls.{left_of-irrefl, left_of-after, run_positive, lower_than-irrefl, over-lower, side-lower, side-upper}
use Rattle.slab_faces.proofs.Slabs.{no_order}
use Rattle.slab_faces.proofs.Along.{side_below}
use Rattle.slab_faces.proofs.Turns.{face_trans, face_sym, on_own_wall, level_at, above_to_last, below_to_last}
use Rattle.slab_faces.proofs.Corners.{IsAt, IsAlong, left_fan, right_fan, next_place, top_place, bottom_place, along_left, along_right}
use Rattle.slab_faces.proofs.AddedUpright.{one_slab_left, one_slab_right}
use Rattle.slab_faces.proofs.Round.{left_empty, right_empty, top_open, bottom_open}

-- an edge that leaves the wall to the right at v's height begins at v
pub level_at_lower : (g : Skeleton) (f : Edge) (v : Point) → IsPlaneSkeleton g → Contains g.edges f → Contains g.vertices v → reaches_right f v ≡ true → side f v ≡ pos 0 → f.low ≡ v
level_at_lower g f v plane F in' r z =
    let a = and_parts (not (left_of v f.low)) (left_of v f.high) r in
    let a' = not-true _ a.0 in
    let V = plane.proper v in' in
    let p = plane.proper_edge f F in
    let long = left_of-after f.low v f.high p.0 V p.1 a' a.1 in
    let line : (not (lt_z (side f v) (pos 0)) && not (lt_z (pos 0) (side f v))) ≡ true = rw z refl in
    let b : left_of f.low v ≡ false = false_from_ne_true _ (λ h. false≢true (sym (plane.clear f v F in') ∙ and_from _ _ (and_from _ _ (or_left _ _ h) (or_left _ _ a.1)) line)) in
    let c = over-lower f v p.0 long b a' in
    let d : lower_than v f.low ≡ false = sym c ∙ zero_not_over f v z in
    let k : lower_than f.low v ≡ false = lower_back f v V (run_positive f long) b a' z in
    plane.distinct f.low v (plane.lower_in f F) in' (no_order f.low v b a' k) (no_order v f.low a' b d)
  where
    lower_back : (f : Edge) (v : Point) → HasWeight v → pos 0 <ℤ run f → left_of f.low v ≡ false → left_of v f.low ≡ false → side f v ≡ pos 0 → lower_than f.low v ≡ false
    lower_back f v V R a b z = false_from_ne_true _ (λ h.
        let k = side_below f v f.low V R z a b h in
        let s = side-lower f in
        absurd (omega (arith, ints)))

-- ---- the corners, clockwise
abbrev pub corner : Skeleton → Point → ℕ → SlabCell
corner g v zero = left_bottom g v
corner g v (suc zero) = left_top g v
corner g v (suc (suc zero)) = right_top g v
corner g v (suc (suc (suc zero))) = right_bottom g v
corner g v (suc (suc (suc (suc n)))) = left_bottom g v

-- an edge that reaches v from the left ends there: a dart of the first kind; to the right, one of the third
left_dart : (g : Skeleton) (v : Point) (f : Edge) → IsPlaneSkeleton g → Contains g.vertices v → IsAt g v (λ e. reaches_left e v) f → IsOut g v f false × (class f false ≡ 0)
left_dart g v f plane in' a =
    let e = level_at g f v plane a.in' in' a.reaches a.on in
    let r = and_parts (left_of f.low v) (not (left_of f.high v)) a.reaches in
    let long : left_of f.low f.high ≡ true = subst (λ x. left_of f.low x ≡ true) (sym e) r.0 in
    (record { in' = a.in'; at = e }, ap (λ l. kind l false) long)

right_dart : (g : Skeleton) (v : Point) (f : Edge) → IsPlaneSkeleton g → Contains g.vertices v → IsAt g v (λ e. reaches_right e v) f → IsOut g v f true × (class f true ≡ 2)
right_dart g v f plane in' a =
    let e = level_at_lower g f v plane a.in' in' a.reaches a.on in
    let r = and_parts (not (left_of v f.low)) (left_of v f.high) a.reaches in
    let long : left_of f.low f.high ≡ true = subst (λ x. left_of x f.high ≡ true) (sym e) r.1 in
    (record { in' = a.in'; at = e }, ap (λ l. kind l true) long)

-- where no dart is of a kind, the corners before and after it are in one face
abbrev pub IsEmpty : Skeleton → Point → ℕ → Type 0
IsEmpty g v k = (c : Edge) (r : Bool) → IsOut g v c r → class c r ≡ k → ⊥

pub corner_step : (g : Skeleton) (v : Point) (k : ℕ) → IsPlaneSkeleton g → Contains g.vertices v → k < 4 → IsEmpty g v k → SameFace g (corner g v k) (corner g v (suc k))
corner_step g v zero plane in' l none = left_empty g v plane in' (λ f a. let d = left_dart g v f plane in' a in none f false d.0 d.1)
corner_step g v (suc zero) plane in' l none =
    top_open g v plane in' (λ f F e u. none f true (record { in' = F; at = e }) (ap (λ l. kind l true) (subst (λ x. left_of x f.high ≡ false) (sym e) u.upper_2)))
corner_step g v (suc (suc zero)) plane in' l none = face_sym g _ _ (right_empty g v plane in' (λ f a. let d = right_dart g v f plane in' a in none f true d.0 d.1))
corner_step g v (suc (suc (suc zero))) plane in' l none =
    face_sym g _ _ (bottom_open g v plane in' (λ f F e u. none f false (record { in' = F; at = e }) (ap (λ l. kind l false) (subst (λ x. left_of f.low x ≡ false) (sym e) u.lower_1))))
corner_step g v (suc (suc (suc (suc n)))) plane in' l none = absurd (omega arith)

-- and so along several kinds
pub walk : (g : Skeleton) (v : Point) (k n : ℕ) → IsPlaneSkeleton g → Contains g.vertices v → k + n ≤ 4 → ((j : ℕ) → k ≤ j → j < k + n → IsEmpty g v j) → SameFace g (corner g v k) (corner g v (k + n))
walk g v k zero plane in' l none = subst (λ j. SameFace g (corner g v k) (corner g v j)) (omega arith) (here _)
walk g v k (suc n) plane in' l none =
    let a = walk g v k n plane in' (omega arith) (λ j x y. none j x (omega arith)) in
    let b = corner_step g v (k + n) plane in' (omega arith) (none (k + n) (omega arith) (omega arith)) in
    let e : suc (k + n) ≡ k + suc n = omega arith in
    face_trans g _ _ _ a (subst (λ j. SameFace g (corner g v (k + n)) (corner g v j)) e b)

pub kind_zero : (l f : Bool) → kind l f ≡ 0 → (l ≡ true) × (f ≡ false)
kind_zero true false h = (refl, refl)
kind_zero false true h = absurd (omega arith)
kind_zero true true h = absurd (omega arith)
kind_zero false false h = absurd (omega arith)

pub kind_two : (l f : Bool) → kind l f ≡ 2 → (l ≡ true) × (f ≡ true)
kind_two true true h = (refl, refl)
kind_two true false h = absurd (omega arith)
kind_two false true h = absurd (omega arith)
kind_two false false h = absurd (omega arith)

pub kind_few : (l f : Bool) → kind l f < 4
kind_few true true = omega arith
kind_few true false = omega arith
kind_few false true = omega arith
kind_few false false = omega arith

pub at_upper : (g : Skeleton) (e : Edge) → IsPlaneSkeleton g → Contains g.edges e → left_of e.low e.high ≡ true → IsAt g e.high (λ x. reaches_left x e.high) e
at_upper g e plane E l = record { in' = E; reaches = and_from _ _ l (ap not (left_of-irrefl e.high)); on = side-upper e }

pub at_lower : (g : Skeleton) (e : Edge) → IsPlaneSkeleton g → Contains g.edges e → left_of e.low e.high ≡ true → IsAt g e.low (λ x. reaches_right x e.low) e
at_lower g e plane E l = record { in' = E; reaches = and_from _ _ (ap not (left_of-irrefl e.low)) l; on = side-lower e }

whole_upright : (g : Skeleton) (e : Edge) → IsPlaneSkeleton g → Contains g.edges e → left_of e.low e.high ≡ false → IsAlong g e e.low
whole_upright g e plane E h =
    let b = plane.forward e E in
    record { plane = plane; S = E; wall = on_own_wall g e.low plane (plane.lower_in e E); upright = record { lower_1 = left_of-irrefl e.low; lower_2 = left_of-irrefl e.low; upper_1 = b; upper_2 = h }; from = lower_than-irrefl e.low; to = plane.upright e E (rw (h, b) refl) }

-- the last of its kind: after it comes the next corner
abbrev IsLast : Skeleton → Point → Edge → Bool → Type 0
IsLast g v e f = (c : Edge) (r : Bool) → IsOut g v c r → class c r ≡ class e f → Earlier e c f r → ⊥

abbrev pub IsFirst : Skeleton → Point → Edge → Bool → Type 0
IsFirst g v e f = (c : Edge) (r : Bool) → IsOut g v c r → class c r ≡ class e f → Earlier c e r f → ⊥

last_left : (g : Skeleton) (e : Edge) → IsPlaneSkeleton g → Contains g.edges e → left_of e.low e.high ≡ true → IsLast g e.high e false → SameFace g (forward_cell g e) (left_top g e.high)
last_left g e plane E l none =
    let v = e.high in
    let in' = plane.upper_in e E in
    let n = left_fan g v plane (on_own_wall g v plane in') in
    let z : class e false ≡ 0 = ap (λ x. kind x false) l in
    let p = top_place g v (slab_left g v) _ (λ x. reaches_left x v) e n (at_upper g e plane E l) (λ f a b.
    let d = left_dart g v f plane in' a in none f false d.0 (d.1 ∙ sym z) (on_left z d.1 b)) in
    subst (λ k. SameFace g (forward_cell g e) (record { slab = slab_left g v; place = k })) (sym p) (above_to_last g e plane E l)

first_left : (g : Skeleton) (e : Edge) → IsPlaneSkeleton g → Contains g.edges e → left_of e.low e.high ≡ true → IsFirst g e.high e false → SameFace g (left_bottom g e.high) (backward_cell g e)
first_left g e plane E l none =
    let v = e.high in
    let in' = plane.upper_in e E in
    let n = left_fan g v plane (on_own_wall g v plane in') in
    let z : class e false ≡ 0 = ap (λ x. kind x false) l in
    let p = bottom_place g v (slab_left g v) _ (λ x. reaches_left x v) e n (at_upper g e plane E l) (λ f a b.
    let d = left_dart g v f plane in' a in none f false d.0 (d.1 ∙ sym z) (on_left d.1 z b)) in
    subst (λ k. SameFace g (record { slab = slab_left g v; place = k }) (backward_cell g e)) (sym p) (face_sym g _ _ (below_to_last g e plane E l))

last_right : (g : Skeleton) (e : Edge) → IsPlaneSkeleton g → Contains g.edges e → left_of e.low e.high ≡ true → IsLast g e.low e true → SameFace g (backward_cell g e) (right_bottom g e.low)
last_right g e plane E l none =
    let v = e.low in
    let in' = plane.lower_in e E in
    let n = right_fan g v plane (on_own_wall g v plane in') in
    let z : class e true ≡ 2 = ap (λ x. kind x true) l in
    let p = bottom_place g v (slab_right g v) _ (λ x. reaches_right x v) e n (at_lower g e plane E l) (λ f a b.
    let d = right_dart g v f plane in' a in none f true d.0 (d.1 ∙ sym z) (on_right z d.1 b)) in
    subst (λ k. SameFace g (backward_cell g e) (record { slab = slab_right g v; place = k })) (sym p) (here _)

first_right : (g : Skeleton) (e : Edge) → IsPlaneSkeleton g → Contains g.edges e → left_of e.low e.high ≡ true → IsFirst g e.low e true → SameFace g (right_top g e.low) (forward_cell g e)
first_right g e plane E l none =
    let v = e.low in
    let in' = plane.lower_in e E in
    let n = right_fan g v plane (on_own_wall g v plane in') in
    let z : class e true ≡ 2 = ap (λ x. kind x true) l in
    let p = top_place g v (slab_right g v) _ (λ x. reaches_right x v) e n (at_lower g e plane E l) (λ f a b.
    let d = right_dart g v f plane in' a in none f true d.0 (d.1 ∙ sym z) (on_right d.1 z b)) in
    subst (λ k. SameFace g (record { slab = slab_right g v; place = k }) (forward_cell g e)) (sym p) (here _)

down_left : (g : Skeleton) (e : Edge) → IsPlaneSkeleton g → Contains g.edges e → left_of e.low e.high ≡ false → left_cell g e.low ≡ left_bottom g e.high
down_left g e plane E h =
    let p = plane.proper_edge e E in
    let s = one_slab_left g e.low e.high plane.proper p.0 p.1 h (plane.forward e E) in
    let k = along_left g e e.low (whole_upright g e plane E h) in
    λ i. record { slab = s i; place = k i }

down_right : (g : Skeleton) (e : Edge) → IsPlaneSkeleton g → Contains g.edges e → left_of e.low e.high ≡ false → right_cell g e.low ≡ right_bottom g e.high
down_right g e plane E h =
    let p = plane.proper_edge e E in
    let s = one_slab_right g e.low e.high plane.proper p.0 p.1 h (plane.forward e E) in
    let k = along_right g e e.low (whole_upright g e plane E h) in
    λ i. record { slab = s i; place = k i }

last_in : (g : Skeleton) (e : Edge) (f l : Bool) → IsPlaneSkeleton g → Contains g.edges e → left_of e.low e.high ≡ l → IsLast g (start e f) e f → SameFace g (cell_by g e l (not f)) (corner g (start e f) (suc (kind l f)))
last_in g e false true plane E q none = last_left g e plane E q none
last_in g e true false plane E q none = here _
last_in g e true true plane E q none = last_right g e plane E q none
last_in g e false false plane E q none = subst (λ c. SameFace g (left_cell g e.low) c) (down_left g e plane E q) (here _)

first_in : (g : Skeleton) (e : Edge) (f l : Bool) → IsPlaneSkeleton g → Contains g.edges e → left_of e.low e.high ≡ l → IsFirst g (start e f) e f → SameFace g (corner g (start e f) (kind l f)) (cell_by g e l f)
first_in g e false true plane E q none = first_left g e plane E q none
first_in g e true false plane E q none = here _
first_in g e true true plane E q none = first_right g e plane E q none
first_in g e false false plane E q none = subst (λ c. SameFace g c (right_cell g e.low)) (down_right g e plane E q) (here _)

leaves : (g : Skeleton) (v : Point) (e : Edge) (f : Bool) → IsPlaneSkeleton g → IsOut g v e f → IsLast g v e f → SameFace g (cell_of g e (not f)) (corner g v (suc (class e f)))
leaves g v e f plane o none =
    let P : Point → Type 0 = λ u. IsLast g u e f → SameFace g (cell_of g e (not f)) (corner g u (suc (class e f))) in
    let a : P (start e f) = λ none. last_in g e f (left_of e.low e.high) plane o.in' refl none in
    subst P o.at a none

pub enters : (g : Skeleton) (v : Point) (e : Edge) (f : Bool) → IsPlaneSkeleton g → IsOut g v e f → IsFirst g v e f → SameFace g (corner g v (class e f)) (cell_of g e f)
enters g v e f plane o none =
    let P : Point → Type 0 = λ u. IsFirst g u e f → SameFace g (corner g u (class e f)) (cell_of g e f) in
    let a : P (start e f) = λ none. first_in g e f (left_of e.low e.high) plane o.in' refl none in
    subst P o.at a none

is_vertex : (g : Skeleton) (v : Point) (e : Edge) (f : Bool) → IsPlaneSkeleton g → IsOut g v e f → Contains g.vertices v
is_vertex g v e f plane o = subst (Contains g.vertices) o.at (ends f)
  where
    ends : (f : Bool) → Contains g.vertices (start e f)
    ends true = plane.lower_in e o.in'
    ends false = plane.upper_in e o.in'

-- ---- two of one kind, one right after the other
abbrev IsAdjacent : Skeleton → Point → Edge → Edge → Bool → Bool → Type 0
IsAdjacent g v d e p q = (c : Edge) (r : Bool) → IsOut g v c r → Earlier d c p r → Earlier c e r q → ⊥

pair_left : (g : Skeleton) (d e : Edge) → IsPlaneSkeleton g → Contains g.edges d → Contains g.edges e → left_of d.low d.high ≡ true → left_of e.low e.high ≡ true → e.high ≡ d.high → below d e ≡ true → IsAdjacent g d.high d e false false → SameFace g (forward_cell g d) (backward_cell g e)
pair_left g d e plane D E l l' u b none =
    let v = d.high in
    let in' = plane.upper_in d D in
    let n = left_fan g v plane (on_own_wall g v plane in') in
    let z : class d false ≡ 0 = ap (λ x. kind x false) l in
    let z' : class e false ≡ 0 = ap (λ x. kind x false) l' in
    let a : IsAt g v (λ x. reaches_left x v) e = subst (λ w. IsAt g w (λ x. reaches_left x w) e) u (at_upper g e plane E l') in
    let p = next_place g v (slab_left g v) _ (λ x. reaches_left x v) d e n (at_upper g d plane D l) a b (λ f o x y.
    let k = left_dart g v f plane in' o in none f false k.0 (on_left z k.1 x) (on_left k.1 z' y)) in
    let s = above_to_last g d plane D l in
    let t = subst (λ w. SameFace g (backward_cell g e) (record { slab = slab_left g w; place = place g (slab_left g w) e })) u (below_to_last g e plane E l') in
    let t' = subst (λ k. SameFace g (backward_cell g e) (record { slab = slab_left g v; place = k })) p t in
    face_trans g _ _ _ s (face_sym g _ _ t')

pair_right : (g : Skeleton) (d e : Edge) → IsPlaneSkeleton g → Contains g.edges d → Contains g.edges e → left_of d.low d.high ≡ true → left_of e.low e.high ≡ true → e.low ≡ d.low → below e d ≡ true → IsAdjacent g d.low d e true true → SameFace g (backward_cell g d) (forward_cell g e)
pair_right g d e plane D E l l' u b none =
    let v = d.low in
    let in' = plane.lower_in d D in
    let n = right_fan g v plane (on_own_wall g v plane in') in
    let z : class d true ≡ 2 = ap (λ x. kind x true) l in
    let z' : class e true ≡ 2 = ap (λ x. kind x true) l' in
    let a : IsAt g v (λ x. reaches_right x v) e = subst (λ w. IsAt g w (λ x. reaches_right x w) e) u (at_lower g e plane E l') in
    let p = next_place g v (slab_right g v) _ (λ x. reaches_right x v) e d n a (at_lower g d plane D l) b (λ f o x y.
    let k = right_dart g v f plane in' o in none f true k.0 (on_right z k.1 y) (on_right k.1 z' x)) in
    let P : Point → Type 0 = λ w. SameFace g (record { slab = slab_right g w; place = place g (slab_right g w) e + 1 }) (forward_cell g e) in
    let t : P v = subst P u (here _) in
    subst (λ k. SameFace g (record { slab = slab_right g v; place = k }) (forward_cell g e)) (sym p) t

cells_left : (g : Skeleton) (d e : Edge) (p q l l' : Bool) → l ≡ true → l' ≡ true → p ≡ false → q ≡ false → SameFace g (forward_cell g d) (backward_cell g e) → SameFace g (cell_by g d l (not p)) (cell_by g e l' q)
cells_left g d e p q l l' a b c x s = rw (a, b, c, x) s

cells_right : (g : Skeleton) (d e : Edge) (p q l l' : Bool) → l ≡ true → l' ≡ true → p ≡ true → q ≡ true → SameFace g (backward_cell g d) (forward_cell g e) → SameFace g (cell_by g d l (not p)) (cell_by g e l' q)
cells_right g d e p q l l' a b c x s = rw (a, b, c, x) s

-- ---- from class to class
between_kinds : (g : Skeleton) (v : Point) (k n : ℕ) → IsPlaneSkeleton g → Contains g.vertices v → k ≤ n → n ≤ 4 → ((j : ℕ) → k ≤ j → j < n → IsEmpty g v j) → SameFace g (corner g v k) (corner g v n)
between_kinds g v k n plane in' l m none =
    let e : k + (n - k) ≡ n = omega arith in
    subst (λ j. SameFace g (corner g v k) (corner g v j)) e (walk g v k (n - k) plane in' (omega arith) (λ j x y. none j x (omega arith)))

-- the dart (e, q) out of v follows (d, p) clockwise: it has the face of the dart that comes in along (d, p)
pub turn_keeps : (g : Skeleton) (v : Point) (d e : Edge) (p q : Bool) → IsPlaneSkeleton g → IsOut g v d p → IsOut g v e q → IsTurn g v d e p q → SameFace g (cell_of g d (not p)) (cell_of g e q)
turn_keeps g v d e p q plane o o' (on (by_class l) none) =
    let in' = is_vertex g v d p plane o in
    let a = leaves g v d p plane o (λ c r k s x. none c r k x (by_class (omega arith))) in
    let b = enters g v e q plane o' (λ c r k s x. none c r k (by_class (omega arith)) x) in
    let few = kind_few (left_of e.low e.high) q in
    let m = between_kinds g v (suc (class d p)) (class e q) plane in' l (omega arith) (λ j x y c r k s. none c r k (by_class (omega arith)) (by_class (omega arith))) in
    face_trans g _ _ _ a (face_trans g _ _ _ m b)
turn_keeps g v d e p q plane o o' (on (on_left x y b) none) =
    let k = kind_zero (left_of d.low d.high) p x in
    let k' = kind_zero (left_of e.low e.high) q y in
    let at : d.high ≡ v = subst (λ f. start d f ≡ v) k.1 o.at in
    let at' : e.high ≡ v = subst (λ f. start e f ≡ v) k'.1 o'.at in
    let n : IsAdjacent g v d e false false = subst (λ f. IsAdjacent g v d e f false) k.1 (subst (λ f. IsAdjacent g v d e p f) k'.1 none) in
    cells_left g d e p q _ _ k.0 k'.0 k.1 k'.1 (pair_left g d e plane o.in' o'.in' k.0 k'.0 (at' ∙ sym at) b (subst (λ w. IsAdjacent g w d e false false) (sym at) n))
turn_keeps g v d e p q plane o o' (on (on_right x y b) none) =
    let k = kind_two (left_of d.low d.high) p x in
    let k' = kind_two (left_of e.low e.high) q y in
    let at : d.low ≡ v = subst (λ f. start d f ≡ v) k.1 o.at in
    let at' : e.low ≡ v = subst (λ f. start e f ≡ v) k'.1 o'.at in
    let n : IsAdjacent g v d e true true = subst (λ f. IsAdjacent g v d e f true) k.1 (subst (λ f. IsAdjacent g v d e p f) k'.1 none) in
    cells_right g d e p q _ _ k.0 k'.0 k.1 k'.1 (pair_right g d e plane o.in' o'.in' k.0 k'.0 (at' ∙ sym at) b (subst (λ w. IsAdjacent g w d e true true) (sym at) n))
turn_keeps g v d e p q plane o o' (round last first) =
    let in' = is_vertex g v d p plane o in
    let a = leaves g v d p plane o (λ c r k s x. last c r k x) in
    let b = enters g v e q plane o' (λ c r k s x. first c r k x) in
    let few = kind_few (left_of d.low d.high) p in
    let few' = kind_few (left_of e.low e.high) q in
    let m = between_kinds g v (suc (class d p)) 4 plane in' (omega arith) (omega arith) (λ j x y c r k s. last c r k (by_class (omega arith))) in
    let n = between_kinds g v 0 (class e q) plane in' (omega arith) (omega arith) (λ j x y c r k s. first c r k (by_class (omega arith))) in
    face_trans g _ _ _ a (face_trans g _ _ _ m (face_trans g _ _ _ n b))
