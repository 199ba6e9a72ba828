-- From one end of an edge to the other, and round its upper end.
use Rattle.std.proofs.Common.{◌≡◌, ℕ, ◌+◌, ◌<◌, ◌≤◌, Bool, true, false, cond, arith, refl, sym, ap, ◌∙◌, ◌⊎◌, inl, inr, List, [], ◌∷◌, subst, zero, suc}
use Rattle.std.specs.Prelude.{ℤ, pos, ◌+ℤ◌, ◌-ℤ◌, ◌*ℤ◌, ◌<ℤ◌, not, ◌&&◌}
use Rattle.std.specs.List.{count_by, Contains}
use Rattle.std.proofs.lemmas.Int.{ints}
use Rattle.std.proofs.lemmas.Bool.{false≢true, and_parts, and_from, or_left, not-true, false_from_ne_true, cases_Bool}
use Rattle.std.proofs.lemmas.List.Elements.{Contains-append_left, Contains-append_right, Contains-append_cases, Contains-push_cases, Contains-push}
use lib.Signed.{lt_z}
use Rattle.exact_plane.specs.Point.{Point}
use Rattle.plane_graphs.specs.Graph.{Edge}
use Rattle.slab_laws.specs.Skeleton.{Skeleton, HasWeight, left_of, lower_than, run, side, steep, shift, foot, over, IsPlaneSkeleton}
use Rattle.slab_laws.specs.Meets.{IsOnWall, SameFace, here, right, left}
use Rattle.slab_laws.specs.Slabs.{place, slab_left, slab_right, reaches_left, forward_cell, backward_cell}
use Rattle.slab_laws.specs.declared.slab_cell.SlabCell.{SlabCell}
use Rattle.slab_faces.proofs.Ints.{dif, as_dif, dif_add, dif_sub, dif_mul, dif_same, dif_zero, pos_dif, lt_z-scale}
use Rattle.slab_faces.proofs.OverUnder.{zero_not_over}
use Rattle.slab_faces.proofs.Sums.{fewer}
use Rattle.slab_faces.proofs.Walls.{left_of-irrefl, left_of-asym, left_of-before, run_positive, side-upper, over-upper}
use Rattle.slab_faces.proofs.Cells.{not_right_trans, left_few, right_few, right_many}
use Rattle.slab_faces.proofs.Slabs.{IsThrough, no_order}
use Rattle.slab_faces.proofs.Along.{IsOn, along_above, side_below}
use Rattle.slab_faces.proofs.Beneath.{along_below}
use Rattle.integers.proofs.Signs.{mul_pos'}

-- ---- one face, both ways
pub face_trans : (g : Skeleton) (b c d : SlabCell) → SameFace g b c → SameFace g c d → SameFace g b d
face_trans g b c d h (here c') = h
face_trans g b c d h (right c' x d' k m) = right b x d' (face_trans g b c' x h k) m
face_trans g b c d h (left c' x d' k m) = left b x d' (face_trans g b c' x h k) m

pub face_at : (g : Skeleton) (c d : SlabCell) → c ≡ d → SameFace g c d
face_at g c d q = subst (SameFace g c) q (here c)

pub face_sym : (g : Skeleton) (b c : SlabCell) → SameFace g b c → SameFace g c b
face_sym g b c (here c') = here c'
face_sym g b c (right b' x c' k m) = face_trans g c' x b' (left c' c' x (here c') m) (face_sym g b' x k)
face_sym g b c (left b' x c' k m) = face_trans g c' x b' (right c' c' x (here c') m) (face_sym g b' x k)

-- ---- the point of an edge's line on a wall
pub foot_before : (e : Edge) (t v : Point) → pos 0 <ℤ run e → left_of v (foot e t) ≡ left_of v t
unfolding left_of foot
foot_before e t v R =
    let a = turn v.x (run e) t.w in
    let b = turn' (run e) t.x v.w in
    ap (λ x. lt_z x ((run e *ℤ t.x) *ℤ v.w)) a ∙ ap (λ y. lt_z (run e *ℤ (v.x *ℤ t.w)) y) b ∙ lt_z-scale (run e) (v.x *ℤ t.w) (t.x *ℤ v.w) R
  where
    turn : (a k b : ℤ) → a *ℤ (k *ℤ b) ≡ k *ℤ (a *ℤ b)
    turn a b c = rw (as_dif a, as_dif b, as_dif c) (simp (dif_add, dif_sub, dif_mul) (dif_same _ _ _ _ (omega arith)))

    turn' : (k a b : ℤ) → (k *ℤ a) *ℤ b ≡ k *ℤ (a *ℤ b)
    turn' a b c = rw (as_dif a, as_dif b, as_dif c) (simp (dif_add, dif_sub, dif_mul) (dif_same _ _ _ _ (omega arith)))

pub foot_after : (e : Edge) (t v : Point) → pos 0 <ℤ run e → left_of (foot e t) v ≡ left_of t v
unfolding left_of foot
foot_after e t v R =
    let a = turn v.x (run e) t.w in
    let b = turn' (run e) t.x v.w in
    ap (λ x. lt_z x (v.x *ℤ (run e *ℤ t.w))) b ∙ ap (λ y. lt_z (run e *ℤ (t.x *ℤ v.w)) y) a ∙ lt_z-scale (run e) (t.x *ℤ v.w) (v.x *ℤ t.w) R
  where
    turn : (a k b : ℤ) → a *ℤ (k *ℤ b) ≡ k *ℤ (a *ℤ b)
    turn a b c = rw (as_dif a, as_dif b, as_dif c) (simp (dif_add, dif_sub, dif_mul) (dif_same _ _ _ _ (omega arith)))

    turn' : (k a b : ℤ) → (k *ℤ a) *ℤ b ≡ k *ℤ (a *ℤ b)
    turn' a b c = rw (as_dif a, as_dif b, as_dif c) (simp (dif_add, dif_sub, dif_mul) (dif_same _ _ _ _ (omega arith)))

pub foot_on : (e : Edge) (t : Point) → side e (foot e t) ≡ pos 0
unfolding side foot run steep shift
foot_on e t = vanish (steep e) (run e) (shift e) t.x t.w
  where
    zero_sub : (a : ℤ) → pos 0 -ℤ a ≡ dif 0 0 -ℤ a
    zero_sub a = ap (λ z. z -ℤ a) (pos_dif 0)

    vanish : (a b c x w : ℤ) → a *ℤ (b *ℤ x) +ℤ b *ℤ (pos 0 -ℤ (a *ℤ x +ℤ c *ℤ w)) +ℤ c *ℤ (b *ℤ w) ≡ pos 0
    vanish a b c x w = rw (zero_sub (a *ℤ x +ℤ c *ℤ w)) (rw (as_dif a, as_dif b, as_dif c, as_dif x, as_dif w) (simp (dif_add, dif_sub, dif_mul) (dif_zero _ _ (omega arith))))

pub foot_is_on : (g : Skeleton) (e : Edge) (t : Point) → IsPlaneSkeleton g → IsOnWall g t → Contains g.edges e → IsThrough e t → IsOn g e (foot e t)
foot_is_on g e t plane wall E th =
    let q = plane.proper_edge e E in
    let R = run_positive e (left_of-before e.low t e.high q.0 wall.proper q.1 th.from (left_of-asym _ _ th.to)) in
    record {
      plane = plane;
      wall = record {
        proper = foot_proper e t R wall.proper;
        vertex = wall.vertex;
        is_vertex = wall.is_vertex;
        same = rw (foot_before e t wall.vertex R, foot_after e t wall.vertex R) wall.same;
      };
      E = E;
      on = foot_on e t;
      through = record { from = foot_before e t e.low R ∙ th.from; to = foot_after e t e.high R ∙ th.to };
    }
  where
    foot_proper : (e : Edge) (t : Point) → pos 0 <ℤ run e → HasWeight t → HasWeight (foot e t)
    foot_proper e t R T = unfold foot in mul_pos' (run e) t.w R T

-- at each wall that the edge passes
pub over_wall : (g : Skeleton) (e : Edge) (t : Point) → IsPlaneSkeleton g → IsOnWall g t → Contains g.edges e → IsThrough e t → SameFace g (record { slab = slab_left g t; place = place g (slab_left g t) e + 1 }) (record { slab = slab_right g t; place = place g (slab_right g t) e + 1 })
over_wall g e t plane wall E th =
    let o = foot_is_on g e t plane wall E th in
    let q = plane.proper_edge e E in
    let R = run_positive e (left_of-before e.low t e.high q.0 wall.proper q.1 th.from (left_of-asym _ _ th.to)) in
    let sl : slab_left g (foot e t) ≡ slab_left g t = λ i. count_by (λ v. foot_before e t v R i) g.vertices in
    let sr : slab_right g (foot e t) ≡ slab_right g t = λ i. count_by (λ v. not (foot_after e t v R i)) g.vertices in
    let P : ℕ → ℕ → Type 0 = λ x y. SameFace g (record { slab = x; place = place g x e + 1 }) (record { slab = y; place = place g y e + 1 }) in
    let a : P (slab_left g (foot e t)) (slab_right g (foot e t)) = along_above g e (foot e t) o in
    subst (λ x. P x (slab_right g t)) sl (subst (λ y. P (slab_left g (foot e t)) y) sr a)

pub under_wall : (g : Skeleton) (e : Edge) (t : Point) → IsPlaneSkeleton g → IsOnWall g t → Contains g.edges e → IsThrough e t → SameFace g (record { slab = slab_left g t; place = place g (slab_left g t) e }) (record { slab = slab_right g t; place = place g (slab_right g t) e })
under_wall g e t plane wall E th =
    let o = foot_is_on g e t plane wall E th in
    let q = plane.proper_edge e E in
    let R = run_positive e (left_of-before e.low t e.high q.0 wall.proper q.1 th.from (left_of-asym _ _ th.to)) in
    let sl : slab_left g (foot e t) ≡ slab_left g t = λ i. count_by (λ v. foot_before e t v R i) g.vertices in
    let sr : slab_right g (foot e t) ≡ slab_right g t = λ i. count_by (λ v. not (foot_after e t v R i)) g.vertices in
    let P : ℕ → ℕ → Type 0 = λ x y. SameFace g (record { slab = x; place = place g x e }) (record { slab = y; place = place g y e }) in
    let a : P (slab_left g (foot e t)) (slab_right g (foot e t)) = along_below g e (foot e t) o in
    subst (λ x. P x (slab_right g t)) sl (subst (λ y. P (slab_left g (foot e t)) y) sr a)

-- ---- from slab to slab
pub member_cases : {X : Type 0} (x : X) (xs : List X) (y : X) → Contains (x ∷ xs) y → (x ≡ y) ⊎ Contains xs y
member_cases x xs y h =
    elim (Contains-append_cases (x ∷ []) xs y h) [
      | inl k ↦ elim (Contains-push_cases [] x y k) [ inl n ↦ absurd (omega (arith, n.1)) | inr e ↦ inl e ]
      | inr k ↦ inr k
    ]

-- of the vertices to the left of t, one that has no other to its right
pub greatest : (t : Point) (vs : List Point) → ((v : Point) → Contains vs v → HasWeight v) → ((v : Point) → Contains vs v → left_of v t ≡ false) ⊎ ((w : Point) × Contains vs w × (left_of w t ≡ true) × ((v : Point) → Contains vs v → left_of v t ≡ true → left_of w v ≡ false))
greatest t [] P = inl (λ v h. absurd (omega (arith, h.1)))
greatest t (x ∷ xs) P =
    elim (greatest t xs (λ v h. P v (Contains-append_right (x ∷ []) xs v h))) [
      | inl none ↦ elim (cases_Bool (left_of x t)) [
        | inl a ↦ inr (
          x,
          Contains-append_left (x ∷ []) xs x (Contains-push [] x),
          a,
          λ v h k.
              elim (member_cases x xs v h) [
                | inl e ↦ subst (λ z. left_of x z ≡ false) e (left_of-irrefl x)
                | inr i ↦ absurd (false≢true (sym (none v i) ∙ k))
              ],
        )
        | inr a ↦ inl (λ v h. elim (member_cases x xs v h) [ inl e ↦ subst (λ z. left_of z t ≡ false) e a | inr i ↦ none v i ])
      ]
      | inr best ↦
          let X = P x (Contains-append_left (x ∷ []) xs x (Contains-push [] x)) in
          let W = P best.0 (Contains-append_right (x ∷ []) xs best.0 best.1) in
          elim (cases_Bool (left_of x t && left_of best.0 x)) [
            | inl a ↦
                let b = and_parts (left_of x t) (left_of best.0 x) a in
                inr (
                  x,
                  Contains-append_left (x ∷ []) xs x (Contains-push [] x),
                  b.0,
                  λ v h k.
                      elim (member_cases x xs v h) [
                        | inl e ↦ subst (λ z. left_of x z ≡ false) e (left_of-irrefl x)
                        | inr i ↦ not_right_trans v best.0 x (P v h) W X (best.3 v i k) (left_of-asym best.0 x b.1)
                      ],
                )
            | inr a ↦ inr (
              best.0,
              Contains-append_right (x ∷ []) xs best.0 best.1,
              best.2,
              λ v h k.
                  elim (member_cases x xs v h) [
                    | inl e ↦ subst (λ z. left_of best.0 z ≡ false) e (false_from_ne_true _ (λ n. false≢true (sym a ∙ and_from _ _ (subst (λ z. left_of z t ≡ true) (sym e) k) n)))
                    | inr i ↦ best.3 v i k
                  ],
            )
          ]
    ]

-- the slab on the left of a wall is that on the right of the wall before it
pub record IsBefore (g : Skeleton) (w t : Point) : Type 0 where
  pub is_vertex : Contains g.vertices w
  pub earlier : left_of w t ≡ true
  pub next : slab_left g t ≡ slab_right g w

pub le_antisym : (a b : ℕ) → a ≤ b → b ≤ a → a ≡ b
le_antisym a b h k = omega arith

pub wall_before : (g : Skeleton) (p t : Point) → IsPlaneSkeleton g → HasWeight t → Contains g.vertices p → left_of p t ≡ true → (w : Point) × IsBefore g w t × (left_of w p ≡ false)
wall_before g p t plane T in' h =
    elim (greatest t g.vertices plane.proper) [
      | inl none ↦ absurd (false≢true (sym (none p in') ∙ h))
      | inr best ↦
          let W = plane.proper best.0 best.1 in (
            best.0,
            record {
              is_vertex = best.1;
              earlier = best.2;
              next = le_antisym _ _
                  (fewer (λ v. left_of v t) (λ v. not (left_of best.0 v)) g.vertices (λ v i k. ap not (best.3 v i k)))
                  (left_few g best.0 t plane W T best.2);
            },
            best.3 p in' h,
          )
    ]

pub on_own_wall : (g : Skeleton) (v : Point) → IsPlaneSkeleton g → Contains g.vertices v → IsOnWall g v
on_own_wall g v plane in' = record { proper = plane.proper v in'; vertex = v; is_vertex = in'; same = rw (left_of-irrefl v) refl }

-- a cell beside e in the slab on the right of each wall, as far as e goes
abbrev pub above_e : (g : Skeleton) (e : Edge) → ℕ → SlabCell
above_e g e i = record { slab = i; place = place g i e + 1 }

abbrev pub below_e : (g : Skeleton) (e : Edge) → ℕ → SlabCell
below_e g e i = record { slab = i; place = place g i e }

-- any family of cells that goes on over each wall goes from e's first slab to each
abbrev pub IsGoingOn : (g : Skeleton) (e : Edge) (C : ℕ → SlabCell) → Type 0
IsGoingOn g e C = (t : Point) → IsOnWall g t → IsThrough e t → SameFace g (C (slab_left g t)) (C (slab_right g t))

chain_step : (g : Skeleton) (e : Edge) (C : ℕ → SlabCell) → IsPlaneSkeleton g → Contains g.edges e → IsGoingOn g e C → (w : Point) → Contains g.vertices w → left_of w e.low ≡ false → left_of w e.high ≡ true → ((x : Point) → Contains g.vertices x → left_of x e.low ≡ false → left_of x e.high ≡ true → slab_right g x < slab_right g w → SameFace g (C (slab_right g e.low)) (C (slab_right g x))) → SameFace g (C (slab_right g e.low)) (C (slab_right g w))
chain_step g e C plane E on w in' a b before =
    elim (cases_Bool (left_of e.low w)) [
      | inl h ↦
          let W = plane.proper w in' in
          let r = wall_before g e.low w plane W (plane.lower_in e E) h in
          let k = r.1 in
          let less = right_many g w r.0 plane in' (plane.proper r.0 k.is_vertex) k.earlier in
          let b' = left_of-before r.0 w e.high (plane.proper r.0 k.is_vertex) W (plane.proper_edge e E).1 k.earlier (left_of-asym _ _ b) in
          let s = on w (on_own_wall g w plane in') (record { from = h; to = b }) in
          face_trans g _ _ _ (subst (λ i. SameFace g (C (slab_right g e.low)) (C i)) (sym k.next) (before r.0 k.is_vertex r.2 b' less)) s
      | inr h ↦
          let p = plane.lower_in e E in
          let e' : slab_right g e.low ≡ slab_right g w = le_antisym _ _ (right_few g e.low w plane (plane.proper _ p) (plane.proper w in') a) (right_few g w e.low plane (plane.proper w in') (plane.proper _ p) h) in
          subst (λ i. SameFace g (C (slab_right g e.low)) (C i)) e' (here _)
    ]

pub chain : (g : Skeleton) (e : Edge) (C : ℕ → SlabCell) → IsPlaneSkeleton g → Contains g.edges e → IsGoingOn g e C → (n : ℕ) (w : Point) → Contains g.vertices w → left_of w e.low ≡ false → left_of w e.high ≡ true → slab_right g w ≤ n → SameFace g (C (slab_right g e.low)) (C (slab_right g w))
chain g e C plane E on zero w in' a b s = chain_step g e C plane E on w in' a b (λ x i c d l. absurd (omega arith))
chain g e C plane E on (suc m) w in' a b s = chain_step g e C plane E on w in' a b (λ x i c d l. chain g e C plane E on m x i c d (omega arith))

-- and so to e's last slab
to_last : (g : Skeleton) (e : Edge) (C : ℕ → SlabCell) → IsPlaneSkeleton g → Contains g.edges e → IsGoingOn g e C → left_of e.low e.high ≡ true → SameFace g (C (slab_right g e.low)) (C (slab_left g e.high))
to_last g e C plane E on h =
    let r = wall_before g e.low e.high plane (plane.proper_edge e E).1 (plane.lower_in e E) h in
    let k = r.1 in
    subst (λ i. SameFace g (C (slab_right g e.low)) (C i)) (sym k.next) (chain g e C plane E on (slab_right g r.0) r.0 k.is_vertex r.2 k.earlier (omega arith))

pub above_to_last : (g : Skeleton) (e : Edge) → IsPlaneSkeleton g → Contains g.edges e → left_of e.low e.high ≡ true → SameFace g (forward_cell g e) (record { slab = slab_left g e.high; place = place g (slab_left g e.high) e + 1 })
above_to_last g e plane E h = to_last g e (above_e g e) plane E (λ t wall th. over_wall g e t plane wall E th) h

pub below_to_last : (g : Skeleton) (e : Edge) → IsPlaneSkeleton g → Contains g.edges e → left_of e.low e.high ≡ true → SameFace g (backward_cell g e) (record { slab = slab_left g e.high; place = place g (slab_left g e.high) e })
below_to_last g e plane E h = to_last g e (below_e g e) plane E (λ t wall th. under_wall g e t plane wall E th) h

-- ---- round an edge's upper end, to the edge above it on the left
level_back : (f : Edge) (v : Point) → HasWeight v → HasWeight f.high → pos 0 <ℤ run f → left_of f.high v ≡ false → left_of v f.high ≡ false → side f v ≡ pos 0 → lower_than f.high v ≡ false
level_back f v V U R a b z = false_from_ne_true _ (λ h.
    let k = side_below f v f.high V R z a b h in
    let s = side-upper f in
    absurd (omega (arith, ints)))

pub one_more : (s b c q : Bool) → (q ≡ true → (s ≡ true) × (b ≡ true) × (c ≡ false)) → (s ≡ true → q ≡ false → b ≡ c) → cond {A = ℕ} (s && b) 1 0 ≡ cond (s && c) 1 0 + cond q 1 0
one_more s b c true h k = let a = h refl in rw (a.0, a.1, a.2) refl
one_more true b c false h k = rw (k refl refl) (plus_none c)
  where
    plus_none : (b : Bool) → cond {A = ℕ} b 1 0 ≡ cond b 1 0 + 0
    plus_none true = refl
    plus_none false = refl
one_more false b c false h k = refl

-- an edge that passes between two others that end at v, at the height of v, ends there too
pub level_at : (g : Skeleton) (f : Edge) (v : Point) → IsPlaneSkeleton g → Contains g.edges f → Contains g.vertices v → reaches_left f v ≡ true → side f v ≡ pos 0 → f.high ≡ v
level_at g f v plane F in' r z =
    let a = and_parts (left_of f.low v) (not (left_of f.high v)) r in
    let a' = not-true _ a.1 in
    let V = plane.proper v in' in
    let p = plane.proper_edge f F in
    let long = left_of-before f.low v f.high p.0 V p.1 a.0 a' in
    let line : (not (lt_z (side f v) (pos 0)) && not (lt_z (pos 0) (side f v))) ≡ true = rw z refl in
    let b : left_of v f.high ≡ false = false_from_ne_true _ (λ h. false≢true (sym (plane.clear f v F in') ∙ and_from _ _ (and_from _ _ (or_left _ _ a.0) (or_left _ _ h)) line)) in
    let c = over-upper f v p.1 long a' b in
    let n : over f v ≡ false = zero_not_over f v z in
    let d : lower_than v f.high ≡ false = sym c ∙ n in
    -- and f's end isn't lower than v, by the same at the other height
    let k : lower_than f.high v ≡ false = level_back f v V p.1 (run_positive f long) a' b z in
    plane.distinct f.high v (plane.upper_in f F) in' (no_order f.high v a' b k) (no_order v f.high b a' d)

-- ---- an edge of odd weight parts two faces
