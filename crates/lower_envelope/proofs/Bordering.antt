-- A vertex of an envelope is on a boundary of the unbounded face: a dart goes out of it that has this face on its left.
use Rattle.std.proofs.Common.{◌≡◌, ℕ, ◌+◌, ◌-◌, ◌<◌, ◌≤◌, Bool, true, false, cond, arith, refl, sym, ap, subst, ◌∙◌, ◌⊎◌, inl, inr, List, [], ◌∷◌}
use Rattle.std.specs.Prelude.{not, ◌&&◌, ◌||◌}
use Rattle.std.specs.List.{Contains}
use Rattle.std.proofs.lemmas.Int.{ints}
use Rattle.std.proofs.lemmas.Bool.{false≢true, and_parts, and_from, or_cases, not-true, cases_Bool, cases_lt, false_from_ne_true, le-leb, leb-true}
use lib.Dec.{leb}
use Rattle.exact_plane.specs.Point.{Point}
use Rattle.plane_graphs.specs.Graph.{Edge}
use Rattle.slab_laws.specs.Skeleton.{Skeleton, IsPlaneSkeleton, left_of, over, under, on_wall, same_point}
use Rattle.slab_laws.specs.Slabs.{slab_left, slab_right, reaches_left, spans, left_below, left_count, width, top_cell}
use Rattle.slab_laws.specs.Darts.{Dart, darts, source, start, class, Earlier, by_class, IsOut}
use Rattle.slab_laws.specs.Rotation.{earlier, turn, OutOf}
use Rattle.slab_laws.specs.Cycles.{left_of_dart}
use Rattle.slab_laws.specs.Faces.{passes}
use Rattle.slab_laws.specs.Meets.{SameFace, here}
use Rattle.slab_laws.specs.Subdivision.{has_dart, first_cell}
use Rattle.slab_faces.proofs.Member.{Member, member_in, in_member, none_passes}
use Rattle.slab_faces.proofs.Sums.{each, sum_by-same}
use Rattle.slab_faces.proofs.Walls.{left_of-before, run_positive, side-upper}
use Rattle.slab_faces.proofs.Cells.{spans_left}
use Rattle.slab_faces.proofs.Parity.{same_point_is, same_point_refl}
use Rattle.slab_faces.proofs.Turns.{face_trans, on_own_wall, greatest, wall_before}
use Rattle.slab_faces.proofs.Outside.{unbounded}
use Rattle.slab_faces.proofs.EveryFace.{none_counted, first_width}
use Rattle.slab_faces.proofs.Next.{corner, walk, enters, kind_few}
use Rattle.slab_faces.proofs.NextLemmas.{dart_in, dart_out}
use Rattle.slab_faces.proofs.RotationLemmas.{earlier_in, round_at}
use Rattle.edge_predicates.proofs.FaceBelow.{bottom_all}
use Rattle.envelope_laws.specs.declared.which.Which.{Which}
use Rattle.envelope_laws.specs.declared.which.Which.TheVariants.{Lower, Upper}
use Rattle.envelope_laws.specs.Envelopes.{vertex_beyond, edge_beyond, is_extreme}
use Rattle.envelope_laws.proofs.Outward.{turned_zero, edge_out, past_line, level_line}
use Rattle.envelope_laws.proofs.Searching.{any_out}
use Rattle.envelope_laws.proofs.Steps.{high_held, extreme_out}

-- ---- the first of those that pass
pub record IsFirstOf {X : Type 0} (p : X → Bool) (less : X → X → Bool) (xs : List X) (x : X) : Type 0 where
  pub in' : Member xs x
  pub passes : p x ≡ true
  pub first : (y : X) → Member xs y → p y ≡ true → less y x ≡ false

module _ {X : Type 0} (p : X → Bool) (less : X → X → Bool) where
  first_of : (xs : List X) → ((x : X) → Member xs x → p x ≡ true → less x x ≡ false) → ((x y z : X) → Member xs x → Member xs y → Member xs z → p x ≡ true → p y ≡ true → p z ≡ true → less x y ≡ true → less y z ≡ true → less x z ≡ true) → ((x : X) → Member xs x → p x ≡ false) ⊎ ((x : X) × IsFirstOf p less xs x)
  first_of [] r t = inl (λ x h. absurd h)
  first_of (x ∷ xs) r t =
      let ih = first_of xs (λ y m. r y (inr m)) (λ a b c i j k. t a b c (inr i) (inr j) (inr k)) in
      elim (cases_Bool (p x)) [
        | inl a ↦ elim ih [
          | inl none ↦ inr (
            x,
            record {
              in' = inl refl;
              passes = a;
              first = λ y h k. elim h [ inl e ↦ subst (λ z. less z x ≡ false) e (r x (inl refl) a) | inr m ↦ absurd (false≢true (sym (none y m) ∙ k)) ];
            },
          )
          | inr b ↦ elim (cases_Bool (less x b.0)) [
            | inl c ↦ inr (
              x,
              record {
                in' = inl refl;
                passes = a;
                first = λ y h k. elim h [
                  | inl e ↦ subst (λ z. less z x ≡ false) e (r x (inl refl) a)
                  | inr m ↦ false_from_ne_true _ (λ n. false≢true (sym (b.1.first y m k) ∙ t y x b.0 (inr m) (inl refl) (inr b.1.in') k a b.1.passes n c))
                ];
              },
            )
            | inr c ↦ inr (
              b.0,
              record {
                in' = inr b.1.in';
                passes = b.1.passes;
                first = λ y h k. elim h [ inl e ↦ subst (λ z. less z b.0 ≡ false) e c | inr m ↦ b.1.first y m k ];
              },
            )
          ]
        ]
        | inr a ↦ elim ih [
          | inl none ↦ inl (λ y h. elim h [ inl e ↦ subst (λ z. p z ≡ false) e a | inr m ↦ none y m ])
          | inr b ↦ inr (
            b.0,
            record {
              in' = inr b.1.in';
              passes = b.1.passes;
              first = λ y h k. elim h [ inl e ↦ absurd (false≢true (sym a ∙ subst (λ z. p z ≡ true) (sym e) k)) | inr m ↦ b.1.first y m k ];
            },
          )
        ]
      ]

module _ (g : Skeleton) (v : Point) (plane : IsPlaneSkeleton g) (V : Contains g.vertices v) where
  -- ---- clockwise from a corner of v on
  -- a dart out of v, of a class that isn't before the corner
  leaves_in : (k : ℕ) (c : Edge) (r : Bool) → IsOut g v c r → k ≤ class c r → Member (darts g) (record { edge = c; forward = r }) × ((same_point (start c r) v && leb k (class c r)) ≡ true)
  leaves_in k c r o l = (dart_in g c r o.in', and_from _ _ (subst (λ q. same_point q v ≡ true) (sym o.at) (same_point_refl v)) (le-leb k (class c r) l))

  leaves_out : (k : ℕ) (d : Dart) → Member (darts g) d → (same_point (source d) v && leb k (turn d)) ≡ true → OutOf g v d × (k ≤ turn d)
  leaves_out k d m h =
      let a = and_parts (same_point (source d) v) (leb k (turn d)) h in
      (record { in' = dart_out g d m; at = same_point_is (source d) v a.0 }, leb-true k (turn d) a.1)

  -- the first dart that is met has the corner's face on its left, unless all darts come before the corner
  entered : (k : ℕ) → ((c : Edge) (r : Bool) → IsOut g v c r → class c r < k) ⊎ ((d : Dart) × OutOf g v d × SameFace g (corner g v k) (left_of_dart g d))
  entered k =
      let R = round_at g v plane V in
      let p : Dart → Bool = λ d. same_point (source d) v && leb k (turn d) in
      elim (first_of p earlier (darts g)
      (λ x m t. false_from_ne_true _ (λ h. R.itself x (leaves_out k x m t).0 h))
      (λ x y z a b c i j l. R.on x y z (leaves_out k x a i).0 (leaves_out k y b j).0 (leaves_out k z c l).0)) [
        | inl none ↦ inl (λ c r o. elim (cases_lt (class c r) k) [
          | inl l ↦ l
          | inr l ↦ (let m = leaves_in k c r o l in absurd (false≢true (sym (none (record { edge = c; forward = r }) m.0) ∙ m.1)))
        ])
        | inr b ↦
            let d = b.0 in
            let D = leaves_out k d b.1.in' b.1.passes in
            let few = kind_few (left_of d.edge.low d.edge.high) d.forward in
            let at_least = D.1 in
            let later : (c : Edge) (r : Bool) → IsOut g v c r → k ≤ class c r → Earlier c d.edge r d.forward → ⊥ = λ c r o l h.
            let m = leaves_in k c r o l in
            let e : Dart = record { edge = c; forward = r } in
            false≢true (sym (b.1.first e m.0 m.1) ∙ earlier_in e d h) in
            let q : k + (turn d - k) ≡ turn d = omega (arith, at_least) in
            let a = walk g v k (turn d - k) plane V (omega (arith, few, at_least)) (λ j x y c r o s. later c r o (omega (arith, x, s)) (by_class (omega (arith, x, y, s, at_least)))) in
            let s = enters g v d.edge d.forward plane D.0 (λ c r o s h. later c r o (omega (arith, s, at_least)) h) in
            inr (d, D.0, face_trans g _ _ _ (subst (λ j. SameFace g (corner g v k) (corner g v j)) q a) s)
      ]

  some_dart : has_dart g v ≡ true → (e : Edge) × (f : Bool) × IsOut g v e f
  unfolding has_dart
  some_dart h =
      let a = any_out (λ e. same_point e.low v || same_point e.high v) g.edges h in
      let E = member_in g.edges a.0 a.1 in
      elim (or_cases (same_point a.0.low v) (same_point a.0.high v) a.2) [
        | inl k ↦ (a.0, true, record { in' = E; at = same_point_is a.0.low v k })
        | inr k ↦ (a.0, false, record { in' = E; at = same_point_is a.0.high v k })
      ]

  -- ---- the lowest and the topmost cell on the left of v's wall
  lowest_left : SameFace g first_cell (record { slab = slab_left g v; place = 0 })
  lowest_left =
      elim (greatest v g.vertices plane.proper) [
        | inl none ↦ subst (λ n. SameFace g first_cell (record { slab = n; place = 0 })) (sym (none_counted (λ u. left_of u v) g.vertices none)) (here first_cell)
        | inr best ↦
            let r = wall_before g best.0 v plane (plane.proper v V) best.1 best.2 in
            subst (λ n. SameFace g first_cell (record { slab = n; place = 0 })) (sym r.1.next) (bottom_all g (slab_right g r.0) r.0 plane r.1.is_vertex (omega arith))
      ]

  topmost_left : SameFace g first_cell (record { slab = slab_left g v; place = width g (slab_left g v) })
  unfolding top_cell
  topmost_left =
      elim (greatest v g.vertices plane.proper) [
        | inl none ↦
            subst (λ n. SameFace g first_cell (record { slab = n; place = width g n })) (sym (none_counted (λ u. left_of u v) g.vertices none))
            (subst (λ n. SameFace g first_cell (record { slab = 0; place = n })) (sym (first_width g plane)) (here first_cell))
        | inr best ↦
            let r = wall_before g best.0 v plane (plane.proper v V) best.1 best.2 in
            let i = slab_right g r.0 in
            subst (λ n. SameFace g first_cell (record { slab = n; place = width g n })) (sym r.1.next)
            (subst (λ n. SameFace g (record { slab = 0; place = n }) (record { slab = i; place = width g i })) (first_width g plane) (unbounded g r.0 plane r.1.is_vertex))
      ]

  -- ---- a vertex of the envelope
  module _ (w : Which) (x : is_extreme w g v ≡ true) where
    -- no edge that reaches its wall from the left passes or ends further out
    none_left : (f : Edge) → Contains g.edges f → reaches_left f v ≡ true → edge_beyond w f v ≡ false
    none_left f F r = false_from_ne_true _ (λ b.
        let X = extreme_out w g v x in
        let a = and_parts (left_of f.low v) (not (left_of f.high v)) r in
        let a' = not-true _ a.1 in
        let p = plane.proper_edge f F in
        let W = plane.proper v V in
        let R = run_positive f (left_of-before f.low v f.high p.0 W p.1 a.0 a') in
        let z = side-upper f in
        let o = edge_out w f v b in
        elim (cases_Bool (left_of v f.high)) [
          | inl k ↦ false≢true (sym (none_passes (λ e. passes v e && edge_beyond w e v) g.edges X.no_edge f (in_member g.edges f F)) ∙ and_from _ _ (and_from _ _ a.0 k) b)
          | inr k ↦ elim (cases_Bool (vertex_beyond w f.high v)) [
            | inl l ↦ false≢true (sym (none_passes (λ u. on_wall u v && (has_dart g u && vertex_beyond w u v)) g.vertices X.no_end f.high (in_member g.vertices f.high (plane.upper_in f F))) ∙ and_from _ _ (and_from _ _ (ap not a') (ap not k)) (and_from _ _ (high_held g f F) l))
            | inr l ↦ elim (cases_Bool (vertex_beyond w v f.high)) [
              | inl n ↦ (let s = past_line w f f.high v p.1 R z k a' n in absurd (omega (arith, ints)))
              | inr n ↦ (let s = turned_zero w _ (level_line w f f.high v p.1 z k a' l n) in absurd (omega (arith, ints)))
            ]
          ]
        ])

  -- so the cell on its left, below or above what ends there, is the lowest or the topmost
  lowest_there : is_extreme Lower g v ≡ true → left_below g v ≡ 0
  lowest_there x =
      none_counted (λ e. reaches_left e v && under e v) g.edges (λ e E. false_from_ne_true _ (λ k.
      let a = and_parts (reaches_left e v) (under e v) k in
      false≢true (sym (none_left Lower x e E a.0) ∙ a.1)))

  topmost_there : is_extreme Upper g v ≡ true → left_count g v ≡ width g (slab_left g v)
  unfolding width
  topmost_there x =
      sum_by-same (λ e. cond (reaches_left e v && not (over e v)) 1 0) (λ e. cond (spans g (slab_left g v) e) 1 0) g.edges (each (λ e. cond {A = ℕ} (reaches_left e v && not (over e v)) 1 0 ≡ cond (spans g (slab_left g v) e) 1 0) g.edges (λ e E.
      ap (λ b. cond b 1 0) (drop (reaches_left e v) (over e v) (λ h. none_left Upper x e E h) ∙ sym (spans_left g v e plane (on_own_wall g v plane V) E))))
    where
      drop : (r o : Bool) → (r ≡ true → o ≡ false) → (r && not o) ≡ r
      drop true o h = ap not (h refl)
      drop false o h = refl

  pub bordering : (w : Which) → is_extreme w g v ≡ true → (d : Dart) × OutOf g v d × SameFace g first_cell (left_of_dart g d)
  bordering Lower x =
      let s = subst (λ n. SameFace g first_cell (record { slab = slab_left g v; place = n })) (sym (lowest_there x)) lowest_left in
      elim (entered 0) [
        | inl none ↦ (let o = some_dart (extreme_out Lower g v x).is_end in let l = none o.0 o.1 o.2 in absurd (omega arith))
        | inr r ↦ (r.0, r.1, face_trans g _ _ _ s r.2)
      ]
  bordering Upper x =
      let s = subst (λ n. SameFace g first_cell (record { slab = slab_left g v; place = n })) (sym (topmost_there x)) topmost_left in
      elim (entered 1) [
        | inl few ↦ elim (entered 0) [
          | inl none ↦ (let o = some_dart (extreme_out Upper g v x).is_end in let l = none o.0 o.1 o.2 in absurd (omega arith))
          | inr r ↦
              let round = walk g v 1 3 plane V (omega arith) (λ j a b c r o q. let l = few c r o in absurd (omega (arith, a, q))) in
              (r.0, r.1, face_trans g _ _ _ s (face_trans g _ _ _ round r.2))
        ]
        | inr r ↦ (r.0, r.1, face_trans g _ _ _ s r.2)
      ]
