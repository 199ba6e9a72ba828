-- `next` is the first dart clockwise, keeps the face, and is one to one.
use Rattle.std.proofs.Common.{◌≡◌, map, Bool, true, false, cond, refl, sym, ap, subst, ◌∙◌, ◌⊎◌, inl, inr, List, [], ◌∷◌}
use Rattle.std.specs.Prelude.{not, ◌&&◌, filter}
use Rattle.std.specs.List.{Contains}
use Rattle.std.proofs.lemmas.Bool.{false≢true, and_parts, and_from}
use Rattle.slab_laws.specs.Darts.{ahead, back, start, IsOut, IsTurn, on, round, cell_of, Dart, source, target, darts}
use Rattle.exact_plane.specs.Point.{Point}
use Rattle.plane_graphs.specs.Graph.{Edge}
use Rattle.slab_laws.specs.Skeleton.{Skeleton, same_point, same_edge, IsPlaneSkeleton}
use Rattle.slab_laws.specs.Meets.{SameFace}
use Rattle.slab_faces.proofs.Slabs.{same_edge_is, same_edge_refl}
use Rattle.slab_faces.proofs.Next.{turn_keeps}
use Rattle.plane_graphs.specs.Ascending.{ascending}
use Rattle.slab_laws.specs.Rotation.{twin, same_way, same_dart, earlier, turn_cmp, ring, after_in, after, next, OutOf}
use Rattle.slab_faces.proofs.Member.{Member, member_in, in_member, filter_in, filter_out, map_in, map_out, append_left, append_right, append_cases}
use Rattle.slab_faces.proofs.ClassesLemmas.{IsExact}
use Rattle.slab_faces.proofs.RingLemmas.{IsRound, order, AllIn, Sorted, sorted_in, sorted_out, is_sorted, IsNext, IsLast, first_is, next_head, next_tail, last_tail, one_next, one_last}
use Rattle.slab_faces.proofs.RotationLemmas.{earlier_out, earlier_in, round_at}
use Rattle.slab_faces.proofs.Parity.{same_point_is, same_point_refl}
use Rattle.integers.proofs.Tests.{not_not}

-- ---- darts
dart_path : (d e : Dart) → d.edge ≡ e.edge → d.forward ≡ e.forward → d ≡ e
dart_path d e a b = λ i. record { edge = a i; forward = b i }

pub darts_exact : IsExact same_dart
unfolding same_dart
darts_exact = record { itself = itself; path = path }
  where
    way_itself : (b : Bool) → same_way b b ≡ true
    way_itself true = refl
    way_itself false = refl

    way_path : (b c : Bool) → same_way b c ≡ true → b ≡ c
    way_path true true h = refl
    way_path true false h = absurd (false≢true h)
    way_path false true h = absurd (false≢true h)
    way_path false false h = refl

    itself : (d : Dart) → (same_edge d.edge d.edge && same_way d.forward d.forward) ≡ true
    itself d = and_from _ _ (same_edge_refl d.edge) (way_itself d.forward)

    path : (d e : Dart) → (same_edge d.edge e.edge && same_way d.forward e.forward) ≡ true → d ≡ e
    path d e h = let p = and_parts (same_edge d.edge e.edge) _ h in dart_path d e (same_edge_is d.edge e.edge p.0) (way_path d.forward e.forward p.1)

pub dart_out : (g : Skeleton) (d : Dart) → Member (darts g) d → Contains g.edges d.edge
dart_out g d h =
    elim (append_cases (map ahead g.edges) (map back g.edges) d h) [
      | inl a ↦ (let r = map_out ahead g.edges d a in member_in g.edges d.edge (subst (Member g.edges) (ap (λ d. d.edge) r.2) r.1))
      | inr a ↦ (let r = map_out back g.edges d a in member_in g.edges d.edge (subst (Member g.edges) (ap (λ d. d.edge) r.2) r.1))
    ]

pub dart_in : (g : Skeleton) (e : Edge) (f : Bool) → Contains g.edges e → Member (darts g) (record { edge = e; forward = f })
dart_in g e true E = append_left (map ahead g.edges) (map back g.edges) _ (map_in ahead g.edges e (in_member g.edges e E))
dart_in g e false E = append_right (map ahead g.edges) (map back g.edges) _ (map_in back g.edges e (in_member g.edges e E))

-- ---- what follows in a sorted list
module _ (P : Dart → Type 0) (o : IsRound earlier P) where
  pub follows : (f d : Dart) (xs : List Dart) → AllIn earlier P o xs → Sorted earlier P o xs → Member xs d → IsNext earlier P o xs d (after_in f d xs) ⊎ ((after_in f d xs ≡ f) × IsLast earlier P o xs d)
  unfolding after_in
  follows f d [] q s h = absurd h
  follows f d (x ∷ []) q s h = inr (refl, λ c m a. o.itself d (q d h) (subst (λ w. earlier d w ≡ true) (one c m) a))
    where
      one : (c : Dart) → Member (x ∷ []) c → c ≡ d
      one c (inl e) = sym e ∙ of h
        where
          of : Member (x ∷ []) d → x ≡ d
          of (inl e) = e
          of (inr k) = absurd k
      one c (inr k) = absurd k
  follows f d (x ∷ y ∷ ys) q s h = step (same_dart d x) refl (follows f d (y ∷ ys) (λ z m. q z (inr m)) s.1)
    where
      Rest : Type 0
      Rest = Member (y ∷ ys) d → IsNext earlier P o (y ∷ ys) d (after_in f d (y ∷ ys)) ⊎ ((after_in f d (y ∷ ys) ≡ f) × IsLast earlier P o (y ∷ ys) d)

      Goal : Dart → Type 0
      Goal e = IsNext earlier P o (x ∷ y ∷ ys) d e ⊎ ((e ≡ f) × IsLast earlier P o (x ∷ y ∷ ys) d)

      step : (b : Bool) → same_dart d x ≡ b → Rest → Goal (cond b y (after_in f d (y ∷ ys)))
      step true e r = inl (next_head earlier P o d x y ys (q d h) q s (darts_exact.path d x e))
      step false e r =
          let m : Member (y ∷ ys) d = elim h [ inl u ↦ absurd (false≢true (sym e ∙ subst (λ w. same_dart w x ≡ true) u (darts_exact.itself x))) | inr k ↦ k ] in
          elim (r m) [
            | inl n ↦ inl (next_tail earlier P o d _ x (y ∷ ys) (q d h) q s m n)
            | inr l ↦ inr (l.0, last_tail earlier P o d x (y ∷ ys) (q d h) q s m l.1)
          ]

-- ---- the ring of a vertex
module _ (g : Skeleton) (v : Point) (plane : IsPlaneSkeleton g) (in' : Contains g.vertices v) where
  pub o : IsRound earlier (OutOf g v)
  o = round_at g v plane in'

  outs : List Dart
  outs = filter (λ d. same_point (source d) v) (darts g)

  out_all : AllIn earlier (OutOf g v) o outs
  unfolding outs
  out_all d h = let r = filter_out (λ d. same_point (source d) v) (darts g) d h in record { in' = dart_out g d r.0; at = same_point_is (source d) v r.1 }

  ring_is : ring (darts g) v ≡ ascending (order earlier (OutOf g v) o) outs
  unfolding ring turn_cmp outs
  ring_is = refl

  ring_all : AllIn earlier (OutOf g v) o (ring (darts g) v)
  ring_all d h = out_all d (sorted_out earlier (OutOf g v) o outs out_all d (subst (λ r. Member r d) ring_is h))

  pub ring_in : (e : Edge) (f : Bool) → IsOut g v e f → Member (ring (darts g) v) (record { edge = e; forward = f })
  unfolding outs
  ring_in e f h =
      subst (λ r. Member r (record { edge = e; forward = f })) (sym ring_is)
      (sorted_in earlier (OutOf g v) o outs out_all _ (filter_in (λ d. same_point (source d) v) (darts g) _ (dart_in g e f h.in') (subst (λ p. same_point (start e f) p ≡ true) h.at (same_point_refl (start e f)))))

  ring_sorted : Sorted earlier (OutOf g v) o (ring (darts g) v)
  ring_sorted = subst (Sorted earlier (OutOf g v) o) (sym ring_is) (is_sorted earlier (OutOf g v) o outs out_all)

  -- what follows a dart in the ring: the first later one, or the first of all where none is later
  pub data Follows (d e : Dart) : Type 0 where
    later : IsNext earlier (OutOf g v) o (ring (darts g) v) d e → Follows d e
    first : IsLast earlier (OutOf g v) o (ring (darts g) v) d → Member (ring (darts g) v) e → ((c : Dart) → Member (ring (darts g) v) c → earlier c e ≡ true → ⊥) → Follows d e

  go : (d : Dart) (xs : List Dart) → xs ≡ ring (darts g) v → Member xs d → Follows d (after d xs)
  unfolding after
  go d [] e m = absurd m
  go d (x ∷ xs) e m =
      let q : AllIn earlier (OutOf g v) o (x ∷ xs) = subst (AllIn earlier (OutOf g v) o) (sym e) ring_all in
      let s : Sorted earlier (OutOf g v) o (x ∷ xs) = subst (Sorted earlier (OutOf g v) o) (sym e) ring_sorted in
      elim (follows (OutOf g v) o x d (x ∷ xs) q s m) [
        | inl n ↦ later (subst (λ zs. IsNext earlier (OutOf g v) o zs d (after_in x d (x ∷ xs))) e n)
        | inr l ↦ subst (Follows d) (sym l.0) (first (subst (λ zs. IsLast earlier (OutOf g v) o zs d) e l.1) (subst (λ zs. Member zs x) e (inl refl)) (subst (λ zs. (c : Dart) → Member zs c → earlier c x ≡ true → ⊥) e (first_is earlier (OutOf g v) o x xs q s)))
      ]

  pub after_follows : (d : Dart) → Member (ring (darts g) v) d → Follows d (after d (ring (darts g) v))
  after_follows d h = go d (ring (darts g) v) refl h

  pub follower_in : (d e : Dart) → Follows d e → Member (ring (darts g) v) e
  follower_in d e (later n) = n.in'
  follower_in d e (first l m f) = m

  pub follower_out : (d e : Dart) → Follows d e → IsOut g v e.edge e.forward
  follower_out d e h = ring_all e (follower_in d e h)

  pub turn_of : (d e : Dart) → Follows d e → IsTurn g v d.edge e.edge d.forward e.forward
  turn_of d e (later n) = on (earlier_out d e n.later) (λ c r out k l. n.none (record { edge = c; forward = r }) (ring_in c r out) (earlier_in d (record { edge = c; forward = r }) k) (earlier_in (record { edge = c; forward = r }) e l))
  turn_of d e (first l m f) = round (λ c r out k. l (record { edge = c; forward = r }) (ring_in c r out) (earlier_in d (record { edge = c; forward = r }) k)) (λ c r out k. f (record { edge = c; forward = r }) (ring_in c r out) (earlier_in (record { edge = c; forward = r }) e k))

  -- two darts that one dart follows are one
  pub one_before : (d d' e : Dart) → Member (ring (darts g) v) d → Member (ring (darts g) v) d' → Follows d e → Follows d' e → d ≡ d'
  one_before d d' e m m' (later n) (later n') = one_next earlier (OutOf g v) o (ring (darts g) v) d d' e ring_all m m' n n'
  one_before d d' e m m' (later n) (first l k f) = absurd (f d m n.later)
  one_before d d' e m m' (first l k f) (later n) = absurd (f d' m' n.later)
  one_before d d' e m m' (first l k f) (first l' k' f') = one_last earlier (OutOf g v) o (ring (darts g) v) d d' ring_all m m' l l'

-- ---- next
pub start_in : (g : Skeleton) (e : Edge) (f : Bool) → IsPlaneSkeleton g → Contains g.edges e → Contains g.vertices (start e f)
start_in g e true plane E = plane.lower_in e E
start_in g e false plane E = plane.upper_in e E

twin_in : (g : Skeleton) (d : Dart) → IsPlaneSkeleton g → (E : Contains g.edges d.edge) → Member (ring (darts g) (target d)) (twin d)
twin_in g d plane E = ring_in g (target d) plane (start_in g d.edge (not d.forward) plane E) d.edge (not d.forward) (record { in' = E; at = refl })

pub next_follows : (g : Skeleton) (d : Dart) → (plane : IsPlaneSkeleton g) → (E : Contains g.edges d.edge) → Follows g (target d) plane (start_in g d.edge (not d.forward) plane E) (twin d) (next (darts g) d)
unfolding next
next_follows g d plane E = after_follows g (target d) plane (start_in g d.edge (not d.forward) plane E) (twin d) (twin_in g d plane E)

pub next_from : (g : Skeleton) (d : Dart) → IsPlaneSkeleton g → Contains g.edges d.edge → IsOut g (target d) (next (darts g) d).edge (next (darts g) d).forward
next_from g d plane E = follower_out g (target d) plane (start_in g d.edge (not d.forward) plane E) (twin d) (next (darts g) d) (next_follows g d plane E)

-- the next dart has the face
pub next_keeps_face : (g : Skeleton) (d : Dart) → IsPlaneSkeleton g → Contains g.edges d.edge → SameFace g (cell_of g d.edge d.forward) (cell_of g (next (darts g) d).edge (next (darts g) d).forward)
next_keeps_face g d plane E =
    let V = start_in g d.edge (not d.forward) plane E in
    let k = turn_keeps g (target d) d.edge (next (darts g) d).edge (not d.forward) (next (darts g) d).forward plane (record { in' = E; at = refl }) (next_from g d plane E) (turn_of g (target d) plane V (twin d) (next (darts g) d) (next_follows g d plane E)) in
    subst (λ b. SameFace g (cell_of g d.edge b) (cell_of g (next (darts g) d).edge (next (darts g) d).forward)) (not_not d.forward) k

pub next_is : (g : Skeleton) (d : Dart) → next (darts g) d ≡ after (twin d) (ring (darts g) (target d))
unfolding next
next_is g d = refl

pub next_one : (g : Skeleton) (d d' : Dart) → IsPlaneSkeleton g → Contains g.edges d.edge → Contains g.edges d'.edge → next (darts g) d ≡ next (darts g) d' → d ≡ d'
next_one g d d' plane E E' e =
    let V = start_in g d.edge (not d.forward) plane E in
    let f = next_from g d plane E in
    let f' = next_from g d' plane E' in
    let t : target d' ≡ target d = sym f'.at ∙ ap source (sym e) ∙ f.at in
    let m' : Member (ring (darts g) (target d)) (twin d') = ring_in g (target d) plane V d'.edge (not d'.forward) (record { in' = E'; at = t }) in
    let k' : Follows g (target d) plane V (twin d') (next (darts g) d) =
    subst (Follows g (target d) plane V (twin d')) (sym (e ∙ next_is g d')) (subst (λ r. Follows g (target d) plane V (twin d') (after (twin d') (ring (darts g) r))) (sym t) (after_follows g (target d) plane V (twin d') m')) in
    let w : twin d ≡ twin d' = one_before g (target d) plane V (twin d) (twin d') (next (darts g) d) (twin_in g d plane E) m' (next_follows g d plane E) k' in
    dart_path d d' (ap (λ x. x.edge) w) (sym (not_not d.forward) ∙ ap (λ x. not x.forward) w ∙ not_not d'.forward)
