-- Going clockwise round a vertex from a dart that comes in with a set of faces on its left, the first dart whose sides differ goes out with the set on its left.
use Rattle.std.proofs.Common.{◌≡◌, ◌≢◌, ℕ, zero, suc, ◌<◌, ◌≤◌, Bool, true, false, arith, sym, ap, ◌∙◌, subst, inl, inr, ◌⊎◌}
use Rattle.std.specs.List.{Contains, count_by}
use Rattle.std.proofs.lemmas.Bool.{false≢true, cases_Bool}
use Rattle.integers.proofs.Tests.{not_true}
use Rattle.exact_plane.specs.Point.{Point}
use Rattle.slab_laws.specs.declared.slab_cell.SlabCell.{SlabCell}
use Rattle.slab_laws.specs.Cycles.{left_of_dart}
use Rattle.slab_laws.specs.Darts.{Dart, darts}
use Rattle.slab_laws.specs.Meets.{SameFace}
use Rattle.slab_laws.specs.Rotation.{twin, earlier, ring, after, next, OutOf}
use Rattle.slab_laws.specs.Skeleton.{Skeleton, IsPlaneSkeleton}
use Rattle.slab_faces.proofs.Member.{member_in, in_member}
use Rattle.slab_faces.proofs.NextLemmas.{Follows, ring_in, after_follows, follower_out, next_keeps_face}
use Rattle.slab_faces.proofs.NextLemmas.Follows.{later, first}
use Rattle.slab_faces.proofs.Sums.{fewer_than}
use Rattle.rotation_order.specs.RingOrder.{IsStrictOn, IsRoundOn, sooner_by}
use Rattle.rotation_order.proofs.RingBetween.{when_later, when_last}
use Rattle.rotation_order.proofs.RingOrders.{round_by}
use Rattle.rotation_order.proofs.RingTurned.{vertex_there, strict_at, next_at}
use Rattle.rotation_order.proofs.Turning.{same_by}
use Rattle.sound_views.proofs.RoundRings.{ring_out}

-- p holds on one side of a dart and not on the other
abbrev pub Differs : Skeleton → (SlabCell → Bool) → Dart → Type 0
Differs g p b = ((p (left_of_dart g b) ≡ true) × (p (left_of_dart g (twin b)) ≡ false)) ⊎ ((p (left_of_dart g b) ≡ false) × (p (left_of_dart g (twin b)) ≡ true))

-- e goes out of v with p on its left alone, and no dart there whose sides differ is met before it, clockwise from just after x
pub record IsOnward (g : Skeleton) (p : SlabCell → Bool) (v : Point) (x e : Dart) : Type 0 where
  pub out : OutOf g v e
  pub left : p (left_of_dart g e) ≡ true
  pub right : p (left_of_dart g (twin e)) ≡ false
  pub first : (b : Dart) → OutOf g v b → Differs g p b → b ≢ e → sooner_by earlier x e b ≡ true

module _ (g : Skeleton) (plane : IsPlaneSkeleton g) (v : Point) (x : Dart) (X : OutOf g v x) where
  V : Contains g.vertices v
  V = vertex_there g v x plane X

  strict : IsStrictOn earlier (OutOf g v)
  strict = strict_at g v x plane X

  round : IsRoundOn (sooner_by earlier) (OutOf g v)
  round = round_by earlier (OutOf g v) strict

  -- ---- the dart after another
  follower : Dart → Dart
  follower c = after c (ring (darts g) v)

  other : (a b : Dart) → OutOf g v a → OutOf g v b → a ≢ b → (earlier a b ≡ true → ⊥) → earlier b a ≡ true
  other a b A B ne f = elim (cases_Bool (earlier b a)) [
    | inl y ↦ y
    | inr n ↦ absurd (ne (strict.total a b A B (not_true (earlier a b) f) n))
  ]

  met_first : (c e : Dart) → Follows g v plane V c e → (b : Dart) → OutOf g v b → b ≢ e → sooner_by earlier c e b ≡ true
  met_first c e (later n) b B ne =
      when_later _ _ _ _ n.later (λ t. other b e B (follower_out g v plane V c e (later n)) ne (λ u. n.none b (ring_in g v plane V b.edge b.forward B) t u))
  met_first c e (first l m f) b B ne =
      let R = ring_in g v plane V b.edge b.forward B in
      when_last _ _ _ _ (not_true (earlier c e) (l e m)) (not_true (earlier c b) (l b R)) (other b e B (follower_out g v plane V c e (first l m f)) ne (f b R))

  follows : (c : Dart) → OutOf g v c → Follows g v plane V c (follower c)
  unfolding follower
  follows c C = after_follows g v plane V c (ring_in g v plane V c.edge c.forward C)

  -- what follows x is met before all others
  pub follower_first : (b : Dart) → OutOf g v b → b ≢ after x (ring (darts g) v) → sooner_by earlier x (after x (ring (darts g) v)) b ≡ true
  unfolding follower
  follower_first b B ne = met_first x (after x (ring (darts g) v)) (follows x X) b B ne

  goes_out : (c : Dart) → OutOf g v c → OutOf g v (follower c)
  goes_out c C = follower_out g v plane V c (follower c) (follows c C)

  -- ---- what is between two darts that follow one another
  module _ (p : SlabCell → Bool) (one_face : (c d : SlabCell) → SameFace g c d → p c ≡ p d) where
    abbrev on_left : Dart → Bool
    on_left b = p (left_of_dart g b)

    abbrev on_right : Dart → Bool
    on_right b = p (left_of_dart g (twin b))

    between : (c : Dart) → OutOf g v c → on_left (follower c) ≡ on_right c
    unfolding follower
    between c C = ap on_left (sym (next_at g v c C)) ∙ sym (one_face (left_of_dart g (twin c)) (left_of_dart g (next (darts g) (twin c))) (next_keeps_face g (twin c) plane C.in'))

    -- ---- the way round
    -- p is on the left of c, and no dart whose sides differ is met before it
    record IsReached (c : Dart) : Type 0 where
      out : OutOf g v c
      left : on_left c ≡ true
      first : (b : Dart) → OutOf g v b → Differs g p b → b ≢ c → sooner_by earlier x c b ≡ true

    module _ (left : on_left x ≡ false) (right : on_right x ≡ true) where
      begin : IsReached (follower x)
      begin = record {
        out = goes_out x X;
        left = between x X ∙ right;
        first = λ b B d ne. met_first x (follower x) (follows x X) b B ne;
      }

      -- where the sides don't differ, on to the next dart
      module _ (c : Dart) (r : IsReached c) (same : on_right c ≡ true) where
        not_here : (b : Dart) → Differs g p b → b ≢ c
        not_here b (inl d) e = false≢true (sym d.1 ∙ ap on_right e ∙ same)
        not_here b (inr d) e = false≢true (sym d.0 ∙ ap on_left e ∙ r.left)

        not_last : x ≢ c
        not_last = not_here x (inr (left, right))

        further : IsReached (follower c)
        further = record {
          out = goes_out c r.out;
          left = between c r.out ∙ same;
          first = λ b B d ne. round.inward x c (follower c) b X r.out (goes_out c r.out) B (r.first b B d (not_here b d)) (met_first c (follower c) (follows c r.out) b B ne);
        }

        new_left : on_left (follower c) ≡ true
        new_left = between c r.out ∙ same

        start_later : x ≢ follower c
        start_later e = false≢true (sym left ∙ ap on_left e ∙ new_left)

        -- the start is met after both
        up_to_start : sooner_by earlier c (follower c) x ≡ true
        up_to_start = met_first c (follower c) (follows c r.out) x X start_later

        moves : c ≢ follower c
        moves e =
            let s : sooner_by earlier c c x ≡ true = subst (λ b. sooner_by earlier c b x ≡ true) (sym e) up_to_start in
            round.apart c c x r.out r.out X s (round.turned c c x r.out r.out X s not_last)

        onward : sooner_by earlier x c (follower c) ≡ true
        onward =
            elim (round.either x c (follower c) X r.out (goes_out c r.out) moves) [
              | inl h ↦ h
              | inr h ↦
                  let F = goes_out c r.out in
                  let a = round.onward x (follower c) c x X F r.out X h (r.first x X (inr (left, right)) not_last) in
                  absurd (round.apart (follower c) c x F r.out X a (round.turned c (follower c) x r.out F X up_to_start not_last))
            ]

      -- ---- how many darts are still to come
      rest : Dart → ℕ
      rest c = count_by (λ b. sooner_by earlier x c b) (ring (darts g) v)

      nothing_itself : (c : Dart) → OutOf g v c → sooner_by earlier x c c ≡ false
      nothing_itself c C = same_by (earlier x c) (earlier c c) (not_true (earlier c c) (strict.itself c C))

      fewer : (c : Dart) (r : IsReached c) (same : on_right c ≡ true) → rest (follower c) < rest c
      unfolding rest
      fewer c r same =
          let F = goes_out c r.out in
          let n = onward c r same in
          fewer_than (λ b. sooner_by earlier x (follower c) b) (λ b. sooner_by earlier x c b) (ring (darts g) v) (follower c)
          (member_in (ring (darts g) v) (follower c) (ring_in g v plane V (follower c).edge (follower c).forward F))
          (nothing_itself (follower c) F) n
          (λ b m h. round.through x c (follower c) b X r.out F (ring_out g v plane V b (in_member (ring (darts g) v) b m)) n h)

      found : (c : Dart) → IsReached c → on_right c ≡ false → IsOnward g p v x c
      found c r h = record { out = r.out; left = r.left; right = h; first = r.first }

      walk : (n : ℕ) (c : Dart) → rest c ≤ n → IsReached c → (e : Dart) × IsOnward g p v x e
      walk zero c l r = elim (cases_Bool (on_right c)) [
        | inl y ↦ absurd (let k = fewer c r y in omega arith)
        | inr n ↦ (c, found c r n)
      ]
      walk (suc n) c l r = elim (cases_Bool (on_right c)) [
        | inl y ↦ (let k = fewer c r y in walk n (follower c) (omega arith) (further c r y))
        | inr h ↦ (c, found c r h)
      ]

      pub first_onward : (e : Dart) × IsOnward g p v x e
      first_onward = walk (rest (follower x)) (follower x) (omega arith) begin
