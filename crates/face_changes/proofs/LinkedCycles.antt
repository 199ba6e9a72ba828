-- The order of darts along cycles with one more edge is the old one with two darts put in, by what is at both ends of the edge.
-- g is without the edge e, h with it; x is a dart of e, which comes after a; its twin comes after b.
use Rattle.std.proofs.Common.{◌≡◌, ◌⊎◌, inl, inr, Bool, true, false, refl, sym, ap, ◌∙◌, subst}
use Rattle.std.specs.Prelude.{not}
use Rattle.std.specs.List.{Contains}
use Rattle.std.proofs.lemmas.Bool.{false≢true, true≢false}
use Rattle.plane_graphs.specs.Graph.{Edge}
use Rattle.slab_laws.specs.Darts.{Dart, darts, source}
use Rattle.slab_laws.specs.Rotation.{twin, next, same_dart}
use Rattle.slab_laws.specs.Rows.{least_dart_of}
use Rattle.slab_laws.specs.Skeleton.{Skeleton, IsPlaneSkeleton}
use Rattle.slab_faces.proofs.Member.{member_in, in_member}
use Rattle.slab_faces.proofs.NextLemmas.{darts_exact, dart_in, dart_out, next_from, next_one}
use Rattle.slab_faces.proofs.CyclesLemmas.{is_set, one_to_one, one_cycle}
use Rattle.slab_faces.proofs.DartOrder.{along}
use Rattle.sound_changes.specs.NextLaws.{HasEdgeMore, IsDartOf, IsBareEnd, ComesBetween, IsNextWithMore}
use Rattle.sound_changes.proofs.NextDarts.{next_with_one_more_edge}
use Rattle.face_changes.specs.Orbits.{IsOrbitSplit, AreOrbitsUnited, AreOrbitsKept}
use Rattle.face_changes.proofs.OrbitSplices.{IsLabelled, IsSpliced, split, united}
use Rattle.face_changes.proofs.OrbitGrowth.{grown, alone}
use Rattle.sound_views.proofs.RoundTurned.{twin_twice}

-- a dart of the graph is in its list of darts, and the other way round
pub dart_there : (g : Skeleton) (d : Dart) → IsDartOf g d → Contains (darts g) d
dart_there g d D = member_in (darts g) d (dart_in g d.edge d.forward D)

pub there_dart : (g : Skeleton) (d : Dart) → Contains (darts g) d → IsDartOf g d
there_dart g d D = dart_out g d (in_member (darts g) d D)

-- least darts label the orbits of next
pub labelled : (g : Skeleton) → IsLabelled (next (darts g)) (darts g) (least_dart_of g)
labelled g = record {
  step = λ d D. one_cycle g d (in_member (darts g) d D);
  agree = λ p h d. along g (λ x y. p x ≡ p y) (record { itself = λ x. refl; back = λ x y k. sym k; on = λ x y z k l. k ∙ l }) (λ d D. h d (member_in (darts g) d D)) d;
}

module _ (g h : Skeleton) (e : Edge) (plane_g : IsPlaneSkeleton g) (plane_h : IsPlaneSkeleton h) (more : HasEdgeMore g h e) where
  goes : IsNextWithMore g h e
  goes = next_with_one_more_edge g h e plane_g plane_h more

  -- the darts of h: the old ones, and those of e
  pub up : (d : Dart) → IsDartOf g d → IsDartOf h d
  up d D = (more.edges d.edge).1 (inl D)

  pub there : (x : Dart) → x.edge ≡ e → IsDartOf h x
  there x q = (more.edges x.edge).1 (inr q)

  no_twin : (x : Dart) → x ≡ twin x → ⊥
  no_twin x q = go x.forward (ap (λ (z : Dart). z.forward) q)
    where
      go : (b : Bool) → b ≡ not b → ⊥
      go true k = true≢false k
      go false k = false≢true k

  -- a dart of e is x or its twin
  pub either : (x y : Dart) → x.edge ≡ e → y.edge ≡ e → (y ≡ x) ⊎ (y ≡ twin x)
  either x y p q = go x.forward y.forward refl refl
    where
      path : (b : Bool) → y.forward ≡ b → ◌≡◌ {A = Dart} y (record { edge = x.edge; forward = b })
      path b k = λ i. record { edge = (q ∙ sym p) i; forward = k i }

      go : (a b : Bool) → x.forward ≡ a → y.forward ≡ b → (y ≡ x) ⊎ (y ≡ twin x)
      go true true u v = inl (path x.forward (v ∙ sym u))
      go false false u v = inl (path x.forward (v ∙ sym u))
      go true false u v = inr (path (not x.forward) (v ∙ sym (ap not u)))
      go false true u v = inr (path (not x.forward) (v ∙ sym (ap not u)))

  new_here : (x : Dart) → x.edge ≡ e → Contains (darts g) x → ⊥
  new_here x q D = more.fresh (subst (Contains g.edges) q (there_dart g x D))

  sorted : (x y : Dart) → x.edge ≡ e → Contains (darts h) y → Contains (darts g) y ⊎ (y ≡ x) ⊎ (y ≡ twin x)
  sorted x y q D = elim ((more.edges y.edge).0 (there_dart h y D)) [ inl k ↦ inl (dart_there g y k) | inr k ↦ inr (either x y q k) ]

  -- no other dart leads to it
  one_before : (x y a : Dart) → IsDartOf g y → IsDartOf g a → x.edge ≡ e → ComesBetween g y x → ComesBetween g a x → y ≡ a
  one_before x y a Y A q k l = next_one h y a plane_h (up y Y) (up a A) (goes.between y x Y q k ∙ sym (goes.between a x A q l))

  module _ (x : Dart) (q : x.edge ≡ e) where
    module _ (a b : Dart) (A : IsDartOf g a) (B : IsDartOf g b) (at_a : ComesBetween g a x) (at_b : ComesBetween g b (twin x)) where
      -- both ends have darts: the new ones are put in after a and b
      pub spliced : IsSpliced (next (darts g)) (next (darts h)) (darts g) (darts h) x (twin x) a b
      spliced = record {
        a_in = dart_there g a A;
        b_in = dart_there g b B;
        apart = λ k. no_twin x (sym (goes.between a x A q at_a) ∙ ap (next (darts h)) k ∙ goes.between b (twin x) B q at_b);
        d_new = new_here x q;
        m_new = new_here (twin x) q;
        two = no_twin x;
        old = λ y Y. dart_there h y (up y (there_dart g y Y));
        d_in = dart_there h x (there x q);
        m_in = dart_there h (twin x) (there (twin x) q);
        old_or_new = λ y Y. sorted x y q Y;
        at_a = goes.between a x A q at_a;
        at_b = goes.between b (twin x) B q at_b;
        at_d = ap (next (darts h)) (sym (twin_twice x)) ∙ goes.onward b (twin x) B q at_b;
        at_m = goes.onward a x A q at_a;
        elsewhere = λ y Y na nb. goes.elsewhere y (there_dart g y Y) (λ z k c. elim (either x z q k) [
          | inl w ↦ na (one_before x y a (there_dart g y Y) A q (subst (ComesBetween g y) w c) at_a)
          | inr w ↦ nb (one_before (twin x) y b (there_dart g y Y) B q (subst (ComesBetween g y) w c) at_b)
        ]);
      }

      -- on one cycle: it is parted
      pub parts : least_dart_of g a ≡ least_dart_of g b → IsOrbitSplit (least_dart_of g) (least_dart_of h) (darts g) x (twin x) a
      parts one = split same_dart darts_exact.path darts_exact.itself (next (darts g)) (next (darts h)) (darts g) (darts h) (least_dart_of g) (least_dart_of h) (labelled g) (labelled h) x (twin x) a b spliced (is_set g plane_g) (one_to_one g plane_g) one

      -- on two cycles: these are joined
      pub joins : (least_dart_of g a ≡ least_dart_of g b → ⊥) → AreOrbitsUnited (least_dart_of g) (least_dart_of h) (darts g) x (twin x) a b
      joins two = united same_dart darts_exact.path darts_exact.itself (next (darts g)) (next (darts h)) (darts g) (darts h) (least_dart_of g) (least_dart_of h) (labelled g) (labelled h) x (twin x) a b spliced (is_set g plane_g) (one_to_one g plane_g) two

    -- x goes out after a, and ends where nothing is
    module _ (a : Dart) (A : IsDartOf g a) (at_a : ComesBetween g a x) (none : IsBareEnd g (twin x)) where
      -- so the cycle of a grows
      pub grows : AreOrbitsKept (least_dart_of g) (least_dart_of h) (darts g) × (least_dart_of h x ≡ least_dart_of h a) × (least_dart_of h (twin x) ≡ least_dart_of h a)
      grows = grown same_dart darts_exact.path darts_exact.itself (next (darts g)) (next (darts h)) (darts g) (darts h) (least_dart_of g) (least_dart_of h) (labelled g) (labelled h) (one_to_one g plane_g).inside x (twin x) a (record {
        a_in = dart_there g a A;
        d_new = new_here x q;
        m_new = new_here (twin x) q;
        old = λ y Y. dart_there h y (up y (there_dart g y Y));
        d_in = dart_there h x (there x q);
        m_in = dart_there h (twin x) (there (twin x) q);
        old_or_new = λ y Y. sorted x y q Y;
        at_a = goes.between a x A q at_a;
        at_d = ap (next (darts h)) (sym (twin_twice x)) ∙ goes.bare (twin x) q none;
        at_m = goes.onward a x A q at_a;
        elsewhere = λ y Y na. goes.elsewhere y (there_dart g y Y) (λ z k c. elim (either x z q k) [
          | inl w ↦ na (one_before x y a (there_dart g y Y) A q (subst (ComesBetween g y) w c) at_a)
          | inr w ↦ none (next (darts g) y) ((one_to_one_in y Y)) (leaves y Y (subst (ComesBetween g y) w c))
        ]);
      })
        where
          one_to_one_in : (y : Dart) → Contains (darts g) y → IsDartOf g (next (darts g) y)
          one_to_one_in y Y = there_dart g (next (darts g) y) ((one_to_one g plane_g).inside y Y)

          leaves : (y : Dart) → Contains (darts g) y → ComesBetween g y (twin x) → source (next (darts g) y) ≡ source (twin x)
          leaves y Y c = (next_from g y plane_g (there_dart g y Y)).at ∙ sym c.leaves

    -- nothing is at either end
    module _ (none : IsBareEnd g x) (none' : IsBareEnd g (twin x)) where
      follower : (y : Dart) → Contains (darts g) y → IsDartOf g (next (darts g) y)
      follower y Y = there_dart g (next (darts g) y) ((one_to_one g plane_g).inside y Y)

      begins : (y z : Dart) → Contains (darts g) y → ComesBetween g y z → source (next (darts g) y) ≡ source z
      begins y z Y c = (next_from g y plane_g (there_dart g y Y)).at ∙ sym c.leaves

      -- so the new darts are a cycle of their own
      pub apart : AreOrbitsKept (least_dart_of g) (least_dart_of h) (darts g) × (least_dart_of h (twin x) ≡ least_dart_of h x) × ((y : Dart) → Contains (darts g) y → least_dart_of h y ≡ least_dart_of h x → ⊥)
      apart = alone same_dart darts_exact.path darts_exact.itself (next (darts g)) (next (darts h)) (darts g) (darts h) (least_dart_of g) (least_dart_of h) (labelled g) (labelled h) (one_to_one g plane_g).inside x (twin x) (record {
        d_new = new_here x q;
        m_new = new_here (twin x) q;
        old = λ y Y. dart_there h y (up y (there_dart g y Y));
        d_in = dart_there h x (there x q);
        m_in = dart_there h (twin x) (there (twin x) q);
        old_or_new = λ y Y. sorted x y q Y;
        at_d = ap (next (darts h)) (sym (twin_twice x)) ∙ goes.bare (twin x) q none';
        at_m = goes.bare x q none;
        elsewhere = λ y Y. goes.elsewhere y (there_dart g y Y) (λ z k c. elim (either x z q k) [
          | inl w ↦ none (next (darts g) y) (follower y Y) (begins y x Y (subst (ComesBetween g y) w c))
          | inr w ↦ none' (next (darts g) y) (follower y Y) (begins y (twin x) Y (subst (ComesBetween g y) w c))
        ]);
      })
