-- Two darts of one class with the same edges above and below stand alike in the clockwise order.
use Rattle.std.proofs.Common.{◌≡◌, ℕ, ◌<◌, sym, subst, ◌∙◌}
use Rattle.plane_graphs.proofs.Lists.{both_ways}
use Rattle.slab_laws.specs.Skeleton.{below}
use Rattle.slab_laws.specs.Darts.{Dart, by_class, on_left, on_right}
use Rattle.slab_laws.specs.Rotation.{turn, earlier}
use Rattle.slab_faces.proofs.RotationLemmas.{Early, earlier_in, earlier_out}

module _ (d w c : Dart) (t : turn d ≡ turn w) (left : turn w ≡ 0 → turn c ≡ 0 → below d.edge c.edge ≡ below w.edge c.edge) (right : turn w ≡ 2 → turn c ≡ 2 → below c.edge d.edge ≡ below c.edge w.edge) where
  before_there : Early d c → Early w c
  before_there (by_class l) = by_class (subst (λ (n : ℕ). n < turn c) t l)
  before_there (on_left z z' b) = on_left (sym t ∙ z) z' (sym (left (sym t ∙ z) z') ∙ b)
  before_there (on_right z z' b) = on_right (sym t ∙ z) z' (sym (right (sym t ∙ z) z') ∙ b)

  before_back : Early w c → Early d c
  before_back (by_class l) = by_class (subst (λ (n : ℕ). n < turn c) (sym t) l)
  before_back (on_left z z' b) = on_left (t ∙ z) z' (left z z' ∙ b)
  before_back (on_right z z' b) = on_right (t ∙ z) z' (right z z' ∙ b)

  pub before_alike : earlier d c ≡ earlier w c
  before_alike = both_ways (earlier d c) (earlier w c) (λ h. earlier_in w c (before_there (earlier_out d c h))) (λ h. earlier_in d c (before_back (earlier_out w c h)))

module _ (d w c : Dart) (t : turn d ≡ turn w) (left : turn w ≡ 0 → turn c ≡ 0 → below c.edge d.edge ≡ below c.edge w.edge) (right : turn w ≡ 2 → turn c ≡ 2 → below d.edge c.edge ≡ below w.edge c.edge) where
  behind_there : Early c d → Early c w
  behind_there (by_class l) = by_class (subst (λ (n : ℕ). turn c < n) t l)
  behind_there (on_left z z' b) = on_left z (sym t ∙ z') (sym (left (sym t ∙ z') z) ∙ b)
  behind_there (on_right z z' b) = on_right z (sym t ∙ z') (sym (right (sym t ∙ z') z) ∙ b)

  behind_back : Early c w → Early c d
  behind_back (by_class l) = by_class (subst (λ (n : ℕ). turn c < n) (sym t) l)
  behind_back (on_left z z' b) = on_left z (t ∙ z') (left z' z ∙ b)
  behind_back (on_right z z' b) = on_right z (t ∙ z') (right z' z ∙ b)

  pub behind_alike : earlier c d ≡ earlier c w
  behind_alike = both_ways (earlier c d) (earlier c w) (λ h. earlier_in c w (behind_there (earlier_out c d h))) (λ h. earlier_in c d (behind_back (earlier_out c w h)))
