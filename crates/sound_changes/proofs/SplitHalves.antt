-- Two views: in h the edge of d and t stands in two parts that meet at w; n and m go along the part that d and t have left.
use Rattle.std.proofs.Common.{◌≡◌, ◌≢◌, ◌⊎◌, inl, inr, refl, sym, ap, ap₂, ◌∙◌, subst}
use Rattle.exact_plane.specs.Point.{Point}
use Rattle.slab_laws.specs.declared.names.DartId.{DartId}
use Rattle.slab_laws.specs.declared.names.VertexId.{VertexId}
use Rattle.slab_laws.specs.Sound.{dart_in}
use Rattle.slab_laws.specs.View.{View, HasVertex, HasDart, point_in, source_in, twin_in}
use Rattle.sound_views.proofs.NamedDarts.{by_points}
use Rattle.arr_notes.proofs.Names.{cases_dart}
use Rattle.sound_changes.specs.SplitHalves.{IsHalved}

module _ (g h : View) (d t n m : DartId) (w : VertexId) (i : IsHalved g h d t n m w) where
  pub not_n : (k : DartId) → HasDart g k → k ≢ n
  not_n k o q = i.n_new (subst (HasDart g) q o)

  pub not_m : (k : DartId) → HasDart g k → k ≢ m
  not_m k o q = i.m_new (subst (HasDart g) q o)

  pub not_w : (u : VertexId) → HasVertex g u → u ≢ w
  not_w u o q = i.w_new (subst (HasVertex g) q o)

  -- a dart of h is n, or m, or one of g
  pub three : (P : DartId → Type 0) → P n → P m → ((k : DartId) → HasDart g k → P k) → (k : DartId) → HasDart h k → P k
  three P at_n at_m old k o =
      elim (cases_dart k n) [
        | inl q ↦ subst P (sym q) at_n
        | inr nn ↦ elim (cases_dart k m) [ inl q ↦ subst P (sym q) at_m | inr nm ↦ old k (i.had k o nn nm) ]
      ]

  -- where a dart of h is
  pub where_is : (x : VertexId) (k : DartId) → HasDart h k → source_in h k ≡ x → ((x ≡ w) × ((k ≡ t) ⊎ (k ≡ n))) ⊎ (((x ≡ source_in g t) × (k ≡ m)) ⊎ (HasDart g k × (source_in g k ≡ x) × (k ≢ t)))
  where_is x k o q =
      elim (cases_dart k n) [
        | inl e ↦ inl (sym q ∙ ap (source_in h) e ∙ i.source_n, inr e)
        | inr nn ↦ elim (cases_dart k m) [
          | inl e ↦ inr (inl (sym q ∙ ap (source_in h) e ∙ i.source_m, e))
          | inr nm ↦ elim (cases_dart k t) [
            | inl e ↦ inl (sym q ∙ ap (source_in h) e ∙ i.source_t, inl e)
            | inr nt ↦ let b = i.had k o nn nm in inr (inr (b, sym (i.source_old k b nt) ∙ q, nt))
          ]
        ]
      ]

  -- ---- the points of darts; the sources of g's darts are vertices of g
  module _ (sourced : (k : DartId) → HasDart g k → HasVertex g (source_in g k)) (p : Point) (at_w : point_in h w ≡ p) where
    pub point_n : point_in h (source_in h n) ≡ p
    point_n = ap (point_in h) i.source_n ∙ at_w

    pub point_t : point_in h (source_in h t) ≡ p
    point_t = ap (point_in h) i.source_t ∙ at_w

    pub point_m : point_in h (source_in h m) ≡ point_in g (source_in g t)
    point_m = ap (point_in h) i.source_m ∙ i.vertex_point (source_in g t) (sourced t i.has_t)

    pub point_old : (k : DartId) → HasDart g k → k ≢ t → point_in h (source_in h k) ≡ point_in g (source_in g k)
    point_old k o nt = ap (point_in h) (i.source_old k o nt) ∙ i.vertex_point (source_in g k) (sourced k o)

    -- the way of a dart, when its source and its twin's are known
    way_by : (v : View) (k c : DartId) (a b : Point) → twin_in v k ≡ c → point_in v (source_in v k) ≡ a → point_in v (source_in v c) ≡ b → dart_in v k ≡ by_points a b
    way_by v k c a b q x y = ap₂ by_points x (ap (λ e. point_in v (source_in v e)) q ∙ y)

    pub whole_d : dart_in g d ≡ by_points (point_in g (source_in g d)) (point_in g (source_in g t))
    whole_d = way_by g d t _ _ i.twin_d refl refl

    pub whole_t : dart_in g t ≡ by_points (point_in g (source_in g t)) (point_in g (source_in g d))
    whole_t = way_by g t d _ _ i.twin_t refl refl

    pub half_d : dart_in h d ≡ by_points (point_in g (source_in g d)) p
    half_d = way_by h d t _ p (i.twin_old d i.has_d ∙ i.twin_d) (point_old d i.has_d i.d_t) point_t

    pub half_t : dart_in h t ≡ by_points p (point_in g (source_in g d))
    half_t = way_by h t d p _ (i.twin_old t i.has_t ∙ i.twin_t) point_t (point_old d i.has_d i.d_t)

    pub half_n : dart_in h n ≡ by_points p (point_in g (source_in g t))
    half_n = way_by h n m p _ i.twin_n point_n point_m

    pub half_m : dart_in h m ≡ by_points (point_in g (source_in g t)) p
    half_m = way_by h m n _ p i.twin_m point_m point_n

    pub way_old : (k : DartId) → HasDart g k → HasDart g (twin_in g k) → twin_in g (twin_in g k) ≡ k → k ≢ t → k ≢ d → dart_in h k ≡ dart_in g k
    way_old k o ot back nt nd = way_by h k (twin_in g k) _ _ (i.twin_old k o) (point_old k o nt) (point_old (twin_in g k) ot (λ q. nd (sym back ∙ ap (twin_in g) q ∙ i.twin_t)))
