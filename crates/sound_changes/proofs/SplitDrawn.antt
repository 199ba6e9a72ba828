-- What the two views draw: the points and edges of one by those of the other.
use Rattle.std.proofs.Common.{◌≡◌, ◌≢◌, ◌⊎◌, ◌↔◌, inl, inr, Bool, true, false, refl, sym, ap, ◌∙◌, subst}
use Rattle.std.specs.List.{Contains}
use Rattle.exact_plane.specs.Point.{Point}
use Rattle.plane_graphs.specs.Graph.{Edge}
use Rattle.plane_graphs.specs.Line.{precedes}
use Rattle.slab_laws.specs.declared.names.DartId.{DartId}
use Rattle.slab_laws.specs.declared.names.VertexId.{VertexId}
use Rattle.slab_laws.specs.Darts.{ahead, back}
use Rattle.slab_laws.specs.Sound.{skeleton_of, dart_in, edge_in, IsNamed, IsTwinned}
use Rattle.slab_laws.specs.View.{View, HasVertex, HasDart, point_in, source_in}
use Rattle.sound_changes.specs.SplitHalves.{IsHalved}
use Rattle.sound_changes.proofs.SplitCases.{edge_of_ends}
use Rattle.sound_changes.proofs.SplitHalves.{not_n, not_m, not_w, three}
use Rattle.sound_changes.proofs.KnownNames.{point_known, known_point, edge_known, known_edge}
use Rattle.sound_changes.proofs.SplitDirections as ways
use Rattle.sound_changes.proofs.SplitDirections.{same_way}
use Rattle.arr_notes.proofs.Names.{cases_dart, cases_vertex}

-- a dart along the edge of d and t is one of the two
one_of : (v : View) → ((k e : DartId) → HasDart v k → HasDart v e → dart_in v k ≡ dart_in v e → k ≡ e) → (d t k : DartId) (e : Edge) → HasDart v d → HasDart v t → HasDart v k → dart_in v d ≡ ahead e → dart_in v t ≡ back e → edge_in v k ≡ e → (k ≡ d) ⊎ (k ≡ t)
one_of v differ d t k e od ot o x y q = step (dart_in v k).forward refl
  where
    step : (b : Bool) → (dart_in v k).forward ≡ b → (k ≡ d) ⊎ (k ≡ t)
    step true f = inl (differ k d o od ((λ i. record { edge = q i; forward = f i }) ∙ sym x))
    step false f = inr (differ k t o ot ((λ i. record { edge = q i; forward = f i }) ∙ sym y))

module _ (g h : View) (d t n m : DartId) (w : VertexId) (i : IsHalved g h d t n m w) (ng : IsNamed g) (nh : IsNamed h) where
  point_of_h : (p : Point) → point_in h w ≡ p → (q : Point) → Contains (skeleton_of h).vertices q → Contains (skeleton_of g).vertices q ⊎ (q ≡ p)
  point_of_h p at_w q c =
      let r = known_point h nh q c in
      elim (cases_vertex r.0 w) [
        | inl e ↦ inr (r.2 ∙ ap (point_in h) e ∙ at_w)
        | inr nw ↦ let o = i.vertex_had r.0 r.1 nw in inl (subst (Contains (skeleton_of g).vertices) (sym (r.2 ∙ i.vertex_point r.0 o)) (point_known g ng r.0 o))
      ]

  point_of_g : (q : Point) → Contains (skeleton_of g).vertices q → Contains (skeleton_of h).vertices q
  point_of_g q c =
      let r = known_point g ng q c in
      subst (Contains (skeleton_of h).vertices) (sym (r.2 ∙ sym (i.vertex_point r.0 r.1))) (point_known h nh r.0 (i.vertex_has r.0 r.1))

  pub points_parted : (p : Point) → point_in h w ≡ p → (q : Point) → Contains (skeleton_of h).vertices q ↔ (Contains (skeleton_of g).vertices q ⊎ (q ≡ p))
  points_parted p at_w q = (
    point_of_h p at_w q,
    λ c. elim c [
      | inl o ↦ point_of_g q o
      | inr e ↦ subst (Contains (skeleton_of h).vertices) (sym (e ∙ sym at_w)) (point_known h nh w i.w_has)
    ],
  )

  pub points_joined : ((u x : VertexId) → HasVertex h u → HasVertex h x → point_in h u ≡ point_in h x → u ≡ x) → (q : Point) → Contains (skeleton_of g).vertices q ↔ (Contains (skeleton_of h).vertices q × (q ≢ point_in h w))
  points_joined points q =
      (λ c. (point_of_g q c, λ e. apart c e), λ c. elim (point_of_h (point_in h w) refl q c.0) [ inl o ↦ o | inr e ↦ absurd (c.1 e) ])
    where
      apart : Contains (skeleton_of g).vertices q → q ≡ point_in h w → ⊥
      apart c e =
          let r = known_point g ng q c in
          not_w g h d t n m w i r.0 r.1 (points r.0 w (i.vertex_has r.0 r.1) i.w_has (i.vertex_point r.0 r.1 ∙ sym r.2 ∙ e))

module _ (g h : View) (d t n m : DartId) (w : VertexId) (i : IsHalved g h d t n m w) (twinned : IsTwinned g) (sourced : (k : DartId) → HasDart g k → HasVertex g (source_in g k))
    (p : Point) (at_w : point_in h w ≡ p) (before : precedes (point_in g (source_in g d)) p ≡ true) (behind : precedes p (point_in g (source_in g t)) ≡ true) where
  abbrev whole : Edge
  whole = edge_of_ends (point_in g (source_in g d)) (point_in g (source_in g t))

  abbrev near : Edge
  near = edge_of_ends (point_in g (source_in g d)) p

  abbrev far : Edge
  far = edge_of_ends p (point_in g (source_in g t))

  whole_ahead : dart_in g d ≡ ahead whole
  whole_ahead = ways.whole_ahead g h d t n m w i twinned sourced p at_w before behind

  whole_back : dart_in g t ≡ back whole
  whole_back = ways.whole_back g h d t n m w i twinned sourced p at_w before behind

  near_ahead : dart_in h d ≡ ahead near
  near_ahead = ways.near_ahead g h d t n m w i twinned sourced p at_w before behind

  near_back : dart_in h t ≡ back near
  near_back = ways.near_back g h d t n m w i twinned sourced p at_w before behind

  far_ahead : dart_in h n ≡ ahead far
  far_ahead = ways.far_ahead g h d t n m w i twinned sourced p at_w before behind

  far_back : dart_in h m ≡ back far
  far_back = ways.far_back g h d t n m w i twinned sourced p at_w before behind

  same_edge : (k : DartId) → HasDart g k → k ≢ t → k ≢ d → edge_in h k ≡ edge_in g k
  same_edge k o nt nd = ap (λ x. x.edge) (same_way g h d t n m w i twinned sourced p at_w before behind k o nt nd)

  -- what a dart of h goes along
  edge_of_h : (k : DartId) → HasDart h k → (HasDart g k × (k ≢ t) × (k ≢ d)) ⊎ ((edge_in h k ≡ near) ⊎ (edge_in h k ≡ far))
  edge_of_h =
      three g h d t n m w i (λ k. (HasDart g k × (k ≢ t) × (k ≢ d)) ⊎ ((edge_in h k ≡ near) ⊎ (edge_in h k ≡ far)))
      (inr (inr (ap (λ x. x.edge) far_ahead)))
      (inr (inr (ap (λ x. x.edge) far_back)))
      (λ k o. elim (cases_dart k t) [
        | inl q ↦ inr (inl (ap (edge_in h) q ∙ ap (λ x. x.edge) near_back))
        | inr nt ↦ elim (cases_dart k d) [
          | inl q ↦ inr (inl (ap (edge_in h) q ∙ ap (λ x. x.edge) near_ahead))
          | inr nd ↦ inl (o, nt, nd)
        ]
      ])

  edge_of_g : (k : DartId) → HasDart g k → ((k ≢ t) × (k ≢ d)) ⊎ (edge_in g k ≡ whole)
  edge_of_g k o =
      elim (cases_dart k t) [
        | inl q ↦ inr (ap (edge_in g) q ∙ ap (λ x. x.edge) whole_back)
        | inr nt ↦ elim (cases_dart k d) [
          | inl q ↦ inr (ap (edge_in g) q ∙ ap (λ x. x.edge) whole_ahead)
          | inr nd ↦ inl (nt, nd)
        ]
      ]

  near_there : (e : Edge) → e ≡ near → Contains (skeleton_of h).edges e
  near_there e q = subst (Contains (skeleton_of h).edges) (sym (q ∙ sym (ap (λ x. x.edge) near_ahead))) (edge_known h d (i.has_old d i.has_d))

  far_there : (e : Edge) → e ≡ far → Contains (skeleton_of h).edges e
  far_there e q = subst (Contains (skeleton_of h).edges) (sym (q ∙ sym (ap (λ x. x.edge) far_ahead))) (edge_known h n i.has_n)

  whole_there : (e : Edge) → e ≡ whole → Contains (skeleton_of g).edges e
  whole_there e q = subst (Contains (skeleton_of g).edges) (sym (q ∙ sym (ap (λ x. x.edge) whole_ahead))) (edge_known g d i.has_d)

  -- an edge of h that is no part is one of g, and one of g that isn't the whole is one of h
  back_to_g : (e : Edge) → Contains (skeleton_of h).edges e → ((k : DartId) × HasDart g k × (k ≢ t) × (k ≢ d) × (e ≡ edge_in g k)) ⊎ ((e ≡ near) ⊎ (e ≡ far))
  back_to_g e c =
      let r = known_edge h e c in
      elim (edge_of_h r.0 r.1) [
        | inl o ↦ inl (r.0, o.0, o.1, o.2, r.2 ∙ same_edge r.0 o.0 o.1 o.2)
        | inr x ↦ elim x [ inl y ↦ inr (inl (r.2 ∙ y)) | inr y ↦ inr (inr (r.2 ∙ y)) ]
      ]

  on_to_h : (e : Edge) → Contains (skeleton_of g).edges e → ((k : DartId) × HasDart g k × (k ≢ t) × (k ≢ d) × (e ≡ edge_in h k)) ⊎ (e ≡ whole)
  on_to_h e c =
      let r = known_edge g e c in
      elim (edge_of_g r.0 r.1) [
        | inl o ↦ inl (r.0, r.1, o.0, o.1, r.2 ∙ sym (same_edge r.0 r.1 o.0 o.1))
        | inr x ↦ inr (r.2 ∙ x)
      ]

  pub edges_parted : ((k e : DartId) → HasDart g k → HasDart g e → dart_in g k ≡ dart_in g e → k ≡ e) → (e : Edge) → Contains (skeleton_of h).edges e ↔ ((Contains (skeleton_of g).edges e × (e ≢ whole)) ⊎ ((e ≡ near) ⊎ (e ≡ far)))
  edges_parted differ e = (from, into)
    where
      other_one : (k : DartId) → HasDart g k → k ≢ t → k ≢ d → edge_in g k ≡ whole → ⊥
      other_one k o nt nd q = elim (one_of g differ d t k whole i.has_d i.has_t o whole_ahead whole_back q) [ inl x ↦ nd x | inr x ↦ nt x ]

      from : Contains (skeleton_of h).edges e → (Contains (skeleton_of g).edges e × (e ≢ whole)) ⊎ ((e ≡ near) ⊎ (e ≡ far))
      from c = elim (back_to_g e c) [
        | inl r ↦ inl (subst (Contains (skeleton_of g).edges) (sym r.4) (edge_known g r.0 r.1), λ x. other_one r.0 r.1 r.2 r.3 (sym r.4 ∙ x))
        | inr x ↦ inr x
      ]

      into : (Contains (skeleton_of g).edges e × (e ≢ whole)) ⊎ ((e ≡ near) ⊎ (e ≡ far)) → Contains (skeleton_of h).edges e
      into (inl c) = elim (on_to_h e c.0) [
        | inl r ↦ subst (Contains (skeleton_of h).edges) (sym r.4) (edge_known h r.0 (i.has_old r.0 r.1))
        | inr x ↦ absurd (c.1 x)
      ]
      into (inr (inl x)) = near_there e x
      into (inr (inr x)) = far_there e x

  pub edges_joined : ((k e : DartId) → HasDart h k → HasDart h e → dart_in h k ≡ dart_in h e → k ≡ e) → (e : Edge) → Contains (skeleton_of g).edges e ↔ ((Contains (skeleton_of h).edges e × (e ≢ near) × (e ≢ far)) ⊎ (e ≡ whole))
  edges_joined differ e = (from, into)
    where
      not_near : (k : DartId) → HasDart g k → k ≢ t → k ≢ d → edge_in h k ≡ near → ⊥
      not_near k o nt nd q = elim (one_of h differ d t k near (i.has_old d i.has_d) (i.has_old t i.has_t) (i.has_old k o) near_ahead near_back q) [ inl x ↦ nd x | inr x ↦ nt x ]

      not_far : (k : DartId) → HasDart g k → edge_in h k ≡ far → ⊥
      not_far k o q = elim (one_of h differ n m k far i.has_n i.has_m (i.has_old k o) far_ahead far_back q) [ inl x ↦ not_n g h d t n m w i k o x | inr x ↦ not_m g h d t n m w i k o x ]

      from : Contains (skeleton_of g).edges e → (Contains (skeleton_of h).edges e × (e ≢ near) × (e ≢ far)) ⊎ (e ≡ whole)
      from c = elim (on_to_h e c) [
        | inl r ↦ inl (subst (Contains (skeleton_of h).edges) (sym r.4) (edge_known h r.0 (i.has_old r.0 r.1)), λ x. not_near r.0 r.1 r.2 r.3 (sym r.4 ∙ x), λ x. not_far r.0 r.1 (sym r.4 ∙ x))
        | inr x ↦ inr x
      ]

      into : (Contains (skeleton_of h).edges e × (e ≢ near) × (e ≢ far)) ⊎ (e ≡ whole) → Contains (skeleton_of g).edges e
      into (inl c) = elim (back_to_g e c.0) [
        | inl r ↦ subst (Contains (skeleton_of g).edges) (sym r.4) (edge_known g r.0 r.1)
        | inr x ↦ elim x [ inl y ↦ absurd (c.1 y) | inr y ↦ absurd (c.2 y) ]
      ]
      into (inr x) = whole_there e x
