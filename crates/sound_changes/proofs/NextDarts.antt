-- Which dart follows which in a plane graph with one more edge, by the graph without it, and the other way round.
use Rattle.std.proofs.Common.{◌≡◌, ◌≢◌, ◌⊎◌, inl, inr, Bool, true, false, not, List, [], ◌∷◌, filter, refl, sym, ap, ◌∙◌, subst}
use Rattle.std.specs.List.{Contains}
use Rattle.exact_plane.specs.Point.{Point}
use Rattle.plane_graphs.specs.Graph.{Edge}
use Rattle.rotation_order.specs.RingOrder.{IsRoundOn, sooner_by}
use Rattle.slab_laws.specs.Darts.{Dart, source, target, darts}
use Rattle.slab_laws.specs.Rotation.{twin, earlier, next, OutOf}
use Rattle.slab_laws.specs.Skeleton.{Skeleton, same_point, IsPlaneSkeleton}
use Rattle.slab_faces.proofs.Member.{Member, filter_in, filter_out}
use Rattle.slab_faces.proofs.NextLemmas.{dart_in, dart_out}
use Rattle.slab_faces.proofs.Parity.{same_point_is, same_point_refl}
use Rattle.rotation_order.proofs.RingNames.{edge_has_two_ends, ends_meet}
use Rattle.sound_changes.specs.NextLaws.{HasEdgeMore, IsDartOf, IsBareEnd, ComesBetween, IsNextWithMore, IsNextWithLess}
use Rattle.sound_changes.specs.EdgeLaws.{NextWithOneMoreEdge, NextWithOneEdgeFewer}
use Rattle.sound_changes.proofs.ClockwiseDarts.{dart_cases, IsFirst, clockwise, first_alone, twin_out, next_first, first_next, first_after, after_first}
use Rattle.sound_views.proofs.RoundTurned.{twin_twice}

-- ---- of darts out of a point, the one met last clockwise from x
module _ (g : Skeleton) (p : Point) (round : IsRoundOn (sooner_by earlier) (OutOf g p)) (x : Dart) (X : OutOf g p x) where
  abbrev LastOf : List Dart → Dart → Type 0
  LastOf cs a = Member cs a × ((c : Dart) → Member cs c → c ≢ a → sooner_by earlier x c a ≡ true)

  abbrev AllOut : List Dart → Type 0
  AllOut cs = (c : Dart) → Member cs c → OutOf g p c

  -- one more dart: it is met last now, or not
  last_more : (c a : Dart) (cs : List Dart) → OutOf g p c → AllOut cs → LastOf cs a → (b : Dart) × LastOf (c ∷ cs) b
  last_more c a cs oc all l =
      elim (dart_cases c a) [
        | inl q ↦ (a, (inr l.0, λ b m ne. elim m [ inl e ↦ absurd (ne (sym e ∙ q)) | inr n ↦ l.1 b n ne ]))
        | inr nc ↦ elim (round.either x c a X oc (all a l.0) nc) [
          | inl y ↦ (a, (inr l.0, λ b m ne. elim m [ inl e ↦ subst (λ z. sooner_by earlier x z a ≡ true) e y | inr n ↦ l.1 b n ne ]))
          | inr y ↦ (
            c,
            (
              inl refl,
              λ b m ne. elim m [
                | inl e ↦ absurd (ne (sym e))
                | inr n ↦ elim (dart_cases b a) [
                  | inl q ↦ subst (λ z. sooner_by earlier x z c ≡ true) (sym q) y
                  | inr nb ↦ round.through x b a c X (all b n) (all a l.0) oc (l.1 b n nb) y
                ]
              ],
            ),
          )
        ]
      ]

  last_of : (cs : List Dart) → AllOut cs → ((c : Dart) → Member cs c → ⊥) ⊎ ((a : Dart) × LastOf cs a)
  last_of [] all = inl (λ c m. m)
  last_of (c ∷ cs) all =
      elim (last_of cs (λ b m. all b (inr m))) [
        | inl none ↦ inr (c, (inl refl, λ b m ne. elim m [ inl e ↦ absurd (ne (sym e)) | inr n ↦ absurd (none b n) ]))
        | inr r ↦ inr (last_more c r.0 cs (all c (inl refl)) (λ b m. all b (inr m)) r.1)
      ]

module _ (g h : Skeleton) (e : Edge) (plane_g : IsPlaneSkeleton g) (plane_h : IsPlaneSkeleton h) (more : HasEdgeMore g h e) where
  up : (d : Dart) → IsDartOf g d → IsDartOf h d
  up d has = (more.edges d.edge).1 (inl has)

  out_up : (p : Point) (d : Dart) → OutOf g p d → OutOf h p d
  out_up p d o = record { in' = up d o.in'; at = o.at }

  new_there : (x : Dart) → x.edge ≡ e → IsDartOf h x
  new_there x q = (more.edges x.edge).1 (inr q)

  new_out : (p : Point) (x : Dart) → x.edge ≡ e → source x ≡ p → OutOf h p x
  new_out p x q at = record { in' = new_there x q; at = at }

  -- the new edge has one dart out of a point
  one_way : (p : Point) (c x : Dart) → c.edge ≡ e → x.edge ≡ e → source c ≡ p → source x ≡ p → c ≡ x
  one_way p c x qc qx ac ax = step c.forward x.forward refl refl
    where
      same : c.forward ≡ x.forward → c ≡ x
      same f = λ i. record { edge = (qc ∙ sym qx) i; forward = f i }

      against : c.forward ≡ not x.forward → c ≡ x
      against f =
          absurd (edge_has_two_ends h plane_h x.edge (new_there x qx)
          (ends_meet x.edge x.forward (ax ∙ sym ac ∙ (λ i. source (record { edge = (qc ∙ sym qx) i; forward = f i })))))

      step : (a b : Bool) → c.forward ≡ a → x.forward ≡ b → c ≡ x
      step true true u v = same (u ∙ sym v)
      step false false u v = same (u ∙ sym v)
      step true false u v = against (u ∙ sym (ap not v))
      step false true u v = against (u ∙ sym (ap not v))

  old_or_new : (p : Point) (c x : Dart) → x.edge ≡ e → source x ≡ p → OutOf h p c → OutOf g p c ⊎ (c ≡ x)
  old_or_new p c x q at o =
      elim ((more.edges c.edge).0 o.in') [
        | inl k ↦ inl (record { in' = k; at = o.at })
        | inr s ↦ inr (one_way p c x s q o.at at)
      ]

  not_new : (c x : Dart) → IsDartOf g c → x.edge ≡ e → c ≢ x
  not_new c x has q s = more.fresh (subst (Contains g.edges) (ap (λ z. z.edge) s ∙ q) has)

  -- ---- where the new dart comes between a dart and its follower
  module _ (d x : Dart) (has : IsDartOf g d) (q : x.edge ≡ e) (k : ComesBetween g d x) where
    round : IsRoundOn (sooner_by earlier) (OutOf h (target d))
    round = clockwise h (target d) plane_h (twin d) (twin_out h plane_h d (up d has))

    D : OutOf h (target d) (twin d)
    D = twin_out h plane_h d (up d has)

    X : OutOf h (target d) x
    X = new_out (target d) x q k.leaves

    F : IsFirst g (target d) (twin d) (next (darts g) d)
    F = next_first g plane_g d has

    B : OutOf h (target d) (next (darts g) d)
    B = out_up (target d) (next (darts g) d) F.out

    between : next (darts h) d ≡ x
    between =
        first_next h plane_h d x (up d has) (record {
          out = X;
          first = λ c oc ne. elim (old_or_new (target d) c x q k.leaves oc) [
            | inl o ↦ elim (dart_cases c (next (darts g) d)) [
              | inl s ↦ subst (λ z. sooner_by earlier (twin d) x z ≡ true) (sym s) k.met
              | inr nb ↦ round.through (twin d) x (next (darts g) d) c D X B oc k.met (F.first c o nb)
            ]
            | inr s ↦ absurd (ne s)
          ];
        })

    onward : next (darts h) (twin x) ≡ next (darts g) d
    onward =
        after_first h plane_h x (next (darts g) d) (target d) k.leaves (new_there x q) (record {
          out = B;
          first = λ c oc ne. elim (old_or_new (target d) c x q k.leaves oc) [
            | inl o ↦ round.onward (twin d) x (next (darts g) d) c D X B oc k.met (F.first c o ne)
            | inr s ↦ subst (λ z. sooner_by earlier x (next (darts g) d) z ≡ true) (sym s) (round.last x (next (darts g) d) X B (not_new (next (darts g) d) x F.out.in' q))
          ];
        })

  -- ---- and where it doesn't
  elsewhere : (d : Dart) → IsDartOf g d → ((x : Dart) → x.edge ≡ e → ¬ ComesBetween g d x) → next (darts h) d ≡ next (darts g) d
  elsewhere d has none =
      let D = twin_out h plane_h d (up d has) in
      let F = next_first g plane_g d has in
      let B = out_up (target d) (next (darts g) d) F.out in
      let round = clockwise h (target d) plane_h (twin d) D in
      first_next h plane_h d (next (darts g) d) (up d has) (record {
        out = B;
        first = λ c oc ne. elim ((more.edges c.edge).0 oc.in') [
          | inl k ↦ F.first c (record { in' = k; at = oc.at }) ne
          | inr s ↦ elim (round.either (twin d) (next (darts g) d) c D B oc (λ t. ne (sym t))) [
            | inl y ↦ y
            | inr y ↦ absurd (none c s (record { leaves = oc.at; met = y }))
          ]
        ];
      })

  bare : (x : Dart) → x.edge ≡ e → IsBareEnd g x → next (darts h) (twin x) ≡ x
  bare x q none =
      after_first h plane_h x x (source x) refl (new_there x q) (record {
        out = new_out (source x) x q refl;
        first = λ c oc ne. elim (old_or_new (source x) c x q refl oc) [
          | inl o ↦ absurd (none c o.in' o.at)
          | inr s ↦ absurd (ne s)
        ];
      })

  -- ---- the dart that the new one comes after: clockwise from the new one, it is met last
  module _ (x : Dart) (q : x.edge ≡ e) where
    abbrev starts_there : Dart → Bool
    starts_there c = same_point (source c) (source x)

    abbrev old_ones : List Dart
    old_ones = filter starts_there (darts g)

    new_here : OutOf h (source x) x
    new_here = new_out (source x) x q refl

    round_here : IsRoundOn (sooner_by earlier) (OutOf h (source x))
    round_here = clockwise h (source x) plane_h x new_here

    old_one : (c : Dart) → Member old_ones c → OutOf g (source x) c
    old_one c m =
        let r = filter_out starts_there (darts g) c m in
        record { in' = dart_out g c r.0; at = same_point_is (source c) (source x) r.1 }

    each_old_one : (c : Dart) → OutOf g (source x) c → Member old_ones c
    each_old_one c o =
        filter_in starts_there (darts g) c (dart_in g c.edge c.forward o.in') (subst (λ z. same_point (source c) z ≡ true) o.at (same_point_refl (source c)))

    before : (a : Dart) → OutOf g (source x) a → ((c : Dart) → OutOf g (source x) c → c ≢ a → sooner_by earlier x c a ≡ true) → ComesBetween g (twin a) x
    before a oa last =
        let b = next (darts g) (twin a) in
        let F = first_after g plane_g a b (source x) oa.at oa.in' refl in
        let A = out_up (source x) a oa in
        let B = out_up (source x) b F.out in
        let other = not_new a x oa.in' q in
        let met : sooner_by earlier a x b ≡ true = elim (dart_cases b a) [
          | inl s ↦ subst (λ z. sooner_by earlier a x z ≡ true) (sym s) (round_here.last a x A new_here (λ t. other (sym t)))
          | inr nb ↦
              let k = round_here.turned x b a new_here B A (last b F.out nb) other in
              round_here.turned b a x B A new_here k (λ t. not_new b x F.out.in' q (sym t))
        ] in
        record {
          leaves = sym (ap source (twin_twice a) ∙ oa.at);
          met = subst (λ z. sooner_by earlier z x b ≡ true) (sym (twin_twice a)) met;
        }

    somewhere : IsBareEnd g x ⊎ ((d : Dart) × IsDartOf g d × ComesBetween g d x)
    somewhere =
        elim (last_of h (source x) round_here x new_here old_ones (λ c m. out_up (source x) c (old_one c m))) [
          | inl none ↦ inl (λ c has at. none c (each_old_one c (record { in' = has; at = at })))
          | inr r ↦
              let o = old_one r.0 r.1.0 in
              inr (twin r.0, o.in', before r.0 o (λ c oc ne. r.1.1 c (each_old_one c oc) ne))
        ]

  pub with_more : IsNextWithMore g h e
  with_more = record {
    between = λ d x has q k. between d x has q k;
    onward = λ d x has q k. onward d x has q k;
    elsewhere = elsewhere;
    bare = bare;
    somewhere = λ x q. somewhere x q;
  }

  -- ---- from the graph with the edge to that without it
  closed : (d x : Dart) → IsDartOf g d → x.edge ≡ e → next (darts h) d ≡ x → next (darts g) d ≡ next (darts h) (twin x)
  closed d x has q s =
      let b = next (darts h) (twin x) in
      let D = twin_out h plane_h d (up d has) in
      let F : IsFirst h (target d) (twin d) x = subst (IsFirst h (target d) (twin d)) s (next_first h plane_h d (up d has)) in
      let X = F.out in
      let G : IsFirst h (target d) x b = first_after h plane_h x b (target d) X.at (new_there x q) refl in
      let round = clockwise h (target d) plane_h (twin d) D in
      -- the new dart isn't alone there
      let moves : b ≢ x = λ t. not_new (twin d) x has q (first_alone h (target d) plane_h x X (subst (IsFirst h (target d) x) t G) (twin d) D) in
      first_next g plane_g d b has (record {
        out = elim (old_or_new (target d) b x q X.at G.out) [ inl o ↦ o | inr t ↦ absurd (moves t) ];
        first = λ c oc ne.
            let C = out_up (target d) c oc in
            round.inward (twin d) x b c D X G.out C (F.first c C (not_new c x oc.in' q)) (G.first c C ne);
      })

  still : (d : Dart) → IsDartOf g d → (next (darts h) d).edge ≢ e → next (darts g) d ≡ next (darts h) d
  still d has ne =
      let F = next_first h plane_h d (up d has) in
      first_next g plane_g d (next (darts h) d) has (record {
        out = elim ((more.edges (next (darts h) d).edge).0 F.out.in') [
          | inl k ↦ record { in' = k; at = F.out.at }
          | inr s ↦ absurd (ne s)
        ];
        first = λ c oc nc. F.first c (out_up (target d) c oc) nc;
      })

  pub with_less : IsNextWithLess g h e
  with_less = record { onward = closed; elsewhere = still }

pub next_with_one_more_edge : NextWithOneMoreEdge
next_with_one_more_edge g h e plane_g plane_h more = with_more g h e plane_g plane_h more

pub next_with_one_edge_fewer : NextWithOneEdgeFewer
next_with_one_edge_fewer g h e plane_g plane_h more = with_less g h e plane_g plane_h more
