-- The view with two edges in one is sound, where the one before it was: g has the edge of d and t whole, h has it in two parts.
use Rattle.std.proofs.Common.{◌≡◌, ◌≢◌, ◌⊎◌, inl, inr, ℕ, true, pos, refl, sym, ap, ap₂, ◌∙◌, subst}
use Rattle.std.proofs.lemmas.Bool.{cases_eq}
use Rattle.exact_plane.specs.Point.{Point}
use Rattle.exact_plane.specs.Line.{side_of}
use Rattle.plane_graphs.specs.Line.{IsProper, IsProperLine, precedes}
use Rattle.rotation_order.specs.RingOrder.{IsStrictOn}
use Rattle.rotation_order.specs.Ring.{Out}
use Rattle.rotation_order.proofs.RingEdits.{kept, renamed}
use Rattle.rotation_order.specs.EdgeParts.{IsParted}
use Rattle.slab_laws.specs.declared.names.DartId.{DartId}
use Rattle.slab_laws.specs.declared.names.VertexId.{VertexId}
use Rattle.slab_laws.specs.Darts.{ahead, back}
use Rattle.slab_laws.specs.Rotation.{earlier, OutOf}
use Rattle.slab_laws.specs.Skeleton.{IsPlaneSkeleton}
use Rattle.slab_laws.specs.Sound.{skeleton_of, dart_in, IsNamed, IsTwinned, IsDrawn, IsGraphSound}
use Rattle.slab_laws.specs.View.{View, HasVertex, HasDart, vertex_id, dart_id, point_in, source_in, twin_in, next_in, target_in, line_in}
use Rattle.rotation_order.specs.VertexRings.{turns_in, RingOf}
use Rattle.rotation_order.proofs.RingNames.{out_of}
use Rattle.rotation_order.proofs.RingTurned.{strict_at}
use Rattle.rotation_order.proofs.SoundRings.{sound_views_have_rings, rings_make_sound_views}
use Rattle.sound_changes.specs.SplitHalves.{IsHalved}
use Rattle.sound_changes.proofs.SplitCases.{edge_of_ends}
use Rattle.sound_changes.proofs.SplitHalves.{not_n, not_m, not_w}
use Rattle.sound_changes.proofs.SplitEdge.{after_source}
use Rattle.sound_changes.proofs.SplitDirections as ways
use Rattle.sound_changes.proofs.SplitDirections.{alike_left, alike_right, same_way, ends_apart}
use Rattle.arr_notes.proofs.Names.{cases_dart, cases_vertex}

-- which dart follows which, when two edges become one
pub record IsRejoined (g h : View) (d t n m : DartId) : Type 0 where
  pub after_t : next_in h n ≢ m → next_in g d ≡ next_in h n
  pub alone : next_in h n ≡ m → next_in g d ≡ t
  pub to : (k : DartId) → HasDart g k → k ≢ d → next_in h k ≡ m → next_in g k ≡ t
  pub same : (k : DartId) → HasDart g k → k ≢ d → next_in h k ≢ m → next_in g k ≡ next_in h k

module _ (g h : View) (d t n m : DartId) (w : VertexId) (i : IsHalved g h d t n m w) (s : IsGraphSound h) (far_w : source_in g t ≢ w) (only : (k : DartId) → HasDart h k → source_in h k ≡ w → (k ≡ n) ⊎ (k ≡ t)) where
  twin_has : (k : DartId) → HasDart g k → HasDart g (twin_in g k)
  twin_has k o =
      let z = s.twinned.back k (i.has_old k o) in
      subst (HasDart g) (i.twin_old k o) (i.had (twin_in h k) (s.twinned.has k (i.has_old k o))
      (λ q. not_m g h d t n m w i k o (sym z ∙ ap (twin_in h) q ∙ i.twin_n))
      (λ q. not_n g h d t n m w i k o (sym z ∙ ap (twin_in h) q ∙ i.twin_m)))

  pub twinned_back : IsTwinned g
  twinned_back = record {
    has = twin_has;
    back = λ k o. sym (i.twin_old (twin_in g k) (twin_has k o)) ∙ ap (twin_in h) (sym (i.twin_old k o)) ∙ s.twinned.back k (i.has_old k o);
    other = λ k o q. s.twinned.other k (i.has_old k o) (i.twin_old k o ∙ q);
    line = λ k o. sym (i.line_old (twin_in g k) (twin_has k o)) ∙ ap (line_in h) (sym (i.twin_old k o)) ∙ s.twinned.line k (i.has_old k o) ∙ i.line_old k o;
  }

  pub sourced_back : (k : DartId) → HasDart g k → HasVertex g (source_in g k)
  sourced_back k o =
      elim (cases_dart k t) [
        | inl q ↦ subst (λ z. HasVertex g (source_in g z)) (sym q) (i.vertex_had (source_in g t) (subst (HasVertex h) i.source_m (s.linked.source m i.has_m)) far_w)
        | inr nt ↦
            i.vertex_had (source_in g k) (subst (HasVertex h) (i.source_old k o nt) (s.linked.source k (i.has_old k o)))
            (λ q. elim (only k (i.has_old k o) (i.source_old k o nt ∙ q)) [ inl x ↦ not_n g h d t n m w i k o x | inr x ↦ nt x ])
      ]

  module _ (j : IsRejoined g h d t n m) (p : Point) (at_w : point_in h w ≡ p) (before : precedes (point_in g (source_in g d)) p ≡ true) (behind : precedes p (point_in g (source_in g t)) ≡ true)
      (parts : IsParted (edge_of_ends (point_in g (source_in g d)) (point_in g (source_in g t))) p) (plane : IsPlaneSkeleton (skeleton_of g)) where
    abbrev a : VertexId
    a = source_in g d

    abbrev b : VertexId
    b = source_in g t

    has_a : HasVertex g a
    has_a = sourced_back d i.has_d

    has_b : HasVertex g b
    has_b = sourced_back t i.has_t

    a_b : a ≢ b
    a_b = ends_apart g h d t n m w i twinned_back sourced_back p at_w before behind

    -- ---- points and lines
    line_whole : line_in g t ≡ line_in h m
    line_whole = ap (line_in g) (sym i.twin_d) ∙ twinned_back.line d i.has_d ∙ sym i.line_m

    starts : (k : DartId) → HasDart g k → side_of (line_in g k) (point_in g (source_in g k)) ≡ pos 0
    starts k o =
        elim (cases_dart k t) [
          | inl q ↦ subst (λ z. side_of (line_in g z) (point_in g (source_in g z)) ≡ pos 0) (sym q) (ap₂ side_of line_whole (sym (ap (point_in h) i.source_m ∙ i.vertex_point b has_b)) ∙ s.drawn.starts m i.has_m)
          | inr nt ↦ ap₂ side_of (sym (i.line_old k o)) (sym (ap (point_in h) (i.source_old k o nt) ∙ i.vertex_point (source_in g k) (sourced_back k o))) ∙ s.drawn.starts k (i.has_old k o)
        ]

    drawn : IsDrawn g
    drawn = record {
      proper = λ u gu. subst IsProper (i.vertex_point u gu) (s.drawn.proper u (i.vertex_has u gu));
      points = λ u x gu gx q. s.drawn.points u x (i.vertex_has u gu) (i.vertex_has x gx) (i.vertex_point u gu ∙ q ∙ sym (i.vertex_point x gx));
      line = λ k o. subst IsProperLine (i.line_old k o) (s.drawn.line k (i.has_old k o));
      starts = starts;
      ends = λ k o. ap (λ l. side_of l (point_in g (target_in g k))) (sym (twinned_back.line k o)) ∙ starts (twin_in g k) (twin_has k o);
    }

    -- ---- ways
    way_same : (k : DartId) → HasDart g k → k ≢ t → k ≢ d → dart_in h k ≡ dart_in g k
    way_same = same_way g h d t n m w i twinned_back sourced_back p at_w before behind

    whole_ahead : dart_in g d ≡ ahead (edge_of_ends (point_in g a) (point_in g b))
    whole_ahead = ways.whole_ahead g h d t n m w i twinned_back sourced_back p at_w before behind

    whole_back : dart_in g t ≡ back (edge_of_ends (point_in g a) (point_in g b))
    whole_back = ways.whole_back g h d t n m w i twinned_back sourced_back p at_w before behind

    near_ahead : dart_in h d ≡ ahead (edge_of_ends (point_in g a) p)
    near_ahead = ways.near_ahead g h d t n m w i twinned_back sourced_back p at_w before behind

    far_back : dart_in h m ≡ back (edge_of_ends p (point_in g b))
    far_back = ways.far_back g h d t n m w i twinned_back sourced_back p at_w before behind

    -- ---- darts out of a vertex, in one view and the other
    not_t : (x : VertexId) (k : DartId) → source_in g k ≡ x → x ≢ b → k ≢ t
    not_t x k at nb q = nb (sym at ∙ ap (source_in g) q)

    up : (x : VertexId) (k : ℕ) → Out (turns_in g) x.0 k → dart_id k ≢ t → Out (turns_in h) x.0 k
    up x k o nt = (i.has_old (dart_id k) o.0, ap (λ z. z.0) (i.source_old (dart_id k) o.0 nt) ∙ o.1)

    down : (x : VertexId) (k : ℕ) → Out (turns_in h) x.0 k → x ≢ w → dart_id k ≢ m → Out (turns_in g) x.0 k × (dart_id k ≢ t)
    down x k o nw nm =
        let nn : dart_id k ≢ n = λ q. nw (sym (ap vertex_id o.1) ∙ ap (source_in h) q ∙ i.source_n) in
        let nt : dart_id k ≢ t = λ q. nw (sym (ap vertex_id o.1) ∙ ap (source_in h) q ∙ i.source_t) in
        let had = i.had (dart_id k) o.0 nn nm in
        ((had, sym (ap (λ z. z.0) (i.source_old (dart_id k) had nt)) ∙ o.1), nt)

    not_m_there : (x : VertexId) (k : ℕ) → Out (turns_in h) x.0 k → x ≢ b → dart_id k ≢ m
    not_m_there x k o nb q = nb (sym (ap vertex_id o.1) ∙ ap (source_in h) q ∙ i.source_m)

    -- ---- who follows whom
    not_d : (k : DartId) → HasDart g k → k ≢ t → twin_in g k ≢ d
    not_d k o nt q = nt (sym (twinned_back.back k o) ∙ ap (twin_in g) q ∙ i.twin_d)

    after_same : (k : DartId) → HasDart g k → k ≢ t → next_in h (twin_in h k) ≢ m → next_in g (twin_in g k) ≡ next_in h (twin_in h k)
    after_same k o nt ne =
        j.same (twin_in g k) (twin_has k o) (not_d k o nt) (λ q. ne (ap (next_in h) (i.twin_old k o) ∙ q))
        ∙ ap (next_in h) (sym (i.twin_old k o))

    after_to : (k : DartId) → HasDart g k → k ≢ t → next_in h (twin_in h k) ≡ m → next_in g (twin_in g k) ≡ t
    after_to k o nt q = j.to (twin_in g k) (twin_has k o) (not_d k o nt) (ap (next_in h) (sym (i.twin_old k o)) ∙ q)

    after_away : (x : VertexId) (k : DartId) → HasDart g k → source_in g k ≡ x → x ≢ b → (next_in g (twin_in g k)).0 ≡ (next_in h (twin_in h k)).0
    after_away x k o at nb =
        let nt = not_t x k at nb in
        ap (λ z. z.0) (after_same k o nt (λ q. nb (sym at ∙ sym (i.source_old k o nt) ∙ sym (after_source h s k (i.has_old k o)) ∙ ap (source_in h) q ∙ i.source_m)))

    -- ---- rings
    strict_before : (u : VertexId) (k : DartId) → HasDart h k → source_in h k ≡ u → IsStrictOn earlier (OutOf (skeleton_of h) (point_in h u))
    strict_before u k o at = strict_at (skeleton_of h) (point_in h u) (dart_in h k) s.plane (out_of h s.twinned s.plane u k.0 (o, ap (λ z. z.0) at))

    strict_after : (u : VertexId) (k : DartId) → HasDart g k → source_in g k ≡ u → IsStrictOn earlier (OutOf (skeleton_of g) (point_in g u))
    strict_after u k o at = strict_at (skeleton_of g) (point_in g u) (dart_in g k) plane (out_of g twinned_back plane u k.0 (o, ap (λ z. z.0) at))

    ring_a : RingOf g a
    ring_a =
        renamed earlier (turns_in h) (turns_in g) a.0 (OutOf (skeleton_of h) (point_in h a)) (OutOf (skeleton_of g) (point_in g a))
        (strict_before a d (i.has_old d i.has_d) (i.source_old d i.has_d i.d_t)) (strict_after a d i.has_d refl) d.0 d.0 (record {
          from = λ k o. elim (cases_eq k d.0) [ inl q ↦ inl q | inr nd ↦ inr (up a k o (not_t a (dart_id k) (ap vertex_id o.1) a_b), nd) ];
          into = λ k o nd. (down_a k o).0;
          x_out = up a d.0 (i.has_d, refl) i.d_t;
          y_out = (i.has_d, refl);
          inside = λ k o. out_of g twinned_back plane a k o;
          way = λ k o nd. sym (way_same (dart_id k) (down_a k o).0.0 (down_a k o).1 (λ q. nd (ap (λ z. z.0) q)));
          same_left = λ k o nd. sym (alike_left _ _ (dart_in h (dart_id k)) _ _ whole_ahead near_ahead parts.at_low ((out_of h s.twinned s.plane a k o).at ∙ i.vertex_point a has_a));
          same_right = λ k o nd. sym (alike_right _ _ (dart_in h (dart_id k)) _ _ whole_ahead near_ahead parts.at_low ((out_of h s.twinned s.plane a k o).at ∙ i.vertex_point a has_a));
          after_y = λ ne. after_away a d i.has_d refl a_b;
          alone = λ q. after_away a d i.has_d refl a_b ∙ q;
          after_a = λ k o nd q. after_away a (dart_id k) (down_a k o).0.0 (ap vertex_id (down_a k o).0.1) a_b ∙ q;
          after = λ k o nd ne. after_away a (dart_id k) (down_a k o).0.0 (ap vertex_id (down_a k o).0.1) a_b;
        }) (sound_views_have_rings h a s (i.vertex_has a has_a))
      where
        down_a : (k : ℕ) → Out (turns_in h) a.0 k → Out (turns_in g) a.0 k × (dart_id k ≢ t)
        down_a k o = down a k o (not_w g h d t n m w i a has_a) (not_m_there a k o a_b)

    ring_b : RingOf g b
    ring_b =
        renamed earlier (turns_in h) (turns_in g) b.0 (OutOf (skeleton_of h) (point_in h b)) (OutOf (skeleton_of g) (point_in g b))
        (strict_before b m i.has_m i.source_m) (strict_after b t i.has_t refl) m.0 t.0 (record {
          from = λ k o. elim (cases_eq k t.0) [ inl q ↦ inl q | inr nt ↦ inr (up b k o (λ q. nt (ap (λ z. z.0) q)), λ q. not_m g h d t n m w i (dart_id k) o.0 (ap dart_id q)) ];
          into = λ k o nm. (down_b k o nm).0;
          x_out = (i.has_m, ap (λ z. z.0) i.source_m);
          y_out = (i.has_t, refl);
          inside = λ k o. out_of g twinned_back plane b k o;
          way = λ k o nm. sym (way_same (dart_id k) (down_b k o nm).0.0 (down_b k o nm).1 (λ q. a_b (ap (source_in g) (sym q) ∙ ap vertex_id (down_b k o nm).0.1)));
          same_left = λ k o nm. sym (alike_left _ _ (dart_in h (dart_id k)) _ _ whole_back far_back parts.at_high ((out_of h s.twinned s.plane b k o).at ∙ i.vertex_point b has_b));
          same_right = λ k o nm. sym (alike_right _ _ (dart_in h (dart_id k)) _ _ whole_back far_back parts.at_high ((out_of h s.twinned s.plane b k o).at ∙ i.vertex_point b has_b));
          after_y = λ ne. ap (λ z. z.0) (ap (next_in g) i.twin_t ∙ j.after_t (λ q. ne (ap (λ z. z.0) (ap (next_in h) i.twin_m ∙ q))) ∙ sym (ap (next_in h) i.twin_m));
          alone = λ q. ap (λ z. z.0) (ap (next_in g) i.twin_t ∙ j.alone (sym (ap (next_in h) i.twin_m) ∙ ap dart_id q));
          after_a = λ k o nm q. ap (λ z. z.0) (after_to (dart_id k) (down_b k o nm).0.0 (down_b k o nm).1 (ap dart_id q));
          after = λ k o nm ne. ap (λ z. z.0) (after_same (dart_id k) (down_b k o nm).0.0 (down_b k o nm).1 (λ q. ne (ap (λ z. z.0) q)));
        }) (sound_views_have_rings h b s (i.vertex_has b has_b))
      where
        down_b : (k : ℕ) → Out (turns_in h) b.0 k → k ≢ m.0 → Out (turns_in g) b.0 k × (dart_id k ≢ t)
        down_b k o nm = down b k o far_w (λ q. nm (ap (λ z. z.0) q))

    ring_other : (x : VertexId) → HasVertex g x → x ≢ b → x ≢ a → RingOf g x
    ring_other x gx nb na =
        kept earlier (turns_in h) (turns_in g) x.0 (OutOf (skeleton_of h) (point_in h x)) (OutOf (skeleton_of g) (point_in g x)) (record {
          from = λ k o. up x k o (not_t x (dart_id k) (ap vertex_id o.1) nb);
          into = λ k o. (down_x k o).0;
          inside = λ k o. out_of g twinned_back plane x k o;
          way = λ k o. sym (way_same (dart_id k) (down_x k o).0.0 (down_x k o).1 (λ q. na (sym (ap vertex_id (down_x k o).0.1) ∙ ap (source_in g) q)));
          after = λ k o. after_away x (dart_id k) (down_x k o).0.0 (ap vertex_id (down_x k o).0.1) nb;
        }) (sound_views_have_rings h x s (i.vertex_has x gx))
      where
        down_x : (k : ℕ) → Out (turns_in h) x.0 k → Out (turns_in g) x.0 k × (dart_id k ≢ t)
        down_x k o = down x k o (not_w g h d t n m w i x gx) (not_m_there x k o nb)

    ring : (x : VertexId) → HasVertex g x → RingOf g x
    ring x gx = elim (cases_vertex x b) [
      | inl q ↦ subst (RingOf g) (sym q) ring_b
      | inr nb ↦ elim (cases_vertex x a) [ inl q ↦ subst (RingOf g) (sym q) ring_a | inr na ↦ ring_other x gx nb na ]
    ]

    pub joined_sound : IsNamed g → IsGraphSound g
    joined_sound named = rings_make_sound_views g named twinned_back sourced_back drawn plane ring
