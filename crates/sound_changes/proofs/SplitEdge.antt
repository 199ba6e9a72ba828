-- The view with an edge in two is sound, where the whole one was.
use Rattle.std.proofs.Common.{◌≡◌, ◌≢◌, inl, inr, ℕ, true, pos, refl, sym, ap, ap₂, ◌∙◌, subst}
use Rattle.std.proofs.lemmas.Bool.{cases_eq, false≢true}
use Rattle.exact_plane.specs.Point.{Point}
use Rattle.exact_plane.specs.Line.{side_of}
use Rattle.plane_graphs.specs.Line.{IsProper, IsProperLine, precedes}
use Rattle.rotation_order.specs.RingOrder.{IsStrictOn}
use Rattle.rotation_order.specs.Ring.{Out}
use Rattle.rotation_order.proofs.RingEdits.{kept, two, renamed}
use Rattle.rotation_order.specs.EdgeParts.{IsParted}
use Rattle.slab_laws.specs.declared.names.DartId.{DartId}
use Rattle.slab_laws.specs.declared.names.VertexId.{VertexId}
use Rattle.slab_laws.specs.Darts.{ahead, back}
use Rattle.slab_laws.specs.Rotation.{earlier, OutOf}
use Rattle.slab_laws.specs.Skeleton.{IsPlaneSkeleton}
use Rattle.slab_laws.specs.Sound.{skeleton_of, dart_in, IsNamed, IsTwinned, IsDrawn, IsGraphSound}
use Rattle.slab_laws.specs.View.{View, HasVertex, HasDart, vertex_id, dart_id, point_in, source_in, twin_in, next_in, target_in, line_in}
use Rattle.rotation_order.specs.VertexRings.{turns_in, RingOf}
use Rattle.rotation_order.proofs.RingNames.{out_of}
use Rattle.rotation_order.proofs.RingTurned.{strict_at}
use Rattle.rotation_order.proofs.SoundRings.{sound_views_have_rings, rings_make_sound_views}
use Rattle.sound_changes.specs.SplitHalves.{IsHalved}
use Rattle.sound_changes.proofs.SplitCases.{edge_of_ends}
use Rattle.sound_changes.proofs.SplitHalves.{not_w, three, where_is, point_n, point_t, point_m, point_old}
use Rattle.sound_changes.proofs.SplitDirections as ways
use Rattle.sound_changes.proofs.SplitDirections.{alike_left, alike_right, ends_apart, same_way}
use Rattle.arr_notes.proofs.Names.{cases_dart, cases_vertex}

-- which dart follows which, when the edge goes in two
pub record IsFollowed (g h : View) (d t n m : DartId) : Type 0 where
  pub after_t : next_in h d ≡ n
  pub after_n : next_in h m ≡ t
  pub after_m : next_in g d ≢ t → next_in h n ≡ next_in g d
  pub alone : next_in g d ≡ t → next_in h n ≡ m
  pub to : (k : DartId) → HasDart g k → k ≢ d → next_in g k ≡ t → next_in h k ≡ m
  pub same : (k : DartId) → HasDart g k → k ≢ d → next_in g k ≢ t → next_in h k ≡ next_in g k

-- p lies between the ends of d and t, on their line, where no vertex is
pub record IsCut (g : View) (d t : DartId) (p : Point) : Type 0 where
  pub proper : IsProper p
  pub before : precedes (point_in g (source_in g d)) p ≡ true
  pub behind : precedes p (point_in g (source_in g t)) ≡ true
  pub parted : IsParted (edge_of_ends (point_in g (source_in g d)) (point_in g (source_in g t))) p
  pub on : side_of (line_in g d) p ≡ pos 0
  pub free : (u : VertexId) → HasVertex g u → point_in g u ≢ p

-- what comes after the twin leaves the same vertex
pub after_source : (v : View) (s : IsGraphSound v) (k : DartId) → HasDart v k → source_in v (next_in v (twin_in v k)) ≡ source_in v k
after_source v s k o = s.linked.joins (twin_in v k) (s.twinned.has k o) ∙ ap (source_in v) (s.twinned.back k o)

module _ (g h : View) (d t n m : DartId) (w : VertexId) (i : IsHalved g h d t n m w) (f : IsFollowed g h d t n m) (s : IsGraphSound g) (p : Point) (at_w : point_in h w ≡ p) (c : IsCut g d t p) (plane : IsPlaneSkeleton (skeleton_of h)) where
  abbrev a : VertexId
  a = source_in g d

  abbrev b : VertexId
  b = source_in g t

  has_a : HasVertex g a
  has_a = s.linked.source d i.has_d

  has_b : HasVertex g b
  has_b = s.linked.source t i.has_t

  a_b : a ≢ b
  a_b = ends_apart g h d t n m w i s.twinned s.linked.source p at_w c.before c.behind

  twinned : IsTwinned h
  twinned = record {
    has = three g h d t n m w i (λ k. HasDart h (twin_in h k)) (subst (HasDart h) (sym i.twin_n) i.has_m) (subst (HasDart h) (sym i.twin_m) i.has_n)
        (λ k o. subst (HasDart h) (sym (i.twin_old k o)) (i.has_old (twin_in g k) (s.twinned.has k o)));
    back = three g h d t n m w i (λ k. twin_in h (twin_in h k) ≡ k) (ap (twin_in h) i.twin_n ∙ i.twin_m) (ap (twin_in h) i.twin_m ∙ i.twin_n)
        (λ k o. ap (twin_in h) (i.twin_old k o) ∙ i.twin_old (twin_in g k) (s.twinned.has k o) ∙ s.twinned.back k o);
    other = three g h d t n m w i (λ k. twin_in h k ≢ k) (λ q. i.n_m (sym q ∙ i.twin_n)) (λ q. i.n_m (sym i.twin_m ∙ q))
        (λ k o q. s.twinned.other k o (sym (i.twin_old k o) ∙ q));
    line = three g h d t n m w i (λ k. line_in h (twin_in h k) ≡ line_in h k) (ap (line_in h) i.twin_n ∙ i.line_m ∙ sym i.line_n) (ap (line_in h) i.twin_m ∙ i.line_n ∙ sym i.line_m)
        (λ k o. ap (line_in h) (i.twin_old k o) ∙ i.line_old (twin_in g k) (s.twinned.has k o) ∙ s.twinned.line k o ∙ sym (i.line_old k o));
  }

  sourced : (k : DartId) → HasDart h k → HasVertex h (source_in h k)
  sourced = three g h d t n m w i (λ k. HasVertex h (source_in h k)) (subst (HasVertex h) (sym i.source_n) i.w_has) (subst (HasVertex h) (sym i.source_m) (i.vertex_has b has_b))
      (λ k o. elim (cases_dart k t) [
        | inl q ↦ subst (λ z. HasVertex h (source_in h z)) (sym q) (subst (HasVertex h) (sym i.source_t) i.w_has)
        | inr nt ↦ subst (HasVertex h) (sym (i.source_old k o nt)) (i.vertex_has (source_in g k) (s.linked.source k o))
      ])

  -- ---- points and lines
  proper : (u : VertexId) → HasVertex h u → IsProper (point_in h u)
  proper u hu = elim (cases_vertex u w) [
    | inl q ↦ subst IsProper (sym (ap (point_in h) q ∙ at_w)) c.proper
    | inr ne ↦ let gu = i.vertex_had u hu ne in subst IsProper (sym (i.vertex_point u gu)) (s.drawn.proper u gu)
  ]

  points : (u x : VertexId) → HasVertex h u → HasVertex h x → point_in h u ≡ point_in h x → u ≡ x
  points u x hu hx q = elim (cases_vertex u w) [
    | inl e ↦ elim (cases_vertex x w) [
      | inl e' ↦ e ∙ sym e'
      | inr nx ↦ let gx = i.vertex_had x hx nx in absurd (c.free x gx (sym (i.vertex_point x gx) ∙ sym q ∙ ap (point_in h) e ∙ at_w))
    ]
    | inr nu ↦ let gu = i.vertex_had u hu nu in elim (cases_vertex x w) [
      | inl e' ↦ absurd (c.free u gu (sym (i.vertex_point u gu) ∙ q ∙ ap (point_in h) e' ∙ at_w))
      | inr nx ↦ let gx = i.vertex_had x hx nx in s.drawn.points u x gu gx (sym (i.vertex_point u gu) ∙ q ∙ i.vertex_point x gx)
    ]
  ]

  line_t : line_in g t ≡ line_in g d
  line_t = ap (line_in g) (sym i.twin_d) ∙ s.twinned.line d i.has_d

  starts : (k : DartId) → HasDart h k → side_of (line_in h k) (point_in h (source_in h k)) ≡ pos 0
  starts = three g h d t n m w i (λ k. side_of (line_in h k) (point_in h (source_in h k)) ≡ pos 0)
      (ap₂ side_of i.line_n (point_n g h d t n m w i s.linked.source p at_w) ∙ c.on)
      (ap₂ side_of (i.line_m ∙ sym line_t) (point_m g h d t n m w i s.linked.source p at_w) ∙ s.drawn.starts t i.has_t)
      (λ k o. elim (cases_dart k t) [
        | inl q ↦ subst (λ z. side_of (line_in h z) (point_in h (source_in h z)) ≡ pos 0) (sym q) (ap₂ side_of (i.line_old t i.has_t ∙ line_t) (point_t g h d t n m w i s.linked.source p at_w) ∙ c.on)
        | inr nt ↦ ap₂ side_of (i.line_old k o) (point_old g h d t n m w i s.linked.source p at_w k o nt) ∙ s.drawn.starts k o
      ])

  drawn : IsDrawn h
  drawn = record {
    proper = proper;
    points = points;
    line = three g h d t n m w i (λ k. IsProperLine (line_in h k)) (subst IsProperLine (sym i.line_n) (s.drawn.line d i.has_d)) (subst IsProperLine (sym i.line_m) (s.drawn.line d i.has_d))
        (λ k o. subst IsProperLine (sym (i.line_old k o)) (s.drawn.line k o));
    starts = starts;
    ends = λ k o. ap (λ l. side_of l (point_in h (target_in h k))) (sym (twinned.line k o)) ∙ starts (twin_in h k) (twinned.has k o);
  }

  -- ---- ways
  way_same : (k : DartId) → HasDart g k → k ≢ t → k ≢ d → dart_in h k ≡ dart_in g k
  way_same = same_way g h d t n m w i s.twinned s.linked.source p at_w c.before c.behind

  whole_ahead : dart_in g d ≡ ahead (edge_of_ends (point_in g a) (point_in g b))
  whole_ahead = ways.whole_ahead g h d t n m w i s.twinned s.linked.source p at_w c.before c.behind

  whole_back : dart_in g t ≡ back (edge_of_ends (point_in g a) (point_in g b))
  whole_back = ways.whole_back g h d t n m w i s.twinned s.linked.source p at_w c.before c.behind

  -- ---- who follows whom
  after_same : (k : DartId) → HasDart g k → k ≢ t → next_in g (twin_in g k) ≢ t → next_in h (twin_in h k) ≡ next_in g (twin_in g k)
  after_same k o nt ne = ap (next_in h) (i.twin_old k o) ∙ f.same (twin_in g k) (s.twinned.has k o) (λ q. nt (sym (s.twinned.back k o) ∙ ap (twin_in g) q ∙ i.twin_d)) ne

  after_to : (k : DartId) → HasDart g k → k ≢ t → next_in g (twin_in g k) ≡ t → next_in h (twin_in h k) ≡ m
  after_to k o nt q = ap (next_in h) (i.twin_old k o) ∙ f.to (twin_in g k) (s.twinned.has k o) (λ e. nt (sym (s.twinned.back k o) ∙ ap (twin_in g) e ∙ i.twin_d)) q

  not_before_t : (x : VertexId) (k : DartId) → HasDart g k → source_in g k ≡ x → x ≢ b → next_in g (twin_in g k) ≢ t
  not_before_t x k o at nb q = nb (sym at ∙ sym (after_source g s k o) ∙ ap (source_in g) q)

  not_t : (x : VertexId) (k : DartId) → source_in g k ≡ x → x ≢ b → k ≢ t
  not_t x k at nb q = nb (sym at ∙ ap (source_in g) q)

  -- away from b, what follows stays
  after_away : (x : VertexId) (k : DartId) → HasDart g k → source_in g k ≡ x → x ≢ b → (next_in h (twin_in h k)).0 ≡ (next_in g (twin_in g k)).0
  after_away x k o at nb = ap (λ e. e.0) (after_same k o (not_t x k at nb) (not_before_t x k o at nb))

  into_away : (x : VertexId) (k : ℕ) → Out (turns_in g) x.0 k → x ≢ b → Out (turns_in h) x.0 k
  into_away x k o nb = (i.has_old (dart_id k) o.0, ap (λ u. u.0) (i.source_old (dart_id k) o.0 (not_t x (dart_id k) (ap vertex_id o.1) nb)) ∙ o.1)

  -- ---- rings
  strict_before : (u : VertexId) (k : DartId) → HasDart g k → source_in g k ≡ u → IsStrictOn earlier (OutOf (skeleton_of g) (point_in g u))
  strict_before u k o at = strict_at (skeleton_of g) (point_in g u) (dart_in g k) s.plane (out_of g s.twinned s.plane u k.0 (o, ap (λ z. z.0) at))

  strict_after : (u : VertexId) (k : DartId) → HasDart h k → source_in h k ≡ u → IsStrictOn earlier (OutOf (skeleton_of h) (point_in h u))
  strict_after u k o at = strict_at (skeleton_of h) (point_in h u) (dart_in h k) plane (out_of h twinned plane u k.0 (o, ap (λ z. z.0) at))

  ring_w : RingOf h w
  ring_w =
      two earlier (turns_in h) (turns_in h) w.0 (OutOf (skeleton_of h) (point_in h w)) (strict_after w n i.has_n i.source_n) t.0 n.0 (record {
        from = λ k o. elim (where_is g h d t n m w i w (dart_id k) o.0 (ap vertex_id o.1)) [
          | inl e ↦ elim e.1 [ inl q ↦ inl (ap (λ z. z.0) q) | inr q ↦ inr (ap (λ z. z.0) q) ]
          | inr e ↦ elim e [
            | inl z ↦ absurd (not_w g h d t n m w i b has_b (sym z.0))
            | inr z ↦ absurd (not_w g h d t n m w i w (subst (HasVertex g) z.1 (s.linked.source (dart_id k) z.0)) refl)
          ]
        ];
        x_out = (i.has_old t i.has_t, ap (λ z. z.0) i.source_t);
        y_out = (i.has_n, ap (λ z. z.0) i.source_n);
        x_inside = out_of h twinned plane w t.0 (i.has_old t i.has_t, ap (λ z. z.0) i.source_t);
        y_inside = out_of h twinned plane w n.0 (i.has_n, ap (λ z. z.0) i.source_n);
        apart = λ q. false≢true (ap (λ z. z.forward) (sym (ways.near_back g h d t n m w i s.twinned s.linked.source p at_w c.before c.behind) ∙ q ∙ (ways.far_ahead g h d t n m w i s.twinned s.linked.source p at_w c.before c.behind)));
        after_x = ap (λ z. z.0) (ap (next_in h) (i.twin_old t i.has_t ∙ i.twin_t) ∙ f.after_t);
        after_y = ap (λ z. z.0) (ap (next_in h) i.twin_n ∙ f.after_n);
      })

  ring_a : RingOf h a
  ring_a =
      renamed earlier (turns_in g) (turns_in h) a.0 (OutOf (skeleton_of g) (point_in g a)) (OutOf (skeleton_of h) (point_in h a))
      (strict_before a d i.has_d refl) (strict_after a d (i.has_old d i.has_d) (i.source_old d i.has_d i.d_t)) d.0 d.0 (record {
        from = λ k o. elim (where_is g h d t n m w i a (dart_id k) o.0 (ap vertex_id o.1)) [
          | inl e ↦ absurd (not_w g h d t n m w i a has_a e.0)
          | inr e ↦ elim e [
            | inl z ↦ absurd (a_b z.0)
            | inr z ↦ elim (cases_eq k d.0) [ inl q ↦ inl q | inr nd ↦ inr ((z.0, ap (λ u. u.0) z.1), nd) ]
          ]
        ];
        into = λ k o nd. into_away a k o a_b;
        x_out = (i.has_d, refl);
        y_out = into_away a d.0 (i.has_d, refl) a_b;
        inside = λ k o. out_of h twinned plane a k o;
        way = λ k o nd. way_same (dart_id k) o.0 (not_t a (dart_id k) (ap vertex_id o.1) a_b) (λ q. nd (ap (λ z. z.0) q));
        same_left = λ k o nd. alike_left _ _ (dart_in g (dart_id k)) _ _ whole_ahead (ways.near_ahead g h d t n m w i s.twinned s.linked.source p at_w c.before c.behind) c.parted.at_low (out_of g s.twinned s.plane a k o).at;
        same_right = λ k o nd. alike_right _ _ (dart_in g (dart_id k)) _ _ whole_ahead (ways.near_ahead g h d t n m w i s.twinned s.linked.source p at_w c.before c.behind) c.parted.at_low (out_of g s.twinned s.plane a k o).at;
        after_y = λ ne. after_away a d i.has_d refl a_b;
        alone = λ q. after_away a d i.has_d refl a_b ∙ q;
        after_a = λ k o nd q. after_away a (dart_id k) o.0 (ap vertex_id o.1) a_b ∙ q;
        after = λ k o nd ne. after_away a (dart_id k) o.0 (ap vertex_id o.1) a_b;
      }) (sound_views_have_rings g a s has_a)

  ring_b : RingOf h b
  ring_b =
      renamed earlier (turns_in g) (turns_in h) b.0 (OutOf (skeleton_of g) (point_in g b)) (OutOf (skeleton_of h) (point_in h b))
      (strict_before b t i.has_t refl) (strict_after b m i.has_m i.source_m) t.0 m.0 (record {
        from = λ k o. elim (where_is g h d t n m w i b (dart_id k) o.0 (ap vertex_id o.1)) [
          | inl e ↦ absurd (not_w g h d t n m w i b has_b e.0)
          | inr e ↦ elim e [ inl z ↦ inl (ap (λ u. u.0) z.1) | inr z ↦ inr ((z.0, ap (λ u. u.0) z.1), λ q. z.2 (ap dart_id q)) ]
        ];
        into = λ k o nt. (i.has_old (dart_id k) o.0, ap (λ u. u.0) (i.source_old (dart_id k) o.0 (λ q. nt (ap (λ z. z.0) q))) ∙ o.1);
        x_out = (i.has_t, refl);
        y_out = (i.has_m, ap (λ z. z.0) i.source_m);
        inside = λ k o. out_of h twinned plane b k o;
        way = λ k o nt. way_same (dart_id k) o.0 (λ q. nt (ap (λ z. z.0) q)) (λ q. a_b (ap (source_in g) (sym q) ∙ ap vertex_id o.1));
        same_left = λ k o nt. alike_left _ _ (dart_in g (dart_id k)) _ _ whole_back (ways.far_back g h d t n m w i s.twinned s.linked.source p at_w c.before c.behind) c.parted.at_high (out_of g s.twinned s.plane b k o).at;
        same_right = λ k o nt. alike_right _ _ (dart_in g (dart_id k)) _ _ whole_back (ways.far_back g h d t n m w i s.twinned s.linked.source p at_w c.before c.behind) c.parted.at_high (out_of g s.twinned s.plane b k o).at;
        after_y = λ ne. ap (λ z. z.0) (ap (next_in h) i.twin_m ∙ f.after_m (λ q. ne (ap (λ z. z.0) (ap (next_in g) i.twin_t ∙ q))) ∙ sym (ap (next_in g) i.twin_t));
        alone = λ q. ap (λ z. z.0) (ap (next_in h) i.twin_m ∙ f.alone (sym (ap (next_in g) i.twin_t) ∙ ap dart_id q));
        after_a = λ k o nt q. ap (λ z. z.0) (after_to (dart_id k) o.0 (λ e. nt (ap (λ z. z.0) e)) (ap dart_id q));
        after = λ k o nt ne. ap (λ z. z.0) (after_same (dart_id k) o.0 (λ e. nt (ap (λ z. z.0) e)) (λ q. ne (ap (λ z. z.0) q)));
      }) (sound_views_have_rings g b s has_b)

  ring_other : (x : VertexId) → HasVertex h x → x ≢ w → x ≢ b → x ≢ a → RingOf h x
  ring_other x hx nw nb na =
      kept earlier (turns_in g) (turns_in h) x.0 (OutOf (skeleton_of g) (point_in g x)) (OutOf (skeleton_of h) (point_in h x)) (record {
        from = λ k o. elim (where_is g h d t n m w i x (dart_id k) o.0 (ap vertex_id o.1)) [
          | inl e ↦ absurd (nw e.0)
          | inr e ↦ elim e [ inl z ↦ absurd (nb z.0) | inr z ↦ (z.0, ap (λ u. u.0) z.1) ]
        ];
        into = λ k o. into_away x k o nb;
        inside = λ k o. out_of h twinned plane x k o;
        way = λ k o. way_same (dart_id k) o.0 (not_t x (dart_id k) (ap vertex_id o.1) nb) (λ q. na (sym (ap vertex_id o.1) ∙ ap (source_in g) q));
        after = λ k o. after_away x (dart_id k) o.0 (ap vertex_id o.1) nb;
      }) (sound_views_have_rings g x s (i.vertex_had x hx nw))

  ring : (x : VertexId) → HasVertex h x → RingOf h x
  ring x hx = elim (cases_vertex x w) [
    | inl q ↦ subst (RingOf h) (sym q) ring_w
    | inr nw ↦ elim (cases_vertex x b) [
      | inl q ↦ subst (RingOf h) (sym q) ring_b
      | inr nb ↦ elim (cases_vertex x a) [ inl q ↦ subst (RingOf h) (sym q) ring_a | inr na ↦ ring_other x hx nw nb na ]
    ]
  ]

  pub parted_sound : IsNamed h → IsGraphSound h
  parted_sound named = rings_make_sound_views h named twinned sourced drawn plane ring
