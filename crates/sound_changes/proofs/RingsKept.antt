-- What a view with one more edge has in common with the view without it.
use Rattle.std.proofs.Common.{◌≡◌, ◌≢◌, inl, inr, pos, IsSome, sym, ap, ap₂, ◌∙◌, subst}
use Rattle.std.proofs.lemmas.Bool.{cases_eq}
use Rattle.exact_plane.specs.Line.{Line, side_of}
use Rattle.plane_graphs.specs.Line.{IsProper, IsProperLine}
use Rattle.slab_laws.specs.declared.names.DartId.{DartId}
use Rattle.slab_laws.specs.declared.names.VertexId.{VertexId}
use Rattle.slab_laws.specs.Sound.{dart_in, IsTwinned, IsDrawn}
use Rattle.slab_laws.specs.Tables.{row_at}
use Rattle.slab_laws.specs.View.{View, HasVertex, HasDart, dart_id, point_or, point_in, source_in, twin_in, target_in, line_in}
use Rattle.sound_views.proofs.NamedDarts.{by_points}
use Rattle.sound_changes.specs.EdgePlaces.{dart_between, IsKeptDart, IsEdgeMore}

-- seen from its other end
pub swapped : (g h : View) (d m : DartId) (u w : VertexId) (l : Line) → IsEdgeMore g h d m u w l → IsEdgeMore g h m d w u l
swapped g h d m u w l p = record {
  first_new = p.second_new;
  second_new = p.first_new;
  two_names = λ q. p.two_names (sym q);
  two_ends = λ q. p.two_ends (sym q);
  first = p.second;
  second = p.first;
  source_first = p.source_second;
  source_second = p.source_first;
  twin_first = p.twin_second;
  twin_second = p.twin_first;
  line_first = p.line_second;
  line_second = p.line_first;
  vertices = p.vertices;
  others = λ e a b. p.others e b a;
}

module _ (g h : View) (d m : DartId) (u w : VertexId) (l : Line) (p : IsEdgeMore g h d m u w l) where
  -- ---- an old dart
  pub not_first : (k : DartId) → HasDart g k → k ≢ d
  not_first k o q = p.first_new (subst (λ z. HasDart g z) q o)

  pub not_second : (k : DartId) → HasDart g k → k ≢ m
  not_second k o q = p.second_new (subst (λ z. HasDart g z) q o)

  kept_dart : (k : DartId) → HasDart g k → IsKeptDart g h k
  kept_dart k o = p.others k (not_first k o) (not_second k o)

  pub up : (k : DartId) → HasDart g k → HasDart h k
  up k o = (kept_dart k o).has o

  pub source_old : (k : DartId) → HasDart g k → source_in h k ≡ source_in g k
  source_old k o = (kept_dart k o).source

  pub twin_old : (k : DartId) → HasDart g k → twin_in h k ≡ twin_in g k
  twin_old k o = (kept_dart k o).twin

  pub line_old : (k : DartId) → HasDart g k → line_in h k ≡ line_in g k
  line_old k o = (kept_dart k o).line

  -- ---- vertices
  pub point_same : (x : VertexId) → point_in h x ≡ point_in g x
  point_same x = ap (λ rs. point_or (row_at rs x.0)) p.vertices

  pub vertex_up : (x : VertexId) → HasVertex g x → HasVertex h x
  vertex_up x o = subst (λ rs. IsSome (row_at rs x.0)) (sym p.vertices) o

  pub vertex_down : (x : VertexId) → HasVertex h x → HasVertex g x
  vertex_down x o = subst (λ rs. IsSome (row_at rs x.0)) p.vertices o

  -- ---- d, m and the others
  pub three : (P : DartId → Type 0) → P d → P m → ((k : DartId) → k ≢ d → k ≢ m → P k) → (k : DartId) → P k
  three P at_d at_m at_k k =
      elim (cases_eq k.0 d.0) [
        | inl q ↦ subst P (sym (ap dart_id q)) at_d
        | inr nd ↦ elim (cases_eq k.0 m.0) [ inl q ↦ subst P (sym (ap dart_id q)) at_m | inr nm ↦ at_k k (λ q. nd (ap (λ z. z.0) q)) (λ q. nm (ap (λ z. z.0) q)) ]
      ]

  -- ---- twins
  pub twinned_up : IsTwinned g → IsTwinned h
  twinned_up t = record {
    has = three (λ k. HasDart h k → HasDart h (twin_in h k))
        (λ _. subst (λ z. HasDart h z) (sym p.twin_first) p.second)
        (λ _. subst (λ z. HasDart h z) (sym p.twin_second) p.first)
        (λ k a b o. let q = p.others k a b in subst (λ z. HasDart h z) (sym q.twin) (up (twin_in g k) (t.has k (q.had o))));
    back = three (λ k. HasDart h k → twin_in h (twin_in h k) ≡ k)
        (λ _. ap (λ z. twin_in h z) p.twin_first ∙ p.twin_second)
        (λ _. ap (λ z. twin_in h z) p.twin_second ∙ p.twin_first)
        (λ k a b o. let q = p.others k a b in ap (λ z. twin_in h z) q.twin ∙ twin_old (twin_in g k) (t.has k (q.had o)) ∙ t.back k (q.had o));
    other = three (λ k. HasDart h k → twin_in h k ≢ k)
        (λ _ e. p.two_names (sym e ∙ p.twin_first))
        (λ _ e. p.two_names (sym p.twin_second ∙ e))
        (λ k a b o e. let q = p.others k a b in t.other k (q.had o) (sym q.twin ∙ e));
    line = three (λ k. HasDart h k → line_in h (twin_in h k) ≡ line_in h k)
        (λ _. ap (λ z. line_in h z) p.twin_first ∙ p.line_second ∙ sym p.line_first)
        (λ _. ap (λ z. line_in h z) p.twin_second ∙ p.line_first ∙ sym p.line_second)
        (λ k a b o. let q = p.others k a b in ap (λ z. line_in h z) q.twin ∙ line_old (twin_in g k) (t.has k (q.had o)) ∙ t.line k (q.had o) ∙ sym q.line);
  }

  -- an old dart's twin is old
  twin_stays : IsTwinned h → (k : DartId) → HasDart g k → HasDart g (twin_in g k)
  twin_stays t k o =
      let q = kept_dart k o in
      let back = t.back k (q.has o) in
      let a : twin_in h k ≢ d = λ e. not_second k o (sym back ∙ ap (λ z. twin_in h z) e ∙ p.twin_first) in
      let b : twin_in h k ≢ m = λ e. not_first k o (sym back ∙ ap (λ z. twin_in h z) e ∙ p.twin_second) in
      subst (λ z. HasDart g z) q.twin ((p.others (twin_in h k) a b).had (t.has k (q.has o)))

  pub twinned_down : IsTwinned h → IsTwinned g
  twinned_down t = record {
    has = twin_stays t;
    back = λ k o. sym (twin_old (twin_in g k) (twin_stays t k o)) ∙ ap (λ z. twin_in h z) (sym (twin_old k o)) ∙ t.back k (up k o);
    other = λ k o e. t.other k (up k o) (twin_old k o ∙ e);
    line = λ k o. sym (line_old (twin_in g k) (twin_stays t k o)) ∙ ap (λ z. line_in h z) (sym (twin_old k o)) ∙ t.line k (up k o) ∙ line_old k o;
  }

  -- ---- sources
  pub sourced_up : HasVertex g u → HasVertex g w → ((k : DartId) → HasDart g k → HasVertex g (source_in g k)) → (k : DartId) → HasDart h k → HasVertex h (source_in h k)
  sourced_up U W s =
      three (λ k. HasDart h k → HasVertex h (source_in h k))
      (λ _. subst (λ z. HasVertex h z) (sym p.source_first) (vertex_up u U))
      (λ _. subst (λ z. HasVertex h z) (sym p.source_second) (vertex_up w W))
      (λ k a b o. let q = p.others k a b in subst (λ z. HasVertex h z) (sym q.source) (vertex_up (source_in g k) (s k (q.had o))))

  pub sourced_down : ((k : DartId) → HasDart h k → HasVertex h (source_in h k)) → (k : DartId) → HasDart g k → HasVertex g (source_in g k)
  sourced_down s k o = vertex_down (source_in g k) (subst (λ z. HasVertex h z) (source_old k o) (s k (up k o)))

  -- ---- where darts go
  pub start_old : (k : DartId) → HasDart g k → point_in h (source_in h k) ≡ point_in g (source_in g k)
  start_old k o = ap (λ z. point_in h z) (source_old k o) ∙ point_same (source_in g k)

  pub end_old : IsTwinned g → (k : DartId) → HasDart g k → point_in h (target_in h k) ≡ point_in g (target_in g k)
  end_old t k o = ap (λ z. point_in h (source_in h z)) (twin_old k o) ∙ start_old (twin_in g k) (t.has k o)

  pub way_old : IsTwinned g → (k : DartId) → HasDart g k → dart_in h k ≡ dart_in g k
  way_old t k o = ap₂ by_points (start_old k o) (end_old t k o)

  start_new : point_in h (source_in h d) ≡ point_in g u
  start_new = ap (λ z. point_in h z) p.source_first ∙ point_same u

  end_new : point_in h (target_in h d) ≡ point_in g w
  end_new = ap (λ z. point_in h (source_in h z)) p.twin_first ∙ ap (λ z. point_in h z) p.source_second ∙ point_same w

  pub way_new : dart_in h d ≡ dart_between (point_in g u) (point_in g w)
  way_new = ap₂ by_points start_new end_new

  -- ---- lines
  start_back : point_in h (source_in h m) ≡ point_in g w
  start_back = ap (λ z. point_in h z) p.source_second ∙ point_same w

  end_back : point_in h (target_in h m) ≡ point_in g u
  end_back = ap (λ z. point_in h (source_in h z)) p.twin_second ∙ start_new

  pub drawn_up : IsTwinned g → IsProperLine l → side_of l (point_in g u) ≡ pos 0 → side_of l (point_in g w) ≡ pos 0 → IsDrawn g → IsDrawn h
  drawn_up t proper at_u at_w r = record {
    proper = λ x o. subst IsProper (sym (point_same x)) (r.proper x (vertex_down x o));
    points = λ x y a b e. r.points x y (vertex_down x a) (vertex_down y b) (sym (point_same x) ∙ e ∙ point_same y);
    line = three (λ k. HasDart h k → IsProperLine (line_in h k))
        (λ _. subst IsProperLine (sym p.line_first) proper)
        (λ _. subst IsProperLine (sym p.line_second) proper)
        (λ k a b o. let q = p.others k a b in subst IsProperLine (sym q.line) (r.line k (q.had o)));
    starts = three (λ k. HasDart h k → side_of (line_in h k) (point_in h (source_in h k)) ≡ pos 0)
        (λ _. (λ i. side_of (p.line_first i) (start_new i)) ∙ at_u)
        (λ _. (λ i. side_of (p.line_second i) (start_back i)) ∙ at_w)
        (λ k a b o. let q = p.others k a b in let s = start_old k (q.had o) in (λ i. side_of (q.line i) (s i)) ∙ r.starts k (q.had o));
    ends = three (λ k. HasDart h k → side_of (line_in h k) (point_in h (target_in h k)) ≡ pos 0)
        (λ _. (λ i. side_of (p.line_first i) (end_new i)) ∙ at_w)
        (λ _. (λ i. side_of (p.line_second i) (end_back i)) ∙ at_u)
        (λ k a b o. let q = p.others k a b in let s = end_old t k (q.had o) in (λ i. side_of (q.line i) (s i)) ∙ r.ends k (q.had o));
  }

  pub drawn_down : IsTwinned g → IsDrawn h → IsDrawn g
  drawn_down t r = record {
    proper = λ x o. subst IsProper (point_same x) (r.proper x (vertex_up x o));
    points = λ x y a b e. r.points x y (vertex_up x a) (vertex_up y b) (point_same x ∙ e ∙ sym (point_same y));
    line = λ k o. subst IsProperLine (line_old k o) (r.line k (up k o));
    starts = λ k o. let a = line_old k o in let b = start_old k o in sym (λ i. side_of (a i) (b i)) ∙ r.starts k (up k o);
    ends = λ k o. let a = line_old k o in let b = end_old t k o in sym (λ i. side_of (a i) (b i)) ∙ r.ends k (up k o);
  }
