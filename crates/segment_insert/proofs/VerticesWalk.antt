-- Over the parts of an edge upwards to the one that has a point inside: where the walk goes, and that it ends.
use Rattle.std.proofs.Common.{◌≡◌, ℕ, ◌<◌, Bool, true, false, ap, subst}
use Rattle.std.specs.Prelude.{◌&&◌}
use Rattle.std.proofs.lemmas.Bool.{and_parts, and_from}
use Rattle.exact_plane.specs.Point.{Point}
use Rattle.plane_graphs.specs.Line.{IsProper, precedes}
use Rattle.plane_graphs.proofs.Lists.{clash}
use Rattle.plane_graphs.proofs.Order.{lt_out, lt_in, lt_trans, lt_both, lt_never}
use Rattle.slab_laws.specs.declared.names.DartId.{DartId}
use Rattle.slab_laws.specs.Skeleton.{inside}
use Rattle.slab_laws.specs.Sound.{edge_in, IsGraphSound}
use Rattle.slab_laws.specs.View.{View, vertex_id, point_in, source_in, twin_in, target_in, next_in}
use Rattle.arr_notes.specs.Curves.{IsForward}
use Rattle.rotation_order.proofs.Walks.{count, fewer}
use Rattle.sound_changes.proofs.SplitCases.{edge_of_ends, ahead_by}
use Rattle.sound_changes.proofs.PointInside.{IsInside, inside_out}
use Rattle.segment_insert.specs.Coming.{LeadsTo}
use Rattle.segment_insert.specs.Coming.LeadsTo.{here, onward}
use Rattle.integers.proofs.Tests.{not_true}

-- ---- a forward dart's edge, by its ends
pub forward_edge : (v : View) (d : DartId) → IsForward v d → edge_in v d ≡ edge_of_ends (point_in v (source_in v d)) (point_in v (target_in v d))
forward_edge v d f = ap (λ x. x.edge) (ahead_by (point_in v (source_in v d)) (point_in v (target_in v d)) f.1)

-- a point inside it is between them
pub inside_ends : (v : View) (d : DartId) (p : Point) → IsGraphSound v → IsForward v d → IsProper p → inside (edge_in v d) p ≡ true → IsInside (edge_of_ends (point_in v (source_in v d)) (point_in v (target_in v d))) p
inside_ends v d p s f proper i =
    inside_out (edge_of_ends (point_in v (source_in v d)) (point_in v (target_in v d))) p
    (s.drawn.proper (source_in v d) (s.linked.source d f.0)) (s.drawn.proper (target_in v d) (s.linked.source _ (s.twinned.has d f.0))) proper
    (subst (λ e. inside e p ≡ true) (forward_edge v d f) i)

-- ---- where the parts lead
pub leads_forward : (v : View) (p : Point) (e d : DartId) → LeadsTo v p e d → IsForward v d
leads_forward v p e d (here s) = (s.0, s.1)
leads_forward v p e d (onward c f l k) = f

pub leads_inside : (v : View) (p : Point) (e d : DartId) → LeadsTo v p e d → IsForward v e × (inside (edge_in v e) p ≡ true)
leads_inside v p e d (here s) = ((s.0, s.1), s.2)
leads_inside v p e d (onward c f l k) = leads_inside v p e (next_in v c) k

module _ (v : View) (p : Point) (s : IsGraphSound v) (proper : IsProper p) where
  not_beyond : (d : DartId) → IsForward v d → inside (edge_in v d) p ≡ true → precedes (point_in v (target_in v d)) p ≡ true → ⊥
  not_beyond d f i l = lt_both (inside_ends v d p s f proper i).before (lt_out (point_in v (target_in v d)) p l)

  -- a part that ends below the point is followed by the next one
  pub goes_on : (e d : DartId) → LeadsTo v p e d → precedes (point_in v (target_in v d)) p ≡ true → LeadsTo v p e (next_in v d)
  goes_on e d (here i) l = absurd (not_beyond e (i.0, i.1) i.2 l)
  goes_on e d (onward c f k m) l = m

  -- and another one has the point inside
  pub stops : (e d : DartId) → LeadsTo v p e d → precedes (point_in v (target_in v d)) p ≡ false → LeadsTo v p d d
  stops e d (here i) l = here i
  stops e d (onward c f k m) l = clash k l

  -- the parts lead to one dart
  pub leads_once : (e a d : DartId) → LeadsTo v p e d → LeadsTo v p a d → e ≡ a
  leads_once e a d (here i) (here j) = λ t. d
  leads_once e a d (here i) (onward c f k m) = absurd (not_beyond e (i.0, i.1) i.2 k)
  leads_once e a d (onward c f k m) n = leads_once e a (next_in v c) m (goes_on a c n k)

-- ---- vertices above a dart's source and below the point
abbrev is_passed : View → Point → DartId → ℕ → Bool
is_passed v p d n = precedes (point_in v (source_in v d)) (point_in v (vertex_id n)) && precedes (point_in v (vertex_id n)) p

-- how many there are
abbrev pub to_pass : View → Point → DartId → ℕ
to_pass v p d = count (is_passed v p d) v.vertices

before_trans : (p q r : Point) → precedes p q ≡ true → precedes q r ≡ true → precedes p r ≡ true
before_trans p q r h k = lt_in (lt_trans (lt_out p q h) (lt_out q r k))

before_never : (p : Point) → precedes p p ≡ true → ⊥
before_never p h = lt_never (lt_out p p h)

module _ (v : View) (p : Point) (s : IsGraphSound v) (d : DartId) (f : IsForward v d) (l : precedes (point_in v (target_in v d)) p ≡ true) where
  abbrev A : Point
  A = point_in v (source_in v d)

  abbrev B : Point
  B = point_in v (target_in v d)

  starts : point_in v (source_in v (next_in v d)) ≡ B
  starts = ap (point_in v) (s.linked.joins d f.0)

  still : (n : ℕ) → is_passed v p (next_in v d) n ≡ true → is_passed v p d n ≡ true
  still n k =
      let x : Point = point_in v (vertex_id n) in
      let a = and_parts (precedes (point_in v (source_in v (next_in v d))) x) (precedes x p) k in
      and_from (precedes A x) (precedes x p) (before_trans A B x f.1 (subst (λ y. precedes y x ≡ true) starts a.0)) a.1

  itself_not : is_passed v p (next_in v d) (target_in v d).0 ≡ true → ⊥
  itself_not k = before_never B (subst (λ y. precedes y B ≡ true) starts (and_parts (precedes (point_in v (source_in v (next_in v d))) B) (precedes B p) k).0)

  -- there are fewer above the source of the next part
  pub fewer_to_pass : to_pass v p (next_in v d) < to_pass v p d
  fewer_to_pass =
      fewer (is_passed v p (next_in v d)) (is_passed v p d) still v.vertices (target_in v d).0 (s.linked.source (twin_in v d) (s.twinned.has d f.0))
      (not_true (is_passed v p (next_in v d) (target_in v d).0) itself_not)
      (and_from (precedes A B) (precedes B p) f.1 l)
