-- The names of a sound view, and the darts that they name.
use Rattle.std.proofs.Common.{◌≡◌, Bool, true, false, not, refl, sym, ap, ap₂, ◌∙◌, subst, List, map, Equal}
use Rattle.std.specs.Prelude.{if◌then◌else◌}
use Rattle.std.specs.List.{Contains}
use Rattle.std.proofs.lemmas.Bool.{false≢true}
use Rattle.exact_plane.specs.Point.{Point}
use Rattle.exact_plane.specs.PointOrder.{point_cmp}
use Rattle.exact_plane.specs.PointOrderLaws.{same_point as point_cmp_exact}
use Rattle.integers.proofs.Classes.{then_equal}
use Rattle.integers.proofs.Tests.{not_true}
use Rattle.plane_graphs.specs.Ascending.{Member}
use Rattle.plane_graphs.specs.Line.{precedes}
use Rattle.plane_graphs.specs.Graph.{Edge, edge_cmp}
use Rattle.plane_graphs.proofs.Ascending.{to_member, from_member}
use Rattle.plane_graphs.proofs.Lists.{in_map, of_map, in_ascending, of_ascending}
use Rattle.plane_graphs.proofs.Order.{Tri, tri, lt_out, lt_in, lt_both}
use Rattle.plane_graphs.proofs.Order.Tri.{less, same, more}
use Rattle.plane_graphs.proofs.Meaning.{edge_cmp_total, edge_cmp_exact}
use Rattle.slab_laws.specs.declared.names.DartId.{DartId}
use Rattle.slab_laws.specs.declared.names.VertexId.{VertexId}
use Rattle.slab_laws.specs.Darts.{Dart, darts, source, target}
use Rattle.slab_laws.specs.Rotation.{twin, dart_cmp}
use Rattle.slab_laws.specs.Tables.{names}
use Rattle.slab_laws.specs.View.{View, HasVertex, HasDart, vertex_id, dart_id, point_in, source_in, twin_in, target_in}
use Rattle.slab_laws.specs.Sound.{skeleton_of, edge_between, edge_in, dart_in, IsTwinned, IsGraphSound}
use Rattle.slab_faces.proofs.Member.{member_in, in_member}
use Rattle.slab_faces.proofs.NextLemmas.{dart_out, dart_in as dart_there}
use Rattle.sound_views.specs.OrderLaws.{NamesAreDarts}
use Rattle.sound_views.proofs.NameTables.{has_name, name_has}

-- ---- a dart by its two points
-- from the first point to the second
abbrev pub by_points : Point → Point → Dart
by_points p q = record { edge = edge_between p q; forward = precedes p q }

-- the same, once it is known which point is the lesser
abbrev by_order : Bool → Point → Point → Dart
by_order b p q = record { edge = if b then record { low = p; high = q } else record { low = q; high = p }; forward = b }

from_first : (b : Bool) (p q : Point) → source (by_order b p q) ≡ p
from_first true p q = refl
from_first false p q = refl

to_second : (b : Bool) (p q : Point) → target (by_order b p q) ≡ q
to_second true p q = refl
to_second false p q = refl

pub source_by : (p q : Point) → source (by_points p q) ≡ p
source_by p q = from_first (precedes p q) p q

pub target_by : (p q : Point) → target (by_points p q) ≡ q
target_by p q = to_second (precedes p q) p q

turned_by : (a b : Bool) (p q : Point) → b ≡ not a → by_order b q p ≡ twin (by_order a p q)
turned_by true true p q e = absurd (false≢true (sym e))
turned_by true false p q e = refl
turned_by false true p q e = refl
turned_by false false p q e = absurd (false≢true e)

-- of two different points exactly one comes before the other
one_first : (p q : Point) → (p ≡ q → ⊥) → precedes q p ≡ not (precedes p q)
one_first p q f = step (tri p q)
  where
    step : Tri p q → precedes q p ≡ not (precedes p q)
    step (less l) = not_true (precedes q p) (λ k. lt_both l (lt_out q p k)) ∙ sym (ap not (lt_in l))
    step (same e) = absurd (f e)
    step (more l) = lt_in l ∙ sym (ap not (not_true (precedes p q) (λ k. lt_both l (lt_out p q k))))

pub twin_by : (p q : Point) → (p ≡ q → ⊥) → by_points q p ≡ twin (by_points p q)
twin_by p q f = turned_by (precedes p q) (precedes q p) p q (one_first p q f)

-- ---- the names of a view
pub vertex_name : (v : View) (w : VertexId) → HasVertex v w → Member w (map vertex_id (names v.vertices))
vertex_name v w has = in_map vertex_id w.0 (names v.vertices) (has_name v.vertices w.0 has)

pub named_vertex : (v : View) (w : VertexId) → Member w (map vertex_id (names v.vertices)) → HasVertex v w
named_vertex v w m = let r = of_map vertex_id w (names v.vertices) m in name_has v.vertices w.0 (subst (λ n. Member n (names v.vertices)) (sym (ap (λ u. u.0) r.2)) r.1)

pub dart_name : (v : View) (d : DartId) → HasDart v d → Member d (map dart_id (names v.darts))
dart_name v d has = in_map dart_id d.0 (names v.darts) (has_name v.darts d.0 has)

pub named_dart : (v : View) (d : DartId) → Member d (map dart_id (names v.darts)) → HasDart v d
named_dart v d m = let r = of_map dart_id d (names v.darts) m in name_has v.darts d.0 (subst (λ n. Member n (names v.darts)) (sym (ap (λ u. u.0) r.2)) r.1)

-- the edges that the rows of darts go along
abbrev pub row_edges : View → List Edge
row_edges v = map (λ r. edge_in v (dart_id r.0)) v.darts

pub edge_row : (v : View) (d : DartId) → HasDart v d → Member (edge_in v d) (row_edges v)
edge_row v d has =
    let r = of_map (λ r. r.0) d.0 v.darts (has_name v.darts d.0 has) in
    subst (λ n. Member (edge_in v (dart_id n)) (row_edges v)) (sym r.2) (in_map (λ r. edge_in v (dart_id r.0)) r.0 v.darts r.1)

pub row_edge : (v : View) (e : Edge) → Member e (row_edges v) → (d : DartId) × HasDart v d × (e ≡ edge_in v d)
row_edge v e m =
    let r = of_map (λ r. edge_in v (dart_id r.0)) e v.darts m in
    (dart_id r.0.0, name_has v.darts r.0.0 (in_map (λ r. r.0) r.0 v.darts r.1), r.2)

-- the edges of the graph are those of the names
pub edge_known : (v : View) (d : DartId) → HasDart v d → Contains (skeleton_of v).edges (edge_in v d)
edge_known v d has = from_member (skeleton_of v).edges (edge_in v d) (in_ascending edge_cmp edge_cmp_total edge_cmp_exact (edge_in v d) (row_edges v) (edge_row v d has))

pub known_edge : (v : View) (e : Edge) → Contains (skeleton_of v).edges e → (d : DartId) × HasDart v d × (e ≡ edge_in v d)
known_edge v e c = row_edge v e (of_ascending edge_cmp edge_cmp_total edge_cmp_exact e (row_edges v) (to_member (skeleton_of v).edges e c))

-- names whose darts the order does not tell apart have one dart
pub same_dart_of : (v : View) (d e : DartId) → dart_cmp (dart_in v d) (dart_in v e) ≡ Equal → dart_in v d ≡ dart_in v e
same_dart_of v d e k =
    let p = point_in v (source_in v d) in
    let q = point_in v (target_in v d) in
    let x = point_in v (source_in v e) in
    let y = point_in v (target_in v e) in
    let t = then_equal (point_cmp (source (dart_in v d)) (source (dart_in v e))) (point_cmp (target (dart_in v d)) (target (dart_in v e))) k in
    let a : p ≡ x = sym (source_by p q) ∙ point_cmp_exact (source (dart_in v d)) (source (dart_in v e)) t.0 ∙ source_by x y in
    let b : q ≡ y = sym (target_by p q) ∙ point_cmp_exact (target (dart_in v d)) (target (dart_in v e)) t.1 ∙ target_by x y in
    ap₂ by_points a b

-- ---- the names of a view whose twins are twins, and no dart of which ends where it begins
module _ (v : View) (twinned : IsTwinned v) (ends_differ : (d : DartId) → HasDart v d → point_in v (source_in v d) ≡ point_in v (target_in v d) → ⊥) where
  pub twin_drawn : (d : DartId) → HasDart v d → dart_in v (twin_in v d) ≡ twin (dart_in v d)
  twin_drawn d has =
      ap (λ e. by_points (point_in v (target_in v d)) (point_in v (source_in v e))) (twinned.back d has)
      ∙ twin_by (point_in v (source_in v d)) (point_in v (target_in v d)) (ends_differ d has)

  -- a name whose dart goes along the edge, or that name's twin
  either_way : (h : Dart) (d : DartId) → HasDart v d → h.edge ≡ edge_in v d → (d : DartId) × HasDart v d × (dart_in v d ≡ h)
  either_way h d has e = step h.forward (dart_in v d).forward refl refl
    where
      along : (f : Bool) → (dart_in v d).forward ≡ f → f ≡ h.forward → (d : DartId) × HasDart v d × (dart_in v d ≡ h)
      along f a b = (d, has, λ i. record { edge = (sym e) i; forward = (a ∙ b) i })

      against : (f : Bool) → not (dart_in v d).forward ≡ f → f ≡ h.forward → (d : DartId) × HasDart v d × (dart_in v d ≡ h)
      against f a b = (twin_in v d, twinned.has d has, twin_drawn d has ∙ (λ i. record { edge = (sym e) i; forward = (a ∙ b) i }))

      step : (f g : Bool) → h.forward ≡ f → (dart_in v d).forward ≡ g → (d : DartId) × HasDart v d × (dart_in v d ≡ h)
      step true true a b = along true b (sym a)
      step false false a b = along false b (sym a)
      step true false a b = against true (ap not b) (sym a)
      step false true a b = against false (ap not b) (sym a)

  -- a name of the dart
  pub named_along : (h : Dart) → Contains (skeleton_of v).edges h.edge → (d : DartId) × HasDart v d × (dart_in v d ≡ h)
  named_along h E = let r = known_edge v h.edge E in either_way h r.0 r.1 r.2

-- ---- the names of a sound view
module _ (v : View) (s : IsGraphSound v) where
  twin_points : (d : DartId) → HasDart v d → dart_in v (twin_in v d) ≡ by_points (point_in v (target_in v d)) (point_in v (source_in v d))
  twin_points d has = ap (λ e. by_points (point_in v (target_in v d)) (point_in v (source_in v e))) (s.twinned.back d has)

  -- else the twin would have the same dart
  ends_differ : (d : DartId) → HasDart v d → point_in v (source_in v d) ≡ point_in v (target_in v d) → ⊥
  ends_differ d has e = s.twinned.other d has (s.turned.differ (twin_in v d) d (s.twinned.has d has) has (twin_points d has ∙ ap₂ by_points (sym e) e))

  pub twin_dart : (d : DartId) → HasDart v d → dart_in v (twin_in v d) ≡ twin (dart_in v d)
  twin_dart = twin_drawn v s.twinned ends_differ

  pub known : (d : DartId) → HasDart v d → Contains (darts (skeleton_of v)) (dart_in v d)
  known d has = member_in (darts (skeleton_of v)) (dart_in v d) (dart_there (skeleton_of v) (edge_in v d) (dart_in v d).forward (edge_known v d has))

  pub there : (h : Dart) → Contains (darts (skeleton_of v)) h → (d : DartId) × HasDart v d × (dart_in v d ≡ h)
  there h c = named_along v s.twinned ends_differ h (dart_out (skeleton_of v) h (in_member (darts (skeleton_of v)) h c))

pub names_are_darts : NamesAreDarts
names_are_darts = record {
  known = λ v d s has. known v s d has;
  there = λ v h s c. there v s h c;
  source = λ v d s has. source_by (point_in v (source_in v d)) (point_in v (target_in v d));
  target = λ v d s has. target_by (point_in v (source_in v d)) (point_in v (target_in v d));
  twin = λ v d s has. twin_dart v s d has;
  next = λ v d s has. s.turned.turns d has;
}
