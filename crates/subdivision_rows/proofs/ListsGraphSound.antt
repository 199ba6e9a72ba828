-- The records of a plane drawing stand for its graph.
use Rattle.std.proofs.Common.{◌≡◌, Bool, true, false, refl, sym, ap, ap₂, ◌∙◌, subst}
use Rattle.std.specs.Prelude.{Some, slice_get, not, pos, map}
use Rattle.std.specs.List.{Contains}
use Rattle.std.proofs.lemmas.Bool.{false≢true}
use Rattle.exact_plane.specs.Line.{side_of}
use Rattle.plane_graphs.specs.Line.{IsProper, IsProperLine}
use Rattle.plane_graphs.specs.Graph.{Edge, edges}
use Rattle.plane_graphs.specs.Plane.{IsPlane}
use Rattle.slab_laws.specs.declared.names.DartId.{DartId}
use Rattle.slab_laws.specs.Skeleton as counted
use Rattle.slab_laws.specs.Skeleton.{same_edge}
use Rattle.slab_laws.specs.Darts.{Dart, darts, start, source}
use Rattle.slab_laws.specs.Rotation.{twin, next}
use Rattle.slab_laws.specs.Rows.{dart_list, vertex_place, edge_place, dart_place}
use Rattle.slab_laws.specs.View.{vertex_id, dart_id, source_in, twin_in, next_in}
use Rattle.slab_laws.specs.Sound.{IsNamed, IsTwinned, IsLinked, IsDrawn, IsTurned, IsGraphSound}
use Rattle.slab_faces.proofs.Member.{in_member}
use Rattle.slab_faces.proofs.NextLemmas.{next_from, next_one}
use Rattle.slab_faces.proofs.Places.{edges_exact}
use Rattle.subdivision_rows.specs.Listed.{Drawing, skeleton_in, line_at, vertex_record, dart_record, view_of, AreLinesOf}
use Rattle.sound_views.proofs.ListedRows.{numbered_ascend, slice_get_member}
use Rattle.sound_views.proofs.ListedPlaces.{at_place, to_in}
use Rattle.subdivision_rows.proofs.ListedRecords.{IsDart, vertex_of, has_vertex, dart_of, has_dart, point_of, source_of, line_of, plane, of_edges, dart_name, vertex_name, source_is, twin_is, next_is, source_point, target_point, dart_is}
use Rattle.subdivision_rows.proofs.ListsDrawn.{view_draws}

pub some_path : (h k : Dart) → Some h ≡ Some k → h ≡ k
some_path h k e = cc

no_fixed : (b : Bool) → not b ≡ b → ⊥
no_fixed true e = false≢true e
no_fixed false e = false≢true (sym e)

module _ (d : Drawing) (pl : IsPlane d.graph) where
  -- two names of one dart are one
  pub one_name : (e f : DartId) (h k : Dart) → IsDart d e h → IsDart d f k → h ≡ k → e ≡ f
  one_name e f h k i j q = sym (dart_name d pl e h i) ∙ ap (λ x. dart_id (dart_place (skeleton_in d) x)) q ∙ dart_name d pl f k j

  -- one name has one dart
  pub name_dart : (e f : DartId) (h k : Dart) → IsDart d e h → IsDart d f k → e ≡ f → h ≡ k
  name_dart e f h k i j q = some_path h k (sym i ∙ ap (λ n. slice_get (dart_list (skeleton_in d)) n.0) q ∙ j)

  named : IsNamed (view_of d)
  unfolding view_of
  named = record { vertices = numbered_ascend (map (vertex_record d) d.graph.points) 0; darts = numbered_ascend (map (dart_record d) (dart_list (skeleton_in d))) 0 }

  twinned : IsTwinned (view_of d)
  twinned = record {
    has = λ e has. let h = dart_of d e has in has_dart d (twin_in (view_of d) e) (twin h.0) (twin_is d pl e h.0 h.1);
    back = λ e has.
        let h = dart_of d e has in
        let t = twin_is d pl e h.0 h.1 in
        one_name (twin_in (view_of d) (twin_in (view_of d) e)) e (twin (twin h.0)) h.0 (twin_is d pl (twin_in (view_of d) e) (twin h.0) t) h.1 (twice h.0);
    other = λ e has same.
        let h = dart_of d e has in
        no_fixed h.0.forward (ap (λ x. x.forward) (name_dart (twin_in (view_of d) e) e (twin h.0) h.0 (twin_is d pl e h.0 h.1) h.1 same));
    line = λ e has. let h = dart_of d e has in line_of d (twin_in (view_of d) e) (twin h.0) (twin_is d pl e h.0 h.1) ∙ sym (line_of d e h.0 h.1);
  }
    where
      not_not : (b : Bool) → not (not b) ≡ b
      not_not true = refl
      not_not false = refl

      twice : (h : Dart) → twin (twin h) ≡ h
      twice h = let b = not_not h.forward in λ i. record { edge = h.edge; forward = b i }

  linked : IsLinked (view_of d)
  linked = record {
    source = λ e has. let h = dart_of d e has in has_vertex d (source_in (view_of d) e) (source h.0) (source_is d pl e h.0 h.1);
    has = λ e has. let h = dart_of d e has in has_dart d (next_in (view_of d) e) (next (darts (skeleton_in d)) h.0) (next_is d pl e h.0 h.1);
    joins = λ e has.
        let h = dart_of d e has in
        let n = next (darts (skeleton_in d)) h.0 in
        source_of d (next_in (view_of d) e) n (next_is d pl e h.0 h.1)
        ∙ ap (λ p. vertex_id (vertex_place (skeleton_in d) p)) (next_from (skeleton_in d) h.0 (plane d pl) (of_edges d pl e h.0 h.1)).at
        ∙ sym (source_of d (twin_in (view_of d) e) (twin h.0) (twin_is d pl e h.0 h.1));
    once = λ e f has has' same.
        let h = dart_of d e has in
        let k = dart_of d f has' in
        let q = name_dart (next_in (view_of d) e) (next_in (view_of d) f) (next (darts (skeleton_in d)) h.0) (next (darts (skeleton_in d)) k.0) (next_is d pl e h.0 h.1) (next_is d pl f k.0 k.1) same in
        one_name e f h.0 k.0 h.1 k.1 (next_one (skeleton_in d) h.0 k.0 (plane d pl) (of_edges d pl e h.0 h.1) (of_edges d pl f k.0 k.1) q);
  }

  -- ---- lines
  module _ (lines : AreLinesOf d) where
    end_on : (e : Edge) (f : Bool) → Contains (edges d.graph) e → side_of (line_at d (edge_place (skeleton_in d) e)) (start e f) ≡ pos 0
    end_on e true E = lines.lower_on (edge_place (skeleton_in d) e) e (at_place same_edge edges_exact (edges d.graph) e (in_member (edges d.graph) e E))
    end_on e false E = lines.upper_on (edge_place (skeleton_in d) e) e (at_place same_edge edges_exact (edges d.graph) e (in_member (edges d.graph) e E))

    is_line : (e : Edge) → Contains (edges d.graph) e → IsProperLine (line_at d (edge_place (skeleton_in d) e))
    is_line e E = lines.is_line (edge_place (skeleton_in d) e) e (at_place same_edge edges_exact (edges d.graph) e (in_member (edges d.graph) e E))

    drawn : IsDrawn (view_of d)
    drawn = record {
      proper = λ u has. let p = vertex_of d u has in subst IsProper (sym (point_of d u p.0 p.1)) (pl.proper p.0 (to_in d.graph.points p.0 (slice_get_member d.graph.points u.0 p.0 p.1)));
      line = λ e has. let h = dart_of d e has in subst IsProperLine (sym (line_of d e h.0 h.1)) (is_line h.0.edge (of_edges d pl e h.0 h.1));
      points = λ u w has has' same.
          let p = vertex_of d u has in
          let q = vertex_of d w has' in
          let e : p.0 ≡ q.0 = sym (point_of d u p.0 p.1) ∙ same ∙ point_of d w q.0 q.1 in
          sym (vertex_name d pl u p.0 p.1) ∙ ap (λ x. vertex_id (vertex_place (skeleton_in d) x)) e ∙ vertex_name d pl w q.0 q.1;
      starts = λ e has.
          let h = dart_of d e has in
          ap₂ side_of (line_of d e h.0 h.1) (source_point d pl e h.0 h.1) ∙ end_on h.0.edge h.0.forward (of_edges d pl e h.0 h.1);
      ends = λ e has.
          let h = dart_of d e has in
          ap₂ side_of (line_of d e h.0 h.1) (target_point d pl e h.0 h.1) ∙ end_on h.0.edge (not h.0.forward) (of_edges d pl e h.0 h.1);
    }

  turned : IsTurned (view_of d)
  turned = record {
    differ = λ e f has has' same.
        let h = dart_of d e has in
        let k = dart_of d f has' in
        one_name e f h.0 k.0 h.1 k.1 (sym (dart_is d pl e h.0 h.1) ∙ same ∙ dart_is d pl f k.0 k.1);
    turns = λ e has.
        let h = dart_of d e has in
        dart_is d pl (next_in (view_of d) e) (next (darts (skeleton_in d)) h.0) (next_is d pl e h.0 h.1)
        ∙ sym (ap₂ (λ s x. next (darts s) x) (view_draws d pl) (dart_is d pl e h.0 h.1));
  }

  pub graph_sound : AreLinesOf d → IsGraphSound (view_of d)
  graph_sound lines = record {
    named = named;
    twinned = twinned;
    linked = linked;
    drawn = drawn lines;
    turned = turned;
    plane = subst counted.IsPlaneSkeleton (sym (view_draws d pl)) (plane d pl);
  }
