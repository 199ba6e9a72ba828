-- One more vertex, a pin, and no rows.
use Rattle.std.proofs.Common.{◌≡◌, ◌≢◌, ℕ, ◌==◌, Bool, cond, List, [], ◌∷◌, map, refl, sym, ap, ap₂, ◌∙◌, subst, inl, inr}
use Rattle.std.specs.List.{Contains}
use Rattle.std.proofs.lemmas.Bool.{cases_eq}
use Rattle.exact_plane.specs.Point.{Point}
use Rattle.exact_plane.specs.PointOrder.{point_cmp}
use Rattle.plane_graphs.specs.Ascending.{ascending}
use Rattle.plane_graphs.specs.Graph.{Edge, edge_cmp}
use Rattle.plane_graphs.specs.Line.{IsProper}
use Rattle.plane_graphs.proofs.Ascending.{to_member}
use Rattle.plane_graphs.proofs.Lists.{map_same}
use Rattle.slab_laws.specs.declared.names.DartId.{DartId}
use Rattle.slab_laws.specs.declared.names.VertexId.{VertexId}
use Rattle.slab_laws.specs.Skeleton.{IsPlaneSkeleton}
use Rattle.slab_laws.specs.Sound.{skeleton_of, edge_in, edge_between, IsGraphSound}
use Rattle.slab_laws.specs.View.{View, VertexRecord, HasVertex, HasDart, vertex_id, dart_id, point_in, source_in, target_in}
use Rattle.arr_notes.specs.Reads.{IsSameVertex}
use Rattle.arr_notes.specs.NamedRows.{each}
use Rattle.arr_notes.specs.ViewChanges.{no_rows, with_vertex, with_pin, pinned_as}
use Rattle.arr_notes.proofs.PairReads.{names_stay}
use Rattle.arr_notes.proofs.Reading.{keep}
use Rattle.arr_notes.proofs.VertexReads.{vertex_is_added, pin_is_set, nothing_is_there}
use Rattle.sound_changes.specs.ChangeFits.{IsNewVertex}
use Rattle.sound_changes.specs.SplitLaws.{NoRowsAreSound, VertexMoreKeepsViewsSound, PinsKeepViewsSound}
use Rattle.sound_changes.proofs.AlikeViews.{alike_sound}

-- ---- one more vertex
module _ (v : View) (w : VertexId) (p : Point) (s : IsGraphSound v) (n : IsNewVertex v w p) where
  abbrev h : View
  h = with_vertex v w p

  other : (u : VertexId) → u.0 ≢ w.0 → IsSameVertex v h u
  other u ne = (vertex_is_added v w p).others u (λ q. ne (ap (λ z. z.0) q))

  at_new : (u : VertexId) → u.0 ≡ w.0 → point_in h u ≡ p
  at_new u q = ap (λ z. point_in h (vertex_id z)) q ∙ (vertex_is_added v w p).point

  old_end : (d : DartId) → HasDart v d → (source_in v d).0 ≢ w.0
  old_end d has q = n.name (subst (HasVertex v) (ap vertex_id q) (s.linked.source d has))

  more_proper : (u : VertexId) → HasVertex h u → IsProper (point_in h u)
  more_proper u hu =
      elim (cases_eq u.0 w.0) [
        | inl q ↦ subst IsProper (sym (at_new u q)) n.proper
        | inr ne ↦ subst IsProper (sym (other u ne).point) (s.drawn.proper u ((other u ne).had hu))
      ]

  more_points : (u x : VertexId) → HasVertex h u → HasVertex h x → point_in h u ≡ point_in h x → u ≡ x
  more_points u x hu hx q =
      elim (cases_eq u.0 w.0) [
        | inl a ↦ elim (cases_eq x.0 w.0) [
          | inl b ↦ ap vertex_id (a ∙ sym b)
          | inr nb ↦ absurd (n.free x ((other x nb).had hx) (sym (other x nb).point ∙ sym q ∙ at_new u a))
        ]
        | inr na ↦ elim (cases_eq x.0 w.0) [
          | inl b ↦ absurd (n.free u ((other u na).had hu) (sym (other u na).point ∙ q ∙ at_new x b))
          | inr nb ↦ s.drawn.points u x ((other u na).had hu) ((other x nb).had hx) (sym (other u na).point ∙ q ∙ (other x nb).point)
        ]
      ]

  more : IsPlaneSkeleton (skeleton_of h) → IsGraphSound h
  more plane = alike_sound v h s (record {
    named = (names_stay v s.named).vertex w p;
    darts = (vertex_is_added v w p).darts;
    there = λ d has. (other (source_in v d) (old_end d has)).has (s.linked.source d has);
    at = λ d has. (other (source_in v d) (old_end d has)).point;
    proper = more_proper;
    points = more_points;
    plane = plane;
  })

pub vertex_more : VertexMoreKeepsViewsSound
vertex_more v w p s n plane = more v w p s n plane

-- ---- a pin
row_points : (f : ℕ → VertexRecord → VertexRecord) → ((k : ℕ) (r : VertexRecord) → (f k r).point ≡ r.point) → (rs : List (ℕ × VertexRecord)) → map (λ r. r.1.point) (each f rs) ≡ map (λ r. r.1.point) rs
unfolding each
row_points f e [] = refl
row_points f e (r ∷ rs) = ap₂ (λ (x : Point) (xs : List Point). x ∷ xs) (e r.0 r.1) (row_points f e rs)

module _ (v : View) (w : VertexId) (b : Bool) where
  pinned_draws : skeleton_of (with_pin v w b) ≡ skeleton_of v
  pinned_draws = ap₂ (λ (ps : List Point) (es : List Edge). record { vertices = ps; edges = es })
      (ap (ascending point_cmp) (row_points (λ n x. cond (n == w.0) (pinned_as b x) x) (λ k r. keep (λ x. x.point) (k == w.0) r (pinned_as b r) refl) v.vertices))
      (ap (ascending edge_cmp) (map_same (λ r. edge_in (with_pin v w b) (dart_id r.0)) (λ r. edge_in v (dart_id r.0)) v.darts (λ r k. edge_same (dart_id r.0))))
    where
      edge_same : (d : DartId) → edge_in (with_pin v w b) d ≡ edge_in v d
      edge_same d = ap₂ edge_between ((pin_is_set v w b).point (source_in v d)) ((pin_is_set v w b).point (target_in v d))

pub pinned : PinsKeepViewsSound
pinned v w b s =
    let k = pin_is_set v w b in
    alike_sound v (with_pin v w b) s (record {
      named = (names_stay v s.named).pin w b;
      darts = k.darts;
      there = λ d has. k.has (source_in v d) (s.linked.source d has);
      at = λ d has. k.point (source_in v d);
      proper = λ u hu. subst IsProper (sym (k.point u)) (s.drawn.proper u (k.had u hu));
      points = λ u x hu hx q. s.drawn.points u x (k.had u hu) (k.had x hx) (sym (k.point u) ∙ q ∙ k.point x);
      plane = subst IsPlaneSkeleton (sym (pinned_draws v w b)) s.plane;
    })

-- ---- no rows
no_point : (q : Point) → Contains [] q → ⊥
no_point q c = to_member [] q c

no_edge : (e : Edge) → Contains [] e → ⊥
no_edge e c = to_member [] e c

nothing_is_plane : IsPlaneSkeleton (record { vertices = []; edges = [] })
nothing_is_plane = record {
  proper = λ q c. absurd (no_point q c);
  lower_in = λ e c. absurd (no_edge e c);
  upper_in = λ e c. absurd (no_edge e c);
  lower_once = λ e c. absurd (no_edge e c);
  upper_once = λ e c. absurd (no_edge e c);
  proper_edge = λ e c. absurd (no_edge e c);
  forward = λ e c. absurd (no_edge e c);
  upright = λ e c. absurd (no_edge e c);
  edge_once = λ e c. absurd (no_edge e c);
  distinct = λ q x c. absurd (no_point q c);
  clear = λ e q c. absurd (no_edge e c);
  uncrossed = λ e f c. absurd (no_edge e c);
}

nothing_drawn : skeleton_of no_rows ≡ record { vertices = []; edges = [] }
unfolding ascending
nothing_drawn = refl

no_dart : (d : DartId) → HasDart no_rows d → ⊥
no_dart d h = nothing_is_there.1 d h

no_vertex : (w : VertexId) → HasVertex no_rows w → ⊥
no_vertex w h = nothing_is_there.0 w h

pub no_rows_sound : NoRowsAreSound
no_rows_sound = record {
  named = record { vertices = tt; darts = tt };
  twinned = record {
    has = λ d h. absurd (no_dart d h);
    back = λ d h. absurd (no_dart d h);
    other = λ d h. absurd (no_dart d h);
    line = λ d h. absurd (no_dart d h);
  };
  linked = record {
    source = λ d h. absurd (no_dart d h);
    has = λ d h. absurd (no_dart d h);
    joins = λ d h. absurd (no_dart d h);
    once = λ d e h. absurd (no_dart d h);
  };
  drawn = record {
    proper = λ u h. absurd (no_vertex u h);
    points = λ u w h. absurd (no_vertex u h);
    line = λ d h. absurd (no_dart d h);
    starts = λ d h. absurd (no_dart d h);
    ends = λ d h. absurd (no_dart d h);
  };
  turned = record { differ = λ d e h. absurd (no_dart d h); turns = λ d h. absurd (no_dart d h) };
  plane = subst IsPlaneSkeleton (sym nothing_drawn) nothing_is_plane;
}
