-- Going through all vertices for one at a point.
use Rattle.std.proofs.Common.{◌≡◌, ◌≢◌, ℕ, ◌+◌, List, [], ◌∷◌, ◌++◌, length, map, Option, Some, None, refl, ap, ◌∙◌, arith, length-append}
use Rattle.std.specs.Prelude.{MatchOption}
use Rattle.std.proofs.lemmas.List.{length-map}
use Rattle.exact_plane.specs.Point.{Point}
use Rattle.slab_laws.specs.declared.names.VertexId.{VertexId}
use Rattle.slab_laws.specs.Tables.{names, NamesAscend}
use Rattle.slab_laws.specs.View.{View, HasVertex, vertex_id, point_in, vertex_after_in}
use Rattle.arr_notes.proofs.After.{all_left, pushed, ended}
use Rattle.sound_views.proofs.NamesMet.{AllVertices, vertices_left, no_vertex_yet, vertex_has, one_vertex_more, all_vertices}
use Rattle.dcel_records.specs.Spots.{IsVertexAt}

module _ (v : View) (p : Point) where
  -- so far one at the point was found, or none is at it; and a step was taken for each vertex that was looked at (this project)
  pub record AreLookedAt (start now : ℕ) (found last : Option VertexId) : Type 0 where
    pub looked : List VertexId
    pub whole : map vertex_id (names v.vertices) ≡ looked ++ vertices_left v last
    pub count : now ≡ start + length looked
    pub at : MatchOption found (AllVertices v (λ w. point_in v w ≢ p) last) (λ w. HasVertex v w × (point_in v w ≡ p))

  pub none_yet : (start : ℕ) → AreLookedAt start start None None
  none_yet start = record {
    looked = [];
    whole = all_left vertex_id (λ (u : VertexId). u.0) (λ n. refl) (names v.vertices);
    count = omega arith;
    at = no_vertex_yet v (λ w. point_in v w ≢ p);
  }

  module _ (start now : ℕ) (found last : Option VertexId) (r : AreLookedAt start now found last) where
    module _ (u : VertexId) (ascend : NamesAscend (names v.vertices)) (e : Some u ≡ vertex_after_in v last) (then : ℕ) (one : then ≡ now + 1) where
      more : map vertex_id (names v.vertices) ≡ (r.looked ++ u ∷ []) ++ vertices_left v (Some u)
      more = pushed vertex_id (λ (u : VertexId). u.0) (λ n. refl) (names v.vertices) r.looked (r.looked ++ u ∷ []) last u ascend e r.whole refl

      counted : then ≡ start + length (r.looked ++ u ∷ [])
      counted = let a = length-append r.looked (u ∷ []) in let c = r.count in omega arith

      pub one_at : point_in v u ≡ p → AreLookedAt start then (Some u) (Some u)
      one_at q = record { looked = r.looked ++ u ∷ []; whole = more; count = counted; at = (vertex_has v last u ascend e, q) }

      pub one_elsewhere : point_in v u ≢ p → AreLookedAt start then found (Some u)
      one_elsewhere n = record { looked = r.looked ++ u ∷ []; whole = more; count = counted; at = by found r.at }
        where
          by : (o : Option VertexId) → MatchOption o (AllVertices v (λ w. point_in v w ≢ p) last) (λ w. HasVertex v w × (point_in v w ≡ p))
              → MatchOption o (AllVertices v (λ w. point_in v w ≢ p) (Some u)) (λ w. HasVertex v w × (point_in v w ≡ p))
          by None h = one_vertex_more v last u ascend e (λ w. point_in v w ≢ p) h n
          by (Some w) h = h

    module _ (e : None ≡ vertex_after_in v last) where
      pub is_found : IsVertexAt v p found
      is_found = by found r.at
        where
          by : (o : Option VertexId) → MatchOption o (AllVertices v (λ w. point_in v w ≢ p) last) (λ w. HasVertex v w × (point_in v w ≡ p)) → IsVertexAt v p o
          by None h = all_vertices v (λ w. point_in v w ≢ p) last e h
          by (Some w) h = h

      pub all_counted : now ≡ start + length v.vertices
      all_counted =
          let a = ended vertex_id (λ (u : VertexId). u.0) (λ n. refl) (names v.vertices) r.looked last e r.whole in
          let b : length r.looked ≡ length v.vertices = ap length a ∙ length-map (names v.vertices) vertex_id ∙ length-map v.vertices (λ r. r.0) in
          let c = r.count in
          omega arith
