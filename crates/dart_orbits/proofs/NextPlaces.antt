-- The places of the darts that follow.
use Rattle.std.proofs.Common.{◌≡◌, ℕ, ◌+◌, ◌<◌, ◌≤◌, false, List, [], ◌∷◌, ◌++◌, map, length, get_or, take, refl, sym, ap, ◌∙◌, subst, arith}
use Rattle.std.specs.List.{Contains}
use Rattle.std.proofs.lemmas.List.{length-map, get_or-map}
use Rattle.exact_plane.specs.Point.{Point}
use Rattle.exact_plane.specs.Span.{Span}
use Rattle.slab_laws.specs.declared.rows.ListedDart.{ListedDart}
use Rattle.slab_laws.specs.Skeleton.{Skeleton, IsPlaneSkeleton}
use Rattle.slab_laws.specs.Darts.{Dart, source, darts}
use Rattle.slab_laws.specs.SpansDrawn.{drawn, edge_of}
use Rattle.slab_laws.specs.Rotation.{twin, after, ring, next, OutOf}
use Rattle.slab_laws.specs.Rows.{dart_list, no_dart, dart_at, vertex_place, dart_place, dart_row, dart_rows, twin_places, next_places}
use Rattle.slab_faces.proofs.NextLemmas.{after_follows, ring_in}
use Rattle.dart_orbits.specs.DartRows.{row_dart}
use Rattle.dart_orbits.specs.Turns.{comes_first}
use Rattle.dart_orbits.specs.Ways.{no_row}
use Rattle.dart_orbits.proofs.Pushed.{pushed, all_pushed}
use Rattle.dart_orbits.proofs.Listed.{edge_within, row_dart_is, dart_there, place_of_dart, dart_within, dart_at_place, rows_length, row_there, row_at, source_in, one_vertex}
use Rattle.dart_orbits.proofs.Rounds.{first_follows}

-- of the darts with the source of the one at `from`, and of places below i, none is met before the one at `best`, from just
-- after the one at `from`
pub record IsFirstOf (g : Skeleton) (from best i : ℕ) : Type 0 where
  pub in' : best < length (dart_list g)
  pub out : source (dart_at g best) ≡ source (dart_at g from)
  pub none : (j : ℕ) → j < i → j < length (dart_list g) → source (dart_at g j) ≡ source (dart_at g from) → comes_first (dart_at g from) (dart_at g j) (dart_at g best) ≡ false

module _ (points : List Point) (edges : List Span) (rows : List ListedDart) (plane : IsPlaneSkeleton (drawn points edges)) (e : rows ≡ dart_rows (drawn points edges)) where
  abbrev G : Skeleton
  G = drawn points edges

  abbrev row : ℕ → ListedDart
  row k = get_or rows k no_row

  pub within : (k : ℕ) → k < length rows → k < length (dart_list (drawn points edges))
  within = row_there (drawn points edges) rows e

  row_is : (k : ℕ) → k < length rows → get_or rows k no_row ≡ dart_row (drawn points edges) (dart_at (drawn points edges) k)
  row_is k l = ap (λ rs. get_or rs k no_row) e ∙ row_at G plane k no_row (within k l)

  -- a row's edge is there
  pub edge_there : (k : ℕ) → k < length rows → (get_or rows k no_row).edge < length edges
  edge_there k l =
      let a = ap (λ r. r.edge) (row_is k l) in
      let b = edge_within G plane (dart_at G k).edge (dart_there G plane k (within k l)) in
      let c = length-map edges edge_of in
      omega arith

  pub dart_read : (k : ℕ) → k < length rows → row_dart (map edge_of edges) (get_or rows k no_row) ≡ dart_at (drawn points edges) k
  dart_read k l = ap (row_dart (map edge_of edges)) (row_is k l) ∙ row_dart_is G plane (dart_at G k) (dart_there G plane k (within k l))

  pub one_source : (j k : ℕ) → j < length rows → k < length rows → (get_or rows j no_row).source ≡ (get_or rows k no_row).source → source (dart_at (drawn points edges) j) ≡ source (dart_at (drawn points edges) k)
  one_source j k l m h =
      one_vertex G plane (source (dart_at G j)) (source (dart_at G k)) (source_in G plane (dart_at G j) (dart_there G plane j (within j l))) (source_in G plane (dart_at G k) (dart_there G plane k (within k m)))
      (sym (ap (λ r. r.source) (row_is j l)) ∙ h ∙ ap (λ r. r.source) (row_is k m))

  pub source_place : (j k : ℕ) → j < length rows → k < length rows → source (dart_at (drawn points edges) j) ≡ source (dart_at (drawn points edges) k) → (get_or rows j no_row).source ≡ (get_or rows k no_row).source
  source_place j k l m h = ap (λ r. r.source) (row_is j l) ∙ ap (vertex_place G) h ∙ sym (ap (λ r. r.source) (row_is k m))

  -- ---- the first one
  pub out_of : (j from : ℕ) → j < length (dart_list (drawn points edges)) → source (dart_at (drawn points edges) j) ≡ source (dart_at (drawn points edges) from) → OutOf (drawn points edges) (source (dart_at (drawn points edges) from)) (dart_at (drawn points edges) j)
  out_of j from l s = record { in' = dart_there G plane j l; at = s }

  pub vertex_there : (from : ℕ) → from < length rows → Contains points (source (dart_at (drawn points edges) from))
  vertex_there from l = source_in G plane (dart_at G from) (dart_there G plane from (within from l))

  pub first_is : (from best i : ℕ) → from < length rows → length rows ≤ i → IsFirstOf (drawn points edges) from best i → best ≡ dart_place (drawn points edges) (after (dart_at (drawn points edges) from) (ring (darts (drawn points edges)) (source (dart_at (drawn points edges) from))))
  first_is from best i f l h =
      let F = dart_at G from in
      let V = source F in
      let W = vertex_there from f in
      let E = dart_there G plane from (within from f) in
      let n = rows_length G in
      let m = ap length e in
      let follows = after_follows G V plane W F (ring_in G V plane W F.edge F.forward (record { in' = E; at = refl })) in
      let is : dart_at G best ≡ after F (ring (darts G) V) =
      first_follows G V plane W F (after F (ring (darts G) V)) (dart_at G best) follows (out_of best from h.in' h.out)
      (λ c out. let k = dart_within G plane c out.in' in
      let p = dart_at_place G plane c out.in' in
      subst (λ x. comes_first F x (dart_at G best) ≡ false) p (h.none (dart_place G c) (omega arith) k (ap source p ∙ out.at))) in
      sym (place_of_dart G plane best h.in') ∙ ap (dart_place G) is

  -- ---- the list
  pub twin_within : (twins : List ℕ) (k : ℕ) → twins ≡ twin_places (drawn points edges) → k < length twins → get_or twins k 0 < length rows
  unfolding twin_places
  twin_within twins k t l =
      let a = length-map (dart_list G) (λ d. dart_place G (twin d)) in
      let b = ap length t in
      let r : k < length (dart_list G) = omega arith in
      let c : get_or twins k 0 ≡ dart_place G (twin (dart_at G k)) = ap (λ ts. get_or ts k 0) t ∙ get_or-map (λ d. dart_place G (twin d)) (dart_list G) k no_dart 0 r in
      let w = dart_within G plane (twin (dart_at G k)) (dart_there G plane k r) in
      let n = rows_length G in
      let m = ap length e in
      omega arith

  next_of : (d : Dart) (x : Dart) → x ≡ twin d → after x (ring (darts (drawn points edges)) (source x)) ≡ next (darts (drawn points edges)) d
  unfolding next
  next_of d x h = ap (λ y. after y (ring (darts G) (source y))) h

  pub next_pushed : (twins : List ℕ) (k u : ℕ) (us vs : List ℕ) → twins ≡ twin_places (drawn points edges) → k < length twins → u ≡ dart_place (drawn points edges) (after (dart_at (drawn points edges) (get_or twins k 0)) (ring (darts (drawn points edges)) (source (dart_at (drawn points edges) (get_or twins k 0))))) → us ≡ take k (next_places (drawn points edges)) → vs ≡ us ++ (u ∷ []) → vs ≡ take (k + 1) (next_places (drawn points edges))
  unfolding next_places twin_places
  next_pushed twins k u us vs t l h a b =
      let p = length-map (dart_list G) (λ d. dart_place G (twin d)) in
      let q = ap length t in
      let r : k < length (dart_list G) = omega arith in
      let c : get_or twins k 0 ≡ dart_place G (twin (dart_at G k)) = ap (λ ts. get_or ts k 0) t ∙ get_or-map (λ d. dart_place G (twin d)) (dart_list G) k no_dart 0 r in
      let x : dart_at G (get_or twins k 0) ≡ twin (dart_at G k) = ap (dart_at G) c ∙ dart_at_place G plane (twin (dart_at G k)) (dart_there G plane k r) in
      pushed (λ d. dart_place G (next (darts G) d)) (dart_list G) k no_dart u us vs r (h ∙ ap (dart_place G) (next_of (dart_at G k) (dart_at G (get_or twins k 0)) x)) a b

  pub nexts_done : (twins : List ℕ) (k : ℕ) (us : List ℕ) → twins ≡ twin_places (drawn points edges) → length twins ≤ k → us ≡ take k (next_places (drawn points edges)) → us ≡ next_places (drawn points edges)
  unfolding next_places twin_places
  nexts_done twins k us t l a =
      let p = length-map (dart_list G) (λ d. dart_place G (twin d)) in
      let q = ap length t in
      all_pushed (λ d. dart_place G (next (darts G) d)) (dart_list G) k us (omega arith) a
