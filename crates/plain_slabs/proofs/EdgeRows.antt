-- The rows of darts, read at a place, and their edges.
use Rattle.std.proofs.Common.{◌≡◌, ℕ, ◌<◌, sym, ap, ◌∙◌, subst, List, map, length, get_or, Contains}
use Rattle.std.specs.List.{position_or_len}
use Rattle.std.proofs.lemmas.List.{get_or-map, length-map}
use Rattle.std.proofs.lemmas.List.Sums.{passes_at_first}
use Rattle.exact_plane.specs.Point.{Point}
use Rattle.exact_plane.specs.Span.{Span}
use Rattle.plane_graphs.specs.Graph.{Edge}
use Rattle.slab_laws.specs.SpansDrawn.{edge_of, drawn}
use Rattle.slab_laws.specs.Skeleton.{IsPlaneSkeleton, same_edge}
use Rattle.slab_laws.specs.Rows.{dart_at, dart_row, dart_rows}
use Rattle.slab_laws.specs.declared.rows.ListedDart.{ListedDart}
use Rattle.slab_faces.proofs.Slabs.{same_edge_is, same_edge_refl}
use Rattle.slab_faces.proofs.Searches.{first_there}
use Rattle.dart_orbits.proofs.Listed.{row_there, row_at}
use Rattle.dart_orbits.proofs.DartCells.{edge_there, dart_there}

-- ---- the edges of spans
module _ (ss : List Span) (e : Edge) (there : Contains (map edge_of ss) e) where
  pub edge_within : position_or_len (same_edge e) (map edge_of ss) < length ss
  edge_within = subst (λ n. position_or_len (same_edge e) (map edge_of ss) < n) (length-map ss edge_of) (first_there (same_edge e) (map edge_of ss) e there (same_edge_refl e))

  pub edge_found : (s : Span) → edge_of (get_or ss (position_or_len (same_edge e) (map edge_of ss)) s) ≡ e
  edge_found s =
      let k = first_there (same_edge e) (map edge_of ss) e there (same_edge_refl e) in
      sym (get_or-map edge_of ss _ s e edge_within) ∙ sym (same_edge_is e _ (passes_at_first (same_edge e) (map edge_of ss) e k))

-- ---- a row of darts, and the edge that it names
module _ (vs : List Point) (ss : List Span) (plane : IsPlaneSkeleton (drawn vs ss)) (rows : List ListedDart) (all : rows ≡ dart_rows (drawn vs ss)) where
  row_is : (k : ℕ) (r : ListedDart) → k < length rows → get_or rows k r ≡ dart_row (drawn vs ss) (dart_at (drawn vs ss) k)
  row_is k r h = ap (λ (xs : List ListedDart). get_or xs k r) all ∙ row_at (drawn vs ss) plane k r (row_there (drawn vs ss) rows all k h)

  pub on_edge : (k : ℕ) → k < length rows → Contains (map edge_of ss) (dart_at (drawn vs ss) k).edge
  on_edge k h = edge_there (drawn vs ss) plane (dart_at (drawn vs ss) k) (dart_there (drawn vs ss) plane k (row_there (drawn vs ss) rows all k h))

  pub row_within : (k : ℕ) (r : ListedDart) → k < length rows → (get_or rows k r).edge < length ss
  row_within k r h = subst (λ (q : ListedDart). q.edge < length ss) (sym (row_is k r h)) (edge_within ss (dart_at (drawn vs ss) k).edge (on_edge k h))

  pub row_edge : (k : ℕ) (r : ListedDart) → k < length rows → (s : Span) → s ≡ get_or ss (get_or rows k r).edge s → edge_of s ≡ (dart_at (drawn vs ss) k).edge
  row_edge k r h s e = ap edge_of e ∙ ap (λ (q : ListedDart). edge_of (get_or ss q.edge s)) (row_is k r h) ∙ edge_found ss (dart_at (drawn vs ss) k).edge (on_edge k h) s

  pub row_forward : (k : ℕ) (r : ListedDart) → k < length rows → (get_or rows k r).forward ≡ (dart_at (drawn vs ss) k).forward
  row_forward k r h = ap (λ (q : ListedDart). q.forward) (row_is k r h)
