-- Which dart follows which after an edge went in two.
use Rattle.std.proofs.Common.{◌≡◌, ◌≢◌, ◌==◌, cond, sym, ap, ◌∙◌, subst}
use Rattle.exact_plane.specs.Point.{Point}
use Rattle.slab_laws.specs.declared.names.DartId.{DartId}
use Rattle.slab_laws.specs.declared.names.VertexId.{VertexId}
use Rattle.slab_laws.specs.Sound.{IsGraphSound}
use Rattle.slab_laws.specs.View.{View, DartRecord, HasDart, source_in, twin_in, next_in, line_in}
use Rattle.arr_notes.specs.Reads.{IsVertexMore, IsRedirected, IsPairMore, IsSourceSet, IsNextSet}
use Rattle.arr_notes.specs.ViewChanges.{with_vertex, with_pair, with_source, redirect}
use Rattle.arr_notes.proofs.DartReads.{next_is_set, source_is_set, darts_are_redirected}
use Rattle.arr_notes.proofs.PairReads.{pair_is_added}
use Rattle.arr_notes.proofs.Reading.{dart_number}
use Rattle.arr_notes.proofs.VertexReads.{vertex_is_added}
use Rattle.arr_notes.specs.Step.{split_edge}
use Rattle.sound_changes.specs.ChangeFits.{FitsSplit}
use Rattle.integers.proofs.Tests.{other_number}

module _ (v : View) (b : DartId) (w : VertexId) (q : Point) (n m : DartId) (s : IsGraphSound v) (c : FitsSplit v b w q n m) where
  abbrev t : DartId
  t = twin_in v b

  abbrev rn : DartRecord
  rn = record { source = w; twin = m; next = cond ((next_in v b).0 == t.0) m (next_in v b); line = line_in v b }

  abbrev rm : DartRecord
  rm = record { source = source_in v t; twin = n; next = t; line = line_in v b }

  abbrev v1 : View
  v1 = with_vertex v w q

  abbrev v2 : View
  v2 = redirect v1 t m

  abbrev v3 : View
  v3 = with_pair v2 n m rn rm

  abbrev v4 : View
  v4 = with_source v3 t w

  abbrev g : View
  g = split_edge v b w q n m

  x1 : IsVertexMore v v1 w q
  x1 = vertex_is_added v w q

  x2 : IsRedirected v1 v2 t m
  x2 = darts_are_redirected v1 t m

  x3 : IsPairMore v2 v3 n m rn rm
  x3 = pair_is_added v2 n m rn rm c.differ

  x4 : IsSourceSet v3 v4 t w
  x4 = source_is_set v3 t w

  x5 : IsNextSet v4 g b n
  x5 = next_is_set v4 b n

  not_n : (k : DartId) → HasDart v k → k ≢ n
  not_n k o e = c.first (subst (HasDart v) e o)

  not_m : (k : DartId) → HasDart v k → k ≢ m
  not_m k o e = c.second (subst (HasDart v) e o)

  has_3 : (k : DartId) → HasDart v k → HasDart v3 k
  has_3 k o = (x3.others k (not_n k o) (not_m k o)).has (x2.relinked.has k ((x1.darts k).has o))

  -- the lower part is followed by the upper one
  pub follows_lower : next_in g b ≡ n
  follows_lower = x5.next (x4.has b (has_3 b c.dart))

  -- and that by what followed the edge
  pub follows_upper : next_in v b ≢ t → next_in g n ≡ next_in v b
  follows_upper ne = (x5.others n (λ e. not_n b c.dart (sym e))).next ∙ x4.next n ∙ x3.first.next ∙ ap (λ z. cond z m (next_in v b)) (other_number (next_in v b).0 t.0 (dart_number (next_in v b) t ne))

  -- other darts are followed as before, but where the twin followed
  pub follows_old : (k : DartId) → HasDart v k → k ≢ b → next_in v k ≢ t → next_in g k ≡ next_in v k
  follows_old k o nb ne = (x5.others k nb).next ∙ x4.next k ∙ (x3.others k (not_n k o) (not_m k o)).next ∙ (x2.others k (λ e. ne (sym (x1.darts k).next ∙ e))).next ∙ (x1.darts k).next
