-- Where the walk begins, and what it asks of the next step.
use Rattle.std.proofs.Common.{◌≡◌, false, Contains, List, [], refl, sym, ap, ◌∙◌, subst}
use Rattle.std.specs.List.{list_any}
use Rattle.std.specs.Ordering.{is_eq, nat_cmp}
use Rattle.exact_plane.specs.Point.{Point}
use Rattle.exact_plane.specs.Segment.{Segment, AreEnds}
use Rattle.exact_plane.specs.Span.{IsSpan, span_of_segment}
use Rattle.exact_plane.specs.WholeParts.{bounding_box}
use Rattle.plane_graphs.specs.Ascending.{Member}
use Rattle.plane_graphs.proofs.Lists.{clash}
use Rattle.slab_laws.specs.Sound.{IsGraphSound}
use Rattle.slab_laws.specs.View.{View, Faces}
use Rattle.dcel_records.specs.declared.spot.Spot.{Spot}
use Rattle.zone_walk.specs.FoundPoints.{entries_in}
use Rattle.zone_walk.specs.Searches.{AreFoundAfter}
use Rattle.zone_walk.specs.Walk.{IsSearchAt}
use Rattle.zone_walk.specs.Zone.{meeting_points}
use Rattle.zone_walk.specs.declared.search.Search.{Search}
use Rattle.zone_walk.proofs.Courses.{course}
use Rattle.zone_walk.proofs.MeetingPoints.{lower}
use Rattle.zone_walk.proofs.Stretches.{listed}

none_found : (v : View) (g : Segment) (p : Point) (es : List (Point × Spot)) → es ≡ [] → AreFoundAfter v g p es
none_found v g p es e q at m = absurd (subst (λ (xs : List (Point × Spot)). Member (q, at) xs) e m)

module _ (v : View) (f : Faces) (s : IsGraphSound v) (g : Segment) (l : Search) where
  pub began : (p : Point) → p ≡ g.lower → l.segment ≡ g → l.here ≡ g.lower → (entries_in l.found) ≡ [] → l.visited.keys ≡ [] → l.gathered ≡ false → AreEnds g → IsSpan (span_of_segment g) × (l.whole ≡ span_of_segment g) → l.bounds ≡ bounding_box l.whole → IsSearchAt v f g p l
  began p e segment here found visited gathered ends whole bounds = record {
    search = record {
      one = record { segment = refl; here = refl; visited = refl; whole = refl; bounds = refl; failed = λ z. z };
      sound = s;
      ends = subst AreEnds (sym segment) ends;
      whole = subst (λ (z : Segment). IsSpan (span_of_segment z)) (sym segment) whole.0;
      spanned = whole.1 ∙ ap span_of_segment (sym segment);
      boxed = bounds;
      stands = subst (λ (z : Segment). Contains (meeting_points v z) l.here) (sym segment) (subst (Contains (meeting_points v g)) (sym here) (listed v s g (course g ends) g.lower (lower refl)));
      found = none_found v l.segment l.here (entries_in l.found) found;
      kept = λ r m. m;
      gathered = λ z. absurd (clash z gathered);
    };
    segment = segment;
    here = here ∙ sym e;
    visited = λ b h. absurd (clash h (ap (λ ks. list_any (λ k. is_eq (nat_cmp b.0 k)) ks) visited));
  }

  module _ (p : Point) (a : IsSearchAt v f g p l) where
    pub at_itself : IsSearchAt v f l.segment l.here l
    at_itself = subst (λ (z : Segment). IsSearchAt v f z l.here l) (sym a.segment) (subst (λ (x : Point). IsSearchAt v f g x l) (sym a.here) a)
