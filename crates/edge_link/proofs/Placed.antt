-- Where a link may be made, its edge fits, and the view with it is sound.
use Rattle.std.proofs.Common.{◌≡◌, ◌≢◌, Option, Some, None, option_map, refl, sym, subst, ◌∙◌}
use Rattle.exact_plane.specs.Line.{Line, IsLine}
use Rattle.plane_graphs.proofs.Lines.{line_is_proper}
use Rattle.slab_laws.specs.declared.names.DartId.{DartId}
use Rattle.slab_laws.specs.declared.names.VertexId.{VertexId}
use Rattle.slab_laws.specs.Darts.{Dart}
use Rattle.slab_laws.specs.Skeleton.{IsPlaneSkeleton}
use Rattle.slab_laws.specs.Sound.{skeleton_of, IsTwinned, IsGraphSound}
use Rattle.slab_laws.specs.View.{View, HasDart, twin_in}
use Rattle.arr_notes.specs.Step.{add_edge}
use Rattle.sound_changes.specs.EdgePlaces.{IsPlaceFor, FitsAddedEdge}
use Rattle.sound_changes.proofs.EdgeAdded.{more, added}
use Rattle.sound_changes.proofs.EdgeDrawn.{drawn_more}
use Rattle.sound_changes.proofs.FreshNames.{fresh}
use Rattle.edge_link.specs.Links.{CanLink, AreKnown, with_edge_between}

-- ---- places

-- the dart of a place has a record
pub place_known : (v : View) (w : VertexId) (o : Option DartId) (x : Dart) → IsPlaceFor v w o x → AreKnown v o
place_known v w None x p d e = absurd (cc)
place_known v w (Some b) x p d e = let same : b ≡ d = cc in subst (HasDart v) same p.0.0

-- ---- a link
module _ (v : View) (d m : DartId) (u w : VertexId) (at_u at_w : Option DartId) (l : Line) (s : IsGraphSound v) (f : CanLink v u w at_u at_w l) (k : IsLine l) (nd : ¬ HasDart v d) (nm : ¬ HasDart v m) (ne : d ≢ m) where
  fits : FitsAddedEdge v d m u w at_u at_w l
  fits = record {
    first_new = nd;
    second_new = nm;
    two_names = ne;
    start = f.start;
    end = f.end;
    two_ends = f.two_ends;
    line = line_is_proper l k;
    through_start = f.through_start;
    through_end = f.through_end;
    place_at_start = f.place_at_start;
    place_at_end = f.place_at_end;
  }

  drawn : with_edge_between v u w ≡ skeleton_of (add_edge v d m u w at_u at_w l)
  drawn =
      let t = drawn_more v (add_edge v d m u w at_u at_w l) d m u w l (more v d m u w at_u at_w l s fits) s.twinned (λ q. f.two_ends (s.drawn.points u w f.start f.end q)) (fresh v d m u w at_u at_w l s fits) in
      λ i. record { vertices = sym t.vertices i; edges = sym t.listed i }

  pub linked_sound : IsGraphSound (add_edge v d m u w at_u at_w l)
  linked_sound = added v d m u w at_u at_w l s fits (subst IsPlaneSkeleton drawn f.plane)

-- the dart that comes in before a known one is known
pub behind_known : (v : View) (o b : Option DartId) → IsTwinned v → AreKnown v o → b ≡ option_map (twin_in v) o → AreKnown v b
behind_known v None b t k q e h = absurd (cc)
behind_known v (Some c) b t k q e h =
    let both : Some (twin_in v c) ≡ Some e = sym q ∙ h in
    let same : twin_in v c ≡ e = cc in
    subst (HasDart v) same (t.has c (k c refl))
