-- One more edge: that it fits, and the one curve along it.
use Rattle.std.proofs.Common.{◌≡◌, ℕ, ◌==◌, cond, [], ◌∷◌, Option, sym, ap, ◌∙◌, inl, inr, nat_cmp}
use Rattle.exact_plane.specs.Line.{Line}
use Rattle.plane_graphs.specs.Ascending.{place}
use Rattle.plane_graphs.specs.Line.{IsProperLine}
use Rattle.slab_laws.specs.declared.names.DartId.{DartId}
use Rattle.slab_laws.specs.declared.names.VertexId.{VertexId}
use Rattle.slab_laws.specs.View.{View}
use Rattle.arr_notes.specs.Curves.{Curves}
use Rattle.arr_notes.proofs.Names.{cases_dart}
use Rattle.edge_link.specs.Links.{CanLink, AreNewDarts}
use Rattle.sound_changes.specs.EdgePlaces.{FitsAddedEdge}
use Rattle.sound_changes.proofs.StepCases.{at_other}

pub fits_added : (v : View) (d m : DartId) (u w : VertexId) (at_u at_w : Option DartId) (l : Line) → CanLink v u w at_u at_w l → AreNewDarts v d m → IsProperLine l → FitsAddedEdge v d m u w at_u at_w l
fits_added v d m u w at_u at_w l c n p = record {
  first_new = n.first;
  second_new = n.second;
  two_names = n.two;
  start = c.start;
  end = c.end;
  two_ends = c.two_ends;
  line = p;
  through_start = c.through_start;
  through_end = c.through_end;
  place_at_start = c.place_at_start;
  place_at_end = c.place_at_end;
}

-- one more curve along an edge that had none is its only one
pub one_curve : (h : Curves) (d : DartId) (c : ℕ) → h d ≡ [] → (x : DartId) → cond (x.0 == d.0) (place nat_cmp c (h x)) (h x) ≡ cond (x.0 == d.0) (c ∷ []) (h x)
unfolding place
one_curve h d c none x = elim (cases_dart x d) [
  | inl e ↦ ap (λ z. cond (x.0 == d.0) (place nat_cmp c (h z)) (h x)) e ∙ ap (λ ks. cond (x.0 == d.0) (place nat_cmp c ks) (h x)) none
  | inr ne ↦ at_other x d _ (h x) ne ∙ sym (at_other x d _ (h x) ne)
]
