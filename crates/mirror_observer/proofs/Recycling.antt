-- The darts of a cycle that goes are found at one of two darts, or there are none.
use Rattle.std.proofs.Common.{◌≡◌, ◌≢◌, ℕ, ◌==◌, cond, List, Option, Some, refl, sym, ap, ◌∙◌, subst}
use Rattle.slab_laws.specs.declared.names.CycleId.{CycleId}
use Rattle.slab_laws.specs.declared.names.DartId.{DartId}
use Rattle.slab_laws.specs.View.{View, Faces, HasDart, dart_id, cycle_in}
use Rattle.arr_notes.specs.CycleNames.{cycle_label}
use Rattle.arr_notes.specs.FaceWriters.{recycled, orbit_on}
use Rattle.arr_notes.specs.NamedRows.{each}
use Rattle.slab_laws.specs.View.{DartRecord, VertexRecord}
use Rattle.mirror_observer.specs.declared.tables.DartEntry.{DartEntry}
use Rattle.mirror_observer.specs.FaceParts.{AreFacesSound, HasEntry, IsFoundAt}
use Rattle.mirror_observer.specs.FaceTables.{AreDartsSound, AreRowsOfDarts}
use Rattle.mirror_observer.specs.Tables.{graph_of, darts_of}
use Rattle.mirror_observer.proofs.CycleGone.{orbit_is_cycle, recycled_none}

-- an orbit is told by the darts alone
other_points : (a b : List (ℕ × VertexRecord)) (ds : List (ℕ × DartRecord)) (x : DartId) → cycle_label (record { vertices = a; darts = ds }) x ≡ cycle_label (record { vertices = b; darts = ds }) x
unfolding cycle_label
other_points a b ds x = refl

one_label : (v w : View) → v.darts ≡ w.darts → (x : DartId) → cycle_label v x ≡ cycle_label w x
one_label v w e x = ap (λ ds. cycle_label (record { vertices = v.vertices; darts = ds }) x) e ∙ other_points v.vertices w.vertices w.darts x

pub one_orbit : (v w : View) → v.darts ≡ w.darts → (d : DartId) (c : CycleId) (f : Faces) → orbit_on v d c f ≡ orbit_on w d c f
one_orbit v w e d c f = λ i. record {
  cycle_of = each (λ k b. cond ((one_label v w e (dart_id k) i).0 == (one_label v w e d i).0) c b) f.cycle_of;
  bare = f.bare;
  cycles = f.cycles;
  faces = f.faces;
}

module _ (ds : List (ℕ × DartEntry)) (f : Faces) (s : AreFacesSound ds f) where
  pub darts_sound : AreDartsSound ds
  darts_sound = (s.0, s.1.graph)

  pub rows_of_darts : AreRowsOfDarts ds f.cycle_of
  rows_of_darts d h = (s.1.complete.cycle_rows d).1 h

  pub has_named : (o : Option DartId) (d : DartId) → HasEntry ds o → o ≡ Some d → HasDart (darts_of ds) d
  has_named o d h e = subst (λ p. HasEntry ds p) e h

  pub walked : (gone kept : CycleId) (d : DartId) → HasDart (darts_of ds) d → cycle_in f d ≡ gone → (g : Faces) → g ≡ orbit_on (darts_of ds) d kept f → g ≡ recycled gone kept f
  walked gone kept d h e g q = q ∙ one_orbit (darts_of ds) (graph_of s.0 ds) refl d kept f ∙ orbit_is_cycle gone kept (graph_of s.0 ds) f s.1 d h e

  pub nowhere : (gone kept : CycleId) (first second : Option DartId) → IsFoundAt ds f gone first second → ((d : DartId) → first ≡ Some d → cycle_in f d ≢ gone) → ((d : DartId) → second ≡ Some d → cycle_in f d ≢ gone) → f ≡ recycled gone kept f
  nowhere gone kept first second found a b = sym (recycled_none gone kept (graph_of s.0 ds) f s.1 (found a b))
