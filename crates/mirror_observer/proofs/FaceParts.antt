-- What is written while the darts are as they were, and then what waits for them, is what a link or an unlink makes of the tables.
use Rattle.std.proofs.Common.{◌≡◌, ℕ, Option, is_some, IsSome, refl, ap, ◌∙◌}
use Rattle.slab_laws.specs.declared.names.DartId.{DartId}
use Rattle.slab_laws.specs.declared.names.VertexId.{VertexId}
use Rattle.slab_laws.specs.declared.names.CycleKind.TheVariants.{Inner, Outer}
use Rattle.slab_laws.specs.Tables.{row_at}
use Rattle.slab_laws.specs.View.{View, Faces, face_in}
use Rattle.arr_notes.specs.FaceSteps.{step_faces}
use Rattle.arr_notes.specs.FacesTold.{linked_faces, unlinked_faces}
use Rattle.arr_notes.specs.FaceWriters.{with_cycle, with_face, moved_to}
use Rattle.arr_notes.specs.declared.faces.Linked.{Linked}
use Rattle.arr_notes.specs.declared.faces.Linked.TheVariants.{NewHole, Grows, Joins, Splits}
use Rattle.arr_notes.specs.declared.faces.Unlinked.{Unlinked}
use Rattle.arr_notes.specs.declared.faces.Unlinked.TheVariants.{Vanishes, Shrinks, Breaks, Unites}
use Rattle.arr_notes.proofs.RowLaws.{row_at-each}
use Rattle.arr_notes.proofs.Reading.{some_mapped}
use Rattle.mirror_observer.specs.FaceParts.{linked_first, linked_then, unlinked_first, unlinked_then}
use Rattle.mirror_observer.proofs.Recycling.{one_orbit}

-- ---- an edge that comes
pub linked_both : (w : View) (d m : DartId) (u v : VertexId) (at_u : Option DartId) (told : Linked) (f : Faces) → linked_then w told (linked_first d m u v at_u told f) ≡ step_faces w f (linked_faces d m u v at_u told)
linked_both w d m u v at_u (NewHole cycle face) f = refl
linked_both w d m u v at_u (Grows cycle) f = refl
linked_both w d m u v at_u (Joins kept gone) f = refl
linked_both w d m u v at_u (Splits kept fresh fresh_dart fresh_face moved) f = refl

pub linked_alike : (v w : View) → v.darts ≡ w.darts → (told : Linked) (f : Faces) → linked_then v told f ≡ linked_then w told f
linked_alike v w e (NewHole cycle face) f = refl
linked_alike v w e (Grows cycle) f = refl
linked_alike v w e (Joins kept gone) f = refl
linked_alike v w e (Splits kept fresh fresh_dart fresh_face moved) f =
    ap (λ s. moved_to moved.cycles moved.vertices fresh_face (with_cycle fresh Outer fresh_face (with_face fresh_face s))) (one_orbit v w e fresh_dart fresh f)

-- each dart that is on a cycle stays on one
pub linked_rows : (w : View) (told : Linked) (f : Faces) (k : ℕ) → IsSome (row_at f.cycle_of k) → IsSome (row_at (linked_then w told f).cycle_of k)
linked_rows w (NewHole cycle face) f k h = h
linked_rows w (Grows cycle) f k h = h
linked_rows w (Joins kept gone) f k h = h
linked_rows w (Splits kept fresh fresh_dart fresh_face moved) f k h = ap is_some (row_at-each _ f.cycle_of k) ∙ some_mapped _ (row_at f.cycle_of k) ∙ h

-- ---- an edge that goes
pub unlinked_both : (v w : View) (d : DartId) (told : Unlinked) (f : Faces) → unlinked_then w told (unlinked_first v d told f) ≡ step_faces w f (unlinked_faces v d told)
unlinked_both v w d (Vanishes cycle face) f = refl
unlinked_both v w d (Shrinks cycle face) f = refl
unlinked_both v w d (Breaks kept fresh fresh_dart) f = refl
unlinked_both v w d (Unites kept gone gone_face moved) f = refl

pub unlinked_alike : (v w : View) → v.darts ≡ w.darts → (told : Unlinked) (f : Faces) → unlinked_then v told f ≡ unlinked_then w told f
unlinked_alike v w e (Vanishes cycle face) f = refl
unlinked_alike v w e (Shrinks cycle face) f = refl
unlinked_alike v w e (Breaks kept fresh fresh_dart) f = ap (λ s. with_cycle fresh Inner (face_in f kept) s) (one_orbit v w e fresh_dart fresh f)
unlinked_alike v w e (Unites kept gone gone_face moved) f = refl

pub unlinked_rows : (w : View) (told : Unlinked) (f : Faces) (k : ℕ) → IsSome (row_at f.cycle_of k) → IsSome (row_at (unlinked_then w told f).cycle_of k)
unlinked_rows w (Vanishes cycle face) f k h = h
unlinked_rows w (Shrinks cycle face) f k h = h
unlinked_rows w (Breaks kept fresh fresh_dart) f k h = ap is_some (row_at-each _ f.cycle_of k) ∙ some_mapped _ (row_at f.cycle_of k) ∙ h
unlinked_rows w (Unites kept gone gone_face moved) f k h = h
