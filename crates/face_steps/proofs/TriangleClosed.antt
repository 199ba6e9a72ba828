-- A triangle that gets its third side back: what the step asks is met.
use Rattle.std.proofs.Common.{◌≡◌, ◌≢◌, arith, true, [], ◌∷◌, refl, sym, inl, inr}
use Rattle.std.proofs.lemmas.Bool.{false≢true, cases_eq}
use Rattle.integers.proofs.Tests.{other_number}
use Rattle.slab_laws.specs.declared.names.CycleId.{CycleId}
use Rattle.slab_laws.specs.declared.names.VertexId.{VertexId}
use Rattle.slab_laws.specs.Sound.{skeleton_of, dart_in}
use Rattle.slab_laws.specs.Tables.{row_at}
use Rattle.slab_laws.specs.Triangle.{three_four, triangle_view, triangle_faces}
use Rattle.slab_laws.specs.View.{HasCycle, HasFace, HasBareFace, dart_id, cycle_id, face_id, vertex_id, cycle_in}
use Rattle.slab_faces.proofs.Member.{in_member}
use Rattle.arr_notes.specs.FaceSteps.{step_faces, splits}
use Rattle.face_changes.specs.Kinds.{is_outer}
use Rattle.face_changes.proofs.SoundExamples.{views_that_are_sound}
use Rattle.face_steps.specs.StepPremises.{FitsSplitting}
use Rattle.face_steps.specs.Tabled.{AreTabled}
use Rattle.face_steps.specs.TriangleOpened.{opened, opened_faces, TriangleClosed}
use Rattle.face_steps.proofs.Alike.{kind_at}
use Rattle.face_steps.proofs.Choices.{tables_are_sound}
use Rattle.face_steps.proofs.StepLaws.{steps_keep_tables}
use Rattle.face_steps.proofs.TriangleOpened.{s, has_first, apart, between, triangle_opened}

before : AreTabled opened opened_faces
before = (tables_are_sound opened opened_faces apart.sound).1 triangle_opened.1

closed : AreTabled (triangle_view three_four) triangle_faces
closed = (tables_are_sound (triangle_view three_four) triangle_faces s).1 views_that_are_sound.triangle

outer : is_outer (skeleton_of (triangle_view three_four)) (dart_in (triangle_view three_four) (dart_id 0)) ≡ true
unfolding row_at
outer = (kind_at (triangle_view three_four) triangle_faces (dart_id 0) s closed.cycled has_first).0 refl

-- the one cycle has all darts
one_cycle : (e : CycleId) → HasCycle opened_faces e → e ≡ cycle_id 1
unfolding row_at
one_cycle e o = elim (cases_eq 1 e.0) [
  | inl q ↦ λ i. record { 0 = sym q i }
  | inr b ↦ absurd (none e b o)
]
  where
    none : (e : CycleId) → 1 ≢ e.0 → HasCycle opened_faces e → ⊥
    none e b o = false≢true (rw (other_number 1 e.0 b) at o)

no_zero : HasCycle opened_faces (cycle_id 0) → ⊥
unfolding row_at
no_zero o = false≢true o

no_bare : (u : VertexId) → HasBareFace opened_faces u → ⊥
unfolding row_at
no_bare u o = false≢true o

no_face : HasFace opened_faces (face_id 1) → ⊥
no_face o = elim (in_member (0 ∷ []) 1 o) [ inl e ↦ absurd (omega (arith, e)) | inr r ↦ r ]

fits : FitsSplitting opened (triangle_view three_four) opened_faces (dart_id 0) (dart_id 4) (dart_id 3) (cycle_id 1) (cycle_id 0) (face_id 1) [] []
unfolding row_at
fits = record {
  first = refl;
  second = refl;
  new_cycle = no_zero;
  new_face = no_face;
  later = omega arith;
  outer = outer;
  cycles = λ e o g. absurd (false≢true g);
  within = λ k K n e. absurd (n (one_cycle (cycle_in opened_faces k) (before.complete.cycle_has k K)));
  vertices = λ u o g. absurd (no_bare u o);
  within_bare = λ u o e. absurd (no_bare u o);
}

pub triangle_closed : TriangleClosed
triangle_closed =
    (tables_are_sound (triangle_view three_four) (step_faces (triangle_view three_four) opened_faces (splits (dart_id 0) (dart_id 1) (cycle_id 1) (cycle_id 0) (dart_id 0) (face_id 1) [] [])) s).0
    (steps_keep_tables opened (triangle_view three_four) opened_faces (splits (dart_id 0) (dart_id 1) (cycle_id 1) (cycle_id 0) (dart_id 0) (face_id 1) [] []) before
    (vertex_id 0, vertex_id 1, dart_id 4, dart_id 3, between, inl (refl, fits)))
