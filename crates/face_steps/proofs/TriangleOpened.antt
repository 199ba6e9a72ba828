-- A triangle that loses a side: what the step asks is met, and what it makes is computed.
use Rattle.std.proofs.Common.{◌≡◌, ◌≢◌, arith, [], refl, sym, ap, ◌∙◌, subst, inl, inr}
use Rattle.std.proofs.lemmas.Bool.{false≢true, cases_eq}
use Rattle.integers.proofs.Tests.{other_number}
use Rattle.slab_laws.specs.declared.names.CycleId.{CycleId}
use Rattle.slab_laws.specs.declared.names.DartId.{DartId}
use Rattle.slab_laws.specs.declared.names.FaceId.{FaceId}
use Rattle.slab_laws.specs.Sound.{IsGraphSound}
use Rattle.slab_laws.specs.Tables.{row_at}
use Rattle.slab_laws.specs.Triangle.{three_four, triangle_view, triangle_faces}
use Rattle.slab_laws.specs.View.{View, HasDart, HasCycle, dart_id, cycle_id, face_id, vertex_id, twin_in, face_in, line_in}
use Rattle.arr_notes.specs.NamedRows.{put, del, each}
use Rattle.slab_laws.proofs.TriangleLemmas.{none_bare}
use Rattle.arr_notes.specs.FaceSteps.{step_faces, unites}
use Rattle.arr_notes.specs.FaceWriters.{del_name}
use Rattle.face_changes.proofs.SoundExamples.{views_that_are_sound}
use Rattle.face_steps.specs.EdgePairs.{IsEdgeApart}
use Rattle.face_steps.specs.StepPremises.{FitsUnite, IsBetween}
use Rattle.face_steps.specs.Tabled.{AreTabled}
use Rattle.face_steps.specs.TriangleOpened.{opened, opened_faces, TriangleOpened}
use Rattle.face_steps.proofs.Choices.{tables_are_sound}
use Rattle.face_steps.proofs.MergesApart.{records_apart}
use Rattle.face_steps.proofs.StepLaws.{steps_keep_tables}

abbrev w : View
w = triangle_view three_four

pub s : IsGraphSound (triangle_view three_four)
s = views_that_are_sound.triangle.graph

twin_is : twin_in (triangle_view three_four) (dart_id 0) ≡ dart_id 1
unfolding row_at
twin_is = refl

pub has_first : HasDart (triangle_view three_four) (dart_id 0)
unfolding row_at
has_first = refl

pub apart : IsEdgeApart opened (triangle_view three_four) (dart_id 0) (dart_id 1) (vertex_id 0) (vertex_id 1) (line_in (triangle_view three_four) (dart_id 0))
unfolding row_at
apart = records_apart.removed w (dart_id 0) s has_first

-- the darts before both
first_before : HasDart opened (dart_id 4)
unfolding row_at
first_before = elim (records_apart.before_first opened w (dart_id 0) (dart_id 1) (vertex_id 0) (vertex_id 1) _ (dart_id 4) apart refl refl) [ inl e ↦ absurd (let q = ap (λ (z : DartId). z.0) e.0 in omega (arith, q)) | inr o ↦ o ]

second_before : HasDart opened (dart_id 3)
unfolding row_at
second_before = elim (records_apart.before_second opened w (dart_id 0) (dart_id 1) (vertex_id 0) (vertex_id 1) _ (dart_id 3) apart refl refl) [ inl e ↦ absurd (let q = ap (λ (z : DartId). z.0) e.0 in omega (arith, q)) | inr o ↦ o ]

pub between : IsBetween opened (triangle_view three_four) (dart_id 0) (dart_id 1) (vertex_id 0) (vertex_id 1) (dart_id 4) (dart_id 3)
unfolding row_at
between = record { line = line_in w (dart_id 0); edge = apart; first = first_before; second = second_before; after_first = refl; after_second = refl }

-- no other cycle has the face that goes, and no vertex is isolated
only_two : (e : CycleId) → HasCycle triangle_faces e → e ≢ cycle_id 0 → e ≡ cycle_id 1
unfolding row_at
only_two e o n = elim (cases_eq 0 e.0) [
  | inl q ↦ absurd (n (λ i. record { 0 = sym q i }))
  | inr a ↦ elim (cases_eq 1 e.0) [
    | inl q ↦ λ i. record { 0 = sym q i }
    | inr b ↦ absurd (none e a b o)
  ]
]
  where
    none : (e : CycleId) → 0 ≢ e.0 → 1 ≢ e.0 → HasCycle triangle_faces e → ⊥
    none e a b o = false≢true (rw (other_number 0 e.0 a, other_number 1 e.0 b) at o)

fits : FitsUnite triangle_faces (dart_id 0) (dart_id 1) (cycle_id 1) (cycle_id 0) (face_id 1) [] []
unfolding row_at
fits = record {
  first = refl;
  second = refl;
  two = λ e. let q = ap (λ (z : CycleId). z.0) e in absurd (omega (arith, q));
  outer = refl;
  face = refl;
  cycles = λ e o n. (
    λ g. absurd (false≢true g),
    λ g.
        let q : face_in triangle_faces (cycle_id 1) ≡ face_id 1 = ap (face_in triangle_faces) (sym (only_two e o n)) ∙ g in
        let r = ap (λ (z : FaceId). z.0) q in
        absurd (omega (arith, r)),
  );
  vertices = λ u o. absurd (none_bare u o);
}

makes : step_faces opened triangle_faces (unites (dart_id 0) (dart_id 1) (cycle_id 1) (cycle_id 0) (face_id 1) [] []) ≡ opened_faces
unfolding row_at put del each del_name
makes = refl

pub triangle_opened : TriangleOpened
triangle_opened =
    let before : AreTabled w triangle_faces = (tables_are_sound w triangle_faces s).1 views_that_are_sound.triangle in
    let after = steps_keep_tables w opened triangle_faces (unites (dart_id 0) (dart_id 1) (cycle_id 1) (cycle_id 0) (face_id 1) [] []) before (vertex_id 0, vertex_id 1, dart_id 4, dart_id 3, between, inl fits) in
    (makes, (tables_are_sound opened opened_faces apart.sound).0 (subst (AreTabled opened) makes after))
