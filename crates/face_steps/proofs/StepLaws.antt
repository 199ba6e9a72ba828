-- Each change keeps the tables of cycles and faces true.
use Rattle.std.proofs.Common.{refl, sym, subst, inl, inr}
use Rattle.arr_notes.specs.FaceSteps.{comes_bare, goes_bare, in_two, in_one, new_hole, grows, joins, splits, vanishes, shrinks, breaks, unites, cleared, as_it_was, step_faces}
use Rattle.face_steps.specs.StepLaws.{StepsKeepTables, StepsKeepFirst}
use Rattle.face_steps.specs.Tabled.{AreTabled}
use Rattle.face_steps.proofs.FaceRows.{first_before}
use Rattle.face_steps.proofs.StepBreaks.{broken}
use Rattle.face_steps.proofs.StepGrows.{grows_at_end, grows_at_start, shrinks_at_end, shrinks_at_start}
use Rattle.face_steps.proofs.StepHalves.{edge_split, edge_merged}
use Rattle.face_steps.proofs.StepHoles.{hole_made, hole_gone}
use Rattle.face_steps.proofs.StepJoins.{joined}
use Rattle.face_steps.proofs.StepPins.{same_tables}
use Rattle.face_steps.proofs.StepSplits.{split_first, split_second}
use Rattle.face_steps.proofs.StepUnites.{unite_first, unite_second, unite_keeps_first}
use Rattle.face_steps.proofs.StepVertices.{vertex_made, vertex_gone, all_cleared}
use Rattle.face_steps.proofs.EdgePairs.{turned_round}

pub steps_keep_tables : StepsKeepTables
steps_keep_tables v w f (comes_bare u a) h t = vertex_made v w u t.0 t.1 f a t.2 h
steps_keep_tables v w f (goes_bare u) h t = vertex_gone w v u t.0 t.1 f h
steps_keep_tables v w f (in_two d t' n m) h t = edge_split v w d t' n m t.0 t.1 t.2 f h
steps_keep_tables v w f (in_one n m) h t = edge_merged w v t.0 t.1 n m t.2 t.3 t.4 f h
steps_keep_tables v w f (new_hole d m p q c a) h t = hole_made v w d m p q t.0 t.1 t.2 t.3 f c a t.4 t.5 h
steps_keep_tables v w f (grows d m u c) h t = elim t.2 [
  | inl r ↦ grows_at_end v w d m t.0 u r.line r.edge t.1 r.place r.after r.bare f c t.3 h
  | inr r ↦ grows_at_start v w d m u t.0 r.line (turned_round v w m d t.0 u r.line r.edge) t.1 r.place r.after r.bare f c t.3 h
]
steps_keep_tables v w f (joins d m kept gone) h t = joined v w d m t.0 t.1 t.4.line t.4.edge t.2 t.3 t.4.first t.4.second t.4.after_first t.4.after_second f kept gone t.5 h
steps_keep_tables v w f (splits d m kept fresh x face cs us) h t = elim t.5 [
  | inl r ↦ subst (λ z. AreTabled w (step_faces w f (splits d m kept fresh z face cs us))) (sym r.0) (split_first v w d m t.0 t.1 t.4.line t.4.edge t.2 t.3 t.4.first t.4.second t.4.after_first t.4.after_second f kept fresh face cs us r.1 h)
  | inr r ↦ subst (λ z. AreTabled w (step_faces w f (splits d m kept fresh z face cs us))) (sym r.0) (split_second v w d m t.0 t.1 t.4.line t.4.edge t.2 t.3 t.4.first t.4.second t.4.after_first t.4.after_second f kept fresh face cs us r.1 h)
]
steps_keep_tables v w f (vanishes d m p q c a) h t = hole_gone w v d m p q t.0 t.1 t.2 t.3 f c a t.4 t.5 h
steps_keep_tables v w f (shrinks d m u c a) h t = elim t.2 [
  | inl r ↦ shrinks_at_end w v d m t.0 u r.line r.edge t.1 r.place r.after r.bare f c a t.3 t.4 h
  | inr r ↦ shrinks_at_start w v d m u t.0 r.line (turned_round w v m d t.0 u r.line r.edge) t.1 r.place r.after r.bare f c a t.3 t.4 h
]
steps_keep_tables v w f (breaks d m kept fresh x) h t = broken w v d m t.0 t.1 t.4.line t.4.edge t.2 t.3 t.4.first t.4.second t.4.after_first t.4.after_second f kept fresh x t.5 h
steps_keep_tables v w f (unites d m kept gone face cs us) h t = elim t.5 [
  | inl r ↦ unite_first w v d m t.0 t.1 t.4.line t.4.edge t.2 t.3 t.4.first t.4.second t.4.after_first t.4.after_second f kept gone face cs us r h
  | inr r ↦ unite_second w v d m t.0 t.1 t.4.line t.4.edge t.2 t.3 t.4.first t.4.second t.4.after_first t.4.after_second f kept gone face cs us r h
]
steps_keep_tables v w f (cleared a) h t = subst (λ z. AreTabled z (step_faces z f (cleared a))) (sym t.0) (all_cleared f a)
steps_keep_tables v w f as_it_was h t = same_tables v w t f h

pub steps_keep_first : StepsKeepFirst
steps_keep_first v w f (comes_bare u a) h t = refl
steps_keep_first v w f (goes_bare u) h t = refl
steps_keep_first v w f (in_two d t' n m) h t = refl
steps_keep_first v w f (in_one n m) h t = refl
steps_keep_first v w f (new_hole d m p q c a) h t = refl
steps_keep_first v w f (grows d m u c) h t = refl
steps_keep_first v w f (joins d m kept gone) h t = refl
steps_keep_first v w f (splits d m kept fresh x face cs us) h t = first_before face.0 f.faces h.told.there (elim t.5 [ inl r ↦ r.1.later | inr r ↦ r.1.later ])
steps_keep_first v w f (vanishes d m p q c a) h t = refl
steps_keep_first v w f (shrinks d m u c a) h t = refl
steps_keep_first v w f (breaks d m kept fresh x) h t = refl
steps_keep_first v w f (unites d m kept gone face cs us) h t = unite_keeps_first w v d m t.0 t.1 t.4.line t.4.edge t.2 t.3 t.4.first t.4.second t.4.after_first t.4.after_second f kept gone face cs us t.5 h
steps_keep_first v w f (cleared a) h t = t.1
steps_keep_first v w f as_it_was h t = refl
