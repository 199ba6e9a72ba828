-- Faces and isolated vertices that are there after single writes.
use Rattle.std.proofs.Common.{◌≡◌, ◌≢◌, ℕ, ◌⊎◌, inl, inr, false, [], ◌∷◌, is_some, IsSome, Contains, arith, refl, sym, ap, subst, ◌∙◌}
use Rattle.std.proofs.lemmas.Bool.{cases_eq, false≢true}
use Rattle.slab_laws.specs.declared.names.DartId.{DartId}
use Rattle.slab_laws.specs.declared.names.FaceId.{FaceId}
use Rattle.slab_laws.specs.declared.names.VertexId.{VertexId}
use Rattle.slab_laws.specs.Tables.{row_at, names, NamesAscend}
use Rattle.slab_laws.specs.View.{View, Faces, HasVertex, HasDart, HasFace, HasBareFace, IsOutOf, vertex_id, face_id}
use Rattle.arr_notes.specs.FaceWriters.{put_name, bare_in, not_bare, with_face}
use Rattle.arr_notes.specs.ViewChanges.{no_rows}
use Rattle.arr_notes.proofs.RowLaws.{ascend-put, ascend-del}
use Rattle.arr_notes.proofs.VertexReads.{put_hit, put_miss, del_hit, del_miss}
use Rattle.face_steps.proofs.FaceRows.{put_name_has}
use Rattle.dcel_records.specs.ListChanges.{lone_face}
use Rattle.dcel_records.specs.RecordsView.{RecordsView, graph_part}
use Rattle.record_tests.specs.Lone.{AreTwo, HasNoDarts, IsLone}

-- ---- new records
module _ (h : RecordsView) where
  pub lone_first : h.graph ≡ no_rows → h.faces.tables ≡ lone_face → IsLone h
  unfolding row_at
  lone_first g t = record {
    bare = λ v b. absurd (false≢true (subst (λ (f : Faces). HasBareFace f v) t b));
    ascend = subst (λ (f : Faces). NamesAscend (names f.bare)) (sym t) tt;
    darts = ap (λ (w : View). w.darts) g;
  }

  -- the face 1 beside the unbounded one
  pub two_faces : (k : RecordsView) (a : FaceId) → k.faces.tables ≡ with_face a h.faces.tables → h.faces.tables ≡ lone_face → a.0 ≡ 1 → AreTwo k
  unfolding put_name
  two_faces k a t l e = record { unbounded = subst (λ ns. Contains ns 0) (sym names_are) (0, omega arith, refl); other = subst (λ ns. Contains ns 1) (sym names_are) (1, omega arith, refl) }
    where
      names_are : k.faces.tables.faces ≡ 0 ∷ 1 ∷ []
      names_are = ap (λ (f : Faces). f.faces) t ∙ (λ i. put_name (e i) (l i).faces)

  -- one face more, whichever it is
  module _ (k : RecordsView) (a : FaceId) (t : k.faces.tables ≡ with_face a h.faces.tables) where
    name_there : (n : ℕ) → Contains h.faces.tables.faces n ⊎ (n ≡ a.0) → Contains k.faces.tables.faces n
    name_there n c = subst (λ (f : Faces). Contains f.faces n) (sym t) ((put_name_has a.0 h.faces.tables.faces n).1 c)

    pub third_face : a.0 ≡ 2 → HasFace k.faces.tables (face_id 2)
    third_face e = name_there 2 (inr (sym e))

    pub two_stay : AreTwo h → AreTwo k
    two_stay w = record { unbounded = name_there 0 (inl w.unbounded); other = name_there 1 (inl w.other) }

-- ---- single writes
module _ (h k : RecordsView) where
  pub lone_same : k.graph ≡ h.graph → k.faces.tables ≡ h.faces.tables → IsLone h → IsLone k
  lone_same g t l = record {
    bare = λ w b. subst (λ (x : View). HasVertex x w) (sym g) (l.bare w (subst (λ (x : Faces). HasBareFace x w) t b));
    ascend = subst (λ (f : Faces). NamesAscend (names f.bare)) (sym t) l.ascend;
    darts = ap (λ (x : View). x.darts) g ∙ l.darts;
  }

  module _ (v : VertexId) (a : FaceId) (t : k.faces.tables ≡ bare_in v a h.faces.tables) where
    pub bare_there : HasBareFace k.faces.tables v
    bare_there = subst (λ (x : Faces). HasBareFace x v) (sym t) (ap is_some (put_hit v.0 a h.faces.tables.bare))

    pub bare_set : (w : VertexId) → HasBareFace h.faces.tables w → HasBareFace k.faces.tables w
    bare_set w b = elim (cases_eq w.0 v.0) [
      | inl q ↦ subst (HasBareFace k.faces.tables) (ap vertex_id (sym q)) bare_there
      | inr ne ↦ subst (λ (x : Faces). HasBareFace x w) (sym t) (ap is_some (put_miss v.0 a h.faces.tables.bare w.0 ne) ∙ b)
    ]

    pub lone_set : HasVertex h.graph v → graph_part k ≡ graph_part h → IsLone h → IsLone k
    lone_set is g l = record {
      bare = λ w b. subst (λ (x : View). HasVertex x w) (sym (λ i. (g i).graph)) (elim (cases_eq w.0 v.0) [
        | inl q ↦ subst (HasVertex h.graph) (ap vertex_id (sym q)) is
        | inr ne ↦ l.bare w (ap is_some (sym (put_miss v.0 a h.faces.tables.bare w.0 ne)) ∙ subst (λ (x : Faces). HasBareFace x w) t b)
      ]);
      ascend = subst (λ (x : Faces). NamesAscend (names x.bare)) (sym t) (ascend-put v.0 a h.faces.tables.bare l.ascend);
      darts = ap (λ (x : View). x.darts) (λ i. (g i).graph) ∙ l.darts;
    }

  module _ (v : VertexId) (t : k.faces.tables ≡ not_bare v h.faces.tables) (l : IsLone h) where
    pub bare_left : (w : VertexId) → w ≢ v → HasBareFace h.faces.tables w → HasBareFace k.faces.tables w
    bare_left w ne b = subst (λ (x : Faces). HasBareFace x w) (sym t) (ap is_some (del_miss v.0 h.faces.tables.bare w.0 l.ascend (λ e. ne (ap vertex_id e))) ∙ b)

    pub lone_cleared : graph_part k ≡ graph_part h → IsLone k
    lone_cleared g = record {
      bare = λ w b. subst (λ (x : View). HasVertex x w) (sym (λ i. (g i).graph)) (elim (cases_eq w.0 v.0) [
        | inl q ↦ absurd (false≢true (ap is_some (sym (del_hit v.0 h.faces.tables.bare l.ascend)) ∙ subst (λ n. IsSome (row_at (not_bare v h.faces.tables).bare n)) q (subst (λ (x : Faces). HasBareFace x w) t b)))
        | inr ne ↦ l.bare w (ap is_some (sym (del_miss v.0 h.faces.tables.bare w.0 l.ascend ne)) ∙ subst (λ (x : Faces). HasBareFace x w) t b)
      ]);
      ascend = subst (λ (x : Faces). NamesAscend (names x.bare)) (sym t) (ascend-del v.0 h.faces.tables.bare l.ascend);
      darts = ap (λ (x : View). x.darts) (λ i. (g i).graph) ∙ l.darts;
    }

-- no darts, so none leaves a vertex
pub none_out : (h : RecordsView) → IsLone h → (v : VertexId) (d : DartId) → ¬ IsOutOf h.graph v d
unfolding row_at
none_out h l v d o = false≢true (sym (ap (λ rs. is_some (row_at rs d.0)) l.darts) ∙ o.0)

pub no_dart : (h : RecordsView) → HasNoDarts h → (d : DartId) → ¬ HasDart h.graph d
unfolding row_at
no_dart h e d o = false≢true (sym (ap (λ rs. is_some (row_at rs d.0)) e) ∙ o)
