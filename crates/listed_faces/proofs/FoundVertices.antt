-- The isolated vertices of a face, by one look at each vertex.
use Rattle.std.proofs.Common.{◌≡◌, Bool, true, false, cond, List, [], ◌∷◌, ◌++◌, map, filter, Option, Some, None, refl, sym, ap, subst, ◌∙◌, append-nil}
use Rattle.std.specs.Prelude.{is_some, ◌==◌}
use Rattle.std.proofs.lemmas.Bool.{and_parts, and_from, eqb-true, eq-eqb}
use Rattle.std.proofs.lemmas.List.Elements.{filter-append}
use Rattle.plane_graphs.proofs.Lists.{in_map, in_filter, of_filter}
use Rattle.slab_laws.specs.declared.names.FaceId.{FaceId}
use Rattle.slab_laws.specs.declared.names.VertexId.{VertexId}
use Rattle.slab_laws.specs.FacesSound.{IsComplete}
use Rattle.slab_laws.specs.Tables.{names, row_at, NamesAscend}
use Rattle.slab_laws.specs.View.{View, Faces, vertex_id, face_id, bare_face_in, vertex_after_in}
use Rattle.arr_notes.proofs.After.{all_left, pushed, ended}
use Rattle.sound_views.proofs.NamesMet.{vertices_left}
use Rattle.sound_views.proofs.NameTables.{has_name}
use Rattle.dart_walks.specs.DartWalks.{AreJust}
use Rattle.listed_faces.specs.Boundaries.{is_isolated_in}
use Rattle.listed_faces.specs.FaceParts.{IsIsolatedIn}
use Rattle.sound_views.proofs.OnceFiltered.{filtered_once}
use Rattle.listed_faces.proofs.OnceListed.{names_once}

-- of the vertices that were met those that are isolated in the face are listed
pub record AreFoundSoFar (v : View) (f : Faces) (a : FaceId) (last : Option VertexId) (found : List VertexId) : Type 0 where
  pub met : List VertexId
  pub split : map vertex_id (names v.vertices) ≡ met ++ vertices_left v last
  pub listed : found ≡ filter (is_isolated_in f a) met

module _ (v : View) (f : Faces) (a : FaceId) where
  pub none_found : (found : List VertexId) → found ≡ [] → AreFoundSoFar v f a None found
  none_found found e = record { met = []; split = all_left vertex_id (λ (u : VertexId). u.0) (λ n. refl) (names v.vertices); listed = e }

  module _ (last : Option VertexId) (u : VertexId) (found more : List VertexId) (w : AreFoundSoFar v f a last found) (ascend : NamesAscend (names v.vertices)) (after : Some u ≡ vertex_after_in v last) where
    pub one_met : more ≡ found ++ cond (is_isolated_in f a u) (u ∷ []) [] → AreFoundSoFar v f a (Some u) more
    one_met e = record {
      met = w.met ++ (u ∷ []);
      split = pushed vertex_id (λ (x : VertexId). x.0) (λ n. refl) (names v.vertices) w.met (w.met ++ (u ∷ [])) last u ascend after w.split refl;
      listed = e ∙ ap (λ (xs : List VertexId). xs ++ cond (is_isolated_in f a u) (u ∷ []) []) w.listed ∙ sym (filter-append (is_isolated_in f a) w.met (u ∷ []));
    }

    pub one_found : is_isolated_in f a u ≡ true → more ≡ found ++ (u ∷ []) → AreFoundSoFar v f a (Some u) more
    one_found t e = one_met (e ∙ ap (λ (b : Bool). found ++ cond b (u ∷ []) []) (sym t))

    pub one_passed : is_isolated_in f a u ≡ false → more ≡ found → AreFoundSoFar v f a (Some u) more
    one_passed t e = one_met (e ∙ sym (append-nil found) ∙ ap (λ (b : Bool). found ++ cond b (u ∷ []) []) (sym t))

  isolated_by : (u : VertexId) → is_isolated_in f a u ≡ true → IsIsolatedIn f a u
  isolated_by u e =
      let w = and_parts (is_some (row_at f.bare u.0)) ((bare_face_in f u).0 == a.0) e in
      (w.0, ap face_id (eqb-true (bare_face_in f u).0 a.0 w.1))

  by_isolated : (u : VertexId) → IsIsolatedIn f a u → is_isolated_in f a u ≡ true
  by_isolated u h = and_from _ _ h.0 (eq-eqb (bare_face_in f u).0 a.0 (ap (λ (x : FaceId). x.0) h.1))

  pub all_found : IsComplete v f → (last : Option VertexId) (found : List VertexId) → NamesAscend (names v.vertices) → None ≡ vertex_after_in v last → AreFoundSoFar v f a last found → AreJust (IsIsolatedIn f a) found
  all_found full last found ascend none w =
      let all : w.met ≡ map vertex_id (names v.vertices) = ended vertex_id (λ (x : VertexId). x.0) (λ n. refl) (names v.vertices) w.met last none w.split in
      subst (AreJust (IsIsolatedIn f a)) (sym (w.listed ∙ ap (filter (is_isolated_in f a)) all)) (record {
        just = λ u. (
          λ m. isolated_by u ((of_filter (is_isolated_in f a) u (map vertex_id (names v.vertices)) m).1),
          λ h. in_filter (is_isolated_in f a) u (map vertex_id (names v.vertices)) (in_map vertex_id u.0 (names v.vertices) (has_name v.vertices u.0 (full.bare_vertex u h.0))) (by_isolated u h),
        );
        once = filtered_once (is_isolated_in f a) (map vertex_id (names v.vertices)) (names_once vertex_id (λ (x : VertexId). x.0) (λ n. refl) (names v.vertices) ascend);
      })
