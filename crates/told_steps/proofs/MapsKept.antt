-- Steps at a vertex, and clearing, keep the records a map at rest: each dart that is kept for a cycle stays on it.
use Rattle.std.proofs.Common.{◌≡◌, ℕ, ◌≤◌, Bool, [], IsSome, refl, sym, ap, subst, ◌∙◌, arith}
use Rattle.std.proofs.lemmas.Bool.{false≢true}
use Rattle.exact_plane.specs.Point.{Point}
use Rattle.slab_laws.specs.declared.names.DartId.{DartId}
use Rattle.slab_laws.specs.declared.names.FaceId.{FaceId}
use Rattle.slab_laws.specs.declared.names.VertexId.{VertexId}
use Rattle.slab_laws.specs.FaceLists.{Lists, AreDartsOn}
use Rattle.slab_laws.specs.FacesSound.{IsSound}
use Rattle.slab_laws.specs.Sound.{IsGraphSound}
use Rattle.slab_laws.specs.Tables.{row_at, NamesAscend}
use Rattle.slab_laws.specs.View.{View, Faces, HasDart, HasFace, HasVertex, cycle_or, face_id}
use Rattle.arr_notes.specs.FaceSteps.{FaceChange, as_it_was, cleared, comes_bare, goes_bare, step_faces}
use Rattle.arr_notes.specs.FaceWriters.{bare_in, not_bare}
use Rattle.arr_notes.specs.ViewChanges.{no_rows, with_pin, with_vertex, without_vertex}
use Rattle.dcel_records.specs.ListChanges.{lone_face, nothing_listed, vertex_listed, vertex_unlisted}
use Rattle.dcel_records.specs.RecordsView.{FacesView, RecordsView, IsReturned, lists_in_view, lists_of, tables_of}
use Rattle.dcel_records.specs.SoundMaps.{IsMapAtRest}
use Rattle.rotation_order.specs.VertexRings.{IsBare}
use Rattle.sound_changes.specs.ChangeFits.{IsNewVertex}
use Rattle.face_changes.specs.FacesByPairs.{first_or}
use Rattle.face_changes.proofs.FacesByPairs.{first_least, has_name}
use Rattle.face_steps.specs.StepPremises.{FitsFaces}
use Rattle.face_steps.specs.VertexSteps.{IsFaceRound}
use Rattle.face_steps.proofs.Choices.{tables_are_sound}
use Rattle.face_steps.proofs.MergesApart.{records_apart}
use Rattle.face_steps.proofs.StepLaws.{steps_keep_tables}
use Rattle.face_steps.proofs.StepVertices.{all_cleared as faces_cleared}
use Rattle.sound_changes.proofs.VertexAdded.{no_rows_sound}

-- darts that stay, on cycles that stay
darts_kept : (v w : View) (f s : Faces) (l m : Lists) → AreDartsOn v f l → ((d : DartId) → HasDart v d → HasDart w d) → m.dart_on ≡ l.dart_on → s.cycle_of ≡ f.cycle_of → s.cycles ≡ f.cycles → AreDartsOn w s m
darts_kept v w f s l m on stay kept orbits cycles c o =
    let r = on c (subst (λ z. IsSome (row_at z c.0)) cycles o) in
    let q : m.dart_on c ≡ l.dart_on c = ap (λ z. z c) kept in
    (subst (HasDart w) (sym q) (stay (l.dart_on c) r.0), (λ i. cycle_or (row_at (orbits i) (q i).0)) ∙ r.1)

no_row : (X : Type 0) (n : ℕ) → ¬ IsSome (row_at {X = X} [] n)
unfolding row_at
no_row X n h = false≢true h

-- the face of no name less than another is the first
pub unbounded_first : (f : Faces) → NamesAscend f.faces → HasFace f (face_id 0) → face_id 0 ≡ first_or f.faces
unbounded_first f ascend unbounded =
    let least : (first_or f.faces).0 ≤ 0 = first_least f.faces 0 ascend unbounded in
    sym (ap face_id (omega (arith, least)))

module _ (old new : RecordsView) (rest : IsMapAtRest old) (sound : IsGraphSound new.graph) (moved : new.faces.moved ≡ old.faces.moved) where
  abbrev v : View
  v = old.graph

  abbrev f : Faces
  f = old.faces.tables

  tabled_step : (w : View) (c : FaceChange) → new.graph ≡ w → FitsFaces v w f c → IsSound w (step_faces w f c)
  tabled_step w c graph fits =
      (tables_are_sound w (step_faces w f c) (subst IsGraphSound graph sound)).0 (steps_keep_tables v w f c ((tables_are_sound v f rest.map.sound.graph).1 rest.map.sound) fits)

  at_rest : (w : View) (c : FaceChange) (l : Lists) → new.graph ≡ w → tables_of new ≡ step_faces w f c → lists_of new ≡ l → FitsFaces v w f c → AreDartsOn w (step_faces w f c) l → IsMapAtRest new
  at_rest w c l graph tables lists fits darts = record {
    map = record {
      sound = subst (λ g. IsSound g (tables_of new)) (sym graph) (subst (IsSound w) (sym tables) (tabled_step w c graph fits));
      darts = subst (λ g. AreDartsOn g (tables_of new) (lists_of new)) (sym graph) (subst (λ t. AreDartsOn w t (lists_of new)) (sym tables) (subst (AreDartsOn w (step_faces w f c)) (sym lists) darts));
    };
    returned = subst IsSome (sym moved) rest.returned;
  }

  -- ---- a vertex that comes, or goes
  pub vertex_comes : (u : VertexId) (p : Point) (a : FaceId) → IsNewVertex v u p → IsFaceRound v f a p → new.graph ≡ with_vertex v u p → tables_of new ≡ bare_in u a f → lists_of new ≡ vertex_listed u a (lists_of old) → IsMapAtRest new
  vertex_comes u p a fresh face graph tables lists =
      let w = with_vertex v u p in
      let apart = records_apart.vertex_added v u p rest.map.sound.graph fresh (subst IsGraphSound graph sound).plane in
      at_rest w (comes_bare u a) (vertex_listed u a (lists_of old)) graph tables lists (p, apart, face) (darts_kept v w f (bare_in u a f) (lists_of old) (vertex_listed u a (lists_of old)) rest.map.darts (λ d o. (apart.darts d).has o) refl refl refl)

  pub vertex_goes : (u : VertexId) → HasVertex v u → IsBare v u → new.graph ≡ without_vertex v u → tables_of new ≡ not_bare u f → lists_of new ≡ vertex_unlisted u (lists_of old) → IsMapAtRest new
  vertex_goes u has bare graph tables lists =
      let w = without_vertex v u in
      let apart = records_apart.vertex_removed v u rest.map.sound.graph has bare in
      at_rest w (goes_bare u) (vertex_unlisted u (lists_of old)) graph tables lists (_, apart) (darts_kept v w f (not_bare u f) (lists_of old) (vertex_unlisted u (lists_of old)) rest.map.darts (λ d o. (apart.darts d).had o) refl refl refl)

  -- ---- a pin
  pub pin_is_set : (u : VertexId) (b : Bool) → new.graph ≡ with_pin v u b → new.faces ≡ old.faces → IsMapAtRest new
  pin_is_set u b graph faces =
      let w = with_pin v u b in
      let same = records_apart.pinned v u b rest.map.sound.graph in
      at_rest w as_it_was (lists_of old) graph (ap (λ (g : FacesView). g.tables) faces) (ap lists_in_view faces) same (darts_kept v w f f (lists_of old) (lists_of old) rest.map.darts (λ d o. (same.darts d).has o) refl refl refl)

  -- ---- all gone
  pub all_cleared : face_id 0 ≡ first_or f.faces → new.graph ≡ no_rows → tables_of new ≡ lone_face → lists_of new ≡ nothing_listed → IsMapAtRest new
  all_cleared first graph tables lists =
      at_rest no_rows (cleared (face_id 0)) nothing_listed graph tables lists (refl, first) (λ c o. absurd (no_row _ c.0 o))

-- ---- the records at first: nothing but the unbounded face
pub first_map : (h : RecordsView) → h.graph ≡ no_rows → tables_of h ≡ lone_face → IsReturned h → IsMapAtRest h
first_map h graph tables back =
    let sound : IsSound no_rows lone_face = (tables_are_sound no_rows lone_face no_rows_sound).0 (faces_cleared lone_face (face_id 0)) in
    let none : AreDartsOn no_rows lone_face (lists_of h) = λ c o. absurd (no_row _ c.0 o) in
    record {
      map = record {
        sound = subst (λ g. IsSound g (tables_of h)) (sym graph) (subst (IsSound no_rows) (sym tables) sound);
        darts = subst (λ g. AreDartsOn g (tables_of h) (lists_of h)) (sym graph) (subst (λ t. AreDartsOn no_rows t (lists_of h)) (sym tables) none);
      };
      returned = back;
    }

-- ---- what the records ask where a vertex comes
pub face_is_there : (h : RecordsView) (a : FaceId) (p : Point) → IsMapAtRest h → IsFaceRound h.graph h.faces.tables a p → HasFace h.faces.tables a
face_is_there h a p rest face =
    let t = (tables_are_sound h.graph h.faces.tables rest.map.sound.graph).1 rest.map.sound in
    subst (HasFace h.faces.tables) face.2 (has_name h.graph h.faces.tables t.complete t.told.there face.0 face.1)
