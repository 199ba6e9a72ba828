-- All that a face had has moved: nothing is left in it but the cycle that goes.
use Rattle.std.proofs.Common.{◌≡◌, ◌≢◌, cond, option_map, List, [], ◌∷◌, None, IsSome, inl, inr, refl, sym, ap, ◌∙◌, subst}
use Rattle.std.proofs.lemmas.Bool.{cases_Bool, false≢true}
use Rattle.plane_graphs.specs.Ascending.{Member}
use Rattle.slab_laws.specs.declared.names.CycleId.{CycleId}
use Rattle.slab_laws.specs.declared.names.FaceId.{FaceId}
use Rattle.slab_laws.specs.declared.names.VertexId.{VertexId}
use Rattle.slab_laws.specs.FaceLists.{Lists, AreFacesListed}
use Rattle.slab_laws.specs.Tables.{row_at, names, NamesAscend}
use Rattle.slab_laws.specs.View.{View, Faces, HasCycle, HasBareFace, face_or, bare_or, face_in, bare_face_in}
use Rattle.arr_notes.specs.FaceWriters.{moved_to, without_cycle, lists_cycle, lists_vertex}
use Rattle.arr_notes.proofs.Reading.{none_there}
use Rattle.arr_notes.proofs.RowLaws.{row_at-each, ascend-each}
use Rattle.arr_notes.proofs.VertexReads.{del_hit, del_miss}
use Rattle.dcel_records.specs.RecordsView.{FacesView, lists_in_view}
use Rattle.face_steps.proofs.FaceRows.{map_some, cycle_number}
use Rattle.face_steps.proofs.StepSplits.{in_face, map_face, map_bare}
use Rattle.cycle_writers.specs.declared.moves.Which.TheVariants.{All}
use Rattle.cycle_writers.specs.Taken.{cycles_taken, vertices_taken}
use Rattle.cycle_writers.proofs.MovedBoth.{moved_both}
use Rattle.cycle_writers.proofs.Listed.{listed_taken, listed_bare}

no_member : {X : Type 0} (xs : List X) → ((x : X) → Member x xs → ⊥) → xs ≡ []
no_member [] n = refl
no_member (x ∷ xs) n = absurd (n x (inl refl))

-- the cycles move, and then the vertices
pub both_moved : (v : View) (gone : CycleId) (from to : FaceId) (old taken : FacesView) (mid last : Faces) (lm : Lists) → taken ≡ record old { moved = None } → mid ≡ moved_to (cycles_taken v All gone (lists_in_view taken) from) [] to taken.tables → lm.bare ≡ (lists_in_view taken).bare → last ≡ moved_to [] (vertices_taken v All lm from) to mid → last ≡ moved_to (cycles_taken v All gone (lists_in_view old) from) (vertices_taken v All (lists_in_view old) from) to old.tables
both_moved v gone from to old taken mid last lm t m b e =
    let cs = cycles_taken v All gone (lists_in_view old) from in
    let us = vertices_taken v All (lists_in_view old) from in
    let first : mid ≡ moved_to cs [] to old.tables = m ∙ (λ i. moved_to (cycles_taken v All gone (lists_in_view (t i)) from) [] to (t i).tables) in
    let bare : vertices_taken v All lm from ≡ us = (λ i. vertices_taken v All (record { cycles = lm.cycles; bare = b i; dart_on = lm.dart_on }) from) ∙ (λ i. vertices_taken v All (lists_in_view (t i)) from) in
    e ∙ (λ i. moved_to [] (bare i) to (first i)) ∙ moved_both cs us to old.tables

-- ---- what is there
module _ (f : Faces) (gone : CycleId) (to : FaceId) (cs : List CycleId) (us : List VertexId) (ascend : NamesAscend (names f.cycles)) where
  abbrev after : Faces
  after = without_cycle gone (moved_to cs us to f)

  row_kept : (e : CycleId) → e ≢ gone → row_at (without_cycle gone (moved_to cs us to f)).cycles e.0 ≡ row_at (moved_to cs us to f).cycles e.0
  row_kept e n = del_miss gone.0 _ e.0 (ascend-each _ f.cycles ascend) (cycle_number e gone n)

  row_moved : (e : CycleId) → row_at (moved_to cs us to f).cycles e.0 ≡ option_map (in_face cs e.0 to) (row_at f.cycles e.0)
  row_moved e = row_at-each _ f.cycles e.0

  pub not_gone : (e : CycleId) → HasCycle (without_cycle gone (moved_to cs us to f)) e → e ≢ gone
  not_gone e o q = none_there _ (ap (λ (z : CycleId). row_at after.cycles z.0) q ∙ del_hit gone.0 _ (ascend-each _ f.cycles ascend)) o

  pub still_there : (e : CycleId) → HasCycle f e → HasCycle (moved_to cs us to f) e
  still_there e o = subst IsSome (sym (row_moved e)) ((map_some (in_face cs e.0 to) (row_at f.cycles e.0)).0 o)

  pub was_there : (e : CycleId) → HasCycle (without_cycle gone (moved_to cs us to f)) e → HasCycle f e
  was_there e o = (map_some (in_face cs e.0 to) (row_at f.cycles e.0)).1 (subst IsSome (row_kept e (not_gone e o) ∙ row_moved e) o)

-- ---- what is left in the face
module _ (v : View) (f : Faces) (l : Lists) (gone : CycleId) (from to : FaceId) (two : from ≢ to) (listed : AreFacesListed f l) (ascend : NamesAscend (names f.cycles)) where
  abbrev cs : List CycleId
  cs = cycles_taken v All gone l from

  abbrev us : List VertexId
  us = vertices_taken v All l from

  abbrev pub left : Faces
  left = without_cycle gone (moved_to (cycles_taken v All gone l from) (vertices_taken v All l from) to f)

  no_cycle : (e : CycleId) → HasCycle left e → face_in left e ≢ from
  no_cycle e o q =
      let n = not_gone f gone to cs us ascend e o in
      let had = was_there f gone to cs us ascend e o in
      let reads : face_in left e ≡ cond (lists_cycle cs e.0) to (face_in f e) = ap face_or (row_kept f gone to cs us ascend e n ∙ row_moved f gone to cs us ascend e) ∙ map_face cs e.0 to (row_at f.cycles e.0) had in
      elim (cases_Bool (lists_cycle cs e.0)) [
        | inl y ↦ two (sym q ∙ reads ∙ ap (λ b. cond b to (face_in f e)) y)
        | inr z ↦
            let at : face_in f e ≡ from = sym (ap (λ b. cond b to (face_in f e)) z) ∙ sym reads ∙ q in
            false≢true (sym z ∙ (listed_taken v All gone l from e).1 ((listed.cycles from e).1 (had, at), n, refl))
      ]

  no_vertex : (u : VertexId) → HasBareFace left u → bare_face_in left u ≢ from
  no_vertex u o q =
      let row = row_at-each (λ n b. cond (lists_vertex us n) to b) f.bare u.0 in
      let had : HasBareFace f u = (map_some _ (row_at f.bare u.0)).1 (subst IsSome row o) in
      let reads : bare_face_in left u ≡ cond (lists_vertex us u.0) to (bare_face_in f u) = ap bare_or row ∙ map_bare (lists_vertex us u.0) to (row_at f.bare u.0) had in
      elim (cases_Bool (lists_vertex us u.0)) [
        | inl y ↦ two (sym q ∙ reads ∙ ap (λ b. cond b to (bare_face_in f u)) y)
        | inr z ↦
            let at : bare_face_in f u ≡ from = sym (ap (λ b. cond b to (bare_face_in f u)) z) ∙ sym reads ∙ q in
            false≢true (sym z ∙ (listed_bare v All l from u).1 ((listed.bare from u).1 (had, at), refl))
      ]

  pub no_cycles : (s : Faces) (k : Lists) → s ≡ left → AreFacesListed s k → k.cycles from ≡ []
  no_cycles s k e ls = no_member (k.cycles from) (λ x m. let r = (ls.cycles from x).0 m in no_cycle x (subst (λ z. HasCycle z x) e r.0) (ap (λ z. face_in z x) (sym e) ∙ r.1))

  pub no_vertices : (s : Faces) (k : Lists) → s ≡ left → AreFacesListed s k → k.bare from ≡ []
  no_vertices s k e ls = no_member (k.bare from) (λ x m. let r = (ls.bare from x).0 m in no_vertex x (subst (λ z. HasBareFace z x) e r.0) (ap (λ z. bare_face_in z x) (sym e) ∙ r.1))
