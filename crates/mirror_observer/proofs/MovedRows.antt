-- Cycles and isolated vertices that move one after the other.
use Rattle.std.proofs.Common.{◌≡◌, ℕ, ◌+◌, ◌<◌, ◌≤◌, cond, List, [], ◌∷◌, length, drop, get_or, refl, sym, ap, ◌∙◌}
use Rattle.std.proofs.lemmas.List.{at_drop_more, at_drop_all}
use Rattle.slab_laws.specs.declared.names.CycleId.{CycleId}
use Rattle.slab_laws.specs.declared.names.FaceId.{FaceId}
use Rattle.slab_laws.specs.declared.names.VertexId.{VertexId}
use Rattle.slab_laws.specs.View.{Faces, CycleRecord}
use Rattle.arr_notes.specs.FaceWriters.{moved_to, lists_cycle, lists_vertex}
use Rattle.arr_notes.specs.NamedRows.{each, edit}
use Rattle.mirror_observer.specs.declared.faces.CycleEntry.{CycleEntry}
use Rattle.mirror_observer.specs.FaceTables.{faces_of, cycle_record, in_face}
use Rattle.mirror_observer.proofs.EachRow.{each_still, one_more}
use Rattle.mirror_observer.proofs.Entries.{rows_edit}

abbrev pub faced_in : FaceId → CycleRecord → CycleRecord
faced_in a r = record { kind = r.kind; face = a }

module _ (a : FaceId) (f : Faces) where
  tables : List (ℕ × FaceId) → List (ℕ × CycleRecord) → Faces
  tables bs cs = record { cycle_of = f.cycle_of; bare = bs; cycles = cs; faces = f.faces }

  pub none_moves : moved_to [] [] a f ≡ f
  none_moves = λ i. record { cycle_of = f.cycle_of; bare = each_still (λ n b. b) (λ n b. refl) f.bare i; cycles = each_still (λ n r. r) (λ n r. refl) f.cycles i; faces = f.faces }

  pub cycle_moves : (c : CycleId) (cs : List CycleId) → moved_to (c ∷ cs) [] a f ≡ moved_to cs [] a (record { cycle_of = f.cycle_of; bare = f.bare; cycles = edit c.0 (faced_in a) f.cycles; faces = f.faces })
  cycle_moves c cs = λ i. record { cycle_of = f.cycle_of; bare = each (λ n b. b) f.bare; cycles = one_more (faced_in a) (λ r. refl) c.0 (lists_cycle cs) f.cycles i; faces = f.faces }

  pub vertex_moves : (v : VertexId) (vs : List VertexId) → moved_to [] (v ∷ vs) a f ≡ moved_to [] vs a (record { cycle_of = f.cycle_of; bare = edit v.0 (λ b. a) f.bare; cycles = f.cycles; faces = f.faces })
  vertex_moves v vs = λ i. record { cycle_of = f.cycle_of; bare = one_more (λ b. a) (λ b. refl) v.0 (lists_vertex vs) f.bare i; cycles = each (λ n r. r) f.cycles; faces = f.faces }

  pub both_move : (cs : List CycleId) (vs : List VertexId) → moved_to [] vs a (moved_to cs [] a f) ≡ moved_to cs vs a f
  both_move cs vs = λ i. record {
    cycle_of = f.cycle_of;
    bare = ap (each (λ n b. cond (lists_vertex vs n) a b)) (each_still (λ n b. b) (λ n b. refl) f.bare) i;
    cycles = each_still (λ n r. r) (λ n r. refl) (each (λ n r. cond (lists_cycle cs n) (faced_in a r) r) f.cycles) i;
    faces = f.faces;
  }

-- ---- lists that are gone through
module _ (list : List CycleId) (a : FaceId) where
  pub cycle_next : (i : ℕ) (z : CycleId) (ds : List (ℕ × CycleId)) (bs : List (ℕ × FaceId)) (es new : List (ℕ × CycleEntry)) (fs : List ℕ) → i < length list → new ≡ edit (get_or list i z).0 (in_face a) es → moved_to (drop (i + 1) list) [] a (faces_of ds bs new fs) ≡ moved_to (drop i list) [] a (faces_of ds bs es fs)
  cycle_next i z ds bs es new fs l e =
      let f : Faces = faces_of ds bs es fs in
      let c : CycleId = get_or list i z in
      let rest : List CycleId = drop (i + 1) list in
      sym (at_drop_more (λ cs. moved_to cs [] a f) list i z l
      ∙ cycle_moves a f c rest
      ∙ ap (λ (rs : List (ℕ × CycleRecord)). moved_to rest [] a (record { cycle_of = ds; bare = bs; cycles = rs; faces = fs })) (sym (rows_edit cycle_record c.0 (in_face a) (faced_in a) (λ x. refl) es))
      ∙ ap (λ ns. moved_to rest [] a (faces_of ds bs ns fs)) (sym e))

  pub cycles_moved : (i : ℕ) (f : Faces) → length list ≤ i → moved_to (drop i list) [] a f ≡ f
  cycles_moved i f l = at_drop_all (λ cs. moved_to cs [] a f) list i l ∙ none_moves a f

module _ (list : List VertexId) (a : FaceId) where
  pub vertex_next : (i : ℕ) (z : VertexId) (ds : List (ℕ × CycleId)) (bs new : List (ℕ × FaceId)) (es : List (ℕ × CycleEntry)) (fs : List ℕ) → i < length list → new ≡ edit (get_or list i z).0 (λ b. a) bs → moved_to [] (drop (i + 1) list) a (faces_of ds new es fs) ≡ moved_to [] (drop i list) a (faces_of ds bs es fs)
  vertex_next i z ds bs new es fs l e =
      let f : Faces = faces_of ds bs es fs in
      let rest : List VertexId = drop (i + 1) list in
      sym (at_drop_more (λ vs. moved_to [] vs a f) list i z l
      ∙ vertex_moves a f (get_or list i z) rest
      ∙ ap (λ ns. moved_to [] rest a (faces_of ds ns es fs)) (sym e))

  pub vertices_moved : (i : ℕ) (f : Faces) → length list ≤ i → moved_to [] (drop i list) a f ≡ f
  vertices_moved i f l = at_drop_all (λ vs. moved_to [] vs a f) list i l ∙ none_moves a f
