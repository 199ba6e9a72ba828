-- The records of nothing but the unbounded face, and slabs that keep all that they hold.
use Rattle.std.proofs.Common.{◌≡◌, inl, inr, ℕ, [], ◌∷◌, map, slice_index_or, Option, Some, None, is_some, option_map, refl, sym, ap, subst, ◌∙◌, arith}
use Rattle.std.proofs.lemmas.Bool.{cases_eq}
use Rattle.slab.specs.Slab.{Slab, get, entries, Updates}
use Rattle.slab_laws.specs.FaceLists.{MovedView}
use Rattle.slab_laws.specs.Tables.{names}
use Rattle.slab_laws.specs.View.{cycle_id, vertex_id}
use Rattle.chain_laws.specs.Links.{first_or}
use Rattle.arr_notes.specs.FaceWriters.{put_name}
use Rattle.chain_laws.specs.Rows.{tabled}
use Rattle.chain_laws.proofs.Tabled.{tabled_empty}
use Rattle.dcel_records.specs.declared.rows.StoredCycle.{StoredCycle}
use Rattle.dcel_records.specs.declared.rows.StoredDart.{StoredDart}
use Rattle.dcel_records.specs.declared.rows.StoredFace.{StoredFace}
use Rattle.dcel_records.specs.declared.rows.StoredVertex.{StoredVertex}
use Rattle.dcel_records.specs.ListChanges.{lone_face, nothing_listed}
use Rattle.dcel_records.specs.Placing.{cycle_placing, vertex_placing}
use Rattle.dcel_records.specs.RecordsView.{lists_in_view}
use Rattle.dcel_records.specs.StoredRows.{cycle_record, bare_of, somes, dart_kept, tables_in, faces_view, AreReady, AreReadyWhere, AreSoundFaces}
use Rattle.dcel_records.proofs.Chained.{chained_empty, own_first}
use Rattle.dcel_records.proofs.FaceTables.{no_somes, names_put, lists_seen}
use Rattle.dcel_records.proofs.After.{names_tabled}

vacant_by : {X : Type 0} (s : Slab X) → s.slots ≡ [] → (n : ℕ) → get s n ≡ None
vacant_by s e n = ap (λ os. slice_index_or os n None) e

no_names : {X : Type 0} (s : Slab X) → s.slots ≡ [] → names (entries s) ≡ []
no_names s e = sym (names_tabled {Y = ℕ} (λ x. 0) s) ∙ ap names (tabled_empty {Y = ℕ} (λ x. 0) s e)

first_name : put_name 0 [] ≡ 0 ∷ []
unfolding put_name
first_name = refl

-- empty slabs, and one face in which nothing is, of the name 0
module _ (vs : Slab StoredVertex) (ds : Slab StoredDart) (cs : Slab StoredCycle) (fs gs : Slab StoredFace) (a : vs.slots ≡ []) (b : ds.slots ≡ []) (d : cs.slots ≡ []) (e : fs.slots ≡ []) (k : ℕ) (z : k ≡ 0) (r : StoredFace) (put : Updates fs gs k (Some r)) (no_cycle : r.first_cycle ≡ None) (no_bare : r.first_bare ≡ None) where
  at_first : get gs 0 ≡ Some r
  at_first = ap (get gs) (sym z) ∙ put.changed

  firsts : (f : StoredFace → Option ℕ) → f r ≡ None → (j : ℕ) → first_or (option_map f (get gs j)) ≡ None
  firsts f q j = elim (cases_eq j k) [
    | inl s ↦ ap (λ n. first_or (option_map f (get gs n))) s ∙ ap (λ o. first_or (option_map f o)) put.changed ∙ q
    | inr ne ↦ ap (λ o. first_or (option_map f o)) (put.others j ne ∙ vacant_by fs e j)
  ]

  pub lone_sound : AreSoundFaces vs cs gs
  lone_sound = record { cycles = chained_empty cycle_placing cs gs (vacant_by cs d) (firsts (λ x. x.first_cycle) no_cycle); bare = chained_empty vertex_placing vs gs (vacant_by vs a) (firsts (λ x. x.first_bare) no_bare); unbounded = ap is_some at_first }

  pub lone_tables : tables_in vs ds cs gs ≡ lone_face
  lone_tables = λ i. record { cycle_of = tabled_empty (λ r. r.cycle) ds b i; bare = bare i; cycles = tabled_empty cycle_record cs d i; faces = faces i }
    where
      bare : somes (tabled bare_of vs) ≡ []
      bare = ap somes (tabled_empty bare_of vs a) ∙ no_somes

      faces : names (entries gs) ≡ 0 ∷ []
      faces = names_put fs gs k r put ∙ ap (put_name k) (no_names fs e) ∙ ap (λ n. put_name n []) z ∙ first_name

  pub lone_lists : (mv : Option MovedView) (cr : ℕ) → lists_in_view (faces_view vs ds cs gs mv cr) ≡ nothing_listed
  lone_lists mv cr = lists_seen vs cs gs ds mv cr ∙ (λ i. record { cycles = λ x. map cycle_id (own_first cycle_placing cs gs x.0 (firsts (λ y. y.first_cycle) no_cycle x.0) i); bare = λ x. map vertex_id (own_first vertex_placing vs gs x.0 (firsts (λ y. y.first_bare) no_bare x.0) i); dart_on = λ c. dart_kept (vacant_by cs d c.0 i) })

-- lists of what moves, just made
pub lists_ready : (x : MovedView) → x.cycles ≡ [] → x.vertices ≡ [] → AreReadyWhere (Some x) 0 0
lists_ready x a b m e = let q : x ≡ m = cc in subst (λ y. AreReady y 0 0) q (record { no_cycles = a; no_vertices = b; room_of_cycles = omega arith; room_of_vertices = omega arith })
