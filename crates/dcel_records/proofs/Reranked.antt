-- What stays where faces have other ranks.
use Rattle.std.proofs.Common.{◌≡◌, ℕ, ◌-◌, map, is_some, option_map, refl, ap, ◌∙◌}
use Rattle.slab.specs.Slab.{Slab, get, entries, slab_len}
use Rattle.slab_laws.specs.Tables.{names}
use Rattle.slab_laws.specs.View.{cycle_id, vertex_id}
use Rattle.chain_laws.specs.Links.{first_or}
use Rattle.chain_laws.specs.Rows.{tabled}
use Rattle.dcel_records.specs.declared.records.Records.TheInside.{Inside}
use Rattle.dcel_records.specs.declared.rows.StoredFace.{StoredFace}
use Rattle.dcel_records.specs.Placing.{cycle_placing, vertex_placing, heads, own}
use Rattle.dcel_records.specs.RecordsView.{RecordsView, faces_part}
use Rattle.dcel_records.specs.StoredRows.{cycle_record, bare_of, somes, face_rows, faces_view, records_view, moved_room, AreSoundFaces, unranked, IsReranked}
use Rattle.dcel_records.proofs.Chained.{own_same, chained_same}
use Rattle.dcel_records.proofs.FaceTables.{names_same}
use Rattle.dcel_records.proofs.Relinked.{through, some_same}

module _ (fs gs : Slab StoredFace) (r : IsReranked fs gs) where
  cycle_heads : (a : ℕ) → heads cycle_placing gs a ≡ heads cycle_placing fs a
  cycle_heads a = through unranked (λ f. f.first_cycle) (λ f. refl) (get gs a) (get fs a) (r.rests a)

  bare_heads : (a : ℕ) → heads vertex_placing gs a ≡ heads vertex_placing fs a
  bare_heads a = through unranked (λ f. f.first_bare) (λ f. refl) (get gs a) (get fs a) (r.rests a)

  still : (a : ℕ) → is_some (get gs a) ≡ is_some (get fs a)
  still a = some_same unranked (get gs a) (get fs a) (r.rests a)

module _ (store : Inside) (gs : Slab StoredFace) (r : IsReranked store.faces gs) (h : RecordsView) (is : records_view store ≡ h) (k : AreSoundFaces store.vertices store.cycles store.faces) where
  pub reranked_sound : AreSoundFaces store.vertices store.cycles gs
  reranked_sound = record {
    cycles = chained_same cycle_placing store.cycles store.faces k.cycles store.cycles gs refl (λ a. ap first_or (cycle_heads store.faces gs r a)) (λ n a e s. ap is_some (cycle_heads store.faces gs r a) ∙ s);
    bare = chained_same vertex_placing store.vertices store.faces k.bare store.vertices gs refl (λ a. ap first_or (bare_heads store.faces gs r a)) (λ n a e s. ap is_some (bare_heads store.faces gs r a) ∙ s);
    unbounded = still store.faces gs r 0 ∙ k.unbounded;
  }

  cycles_own : (a : ℕ) → own cycle_placing store.cycles gs a ≡ own cycle_placing store.cycles store.faces a
  cycles_own = own_same cycle_placing store.cycles store.faces k.cycles store.cycles gs refl (λ a. ap first_or (cycle_heads store.faces gs r a))

  bare_own : (a : ℕ) → own vertex_placing store.vertices gs a ≡ own vertex_placing store.vertices store.faces a
  bare_own = own_same vertex_placing store.vertices store.faces k.bare store.vertices gs refl (λ a. ap first_or (bare_heads store.faces gs r a))

  face_names : names (entries gs) ≡ names (entries store.faces)
  face_names = names_same store.faces gs (still store.faces gs r)

  rows_same : face_rows store.vertices store.cycles gs ≡ face_rows store.vertices store.cycles store.faces
  rows_same = λ i. map (λ a. (a, record { cycles = map cycle_id (cycles_own a i); bare = map vertex_id (bare_own a i) })) (face_names i)

  pub reranked_faces : faces_view store.vertices store.darts store.cycles gs store.moved store.cycle_room ≡ h.faces
  reranked_faces =
      (λ i. record {
        tables = record { cycle_of = tabled (λ r. r.cycle) store.darts; bare = somes (tabled bare_of store.vertices); cycles = tabled cycle_record store.cycles; faces = face_names i };
        rows = rows_same i;
        darts = tabled (λ r. r.dart) store.cycles;
        spare_cycles = store.cycle_room - slab_len store.cycles;
        spare_faces = r.capacity i - r.len i;
        capacity_of_cycles = store.cycle_room;
        capacity_of_faces = r.capacity i;
        moved = option_map moved_room store.moved;
      }) ∙ ap faces_part is
