-- Faces after one more, and after one fewer.
use Rattle.std.proofs.Common.{◌≡◌, ◌≢◌, inl, inr, ℕ, List, [], ◌∷◌, map, Option, Some, None, is_some, IsSome, option_map, refl, sym, ap, subst, ◌∙◌, Contains}
use Rattle.std.proofs.lemmas.Bool.{cases_eq, false≢true}
use Rattle.slab.specs.Slab.{Slab, get, Updates}
use Rattle.slab_laws.specs.declared.names.FaceId.{FaceId}
use Rattle.slab_laws.specs.FaceLists.{Lists, first_of}
use Rattle.slab_laws.specs.View.{HasFace, face_id, cycle_id, vertex_id}
use Rattle.arr_notes.specs.FaceWriters.{with_face, without_face}
use Rattle.chain_laws.specs.Links.{first_or, key_at}
use Rattle.chain_laws.proofs.Distinct.{nowhere}
use Rattle.chain_laws.specs.Rows.{tabled}
use Rattle.dcel_records.specs.declared.records.Records.TheInside.{Inside}
use Rattle.dcel_records.specs.declared.rows.StoredFace.{StoredFace}
use Rattle.dcel_records.specs.Placing.{Placing, cycle_placing, vertex_placing, nodes, heads, own, AreChained}
use Rattle.dcel_records.specs.RecordsView.{RecordsView, lists_of}
use Rattle.dcel_records.specs.StoredRows.{cycle_record, bare_of, somes, dart_kept, tables_in, lists_in, records_view, AreSoundFaces}
use Rattle.dcel_records.proofs.Chained.{own_list, own_same, own_nowhere, chained_same, first_seen}
use Rattle.dcel_records.proofs.FaceTables.{lists_seen, names_put, names_del}
use Rattle.dcel_records.proofs.Relinked.{tables_after, face_key}

none_mapped : {X Y : Type 0} (f : X → Y) (xs : List X) → map f xs ≡ [] → xs ≡ []
none_mapped f [] e = refl
none_mapped f (x ∷ xs) e = absurd (cc)

-- ---- the row of a face in whose chain nothing is becomes another one with no first, or goes
module _ {R : Type 0} (g : Placing R) (rs : Slab R) (fs gs : Slab StoredFace) (kept : AreChained g rs fs) (k : ℕ) (o : Option StoredFace) (u : Updates fs gs k o) (empty : own g rs fs k ≡ []) (none : first_or (option_map g.first o) ≡ None) where
  firsts : (j : ℕ) → first_or (heads g gs j) ≡ first_or (heads g fs j)
  firsts j = elim (cases_eq j k) [
    | inl q ↦ ap (λ z. first_or (heads g gs z)) q ∙ ap (λ x. first_or (option_map g.first x)) u.changed ∙ none ∙ sym (ap (λ z. first_or (heads g fs z)) q ∙ first_seen g rs fs kept k ∙ ap first_of empty)
    | inr ne ↦ ap (λ x. first_or (option_map g.first x)) (u.others j ne)
  ]

  still : (n j : ℕ) → key_at (nodes g rs) n ≡ Some j → IsSome (heads g fs j) → IsSome (heads g gs j)
  still n j e s = elim (cases_eq j k) [
    | inl q ↦ absurd (nowhere n (subst (λ xs. Contains xs n) empty (((own_list g rs fs kept k).members n).1 (e ∙ ap Some q))))
    | inr ne ↦ ap (λ x. is_some (option_map g.first x)) (u.others j ne) ∙ s
  ]

  chained_still : AreChained g rs gs
  chained_still = chained_same g rs fs kept rs gs refl firsts still

  own_still : (j : ℕ) → own g rs gs j ≡ own g rs fs j
  own_still = own_same g rs fs kept rs gs refl firsts

module _ (store : Inside) (h : RecordsView) (is : records_view store ≡ h) (k : AreSoundFaces store.vertices store.cycles store.faces) where
  pub face_new : (a : FaceId) → get store.faces a.0 ≡ None → ¬ HasFace h.faces.tables a
  face_new a e s = false≢true (sym (ap is_some e) ∙ face_key store h is a s)

  -- ---- a face more
  module _ (gs : Slab StoredFace) (a : ℕ) (r : StoredFace) (vacant : get store.faces a ≡ None) (u : Updates store.faces gs a (Some r)) (no_cycle : r.first_cycle ≡ None) (no_bare : r.first_bare ≡ None) where
    pub face_more_sound : AreSoundFaces store.vertices store.cycles gs
    face_more_sound = record {
      cycles = chained_still cycle_placing store.cycles store.faces gs k.cycles a (Some r) u (own_nowhere cycle_placing store.cycles store.faces a vacant) no_cycle;
      bare = chained_still vertex_placing store.vertices store.faces gs k.bare a (Some r) u (own_nowhere vertex_placing store.vertices store.faces a vacant) no_bare;
      unbounded = elim (cases_eq 0 a) [
        | inl q ↦ ap (λ n. is_some (get gs n)) q ∙ ap is_some u.changed
        | inr ne ↦ ap is_some (u.others 0 ne) ∙ k.unbounded
      ];
    }

    pub face_more_tables : tables_in store.vertices store.darts store.cycles gs ≡ with_face (face_id a) h.faces.tables
    face_more_tables = tables_after store h is store.vertices store.darts store.cycles gs (with_face (face_id a)) (λ i. record { cycle_of = tabled (λ r. r.cycle) store.darts; bare = somes (tabled bare_of store.vertices); cycles = tabled cycle_record store.cycles; faces = names_put store.faces gs a r u i })

    pub face_more_lists : lists_in store.vertices store.cycles gs ≡ lists_in store.vertices store.cycles store.faces
    face_more_lists = λ i. record {
      cycles = λ b. map cycle_id (own_still cycle_placing store.cycles store.faces gs k.cycles a (Some r) u (own_nowhere cycle_placing store.cycles store.faces a vacant) no_cycle b.0 i);
      bare = λ b. map vertex_id (own_still vertex_placing store.vertices store.faces gs k.bare a (Some r) u (own_nowhere vertex_placing store.vertices store.faces a vacant) no_bare b.0 i);
      dart_on = λ c. dart_kept (get store.cycles c.0);
    }

  -- ---- a face fewer
  module _ (gs : Slab StoredFace) (a : FaceId) (u : Updates store.faces gs a.0 None) (no_cycles : (lists_of h).cycles a ≡ []) (no_bares : (lists_of h).bare a ≡ []) where
    lists_are : lists_in store.vertices store.cycles store.faces ≡ lists_of h
    lists_are = sym (lists_seen store.vertices store.cycles store.faces store.darts store.moved store.cycle_room) ∙ ap lists_of is

    no_own_cycle : own cycle_placing store.cycles store.faces a.0 ≡ []
    no_own_cycle = none_mapped cycle_id _ (ap (λ (l : Lists). l.cycles a) lists_are ∙ no_cycles)

    no_own_bare : own vertex_placing store.vertices store.faces a.0 ≡ []
    no_own_bare = none_mapped vertex_id _ (ap (λ (l : Lists). l.bare a) lists_are ∙ no_bares)

    pub face_less_sound : a ≢ face_id 0 → AreSoundFaces store.vertices store.cycles gs
    face_less_sound n = record {
      cycles = chained_still cycle_placing store.cycles store.faces gs k.cycles a.0 None u no_own_cycle refl;
      bare = chained_still vertex_placing store.vertices store.faces gs k.bare a.0 None u no_own_bare refl;
      unbounded = ap is_some (u.others 0 (λ e. n (sym (ap face_id e)))) ∙ k.unbounded;
    }

    pub face_less_tables : tables_in store.vertices store.darts store.cycles gs ≡ without_face a h.faces.tables
    face_less_tables = tables_after store h is store.vertices store.darts store.cycles gs (without_face a) (λ i. record { cycle_of = tabled (λ r. r.cycle) store.darts; bare = somes (tabled bare_of store.vertices); cycles = tabled cycle_record store.cycles; faces = names_del store.faces gs a.0 u i })

    pub face_less_lists : lists_in store.vertices store.cycles gs ≡ lists_in store.vertices store.cycles store.faces
    face_less_lists = λ i. record {
      cycles = λ b. map cycle_id (own_still cycle_placing store.cycles store.faces gs k.cycles a.0 None u no_own_cycle refl b.0 i);
      bare = λ b. map vertex_id (own_still vertex_placing store.vertices store.faces gs k.bare a.0 None u no_own_bare refl b.0 i);
      dart_on = λ c. dart_kept (get store.cycles c.0);
    }
