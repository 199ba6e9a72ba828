-- Cycles and faces after each of their writers.
use Rattle.std.proofs.Common.{◌≡◌, ◌≢◌, inl, inr, ℕ, ◌==◌, Bool, true, false, not, cond, ◌∷◌, map, Option, Some, None, is_some, IsSome, option_map, refl, sym, ap, subst, ◌∙◌}
use Rattle.std.specs.List.{filter}
use Rattle.std.proofs.lemmas.Bool.{cases_eq, false≢true}
use Rattle.integers.proofs.Tests.{other_number, same_number}
use Rattle.plane_graphs.proofs.Lists.{some_mapped}
use Rattle.slab.specs.Slab.{Slab, get, entries, ContainsKey, with_value, Updates}
use Rattle.slab.proofs.SlabLemmas.{Updates-with_value}
use Rattle.slab_laws.specs.declared.names.CycleId.{CycleId}
use Rattle.slab_laws.specs.declared.names.CycleKind.{CycleKind}
use Rattle.slab_laws.specs.declared.names.DartId.{DartId}
use Rattle.slab_laws.specs.declared.names.FaceId.{FaceId}
use Rattle.slab_laws.specs.Tables.{row_at, names}
use Rattle.slab_laws.specs.View.{Faces, CycleRecord, HasCycle, cycle_id, vertex_id, dart_id, kind_in, kind_or}
use Rattle.arr_notes.specs.FaceWriters.{with_cycle, without_cycle}
use Rattle.arr_notes.specs.NamedRows.{put, del}
use Rattle.chain_laws.specs.Links.{Node, first_or, key_at, without}
use Rattle.chain_laws.specs.Rows.{tabled}
use Rattle.chain_laws.proofs.Tabled.{row-tabled}
use Rattle.chain_laws.proofs.Rows.{updated}
use Rattle.dcel_records.specs.declared.records.Records.TheInside.{Inside}
use Rattle.dcel_records.specs.declared.rows.StoredCycle.{StoredCycle}
use Rattle.dcel_records.specs.declared.rows.StoredFace.{StoredFace}
use Rattle.dcel_records.specs.ListChanges.{cycle_listed, cycle_unlisted, cycle_relisted, dart_listed}
use Rattle.dcel_records.specs.Placing.{cycle_placing, vertex_placing, place_node, node_or, nodes, heads, own, AreChained, AreOthersChained, all_but, rest_of, rest_of_face, IsRelinked, IsUnlinked, IsLinkedFirst}
use Rattle.dcel_records.specs.RecordsView.{RecordsView, tables_of}
use Rattle.dcel_records.specs.StoredRows.{cycle_record, bare_of, somes, dart_kept, tables_in, lists_in, records_view, AreSoundFaces}
use Rattle.dcel_records.proofs.Chained.{own_same, chained_same, others_chained, more_own, fewer_chained, fewer_own, moved_own}
use Rattle.dcel_records.proofs.FaceTables.{kinds, cycles_same, cycle_put, names_same}
use Rattle.dcel_records.proofs.Relinked.{through, some_same, map_without, map_cond, nodes_left, tables_after}
use Rattle.dcel_records.proofs.FacesKept.{nodes_updated}
use Rattle.dcel_records.proofs.Tabled.{tabled_put, tabled_del, tabled_same}

abbrev darts_of : Slab StoredCycle → ℕ → Option DartId
darts_of s n = option_map (λ r. r.dart) (get s n)

kept_by_dart : (o p : Option StoredCycle) → option_map (λ r. r.dart) o ≡ option_map (λ r. r.dart) p → dart_kept o ≡ dart_kept p
kept_by_dart o p e = sym (by o) ∙ ap or e ∙ by p
  where
    or : Option DartId → DartId
    or None = dart_id 0
    or (Some d) = d

    by : (o : Option StoredCycle) → or (option_map (λ r. r.dart) o) ≡ dart_kept o
    by None = refl
    by (Some r) = refl

-- ---- what links of cycles leave
module _ (cs es : Slab StoredCycle) (fs gs : Slab StoredFace) (r : IsRelinked cycle_placing cs es fs gs) where
  pub kinds_stay : (n : ℕ) → kinds es n ≡ kinds cs n
  kinds_stay n = through (rest_of cycle_placing) (λ x. x.kind) (λ x. refl) (get es n) (get cs n) (r.rests n)

  pub darts_stay : (n : ℕ) → dart_kept (get es n) ≡ dart_kept (get cs n)
  darts_stay n = kept_by_dart (get es n) (get cs n) (through (rest_of cycle_placing) (λ x. x.dart) (λ x. refl) (get es n) (get cs n) (r.rests n))

  pub cycle_there : (n : ℕ) → ContainsKey cs n → ContainsKey es n
  cycle_there n s = some_same (rest_of cycle_placing) (get es n) (get cs n) (r.rests n) ∙ s

  pub areas_stay : (n : ℕ) → option_map (λ r. r.area) (get es n) ≡ option_map (λ r. r.area) (get cs n)
  areas_stay n = through (rest_of cycle_placing) (λ x. x.area) (λ x. refl) (get es n) (get cs n) (r.rests n)

  pub face_still : (k : ℕ) → is_some (get gs k) ≡ is_some (get fs k)
  face_still k = some_same (rest_of_face cycle_placing) (get gs k) (get fs k) (r.face_rests k)

  pub face_there : (k : ℕ) → ContainsKey fs k → ContainsKey gs k
  face_there k s = face_still k ∙ s

  pub face_names : names (entries gs) ≡ names (entries fs)
  face_names = names_same fs gs face_still

  pub bare_firsts : (k : ℕ) → heads vertex_placing gs k ≡ heads vertex_placing fs k
  bare_firsts k = through (rest_of_face cycle_placing) (λ f. f.first_bare) (λ f. refl) (get gs k) (get fs k) (r.face_rests k)

pub relinked_twice : (cs ds es : Slab StoredCycle) (fs gs hs : Slab StoredFace) → IsRelinked cycle_placing cs ds fs gs → IsRelinked cycle_placing ds es gs hs → IsRelinked cycle_placing cs es fs hs
relinked_twice cs ds es fs gs hs a b = record { rests = λ n. b.rests n ∙ a.rests n; face_rests = λ k. b.face_rests k ∙ a.face_rests k; len = b.len ∙ a.len; capacity = b.capacity ∙ a.capacity; faces_len = b.faces_len ∙ a.faces_len; faces_capacity = b.faces_capacity ∙ a.faces_capacity }

module _ (store : Inside) (h : RecordsView) (is : records_view store ≡ h) (k : AreSoundFaces store.vertices store.cycles store.faces) where
  pub cycle_key : (c : CycleId) → HasCycle h.faces.tables c → ContainsKey store.cycles c.0
  cycle_key c s = by (get store.cycles c.0) (subst (λ (t : Faces). HasCycle t c) (sym (ap tables_of is)) s)
    where
      by : (o : Option StoredCycle) → HasCycle (tables_in store.vertices store.darts store.cycles store.faces) c → IsSome (get store.cycles c.0)
      by o s = sym (some_mapped cycle_record (get store.cycles c.0)) ∙ sym (ap is_some (row-tabled cycle_record store.cycles c.0)) ∙ s

  pub cycle_node : (c : CycleId) → HasCycle h.faces.tables c → IsSome (nodes cycle_placing store.cycles c.0)
  cycle_node c s = by (get store.cycles c.0) (cycle_key c s)
    where
      by : (o : Option StoredCycle) → IsSome o → IsSome (node_or cycle_placing o)
      by None s = s
      by (Some r) s = refl

  pub cycle_new : (c : CycleId) → get store.cycles c.0 ≡ None → ¬ HasCycle h.faces.tables c
  cycle_new c e s = false≢true (sym (ap is_some e) ∙ cycle_key c s)

  -- the bare chains stay where faces keep their first vertices
  module _ (gs : Slab StoredFace) (firsts : (a : ℕ) → heads vertex_placing gs a ≡ heads vertex_placing store.faces a) where
    pub bare_chained : AreChained vertex_placing store.vertices gs
    bare_chained = chained_same vertex_placing store.vertices store.faces k.bare store.vertices gs refl (λ a. ap first_or (firsts a)) (λ n a e s. ap is_some (firsts a) ∙ s)

    pub bare_own : (a : ℕ) → own vertex_placing store.vertices gs a ≡ own vertex_placing store.vertices store.faces a
    bare_own = own_same vertex_placing store.vertices store.faces k.bare store.vertices gs refl (λ a. ap first_or (firsts a))

  -- ---- a cycle more
  module _ (c : ℕ) (kind : CycleKind) (dart : DartId) (face : FaceId) (row : StoredCycle) (rk : row.kind ≡ kind) (rd : row.dart ≡ dart) (rf : row.place.face ≡ face) (s : Slab StoredCycle) (vacant : get store.cycles c ≡ None) (put' : Updates store.cycles s c (Some row)) where
    none : nodes cycle_placing store.cycles c ≡ None
    none = ap (node_or cycle_placing) vacant

    same : (n : ℕ) → n ≢ c → nodes cycle_placing s n ≡ nodes cycle_placing store.cycles n
    same n ne = ap (node_or cycle_placing) (put'.others n ne)

    pub more_others : AreOthersChained cycle_placing c s store.faces
    more_others = others_chained cycle_placing store.cycles store.faces k.cycles c none s same

    module _ (es : Slab StoredCycle) (gs : Slab StoredFace) (l : IsLinkedFirst cycle_placing c face s es store.faces gs) where
      keys : (n : ℕ) → key_at (nodes cycle_placing es) n ≡ key_at (nodes cycle_placing s) n
      keys n = l.keys n ∙ elim (cases_eq n c) [
        | inl q ↦ ap (λ b. cond b (Some face.0) (key_at (nodes cycle_placing s) n)) (ap (λ z. z == c) q ∙ same_number c) ∙ sym (ap (key_at (nodes cycle_placing s)) q ∙ ap (λ o. option_map (λ (x : Node). x.key) (node_or cycle_placing o)) put'.changed ∙ ap (λ (a : FaceId). Some a.0) rf)
        | inr ne ↦ ap (λ b. cond b (Some face.0) (key_at (nodes cycle_placing s) n)) (other_number n c ne)
      ]

      pub more_sound : AreSoundFaces store.vertices es gs
      more_sound = record { cycles = l.chained; bare = bare_chained gs (bare_firsts s es store.faces gs l.kept); unbounded = face_there s es store.faces gs l.kept 0 k.unbounded }

      pub more_tables : tables_in store.vertices store.darts es gs ≡ with_cycle (cycle_id c) kind face h.faces.tables
      more_tables = tables_after store h is store.vertices store.darts es gs (with_cycle (cycle_id c) kind face) (λ i. record { cycle_of = tabled (λ r. r.cycle) store.darts; bare = somes (tabled bare_of store.vertices); cycles = rows i; faces = face_names s es store.faces gs l.kept i })
        where
          rows : tabled cycle_record es ≡ put c (record { kind = kind; face = face }) (tabled cycle_record store.cycles)
          rows = cycles_same s es (kinds_stay s es store.faces gs l.kept) keys ∙ tabled_put cycle_record store.cycles s c row put' ∙ (λ i. put c (record { kind = rk i; face = rf i }) (tabled cycle_record store.cycles))

      pub more_lists : lists_in store.vertices es gs ≡ cycle_listed (cycle_id c) face dart (lists_in store.vertices store.cycles store.faces)
      more_lists = λ i. record { cycles = λ a. cycles_at a.0 i; bare = λ a. map vertex_id (bare_own gs (bare_firsts s es store.faces gs l.kept) a.0 i); dart_on = λ x. dart_at x.0 i }
        where
          cycles_at : (a : ℕ) → map cycle_id (own cycle_placing es gs a) ≡ cond (a == face.0) (cycle_id c ∷ map cycle_id (own cycle_placing store.cycles store.faces a)) (map cycle_id (own cycle_placing store.cycles store.faces a))
          cycles_at a = ap (map cycle_id) (more_own cycle_placing store.cycles store.faces k.cycles c none s same face es gs l a) ∙ map_cond cycle_id (a == face.0) (c ∷ own cycle_placing store.cycles store.faces a) (own cycle_placing store.cycles store.faces a)

          dart_at : (n : ℕ) → dart_kept (get es n) ≡ cond (n == c) dart (dart_kept (get store.cycles n))
          dart_at n = darts_stay s es store.faces gs l.kept n ∙ ap dart_kept (updated store.cycles s c (Some row) put' n) ∙ by (n == c)
            where
              by : (b : Bool) → dart_kept (cond b (Some row) (get store.cycles n)) ≡ cond b dart (dart_kept (get store.cycles n))
              by true = rd
              by false = refl

  -- ---- a cycle out of its chain
  module _ (c : ℕ) (s : Slab StoredCycle) (gs : Slab StoredFace) (u : IsUnlinked cycle_placing c store.cycles s store.faces gs) where
    -- and gone
    module _ (es : Slab StoredCycle) (gone : Updates s es c None) where
      left : nodes cycle_placing es ≡ all_but c (nodes cycle_placing s)
      left = nodes_left cycle_placing s es c None refl gone

      pub fewer_sound : AreSoundFaces store.vertices es gs
      fewer_sound = record { cycles = fewer_chained cycle_placing store.cycles store.faces k.cycles c s gs u es left; bare = bare_chained gs (bare_firsts store.cycles s store.faces gs u.kept); unbounded = face_there store.cycles s store.faces gs u.kept 0 k.unbounded }

      pub fewer_tables : tables_in store.vertices store.darts es gs ≡ without_cycle (cycle_id c) h.faces.tables
      fewer_tables = tables_after store h is store.vertices store.darts es gs (without_cycle (cycle_id c)) (λ i. record { cycle_of = tabled (λ r. r.cycle) store.darts; bare = somes (tabled bare_of store.vertices); cycles = rows i; faces = face_names store.cycles s store.faces gs u.kept i })
        where
          rows : tabled cycle_record es ≡ del c (tabled cycle_record store.cycles)
          rows = tabled_del cycle_record s es c gone ∙ ap (del c) (cycles_same store.cycles s (kinds_stay store.cycles s store.faces gs u.kept) u.keys)

      pub fewer_lists : lists_in store.vertices es gs ≡ cycle_unlisted (cycle_id c) (lists_in store.vertices store.cycles store.faces)
      fewer_lists = λ i. record { cycles = λ a. cycles_at a.0 i; bare = λ a. map vertex_id (bare_own gs (bare_firsts store.cycles s store.faces gs u.kept) a.0 i); dart_on = λ x. dart_at x.0 i }
        where
          cycles_at : (a : ℕ) → map cycle_id (own cycle_placing es gs a) ≡ filter (λ x. not (x.0 == c)) (map cycle_id (own cycle_placing store.cycles store.faces a))
          cycles_at a = ap (map cycle_id) (fewer_own cycle_placing store.cycles store.faces k.cycles c s gs u es left a) ∙ map_without cycle_id (λ x. x.0) (λ n. refl) c (own cycle_placing store.cycles store.faces a)

          dart_at : (n : ℕ) → dart_kept (get es n) ≡ cond (n == c) (dart_id 0) (dart_kept (get store.cycles n))
          dart_at n = ap dart_kept (updated s es c None gone n) ∙ by (n == c) ∙ ap (cond (n == c) (dart_id 0)) (darts_stay store.cycles s store.faces gs u.kept n)
            where
              by : (b : Bool) → dart_kept (cond b None (get s n)) ≡ cond b (dart_id 0) (dart_kept (get s n))
              by true = refl
              by false = refl

    -- and the first of another face
    module _ (face : FaceId) (es : Slab StoredCycle) (hs : Slab StoredFace) (l : IsLinkedFirst cycle_placing c face s es gs hs) where
      both : IsRelinked cycle_placing store.cycles es store.faces hs
      both = relinked_twice store.cycles s es store.faces gs hs u.kept l.kept

      pub moved_sound : AreSoundFaces store.vertices es hs
      moved_sound = record { cycles = l.chained; bare = bare_chained hs (bare_firsts store.cycles es store.faces hs both); unbounded = face_there store.cycles es store.faces hs both 0 k.unbounded }

      pub moved_tables : (kind : CycleKind) → kinds store.cycles c ≡ Some kind → tables_in store.vertices store.darts es hs ≡ with_cycle (cycle_id c) kind face h.faces.tables
      moved_tables kind e = tables_after store h is store.vertices store.darts es hs (with_cycle (cycle_id c) kind face) (λ i. record { cycle_of = tabled (λ r. r.cycle) store.darts; bare = somes (tabled bare_of store.vertices); cycles = rows i; faces = face_names store.cycles es store.faces hs both i })
        where
          rows : tabled cycle_record es ≡ put c (record { kind = kind; face = face }) (tabled cycle_record store.cycles)
          rows = cycle_put store.cycles es c kind face (kinds_stay store.cycles es store.faces hs both) e (λ n. l.keys n ∙ ap (cond (n == c) (Some face.0)) (u.keys n))

      pub moved_lists : lists_in store.vertices es hs ≡ cycle_relisted (cycle_id c) face (lists_in store.vertices store.cycles store.faces)
      moved_lists = λ i. record { cycles = λ a. cycles_at a.0 i; bare = λ a. map vertex_id (bare_own hs (bare_firsts store.cycles es store.faces hs both) a.0 i); dart_on = λ x. darts_stay store.cycles es store.faces hs both x.0 i }
        where
          cycles_at : (a : ℕ) → map cycle_id (own cycle_placing es hs a) ≡ cond (a == face.0) (cycle_id c ∷ filter (λ x. not (x.0 == c)) (map cycle_id (own cycle_placing store.cycles store.faces a))) (filter (λ x. not (x.0 == c)) (map cycle_id (own cycle_placing store.cycles store.faces a)))
          cycles_at a =
              ap (map cycle_id) (moved_own cycle_placing store.cycles store.faces k.cycles c s gs u face es hs l a)
              ∙ map_cond cycle_id (a == face.0) (c ∷ without c (own cycle_placing store.cycles store.faces a)) (without c (own cycle_placing store.cycles store.faces a))
              ∙ ap (λ xs. cond (a == face.0) (cycle_id c ∷ xs) xs) (map_without cycle_id (λ x. x.0) (λ n. refl) c (own cycle_placing store.cycles store.faces a))

  -- the kind that a cycle has
  pub kind_found : (c : CycleId) → HasCycle h.faces.tables c → kinds store.cycles c.0 ≡ Some (kind_in h.faces.tables c)
  kind_found c s = by (get store.cycles c.0) (cycle_key c s) ∙ ap (λ (t : Faces). Some (kind_in t c)) (ap tables_of is)
    where
      to : (o : Option StoredCycle) → IsSome o → option_map (λ r. r.kind) o ≡ Some (kind_or (option_map cycle_record o))
      to None s = absurd (false≢true s)
      to (Some r) s = refl

      by : (o : Option StoredCycle) → IsSome (get store.cycles c.0) → kinds store.cycles c.0 ≡ Some (kind_in (tables_in store.vertices store.darts store.cycles store.faces) c)
      by o s = to (get store.cycles c.0) s ∙ ap (λ p. Some (kind_or p)) (sym (row-tabled cycle_record store.cycles c.0))

  -- ---- another dart for a cycle
  module _ (c : ℕ) (r q : StoredCycle) (g : get store.cycles c ≡ Some r) (qk : q.kind ≡ r.kind) (qp : q.place ≡ r.place) where
    w : Updates store.cycles (with_value store.cycles c q) c (Some q)
    w = Updates-with_value store.cycles c q (ap is_some g)

    same_nodes : (n : ℕ) → nodes cycle_placing (with_value store.cycles c q) n ≡ nodes cycle_placing store.cycles n
    same_nodes = nodes_updated cycle_placing store.cycles (with_value store.cycles c q) c (Some q) w (ap (λ p. Some (place_node p)) qp ∙ sym (ap (node_or cycle_placing) g))

    pub dart_sound : AreSoundFaces store.vertices (with_value store.cycles c q) store.faces
    dart_sound = record { cycles = chained_same cycle_placing store.cycles store.faces k.cycles (with_value store.cycles c q) store.faces (λ i n. same_nodes n i) (λ a. refl) (λ n a e s. s); bare = k.bare; unbounded = k.unbounded }

    pub dart_tables : tables_in store.vertices store.darts (with_value store.cycles c q) store.faces ≡ h.faces.tables
    dart_tables = tables_after store h is store.vertices store.darts (with_value store.cycles c q) store.faces (λ t. t) (λ i. record { cycle_of = tabled (λ r. r.cycle) store.darts; bare = somes (tabled bare_of store.vertices); cycles = rows i; faces = names (entries store.faces) })
      where
        rows : tabled cycle_record (with_value store.cycles c q) ≡ tabled cycle_record store.cycles
        rows = tabled_same cycle_record store.cycles (with_value store.cycles c q) c r q g (λ i. record { kind = qk i; face = (qp i).face }) w

    pub dart_lists : lists_in store.vertices (with_value store.cycles c q) store.faces ≡ dart_listed (cycle_id c) q.dart (lists_in store.vertices store.cycles store.faces)
    dart_lists = λ i. record { cycles = λ a. map cycle_id (own_same cycle_placing store.cycles store.faces k.cycles (with_value store.cycles c q) store.faces (λ j n. same_nodes n j) (λ b. refl) a.0 i); bare = λ a. map vertex_id (own vertex_placing store.vertices store.faces a.0); dart_on = λ x. dart_at x.0 i }
      where
        dart_at : (n : ℕ) → dart_kept (get (with_value store.cycles c q) n) ≡ cond (n == c) q.dart (dart_kept (get store.cycles n))
        dart_at n = ap dart_kept (updated store.cycles (with_value store.cycles c q) c (Some q) w n) ∙ by (n == c)
          where
            by : (b : Bool) → dart_kept (cond b (Some q) (get store.cycles n)) ≡ cond b q.dart (dart_kept (get store.cycles n))
            by true = refl
            by false = refl

-- ---- what a reader of cycles answers
abbrev told : CycleRecord → CycleKind × FaceId
told r = (r.kind, r.face)

abbrev told_by : StoredCycle → CycleKind × FaceId
told_by r = (r.kind, r.place.face)

pub cycle_found : (store : Inside) (h : RecordsView) → records_view store ≡ h → (c : CycleId) (o : Option StoredCycle) → get store.cycles c.0 ≡ o → option_map told_by o ≡ option_map told (row_at h.faces.tables.cycles c.0)
cycle_found store h is c o e = by o ∙ ap (λ p. option_map told (option_map cycle_record p)) (sym e) ∙ ap (option_map told) (sym (row-tabled cycle_record store.cycles c.0)) ∙ ap (λ (t : Faces). option_map told (row_at t.cycles c.0)) (ap tables_of is)
  where
    by : (o : Option StoredCycle) → option_map told_by o ≡ option_map told (option_map cycle_record o)
    by None = refl
    by (Some r) = refl
