-- Isolated vertices after each of their writers.
use Rattle.std.proofs.Common.{◌≡◌, inl, inr, ℕ, ◌-◌, ◌==◌, Bool, true, false, not, cond, ◌∷◌, map, List, Option, Some, None, is_some, IsSome, option_map, refl, sym, ap, subst, ◌∙◌, Contains}
use Rattle.std.specs.Prelude.{is_none}
use Rattle.std.specs.List.{filter}
use Rattle.std.proofs.lemmas.Bool.{cases_eq, false≢true}
use Rattle.integers.proofs.Tests.{other_number, same_number}
use Rattle.plane_graphs.proofs.Lists.{some_mapped}
use Rattle.slab.specs.Slab.{Slab, get, entries, slab_len, ContainsKey, with_value, Updates}
use Rattle.slab.proofs.SlabLemmas.{Updates-with_value}
use Rattle.slab_laws.specs.declared.names.FaceId.{FaceId}
use Rattle.slab_laws.specs.declared.names.VertexId.{VertexId}
use Rattle.slab_laws.specs.Tables.{row_at, names}
use Rattle.slab_laws.specs.View.{Faces, VertexRecord, HasBareFace, cycle_id, vertex_id, face_id}
use Rattle.arr_notes.specs.FaceWriters.{bare_in, not_bare}
use Rattle.arr_notes.proofs.RowLaws.{one_table}
use Rattle.chain_laws.specs.Links.{Node, first_or, key_at, without}
use Rattle.chain_laws.proofs.Distinct.{without_absent}
use Rattle.chain_laws.specs.Rows.{tabled}
use Rattle.chain_laws.proofs.Tabled.{row-tabled, ascend-tabled}
use Rattle.dcel_records.specs.declared.records.Records.TheInside.{Inside}
use Rattle.dcel_records.specs.declared.rows.Place.{Place}
use Rattle.dcel_records.specs.declared.rows.StoredDart.{StoredDart}
use Rattle.dcel_records.specs.declared.rows.StoredFace.{StoredFace}
use Rattle.dcel_records.specs.declared.rows.StoredVertex.{StoredVertex}
use Rattle.dcel_records.specs.ListChanges.{vertex_listed, vertex_unlisted, vertex_relisted}
use Rattle.dcel_records.specs.Outs.{IsOut}
use Rattle.dcel_records.specs.Placing.{cycle_placing, vertex_placing, place_node, node_or, nodes, heads, own, AreChained, AreOthersChained, all_but, rest_of, rest_of_face, IsRelinked, IsUnlinked, IsLinkedFirst}
use Rattle.dcel_records.specs.RecordsView.{RecordsView, GraphView, tables_of, graph_part}
use Rattle.dcel_records.specs.StoredRows.{vertex_of, cycle_record, dart_kept, graph_in, graph_view, tables_in, lists_in, records_view, out_or, out_at, pins_among, AreSoundGraphs, AreSoundFaces, HasLeft}
use Rattle.dcel_records.specs.declared.vertex_map.VertexMap.{VertexMap}
use Rattle.dcel_records.specs.VertexMaps.{IsMapOf}
use Rattle.dcel_records.proofs.Chained.{own_list, own_same, chained_same, others_chained, more_own, fewer_chained, fewer_own, moved_own}
use Rattle.dcel_records.proofs.FaceTables.{bare_seen, bare_put, bare_del, bare_same, names_same}
use Rattle.dcel_records.proofs.FacesKept.{nodes_updated}
use Rattle.dcel_records.proofs.Relinked.{through, some_same, node_none, map_without, map_cond, nodes_left, tables_after}
use Rattle.dcel_records.proofs.Removing.{len_written}
use Rattle.dcel_records.proofs.Writing.{kept_by}

-- the graph of a view, with what two slabs have room for
abbrev pub graph_moved : Slab StoredVertex → Slab StoredDart → GraphView → GraphView
graph_moved ws ds h = record { graph = h.graph; spare_vertices = ws.capacity - slab_len ws; spare_darts = ds.capacity - slab_len ds; capacity_of_vertices = ws.capacity; capacity_of_darts = ds.capacity }

-- the vertices' table, and the darts out, where all but places stays
module _ (vs ws : Slab StoredVertex) (ds : Slab StoredDart) (rests : (n : ℕ) → option_map (rest_of vertex_placing) (get ws n) ≡ option_map (rest_of vertex_placing) (get vs n)) where
  vertices_same : tabled vertex_of ws ≡ tabled vertex_of vs
  vertices_same = one_table _ _ (ascend-tabled vertex_of ws) (ascend-tabled vertex_of vs) (λ n. row-tabled vertex_of ws n ∙ through (rest_of vertex_placing) vertex_of (λ x. refl) (get ws n) (get vs n) (rests n) ∙ sym (row-tabled vertex_of vs n))

  pub graph_same : graph_in ws ds ≡ graph_in vs ds
  graph_same = λ i. record { vertices = vertices_same i; darts = (graph_in vs ds).darts }

  outs_same : (w : VertexId) → out_at ws w ≡ out_at vs w
  outs_same w = out_is (get ws w.0) ∙ ap or (through (rest_of vertex_placing) (λ x. x.out) (λ x. refl) (get ws w.0) (get vs w.0) (rests w.0)) ∙ sym (out_is (get vs w.0))
    where
      or : {X : Type 0} → Option (Option X) → Option X
      or None = None
      or (Some o) = o

      out_is : (o : Option StoredVertex) → out_or o ≡ or (option_map (λ x. x.out) o)
      out_is None = refl
      out_is (Some x) = refl

  pub graph_sound : {at : VertexMap} (pins : ℕ) → AreSoundGraphs vs ds at pins → AreSoundGraphs ws ds at pins
  graph_sound {at} pins k = record {
    rows = kept_by ws ds (graph_in vs ds) graph_same k.rows.twinned (λ w. subst (λ o. IsOut (graph_in vs ds) w o) (sym (outs_same w)) (k.rows.outs w));
    mapped = subst (λ (rs : List (ℕ × VertexRecord)). IsMapOf at rs) (sym vertices_same) k.mapped;
    counted = k.counted ∙ sym (ap pins_among vertices_same);
  }

  pub graph_left : (h : GraphView) → graph_view vs ds ≡ h → graph_view ws ds ≡ graph_moved ws ds h
  graph_left h is = λ i. record { graph = (graph_same ∙ ap (λ v. v.graph) is) i; spare_vertices = ws.capacity - slab_len ws; spare_darts = ds.capacity - slab_len ds; capacity_of_vertices = ws.capacity; capacity_of_darts = ds.capacity }

pub graph_part_same : (store : Inside) (ws : Slab StoredVertex) → ((n : ℕ) → option_map (rest_of vertex_placing) (get ws n) ≡ option_map (rest_of vertex_placing) (get store.vertices n)) → (h : RecordsView) → records_view store ≡ h → slab_len ws ≡ slab_len store.vertices → graph_part (records_view (record store { vertices = ws })) ≡ graph_part h
graph_part_same store ws rests h is l =
    (λ i. record { graph = graph_same store.vertices ws store.darts rests i; spare_vertices = store.vertex_room - l i; spare_darts = store.darts.capacity - slab_len store.darts; capacity_of_vertices = store.vertex_room; capacity_of_darts = store.darts.capacity }) ∙ ap graph_part is

-- ---- what links of vertices leave
module _ (vs ws : Slab StoredVertex) (fs gs : Slab StoredFace) (r : IsRelinked vertex_placing vs ws fs gs) where
  pub vertex_there : (n : ℕ) → ContainsKey vs n → ContainsKey ws n
  vertex_there n s = some_same (rest_of vertex_placing) (get ws n) (get vs n) (r.rests n) ∙ s

  face_still : (k : ℕ) → is_some (get gs k) ≡ is_some (get fs k)
  face_still k = some_same (rest_of_face vertex_placing) (get gs k) (get fs k) (r.face_rests k)

  pub bare_face_there : (k : ℕ) → ContainsKey fs k → ContainsKey gs k
  bare_face_there k s = face_still k ∙ s

  pub face_names : names (entries gs) ≡ names (entries fs)
  face_names = names_same fs gs face_still

  pub cycle_firsts : (k : ℕ) → heads cycle_placing gs k ≡ heads cycle_placing fs k
  cycle_firsts k = through (rest_of_face vertex_placing) (λ f. f.first_cycle) (λ f. refl) (get gs k) (get fs k) (r.face_rests k)

pub relinked_both : (vs us ws : Slab StoredVertex) (fs gs hs : Slab StoredFace) → IsRelinked vertex_placing vs us fs gs → IsRelinked vertex_placing us ws gs hs → IsRelinked vertex_placing vs ws fs hs
relinked_both vs us ws fs gs hs a b = record { rests = λ n. b.rests n ∙ a.rests n; face_rests = λ k. b.face_rests k ∙ a.face_rests k; len = b.len ∙ a.len; capacity = b.capacity ∙ a.capacity; faces_len = b.faces_len ∙ a.faces_len; faces_capacity = b.faces_capacity ∙ a.faces_capacity }

module _ (store : Inside) (h : RecordsView) (is : records_view store ≡ h) (k : AreSoundFaces store.vertices store.cycles store.faces) where
  -- the cycles' chains stay where faces keep their first cycles
  module _ (gs : Slab StoredFace) (firsts : (a : ℕ) → heads cycle_placing gs a ≡ heads cycle_placing store.faces a) where
    pub cycles_chained : AreChained cycle_placing store.cycles gs
    cycles_chained = chained_same cycle_placing store.cycles store.faces k.cycles store.cycles gs refl (λ a. ap first_or (firsts a)) (λ n a e s. ap is_some (firsts a) ∙ s)

    pub cycles_own : (a : ℕ) → own cycle_placing store.cycles gs a ≡ own cycle_placing store.cycles store.faces a
    cycles_own = own_same cycle_placing store.cycles store.faces k.cycles store.cycles gs refl (λ a. ap first_or (firsts a))

  bare_row : (v : VertexId) → row_at h.faces.tables.bare v.0 ≡ option_map face_id (key_at (nodes vertex_placing store.vertices) v.0)
  bare_row v = ap (λ (t : Faces). row_at t.bare v.0) (sym (ap tables_of is)) ∙ bare_seen store.vertices v.0

  pub bare_none : (v : VertexId) → ¬ HasBareFace h.faces.tables v → nodes vertex_placing store.vertices v.0 ≡ None
  bare_none v n = node_none (nodes vertex_placing store.vertices v.0) (by (key_at (nodes vertex_placing store.vertices) v.0) (λ s. n (ap is_some (bare_row v) ∙ some_mapped face_id (key_at (nodes vertex_placing store.vertices) v.0) ∙ s)))
    where
      by : (o : Option ℕ) → ¬ IsSome o → o ≡ None
      by None n = refl
      by (Some x) n = absurd (n refl)

  pub bare_node : (v : VertexId) → HasBareFace h.faces.tables v → IsSome (nodes vertex_placing store.vertices v.0)
  bare_node v s = sym (some_mapped (λ (x : Node). x.key) (nodes vertex_placing store.vertices v.0)) ∙ sym (some_mapped face_id (key_at (nodes vertex_placing store.vertices) v.0)) ∙ ap is_some (sym (bare_row v)) ∙ s

  -- ---- a vertex put in a face
  module _ (v : VertexId) (none : nodes vertex_placing store.vertices v.0 ≡ None) where
    pub vertex_others : AreOthersChained vertex_placing v.0 store.vertices store.faces
    vertex_others = others_chained vertex_placing store.vertices store.faces k.bare v.0 none store.vertices (λ n ne. refl)

    module _ (face : FaceId) (ws : Slab StoredVertex) (gs : Slab StoredFace) (l : IsLinkedFirst vertex_placing v.0 face store.vertices ws store.faces gs) where
      pub set_sound : AreSoundFaces ws store.cycles gs
      set_sound = record { cycles = cycles_chained gs (cycle_firsts store.vertices ws store.faces gs l.kept); bare = l.chained; unbounded = bare_face_there store.vertices ws store.faces gs l.kept 0 k.unbounded }

      pub set_tables : tables_in ws store.darts store.cycles gs ≡ bare_in v face h.faces.tables
      set_tables = tables_after store h is ws store.darts store.cycles gs (bare_in v face) (λ i. record { cycle_of = tabled (λ r. r.cycle) store.darts; bare = bare_put store.vertices ws v.0 face l.keys i; cycles = tabled cycle_record store.cycles; faces = face_names store.vertices ws store.faces gs l.kept i })

      pub set_lists : lists_in ws store.cycles gs ≡ vertex_listed v face (lists_in store.vertices store.cycles store.faces)
      set_lists = λ i. record { cycles = λ a. map cycle_id (cycles_own gs (cycle_firsts store.vertices ws store.faces gs l.kept) a.0 i); bare = λ a. bare_at a.0 i; dart_on = λ c. dart_kept (get store.cycles c.0) }
        where
          bare_at : (a : ℕ) → map vertex_id (own vertex_placing ws gs a) ≡ cond (a == face.0) (v ∷ map vertex_id (own vertex_placing store.vertices store.faces a)) (map vertex_id (own vertex_placing store.vertices store.faces a))
          bare_at a = ap (map vertex_id) (more_own vertex_placing store.vertices store.faces k.bare v.0 none store.vertices (λ n ne. refl) face ws gs l a) ∙ map_cond vertex_id (a == face.0) (v.0 ∷ own vertex_placing store.vertices store.faces a) (own vertex_placing store.vertices store.faces a)

  -- ---- a vertex out of its chain
  module _ (v : VertexId) (us : Slab StoredVertex) (gs : Slab StoredFace) (u : IsUnlinked vertex_placing v.0 store.vertices us store.faces gs) where
    -- and the first of another face
    module _ (face : FaceId) (ws : Slab StoredVertex) (hs : Slab StoredFace) (l : IsLinkedFirst vertex_placing v.0 face us ws gs hs) where
      pub both : IsRelinked vertex_placing store.vertices ws store.faces hs
      both = relinked_both store.vertices us ws store.faces gs hs u.kept l.kept

      pub moved_sound : AreSoundFaces ws store.cycles hs
      moved_sound = record { cycles = cycles_chained hs (cycle_firsts store.vertices ws store.faces hs both); bare = l.chained; unbounded = bare_face_there store.vertices ws store.faces hs both 0 k.unbounded }

      pub moved_tables : tables_in ws store.darts store.cycles hs ≡ bare_in v face h.faces.tables
      moved_tables = tables_after store h is ws store.darts store.cycles hs (bare_in v face) (λ i. record { cycle_of = tabled (λ r. r.cycle) store.darts; bare = bare_put store.vertices ws v.0 face (λ n. l.keys n ∙ ap (cond (n == v.0) (Some face.0)) (u.keys n)) i; cycles = tabled cycle_record store.cycles; faces = face_names store.vertices ws store.faces hs both i })

      pub moved_lists : lists_in ws store.cycles hs ≡ vertex_relisted v face (lists_in store.vertices store.cycles store.faces)
      moved_lists = λ i. record { cycles = λ a. map cycle_id (cycles_own hs (cycle_firsts store.vertices ws store.faces hs both) a.0 i); bare = λ a. bare_at a.0 i; dart_on = λ c. dart_kept (get store.cycles c.0) }
        where
          bare_at : (a : ℕ) → map vertex_id (own vertex_placing ws hs a) ≡ cond (a == face.0) (v ∷ filter (λ x. not (x.0 == v.0)) (map vertex_id (own vertex_placing store.vertices store.faces a))) (filter (λ x. not (x.0 == v.0)) (map vertex_id (own vertex_placing store.vertices store.faces a)))
          bare_at a =
              ap (map vertex_id) (moved_own vertex_placing store.vertices store.faces k.bare v.0 us gs u face ws hs l a)
              ∙ map_cond vertex_id (a == face.0) (v.0 ∷ without v.0 (own vertex_placing store.vertices store.faces a)) (without v.0 (own vertex_placing store.vertices store.faces a))
              ∙ ap (λ xs. cond (a == face.0) (v ∷ xs) xs) (map_without vertex_id (λ x. x.0) (λ n. refl) v.0 (own vertex_placing store.vertices store.faces a))

  -- ---- a vertex that has left its face
  module _ (v : VertexId) (ws : Slab StoredVertex) (gs : Slab StoredFace) (l : HasLeft v.0 store.vertices ws store.faces gs) where
    pub left_sound : AreSoundFaces ws store.cycles gs
    left_sound = record { cycles = cycles_chained gs (cycle_firsts store.vertices ws store.faces gs l.kept); bare = l.chained; unbounded = bare_face_there store.vertices ws store.faces gs l.kept 0 k.unbounded }

    left_rows : tables_in ws store.darts store.cycles gs ≡ not_bare v (tables_in store.vertices store.darts store.cycles store.faces)
    left_rows = λ i. record { cycle_of = tabled (λ r. r.cycle) store.darts; bare = bare_del store.vertices ws v.0 l.keys i; cycles = tabled cycle_record store.cycles; faces = face_names store.vertices ws store.faces gs l.kept i }

    pub left_tables : tables_in ws store.darts store.cycles gs ≡ not_bare v h.faces.tables
    left_tables = tables_after store h is ws store.darts store.cycles gs (not_bare v) left_rows

    bare_at : (a : ℕ) → map vertex_id (own vertex_placing ws gs a) ≡ filter (λ x. not (x.0 == v.0)) (map vertex_id (own vertex_placing store.vertices store.faces a))
    bare_at a = ap (map vertex_id) (l.owns a) ∙ map_without vertex_id (λ x. x.0) (λ n. refl) v.0 (own vertex_placing store.vertices store.faces a)

    pub left_lists : lists_in ws store.cycles gs ≡ vertex_unlisted v (lists_in store.vertices store.cycles store.faces)
    left_lists = λ i. record { cycles = λ a. map cycle_id (cycles_own gs (cycle_firsts store.vertices ws store.faces gs l.kept) a.0 i); bare = λ a. bare_at a.0 i; dart_on = λ c. dart_kept (get store.cycles c.0) }

    -- and is gone
    module _ (es : Slab StoredVertex) (gone : Updates ws es v.0 None) where
      no_node : nodes vertex_placing ws v.0 ≡ None
      no_node = node_none (nodes vertex_placing ws v.0) (l.keys v.0 ∙ ap (λ b. cond b None (key_at (nodes vertex_placing store.vertices) v.0)) (same_number v.0))

      still : (n : ℕ) → nodes vertex_placing es n ≡ nodes vertex_placing ws n
      still = nodes_updated vertex_placing ws es v.0 None gone (sym no_node)

      pub gone_sound : AreSoundFaces es store.cycles gs
      gone_sound = record { cycles = left_sound.cycles; bare = chained_same vertex_placing ws gs l.chained es gs (λ i n. still n i) (λ a. refl) (λ n a e s. s); unbounded = left_sound.unbounded }

      pub gone_tables : tables_in es store.darts store.cycles gs ≡ not_bare v h.faces.tables
      gone_tables = (λ i. record { cycle_of = tabled (λ r. r.cycle) store.darts; bare = bare_same ws es (λ n. ap (option_map (λ (x : Node). x.key)) (still n)) i; cycles = tabled cycle_record store.cycles; faces = names (entries gs) }) ∙ left_tables

      pub gone_lists : lists_in es store.cycles gs ≡ vertex_unlisted v (lists_in store.vertices store.cycles store.faces)
      gone_lists = (λ i. record { cycles = λ a. map cycle_id (own cycle_placing store.cycles gs a.0); bare = λ a. map vertex_id (own_same vertex_placing ws gs l.chained es gs (λ j n. still n j) (λ b. refl) a.0 i); dart_on = λ c. dart_kept (get store.cycles c.0) }) ∙ left_lists

-- ---- how a vertex leaves
module _ (vs : Slab StoredVertex) (fs : Slab StoredFace) (kept : AreChained vertex_placing vs fs) (c : ℕ) (r : StoredVertex) (was : get vs c ≡ Some r) where
  pub node_there : is_none r.place ≡ false → IsSome (nodes vertex_placing vs c)
  node_there e = ap (λ o. is_some (node_or vertex_placing o)) was ∙ by r.place e
    where
      by : (o : Option Place) → is_none o ≡ false → IsSome (option_map place_node o)
      by None e = absurd (false≢true (sym e))
      by (Some p) e = refl

  -- it was in no face
  pub left_already : is_none r.place ≡ true → HasLeft c vs vs fs fs
  left_already e = record {
    chained = kept;
    owns = λ k. sym (without_absent c (own vertex_placing vs fs k) (absent k));
    keys = keys;
    kept = record { rests = λ n. refl; face_rests = λ n. refl; len = refl; capacity = refl; faces_len = refl; faces_capacity = refl };
  }
    where
      none : nodes vertex_placing vs c ≡ None
      none = ap (node_or vertex_placing) was ∙ by r.place e
        where
          by : (o : Option Place) → is_none o ≡ true → option_map place_node o ≡ None
          by None e = refl
          by (Some p) e = absurd (false≢true e)

      absent : (k : ℕ) → ¬ Contains (own vertex_placing vs fs k) c
      absent k d = let z : None ≡ Some k = sym (ap (option_map (λ (x : Node). x.key)) none) ∙ ((own_list vertex_placing vs fs kept k).members c).0 d in absurd (cc)

      keys : (n : ℕ) → key_at (nodes vertex_placing vs) n ≡ cond (n == c) None (key_at (nodes vertex_placing vs) n)
      keys n = elim (cases_eq n c) [
        | inl q ↦ ap (key_at (nodes vertex_placing vs)) q ∙ ap (option_map (λ (x : Node). x.key)) none ∙ sym (ap (λ b. cond b None (key_at (nodes vertex_placing vs) n)) (ap (λ z. z == c) q ∙ same_number c))
        | inr ne ↦ sym (ap (λ b. cond b None (key_at (nodes vertex_placing vs) n)) (other_number n c ne))
      ]

  -- it was taken out of its chain
  module _ (us : Slab StoredVertex) (gs : Slab StoredFace) (u : IsUnlinked vertex_placing c vs us fs gs) (x : StoredVertex) (g : get us c ≡ Some x) where
    abbrev bared : StoredVertex
    bared = record { point = x.point; pinned = x.pinned; out = x.out; place = None }

    w : Updates us (with_value us c bared) c (Some bared)
    w = Updates-with_value us c bared (ap is_some g)

    cut : nodes vertex_placing (with_value us c bared) ≡ all_but c (nodes vertex_placing us)
    cut = nodes_left vertex_placing us (with_value us c bared) c (Some bared) refl w

    pub left_now : HasLeft c vs (with_value us c bared) fs gs
    left_now = record {
      chained = fewer_chained vertex_placing vs fs kept c us gs u (with_value us c bared) cut;
      owns = fewer_own vertex_placing vs fs kept c us gs u (with_value us c bared) cut;
      keys = λ n. ap (λ f. option_map (λ (z : Node). z.key) (f n)) cut ∙ by (n == c) (nodes vertex_placing us n) ∙ ap (cond (n == c) None) (u.keys n);
      kept = record {
        rests = rests;
        face_rests = u.kept.face_rests;
        len = len_written us c x bared g ∙ u.kept.len;
        capacity = u.kept.capacity;
        faces_len = u.kept.faces_len;
        faces_capacity = u.kept.faces_capacity;
      };
    }
      where
        by : (b : Bool) (o : Option Node) → option_map (λ (z : Node). z.key) (cond b None o) ≡ cond b None (option_map (λ (z : Node). z.key) o)
        by true o = refl
        by false o = refl

        rests : (n : ℕ) → option_map (rest_of vertex_placing) (get (with_value us c bared) n) ≡ option_map (rest_of vertex_placing) (get vs n)
        rests n = elim (cases_eq n c) [
          | inl e ↦ ap (λ z. option_map (rest_of vertex_placing) (get (with_value us c bared) z)) e ∙ ap (option_map (rest_of vertex_placing)) w.changed ∙ sym (ap (option_map (rest_of vertex_placing)) g) ∙ u.kept.rests c ∙ ap (λ z. option_map (rest_of vertex_placing) (get vs z)) (sym e)
          | inr ne ↦ ap (option_map (rest_of vertex_placing)) (w.others n ne) ∙ u.kept.rests n
        ]
