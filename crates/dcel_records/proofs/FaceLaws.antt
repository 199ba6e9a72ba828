-- What is true of the faces of all records: what each lists, that what is listed has a face, and how long a list can be.
use Rattle.std.proofs.Common.{◌≡◌, ℕ, ◌≤◌, List, [], ◌∷◌, map, length, Option, Some, None, is_some, IsSome, option_map, refl, sym, ap, subst, ◌∙◌, arith, Contains}
use Rattle.std.proofs.lemmas.Bool.{false≢true}
use Rattle.std.proofs.Math.ListN.{length-map}
use Rattle.plane_graphs.specs.Ascending.{Member}
use Rattle.plane_graphs.proofs.Ascending.{to_member, from_member}
use Rattle.plane_graphs.proofs.Lists.{in_map, of_map, some_mapped}
use Rattle.slab.specs.Slab.{Slab, get, entries, slab_len}
use Rattle.slab.proofs.SlabLemmas.{length-entries}
use Rattle.slab_laws.specs.declared.names.CycleId.{CycleId}
use Rattle.slab_laws.specs.declared.names.FaceId.{FaceId}
use Rattle.slab_laws.specs.declared.names.VertexId.{VertexId}
use Rattle.slab_laws.specs.FaceLists.{Lists, AreOnce, AreFacesListed}
use Rattle.slab_laws.specs.Tables.{names, NamesAscend}
use Rattle.slab_laws.specs.View.{HasVertex, HasCycle, HasFace, HasBareFace, face_in, face_or, bare_face_in, bare_or, cycle_id, vertex_id, face_id}
use Rattle.chain_laws.specs.Links.{Node, trail, after_at, first_or, key_at}
use Rattle.chain_laws.proofs.Linked.{trail_within}
use Rattle.chain_laws.proofs.Distinct.{IsOnce, once_from_distinct}
use Rattle.chain_laws.proofs.Tabled.{row-tabled, ascend-tabled, length-tabled, key_named}
use Rattle.dcel_records.specs.declared.records.Records.TheInside.{Inside}
use Rattle.dcel_records.specs.declared.rows.StoredCycle.{StoredCycle}
use Rattle.dcel_records.specs.declared.rows.StoredDart.{StoredDart}
use Rattle.dcel_records.specs.declared.rows.StoredFace.{StoredFace}
use Rattle.dcel_records.specs.declared.rows.StoredVertex.{StoredVertex}
use Rattle.dcel_records.specs.Placing.{Placing, node_or, nodes, heads, own, AreChained, cycle_placing, vertex_placing}
use Rattle.dcel_records.specs.RecordsView.{RecordsView, lists_of}
use Rattle.dcel_records.specs.StoredRows.{vertex_of, graph_in, cycle_record, tables_in, lists_in, records_view, AreSoundFaces, IsRoom}
use Rattle.dcel_records.proofs.After.{names_tabled}
use Rattle.dcel_records.proofs.Chained.{own_list}
use Rattle.dcel_records.proofs.FaceTables.{lists_seen, bare_seen, bare_ascend}

-- ---- numbers as names
module _ {X : Type 0} (name : ℕ → X) (number : X → ℕ) (same : (n : ℕ) → number (name n) ≡ n) where
  of_names : (x : X) (ns : List ℕ) → Member x (map name ns) → Contains ns (number x)
  of_names x ns m = let r = of_map name x ns m in from_member ns (number x) (subst (λ n. Member n ns) (sym (ap number r.2 ∙ same r.0)) r.1)

  once_named : (ns : List ℕ) → IsOnce ns → AreOnce (map name ns)
  once_named [] h = tt
  once_named (n ∷ ns) h = (λ m. h.0 (subst (λ z. Contains ns z) (same n) (of_names (name n) ns m)), once_named ns h.1)

-- ---- chains
module _ {R : Type 0} (g : Placing R) (rs : Slab R) (fs : Slab StoredFace) where
  own_short : (k : ℕ) → length (own g rs fs k) ≤ slab_len rs
  unfolding own
  own_short k = subst (λ n. length (trail (after_at (nodes g rs)) (length (entries rs)) (first_or (heads g fs k))) ≤ n) (length-entries rs) (trail_within (after_at (nodes g rs)) (length (entries rs)) (first_or (heads g fs k)))

  named_short : {X : Type 0} (name : ℕ → X) (room : ℕ) (k : ℕ) → IsRoom room rs → length (map name (own g rs fs k)) ≤ room
  named_short name room k i = let a = length-map (own g rs fs k) name in let b = own_short k in let c = i.holds in omega arith

  module _ (kept : AreChained g rs fs) where
    -- who has a place in a chain has it in that of a face that is there
    key_faced : (n k : ℕ) → key_at (nodes g rs) n ≡ Some k → Contains (names (entries fs)) k
    key_faced n k e = key_named fs k (sym (some_mapped g.first (get fs k)) ∙ kept.keys n k e)

    module _ {X : Type 0} (name : ℕ → X) (number : X → ℕ) (same : (n : ℕ) → number (name n) ≡ n) where
      own_once : (k : ℕ) → AreOnce (map name (own g rs fs k))
      own_once k = once_named name number same (own g rs fs k) (once_from_distinct _ (own_list g rs fs kept k).once)

      own_key : (k : ℕ) (x : X) → Member x (map name (own g rs fs k)) → key_at (nodes g rs) (number x) ≡ Some k
      own_key k x m = ((own_list g rs fs kept k).members (number x)).0 (of_names name number same x (own g rs fs k) m)

      key_own : (k n : ℕ) → key_at (nodes g rs) n ≡ Some k → Member (name n) (map name (own g rs fs k))
      key_own k n e = in_map name n (own g rs fs k) (to_member (own g rs fs k) n (((own_list g rs fs kept k).members n).1 e))

-- ---- rows and places
abbrev key_of : Option StoredCycle → Option ℕ
key_of o = option_map (λ (x : Node). x.key) (node_or cycle_placing o)

cycle_key_face : (o : Option StoredCycle) (k : ℕ) → key_of o ≡ Some k → IsSome (option_map cycle_record o) × (face_or (option_map cycle_record o) ≡ face_id k)
cycle_key_face None k e = absurd (cc)
cycle_key_face (Some r) k e = let z : r.place.face.0 ≡ k = cc in (refl, ap face_id z)

cycle_face_key : (o : Option StoredCycle) → IsSome (option_map cycle_record o) → key_of o ≡ Some (face_or (option_map cycle_record o)).0
cycle_face_key None h = absurd (false≢true h)
cycle_face_key (Some r) h = refl

bare_key_face : (o : Option ℕ) (k : ℕ) → o ≡ Some k → IsSome (option_map face_id o) × (bare_or (option_map face_id o) ≡ face_id k)
bare_key_face None k e = absurd (cc)
bare_key_face (Some n) k e = let z : n ≡ k = cc in (refl, ap face_id z)

bare_face_key : (o : Option ℕ) → IsSome (option_map face_id o) → o ≡ Some (bare_or (option_map face_id o)).0
bare_face_key None h = absurd (false≢true h)
bare_face_key (Some n) h = refl

-- ---- the faces
module _ (vs : Slab StoredVertex) (ds : Slab StoredDart) (cs : Slab StoredCycle) (fs : Slab StoredFace) where
  -- a cycle has a row exactly where it has a place, and its face is that of its place
  cycle_placed : (c : CycleId) (k : ℕ) → key_at (nodes cycle_placing cs) c.0 ≡ Some k → HasCycle (tables_in vs ds cs fs) c × (face_in (tables_in vs ds cs fs) c ≡ face_id k)
  cycle_placed c k e = subst (λ o. IsSome o × (face_or o ≡ face_id k)) (sym (row-tabled cycle_record cs c.0)) (cycle_key_face (get cs c.0) k e)

  place_of_cycle : (c : CycleId) → HasCycle (tables_in vs ds cs fs) c → key_at (nodes cycle_placing cs) c.0 ≡ Some (face_in (tables_in vs ds cs fs) c).0
  place_of_cycle c h = cycle_face_key (get cs c.0) (subst (λ o. IsSome o) (row-tabled cycle_record cs c.0) h) ∙ ap (λ o. Some (face_or o).0) (sym (row-tabled cycle_record cs c.0))

  bare_placed : (v : VertexId) (k : ℕ) → key_at (nodes vertex_placing vs) v.0 ≡ Some k → HasBareFace (tables_in vs ds cs fs) v × (bare_face_in (tables_in vs ds cs fs) v ≡ face_id k)
  bare_placed v k e = subst (λ o. IsSome o × (bare_or o ≡ face_id k)) (sym (bare_seen vs v.0)) (bare_key_face (key_at (nodes vertex_placing vs) v.0) k e)

  place_of_bare : (v : VertexId) → HasBareFace (tables_in vs ds cs fs) v → key_at (nodes vertex_placing vs) v.0 ≡ Some (bare_face_in (tables_in vs ds cs fs) v).0
  place_of_bare v h = bare_face_key (key_at (nodes vertex_placing vs) v.0) (subst (λ o. IsSome o) (bare_seen vs v.0) h) ∙ ap (λ o. Some (bare_or o).0) (sym (bare_seen vs v.0))

  -- who has a place has a row
  bare_vertex : (v : VertexId) → HasBareFace (tables_in vs ds cs fs) v → HasVertex (graph_in vs ds) v
  bare_vertex v b = ap is_some (row-tabled vertex_of vs v.0) ∙ by (get vs v.0) (place_of_bare v b)
    where
      by : {k : ℕ} (o : Option StoredVertex) → option_map (λ (x : Node). x.key) (node_or vertex_placing o) ≡ Some k → IsSome (option_map vertex_of o)
      by None e = absurd (cc)
      by (Some r) e = refl

  rows_listed : AreSoundFaces vs cs fs → AreFacesListed (tables_in vs ds cs fs) (lists_in vs cs fs)
  rows_listed k = record {
    cycles = λ a c. (
      λ m. cycle_placed c a.0 (own_key cycle_placing cs fs k.cycles cycle_id (λ x. x.0) (λ n. refl) a.0 c m),
      λ h. key_own cycle_placing cs fs k.cycles cycle_id (λ x. x.0) (λ n. refl) a.0 c.0 (place_of_cycle c h.0 ∙ ap (λ b. Some b.0) h.1),
    );
    bare = λ a v. (
      λ m. bare_placed v a.0 (own_key vertex_placing vs fs k.bare vertex_id (λ x. x.0) (λ n. refl) a.0 v m),
      λ h. key_own vertex_placing vs fs k.bare vertex_id (λ x. x.0) (λ n. refl) a.0 v.0 (place_of_bare v h.0 ∙ ap (λ b. Some b.0) h.1),
    );
    cycles_once = λ a. own_once cycle_placing cs fs k.cycles cycle_id (λ x. x.0) (λ n. refl) a.0;
    bare_once = λ a. own_once vertex_placing vs fs k.bare vertex_id (λ x. x.0) (λ n. refl) a.0;
  }

-- ---- what a caller sees
module _ (store : Inside) (h : RecordsView) (is : records_view store ≡ h) where
  lists_are : lists_in store.vertices store.cycles store.faces ≡ lists_of h
  lists_are = sym (lists_seen store.vertices store.cycles store.faces store.darts store.moved store.cycle_room) ∙ ap lists_of is

  module _ (k : AreSoundFaces store.vertices store.cycles store.faces) where
    pub faces_listed : AreFacesListed h.faces.tables (lists_of h)
    faces_listed = subst (λ (l : Lists). AreFacesListed h.faces.tables l) lists_are (subst (λ (v : RecordsView). AreFacesListed v.faces.tables (lists_in store.vertices store.cycles store.faces)) is (rows_listed store.vertices store.darts store.cycles store.faces k))

    pub unbounded_there : HasFace h.faces.tables (face_id 0)
    unbounded_there = subst (λ (v : RecordsView). HasFace v.faces.tables (face_id 0)) is (key_named store.faces 0 k.unbounded)

    pub cycle_face_there : (c : CycleId) → HasCycle h.faces.tables c → HasFace h.faces.tables (face_in h.faces.tables c)
    cycle_face_there = subst (λ (v : RecordsView). (c : CycleId) → HasCycle v.faces.tables c → HasFace v.faces.tables (face_in v.faces.tables c)) is (λ c i. key_faced cycle_placing store.cycles store.faces k.cycles c.0 _ (place_of_cycle store.vertices store.darts store.cycles store.faces c i))

    pub bare_face_there : (v : VertexId) → HasBareFace h.faces.tables v → HasFace h.faces.tables (bare_face_in h.faces.tables v)
    bare_face_there = subst (λ (v : RecordsView). (w : VertexId) → HasBareFace v.faces.tables w → HasFace v.faces.tables (bare_face_in v.faces.tables w)) is (λ w i. key_faced vertex_placing store.vertices store.faces k.bare w.0 _ (place_of_bare store.vertices store.darts store.cycles store.faces w i))

  pub isolated_there : (v : VertexId) → HasBareFace h.faces.tables v → HasVertex h.graph v
  isolated_there = subst (λ (w : RecordsView). (v : VertexId) → HasBareFace w.faces.tables v → HasVertex w.graph v) is (bare_vertex store.vertices store.darts store.cycles store.faces)

  pub cycles_within : IsRoom store.cycle_room store.cycles → (a : FaceId) → length ((lists_of h).cycles a) ≤ h.faces.capacity_of_cycles
  cycles_within i a = subst (λ (l : Lists). length (l.cycles a) ≤ h.faces.capacity_of_cycles) lists_are (subst (λ (v : RecordsView). length ((lists_in store.vertices store.cycles store.faces).cycles a) ≤ v.faces.capacity_of_cycles) is (named_short cycle_placing store.cycles store.faces cycle_id store.cycle_room a.0 i))

  pub all_cycles_within : IsRoom store.cycle_room store.cycles → length h.faces.tables.cycles ≤ h.faces.capacity_of_cycles
  all_cycles_within i =
      let l = length-tabled cycle_record store.cycles in
      let a = ap (λ v. length v.faces.tables.cycles) is in
      let b = ap (λ v. v.faces.capacity_of_cycles) is in
      let m = i.holds in
      omega arith

  pub vertices_within : IsRoom store.vertex_room store.vertices → (a : FaceId) → length ((lists_of h).bare a) ≤ h.capacity_of_vertices
  vertices_within i a = subst (λ (l : Lists). length (l.bare a) ≤ h.capacity_of_vertices) lists_are (subst (λ (v : RecordsView). length ((lists_in store.vertices store.cycles store.faces).bare a) ≤ v.capacity_of_vertices) is (named_short vertex_placing store.vertices store.faces vertex_id store.vertex_room a.0 i))

  -- the names in the tables are the slabs' keys
  pub cycle_keys : names (entries store.cycles) ≡ names h.faces.tables.cycles
  cycle_keys = sym (names_tabled cycle_record store.cycles) ∙ ap (λ (v : RecordsView). names v.faces.tables.cycles) is

  pub face_keys : names (entries store.faces) ≡ h.faces.tables.faces
  face_keys = ap (λ (v : RecordsView). v.faces.tables.faces) is

  pub cycle_names : NamesAscend (names h.faces.tables.cycles)
  cycle_names = subst (λ (v : RecordsView). NamesAscend (names v.faces.tables.cycles)) is (ascend-tabled cycle_record store.cycles)

  pub face_names : NamesAscend h.faces.tables.faces
  face_names = subst (λ (v : RecordsView). NamesAscend v.faces.tables.faces) is (subst NamesAscend (names_tabled (λ f. f) store.faces) (ascend-tabled (λ f. f) store.faces))

  pub cycle_of_names : NamesAscend (names h.faces.tables.cycle_of)
  cycle_of_names = subst (λ (v : RecordsView). NamesAscend (names v.faces.tables.cycle_of)) is (ascend-tabled (λ (r : StoredDart). r.cycle) store.darts)

  pub bare_names : NamesAscend (names h.faces.tables.bare)
  bare_names = subst (λ (v : RecordsView). NamesAscend (names v.faces.tables.bare)) is (bare_ascend store.vertices)
