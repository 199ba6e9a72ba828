-- What writers of vertices and darts leave of cycles and faces.
use Rattle.std.proofs.Common.{◌≡◌, inl, inr, ℕ, ◌-◌, List, map, Option, Some, None, is_some, option_map, refl, sym, ap, ◌∙◌}
use Rattle.std.proofs.lemmas.Bool.{cases_eq}
use Rattle.slab.specs.Slab.{Slab, get, entries, slab_len, with_value, Updates}
use Rattle.slab.proofs.SlabLemmas.{Updates-with_value}
use Rattle.slab_laws.specs.declared.names.CycleId.{CycleId}
use Rattle.slab_laws.specs.declared.names.DartId.{DartId}
use Rattle.slab_laws.specs.Tables.{names}
use Rattle.slab_laws.specs.View.{cycle_id, vertex_id}
use Rattle.arr_notes.specs.NamedRows.{put, del}
use Rattle.chain_laws.specs.Rows.{tabled}
use Rattle.dcel_records.specs.declared.records.Records.TheInside.{Inside}
use Rattle.dcel_records.specs.declared.rows.StoredDart.{StoredDart}
use Rattle.dcel_records.specs.declared.rows.StoredVertex.{StoredVertex}
use Rattle.dcel_records.specs.Given.{given}
use Rattle.dcel_records.specs.Placing.{Placing, place_node, node_or, nodes, own, cycle_placing, vertex_placing}
use Rattle.dcel_records.specs.RecordsView.{FacesView, RecordsView, faces_part}
use Rattle.dcel_records.specs.StoredRows.{cycle_record, bare_of, somes, face_rows, faces_view, records_view, moved_room, AreSoundFaces}
use Rattle.dcel_records.proofs.Chained.{own_same, chained_same}
use Rattle.dcel_records.proofs.FaceTables.{bare_same}
use Rattle.dcel_records.proofs.Tabled.{tabled_put, tabled_del, tabled_same}
use Rattle.dcel_records.proofs.Writing.{row_out}

-- the column of cycles changed, and nothing else
abbrev pub with_column : (List (ℕ × CycleId) → List (ℕ × CycleId)) → FacesView → FacesView
with_column F f = record { tables = record { cycle_of = F f.tables.cycle_of; bare = f.tables.bare; cycles = f.tables.cycles; faces = f.tables.faces }; rows = f.rows; darts = f.darts; spare_cycles = f.spare_cycles; spare_faces = f.spare_faces; capacity_of_cycles = f.capacity_of_cycles; capacity_of_faces = f.capacity_of_faces; moved = f.moved }

abbrev pub column : Slab StoredDart → List (ℕ × CycleId)
column ds = tabled (λ r. r.cycle) ds

-- a row written with the same place
pub nodes_updated : {R : Type 0} (g : Placing R) (s t : Slab R) (k : ℕ) (o : Option R) → Updates s t k o → node_or g o ≡ node_or g (get s k) → (n : ℕ) → nodes g t n ≡ nodes g s n
nodes_updated g s t k o u e n = elim (cases_eq n k) [
  | inl q ↦ ap (nodes g t) q ∙ ap (node_or g) u.changed ∙ e ∙ sym (ap (nodes g s) q)
  | inr ne ↦ ap (node_or g) (u.others n ne)
]

pub nodes_written : (s : Slab StoredVertex) (k : ℕ) (r q : StoredVertex) → get s k ≡ Some r → q.place ≡ r.place → (n : ℕ) → nodes vertex_placing (with_value s k q) n ≡ nodes vertex_placing s n
nodes_written s k r q g e = nodes_updated vertex_placing s (with_value s k q) k (Some q) (Updates-with_value s k q (ap is_some g)) (ap (option_map place_node) e ∙ sym (ap (node_or vertex_placing) g))

-- two vertices written with other darts out
pub nodes_out_twice : (s : Slab StoredVertex) (u v : ℕ) (a b : Option DartId) (x y : StoredVertex) → get s u ≡ Some x → get (with_value s u (row_out a x)) v ≡ Some y → (n : ℕ) → nodes vertex_placing (with_value (with_value s u (row_out a x)) v (row_out b y)) n ≡ nodes vertex_placing s n
nodes_out_twice s u v a b x y f g n = nodes_written (with_value s u (row_out a x)) v y (row_out b y) g refl n ∙ nodes_written s u x (row_out a x) f refl n

pub nodes_given : (d : DartId) (s t : Slab StoredVertex) (k : ℕ) → Updates s t k (option_map (given d) (get s k)) → (n : ℕ) → nodes vertex_placing t n ≡ nodes vertex_placing s n
nodes_given d s t k u = nodes_updated vertex_placing s t k (option_map (given d) (get s k)) u (by (get s k))
  where
    by : (o : Option StoredVertex) → node_or vertex_placing (option_map (given d) o) ≡ node_or vertex_placing o
    by None = refl
    by (Some r) = refl

-- ---- the column of cycles
pub column_written : (ds : Slab StoredDart) (k : ℕ) (r q : StoredDart) → get ds k ≡ Some r → q.cycle ≡ r.cycle → column (with_value ds k q) ≡ column ds
column_written ds k r q g e = tabled_same (λ x. x.cycle) ds (with_value ds k q) k r q g e (Updates-with_value ds k q (ap is_some g))

pub column_put : (ds : Slab StoredDart) (k : ℕ) (r q : StoredDart) → get ds k ≡ Some r → column (with_value ds k q) ≡ put k q.cycle (column ds)
column_put ds k r q g = tabled_put (λ x. x.cycle) ds (with_value ds k q) k q (Updates-with_value ds k q (ap is_some g))

pub column_more : (ds s t : Slab StoredDart) (d m : ℕ) (r q x y : StoredDart) → Updates ds s d (Some r) → Updates s t m (Some q) → get t d ≡ Some x → y.cycle ≡ x.cycle → column (with_value t d y) ≡ put m q.cycle (put d r.cycle (column ds))
column_more ds s t d m r q x y u w g e = column_written t d x y g e ∙ tabled_put (λ z. z.cycle) s t m q w ∙ ap (put m q.cycle) (tabled_put (λ z. z.cycle) ds s d r u)

pub column_less : (ds s t : Slab StoredDart) (d m : ℕ) (twin : DartId) → Updates ds s d None → Updates s t m None → m ≡ twin.0 → column t ≡ del twin.0 (del d (column ds))
column_less ds s t d m twin u w e = tabled_del (λ z. z.cycle) s t m w ∙ ap (del m) (tabled_del (λ z. z.cycle) ds s d u) ∙ ap (λ n. del n (del d (column ds))) e

module _ (store : Inside) (h : RecordsView) (is : records_view store ≡ h) (k : AreSoundFaces store.vertices store.cycles store.faces)
    (ws : Slab StoredVertex) (same : (n : ℕ) → nodes vertex_placing ws n ≡ nodes vertex_placing store.vertices n) where
  pub faces_sound : AreSoundFaces ws store.cycles store.faces
  faces_sound = record { cycles = k.cycles; bare = chained_same vertex_placing store.vertices store.faces k.bare ws store.faces (λ i n. same n i) (λ a. refl) (λ n a e s. s); unbounded = k.unbounded }

  rows_same : face_rows ws store.cycles store.faces ≡ face_rows store.vertices store.cycles store.faces
  rows_same = λ i. map (λ a. (a, record { cycles = map cycle_id (own cycle_placing store.cycles store.faces a); bare = map vertex_id (own_same vertex_placing store.vertices store.faces k.bare ws store.faces (λ j n. same n j) (λ b. refl) a i) })) (names (entries store.faces))

  bare_table : somes (tabled bare_of ws) ≡ somes (tabled bare_of store.vertices)
  bare_table = bare_same store.vertices ws (λ n. ap (option_map (λ x. x.key)) (same n))

  pub faces_column : (F : List (ℕ × CycleId) → List (ℕ × CycleId)) (es : Slab StoredDart) → column es ≡ F (column store.darts) → faces_view ws es store.cycles store.faces store.moved store.cycle_room ≡ with_column F h.faces
  faces_column F es e =
      (λ i. record {
        tables = record { cycle_of = e i; bare = bare_table i; cycles = tabled cycle_record store.cycles; faces = names (entries store.faces) };
        rows = rows_same i;
        darts = tabled (λ r. r.dart) store.cycles;
        spare_cycles = store.cycle_room - slab_len store.cycles;
        spare_faces = store.faces.capacity - slab_len store.faces;
        capacity_of_cycles = store.cycle_room;
        capacity_of_faces = store.faces.capacity;
        moved = option_map moved_room store.moved;
      }) ∙ ap (with_column F) (ap faces_part is)
