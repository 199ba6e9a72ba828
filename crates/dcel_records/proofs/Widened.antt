-- A cycle whose box has more parts: a caller sees what was there.
use Rattle.std.proofs.Common.{◌≡◌, inl, inr, ℕ, ◌-◌, map, Option, Some, None, is_some, IsSome, option_map, refl, sym, ap, subst, ◌∙◌, arith}
use Rattle.std.proofs.lemmas.Bool.{cases_eq, false≢true}
use Rattle.std.proofs.lemmas.Int.{ints, int_max_is, int_min_is}
use Rattle.exact_plane.specs.declared.whole_parts.BoundingBox.{BoundingBox}
use Rattle.exact_plane.specs.declared.whole_parts.WholeParts.{WholeParts}
use Rattle.slab.specs.Slab.{Slab, get, entries, slab_len, ContainsKey, Updates}
use Rattle.slab_laws.specs.Tables.{names}
use Rattle.slab_laws.specs.View.{cycle_id, vertex_id}
use Rattle.arr_notes.proofs.RowLaws.{one_table}
use Rattle.chain_laws.specs.Rows.{tabled}
use Rattle.chain_laws.proofs.Tabled.{row-tabled, ascend-tabled}
use Rattle.dcel_records.specs.declared.records.Records.TheInside.{Inside}
use Rattle.dcel_records.specs.declared.rows.StoredCycle.{StoredCycle}
use Rattle.dcel_records.specs.declared.rows.StoredDart.{StoredDart}
use Rattle.dcel_records.specs.declared.rows.StoredFace.{StoredFace}
use Rattle.dcel_records.specs.declared.rows.StoredVertex.{StoredVertex}
use Rattle.dcel_records.specs.Areas.{Covers, HasParts, row_widened, widened}
use Rattle.dcel_records.specs.Placing.{cycle_placing, vertex_placing, node_or, nodes, own}
use Rattle.dcel_records.specs.StoredRows.{bare_of, somes, cycle_record, face_rows, moved_room, ranks_view, graph_in, records_view, AreOnCycles, AreSoundFaces}
use Rattle.dcel_records.proofs.Chained.{own_same, chained_same}
use Rattle.dcel_records.proofs.FacesKept.{nodes_updated}
use Rattle.dcel_records.proofs.OnCycles.{on_kept}

-- what a box had it has, and the new parts too
still_in : (p : WholeParts) (k : BoundingBox) (q : WholeParts) → Covers k q → Covers (widened p k) q
still_in p k q h =
    let a = h.left in
    let b = h.right in
    let c = h.below in
    let d = h.above in
    record {
      left = omega (arith, ints, a, int_min_is k.least.x p.x);
      right = omega (arith, ints, b, int_max_is k.greatest.x p.x);
      below = omega (arith, ints, c, int_min_is k.least.y p.y);
      above = omega (arith, ints, d, int_max_is k.greatest.y p.y);
    }

come_in : (p : WholeParts) (k : BoundingBox) → Covers (widened p k) p
come_in p k = record {
  left = omega (arith, ints, int_min_is k.least.x p.x);
  right = omega (arith, ints, int_max_is k.greatest.x p.x);
  below = omega (arith, ints, int_min_is k.least.y p.y);
  above = omega (arith, ints, int_max_is k.greatest.y p.y);
}

row_still : (p q : WholeParts) (o : Option StoredCycle) → HasParts o q → HasParts (option_map (row_widened p) o) q
row_still p q None h = h
row_still p q (Some r) h = still_in p r.area q h

row_in : (p : WholeParts) (o : Option StoredCycle) → IsSome o → HasParts (option_map (row_widened p) o) p
row_in p None s = absurd (false≢true s)
row_in p (Some r) s = come_in p r.area

module _ (cs es : Slab StoredCycle) (c : ℕ) (p : WholeParts) (u : Updates cs es c (option_map (row_widened p) (get cs c))) where
  -- what is in a cycle's box stays there
  pub widened_kept : (n : ℕ) (q : WholeParts) → HasParts (get cs n) q → HasParts (get es n) q
  widened_kept n q h = elim (cases_eq n c) [
    | inl i ↦ subst (λ (o : Option StoredCycle). HasParts o q) (sym (ap (get es) i ∙ u.changed)) (row_still p q (get cs c) (subst (λ m. HasParts (get cs m) q) i h))
    | inr ne ↦ subst (λ (o : Option StoredCycle). HasParts o q) (sym (u.others n ne)) h
  ]

  -- and the new parts are there
  pub widened_has : ContainsKey cs c → HasParts (get es c) p
  widened_has s = subst (λ (o : Option StoredCycle). HasParts o p) (sym u.changed) (row_in p (get cs c) s)

  pub widened_key : (n : ℕ) → ContainsKey cs n → ContainsKey es n
  widened_key n s = elim (cases_eq n c) [
    | inl i ↦ ap (λ m. is_some (get es m)) i ∙ ap is_some u.changed ∙ of_row (get cs c) ∙ ap (λ m. is_some (get cs m)) (sym i) ∙ s
    | inr ne ↦ ap is_some (u.others n ne) ∙ s
  ]
    where
      of_row : (o : Option StoredCycle) → is_some (option_map (row_widened p) o) ≡ is_some o
      of_row None = refl
      of_row (Some r) = refl

  pub on_widened : (ds : Slab StoredDart) → AreOnCycles ds cs → AreOnCycles ds es
  on_widened ds = on_kept ds cs es widened_kept

  column_same : {Y : Type 0} (f : StoredCycle → Y) → ((r : StoredCycle) → f (row_widened p r) ≡ f r) → tabled f es ≡ tabled f cs
  column_same f same = one_table _ _ (ascend-tabled f es) (ascend-tabled f cs) (λ j. row-tabled f es j ∙ found j ∙ sym (row-tabled f cs j))
    where
      of_row : (o : Option StoredCycle) → option_map f (option_map (row_widened p) o) ≡ option_map f o
      of_row None = refl
      of_row (Some r) = ap Some (same r)

      found : (j : ℕ) → option_map f (get es j) ≡ option_map f (get cs j)
      found j = elim (cases_eq j c) [
        | inl q ↦ rw q (ap (option_map f) u.changed ∙ of_row (get cs c))
        | inr ne ↦ ap (option_map f) (u.others j ne)
      ]

  same_nodes : (n : ℕ) → nodes cycle_placing es n ≡ nodes cycle_placing cs n
  same_nodes = nodes_updated cycle_placing cs es c (option_map (row_widened p) (get cs c)) u (of_row (get cs c))
    where
      of_row : (o : Option StoredCycle) → node_or cycle_placing (option_map (row_widened p) o) ≡ node_or cycle_placing o
      of_row None = refl
      of_row (Some r) = refl

  module _ (vs : Slab StoredVertex) (fs : Slab StoredFace) (k : AreSoundFaces vs cs fs) where
    pub faces_widened : AreSoundFaces vs es fs
    faces_widened = record { cycles = chained_same cycle_placing cs fs k.cycles es fs (λ i n. same_nodes n i) (λ a. refl) (λ n a e s. s); bare = k.bare; unbounded = k.unbounded }

    rows_widened : face_rows vs es fs ≡ face_rows vs cs fs
    rows_widened = λ i. map (λ a. (a, record { cycles = map cycle_id (own_same cycle_placing cs fs k.cycles es fs (λ j n. same_nodes n j) (λ b. refl) a i); bare = map vertex_id (own vertex_placing vs fs a) })) (names (entries fs))

pub view_widened : (store : Inside) (es : Slab StoredCycle) (c : ℕ) (p : WholeParts) → Updates store.cycles es c (option_map (row_widened p) (get store.cycles c)) → AreSoundFaces store.vertices store.cycles store.faces → slab_len es ≡ slab_len store.cycles → records_view (record store { cycles = es }) ≡ records_view store
view_widened store es c p u k len =
    let a = column_same store.cycles es c p u cycle_record (λ r. refl) in
    let b = column_same store.cycles es c p u (λ r. r.dart) (λ r. refl) in
    λ i. record {
      graph = graph_in store.vertices store.darts;
      spare_vertices = store.vertex_room - slab_len store.vertices;
      spare_darts = store.darts.capacity - slab_len store.darts;
      capacity_of_vertices = store.vertex_room;
      capacity_of_darts = store.darts.capacity;
      faces = record {
        tables = record { cycle_of = tabled (λ r. r.cycle) store.darts; bare = somes (tabled bare_of store.vertices); cycles = a i; faces = names (entries store.faces) };
        rows = rows_widened store.cycles es c p u store.vertices store.faces k i;
        darts = b i;
        spare_cycles = store.cycle_room - len i;
        spare_faces = store.faces.capacity - slab_len store.faces;
        capacity_of_cycles = store.cycle_room;
        capacity_of_faces = store.faces.capacity;
        moved = option_map moved_room store.moved;
      };
      ranks = ranks_view store.faces store.order.items;
      mapped = store.at.whole;
    }
