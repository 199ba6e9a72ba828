-- The tables of cycles and faces, and what each face lists, read from the slabs.
use Rattle.std.proofs.Common.{◌≡◌, ◌≢◌, ◌⊎◌, inl, inr, ℕ, ◌<◌, ◌==◌, cond, List, [], ◌∷◌, map, Option, Some, None, is_some, option_map, refl, sym, ap, ◌∙◌, Contains}
use Rattle.std.specs.List.{AllByRecursion}
use Rattle.std.proofs.lemmas.Bool.{cases_eq, cases_lt}
use Rattle.integers.proofs.Tests.{nat_lt_yes, nat_lt_no, other_number, same_number}
use Rattle.slab.specs.Slab.{Slab, get, entries, Updates}
use Rattle.slab.proofs.SlabLemmas.{Contains-cons_cases}
use Rattle.slab_laws.specs.declared.names.CycleKind.{CycleKind}
use Rattle.slab_laws.specs.declared.names.FaceId.{FaceId}
use Rattle.slab_laws.specs.FaceLists.{MovedView}
use Rattle.slab_laws.specs.Tables.{row_at, names, NamesAscend}
use Rattle.slab_laws.specs.View.{CycleRecord, face_id, cycle_id, vertex_id}
use Rattle.arr_notes.specs.FaceWriters.{put_name, del_name}
use Rattle.arr_notes.specs.NamedRows.{put, del}
use Rattle.arr_notes.proofs.RowLaws.{absent, row_at-put, row_at-del, ascend-put, ascend-del, one_table}
use Rattle.chain_laws.specs.Links.{Node, key_at}
use Rattle.chain_laws.proofs.Distinct.{nowhere}
use Rattle.chain_laws.specs.Rows.{tabled}
use Rattle.chain_laws.proofs.Tabled.{row-tabled, ascend-tabled, key_named}
use Rattle.dcel_records.specs.declared.rows.Place.{Place}
use Rattle.dcel_records.specs.declared.rows.StoredCycle.{StoredCycle}
use Rattle.dcel_records.specs.declared.rows.StoredDart.{StoredDart}
use Rattle.dcel_records.specs.declared.rows.StoredFace.{StoredFace}
use Rattle.dcel_records.specs.declared.rows.StoredVertex.{StoredVertex}
use Rattle.dcel_records.specs.Placing.{cycle_placing, vertex_placing, place_node, node_or, nodes, own}
use Rattle.dcel_records.specs.RecordsView.{row_or, dart_or, lists_in_view}
use Rattle.dcel_records.specs.StoredRows.{cycle_record, bare_of, somes, dart_kept, lists_in, face_row, face_rows, faces_view}
use Rattle.dcel_records.proofs.After.{names_tabled}
use Rattle.dcel_records.proofs.Chained.{own_nowhere}
use Rattle.dcel_records.proofs.Tabled.{tabled_put, tabled_del}

-- ---- rows that have something
abbrev pub flat : {X : Type 0} → Option (Option X) → Option X
flat None = None
flat (Some o) = o

pub no_somes : {X : Type 0} → somes {X = X} [] ≡ []
unfolding somes
no_somes = refl

module _ {X : Type 0} where
  pub row_somes : (rs : List (ℕ × Option X)) → NamesAscend (names rs) → (n : ℕ) → row_at (somes rs) n ≡ flat (row_at rs n)
  unfolding row_at somes
  row_somes [] h n = refl
  row_somes ((k, None) ∷ rs) h n = elim (cases_eq k n) [
    | inl q ↦ rw (q, same_number n) (row_somes rs h.1 n ∙ ap flat (absent k n rs q h.0))
    | inr ne ↦ rw (other_number k n ne) (row_somes rs h.1 n)
  ]
  row_somes ((k, Some x) ∷ rs) h n = elim (cases_eq k n) [
    | inl q ↦ rw (q, same_number n) refl
    | inr ne ↦ rw (other_number k n ne) (row_somes rs h.1 n)
  ]

  above_somes : (k : ℕ) (rs : List (ℕ × Option X)) → AllByRecursion (λ m. k < m) (names rs) → AllByRecursion (λ m. k < m) (names (somes rs))
  unfolding somes
  above_somes k [] h = tt
  above_somes k ((n, None) ∷ rs) h = above_somes k rs h.1
  above_somes k ((n, Some x) ∷ rs) h = (h.0, above_somes k rs h.1)

  pub ascend_somes : (rs : List (ℕ × Option X)) → NamesAscend (names rs) → NamesAscend (names (somes rs))
  unfolding somes
  ascend_somes [] h = tt
  ascend_somes ((n, None) ∷ rs) h = ascend_somes rs h.1
  ascend_somes ((n, Some x) ∷ rs) h = (above_somes n rs h.0, ascend_somes rs h.1)

-- ---- names of faces
put_names : {X : Type 0} (k : ℕ) (x : X) (rs : List (ℕ × X)) → names (put k x rs) ≡ put_name k (names rs)
unfolding put put_name
put_names k x [] = refl
put_names k x (r ∷ rs) = elim (cases_lt k r.0) [
  | inl l ↦ rw (nat_lt_yes k r.0 l) refl
  | inr l ↦ rw (nat_lt_no k r.0 l) (elim (cases_eq k r.0) [
    | inl q ↦ rw (q, same_number r.0) refl
    | inr ne ↦ rw (other_number r.0 k (λ s. ne (sym s))) (ap (λ ns. r.0 ∷ ns) (put_names k x rs))
  ])
]

del_names : {X : Type 0} (k : ℕ) (rs : List (ℕ × X)) → names (del k rs) ≡ del_name k (names rs)
unfolding del del_name
del_names k [] = refl
del_names k (r ∷ rs) = elim (cases_eq r.0 k) [
  | inl q ↦ rw (q, same_number k) refl
  | inr ne ↦ rw (other_number r.0 k ne) (ap (λ ns. r.0 ∷ ns) (del_names k rs))
]

module _ {X : Type 0} where
  nothing_of : X → ℕ
  nothing_of x = 0

  pub names_put : (s t : Slab X) (k : ℕ) (x : X) → Updates s t k (Some x) → names (entries t) ≡ put_name k (names (entries s))
  names_put s t k x u = sym (names_tabled nothing_of t) ∙ ap names (tabled_put nothing_of s t k x u) ∙ put_names k (nothing_of x) (tabled nothing_of s) ∙ ap (put_name k) (names_tabled nothing_of s)

  pub names_del : (s t : Slab X) (k : ℕ) → Updates s t k None → names (entries t) ≡ del_name k (names (entries s))
  names_del s t k u = sym (names_tabled nothing_of t) ∙ ap names (tabled_del nothing_of s t k u) ∙ del_names k (tabled nothing_of s) ∙ ap (del_name k) (names_tabled nothing_of s)

  pub names_same : (s t : Slab X) → ((k : ℕ) → is_some (get t k) ≡ is_some (get s k)) → names (entries t) ≡ names (entries s)
  unfolding nothing_of
  names_same s t h =
      sym (names_tabled nothing_of t)
      ∙ ap names (one_table _ _ (ascend-tabled nothing_of t) (ascend-tabled nothing_of s) (λ k. row-tabled nothing_of t k ∙ by (get t k) (get s k) (h k) ∙ sym (row-tabled nothing_of s k)))
      ∙ names_tabled nothing_of s
    where
      by : (o p : Option X) → is_some o ≡ is_some p → option_map nothing_of o ≡ option_map nothing_of p
      by None None e = refl
      by (Some x) (Some y) e = refl
      by None (Some y) e = absurd (cc)
      by (Some x) None e = absurd (cc)

-- ---- rows by a function
row_mapped : {Y : Type 0} (f : ℕ → Y) (ns : List ℕ) (k : ℕ) → (row_at (map (λ m. (m, f m)) ns) k ≡ Some (f k)) ⊎ ((row_at (map (λ m. (m, f m)) ns) k ≡ None) × (¬ Contains ns k))
unfolding row_at
row_mapped f [] k = inr (refl, nowhere k)
row_mapped {Y} f (n ∷ ns) k = elim (cases_eq n k) [
  | inl q ↦ inl (rw (q, same_number k) refl)
  | inr ne ↦ step (row_mapped f ns k) ne
]
  where
    step : (row_at (map (λ m. (m, f m)) ns) k ≡ Some (f k)) ⊎ ((row_at (map (λ m. (m, f m)) ns) k ≡ None) × (¬ Contains ns k)) → n ≢ k → (row_at (map (λ m. (m, f m)) (n ∷ ns)) k ≡ Some (f k)) ⊎ ((row_at (map (λ m. (m, f m)) (n ∷ ns)) k ≡ None) × (¬ Contains (n ∷ ns) k))
    step (inl e) ne = inl (ap (λ b. cond b (Some (f n)) (row_at (map (λ m. (m, f m)) ns) k)) (other_number n k ne) ∙ e)
    step (inr e) ne = inr (ap (λ b. cond b (Some (f n)) (row_at (map (λ m. (m, f m)) ns) k)) (other_number n k ne) ∙ e.0, λ c. elim (Contains-cons_cases n k ns c) [ inl q ↦ ne q | inr d ↦ e.1 d ])

no_row : {X : Type 0} (s : Slab X) (k : ℕ) → ¬ Contains (names (entries s)) k → get s k ≡ None
no_row {X} s k h = by (get s k) refl
  where
    by : (o : Option X) → get s k ≡ o → o ≡ None
    by None e = refl
    by (Some x) e = absurd (h (key_named s k (ap is_some e)))

-- ---- what a caller sees
module _ (vs : Slab StoredVertex) (cs : Slab StoredCycle) (fs : Slab StoredFace) where
  row_seen : (k : ℕ) → row_or (row_at (face_rows vs cs fs) k) ≡ face_row vs cs fs k
  row_seen k = elim (row_mapped (face_row vs cs fs) (names (entries fs)) k) [
    | inl e ↦ ap row_or e
    | inr e ↦
        let z = no_row fs k e.1 in
        let a : own cycle_placing cs fs k ≡ [] = own_nowhere cycle_placing cs fs k z in
        let b : own vertex_placing vs fs k ≡ [] = own_nowhere vertex_placing vs fs k z in
        ap row_or e.0 ∙ (λ i. record { cycles = map cycle_id (sym a i); bare = map vertex_id (sym b i) })
  ]

  dart_seen : (n : ℕ) → dart_or (row_at (tabled (λ r. r.dart) cs) n) ≡ dart_kept (get cs n)
  dart_seen n = ap dart_or (row-tabled (λ r. r.dart) cs n) ∙ by (get cs n)
    where
      by : (o : Option StoredCycle) → dart_or (option_map (λ r. r.dart) o) ≡ dart_kept o
      by None = refl
      by (Some r) = refl

  -- what each face lists, and the dart of each cycle
  pub lists_seen : (ds : Slab StoredDart) (moved : Option MovedView) (room : ℕ) → lists_in_view (faces_view vs ds cs fs moved room) ≡ lists_in vs cs fs
  lists_seen ds moved room = λ i. record { cycles = λ a. (row_seen a.0 i).cycles; bare = λ a. (row_seen a.0 i).bare; dart_on = λ c. dart_seen c.0 i }

-- ---- rows of cycles, by kind and face
abbrev pub cycle_by : Option CycleKind → Option ℕ → Option CycleRecord
cycle_by None a = None
cycle_by (Some k) None = None
cycle_by (Some k) (Some a) = Some (record { kind = k; face = face_id a })

abbrev pub kinds : Slab StoredCycle → ℕ → Option CycleKind
kinds s n = option_map (λ r. r.kind) (get s n)

pub cycle_seen : (s : Slab StoredCycle) (n : ℕ) → row_at (tabled cycle_record s) n ≡ cycle_by (kinds s n) (key_at (nodes cycle_placing s) n)
cycle_seen s n = row-tabled cycle_record s n ∙ by (get s n)
  where
    by : (o : Option StoredCycle) → option_map cycle_record o ≡ cycle_by (option_map (λ r. r.kind) o) (option_map (λ (x : Node). x.key) (node_or cycle_placing o))
    by None = refl
    by (Some r) = refl

pub cycles_same : (s t : Slab StoredCycle) → ((n : ℕ) → kinds t n ≡ kinds s n) → ((n : ℕ) → key_at (nodes cycle_placing t) n ≡ key_at (nodes cycle_placing s) n) → tabled cycle_record t ≡ tabled cycle_record s
cycles_same s t a b = one_table _ _ (ascend-tabled cycle_record t) (ascend-tabled cycle_record s) (λ n. cycle_seen t n ∙ (λ i. cycle_by (a n i) (b n i)) ∙ sym (cycle_seen s n))

-- ---- rows of isolated vertices, by face
pub bare_seen : (s : Slab StoredVertex) (n : ℕ) → row_at (somes (tabled bare_of s)) n ≡ option_map face_id (key_at (nodes vertex_placing s) n)
bare_seen s n = row_somes (tabled bare_of s) (ascend-tabled bare_of s) n ∙ ap flat (row-tabled bare_of s n) ∙ by (get s n)
  where
    by : (o : Option StoredVertex) → flat (option_map bare_of o) ≡ option_map face_id (option_map (λ (x : Node). x.key) (node_or vertex_placing o))
    by None = refl
    by (Some r) = inner r.place
      where
        inner : (p : Option Place) → option_map (λ q. q.face) p ≡ option_map face_id (option_map (λ (x : Node). x.key) (option_map place_node p))
        inner None = refl
        inner (Some q) = refl

pub bare_ascend : (s : Slab StoredVertex) → NamesAscend (names (somes (tabled bare_of s)))
bare_ascend s = ascend_somes (tabled bare_of s) (ascend-tabled bare_of s)

pub bare_same : (s t : Slab StoredVertex) → ((n : ℕ) → key_at (nodes vertex_placing t) n ≡ key_at (nodes vertex_placing s) n) → somes (tabled bare_of t) ≡ somes (tabled bare_of s)
bare_same s t e = one_table _ _ (bare_ascend t) (bare_ascend s) (λ n. bare_seen t n ∙ ap (option_map face_id) (e n) ∙ sym (bare_seen s n))

-- a vertex put in a face, or taken out
pub bare_put : (s t : Slab StoredVertex) (c : ℕ) (a : FaceId) → ((n : ℕ) → key_at (nodes vertex_placing t) n ≡ cond (n == c) (Some a.0) (key_at (nodes vertex_placing s) n)) → somes (tabled bare_of t) ≡ put c a (somes (tabled bare_of s))
bare_put s t c a e = one_table _ _ (bare_ascend t) (ascend-put c a _ (bare_ascend s)) (λ n. bare_seen t n ∙ ap (option_map face_id) (e n) ∙ at n (cases_eq n c) ∙ sym (row_at-put c a (somes (tabled bare_of s)) n))
  where
    at : (n : ℕ) → (n ≡ c) ⊎ (n ≢ c) → option_map face_id (cond (n == c) (Some a.0) (key_at (nodes vertex_placing s) n)) ≡ cond (c == n) (Some a) (row_at (somes (tabled bare_of s)) n)
    at n (inl q) = rw (q, same_number c) refl
    at n (inr ne) = rw (other_number n c ne, other_number c n (λ e. ne (sym e))) (sym (bare_seen s n))

pub bare_del : (s t : Slab StoredVertex) (c : ℕ) → ((n : ℕ) → key_at (nodes vertex_placing t) n ≡ cond (n == c) None (key_at (nodes vertex_placing s) n)) → somes (tabled bare_of t) ≡ del c (somes (tabled bare_of s))
bare_del s t c e = one_table _ _ (bare_ascend t) (ascend-del c _ (bare_ascend s)) (λ n. bare_seen t n ∙ ap (option_map face_id) (e n) ∙ at n (cases_eq n c) ∙ sym (row_at-del c (somes (tabled bare_of s)) n (bare_ascend s)))
  where
    at : (n : ℕ) → (n ≡ c) ⊎ (n ≢ c) → option_map face_id (cond (n == c) None (key_at (nodes vertex_placing s) n)) ≡ cond (c == n) None (row_at (somes (tabled bare_of s)) n)
    at n (inl q) = rw (q, same_number c) refl
    at n (inr ne) = rw (other_number n c ne, other_number c n (λ e. ne (sym e))) (sym (bare_seen s n))

-- a cycle in another face
pub cycle_put : (s t : Slab StoredCycle) (c : ℕ) (k : CycleKind) (a : FaceId) → ((n : ℕ) → kinds t n ≡ kinds s n) → kinds s c ≡ Some k → ((n : ℕ) → key_at (nodes cycle_placing t) n ≡ cond (n == c) (Some a.0) (key_at (nodes cycle_placing s) n)) → tabled cycle_record t ≡ put c (record { kind = k; face = a }) (tabled cycle_record s)
cycle_put s t c k a ks is e = one_table _ _ (ascend-tabled cycle_record t) (ascend-put c _ _ (ascend-tabled cycle_record s)) (λ n. cycle_seen t n ∙ (λ i. cycle_by (ks n i) (e n i)) ∙ at n (cases_eq n c) ∙ sym (row_at-put c (record { kind = k; face = a }) (tabled cycle_record s) n))
  where
    at : (n : ℕ) → (n ≡ c) ⊎ (n ≢ c) → cycle_by (kinds s n) (cond (n == c) (Some a.0) (key_at (nodes cycle_placing s) n)) ≡ cond (c == n) (Some (record { kind = k; face = a })) (row_at (tabled cycle_record s) n)
    at n (inl q) = rw (q, same_number c) (ap (λ o. cycle_by o (Some a.0)) is)
    at n (inr ne) = rw (other_number n c ne, other_number c n (λ e. ne (sym e))) (sym (cycle_seen s n))
