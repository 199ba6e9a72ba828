-- How many vertices are isolated, before and after each write.
use Rattle.std.proofs.Common.{◌≡◌, ◌≢◌, inl, inr, ℕ, ◌+◌, ◌≤◌, ◌==◌, cond, List, [], ◌∷◌, length, Option, Some, None, is_some, IsSome, option_map, refl, sym, ap, ◌∙◌, arith}
use Rattle.std.proofs.lemmas.Bool.{cases_eq, cases_Bool}
use Rattle.integers.proofs.Tests.{other_number, same_number}
use Rattle.plane_graphs.proofs.Lists.{some_mapped}
use Rattle.slab.specs.Slab.{Slab, slab_len, Updates}
use Rattle.slab_laws.specs.declared.names.FaceId.{FaceId}
use Rattle.slab_laws.specs.Tables.{row_at}
use Rattle.slab_laws.specs.View.{face_id}
use Rattle.arr_notes.specs.NamedRows.{del}
use Rattle.arr_notes.proofs.RowLaws.{row_at-del, ascend-del, one_table}
use Rattle.chain_laws.specs.Links.{Node, key_at}
use Rattle.chain_laws.specs.Rows.{tabled}
use Rattle.chain_laws.proofs.Tabled.{tabled_slots, tabled_empty, length-tabled}
use Rattle.dcel_records.specs.declared.rows.StoredFace.{StoredFace}
use Rattle.dcel_records.specs.declared.rows.StoredVertex.{StoredVertex}
use Rattle.dcel_records.specs.Placing.{vertex_placing, nodes, IsUnlinked, IsLinkedFirst}
use Rattle.dcel_records.specs.StoredRows.{bare_of, somes, isolated_among, HasLeft}
use Rattle.dcel_records.proofs.FaceTables.{no_somes, bare_seen, bare_ascend, bare_same}
use Rattle.dcel_records.proofs.FacesKept.{nodes_updated}
use Rattle.dcel_records.proofs.Pins.{one_if}
use Rattle.dcel_records.proofs.Relinked.{node_none}

-- ---- tables
-- a table without a row has one row fewer, where it had that row
rows_less : {X : Type 0} (k : ℕ) (rs : List (ℕ × X)) → length rs ≡ length (del k rs) + one_if (is_some (row_at rs k))
unfolding row_at del
rows_less k [] = refl
rows_less k (r ∷ rs) = elim (cases_Bool (r.0 == k)) [
  | inl q ↦ rw q (omega arith)
  | inr q ↦ rw q (let h = rows_less k rs in omega arith)
]

somes_fit : {X : Type 0} (rs : List (ℕ × Option X)) → length (somes rs) ≤ length rs
unfolding somes
somes_fit [] = omega arith
somes_fit ((k, None) ∷ rs) = let h = somes_fit rs in omega arith
somes_fit ((k, Some x) ∷ rs) = let h = somes_fit rs in omega arith

-- ---- slabs
abbrev key_of : Slab StoredVertex → ℕ → Option ℕ
key_of s n = key_at (nodes vertex_placing s) n

-- no more are isolated than there are
pub isolated_fit : (s : Slab StoredVertex) → isolated_among s ≤ slab_len s
isolated_fit s = let a = somes_fit (tabled bare_of s) in let b = length-tabled bare_of s in omega arith

-- none is where there are none
pub isolated_none : (s : Slab StoredVertex) → s.slots ≡ [] → 0 ≡ isolated_among s
isolated_none s e = sym (ap (λ t. length (somes t)) (tabled_empty bare_of s e) ∙ ap length no_somes)

pub isolated_slots : (s t : Slab StoredVertex) → t.slots ≡ s.slots → isolated_among t ≡ isolated_among s
isolated_slots s t e = ap (λ r. length (somes r)) (tabled_slots bare_of s t e)

-- what leaves the places leaves their number
pub isolated_same : (s t : Slab StoredVertex) → ((n : ℕ) → nodes vertex_placing t n ≡ nodes vertex_placing s n) → isolated_among s ≡ isolated_among t
isolated_same s t same = sym (ap length (bare_same s t (λ n. ap (option_map (λ (x : Node). x.key)) (same n))))

abbrev bare : Slab StoredVertex → List (ℕ × FaceId)
bare s = somes (tabled bare_of s)

-- two slabs whose places differ at one name alone differ by that one
isolated_moved : (s t : Slab StoredVertex) (c : ℕ) → ((n : ℕ) → n ≢ c → key_of t n ≡ key_of s n) → isolated_among t + one_if (is_some (key_of s c)) ≡ isolated_among s + one_if (is_some (key_of t c))
isolated_moved s t c same =
    let e : del c (bare t) ≡ del c (bare s) = one_table _ _ (ascend-del c (bare t) (bare_ascend t)) (ascend-del c (bare s) (bare_ascend s)) (λ n. row_at-del c (bare t) n (bare_ascend t) ∙ found n ∙ sym (row_at-del c (bare s) n (bare_ascend s))) in
    let m = ap length e in
    let p = rows_less c (bare s) in
    let q = rows_less c (bare t) in
    let a = ap one_if (there s) in
    let b = ap one_if (there t) in
    omega arith
  where
    there : (x : Slab StoredVertex) → is_some (row_at (bare x) c) ≡ is_some (key_of x c)
    there x = ap is_some (bare_seen x c) ∙ some_mapped face_id (key_of x c)

    found : (n : ℕ) → cond (c == n) None (row_at (bare t) n) ≡ cond (c == n) None (row_at (bare s) n)
    found n = elim (cases_eq n c) [
      | inl q ↦ rw (q, same_number c) refl
      | inr ne ↦ ap (λ (o : Option FaceId). cond (c == n) None o) (bare_seen t n ∙ ap (option_map face_id) (same n ne) ∙ sym (bare_seen s n))
    ]

key_none : (s : Slab StoredVertex) (c : ℕ) → nodes vertex_placing s c ≡ None → key_of s c ≡ None
key_none s c e = ap (option_map (λ (x : Node). x.key)) e

key_some : (s : Slab StoredVertex) (c : ℕ) → IsSome (nodes vertex_placing s c) → IsSome (key_of s c)
key_some s c h = some_mapped (λ (x : Node). x.key) (nodes vertex_placing s c) ∙ h

-- ---- writers
module _ (vs ws : Slab StoredVertex) (fs gs : Slab StoredFace) (c : ℕ) where
  -- a vertex that leaves its face
  module _ (l : HasLeft c vs ws fs gs) where
    gone_key : key_of ws c ≡ None
    gone_key = l.keys c ∙ ap (λ b. cond b None (key_of vs c)) (same_number c)

    pub isolated_left : IsSome (nodes vertex_placing vs c) → isolated_among vs ≡ isolated_among ws + 1
    isolated_left h =
        let m = isolated_moved vs ws c (λ n ne. l.keys n ∙ ap (λ b. cond b None (key_of vs n)) (other_number n c ne)) in
        let a = ap one_if (key_some vs c h) in
        let b = ap (λ (o : Option ℕ). one_if (is_some o)) gone_key in
        omega arith

    pub isolated_gone : (es : Slab StoredVertex) → Updates ws es c None → isolated_among ws ≡ isolated_among es
    isolated_gone es u = isolated_same ws es (nodes_updated vertex_placing ws es c None u (sym (node_none (nodes vertex_placing ws c) gone_key)))

  -- a vertex put in a face
  module _ (face : FaceId) (l : IsLinkedFirst vertex_placing c face vs ws fs gs) where
    abbrev others : (n : ℕ) → n ≢ c → key_of ws n ≡ key_of vs n
    others n ne = l.keys n ∙ ap (λ b. cond b (Some face.0) (key_of vs n)) (other_number n c ne)

    set_key : key_of ws c ≡ Some face.0
    set_key = l.keys c ∙ ap (λ b. cond b (Some face.0) (key_of vs c)) (same_number c)

    pub isolated_set : nodes vertex_placing vs c ≡ None → isolated_among ws ≡ isolated_among vs + 1
    isolated_set e =
        let m = isolated_moved vs ws c others in
        let a = ap (λ (o : Option ℕ). one_if (is_some o)) (key_none vs c e) in
        let b = ap (λ (o : Option ℕ). one_if (is_some o)) set_key in
        omega arith

    -- and out of another before
    pub isolated_again : (us : Slab StoredVertex) (hs : Slab StoredFace) → IsUnlinked vertex_placing c us vs hs fs → IsSome (nodes vertex_placing us c) → isolated_among us ≡ isolated_among ws
    isolated_again us hs u h =
        let m = isolated_moved us ws c (λ n ne. others n ne ∙ u.keys n) in
        let a = ap one_if (key_some us c h) in
        let b = ap (λ (o : Option ℕ). one_if (is_some o)) set_key in
        omega arith
