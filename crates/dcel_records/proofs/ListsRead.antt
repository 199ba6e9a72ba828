-- What the readers of the faces' lists answer.
use Rattle.std.proofs.Common.{◌≡◌, ℕ, ◌==◌, Bool, true, false, cond, List, [], ◌∷◌, map, Some, IsSome, option_map, refl, sym, ap, ◌∙◌}
use Rattle.slab.specs.Slab.{get, ContainsKey}
use Rattle.slab_laws.specs.declared.names.CycleId.{CycleId}
use Rattle.slab_laws.specs.declared.names.FaceId.{FaceId}
use Rattle.slab_laws.specs.declared.names.VertexId.{VertexId}
use Rattle.slab_laws.specs.FaceLists.{Lists, first_of, follower, cycle_follower, vertex_follower}
use Rattle.slab_laws.specs.Tables.{row_at}
use Rattle.slab_laws.specs.View.{HasBareFace, face_in, face_or, bare_face_in, bare_or, cycle_id, vertex_id, face_id}
use Rattle.chain_laws.specs.Links.{Node, first_or, comes_after}
use Rattle.chain_laws.proofs.Tabled.{row-tabled}
use Rattle.dcel_records.specs.declared.records.Records.TheInside.{Inside}
use Rattle.dcel_records.specs.declared.rows.Place.{Place}
use Rattle.dcel_records.specs.declared.rows.StoredCycle.{StoredCycle}
use Rattle.dcel_records.specs.declared.rows.StoredFace.{StoredFace}
use Rattle.dcel_records.specs.declared.rows.StoredVertex.{StoredVertex}
use Rattle.dcel_records.specs.Placing.{place_node, node_or, nodes, own, cycle_placing, vertex_placing}
use Rattle.dcel_records.specs.RecordsView.{RecordsView, lists_of}
use Rattle.dcel_records.specs.StoredRows.{cycle_record, dart_kept, records_view, AreSoundFaces}
use Rattle.dcel_records.proofs.BareWritten.{bare_node}
use Rattle.dcel_records.proofs.Chained.{first_seen, next_seen}
use Rattle.dcel_records.proofs.FaceTables.{lists_seen, bare_seen}
use Rattle.dcel_records.proofs.Places.{node_row, row_has_place}

module _ {X : Type 0} (f : ℕ → X) where
  first_mapped : (xs : List ℕ) → option_map f (first_of xs) ≡ first_of (map f xs)
  first_mapped [] = refl
  first_mapped (x ∷ xs) = refl

  follower_mapped : (p : X → Bool) (m : ℕ) → ((n : ℕ) → p (f n) ≡ (n == m)) → (xs : List ℕ) → option_map f (comes_after xs m) ≡ follower p (map f xs)
  unfolding comes_after follower
  follower_mapped p m q [] = refl
  follower_mapped p m q (x ∷ xs) = by (x == m) (follower_mapped p m q xs) ∙ ap (λ b. cond b (first_of (map f xs)) (follower p (map f xs))) (sym (q x))
    where
      by : (b : Bool) → option_map f (comes_after xs m) ≡ follower p (map f xs) → option_map f (cond b (first_of xs) (comes_after xs m)) ≡ cond b (first_of (map f xs)) (follower p (map f xs))
      by true e = first_mapped xs
      by false e = e

module _ (store : Inside) (h : RecordsView) (is : records_view store ≡ h) (k : AreSoundFaces store.vertices store.cycles store.faces) where
  lists_are : lists_of h ≡ record { cycles = λ a. map cycle_id (own cycle_placing store.cycles store.faces a.0); bare = λ a. map vertex_id (own vertex_placing store.vertices store.faces a.0); dart_on = λ c. dart_kept (get store.cycles c.0) }
  lists_are = ap lists_of (sym is) ∙ lists_seen store.vertices store.cycles store.faces store.darts store.moved store.cycle_room

  pub first_cycle_read : (a : FaceId) (r : StoredFace) → get store.faces a.0 ≡ Some r → option_map cycle_id r.first_cycle ≡ first_of ((lists_of h).cycles a)
  first_cycle_read a r e =
      ap (λ o. option_map cycle_id (first_or (option_map (λ (x : StoredFace). x.first_cycle) o))) (sym e)
      ∙ ap (option_map cycle_id) (first_seen cycle_placing store.cycles store.faces k.cycles a.0)
      ∙ first_mapped cycle_id (own cycle_placing store.cycles store.faces a.0)
      ∙ ap (λ (l : Lists). first_of (l.cycles a)) (sym lists_are)

  pub first_bare_read : (a : FaceId) (r : StoredFace) → get store.faces a.0 ≡ Some r → option_map vertex_id r.first_bare ≡ first_of ((lists_of h).bare a)
  first_bare_read a r e =
      ap (λ o. option_map vertex_id (first_or (option_map (λ (x : StoredFace). x.first_bare) o))) (sym e)
      ∙ ap (option_map vertex_id) (first_seen vertex_placing store.vertices store.faces k.bare a.0)
      ∙ first_mapped vertex_id (own vertex_placing store.vertices store.faces a.0)
      ∙ ap (λ (l : Lists). first_of (l.bare a)) (sym lists_are)

  pub cycle_row_read : (c : CycleId) (r : StoredCycle) → get store.cycles c.0 ≡ Some r → Some (cycle_record r) ≡ row_at h.faces.tables.cycles c.0
  cycle_row_read c r e = ap (option_map cycle_record) (sym e) ∙ sym (row-tabled cycle_record store.cycles c.0) ∙ ap (λ v. row_at v.faces.tables.cycles c.0) is

  cycle_face : (c : CycleId) (r : StoredCycle) → get store.cycles c.0 ≡ Some r → r.place.face ≡ face_in h.faces.tables c
  cycle_face c r e = ap face_or (cycle_row_read c r e)

  pub next_cycle_read : (c : CycleId) (r : StoredCycle) → get store.cycles c.0 ≡ Some r → option_map cycle_id r.place.after ≡ cycle_follower c ((lists_of h).cycles (face_in h.faces.tables c))
  next_cycle_read c r e =
      ap (option_map cycle_id) (next_seen cycle_placing store.cycles store.faces k.cycles c.0 r.place (ap (node_or cycle_placing) e))
      ∙ follower_mapped cycle_id (λ x. x.0 == c.0) c.0 (λ n. refl) (own cycle_placing store.cycles store.faces r.place.face.0)
      ∙ ap (λ (l : Lists). cycle_follower c (l.cycles r.place.face)) (sym lists_are)
      ∙ ap (λ a. cycle_follower c ((lists_of h).cycles a)) (cycle_face c r e)

  pub dart_read : (c : CycleId) (r : StoredCycle) → get store.cycles c.0 ≡ Some r → r.dart ≡ (lists_of h).dart_on c
  dart_read c r e = ap dart_kept (sym e) ∙ ap (λ (l : Lists). l.dart_on c) (sym lists_are)

  pub bare_key : (v : VertexId) → HasBareFace h.faces.tables v → ContainsKey store.vertices v.0
  bare_key v s = node_row vertex_placing store.vertices v.0 (bare_node store h is k v s)

  pub bare_place : (v : VertexId) (r : StoredVertex) → HasBareFace h.faces.tables v → get store.vertices v.0 ≡ Some r → IsSome r.place
  bare_place v r s e = row_has_place vertex_placing store.vertices v.0 r e (bare_node store h is k v s)

  module _ (v : VertexId) (r : StoredVertex) (p : Place) (e : get store.vertices v.0 ≡ Some r) (q : r.place ≡ Some p) where
    bare_node_read : nodes vertex_placing store.vertices v.0 ≡ Some (place_node p)
    bare_node_read = ap (node_or vertex_placing) e ∙ ap (option_map place_node) q

    pub bare_face_read : p.face ≡ bare_face_in h.faces.tables v
    bare_face_read = sym (ap bare_or (bare_seen store.vertices v.0 ∙ ap (λ o. option_map face_id (option_map (λ (x : Node). x.key) o)) bare_node_read)) ∙ ap (λ v'. bare_face_in v'.faces.tables v) is

    pub next_bare_read : option_map vertex_id p.after ≡ vertex_follower v ((lists_of h).bare (bare_face_in h.faces.tables v))
    next_bare_read =
        ap (option_map vertex_id) (next_seen vertex_placing store.vertices store.faces k.bare v.0 p bare_node_read)
        ∙ follower_mapped vertex_id (λ x. x.0 == v.0) v.0 (λ n. refl) (own vertex_placing store.vertices store.faces p.face.0)
        ∙ ap (λ (l : Lists). vertex_follower v (l.bare p.face)) (sym lists_are)
        ∙ ap (λ a. vertex_follower v ((lists_of h).bare a)) bare_face_read
