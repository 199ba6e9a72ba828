-- Rows that may have a place in a chain of a face, the chains that run through them, and what the writers of links do.
use Rattle.std.specs.Prelude.{◌≡◌, ◌≢◌, ◌==◌, ◌&&◌, ℕ, List, ◌∷◌, cond, length, Option, Some, None, option_map, is_none, refl}
use Rattle.slab.specs.Slab.{Slab, get, entries, slab_len}
use Rattle.slab_laws.specs.declared.names.FaceId.{FaceId}
use Rattle.slab_laws.specs.View.{face_id}
use Rattle.chain_laws.specs.Links.{Node, first_or, trail, after_at, key_at, IsListed, AreListed, without}
use Rattle.dcel_records.specs.declared.rows.Place.{Place}
use Rattle.dcel_records.specs.declared.rows.StoredCycle.{StoredCycle}
use Rattle.dcel_records.specs.declared.rows.StoredFace.{StoredFace}
use Rattle.dcel_records.specs.declared.rows.StoredVertex.{StoredVertex}

-- how rows keep a place and faces the first of a chain: what is written is read, and a later write is as if it were the only one (this project)
pub record Placing (R : Type 0) : Type 0 where
  pub place : R → Option Place
  pub with_place : Place → R → R
  pub first : StoredFace → Option ℕ
  pub with_first : Option ℕ → StoredFace → StoredFace
  pub placed : (p : Place) (r : R) → place (with_place p r) ≡ Some p
  pub again : (p q : Place) (r : R) → with_place p (with_place q r) ≡ with_place p r
  pub headed : (o : Option ℕ) (f : StoredFace) → first (with_first o f) ≡ o
  pub headed_again : (o q : Option ℕ) (f : StoredFace) → with_first o (with_first q f) ≡ with_first o f

-- the cycles of a face
abbrev pub cycle_placing : Placing StoredCycle
cycle_placing = record {
  place = λ r. Some r.place;
  with_place = λ p r. record { kind = r.kind; dart = r.dart; place = p; area = r.area };
  first = λ f. f.first_cycle;
  with_first = λ o f. record { first_cycle = o; first_bare = f.first_bare; rank = f.rank };
  placed = λ p r. refl;
  again = λ p q r. refl;
  headed = λ o f. refl;
  headed_again = λ o q f. refl;
}

-- the isolated vertices of a face
abbrev pub vertex_placing : Placing StoredVertex
vertex_placing = record {
  place = λ r. r.place;
  with_place = λ p r. record { point = r.point; pinned = r.pinned; out = r.out; place = Some p };
  first = λ f. f.first_bare;
  with_first = λ o f. record { first_cycle = f.first_cycle; first_bare = o; rank = f.rank };
  placed = λ p r. refl;
  again = λ p q r. refl;
  headed = λ o f. refl;
  headed_again = λ o q f. refl;
}

-- ---- chains
abbrev pub place_node : Place → Node
place_node p = record { key = p.face.0; before = p.before; after = p.after }

module _ {R : Type 0} (g : Placing R) where
  abbrev pub node_of : R → Option Node
  node_of r = option_map place_node (g.place r)

  abbrev pub node_or : Option R → Option Node
  node_or None = None
  node_or (Some r) = node_of r

  -- a row as a node of the chain of its face, where it has a place
  abbrev pub nodes : Slab R → ℕ → Option Node
  nodes s n = node_or (get s n)

  -- the first of each face
  abbrev pub heads : Slab StoredFace → ℕ → Option (Option ℕ)
  heads s k = option_map g.first (get s k)

  -- each face has the chain of its own
  abbrev pub AreChained : Slab R → Slab StoredFace → Type 0
  AreChained rs fs = AreListed (heads fs) (nodes rs)

  -- the names in the chain of a face, in order
  unfoldable pub own : Slab R → Slab StoredFace → ℕ → List ℕ
  own rs fs k = trail (after_at (nodes rs)) (length (entries rs)) (first_or (heads fs k))

-- all but one
abbrev pub all_but : ℕ → (ℕ → Option Node) → ℕ → Option Node
all_but c node n = cond (n == c) None (node n)

-- no place at all
abbrev pub nowhere : Place
nowhere = record { face = face_id 0; before = None; after = None }

module _ {R : Type 0} (g : Placing R) where
  -- each chain as before, of all rows but one
  abbrev pub AreOthersChained : ℕ → Slab R → Slab StoredFace → Type 0
  AreOthersChained c rs fs = AreListed (heads g fs) (all_but c (nodes g rs))

  -- ---- rows written
  abbrev pub replaced : (Place → Place) → R → Option Place → R
  replaced f r None = r
  replaced f r (Some p) = g.with_place (f p) r

  abbrev pub row_followed : Option ℕ → R → R
  row_followed after r = replaced (λ p. record { face = p.face; before = p.before; after = after }) r (g.place r)

  abbrev pub row_led : Option ℕ → R → R
  row_led before r = replaced (λ p. record { face = p.face; before = before; after = p.after }) r (g.place r)

  abbrev pub row_placed : FaceId → Option ℕ → R → R
  row_placed face first r = g.with_place (record { face = face; before = None; after = first }) r

  -- what a row has beside its place, and a face beside its first
  abbrev pub rest_of : R → R
  rest_of r = g.with_place nowhere r

  abbrev pub rest_of_face : StoredFace → StoredFace
  rest_of_face f = g.with_first None f

  -- the face has another first, unless one is before it
  pub record IsHeaded (face : ℕ) (before first : Option ℕ) (old new : Slab StoredFace) : Type 0 where
    pub rows : (k : ℕ) → get new k ≡ cond ((k == face) && is_none before) (option_map (g.with_first first) (get old k)) (get old k)
    pub len : slab_len new ≡ slab_len old
    pub capacity : new.capacity ≡ old.capacity

  -- all is as it was, but for places and firsts
  pub record IsRelinked (rs rs' : Slab R) (fs fs' : Slab StoredFace) : Type 0 where
    pub rests : (n : ℕ) → option_map rest_of (get rs' n) ≡ option_map rest_of (get rs n)
    pub face_rests : (k : ℕ) → option_map rest_of_face (get fs' k) ≡ option_map rest_of_face (get fs k)
    pub len : slab_len rs' ≡ slab_len rs
    pub capacity : rs'.capacity ≡ rs.capacity
    pub faces_len : slab_len fs' ≡ slab_len fs
    pub faces_capacity : fs'.capacity ≡ fs.capacity

  -- the row c is in no chain any more, and all else is as it was
  pub record IsUnlinked (c : ℕ) (rs rs' : Slab R) (fs fs' : Slab StoredFace) : Type 0 where
    pub chained : AreOthersChained c rs' fs'
    pub lists : (k : ℕ) (xs : List ℕ) → IsListed (nodes g rs) (first_or (heads g fs k)) k xs → IsListed (all_but c (nodes g rs')) (first_or (heads g fs' k)) k (without c xs)
    pub keys : (n : ℕ) → key_at (nodes g rs') n ≡ key_at (nodes g rs) n
    pub kept : IsRelinked rs rs' fs fs'

  -- the row c, which was in no chain, is the first of the face's, and all else is as it was
  pub record IsLinkedFirst (c : ℕ) (face : FaceId) (rs rs' : Slab R) (fs fs' : Slab StoredFace) : Type 0 where
    pub chained : AreChained g rs' fs'
    pub here : (xs : List ℕ) → IsListed (all_but c (nodes g rs)) (first_or (heads g fs face.0)) face.0 xs → IsListed (nodes g rs') (first_or (heads g fs' face.0)) face.0 (c ∷ xs)
    pub beside : (k : ℕ) (xs : List ℕ) → k ≢ face.0 → IsListed (all_but c (nodes g rs)) (first_or (heads g fs k)) k xs → IsListed (nodes g rs') (first_or (heads g fs' k)) k xs
    pub keys : (n : ℕ) → key_at (nodes g rs') n ≡ cond (n == c) (Some face.0) (key_at (nodes g rs) n)
    pub kept : IsRelinked rs rs' fs fs'
