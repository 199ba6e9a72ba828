-- What stays where links are written: all that a row has beside its place, and all that a face has beside its first.
use Rattle.std.proofs.Common.{◌≡◌, inl, inr, ℕ, ◌==◌, Bool, true, false, not, cond, List, [], ◌∷◌, map, Option, Some, None, is_some, IsSome, option_map, refl, sym, ap, subst, ◌∙◌, Contains}
use Rattle.std.specs.List.{filter}
use Rattle.std.proofs.lemmas.Bool.{cases_eq}
use Rattle.integers.proofs.Tests.{other_number, same_number}
use Rattle.plane_graphs.proofs.Lists.{some_mapped}
use Rattle.slab.specs.Slab.{Slab, get, entries, ContainsKey, Updates}
use Rattle.slab.proofs.SlabLemmas.{Contains-cons_cases}
use Rattle.slab_laws.specs.declared.names.FaceId.{FaceId}
use Rattle.slab_laws.specs.FaceLists.{Lists}
use Rattle.slab_laws.specs.Tables.{row_at, names}
use Rattle.slab_laws.specs.View.{Faces, HasFace}
use Rattle.chain_laws.specs.Links.{Node, without}
use Rattle.chain_laws.proofs.Distinct.{nowhere}
use Rattle.chain_laws.proofs.Tabled.{row-tabled}
use Rattle.dcel_records.specs.declared.records.Records.TheInside.{Inside}
use Rattle.dcel_records.specs.declared.rows.StoredCycle.{StoredCycle}
use Rattle.dcel_records.specs.declared.rows.StoredDart.{StoredDart}
use Rattle.dcel_records.specs.declared.rows.StoredFace.{StoredFace}
use Rattle.dcel_records.specs.declared.rows.StoredVertex.{StoredVertex}
use Rattle.dcel_records.specs.Placing.{Placing, node_or, nodes, all_but}
use Rattle.dcel_records.specs.RecordsView.{RecordsView, tables_of, lists_of, lists_in_view}
use Rattle.dcel_records.specs.StoredRows.{tables_in, lists_in, faces_view, records_view}
use Rattle.dcel_records.proofs.After.{names_tabled}
use Rattle.dcel_records.proofs.FaceTables.{lists_seen}

-- what is read through a function that leaves it is read of both
pub through : {X Y : Type 0} (r : X → X) (f : X → Y) → ((x : X) → f (r x) ≡ f x) → (o p : Option X) → option_map r o ≡ option_map r p → option_map f o ≡ option_map f p
through {X} {Y} r f q o p e = sym (again o) ∙ ap (option_map f) e ∙ again p
  where
    again : (o : Option X) → option_map f (option_map r o) ≡ option_map f o
    again None = refl
    again (Some x) = ap Some (q x)

pub some_same : {X Y : Type 0} (f : X → Y) (o p : Option X) → option_map f o ≡ option_map f p → is_some o ≡ is_some p
some_same f o p e = sym (some_mapped f o) ∙ ap is_some e ∙ some_mapped f p

-- a name among the names has a row
named_row : {X : Type 0} (rs : List (ℕ × X)) (n : ℕ) → Contains (names rs) n → IsSome (row_at rs n)
unfolding row_at
named_row [] n c = absurd (nowhere n c)
named_row (r ∷ rs) n c = elim (cases_eq r.0 n) [
  | inl q ↦ rw (q, same_number n) refl
  | inr ne ↦ rw (other_number r.0 n ne) (elim (Contains-cons_cases r.0 n (names rs) c) [
    | inl e ↦ absurd (ne e)
    | inr d ↦ named_row rs n d
  ])
]

pub named_key : {X : Type 0} (s : Slab X) (n : ℕ) → Contains (names (entries s)) n → ContainsKey s n
named_key s n c = sym (some_mapped (λ x. x) (get s n)) ∙ sym (ap is_some (row-tabled (λ x. x) s n)) ∙ named_row _ n (subst (λ ns. Contains ns n) (sym (names_tabled (λ x. x) s)) c)

pub node_none : (o : Option Node) → option_map (λ x. x.key) o ≡ None → o ≡ None
node_none None e = refl
node_none (Some x) e = absurd (cc)

-- a list without a name, as a list of names of a kind
pub map_without : {X : Type 0} (f : ℕ → X) (num : X → ℕ) → ((n : ℕ) → num (f n) ≡ n) → (c : ℕ) (xs : List ℕ) → map f (without c xs) ≡ filter (λ x. not (num x == c)) (map f xs)
map_without f num q c [] = refl
map_without {X} f num q c (x ∷ xs) = step (x == c) (map_without f num q c xs) ∙ ap (λ m. cond (not (m == c)) (f x ∷ filter (λ y. not (num y == c)) (map f xs)) (filter (λ y. not (num y == c)) (map f xs))) (sym (q x))
  where
    step : (b : Bool) → map f (without c xs) ≡ filter (λ y. not (num y == c)) (map f xs) → map f (cond (not b) (x ∷ without c xs) (without c xs)) ≡ cond (not b) (f x ∷ filter (λ y. not (num y == c)) (map f xs)) (filter (λ y. not (num y == c)) (map f xs))
    step true e = e
    step false e = ap (λ ys. f x ∷ ys) e

pub map_cond : {X : Type 0} (f : ℕ → X) (b : Bool) (xs ys : List ℕ) → map f (cond b xs ys) ≡ cond b (map f xs) (map f ys)
map_cond f true xs ys = refl
map_cond f false xs ys = refl

-- the nodes of a slab that a row left, or whose row lost its place
pub nodes_left : {R : Type 0} (g : Placing R) (ds es : Slab R) (c : ℕ) (o : Option R) → node_or g o ≡ None → Updates ds es c o → nodes g es ≡ all_but c (nodes g ds)
nodes_left g ds es c o none u = λ i n. at n i
  where
    at : (n : ℕ) → nodes g es n ≡ all_but c (nodes g ds) n
    at n = elim (cases_eq n c) [
      | inl q ↦ ap (nodes g es) q ∙ ap (node_or g) u.changed ∙ none ∙ sym (ap (λ b. cond b None (nodes g ds n)) (ap (λ z. z == c) q ∙ same_number c))
      | inr ne ↦ ap (node_or g) (u.others n ne) ∙ sym (ap (λ b. cond b None (nodes g ds n)) (other_number n c ne))
    ]

-- ---- from slabs to what a caller sees
module _ (store : Inside) (h : RecordsView) (is : records_view store ≡ h) where
  pub tables_after : (ws : Slab StoredVertex) (bs : Slab StoredDart) (es : Slab StoredCycle) (gs : Slab StoredFace) (T : Faces → Faces) → tables_in ws bs es gs ≡ T (tables_in store.vertices store.darts store.cycles store.faces) → tables_in ws bs es gs ≡ T h.faces.tables
  tables_after ws bs es gs T e = e ∙ ap T (ap tables_of is)

  pub lists_after : (ws : Slab StoredVertex) (es : Slab StoredCycle) (gs : Slab StoredFace) (L : Lists → Lists) → lists_in ws es gs ≡ L (lists_in store.vertices store.cycles store.faces) → lists_in_view (faces_view ws store.darts es gs store.moved store.cycle_room) ≡ L (lists_of h)
  lists_after ws es gs L e = lists_seen ws es gs store.darts store.moved store.cycle_room ∙ e ∙ ap L (sym (lists_seen store.vertices store.cycles store.faces store.darts store.moved store.cycle_room) ∙ ap lists_of is)

  pub face_key : (a : FaceId) → HasFace h.faces.tables a → ContainsKey store.faces a.0
  face_key a c = named_key store.faces a.0 (subst (λ (t : Faces). Contains t.faces a.0) (sym (ap tables_of is)) c)
