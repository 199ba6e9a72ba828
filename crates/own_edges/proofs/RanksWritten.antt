-- Places written into a table by the names of the keys' faces.
use Rattle.std.proofs.Common.{◌≡◌, ◌≢◌, ℕ, suc, ◌+◌, ◌<◌, ◌≤◌, Bool, false, cond, List, [], ◌∷◌, length, get_or, sym, ap, ◌∙◌, subst, arith, inl, inr}
use Rattle.std.specs.Prelude.{◌==◌}
use Rattle.std.specs.List.{AllByRecursion, IsDistinct}
use Rattle.std.proofs.lemmas.Bool.{false_from_ne_true, eqb-true, cases_eq}
use Rattle.std.proofs.lemmas.Map.Keys.{apart_from_distinct}
use Rattle.integers.proofs.Tests.{same_number}
use Rattle.plane_graphs.proofs.Ascending.{All-member}
use Rattle.plane_graphs.proofs.Sorting.{member_at, any_default}
use Rattle.slab_laws.specs.declared.names.FaceId.{FaceId}
use Rattle.face_changes.proofs.FacesByPairs.{by_number}
use Rattle.dcel_records.specs.declared.ranks.RankKey.{RankKey}
use Rattle.dcel_records.specs.RankOrders.{AreRanked}
use Rattle.own_edges.specs.RankTables.{at_name}

-- the keys have one face
abbrev pub same_face : RankKey → RankKey → Bool
same_face a b = a.face.0 == b.face.0

-- ranks told place by place
pub by_places : (rank : FaceId → ℕ) (n : ℕ) (ks : List RankKey) → ((j : ℕ) (d : RankKey) → j < length ks → rank (get_or ks j d).face ≡ n + j) → AreRanked rank n ks
unfolding AreRanked
by_places rank n [] h = tt
by_places rank n (k ∷ ks) h = (omega (arith, h 0 k (omega arith)), by_places rank (n + 1) ks (λ j d l. omega (arith, h (suc j) d (omega (arith, l)))))

-- the table has the places of the first so many keys
abbrev pub ArePlaced : List RankKey → List ℕ → ℕ → Type 0
ArePlaced ks rs i = (j : ℕ) (d : RankKey) → j < i → j < length ks → at_name rs (get_or ks j d).face ≡ 1 + j

-- and nothing at the names of other faces
abbrev pub AreOthersZero : List RankKey → List ℕ → Type 0
AreOthersZero ks rs = (a : FaceId) → AllByRecursion (λ k. k.face ≢ a) ks → at_name rs a ≡ 0

pub none_placed : (ks : List RankKey) (rs : List ℕ) → ArePlaced ks rs 0
none_placed ks rs j d l h = absurd (omega (arith, l))

pub none_written : (ks : List RankKey) (rs : List ℕ) → rs ≡ [] → AreOthersZero ks rs
none_written ks rs e a z = ap (λ xs. at_name xs a) e

pub all_placed : (ks : List RankKey) (rs : List ℕ) (i : ℕ) → length ks ≤ i → ArePlaced ks rs i → AreRanked (at_name rs) 1 ks
all_placed ks rs i l p = by_places (at_name rs) 1 ks (λ j d h. p j d (omega (arith, l, h)) h)

not_same : (m n : ℕ) → (m ≡ n → ⊥) → (m == n) ≡ false
not_same m n f = false_from_ne_true (m == n) (λ t. f (eqb-true m n t))

module _ (ks : List RankKey) (old new : List ℕ) (i : ℕ) (k : RankKey) (e : k ≡ get_or ks i k) (l : i < length ks) (w : (j : ℕ) → get_or new j 0 ≡ cond (j == k.face.0) (i + 1) (get_or old j 0)) where
  here : at_name new k.face ≡ i + 1
  here = w k.face.0 ∙ ap (λ (b : Bool). cond {A = ℕ} b (i + 1) (at_name old k.face)) (same_number k.face.0)

  kept : (a : FaceId) → (a.0 == k.face.0) ≡ false → at_name new a ≡ at_name old a
  kept a b = w a.0 ∙ ap (λ (t : Bool). cond {A = ℕ} t (i + 1) (at_name old a)) b

  pub others_zero : AreOthersZero ks old → AreOthersZero ks new
  others_zero h a z =
      kept a (not_same a.0 k.face.0 (λ t. All-member (λ x. x.face ≢ a) (get_or ks i k) ks z (member_at ks i k l) (ap (λ (x : RankKey). x.face) (sym e) ∙ sym (by_number a k.face t)))) ∙ h a z

  pub one_placed : IsDistinct same_face ks → ArePlaced ks old i → ArePlaced ks new (i + 1)
  one_placed apart p j d m n = elim (cases_eq j i) [
    | inl z ↦ ap (λ x. at_name new (get_or ks x d).face) z ∙ ap (λ (x : RankKey). at_name new x.face) (any_default ks i d k l ∙ sym e) ∙ here ∙ omega (arith, z)
    | inr ne ↦
        let b : same_face (get_or ks j d) (get_or ks i d) ≡ false = apart_from_distinct same_face ks j i d apart (omega (arith, m, ne)) l in
        kept (get_or ks j d).face (subst (λ (x : RankKey). same_face (get_or ks j d) x ≡ false) (any_default ks i d k l ∙ sym e) b) ∙ p j d (omega (arith, m, ne)) n
  ]
