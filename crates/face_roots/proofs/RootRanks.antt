-- Ranks by roots, one root more.
use Rattle.std.proofs.Common.{◌≡◌, ℕ, ◌+◌, ◌<◌, ◌≤◌, cond, arith, refl, sym, ap, ◌∙◌, subst, inl, inr, List, [], ◌∷◌, ◌++◌, length, take, get_or}
use Rattle.std.specs.Prelude.{slice_index_or}
use Rattle.std.specs.List.{count_by}
use Rattle.std.proofs.lemmas.Bool.{cases_lt}
use Rattle.std.proofs.lemmas.List.{get_or_append_left, get_or_push, length-append}
use Rattle.std.proofs.lemmas.List.Sums.{sum_by-append, sum_by-cons}
use Rattle.plane_graphs.proofs.Loops.{take_next}
use Rattle.plane_graphs.proofs.Sorting.{any_default}
use Rattle.face_roots.specs.declared.ranks.Root.{Root}
use Rattle.face_roots.specs.declared.ranks.Root.TheVariants.{Outer, Outside, Above}
use Rattle.face_roots.specs.CycleRanks.{root_at, is_outer_root, IsAboveOf, rank_of_root, faces_before, AreRankedBy}

-- what holds of the ranks of the first n cycles
pub record AreRankedUpto (roots : List Root) (n count : ℕ) (ranks : List ℕ) : Type 0 where
  pub within : n ≤ length roots
  pub counted : length ranks ≡ n
  pub count_is : count ≡ faces_before roots n
  pub each : (c : ℕ) → c < n → slice_index_or ranks c 0 ≡ rank_of_root (root_at roots c) ranks (faces_before roots c)

-- a root reads ranks before its own alone
read_same : (root : Root) (old new : List ℕ) (count c : ℕ) → ((k : ℕ) → IsAboveOf root k → k < c) → ((k : ℕ) → k < c → slice_index_or new k 0 ≡ slice_index_or old k 0) → rank_of_root root new count ≡ rank_of_root root old count
read_same Outer old new count c h f = refl
read_same Outside old new count c h f = refl
read_same (Above k) old new count c h f = f k (h k refl)

pub more_faces : (roots : List Root) (n : ℕ) → n < length roots → faces_before roots (n + 1) ≡ faces_before roots n + cond (is_outer_root (root_at roots n)) 1 0
more_faces roots n h =
    let x = get_or roots n Outside in
    let e = take_next roots n x h (any_default roots n Outside x h) in
    let a : count_by is_outer_root (take (n + 1) roots) ≡ count_by is_outer_root (take n roots ++ x ∷ []) = ap (count_by is_outer_root) e in
    let b = sum_by-append (λ r. cond (is_outer_root r) 1 0) (take n roots) (x ∷ []) in
    let d = sum_by-cons (λ r. cond (is_outer_root r) 1 0) x [] in
    let z : count_by is_outer_root [] ≡ 0 = refl in
    omega arith

pub ranked_more : (roots : List Root) (n count : ℕ) (old new : List ℕ) (root : Root) (rank : ℕ) → ((c k : ℕ) → c < length roots → IsAboveOf (root_at roots c) k → k < c) → n < length roots → root ≡ root_at roots n → rank ≡ rank_of_root root old count → new ≡ old ++ rank ∷ [] → AreRankedUpto roots n count old → (c : ℕ) → c < n + 1 → slice_index_or new c 0 ≡ rank_of_root (root_at roots c) new (faces_before roots c)
ranked_more roots n count old new root rank before h r e grown t c l =
    let longer : length new ≡ n + 1 = ap length grown ∙ length-append old (rank ∷ []) ∙ ap (λ k. k + 1) t.counted in
    let keeps : (k : ℕ) → k < n → slice_index_or new k 0 ≡ slice_index_or old k 0 = λ k s. ap (λ z. slice_index_or z k 0) grown ∙ get_or_append_left old (rank ∷ []) 0 k (let y = t.counted in omega arith) in
    elim (cases_lt c n) [
      | inl s ↦ keeps c s ∙ t.each c s ∙ sym (read_same (root_at roots c) old new (faces_before roots c) c (λ k a. before c k (omega arith) a) (λ k b. keeps k (omega arith)))
      | inr s ↦
          let q : c ≡ n = omega arith in
          let w : slice_index_or new n 0 ≡ rank = ap (λ z. slice_index_or z n 0) grown ∙ get_or_push old rank 0 n t.counted in
          let u : rank_of_root (root_at roots n) new (faces_before roots n) ≡ rank_of_root (root_at roots n) old (faces_before roots n) = read_same (root_at roots n) old new (faces_before roots n) n (λ k a. before n k h a) keeps in
          let v : rank ≡ rank_of_root (root_at roots n) old (faces_before roots n) = e ∙ ap (λ x. rank_of_root x old count) r ∙ ap (rank_of_root (root_at roots n) old) t.count_is in
          subst (λ j. slice_index_or new j 0 ≡ rank_of_root (root_at roots j) new (faces_before roots j)) (sym q) (w ∙ v ∙ sym u)
    ]

pub all_ranked : (roots : List Root) (n count : ℕ) (ranks : List ℕ) → length roots ≤ n → AreRankedUpto roots n count ranks → AreRankedBy roots ranks
all_ranked roots n count ranks h t =
    let w = t.within in
    let c = t.counted in
    record { counted = omega arith; each = λ c l. t.each c (omega arith) }

-- ---- by what the code has at hand
pub read_within : (roots : List Root) (n count : ℕ) (ranks slice : List ℕ) (d : Root) → ((c k : ℕ) → c < length roots → IsAboveOf (root_at roots c) k → k < c) → n < length roots → AreRankedUpto roots n count ranks → slice ≡ ranks → (k : ℕ) → IsAboveOf (slice_index_or roots n d) k → k < length slice
read_within roots n count ranks slice d before h t e k a =
    let l = before n k h (subst (λ r. IsAboveOf r k) (any_default roots n d Outside h) a) in
    let m : length slice ≡ n = ap length e ∙ t.counted in
    omega arith

pub step_ranked : (roots : List Root) (n count later rank : ℕ) (old slice new : List ℕ) (d : Root) → ((c k : ℕ) → c < length roots → IsAboveOf (root_at roots c) k → k < c) → n < length roots → rank ≡ rank_of_root (slice_index_or roots n d) slice count → slice ≡ old → new ≡ old ++ rank ∷ [] → later ≡ count + cond (is_outer_root (slice_index_or roots n d)) 1 0 → AreRankedUpto roots n count old → AreRankedUpto roots (n + 1) later new
step_ranked roots n count later rank old slice new d before h r e grown l t =
    let q = any_default roots n d Outside h in
    let m = more_faces roots n h in
    let c = t.count_is in
    let k : cond {A = ℕ} (is_outer_root (slice_index_or roots n d)) 1 0 ≡ cond (is_outer_root (root_at roots n)) 1 0 = ap (λ x. cond {A = ℕ} (is_outer_root x) 1 0) q in
    record {
      within = omega arith;
      counted = ap length grown ∙ length-append old (rank ∷ []) ∙ ap (λ k. k + 1) t.counted;
      count_is = omega arith;
      each = ranked_more roots n count old new (slice_index_or roots n d) rank before h q (r ∙ ap (λ z. rank_of_root (slice_index_or roots n d) z count) e) grown t;
    }
