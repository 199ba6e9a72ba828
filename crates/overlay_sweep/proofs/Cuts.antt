-- A cut between two neighbours of a parted list is where those that pass end.
use Rattle.std.proofs.Common.{◌≡◌, ℕ, ◌-◌, Bool, true, false, arith, sym, ap, ◌∙◌, List, length, get_or}
use Rattle.std.specs.Prelude.{nat_lt}
use Rattle.std.specs.List.Sorted.{IsPartitionedBy, IsPartitionPoint}
use Rattle.std.proofs.lemmas.Bool.{false≢true, false_from_ne_true, ltb-true}
use Rattle.plane_graphs.proofs.Sorting.{any_default}
use Rattle.overlay_sweep.specs.Cuts.{StandsWith, IsCutAt}

-- what is read at a place stands there
pub stands : {X : Type 0} (p : X → Bool) (b : Bool) (xs : List X) (n : ℕ) (x : X) → true ≡ nat_lt n (length xs) → x ≡ get_or xs n x → p x ≡ b → StandsWith p b xs n
stands p b xs n x l q h d = let w = ltb-true n (length xs) (sym l) in (w, ap p (sym (q ∙ any_default xs n x d w)) ∙ h)

pub cut_is_end : {X : Type 0} (p : X → Bool) (xs : List X) (n : ℕ) → IsPartitionedBy p xs → IsCutAt p xs n → IsPartitionPoint (λ x. p x ≡ true) (λ x. p x ≡ false) xs n
cut_is_end p xs n parted c = (
  λ i d _ l. let a = c.0 d in parted i (n - 1) d (omega arith) a.0 a.1,
  λ i d h l. let a = c.1 d in false_from_ne_true (p (get_or xs i d)) (λ t. false≢true (sym a.1 ∙ parted n i d h l t)),
)
