-- What was taken into another order so far.
use Rattle.std.proofs.Common.{◌≡◌, ℕ, zero, suc, ◌<◌, ◌≤◌, Bool, true, false, arith, refl, sym, ap, ◌∙◌, subst, List, [], length}
use Rattle.std.specs.Prelude.{◌↔◌, replicate}
use Rattle.std.specs.List.{Contains}
use Rattle.std.proofs.lemmas.Bool.{false≢true}
use Rattle.std.proofs.lemmas.List.{get_or_default, length-replicate}
use Rattle.locate_trapezoid.specs.declared.node.Test.{Test}
use Rattle.locate_trapezoid.specs.Nodes.{no_node}
use Rattle.locate_trapezoid.specs.Scattered.{is_marked, IsTaken}

unmarked : (n j : ℕ) → is_marked (replicate n false) j ≡ false
unmarked zero j = refl
unmarked (suc n) zero = refl
unmarked (suc n) (suc j) = unmarked n j

pub none_taken : (ts : List Test) (marks : List Bool) (order : List Test) → marks ≡ replicate (length ts) false → order ≡ [] → IsTaken ts marks order
none_taken ts marks order e f = record {
  places = ap length e ∙ length-replicate (length ts) false;
  taken = λ j h. absurd (false≢true (sym (ap (λ m. is_marked m j) e ∙ unmarked (length ts) j) ∙ h));
  only = λ t h. absurd (let k = subst (λ l. h.0 < length l) f h.1 in omega (arith));
}

pub all_taken : (ts : List Test) (marks : List Bool) (order : List Test) (n : ℕ) → length ts ≤ n → IsTaken ts marks order → ((j : ℕ) → j < n → is_marked marks j ≡ true) → (t : Test) → Contains order t ↔ Contains ts t
all_taken ts marks order n h so all t = (so.only t, λ c. subst (Contains order) (get_or_default ts c.0 no_node.test t c.1 ∙ c.2) (so.taken c.0 (all c.0 (let x = c.1 in omega (arith)))))
