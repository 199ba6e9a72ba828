-- What passes a test, of a list in which each element stands once.
use Rattle.std.proofs.Common.{Bool, true, false, cond, List, [], ◌∷◌, filter}
use Rattle.plane_graphs.proofs.Lists.{of_filter}
use Rattle.slab_laws.specs.FaceLists.{AreOnce}

-- what passes stands once, where all did
pub filtered_once : {X : Type 0} (p : X → Bool) (xs : List X) → AreOnce xs → AreOnce (filter p xs)
filtered_once p [] o = tt
filtered_once {X} p (x ∷ xs) o = go (p x) (filtered_once p xs o.1)
  where
    go : (b : Bool) → AreOnce (filter p xs) → AreOnce (cond b (x ∷ filter p xs) (filter p xs))
    go true k = (λ m. o.0 ((of_filter p x xs m).0), k)
    go false k = k
