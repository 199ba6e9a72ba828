-- Lists in which each element stands once.
use Rattle.std.proofs.Common.{◌≡◌, ℕ, ◌<◌, Bool, true, false, cond, List, [], ◌∷◌, map, filter, sym, ap, subst, arith}
use Rattle.plane_graphs.specs.Ascending.{Member}
use Rattle.plane_graphs.proofs.Ascending.{All-member}
use Rattle.plane_graphs.proofs.Lists.{in_map, of_filter, of_map}
use Rattle.slab_laws.specs.FaceLists.{AreOnce}
use Rattle.slab_laws.specs.Tables.{NamesAscend}

-- of those that pass a test what is told stands once, where it does of all
pub once_kept : {X Y : Type 0} (g : X → Y) (p : X → Bool) (xs : List X) → AreOnce (map g xs) → AreOnce (map g (filter p xs))
once_kept g p [] o = tt
once_kept {X} {Y} g p (x ∷ xs) o = go (p x) (once_kept g p xs o.1)
  where
    go : (b : Bool) → AreOnce (map g (filter p xs)) → AreOnce (map g (cond b (x ∷ filter p xs) (filter p xs)))
    go true k = (
      λ m. (let w = of_map g (g x) (filter p xs) m in o.0 (subst (λ (y : Y). Member y (map g xs)) (sym w.2) (in_map g w.0 xs ((of_filter p w.0 xs w.1).0)))),
      k,
    )
    go false k = k

-- names that ascend, as what they name
pub names_once : {A : Type 0} (make : ℕ → A) (number : A → ℕ) → ((n : ℕ) → number (make n) ≡ n) → (ns : List ℕ) → NamesAscend ns → AreOnce (map make ns)
names_once make number back [] a = tt
names_once make number back (n ∷ ns) a = (
  λ m. (
      let w = of_map make (make n) ns m in
      let l : n < w.0 = All-member (λ k. n < k) w.0 ns a.0 w.1 in
      let e = ap number w.2 in
      let b = back n in
      let c = back w.0 in
      absurd (omega arith)
      ),
  names_once make number back ns a.1,
)
