-- Two lists whose elements stand one to one are equally long.
use Rattle.std.proofs.Common.{◌≡◌, ◌≤◌, ◌<◌, ◌∙◌, suc, arith, refl, sym, subst, inl, inr, List, [], ◌∷◌, length, ℕ, Ordering, Less}
use Rattle.std.specs.Cmp.{IsTotalOrder}
use Rattle.std.proofs.lemmas.Cmp.{tied_itself}
use Rattle.plane_graphs.specs.Ascending.{Member, IsAscending}
use Rattle.plane_graphs.proofs.Ascending.{All-member}
use Rattle.slab_laws.specs.Tables.{NamesAscend}
use Rattle.sound_views.proofs.FacesAscend.{AreDifferent}
use Rattle.sound_views.proofs.ListedPlaces.{Rising, from_in}

-- ---- elements that differ
pub ascending_differ : {X : Type 0} (cmp : X → X → Ordering) → IsTotalOrder cmp → (xs : List X) → IsAscending cmp xs → AreDifferent xs
ascending_differ cmp o [] a = tt
ascending_differ cmp o (x ∷ xs) a = (λ m. let l : cmp x x ≡ Less = All-member (λ y. cmp x y ≡ Less) x xs a.0 m in let t = tied_itself o x in cc, ascending_differ cmp o xs a.1)

pub names_differ : (ns : List ℕ) → NamesAscend ns → AreDifferent ns
names_differ [] a = tt
names_differ (n ∷ ns) a = (λ m. let l = All-member (λ k. n < k) n ns a.0 m in absurd (omega arith), names_differ ns a.1)

pub apart_differ : {X : Type 0} (xs : List X) → Rising (λ x y. x ≡ y → ⊥) xs → AreDifferent xs
apart_differ [] a = tt
apart_differ (x ∷ xs) a = (λ m. a.0 x (from_in xs x m) refl, apart_differ xs a.1)

-- ---- a list without one of its elements
module _ {X : Type 0} (x : X) where
  abbrev without : (xs : List X) → Member x xs → List X
  without [] m = []
  without (y ∷ ys) (inl e) = ys
  without (y ∷ ys) (inr m) = y ∷ without ys m

  one_fewer : (xs : List X) (m : Member x xs) → suc (length (without xs m)) ≡ length xs
  one_fewer [] m = absurd m
  one_fewer (y ∷ ys) (inl e) = refl
  one_fewer (y ∷ ys) (inr m) = let h = one_fewer ys m in omega arith

  still_there : (z : X) (xs : List X) (m : Member x xs) → Member z xs → (z ≡ x → ⊥) → Member z (without xs m)
  still_there z [] m n d = absurd m
  still_there z (y ∷ ys) (inl e) (inl f) d = absurd (d (f ∙ sym e))
  still_there z (y ∷ ys) (inl e) (inr n) d = n
  still_there z (y ∷ ys) (inr m) (inl f) d = inl f
  still_there z (y ∷ ys) (inr m) (inr n) d = inr (still_there z ys m n d)

-- each element has a partner, and no two have one
pub record IsPaired {X Y : Type 0} (R : X → Y → Type 0) (xs : List X) (ys : List Y) : Type 0 where
  pub differ : AreDifferent xs
  pub partner : (x : X) → Member x xs → (y : Y) × Member y ys × R x y
  pub one : (x z : X) (y : Y) → R x y → R z y → x ≡ z

module _ {X Y : Type 0} (R : X → Y → Type 0) where
  no_more : (xs : List X) (ys : List Y) → IsPaired R xs ys → length xs ≤ length ys
  no_more [] ys p = omega arith
  no_more (x ∷ xs) ys p =
      let w = p.partner x (inl refl) in
      let rest = no_more xs (without w.0 ys w.1) (record {
        differ = p.differ.1;
        partner = λ z m. let u = p.partner z (inr m) in (u.0, still_there w.0 u.0 ys w.1 u.1 (λ e. p.differ.0 (subst (λ q. Member q xs) (p.one z x w.0 (subst (R z) e u.2) w.2) m)), u.2);
        one = p.one;
      }) in
      let fewer = one_fewer w.0 ys w.1 in
      omega arith

pub as_many : {X Y : Type 0} (R : X → Y → Type 0) (xs : List X) (ys : List Y) → IsPaired R xs ys → IsPaired (λ y x. R x y) ys xs → length xs ≡ length ys
as_many R xs ys p q = let a = no_more R xs ys p in let b = no_more (λ y x. R x y) ys xs q in omega arith
