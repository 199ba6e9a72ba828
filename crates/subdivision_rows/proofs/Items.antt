-- Items of lists by their numbers.
use Rattle.std.proofs.Common.{◌≡◌, ℕ, ◌+◌, ◌<◌, ◌≤◌, arith, sym, ap, ◌∙◌, List, [], ◌∷◌, ◌++◌, map, length, take, Some, get_or, Bool, true, false, cond}
use Rattle.std.specs.Prelude.{slice_get, vec_len, Vec}
use Rattle.std.specs.List.{filter}
use Rattle.std.specs.Option.{option_map}
use Rattle.plane_graphs.proofs.Loops.{take_next}
use Rattle.std.proofs.lemmas.List.{append-nil, map-append, take_all}
use Rattle.std.proofs.lemmas.List.Elements.{filter-append}
use Rattle.std.proofs.lemmas.Option.{slice_get-map, slice_get_within, get_or_from_slice_get, slice_get-get_or}
pub use Rattle.dart_orbits.specs.Ways.{no_row}

-- the list of the values of the elements of another
module _ {X Y : Type 0} (f : X → Y) (xs : List X) (items : List Y) (are : items ≡ map f xs) (k : ℕ) (x : X) (at : slice_get xs k ≡ Some x) where
  pub there : slice_get items k ≡ Some (f x)
  there = ap (λ (ys : List Y). slice_get ys k) are ∙ slice_get-map f xs k ∙ ap (option_map f) at

  pub within : k < length items
  within = slice_get_within items k (f x) there

  pub item_is : (y d : Y) → y ≡ get_or items k d → y ≡ f x
  item_is y d e = e ∙ get_or_from_slice_get items k (f x) d there

-- what a list has at a number below its length
pub read : {X : Type 0} (xs : List X) (k : ℕ) (x : X) → k < length xs → x ≡ get_or xs k x → slice_get xs k ≡ Some x
read xs k x h e = slice_get-get_or xs k x h ∙ ap Some (sym e)

-- a number below the length of a list is one of the Vec's places
pub place : {X A : Type 0} (v : Vec X A) (k : ℕ) → k < length v.items → k < vec_len v
place v k h = let n = v.ok.0 in omega arith

-- what a loop has made of the elements that pass a test
module _ {X Y : Type 0} (p : X → Bool) (f : X → Y) where
  passing : (xs : List X) (i : ℕ) (x : X) → i < length xs → x ≡ get_or xs i x → map f (filter p (take (i + 1) xs)) ≡ map f (filter p (take i xs)) ++ map f (cond (p x) (x ∷ []) [])
  passing xs i x h e = ap (λ ys. map f (filter p ys)) (take_next xs i x h e) ∙ ap (map f) (filter-append p (take i xs) (x ∷ [])) ∙ map-append f (filter p (take i xs)) (filter p (x ∷ []))

  pub kept : (xs : List X) (i : ℕ) (x : X) (old now : List Y) → i < length xs → x ≡ get_or xs i x → p x ≡ true → old ≡ map f (filter p (take i xs)) → now ≡ old ++ f x ∷ [] → now ≡ map f (filter p (take (i + 1) xs))
  kept xs i x old now h e t o n = n ∙ ap (λ ys. ys ++ f x ∷ []) o ∙ sym (passing xs i x h e ∙ ap (λ b. map f (filter p (take i xs)) ++ map f (cond b (x ∷ []) [])) t)

  pub passed : (xs : List X) (i : ℕ) (x : X) (old now : List Y) → i < length xs → x ≡ get_or xs i x → p x ≡ false → old ≡ map f (filter p (take i xs)) → now ≡ old → now ≡ map f (filter p (take (i + 1) xs))
  passed xs i x old now h e t o n =
      n ∙ o ∙ sym (passing xs i x h e ∙ ap (λ b. map f (filter p (take i xs)) ++ map f (cond b (x ∷ []) [])) t ∙ append-nil (map f (filter p (take i xs))))

  pub all_passing : (xs : List X) (i : ℕ) (now : List Y) → length xs ≤ i → now ≡ map f (filter p (take i xs)) → now ≡ map f (filter p xs)
  all_passing xs i now h n = n ∙ ap (λ ys. map f (filter p ys)) (take_all i xs h)
