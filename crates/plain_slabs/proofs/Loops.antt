-- The steps of the loops that gather lists.
use Rattle.std.proofs.Common.{◌≡◌, ℕ, ◌+◌, ◌<◌, ◌≤◌, Bool, true, false, cond, refl, sym, ap, ◌∙◌, List, [], ◌∷◌, ◌++◌, length, take, slice_index_or}
use Rattle.std.specs.Prelude.{filter, flat_map}
use Rattle.std.proofs.lemmas.List.{append-nil, append_assoc, take_all}
use Rattle.std.proofs.lemmas.List.Elements.{filter_more}
use Rattle.std.proofs.lemmas.List.Concat.{flat_map-append}

-- ---- what a loop has gathered after so many steps
module _ {X Y : Type 0} (p : X → Bool) (f : X → List Y) where
  abbrev pub gathered : List X → List Y
  gathered xs = flat_map f (filter p xs)

  one : (b : Bool) (x : X) → flat_map f (cond b (x ∷ []) []) ≡ cond b (f x) []
  one true x = append-nil (f x)
  one false x = refl

  next : (xs : List X) (i : ℕ) (x : X) (b : Bool) → i < length xs → x ≡ slice_index_or xs i x → p x ≡ b → gathered (take (i + 1) xs) ≡ gathered (take i xs) ++ cond b (f x) []
  next xs i x b h e q =
      ap (flat_map f) (filter_more p xs i x h ∙ (λ k. filter p (take i xs) ++ cond ((ap p (sym e) ∙ q) k) (sym e k ∷ []) []))
      ∙ flat_map-append f (filter p (take i xs)) (cond b (x ∷ []) [])
      ∙ ap (λ ys. gathered (take i xs) ++ ys) (one b x)

  step : (xs : List X) (i : ℕ) (x : X) (base now more : List Y) (b : Bool) → i < length xs → x ≡ slice_index_or xs i x → p x ≡ b → now ≡ base ++ gathered (take i xs) → more ≡ now ++ cond b (f x) [] → more ≡ base ++ gathered (take (i + 1) xs)
  step xs i x base now more b h e q n m =
      m ∙ ap (λ zs. zs ++ cond b (f x) []) n ∙ append_assoc base (gathered (take i xs)) (cond b (f x) []) ∙ ap (λ zs. base ++ zs) (sym (next xs i x b h e q))

  pub taken : (xs : List X) (i : ℕ) (x : X) (base now more : List Y) → i < length xs → x ≡ slice_index_or xs i x → p x ≡ true → now ≡ base ++ gathered (take i xs) → more ≡ now ++ f x → more ≡ base ++ gathered (take (i + 1) xs)
  taken xs i x base now more h e q n m = step xs i x base now more true h e q n m

  pub passed : (xs : List X) (i : ℕ) (x : X) (base now : List Y) → i < length xs → x ≡ slice_index_or xs i x → p x ≡ false → now ≡ base ++ gathered (take i xs) → now ≡ base ++ gathered (take (i + 1) xs)
  passed xs i x base now h e q n = step xs i x base now now false h e q n (sym (append-nil now))

  pub done : (xs : List X) (i : ℕ) (base now : List Y) → length xs ≤ i → now ≡ base ++ gathered (take i xs) → now ≡ base ++ gathered xs
  done xs i base now h n = n ∙ ap (λ zs. base ++ gathered zs) (take_all i xs h)
