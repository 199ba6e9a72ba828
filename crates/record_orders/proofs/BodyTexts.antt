-- Texts in a table, when one of them is written.
use Rattle.std.proofs.Common.{◌≡◌, ℕ, ◌<◌, List, [], ◌++◌, map, length, get_or, set, sym, ap, ◌∙◌}
use Rattle.std.proofs.Math.Seq.{map-set_same}
use Rattle.std.proofs.lemmas.List.{map-set, get_or-map}

module _ {V : Type 0} (items : V → List ℕ) (ts : List V) (now : List (List ℕ)) (view : map items ts ≡ now) (k : ℕ) (t new : V) (reads : t ≡ get_or ts k t) where
  pub kept : items new ≡ items t → map items (set ts k new) ≡ now
  kept e = map-set_same items ts k new t (e ∙ ap items reads) ∙ view

  pub appended : (bytes : List ℕ) → k < length ts → items new ≡ items t ++ bytes → map items (set ts k new) ≡ set now k (get_or now k [] ++ bytes)
  appended bytes below e =
      map-set items ts k new
      ∙ ap (set (map items ts) k) (e ∙ ap (λ x. x ++ bytes) (ap items reads ∙ sym (get_or-map items ts k t [] below)))
      ∙ ap (λ ns. set ns k (get_or ns k [] ++ bytes)) view
