-- The classes that pairs of elements generate: the finest parting in which the two elements of each pair are in one class.
--     Label      an element, and the least element of its class
--     classes links      the labels of the elements of the links; whatever has no label is alone
--     class_of ls x      the least element of x's class
use Rattle.std.specs.Prelude.{List, [], ◌∷◌, map, Bool, cond}
pub use Rattle.slab_laws.specs.declared.classes.Label.{Label}
pub use Rattle.slab_laws.specs.declared.classes.Link.{Link}

-- the least element of the class of x (this project)
unfoldable pub class_of : {X : Type 0} → (X → X → Bool) → List (Label X) → X → X
class_of same [] x = x
class_of same (l ∷ ls) x = cond (same l.item x) l.least (class_of same ls x)

module _ {X : Type 0} (same below : X → X → Bool) where
  -- x, where the classes with the least elements a and b become one
  unfoldable pub merged : X → X → X → X
  merged a b x = cond (below a b) (cond (same x b) a x) (cond (same x a) b x)

  -- the labels, where the classes of a and b become one (this project)
  unfoldable pub joined : List (Label X) → X → X → List (Label X)
  joined ls a b = map (λ l. record { item = l.item; least = merged a b l.least }) ls

  -- the link's elements with their labels, before all others
  unfoldable pub with_link : List (Label X) → Link X → List (Label X)
  with_link ls m = record { item = m.one; least = class_of same ls m.one } ∷ record { item = m.other; least = class_of same ls m.other } ∷ ls

  -- the labels of the classes that the links make (this project)
  unfoldable pub classes : List (Link X) → List (Label X)
  classes [] = []
  classes (m ∷ ms) = let ls : List (Label X) = classes ms in joined (with_link ls m) (class_of same ls m.one) (class_of same ls m.other)
