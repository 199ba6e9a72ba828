-- What the labels of classes say. `same` is to tell elements apart exactly.
--     along_link      the two elements of a link have one label
--     connected      a relation that is an equivalence and holds of each link holds of an element and its label
--     not_above      no element is below its label
use Rattle.std.proofs.Common.{◌≡◌, Bool, true, false, cond, List, [], ◌∷◌, refl, sym, ap, ◌∙◌, subst, ap₂, inl, inr}
use Rattle.std.specs.List.{AllByRecursion}
use Rattle.std.proofs.lemmas.Bool.{false≢true}
use Rattle.slab_laws.specs.declared.classes.Label.{Label}
use Rattle.slab_laws.specs.declared.classes.Link.{Link}
use Rattle.slab_laws.specs.Classes.{class_of, merged, joined, with_link, classes}
use Rattle.slab_faces.proofs.Member.{Member}

pub record IsExact {X : Type 0} (same : X → X → Bool) : Type 0 where
  pub itself : (x : X) → same x x ≡ true
  pub path : (x y : X) → same x y ≡ true → x ≡ y

cond_same : {X : Type 0} (t : Bool) (x : X) → cond t x x ≡ x
cond_same true x = refl
cond_same false x = refl

-- ---- one label along each link
module _ {X : Type 0} (same below : X → X → Bool) (o : IsExact same) where
  -- the element has a label
  unfoldable pub has : List (Label X) → X → Bool
  has [] x = false
  has (l ∷ ls) x = cond (same l.item x) true (has ls x)

  case : (t u : Bool) (a b f x y : X) → (u ≡ true → x ≡ merged same below a b y) → cond t true u ≡ true → cond t (merged same below a b f) x ≡ merged same below a b (cond t f y)
  case true u a b f x y p e = refl
  case false u a b f x y p e = p e

  class_of-joined : (ls : List (Label X)) (a b x : X) → has ls x ≡ true → class_of same (joined same below ls a b) x ≡ merged same below a b (class_of same ls x)
  unfolding class_of joined has
  class_of-joined [] a b x h = absurd (false≢true h)
  class_of-joined (l ∷ ls) a b x h = case (same l.item x) (has ls x) a b l.least _ _ (class_of-joined ls a b x) h

  merged_both : (a b : X) → merged same below a b a ≡ merged same below a b b
  unfolding merged
  merged_both a b =
      ap₂ (cond (below a b)) (cond_same (same a b) a ∙ sym (ap (λ (t : Bool). cond t a b) (o.itself b))) (ap (λ (t : Bool). cond t b a) (o.itself a) ∙ sym (cond_same (same b a) b))

  has-joined : (ls : List (Label X)) (a b x : X) → has (joined same below ls a b) x ≡ has ls x
  unfolding has joined
  has-joined [] a b x = refl
  has-joined (l ∷ ls) a b x = ap (cond (same l.item x) true) (has-joined ls a b x)

  -- the link's own labels say nothing new
  told : (ls : List (Label X)) (m x : X) (r : X) (t : Bool) → same m x ≡ t → r ≡ class_of same ls x → cond t (class_of same ls m) r ≡ class_of same ls x
  told ls m x r true s e = ap (class_of same ls) (o.path m x s)
  told ls m x r false s e = e

  class_of-with : (ls : List (Label X)) (m : Link X) (x : X) → class_of same (with_link same below ls m) x ≡ class_of same ls x
  unfolding class_of with_link
  class_of-with ls m x = told ls m.one x _ (same m.one x) refl (told ls m.other x _ (same m.other x) refl refl)

  later : (t u : Bool) → u ≡ true → cond t true u ≡ true
  later true u e = refl
  later false u e = e

  has_one : (ls : List (Label X)) (m : Link X) → has (with_link same below ls m) m.one ≡ true
  unfolding has with_link
  has_one ls m = ap (λ t. cond t true (cond (same m.other m.one) true (has ls m.one))) (o.itself m.one)

  has_other : (ls : List (Label X)) (m : Link X) → has (with_link same below ls m) m.other ≡ true
  unfolding has with_link
  has_other ls m = later (same m.one m.other) _ (ap (λ t. cond t true (has ls m.other)) (o.itself m.other))

  has_with : (ls : List (Label X)) (m : Link X) (x : X) → has ls x ≡ true → has (with_link same below ls m) x ≡ true
  unfolding has with_link
  has_with ls m x h = later (same m.one x) _ (later (same m.other x) _ h)

  abbrev pub IsListed : List (Label X) → Link X → Type 0
  IsListed ls m = (has ls m.one ≡ true) × (has ls m.other ≡ true)

  listed : (ms : List (Link X)) (m : Link X) → Member ms m → IsListed (classes same below ms) m
  unfolding classes
  listed [] m h = absurd h
  listed (k ∷ ms) m (inl e) =
      let ls : List (Label X) = classes same below ms in
      subst (λ l. IsListed (classes same below (k ∷ ms)) l) e (has-joined (with_link same below ls k) _ _ k.one ∙ has_one ls k, has-joined (with_link same below ls k) _ _ k.other ∙ has_other ls k)
  listed (k ∷ ms) m (inr h) =
      let ls : List (Label X) = classes same below ms in
      let ih = listed ms m h in
      (has-joined (with_link same below ls k) _ _ m.one ∙ has_with ls k m.one ih.0, has-joined (with_link same below ls k) _ _ m.other ∙ has_with ls k m.other ih.1)

  -- a label after one link more
  one_more : (k : Link X) (ms : List (Link X)) (x : X) → has (with_link same below (classes same below ms) k) x ≡ true → class_of same (classes same below (k ∷ ms)) x ≡ merged same below (class_of same (classes same below ms) k.one) (class_of same (classes same below ms) k.other) (class_of same (classes same below ms) x)
  unfolding classes
  one_more k ms x h =
      let ls : List (Label X) = classes same below ms in
      class_of-joined (with_link same below ls k) (class_of same ls k.one) (class_of same ls k.other) x h ∙ ap (merged same below (class_of same ls k.one) (class_of same ls k.other)) (class_of-with ls k x)

  pub along_link : (ms : List (Link X)) (m : Link X) → Member ms m → class_of same (classes same below ms) m.one ≡ class_of same (classes same below ms) m.other
  along_link [] m h = absurd h
  along_link (k ∷ ms) m (inl e) =
      let ls : List (Label X) = classes same below ms in
      subst (λ l. class_of same (classes same below (k ∷ ms)) l.one ≡ class_of same (classes same below (k ∷ ms)) l.other) e
      (one_more k ms k.one (has_one ls k) ∙ merged_both _ _ ∙ sym (one_more k ms k.other (has_other ls k)))
  along_link (k ∷ ms) m (inr h) =
      let ls : List (Label X) = classes same below ms in
      let i = listed ms m h in
      one_more k ms m.one (has_with ls k m.one i.0) ∙ ap (merged same below _ _) (along_link ms m h) ∙ sym (one_more k ms m.other (has_with ls k m.other i.1))

-- ---- nothing else is joined
pub record IsEquivalence {X : Type 0} (R : X → X → Type 0) : Type 0 where
  pub itself : (x : X) → R x x
  pub back : (x y : X) → R x y → R y x
  pub on : (x y z : X) → R x y → R y z → R x z

module _ {X : Type 0} (same below : X → X → Bool) (o : IsExact same) (R : X → X → Type 0) (q : IsEquivalence R) where
  abbrev Agrees : Label X → Type 0
  Agrees l = R l.item l.least

  choose : (P : X → Type 0) (t : Bool) (a b : X) → (t ≡ true → P a) → (t ≡ false → P b) → P (cond t a b)
  choose P true a b f g = f refl
  choose P false a b f g = g refl

  r_merged : (a b x : X) → R a b → R x (merged same below a b x)
  unfolding merged
  r_merged a b x e =
      choose (R x) (below a b) _ _
      (λ _. choose (R x) (same x b) a x (λ s. subst (λ y. R y a) (sym (o.path x b s)) (q.back a b e)) (λ _. q.itself x))
      (λ _. choose (R x) (same x a) b x (λ s. subst (λ y. R y b) (sym (o.path x a s)) e) (λ _. q.itself x))

  r_class_of : (ls : List (Label X)) → AllByRecursion Agrees ls → (x : X) → R x (class_of same ls x)
  unfolding class_of
  r_class_of [] h x = q.itself x
  r_class_of (l ∷ ls) h x = choose (R x) (same l.item x) _ _ (λ s. subst (λ y. R y l.least) (o.path l.item x s) h.0) (λ _. r_class_of ls h.1 x)

  r_joined : (ls : List (Label X)) (a b : X) → R a b → AllByRecursion Agrees ls → AllByRecursion Agrees (joined same below ls a b)
  unfolding joined
  r_joined [] a b e h = tt
  r_joined (l ∷ ls) a b e h = (q.on _ _ _ h.0 (r_merged a b l.least e), r_joined ls a b e h.1)

  r_classes : (ms : List (Link X)) → ((m : Link X) → Member ms m → R m.one m.other) → AllByRecursion Agrees (classes same below ms)
  unfolding classes with_link
  r_classes [] f = tt
  r_classes (m ∷ ms) f =
      let ls : List (Label X) = classes same below ms in
      let ih = r_classes ms (λ k h. f k (inr h)) in
      let a = r_class_of ls ih m.one in
      let b = r_class_of ls ih m.other in
      r_joined (with_link same below ls m) (class_of same ls m.one) (class_of same ls m.other)
      (q.on _ _ _ (q.back _ _ a) (q.on _ _ _ (f m (inl refl)) b)) (a, (b, ih))

  pub connected : (ms : List (Link X)) → ((m : Link X) → Member ms m → R m.one m.other) → (x : X) → R x (class_of same (classes same below ms) x)
  connected ms f x = r_class_of (classes same below ms) (r_classes ms f) x

-- ---- the least of a class: where `below` is an order, no element is below its label
pub record IsOrder {X : Type 0} (below : X → X → Bool) : Type 0 where
  pub itself : (x : X) → below x x ≡ false
  -- what is not below an element is not below what lies below it either
  pub down : (x y z : X) → below x y ≡ false → below y z ≡ false → below x z ≡ false
  pub asym : (x y : X) → below x y ≡ true → below y x ≡ false

module _ {X : Type 0} (same below : X → X → Bool) (o : IsExact same) (l : IsOrder below) where
  abbrev Low : Label X → Type 0
  Low k = below k.item k.least ≡ false

  cond_case : (x : X) (t : Bool) (a b : X) → (t ≡ true → below x a ≡ false) → (t ≡ false → below x b ≡ false) → below x (cond t a b) ≡ false
  cond_case x true a b p q = p refl
  cond_case x false a b p q = q refl

  low_merged : (a b x : X) → below x (merged same below a b x) ≡ false
  unfolding merged
  low_merged a b x =
      cond_case x (below a b) _ _
      (λ u. cond_case x (same x b) a x (λ s. subst (λ z. below z a ≡ false) (sym (o.path x b s)) (l.asym a b u)) (λ _. l.itself x))
      (λ u. cond_case x (same x a) b x (λ s. subst (λ z. below z b ≡ false) (sym (o.path x a s)) u) (λ _. l.itself x))

  low_class_of : (ls : List (Label X)) → AllByRecursion Low ls → (x : X) → below x (class_of same ls x) ≡ false
  unfolding class_of
  low_class_of [] h x = l.itself x
  low_class_of (k ∷ ks) h x = cond_case x (same k.item x) _ _ (λ s. subst (λ y. below y k.least ≡ false) (o.path k.item x s) h.0) (λ _. low_class_of ks h.1 x)

  low_joined : (ls : List (Label X)) (a b : X) → AllByRecursion Low ls → AllByRecursion Low (joined same below ls a b)
  unfolding joined
  low_joined [] a b h = tt
  low_joined (k ∷ ls) a b h = (l.down k.item k.least _ h.0 (low_merged a b k.least), low_joined ls a b h.1)

  low_classes : (ms : List (Link X)) → AllByRecursion Low (classes same below ms)
  unfolding classes with_link
  low_classes [] = tt
  low_classes (m ∷ ms) =
      let ih = low_classes ms in
      let ls : List (Label X) = classes same below ms in
      low_joined (with_link same below ls m) _ _ (low_class_of ls ih m.one, (low_class_of ls ih m.other, ih))

  pub not_above : (ms : List (Link X)) (x : X) → below x (class_of same (classes same below ms) x) ≡ false
  not_above ms x = low_class_of (classes same below ms) (low_classes ms) x
