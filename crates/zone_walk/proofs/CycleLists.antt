-- The cycles in the list of a face have records.
use Rattle.std.proofs.Common.{◌≡◌, Bool, true, false, cond, Option, Some, List, [], ◌∷◌, sym, subst, inl, inr}
use Rattle.std.specs.Prelude.{◌==◌, IfSome}
use Rattle.plane_graphs.specs.Ascending.{Member}
use Rattle.slab_laws.specs.FaceLists.{Lists, AreLists, first_of, follower, cycle_follower}
use Rattle.slab_laws.specs.View.{View, Faces, HasCycle, face_in}
use Rattle.slab_laws.specs.declared.names.CycleId.{CycleId}
use Rattle.slab_laws.specs.declared.names.FaceId.{FaceId}

module _ {X : Type 0} (P : X → Type 0) where
  -- what holds of all in a list holds of the first, and of the one after another
  pub first_has : (xs : List X) → ((x : X) → Member x xs → P x) → IfSome (first_of xs) P
  first_has [] f = tt
  first_has (x ∷ xs) f = f x (inl (λ i. x))

  follower_by : (b : Bool) (xs : List X) (o : Option X) → ((x : X) → Member x xs → P x) → IfSome o P → IfSome (cond b (first_of xs) o) P
  follower_by true xs o f h = first_has xs f
  follower_by false xs o f h = h

  pub follower_has : (p : X → Bool) (xs : List X) → ((x : X) → Member x xs → P x) → IfSome (follower p xs) P
  unfolding follower
  follower_has p [] f = tt
  follower_has p (x ∷ xs) f = follower_by (p x) xs (follower p xs) (λ y m. f y (inr m)) (follower_has p xs (λ y m. f y (inr m)))

module _ (v : View) (f : Faces) (l : Lists) (ls : AreLists v f l) where
  listed : (a : FaceId) (c : CycleId) → Member c (l.cycles a) → HasCycle f c
  listed a c m = ((ls.listed.cycles a c).0 m).0

  pub first_listed : (a : FaceId) (at : Option CycleId) → at ≡ first_of (l.cycles a) → IfSome at (HasCycle f)
  first_listed a at e = subst (λ (o : Option CycleId). IfSome o (HasCycle f)) (sym e) (first_has (HasCycle f) (l.cycles a) (listed a))

  pub next_listed : (c : CycleId) (at : Option CycleId) → at ≡ cycle_follower c (l.cycles (face_in f c)) → IfSome at (HasCycle f)
  next_listed c at e = subst (λ (o : Option CycleId). IfSome o (HasCycle f)) (sym e) (follower_has (HasCycle f) (λ x. x.0 == c.0) (l.cycles (face_in f c)) (listed (face_in f c)))

pub some_is : {X : Type 0} (P : X → Type 0) (o : Option X) (x : X) → o ≡ Some x → IfSome o P → P x
some_is P o x e h = subst (λ (z : Option _). IfSome z P) e h
