-- Lines of a made script, answered one after the other.
use Rattle.std.proofs.Common.{◌≡◌, ℕ, List, [], ◌∷◌, refl, sym, subst, inl, inr}
use Rattle.planar_run.specs.Answer.{Replies}
use Rattle.planar_run.specs.Made.{no_memory_reply, EndWith, RunOutOfMemory, IsLastReply}
use Rattle.planar_run.specs.World.{World}

-- these lines are left of all, after this reply
module _ (first now : World) (all rest : List (List ℕ)) (before : List ℕ) where
  -- none is
  pub all_ended : ((out : List ℕ) → EndWith now before rest out → EndWith first [] all out) → rest ≡ [] → IsLastReply first all before
  all_ended ends e = inl (ends before (subst (λ (ls : List (List ℕ)). EndWith now before ls before) (sym e) refl))

  module _ (line text : List ℕ) (more : List (List ℕ)) (next : World) (e : rest ≡ line ∷ more) (said : Replies now line text next) where
    -- the next one finds no memory
    pub none_found : (RunOutOfMemory now rest → RunOutOfMemory first all) → text ≡ no_memory_reply → IsLastReply first all text
    none_found finds none = inr (finds (subst (RunOutOfMemory now) (sym e) (text, next, said, inl none)), none)

    -- it is answered
    module _ (some : text ≡ no_memory_reply → ⊥) where
      pub then_ends : ((out : List ℕ) → EndWith now before rest out → EndWith first [] all out) → (out : List ℕ) → EndWith next text more out → EndWith first [] all out
      then_ends ends out h = ends out (subst (λ (ls : List (List ℕ)). EndWith now before ls out) (sym e) (text, next, said, some, h))

      pub then_finds : (RunOutOfMemory now rest → RunOutOfMemory first all) → RunOutOfMemory next more → RunOutOfMemory first all
      then_finds finds h = finds (subst (RunOutOfMemory now) (sym e) (text, next, said, inr (some, h)))
