-- What is known by the status of what ended.
use Rattle.std.proofs.Common.{◌≡◌, ℕ, ◌+◌, ◌≤◌, List, Option, inl, inr, refl, sym, subst, ◌∙◌, arith}
use Rattle.std.specs.Prelude.{◌⊎◌}
use Rattle.planar_run.specs.declared.status.Status.{Status}
use Rattle.planar_run.specs.declared.status.Status.TheVariants.{Done, Usage, ReadFault, WriteFault, NoMemory, TooLong}
use Rattle.planar_run.specs.World.{World}
use Rattle.planar_run.specs.Clauses.{Causes, Ends}

-- how a run ended that has this status
pub ended : (first : World) (status : Status) (left left' taken taken' : Option (List ℕ)) → Ends first status left left' taken taken' → (s : Status) → status ≡ s → Ends first s left left' taken taken'
ended first status left left' taken taken' e s is = subst (λ s. Ends first s left left' taken taken') is e

-- ---- counts of faults
pub caused : (status : Status) (source source' sink sink' : ℕ) → Causes status source source' sink sink' → (s : Status) → status ≡ s → Causes s source source' sink sink'
caused status source source' sink sink' c s is = subst (λ s. Causes s source source' sink sink') is c

pub source_stays : (status : Status) (source source' sink sink' : ℕ) → Causes status source source' sink sink' → (status ≡ ReadFault → ⊥) → source' ≡ source
source_stays Done source source' sink sink' c n = c.0
source_stays Usage source source' sink sink' c n = c.0
source_stays ReadFault source source' sink sink' c n = absurd (n refl)
source_stays WriteFault source source' sink sink' c n = c.0
source_stays NoMemory source source' sink sink' c n = c.0
source_stays TooLong source source' sink sink' c n = c.0

pub sink_stays : (status : Status) (source source' sink sink' : ℕ) → Causes status source source' sink sink' → (status ≡ WriteFault → ⊥) → sink' ≡ sink
sink_stays Done source source' sink sink' c n = c.1
sink_stays Usage source source' sink sink' c n = c.1
sink_stays ReadFault source source' sink sink' c n = c.1
sink_stays WriteFault source source' sink sink' c n = absurd (n refl)
sink_stays NoMemory source source' sink sink' c n = c.1
sink_stays TooLong source source' sink sink' c n = c.1

-- ---- what ended without the source
abbrev IsMade : Status → Type 0
IsMade Done = Unit {0}
IsMade WriteFault = Unit {0}
IsMade NoMemory = Unit {0}
IsMade other = ⊥

pub made_of : (status s : Status) → (status ≡ Done) ⊎ ((status ≡ WriteFault) ⊎ (status ≡ NoMemory)) → status ≡ s → IsMade s
made_of status s (inl d) is = subst IsMade (sym d ∙ is) tt
made_of status s (inr (inl w)) is = subst IsMade (sym w ∙ is) tt
made_of status s (inr (inr n)) is = subst IsMade (sym n ∙ is) tt

-- ---- what ended with the usage line, or before it
abbrev IsRefused : Status → Type 0
IsRefused Usage = Unit {0}
IsRefused WriteFault = Unit {0}
IsRefused other = ⊥

pub refused_of : (status s : Status) → (status ≡ Usage) ⊎ (status ≡ WriteFault) → status ≡ s → IsRefused s
refused_of status s (inl u) is = subst IsRefused (sym u ∙ is) tt
refused_of status s (inr w) is = subst IsRefused (sym w ∙ is) tt

pub refused_only : (status : Status) → (status ≡ Usage) ⊎ (status ≡ WriteFault) → (status ≡ Usage) ⊎ ((status ≡ WriteFault) ⊎ (status ≡ NoMemory))
refused_only status (inl u) = inl u
refused_only status (inr w) = inr (inl w)

-- ---- what ended for want of memory
abbrev IsNoMemory : Status → Type 0
IsNoMemory NoMemory = Unit {0}
IsNoMemory other = ⊥

pub only_memory : (s : Status) → NoMemory ≡ s → IsNoMemory s
only_memory s is = subst IsNoMemory is tt

-- nothing was asked of it
pub no_calls : (calls more : ℕ) → calls ≤ calls + more
no_calls calls more = omega arith
