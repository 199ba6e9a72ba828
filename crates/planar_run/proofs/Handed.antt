-- Replies that are gathered and then handed over.
use Rattle.std.proofs.Common.{◌≡◌, ℕ, List, [], ◌++◌, Option, Some, None, refl, sym, ap, subst, ◌∙◌, append_assoc}
use Rattle.std.proofs.lemmas.List.{append-nil}
use Rattle.outside.specs.Bytes.{Gains, GainsPrefix}
use Rattle.outside.proofs.Gains.{Gains-more}
use Rattle.planar_run.specs.Gathered.{with_gathered, Passes, Grows, IsFront}

pub Gains-none : (old : Option (List ℕ)) → Gains old old []
Gains-none None = refl
Gains-none (Some xs) = sym (append-nil xs)

-- ---- what was gathered

-- there was room for the reply
pub Passes-kept : (old : Option (List ℕ)) (gathered gathered' reply : List ℕ) → gathered' ≡ gathered ++ reply → Passes old old gathered gathered' reply
Passes-kept old gathered gathered' reply e = ([], sym e, Gains-none old)

-- it was handed over after them
pub Passes-both : (old mid new : Option (List ℕ)) (gathered gathered' reply : List ℕ) → Gains old mid gathered → gathered' ≡ [] → Gains mid new reply → Passes old new gathered gathered' reply
Passes-both old mid new gathered gathered' reply g none h =
    (gathered ++ reply, sym (ap (λ (xs : List ℕ). (gathered ++ reply) ++ xs) none ∙ append-nil (gathered ++ reply)), Gains-more old mid new gathered reply g h)

-- they were taken, and it was in part
pub GainsPrefix-after : (old mid new : Option (List ℕ)) (gathered reply : List ℕ) → Gains old mid gathered → GainsPrefix mid new reply → GainsPrefix old new (gathered ++ reply)
GainsPrefix-after old mid new gathered reply g h =
    (gathered ++ h.0, h.1, ap (λ (xs : List ℕ). gathered ++ xs) h.2 ∙ sym (append_assoc gathered h.0 h.1), Gains-more old mid new gathered h.0 g h.3)

-- ---- what a sink will have taken with it

-- a reply is gained, whether it is handed over or gathered
pub Gains-passed : (old new : Option (List ℕ)) (gathered gathered' reply : List ℕ) → Passes old new gathered gathered' reply → Gains (with_gathered old gathered) (with_gathered new gathered') reply
Gains-passed None None gathered gathered' reply p = refl
Gains-passed None (Some new) gathered gathered' reply p = absurd cc
Gains-passed (Some old) None gathered gathered' reply p = absurd p.2
Gains-passed (Some old) (Some new) gathered gathered' reply p =
    ap (λ (xs : List ℕ). xs ++ gathered') p.2 ∙ append_assoc old p.0 gathered' ∙ ap (λ (xs : List ℕ). old ++ xs) (sym p.1) ∙ sym (append_assoc old gathered reply)

pub Gains-gathered : (old : Option (List ℕ)) (gathered : List ℕ) → Gains old (with_gathered old gathered) gathered
Gains-gathered None gathered = refl
Gains-gathered (Some old) gathered = refl

-- ---- fronts

-- what was gathered was taken in part
pub IsFront-gathered : (old new : Option (List ℕ)) (gathered : List ℕ) → GainsPrefix old new gathered → IsFront old new (with_gathered old gathered)
IsFront-gathered old new gathered g = (g.0, g.1, g.3, subst (Gains old (with_gathered old gathered)) g.2 (Gains-gathered old gathered))

-- some bytes were taken before
pub IsFront-after : (first old new whole : Option (List ℕ)) → Grows first old → IsFront old new whole → IsFront first new whole
IsFront-after first old new whole g f =
    (g.0 ++ f.0, f.1, Gains-more first old new g.0 f.0 g.1 f.2, subst (Gains first whole) (sym (append_assoc g.0 f.0 f.1)) (Gains-more first old whole g.0 (f.0 ++ f.1) g.1 f.3))

pub Grows-more : (first old new : Option (List ℕ)) → Grows first old → Grows old new → Grows first new
Grows-more first old new g h = (g.0 ++ h.0, Gains-more first old new g.0 h.0 g.1 h.1)
