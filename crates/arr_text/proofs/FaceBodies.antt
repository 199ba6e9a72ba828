-- Texts by rank, which grow one line at a time.
use Rattle.std.proofs.Common.{◌≡◌, ◌≢◌, ℕ, suc, ◌+◌, ◌<◌, Bool, true, false, cond, List, [], ◌∷◌, ◌++◌, map, length, get_or, set, drop, refl, sym, ap, ap₂, ◌∙◌, subst, append_assoc, arith, inl, inr, Result, Ok, Err}
use Rattle.std.specs.Prelude.{Some, slice_get, flat_map, filter, ◌&&◌, ◌==◌, OnOk}
use Rattle.std.proofs.Math.Seq.{drop-cons}
use Rattle.std.proofs.lemmas.Bool.{eqb-true, eq-eqb}
use Rattle.std.proofs.lemmas.List.{length-set, get_or-set_same, get_or-set_other, append-nil}
use Rattle.plane_graphs.specs.Ascending.{Member}
use Rattle.slab_laws.specs.Text.{numbered}

one_on : (i : ℕ) → suc i ≡ i + 1
one_on i = omega arith

-- what is appended to nothing
pub behind_nothing : {T E : Type 0} (r : Result T E) (x z c : List ℕ) → x ≡ [] → OnOk r (z ≡ x ++ c) → OnOk r (z ≡ c)
behind_nothing (Ok t) x z c e h = h ∙ ap (λ (s : List ℕ). s ++ c) e
behind_nothing (Err t) x z c e h = h

-- ---- what the text at each place gains
module _ {X : Type 0} (p : X → Bool) (rank : X → ℕ) (line : X → List ℕ) where
  -- the lines of those that pass and have the rank
  abbrev pub gain : ℕ → List X → List ℕ
  gain k xs = flat_map line (filter (λ x. p x && (rank x == k)) xs)

  -- the texts, with what the rest adds to them, are the old ones with what all add
  abbrev pub IsGaining : List (List ℕ) → List (List ℕ) → List X → List X → Type 0
  IsGaining old now all rest = (length now ≡ length old) × ((k : ℕ) → k < length old → get_or old k [] ++ gain k all ≡ get_or now k [] ++ gain k rest)

  not_passing : (k : ℕ) (x : X) (rest : List X) → p x ≡ false → gain k (x ∷ rest) ≡ gain k rest
  not_passing k x rest e = rw e refl

  passing : (k : ℕ) (x : X) (rest : List X) (b : Bool) → p x ≡ true → (rank x == k) ≡ b → gain k (x ∷ rest) ≡ cond b (line x) [] ++ gain k rest
  passing k x rest true e f = rw (e, f) refl
  passing k x rest false e f = rw (e, f) refl

  pub passed : (old now : List (List ℕ)) (all : List X) (i : ℕ) (d : X) → i < length all → p (get_or all i d) ≡ false → IsGaining old now all (drop i all) → IsGaining old now all (drop (i + 1) all)
  passed old now all i d l e h = (
    h.0,
    λ k m.
        h.1 k m
        ∙ ap (λ (xs : List X). get_or now k [] ++ gain k xs) (drop-cons all i d l)
        ∙ ap (λ (t : List ℕ). get_or now k [] ++ t) (not_passing k (get_or all i d) (drop (suc i) all) e)
        ∙ ap (λ (j : ℕ). get_or now k [] ++ gain k (drop j all)) (one_on i),
  )

  -- the text at the rank has the line at its end, the others are as they were
  written : (now : List (List ℕ)) (x : X) (k : ℕ) (b : Bool) → rank x < length now → (rank x == k) ≡ b → get_or (set now (rank x) (get_or now (rank x) [] ++ line x)) k [] ≡ get_or now k [] ++ cond b (line x) []
  written now x k true l e =
      let here : rank x ≡ k = eqb-true (rank x) k e in
      ap (λ (j : ℕ). get_or (set now (rank x) (get_or now (rank x) [] ++ line x)) j []) (sym here)
      ∙ get_or-set_same now (rank x) (get_or now (rank x) [] ++ line x) [] l
      ∙ ap (λ (j : ℕ). get_or now j [] ++ line x) here
  written now x k false l e =
      let other : k ≢ rank x = λ h. (let t : (rank x == k) ≡ true = eq-eqb (rank x) k (sym h) in cc) in
      get_or-set_other now (rank x) k (get_or now (rank x) [] ++ line x) [] other ∙ sym (append-nil (get_or now k []))

  pub gained : (old now next : List (List ℕ)) (all : List X) (i : ℕ) (d : X) (n : ℕ) (text : List ℕ) → i < length all → p (get_or all i d) ≡ true → n < length now → n ≡ rank (get_or all i d) → text ≡ line (get_or all i d) → next ≡ set now n (get_or now n [] ++ text)
      → IsGaining old now all (drop i all) → IsGaining old next all (drop (i + 1) all)
  gained old now next all i d n text l e r a b f h = (ap length f ∙ length-set now n (get_or now n [] ++ text) ∙ h.0, λ k m. at k m (rank (get_or all i d) == k) refl)
    where
      at : (k : ℕ) → k < length old → (c : Bool) → (rank (get_or all i d) == k) ≡ c → get_or old k [] ++ gain k all ≡ get_or next k [] ++ gain k (drop (i + 1) all)
      at k m c q =
          let x = get_or all i d in
          let r : rank x < length now = subst (λ (j : ℕ). j < length now) a r in
          h.1 k m
          ∙ ap (λ (xs : List X). get_or now k [] ++ gain k xs) (drop-cons all i d l)
          ∙ ap (λ (t : List ℕ). get_or now k [] ++ t) (passing k x (drop (suc i) all) c e q)
          ∙ sym (append_assoc (get_or now k []) (cond c (line x) []) (gain k (drop (suc i) all)))
          ∙ ap (λ (t : List ℕ). t ++ gain k (drop (suc i) all)) (sym (ap (λ (ts : List (List ℕ)). get_or ts k []) (f ∙ ap₂ (λ (j : ℕ) (t : List ℕ). set now j (get_or now j [] ++ t)) a b) ∙ written now x k c r q))
          ∙ ap (λ (j : ℕ). get_or next k [] ++ gain k (drop j all)) (one_on i)

-- ---- the same lines, of what is made of the elements
-- made, then filtered twice
pub filtered_twice : {X Y : Type 0} (h : X → Y) (line : Y → List ℕ) (p q : Y → Bool) (a b : X → Bool) (xs : List X) → ((x : X) → Member x xs → p (h x) ≡ a x) → ((x : X) → Member x xs → q (h x) ≡ b x)
    → flat_map line (filter p (filter q (map h xs))) ≡ flat_map (λ x. line (h x)) (filter (λ x. a x && b x) xs)
filtered_twice h line p q a b [] f e = refl
filtered_twice {X} {Y} h line p q a b (x ∷ xs) f e = step (a x) (b x) (f x (inl refl)) (e x (inl refl)) (filtered_twice h line p q a b xs (λ y m. f y (inr m)) (λ y m. e y (inr m)))
  where
    step : (c d : Bool) → p (h x) ≡ c → q (h x) ≡ d → flat_map line (filter p (filter q (map h xs))) ≡ flat_map (λ x. line (h x)) (filter (λ x. a x && b x) xs)
        → flat_map line (filter p (cond (q (h x)) (h x ∷ filter q (map h xs)) (filter q (map h xs)))) ≡ flat_map (λ x. line (h x)) (cond (c && d) (x ∷ filter (λ x. a x && b x) xs) (filter (λ x. a x && b x) xs))
    step true true i j r = rw (j, i) (ap (λ (t : List ℕ). line (h x) ++ t) r)
    step true false i j r = rw j r
    step false true i j r = rw (j, i) r
    step false false i j r = rw j r

-- taken, filtered, made, and filtered again
pub filtered_between : {X Z Y : Type 0} (take : X → Z) (make : Z → Y) (line : Y → List ℕ) (p : Z → Bool) (q : Y → Bool) (b : X → Bool) (xs : List X) → ((x : X) → Member x xs → p (take x) ≡ true → q (make (take x)) ≡ b x)
    → flat_map line (filter q (map make (filter p (map take xs)))) ≡ flat_map (λ x. line (make (take x))) (filter (λ x. p (take x) && b x) xs)
filtered_between take make line p q b [] e = refl
filtered_between {X} {Z} {Y} take make line p q b (x ∷ xs) e = step (p (take x)) (b x) (e x (inl refl)) (filtered_between take make line p q b xs (λ y m. e y (inr m)))
  where
    step : (c d : Bool) → (c ≡ true → q (make (take x)) ≡ d) → flat_map line (filter q (map make (filter p (map take xs)))) ≡ flat_map (λ x. line (make (take x))) (filter (λ x. p (take x) && b x) xs)
        → flat_map line (filter q (map make (cond c (take x ∷ filter p (map take xs)) (filter p (map take xs))))) ≡ flat_map (λ x. line (make (take x))) (cond (c && d) (x ∷ filter (λ x. p (take x) && b x) xs) (filter (λ x. p (take x) && b x) xs))
    step true true j r = rw (j refl) (ap (λ (t : List ℕ). line (make (take x)) ++ t) r)
    step true false j r = rw (j refl) r
    step false d j r = r

-- ---- one body for each face
-- the bodies by rank, each after its head
pub numbered_bodies : {F : Type 0} (head : ℕ → List ℕ) (lines : ℕ × F → List ℕ) (body : F → List ℕ) (i : ℕ) (fs : List F) → ((n k : ℕ) (f : F) → i + k ≡ n → slice_get fs k ≡ Some f → lines (n, f) ≡ head n ++ body f)
    → flat_map (λ b. head b.0 ++ b.1) (numbered i (map body fs)) ≡ flat_map lines (numbered i fs)
unfolding numbered
numbered_bodies head lines body i [] e = refl
numbered_bodies head lines body i (f ∷ fs) e =
    ap (λ (t : List ℕ). t ++ flat_map (λ b. head b.0 ++ b.1) (numbered (suc i) (map body fs))) (sym (e i 0 f (omega arith) refl))
    ∙ ap (λ (t : List ℕ). lines (i, f) ++ t) (numbered_bodies head lines body (suc i) fs (λ n k g s t. e n (suc k) g (omega arith) t))

-- the lines of the bodies that are still to come
pub next_body : (write : ℕ × List ℕ → List ℕ) (from out next : List ℕ) (bs : List (List ℕ)) (i : ℕ) → i < length bs → from ++ flat_map write (numbered 0 bs) ≡ out ++ flat_map write (numbered i (drop i bs)) → next ≡ out ++ write (i, get_or bs i [])
    → from ++ flat_map write (numbered 0 bs) ≡ next ++ flat_map write (numbered (i + 1) (drop (i + 1) bs))
unfolding numbered
next_body write from out next bs i l h e =
    h ∙ ap (λ (ts : List (List ℕ)). out ++ flat_map write (numbered i ts)) (drop-cons bs i [] l)
    ∙ sym (append_assoc out (write (i, get_or bs i [])) (flat_map write (numbered (suc i) (drop (suc i) bs))))
    ∙ ap (λ (t : List ℕ). t ++ flat_map write (numbered (suc i) (drop (suc i) bs))) (sym e)
    ∙ ap (λ (j : ℕ). next ++ flat_map write (numbered j (drop j bs))) (one_on i)

pub no_body : (write : ℕ × List ℕ → List ℕ) (from out : List ℕ) (bs : List (List ℕ)) (i : ℕ) → drop i bs ≡ [] → from ++ flat_map write (numbered 0 bs) ≡ out ++ flat_map write (numbered i (drop i bs)) → out ≡ from ++ flat_map write (numbered 0 bs)
unfolding numbered
no_body write from out bs i e h = sym (h ∙ ap (λ (ts : List (List ℕ)). out ++ flat_map write (numbered i ts)) e ∙ append-nil out)
