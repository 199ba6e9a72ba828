-- What was used and what was written, where the source and the sink tell their bytes.
use Rattle.std.proofs.Common.{◌≡◌, ℕ, suc, ◌+◌, ◌≤◌, List, [], ◌∷◌, ◌++◌, length, take, Option, Some, None, refl, sym, ap, subst, ◌∙◌, append_assoc, arith, inl, inr}
use Rattle.std.specs.Prelude.{◌⊎◌, ◌≢◌, IfSome, IsSomeAnd}
use Rattle.std.proofs.lemmas.List.{append_cancel_left, length-append}
use Rattle.std.proofs.lemmas.Bool.{cases_eq}
use Rattle.outside.specs.Bytes.{Loses, Gains, IsSpent}
use Rattle.outside.specs.Counts.{Rose}
use Rattle.planar_run.specs.declared.run.TheConstants.{SCRIPT_LIMIT}
use Rattle.planar_run.specs.declared.status.Status.{Status}
use Rattle.planar_run.specs.declared.status.Status.TheVariants.{Done, Usage, ReadFault, WriteFault, NoMemory, TooLong}
use Rattle.planar_run.specs.Lines.{lines, ended_lines}
use Rattle.planar_run.specs.World.{World}
use Rattle.planar_run.specs.Run.{IsRun, BeginsRun}
use Rattle.planar_run.specs.Gathered.{IsFront}
use Rattle.planar_run.specs.Engine.{Answers, Takes, Feeds, FeedsPart}
use Rattle.planar_run.specs.Clauses.{Used, UsedAndWritten, ReadToEnd, Ends, Causes, Finishes}
use Rattle.planar_run.proofs.Script.{Stands, read, Stands-first, Stands-end, Stands-byte, Stands-ended, Stands-done, Stands-last, Stands-part, Stands-front, lines-last}
use Rattle.planar_run.proofs.Takes.{take_full}

-- ---- what is told

lost : (rest bytes : List ℕ) (next : Option (List ℕ)) → Loses (Some rest) next bytes → (more : List ℕ) × (rest ≡ bytes ++ more) × (next ≡ Some more)
lost rest bytes None l = absurd l
lost rest bytes (Some more) l = (more, l, refl)

gained : (had text : List ℕ) (next : Option (List ℕ)) → Gains (Some had) next text → next ≡ Some (had ++ text)
gained had text None g = absurd g
gained had text (Some now) g = ap Some g

-- ---- the bytes that were used

pub Used-map : (P Q : List ℕ → Type 0) (left left' : Option (List ℕ)) → ((used : List ℕ) → P used → Q used) → Used left left' P → Used left left' Q
Used-map P Q None left' f u = tt
Used-map P Q (Some script) left' f u = (u.0, u.1, u.2, u.3, f u.0 u.4)

pub Used-none : (left : Option (List ℕ)) → Used left left (λ used. length used ≡ 0)
Used-none None = tt
Used-none (Some script) = ([], script, refl, refl, refl)

pub nothing_used : (left : Option (List ℕ)) → Used left left (λ used. length used ≤ SCRIPT_LIMIT)
nothing_used left = Used-map (λ used. length used ≡ 0) (λ used. length used ≤ SCRIPT_LIMIT) left left (λ used e. omega (arith, e)) (Used-none left)

pub Used-more : (left now next : Option (List ℕ)) (bytes : List ℕ) (count : ℕ) → Used left now (λ used. length used ≡ count) → Loses now next bytes → Used left next (λ used. length used ≡ count + length bytes)
Used-more None now next bytes count u l = tt
Used-more (Some script) now next bytes count u l =
    let m = lost u.1 bytes next (subst (λ (o : Option (List ℕ)). Loses o next bytes) u.3 l) in
    (u.0 ++ bytes, m.0, u.2 ∙ ap (λ (xs : List ℕ). u.0 ++ xs) m.1 ∙ sym (append_assoc u.0 bytes m.0), m.2, length-append u.0 bytes ∙ ap (λ (n : ℕ). n + length bytes) u.4)

-- ---- several bytes

pub Feeds-push : (bytes : List ℕ) (b : ℕ) (old mid new : Option (List ℕ)) (p q r : World) (k l m : List ℕ) → Feeds bytes old mid p k q l → Takes b mid new q l r m → Feeds (bytes ++ b ∷ []) old new p k r m
Feeds-push [] b old mid new p q r k l m f t =
    let a : Takes b old new q l r m = subst (λ (o : Option (List ℕ)). Takes b o new q l r m) f.0 t in
    let a' : Takes b old new p l r m = subst (λ (w : World). Takes b old new w l r m) f.1 a in
    (new, r, m, subst (λ (xs : List ℕ). Takes b old new p xs r m) f.2 a', (refl, refl, refl))
Feeds-push (x ∷ bytes) b old mid new p q r k l m f t = (f.0, f.1, f.2, f.3, Feeds-push bytes b f.0 mid new f.1 q r f.2 l m f.4 t)

one_more : (count n : ℕ) → count + 1 + n ≡ count + suc n
one_more count n = omega arith

to_end : (left now : Option (List ℕ)) (P : List ℕ → Type 0) → Used left now P → IsSpent now → ReadToEnd left now
to_end None now P u z = tt
to_end (Some script) now P u z = u.3 ∙ ap Some (subst IsSpent u.3 z)

pub Loses-none : (old new : Option (List ℕ)) → Loses old new [] → new ≡ old
Loses-none None new h = h
Loses-none (Some xs) None h = absurd h
Loses-none (Some xs) (Some ys) h = ap Some (sym h)

-- ---- the replies to them

written : (before had out text : List ℕ) (had' : Option (List ℕ)) → had' ≡ Some (had ++ text) → had ≡ before ++ out → had' ≡ Some (before ++ (out ++ text))
written before had out text had' e f = e ∙ ap Some (ap (λ (xs : List ℕ). xs ++ text) f ∙ append_assoc before out text)

-- where both are told, the script stands so
abbrev pub HasSaid : World → Option (List ℕ) → Option (List ℕ) → Option (List ℕ) → Option (List ℕ) → ℕ → World → List ℕ → Type 0
HasSaid first left left' taken taken' count world line =
    IfSome left (λ script. IfSome taken (λ before.
    (rest : List ℕ) × (had : List ℕ) × (left' ≡ Some rest) × (taken' ≡ Some had) × Stands first count script rest before had world line))

module _ (first : World) where
  pub HasSaid-first : (left taken : Option (List ℕ)) (world : World) (line : List ℕ) → world ≡ first → line ≡ [] → HasSaid first left left taken taken 0 world line
  HasSaid-first None taken world line e f = tt
  HasSaid-first (Some script) None world line e f = tt
  HasSaid-first (Some script) (Some before) world line e f = (script, before, refl, refl, Stands-first script before world line e f)

  took : (script more before had : List ℕ) (next had' : Option (List ℕ)) (b count : ℕ) (world world' : World) (line line' : List ℕ) → (b ≡ 10) ⊎ (b ≡ 10 → ⊥) → next ≡ Some more → Stands first count script (b ∷ more) before had world line → Takes b (Some had) had' world line world' line'
      → (rest : List ℕ) × (now : List ℕ) × (next ≡ Some rest) × (had' ≡ Some now) × Stands first (count + 1) script rest before now world' line'
  took script more before had next had' b count world world' line line' (inl e) n s t =
      let a = t.0 e in
      let stood : Stands first count script (10 ∷ more) before had world line = subst (λ (x : ℕ). Stands first count script (x ∷ more) before had world line) e s in
      (more, had ++ a.0.0, n, gained had a.0.0 had' a.0.2, Stands-end count script more before had (had ++ a.0.0) world world' line a.0.0 line' stood a.0.1 refl a.1)
  took script more before had next had' b count world world' line line' (inr ne) n s t =
      let a = t.1 ne in
      (more, had, n, a.2, subst (λ (w : World). Stands first (count + 1) script more before had w line') (sym a.0) (Stands-byte count script more before had b world line line' s ne a.1))

  pub HasSaid-took : (left now next taken had had' : Option (List ℕ)) (b count : ℕ) (world world' : World) (line line' : List ℕ) → HasSaid first left now taken had count world line → Loses now next (b ∷ []) → Takes b had had' world line world' line' → HasSaid first left next taken had' (count + 1) world' line'
  HasSaid-took None now next taken had had' b count world world' line line' h l t = tt
  HasSaid-took (Some script) now next None had had' b count world world' line line' h l t = tt
  HasSaid-took (Some script) now next (Some before) had had' b count world world' line line' h l t =
      let m = lost h.0 (b ∷ []) next (subst (λ (o : Option (List ℕ)). Loses o next (b ∷ [])) h.2 l) in
      took script m.0 before h.1 next had' b count world world' line line' (cases_eq b 10) m.2
      (subst (λ (xs : List ℕ). Stands first count script xs before h.1 world line) m.1 h.4)
      (subst (λ (o : Option (List ℕ)). Takes b o had' world line world' line') h.3 t)

  fed : (left taken had had' : Option (List ℕ)) (more bytes : List ℕ) (count : ℕ) (world world' : World) (line line' : List ℕ) → HasSaid first left (Some (bytes ++ more)) taken had count world line → Feeds bytes had had' world line world' line' → HasSaid first left (Some more) taken had' (count + length bytes) world' line'
  fed left taken had had' more [] count world world' line line' h f =
      let a : HasSaid first left (Some more) taken had' count world line = subst (λ (o : Option (List ℕ)). HasSaid first left (Some more) taken o count world line) (sym f.0) h in
      let b : HasSaid first left (Some more) taken had' count world' line = subst (λ (w : World). HasSaid first left (Some more) taken had' count w line) (sym f.1) a in
      subst (λ (n : ℕ). HasSaid first left (Some more) taken had' n world' line') (omega arith) (subst (λ (xs : List ℕ). HasSaid first left (Some more) taken had' count world' xs) (sym f.2) b)
  fed left taken had had' more (b ∷ bytes) count world world' line line' h f =
      subst (λ (n : ℕ). HasSaid first left (Some more) taken had' n world' line') (one_more count (length bytes))
      (fed left taken f.0 had' more bytes (count + 1) f.1 world' f.2 line' (HasSaid-took left (Some (b ∷ (bytes ++ more))) (Some (bytes ++ more)) taken had f.0 b count world f.1 line f.2 h refl f.3) f.4)

  pub HasSaid-fed : (left now next taken had had' : Option (List ℕ)) (bytes : List ℕ) (count count' : ℕ) (world world' : World) (line line' : List ℕ) → HasSaid first left now taken had count world line → Loses now next bytes → Feeds bytes had had' world line world' line' → count + length bytes ≡ count' → HasSaid first left next taken had' count' world' line'
  HasSaid-fed None now next taken had had' bytes count count' world world' line line' h l f e = tt
  HasSaid-fed (Some script) now next None had had' bytes count count' world world' line line' h l f e = tt
  HasSaid-fed (Some script) now next (Some before) had had' bytes count count' world world' line line' h l f e =
      let m = lost h.0 bytes next (subst (λ (o : Option (List ℕ)). Loses o next bytes) h.2 l) in
      let h' : HasSaid first (Some script) (Some (bytes ++ m.0)) (Some before) had count world line = (bytes ++ m.0, h.1, refl, h.3, subst (λ (xs : List ℕ). Stands first count script xs before h.1 world line) m.1 h.4) in
      let all = fed (Some script) (Some before) had had' m.0 bytes count world world' line line' h' f in
      subst (λ (n : ℕ). HasSaid first (Some script) next (Some before) had' n world' line') e
      (subst (λ (o : Option (List ℕ)). HasSaid first (Some script) o (Some before) had' (count + length bytes) world' line') (sym m.2) all)

  -- ---- ends

  pub said-ended : (left now taken had : Option (List ℕ)) (count : ℕ) (world : World) (line : List ℕ) → HasSaid first left now taken had count world line → UsedAndWritten left now taken had (λ used out. IsRun first (ended_lines used) out)
  said-ended None now taken had count world line h = tt
  said-ended (Some script) now None had count world line h = tt
  said-ended (Some script) now (Some before) had count world line h =
      let s = h.4 in (read s, h.0, s.out, s.split, h.2, h.3 ∙ ap Some s.told, Stands-ended s)

  pub said-to_limit : (left now next taken had : Option (List ℕ)) (b count limit : ℕ) (world : World) (line : List ℕ) → HasSaid first left now taken had count world line → count ≡ limit → Loses now next (b ∷ []) → UsedAndWritten left next taken had (λ used out. IsRun first (ended_lines (take limit used)) out)
  said-to_limit None now next taken had b count limit world line h e l = tt
  said-to_limit (Some script) now next None had b count limit world line h e l = tt
  said-to_limit (Some script) now next (Some before) had b count limit world line h e l =
      let s = h.4 in
      let m = lost h.0 (b ∷ []) next (subst (λ (o : Option (List ℕ)). Loses o next (b ∷ [])) h.2 l) in (
        read s ++ b ∷ [],
        m.0,
        s.out,
        s.split ∙ ap (λ (xs : List ℕ). read s ++ xs) m.1 ∙ sym (append_assoc (read s) (b ∷ []) m.0),
        m.2,
        h.3 ∙ ap Some s.told,
        subst (λ (xs : List ℕ). IsRun first (ended_lines xs) s.out) (sym (take_full limit (read s) (b ∷ []) (s.size ∙ e))) (Stands-ended s),
      )

  -- of the bytes that came last some were fed, and of the replies that the sink was to have taken with them it took a front
  part : (script before had : List ℕ) (had' whole : Option (List ℕ)) (more front back out rest : List ℕ) (count : ℕ) (world after : World) (line line' : List ℕ) → Stands first count script (front ++ (back ++ more)) before had world line → Feeds front (Some had) whole world line after line' → Gains (Some had) had' out → Gains (Some had) whole (out ++ rest)
      → (used : List ℕ) × (out : List ℕ) × (script ≡ used ++ more) × (had' ≡ Some (before ++ out)) × BeginsRun first (lines used) out
  part script before had had' whole more front back out rest count world after line line' s f g w =
      let h = fed (Some script) (Some before) (Some had) whole (back ++ more) front count world after line line' (front ++ (back ++ more), had, refl, refl, s) f in
      let s' = h.4 in
      let same : h.1 ≡ had ++ (out ++ rest) = cc (h.3, gained had (out ++ rest) whole w) in
      let cut : s'.out ≡ (s.out ++ out) ++ rest = append_cancel_left before s'.out ((s.out ++ out) ++ rest)
      (sym s'.told ∙ same ∙ ap (λ (xs : List ℕ). xs ++ (out ++ rest)) s.told ∙ append_assoc before s.out (out ++ rest) ∙ ap (λ (xs : List ℕ). before ++ xs) (sym (append_assoc s.out out rest))) in
      let left : h.0 ≡ back ++ more = cc (h.2) in (
        read s' ++ back,
        s.out ++ out,
        s'.split ∙ ap (λ (xs : List ℕ). read s' ++ xs) left ∙ sym (append_assoc (read s') back more),
        written before had s.out out had' (gained had out had' g) s.told,
        Stands-front s' back (s.out ++ out) rest cut,
      )

  pub said-part : (left now next taken had had' : Option (List ℕ)) (bytes : List ℕ) (count : ℕ) (world : World) (line : List ℕ) → HasSaid first left now taken had count world line → Loses now next bytes → FeedsPart bytes had had' world line → UsedAndWritten left next taken had' (λ used out. BeginsRun first (lines used) out)
  said-part None now next taken had had' bytes count world line h l f = tt
  said-part (Some script) now next None had had' bytes count world line h l f = tt
  said-part (Some script) now next (Some before) had had' bytes count world line h l f =
      let m = lost h.0 bytes next (subst (λ (o : Option (List ℕ)). Loses o next bytes) h.2 l) in
      let rest : h.0 ≡ f.0 ++ (f.1 ++ m.0) = m.1 ∙ ap (λ (xs : List ℕ). xs ++ m.0) f.5 ∙ append_assoc f.0 f.1 m.0 in
      let s : Stands first count script (f.0 ++ (f.1 ++ m.0)) before h.1 world line = subst (λ (xs : List ℕ). Stands first count script xs before h.1 world line) rest h.4 in
      let fed = subst (λ (o : Option (List ℕ)). Feeds f.0 o f.2 world line f.3 f.4) h.3 f.6 in
      let front = subst (λ (o : Option (List ℕ)). IsFront o had' f.2) h.3 f.7 in
      let r = part script before h.1 had' f.2 m.0 f.0 f.1 front.0 front.1 count world f.3 line f.4 s fed front.2 front.3 in
      (r.0, m.0, r.1, r.2, m.2, r.3, r.4)

  -- the script was read to its end
  finished : (script before had : List ℕ) (had' : Option (List ℕ)) (count : ℕ) (world : World) (line : List ℕ) (s : Stands first count script [] before had world line)
      → ((line ≡ []) × (had' ≡ Some had)) ⊎ ((line ≢ []) × ((after : World) × Answers (Some had) had' world line after))
      → (out : List ℕ) × (had' ≡ Some (before ++ out)) × IsRun first (lines (read s)) out
  finished script before had had' count world line s (inl e) = (s.out, e.1 ∙ ap Some s.told, Stands-done s e.0)
  finished script before had had' count world line s (inr e) =
      let a = e.1.1 in
      (s.out ++ a.0, written before had s.out a.0 had' (gained had a.0 had' a.2) s.told, Stands-last s a.0 e.1.0 e.0 a.1)

  said-finished : (left now taken had had' : Option (List ℕ)) (count : ℕ) (world : World) (line : List ℕ) → HasSaid first left now taken had count world line → IsSpent now → Finishes Done had had' world line → UsedAndWritten left now taken had' (λ used out. IsRun first (lines used) out)
  said-finished None now taken had had' count world line h z f = tt
  said-finished (Some script) now None had had' count world line h z f = tt
  said-finished (Some script) now (Some before) had had' count world line h z f =
      let none : h.0 ≡ [] = subst IsSpent h.2 z in
      let s : Stands first count script [] before h.1 world line = subst (λ (xs : List ℕ). Stands first count script xs before h.1 world line) none h.4 in
      let r = finished script before h.1 had' count world line s (subst (λ (o : Option (List ℕ)). Finishes Done o had' world line) h.3 f) in
      (read s, [], r.0, s.split, h.2 ∙ ap Some none, r.1, r.2)

  said-broken : (left now taken had had' : Option (List ℕ)) (count : ℕ) (world : World) (line : List ℕ) → HasSaid first left now taken had count world line → Finishes WriteFault had had' world line → UsedAndWritten left now taken had' (λ used out. BeginsRun first (lines used) out)
  said-broken None now taken had had' count world line h f = tt
  said-broken (Some script) now None had had' count world line h f = tt
  said-broken (Some script) now (Some before) had had' count world line h f =
      let s = h.4 in
      let a = f.1 in
      let g : had' ≡ Some (h.1 ++ a.3.0) = gained h.1 a.3.0 had' (subst (λ (o : Option (List ℕ)). Gains o had' a.3.0) h.3 a.3.3) in (
        read s,
        h.0,
        s.out ++ a.3.0,
        s.split,
        h.2,
        written before h.1 s.out a.3.0 had' g s.told,
        Stands-part s (lines (read s)) [] a.0 a.3.0 a.3.1 a.1 (lines-last s f.0) a.2 a.3.2,
      )

  -- the source has no more bytes, and the line that was begun was answered
  pub Ends-finished : (status : Status) (left now taken had had' : Option (List ℕ)) (count : ℕ) (world : World) (line : List ℕ) → Used left now (λ used. length used ≡ count) → count ≤ SCRIPT_LIMIT → HasSaid first left now taken had count world line → IsSpent now → Finishes status had had' world line → Ends first status left now taken had'
  Ends-finished Done left now taken had had' count world line u le h z f =
      (to_end left now (λ used. length used ≡ count) u z, Used-map (λ used. length used ≡ count) (λ used. length used ≤ SCRIPT_LIMIT) left now (λ used e. omega arith) u, said-finished left now taken had had' count world line h z f)
  Ends-finished WriteFault left now taken had had' count world line u le h z f =
      (Used-map (λ used. length used ≡ count) (λ used. length used ≤ SCRIPT_LIMIT) left now (λ used e. omega arith) u, said-broken left now taken had had' count world line h f)
  Ends-finished Usage left now taken had had' count world line u le h z f = absurd f
  Ends-finished ReadFault left now taken had had' count world line u le h z f = absurd f
  Ends-finished NoMemory left now taken had had' count world line u le h z f = absurd f
  Ends-finished TooLong left now taken had had' count world line u le h z f = absurd f

  pub Ends-read_fault : (left now taken had : Option (List ℕ)) (count : ℕ) (world : World) (line : List ℕ) → Used left now (λ used. length used ≡ count) → count ≤ SCRIPT_LIMIT → HasSaid first left now taken had count world line → Ends first ReadFault left now taken had
  Ends-read_fault left now taken had count world line u le h =
      (Used-map (λ used. length used ≡ count) (λ used. length used ≤ SCRIPT_LIMIT) left now (λ used e. omega arith) u, said-ended left now taken had count world line h)

  pub Ends-write_fault : (left now next taken had had' : Option (List ℕ)) (bytes : List ℕ) (count : ℕ) (world : World) (line : List ℕ) → Used left now (λ used. length used ≡ count) → count + length bytes ≤ SCRIPT_LIMIT → HasSaid first left now taken had count world line → Loses now next bytes → FeedsPart bytes had had' world line → Ends first WriteFault left next taken had'
  Ends-write_fault left now next taken had had' bytes count world line u le h l f =
      (Used-map (λ used. length used ≡ count + length bytes) (λ used. length used ≤ SCRIPT_LIMIT) left next (λ used e. omega arith) (Used-more left now next bytes count u l), said-part left now next taken had had' bytes count world line h l f)

  pub Ends-too_long : (left now next taken had : Option (List ℕ)) (b count : ℕ) (world : World) (line : List ℕ) → Used left now (λ used. length used ≡ count) → count ≡ SCRIPT_LIMIT → HasSaid first left now taken had count world line → Loses now next (b ∷ []) → Ends first TooLong left next taken had
  Ends-too_long left now next taken had b count world line u e h l =
      (Used-map (λ used. length used ≡ count + 1) (λ used. length used ≡ SCRIPT_LIMIT + 1) left next (λ used f. omega arith) (Used-more left now next (b ∷ []) count u l), said-to_limit left now next taken had b count SCRIPT_LIMIT world line h e l)

  -- past the limit nothing was used but at TooLong
  pub within_limit : (status : Status) (left left' taken taken' : Option (List ℕ)) → Ends first status left left' taken taken' → (status ≡ TooLong → ⊥) → Used left left' (λ used. length used ≤ SCRIPT_LIMIT)
  within_limit Done left left' taken taken' e n = e.1
  within_limit ReadFault left left' taken taken' e n = e.0
  within_limit WriteFault left left' taken taken' e n = e.0
  within_limit NoMemory left left' taken taken' e n = subst (λ (o : Option (List ℕ)). Used left o (λ used. length used ≤ SCRIPT_LIMIT)) (sym e.0) (nothing_used left)
  within_limit Usage left left' taken taken' e n = absurd e
  within_limit TooLong left left' taken taken' e n = absurd (n refl)

  -- a run that meets no fault within the limit is done, or found no memory
  pub completes : (status : Status) (left left' taken taken' : Option (List ℕ)) (source source' sink sink' : ℕ) → Ends first status left left' taken taken' → Causes status source source' sink sink' → (Rose source source' → ⊥) → (Rose sink sink' → ⊥) → IsSomeAnd left (λ script. length script ≤ SCRIPT_LIMIT)
      → (status ≡ Done) ⊎ (status ≡ NoMemory)
  completes Done left left' taken taken' source source' sink sink' e c f g s = inl refl
  completes NoMemory left left' taken taken' source source' sink sink' e c f g s = inr refl
  completes Usage left left' taken taken' source source' sink sink' e c f g s = absurd e
  completes ReadFault left left' taken taken' source source' sink sink' e c f g s = absurd (f c.0)
  completes WriteFault left left' taken taken' source source' sink sink' e c f g s = absurd (g c.1)
  completes TooLong None left' taken taken' source source' sink sink' e c f g s = absurd s
  completes TooLong (Some script) left' taken taken' source source' sink sink' e c f g s =
      let u = e.0 in
      absurd (omega (arith, ap length u.2, length-append u.0 u.1, u.4, s))
