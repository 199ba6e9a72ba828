-- A script so far: the lines that were answered, and the one that was begun.
use Rattle.std.proofs.Common.{◌≡◌, ℕ, ◌+◌, List, [], ◌∷◌, ◌++◌, length, take, Result, refl, sym, ap, subst, ◌∙◌, append_assoc, arith, inl}
use Rattle.std.proofs.lemmas.Bool.{ne_eqb}
use Rattle.std.proofs.lemmas.List.{append-nil, length-append}
use Rattle.script_lines.specs.Command.{command_of}
use Rattle.script_lines.specs.declared.command.Command.{Command}
use Rattle.script_lines.specs.declared.error.LineError.{LineError}
use Rattle.script_lines.proofs.LongLine.{cut_command}
use Rattle.planar_run.specs.declared.line.TheConstants.{KEPT}
use Rattle.planar_run.specs.Lines.{lines, ended_lines}
use Rattle.planar_run.specs.World.{World}
use Rattle.planar_run.specs.Answer.{Obeys, Replies, answer_to}
use Rattle.planar_run.specs.Run.{AnswersLines, IsRun, BeginsRun}
use Rattle.planar_run.proofs.Takes.{take-cut}
use Rattle.planar_run.proofs.Losses.{no_losses}

-- no byte ends a line
abbrev pub IsOpen : List ℕ → Type 0
IsOpen [] = Unit {0}
IsOpen (b ∷ more) = (b ≡ 10 → ⊥) × IsOpen more

abbrev pub AreOpen : List (List ℕ) → Type 0
AreOpen [] = Unit {0}
AreOpen (line ∷ more) = IsOpen line × AreOpen more

-- lines with byte 10 after each
abbrev pub joined : List (List ℕ) → List ℕ
joined [] = []
joined (line ∷ more) = line ++ 10 ∷ joined more

IsOpen-push : (xs : List ℕ) (b : ℕ) → IsOpen xs → (b ≡ 10 → ⊥) → IsOpen (xs ++ b ∷ [])
IsOpen-push [] b h ne = (ne, tt)
IsOpen-push (x ∷ xs) b h ne = (h.0, IsOpen-push xs b h.1 ne)

AreOpen-push : (ls : List (List ℕ)) (line : List ℕ) → AreOpen ls → IsOpen line → AreOpen (ls ++ line ∷ [])
AreOpen-push [] line h k = (k, tt)
AreOpen-push (l ∷ ls) line h k = (h.0, AreOpen-push ls line h.1 k)

joined-push : (ls : List (List ℕ)) (line : List ℕ) → joined (ls ++ line ∷ []) ≡ joined ls ++ (line ++ 10 ∷ [])
joined-push [] line = refl
joined-push (l ∷ ls) line =
    ap (λ (xs : List ℕ). l ++ 10 ∷ xs) (joined-push ls line) ∙ sym (append_assoc l (10 ∷ joined ls) (line ++ 10 ∷ []))

-- ---- lines

lines-end : (line rest : List ℕ) → IsOpen line → lines (line ++ 10 ∷ rest) ≡ line ∷ lines rest
lines-end [] rest h = refl
lines-end (b ∷ line) rest h = rw (ne_eqb b 10 h.0, lines-end line rest h.1) refl

lines-open : (b : ℕ) (line : List ℕ) → IsOpen (b ∷ line) → lines (b ∷ line) ≡ (b ∷ line) ∷ []
lines-open b [] h = rw (ne_eqb b 10 h.0) refl
lines-open b (c ∷ line) h = rw (ne_eqb b 10 h.0, lines-open c line h.1) refl

lines-joined : (ls : List (List ℕ)) (rest : List ℕ) → AreOpen ls → lines (joined ls ++ rest) ≡ ls ++ lines rest
lines-joined [] rest h = refl
lines-joined (l ∷ ls) rest h =
    ap lines (append_assoc l (10 ∷ joined ls) rest) ∙ lines-end l (joined ls ++ rest) h.0 ∙ ap (λ (more : List (List ℕ)). l ∷ more) (lines-joined ls rest h.1)

ended_lines-end : (line rest : List ℕ) → IsOpen line → ended_lines (line ++ 10 ∷ rest) ≡ line ∷ ended_lines rest
ended_lines-end [] rest h = refl
ended_lines-end (b ∷ line) rest h = rw (ne_eqb b 10 h.0, ended_lines-end line rest h.1) refl

ended_lines-open : (line : List ℕ) → IsOpen line → ended_lines line ≡ []
ended_lines-open [] h = refl
ended_lines-open (b ∷ line) h = rw (ne_eqb b 10 h.0, ended_lines-open line h.1) refl

ended_lines-joined : (ls : List (List ℕ)) (rest : List ℕ) → AreOpen ls → ended_lines (joined ls ++ rest) ≡ ls ++ ended_lines rest
ended_lines-joined [] rest h = refl
ended_lines-joined (l ∷ ls) rest h =
    ap ended_lines (append_assoc l (10 ∷ joined ls) rest) ∙ ended_lines-end l (joined ls ++ rest) h.0 ∙ ap (λ (more : List (List ℕ)). l ∷ more) (ended_lines-joined ls rest h.1)

-- ---- runs

-- a line that is too long is refused however much of it is kept
Replies-cut : (world : World) (line kept text : List ℕ) (after : World) → kept ≡ take KEPT line → Replies world kept text after → Replies world line text after
Replies-cut world line kept text after e s =
    subst (λ (said : Result Command LineError). Obeys world said text after) (ap command_of e ∙ cut_command line) s

Runs-push : (world : World) (ls : List (List ℕ)) (out : List ℕ) (mid : World) (line text : List ℕ) (end : World) → AnswersLines world ls out mid → Replies mid line text end → AnswersLines world (ls ++ line ∷ []) (out ++ text) end
Runs-push world [] out mid line text end r s =
    (text, [], end, subst (λ (w : World). Replies w line text end) r.1 s, ap (λ (xs : List ℕ). xs ++ text) r.0 ∙ sym (append-nil text), (refl, refl))
Runs-push world (l ∷ ls) out mid line text end r s =
    (r.0, r.1 ++ text, r.2, r.3, ap (λ (xs : List ℕ). xs ++ text) r.4 ∙ append_assoc r.0 r.1 text, Runs-push r.2 ls r.1 mid line text end r.5 s)

Runs-append : (world : World) (ls more : List (List ℕ)) (out out' : List ℕ) (mid end : World) → AnswersLines world ls out mid → AnswersLines mid more out' end → AnswersLines world (ls ++ more) (out ++ out') end
Runs-append world [] more out out' mid end r s =
    subst (λ (xs : List ℕ). AnswersLines world more (xs ++ out') end) (sym r.0) (subst (λ (w : World). AnswersLines w more out' end) r.1 s)
Runs-append world (l ∷ ls) more out out' mid end r s =
    (r.0, r.1 ++ out', r.2, r.3, ap (λ (xs : List ℕ). xs ++ out') r.4 ∙ append_assoc r.0 r.1 out', Runs-append r.2 ls more r.1 out' mid end r.5 s)

-- with ample memory every line is answered, where nobody is lost
ample : (world : World) (ls : List (List ℕ)) → (out : List ℕ) × (end : World) × AnswersLines world ls out end
ample world [] = ([], world, (refl, refl))
ample world (line ∷ more) =
    let l = no_losses world (command_of line) in
    let a = answer_to world l.0 (command_of line) in
    let r = ample a.world more in
    (a.text ++ r.0, r.1, (a.text, r.0, a.world, inl (l.0, l.1, refl, refl), refl, r.2))

moved : (script read read' rest : List ℕ) (b : ℕ) → script ≡ read ++ b ∷ rest → read' ≡ read ++ b ∷ [] → script ≡ read' ++ rest
moved script read read' rest b e f = e ∙ sym (append_assoc read (b ∷ []) rest) ∙ ap (λ (xs : List ℕ). xs ++ rest) (sym f)

longer : (read read' : List ℕ) (b count : ℕ) → length read ≡ count → read' ≡ read ++ b ∷ [] → length read' ≡ count + 1
longer read read' b count e f = omega (arith, ap length f, length-append read (b ∷ []))

ended : (ls : List (List ℕ)) (line : List ℕ) → joined (ls ++ line ∷ []) ++ [] ≡ (joined ls ++ line) ++ 10 ∷ []
ended ls line = append-nil (joined (ls ++ line ∷ [])) ∙ joined-push ls line ∙ sym (append_assoc (joined ls) line (10 ∷ []))

none_begun : (begun line : List ℕ) → line ≡ take KEPT begun → line ≡ [] → begun ≡ []
none_begun [] line e f = refl
none_begun (b ∷ begun) line e f = absurd cc

one_begun : (begun line : List ℕ) → line ≡ take KEPT begun → (line ≡ [] → ⊥) → IsOpen begun → lines begun ≡ begun ∷ []
one_begun [] line e f h = absurd (f e)
one_begun (b ∷ begun) line e f h = lines-open b begun h

-- ---- where a script stands

-- so many bytes were read: lines that were answered, and one that was begun
pub record Stands (first : World) (count : ℕ) (script rest before taken : List ℕ) (world : World) (line : List ℕ) : Type 0 where
  pub whole : List (List ℕ)
  pub begun : List ℕ
  pub out : List ℕ
  pub split : script ≡ (joined whole ++ begun) ++ rest
  pub size : length (joined whole ++ begun) ≡ count
  pub each : AreOpen whole
  pub inside : IsOpen begun
  pub kept : line ≡ take KEPT begun
  pub run : AnswersLines (first) whole out world
  pub told : taken ≡ before ++ out

module _ {first : World} where
  -- the bytes that were read
  abbrev pub read : {count : ℕ} {script rest before taken : List ℕ} {world : World} {line : List ℕ} → Stands first count script rest before taken world line → List ℕ
  read s = joined s.whole ++ s.begun

  pub Stands-first : (script before : List ℕ) (world : World) (line : List ℕ) → world ≡ first → line ≡ [] → Stands first 0 script script before before world line
  Stands-first script before world line e f = record {
    whole = [];
    begun = [];
    out = [];
    split = refl;
    size = refl;
    each = tt;
    inside = tt;
    kept = f;
    run = (refl, e);
    told = sym (append-nil before);
  }

  -- the end of a line, which is answered
  pub Stands-end : (count : ℕ) (script rest before taken now : List ℕ) (world after : World) (line text next : List ℕ) → Stands first count script (10 ∷ rest) before taken world line → Replies world line text after → now ≡ taken ++ text → next ≡ [] → Stands first (count + 1) script rest before now after next
  Stands-end count script rest before taken now world after line text next s step e f = record {
    whole = s.whole ++ s.begun ∷ [];
    begun = [];
    out = s.out ++ text;
    split = moved script (joined s.whole ++ s.begun) (joined (s.whole ++ s.begun ∷ []) ++ []) rest 10 s.split (ended s.whole s.begun);
    size = longer (joined s.whole ++ s.begun) (joined (s.whole ++ s.begun ∷ []) ++ []) 10 count s.size (ended s.whole s.begun);
    each = AreOpen-push s.whole s.begun s.each s.inside;
    inside = tt;
    kept = f;
    run = Runs-push (first) s.whole s.out world s.begun text after s.run (Replies-cut world s.begun line text after s.kept step);
    told = e ∙ ap (λ (xs : List ℕ). xs ++ text) s.told ∙ append_assoc before s.out text;
  }

  -- another byte
  pub Stands-byte : (count : ℕ) (script rest before taken : List ℕ) (b : ℕ) (world : World) (line next : List ℕ) → Stands first count script (b ∷ rest) before taken world line → (b ≡ 10 → ⊥) → next ≡ take KEPT (line ++ b ∷ []) → Stands first (count + 1) script rest before taken world next
  Stands-byte count script rest before taken b world line next s ne e = record {
    whole = s.whole;
    begun = s.begun ++ b ∷ [];
    out = s.out;
    split = moved script (joined s.whole ++ s.begun) (joined s.whole ++ (s.begun ++ b ∷ [])) rest b s.split (sym (append_assoc (joined s.whole) s.begun (b ∷ [])));
    size = longer (joined s.whole ++ s.begun) (joined s.whole ++ (s.begun ++ b ∷ [])) b count s.size (sym (append_assoc (joined s.whole) s.begun (b ∷ [])));
    each = s.each;
    inside = IsOpen-push s.begun b s.inside ne;
    kept = e ∙ ap (λ (xs : List ℕ). take KEPT (xs ++ b ∷ [])) s.kept ∙ take-cut KEPT s.begun (b ∷ []);
    run = s.run;
    told = s.told;
  }

  -- ---- what was written, to the bytes that were read

  -- the lines whose end was read are answered
  pub Stands-ended : {count : ℕ} {script rest before taken : List ℕ} {world : World} {line : List ℕ} (s : Stands first count script rest before taken world line) → IsRun first (ended_lines (read s)) s.out
  Stands-ended {world = world} s =
      let all : ended_lines (joined s.whole ++ s.begun) ≡ s.whole = ended_lines-joined s.whole s.begun s.each ∙ ap (λ (ls : List (List ℕ)). s.whole ++ ls) (ended_lines-open s.begun s.inside) ∙ append-nil s.whole in
      (world, subst (λ (ls : List (List ℕ)). AnswersLines (first) ls s.out world) (sym all) s.run)

  -- no line was begun: all are answered
  pub Stands-done : {count : ℕ} {script rest before taken : List ℕ} {world : World} {line : List ℕ} (s : Stands first count script rest before taken world line) → line ≡ [] → IsRun first (lines (read s)) s.out
  Stands-done {world = world} {line = line} s e =
      let none : s.begun ≡ [] = none_begun s.begun line s.kept e in
      let all : lines (joined s.whole ++ s.begun) ≡ s.whole = lines-joined s.whole s.begun s.each ∙ ap (λ (xs : List ℕ). s.whole ++ lines xs) none ∙ append-nil s.whole in
      (world, subst (λ (ls : List (List ℕ)). AnswersLines (first) ls s.out world) (sym all) s.run)

  -- the line that was begun is the last
  pub lines-last : {count : ℕ} {script rest before taken : List ℕ} {world : World} {line : List ℕ} (s : Stands first count script rest before taken world line) → (line ≡ [] → ⊥) → lines (read s) ≡ s.whole ++ s.begun ∷ []
  lines-last {line = line} s some = lines-joined s.whole s.begun s.each ∙ ap (λ (ls : List (List ℕ)). s.whole ++ ls) (one_begun s.begun line s.kept some s.inside)

  -- it is answered, and no line comes after it
  pub Stands-last : {count : ℕ} {script rest before taken : List ℕ} {world : World} {line : List ℕ} (s : Stands first count script rest before taken world line) (text : List ℕ) (after : World) → (line ≡ [] → ⊥) → Replies world line text after → IsRun first (lines (read s)) (s.out ++ text)
  Stands-last {world = world} {line = line} s text after some step =
      let run : AnswersLines (first) (s.whole ++ s.begun ∷ []) (s.out ++ text) after = Runs-push (first) s.whole s.out world s.begun text after s.run (Replies-cut world s.begun line text after s.kept step) in
      (after, subst (λ (ls : List (List ℕ)). AnswersLines (first) ls (s.out ++ text) after) (sym (lines-last s some)) run)

  -- a part of its reply was written, whatever lines come after it
  pub Stands-part : {count : ℕ} {script rest before taken : List ℕ} {world : World} {line : List ℕ} (s : Stands first count script rest before taken world line) (ls more : List (List ℕ)) (text part back : List ℕ) (after : World)
      → ls ≡ s.whole ++ s.begun ∷ more → Replies world line text after → text ≡ part ++ back → BeginsRun first ls (s.out ++ part)
  Stands-part {world = world} {line = line} s ls more text part back after e step f =
      let tail = ample after more in
      let said : Replies world s.begun text after = Replies-cut world s.begun line text after s.kept step in
      let run : AnswersLines (first) (s.whole ++ s.begun ∷ more) (s.out ++ (text ++ tail.0)) tail.1 = Runs-append (first) s.whole (s.begun ∷ more) s.out (text ++ tail.0) world tail.1 s.run (text, tail.0, after, said, refl, tail.2) in
      let same : s.out ++ (text ++ tail.0) ≡ (s.out ++ part) ++ (back ++ tail.0) = ap (λ (xs : List ℕ). s.out ++ (xs ++ tail.0)) f ∙ ap (λ (xs : List ℕ). s.out ++ xs) (append_assoc part back tail.0) ∙ sym (append_assoc s.out part (back ++ tail.0)) in
      (back ++ tail.0, (tail.1, subst (λ (xs : List ℕ). AnswersLines (first) ls xs tail.1) same (subst (λ (all : List (List ℕ)). AnswersLines (first) all (s.out ++ (text ++ tail.0)) tail.1) (sym e) run)))

  -- a front of what answers the lines so far begins to answer them, whatever bytes come after these
  pub Stands-front : {count : ℕ} {script rest before taken : List ℕ} {world : World} {line : List ℕ} (s : Stands first count script rest before taken world line) (more out back : List ℕ) → s.out ≡ out ++ back → BeginsRun first (lines (read s ++ more)) out
  Stands-front {world = world} s more out back e =
      let all : lines (read s ++ more) ≡ s.whole ++ lines (s.begun ++ more) = ap lines (append_assoc (joined s.whole) s.begun more) ∙ lines-joined s.whole (s.begun ++ more) s.each in
      let tail = ample world (lines (s.begun ++ more)) in
      let run : AnswersLines (first) (s.whole ++ lines (s.begun ++ more)) (s.out ++ tail.0) tail.1 = Runs-append (first) s.whole (lines (s.begun ++ more)) s.out tail.0 world tail.1 s.run tail.2 in
      let same : s.out ++ tail.0 ≡ out ++ (back ++ tail.0) = ap (λ (xs : List ℕ). xs ++ tail.0) e ∙ append_assoc out back tail.0 in
      (back ++ tail.0, (tail.1, subst (λ (xs : List ℕ). AnswersLines (first) (lines (read s ++ more)) xs tail.1) same (subst (λ (ls : List (List ℕ)). AnswersLines (first) ls (s.out ++ tail.0) tail.1) (sym all) run)))
