-- The lines of an envelope's text, put one after the other.
use Rattle.std.proofs.Common.{◌≡◌, ℕ, zero, suc, ◌+◌, ◌<◌, ◌≤◌, arith, refl, sym, ap, ap₂, ◌∙◌, List, [], ◌∷◌, ◌++◌, length, map, get_or, take, append_assoc}
use Rattle.std.specs.Prelude.{Option, Some, None, Result, IfSome, OnOk, codes, flat_map}
use Rattle.std.proofs.Math.Seq.{take-nil}
use Rattle.std.proofs.lemmas.List.{append-nil}
use Rattle.exact_plane.specs.Point.{Point}
use Rattle.plane_graphs.specs.Ascending.{Member}
use Rattle.plane_graphs.specs.Graph.{Edge, Graph, curves}
use Rattle.plane_graphs.proofs.Lists.{then_appended}
use Rattle.slab_laws.specs.Text.{number, triple, ended, skeleton}
use Rattle.arr_text.proofs.Joined.{joined}
use Rattle.envelope_laws.specs.declared.which.Which.{Which}
use Rattle.envelope_laws.specs.Envelopes.{Outline, outline}
use Rattle.envelope_laws.specs.EnvelopeText.{curves_at, corner_line, stretch_line, outline_lines, outline_text}

-- ---- one line
regrouped : (a b c n : List ℕ) → (a ++ b) ++ (c ++ n) ≡ (a ++ (b ++ c)) ++ n
regrouped a b c n = simp append_assoc

-- the end of a line of curves
pub curves_put : {T E : Type 0} (r : Result T E) (ns s a b z : List ℕ) → a ≡ s ++ codes " :" → b ≡ a ++ flat_map number ns → OnOk r (z ≡ b ++ 10 ∷ []) → OnOk r (z ≡ s ++ ended (codes " :" ++ flat_map number ns))
unfolding ended
curves_put r ns s a b z e f h =
    joined r s b z (codes " :" ++ flat_map number ns) (10 ∷ []) ((codes " :" ++ flat_map number ns) ++ 10 ∷ []) (then_appended s a b (codes " :") (flat_map number ns) e f) h refl

-- the line of a vertex
pub vertex_put : {T E : Type 0} (r : Result T E) (g : Graph) (p q : Point) (ns s a b z : List ℕ) → a ≡ s ++ codes "v" → b ≡ a ++ triple q → OnOk r (z ≡ b ++ ended (codes " :" ++ flat_map number ns)) → q ≡ p → ns ≡ curves_at g p → OnOk r (z ≡ s ++ corner_line g p)
unfolding corner_line ended
vertex_put r g p q ns s a b z e f h at is =
    let line : Point → List ℕ → List ℕ = λ x cs. (codes "v" ++ (triple x ++ (codes " :" ++ flat_map number cs))) ++ 10 ∷ [] in
    joined r s b z (codes "v" ++ triple q) ((codes " :" ++ flat_map number ns) ++ 10 ∷ []) (line p (curves_at g p)) (then_appended s a b (codes "v") (triple q) e f) h
    (regrouped (codes "v") (triple q) (codes " :" ++ flat_map number ns) (10 ∷ []) ∙ ap₂ line at is)

-- the line of an edge
pub edge_put : {T E : Type 0} (r : Result T E) (g : Graph) (x : Edge) (p q : Point) (ns s a b c z : List ℕ) → a ≡ s ++ codes "e" → b ≡ a ++ triple p → c ≡ b ++ triple q → OnOk r (z ≡ c ++ ended (codes " :" ++ flat_map number ns))
    → x ≡ record { low = p; high = q } → ns ≡ curves g p q → OnOk r (z ≡ s ++ stretch_line g (Some x))
unfolding stretch_line ended
edge_put r g x p q ns s a b c z e f h k at is =
    let line : Edge → List ℕ → List ℕ = λ y cs. (codes "e" ++ (triple y.low ++ (triple y.high ++ (codes " :" ++ flat_map number cs)))) ++ 10 ∷ [] in
    let two = then_appended s a b (codes "e") (triple p) e f in
    joined r s c z ((codes "e" ++ triple p) ++ triple q) ((codes " :" ++ flat_map number ns) ++ 10 ∷ []) (line x (curves g x.low x.high)) (then_appended s b c (codes "e" ++ triple p) (triple q) two h) k
    (longer (codes "e") (triple p) (triple q) (codes " :" ++ flat_map number ns) (10 ∷ []) ∙ ap (line (record { low = p; high = q })) is ∙ ap (λ (y : Edge). line y (curves g y.low y.high)) (sym at))
  where
    longer : (a b c d n : List ℕ) → ((a ++ b) ++ c) ++ (d ++ n) ≡ (a ++ (b ++ (c ++ d))) ++ n
    longer a b c d n = simp append_assoc

-- the line of a gap
pub gap_line : (g : Graph) → codes "gap\n" ≡ stretch_line g None
unfolding stretch_line ended
gap_line g = refl

-- ---- in turn
-- what holds of all that is in the list, of one that is looked at there
pub where_some : {X : Type 0} (P : X → Type 0) (os : List (Option X)) (o : Option X) → ((x : X) → Member (Some x) os → P x) → Member o os → IfSome o P
where_some P os None f m = tt
where_some P os (Some x) f m = f x m

module _ (g : Graph) {U O : Type 0} (at : U → Point) (on : O → Option Edge) where
  -- the lines of these vertices, and of what is between them
  abbrev pub lines : List U → List O → List ℕ
  lines us os = outline_lines g (map at us) (map on os)

  pub no_lines : (us : List U) (os : List O) (s : List ℕ) → s ≡ s ++ lines (take 0 us) (take 0 os)
  unfolding outline_lines
  no_lines us os s = sym (append-nil s)

  moved : (c d r x : List ℕ) → c ++ (d ++ (r ++ x)) ≡ (c ++ (d ++ r)) ++ x
  moved c d r x = simp append_assoc

  -- one vertex more, with nothing after it
  last_of : (us : List U) (i : ℕ) (d : U) → i < length us → lines (take (suc i) us) [] ≡ lines (take i us) [] ++ corner_line g (at (get_or us i d))
  unfolding outline_lines
  last_of [] i d l = absurd (omega (arith, l))
  last_of (u ∷ us) zero d l = append-nil (corner_line g (at u))
  last_of (u ∷ us) (suc i) d l =
      ap (λ r. corner_line g (at u) ++ r) (last_of us i d (omega (arith, l))) ∙ sym (append_assoc (corner_line g (at u)) (lines (take i us) []) (corner_line g (at (get_or us i d))))

  alone_by : (us : List U) (os : List O) (i : ℕ) (d : U) → i < length us → length os ≤ i → lines (take (suc i) us) (take (suc i) os) ≡ lines (take i us) (take i os) ++ corner_line g (at (get_or us i d))
  unfolding outline_lines
  alone_by [] os i d l k = absurd (omega (arith, l))
  alone_by (u ∷ us) [] i d l k = last_of (u ∷ us) i d l ∙ ap (λ (xs : List O). lines (take i (u ∷ us)) xs ++ corner_line g (at (get_or (u ∷ us) i d))) (sym (take-nil i))
  alone_by (u ∷ us) (o ∷ os) zero d l k = absurd (omega (arith, k))
  alone_by (u ∷ us) (o ∷ os) (suc i) d l k =
      ap (λ r. corner_line g (at u) ++ (stretch_line g (on o) ++ r)) (alone_by us os i d (omega (arith, l)) (omega (arith, k)))
      ∙ moved (corner_line g (at u)) (stretch_line g (on o)) (lines (take i us) (take i os)) (corner_line g (at (get_or us i d)))

  -- one vertex more, with what is after it
  both_by : (us : List U) (os : List O) (i : ℕ) (d : U) (e : O) → i < length us → i < length os → lines (take (suc i) us) (take (suc i) os) ≡ lines (take i us) (take i os) ++ (corner_line g (at (get_or us i d)) ++ stretch_line g (on (get_or os i e)))
  unfolding outline_lines
  both_by [] os i d e l k = absurd (omega (arith, l))
  both_by (u ∷ us) [] i d e l k = absurd (omega (arith, k))
  both_by (u ∷ us) (o ∷ os) zero d e l k = ap (λ r. corner_line g (at u) ++ r) (append-nil (stretch_line g (on o)))
  both_by (u ∷ us) (o ∷ os) (suc i) d e l k =
      ap (λ r. corner_line g (at u) ++ (stretch_line g (on o) ++ r)) (both_by us os i d e (omega (arith, l)) (omega (arith, k)))
      ∙ moved (corner_line g (at u)) (stretch_line g (on o)) (lines (take i us) (take i os)) (corner_line g (at (get_or us i d)) ++ stretch_line g (on (get_or os i e)))

  -- all vertices, and what is between them
  all_by : (us : List U) (os : List O) (n : ℕ) → length us ≤ n → lines (take n us) (take n os) ≡ lines us os
  unfolding outline_lines
  all_by [] os zero l = refl
  all_by [] os (suc n) l = refl
  all_by (u ∷ us) os zero l = absurd (omega (arith, l))
  all_by (u ∷ us) [] (suc n) l = ap (λ r. corner_line g (at u) ++ r) (ap (λ (xs : List O). lines (take n us) xs) (sym (take-nil n)) ∙ all_by us [] n (omega (arith, l)))
  all_by (u ∷ us) (o ∷ os) (suc n) l = ap (λ r. corner_line g (at u) ++ (stretch_line g (on o) ++ r)) (all_by us os n (omega (arith, l)))

  -- ---- as the code comes to it
  module _ (us : List U) (os : List O) (i : ℕ) (s a b : List ℕ) (was : a ≡ s ++ lines (take i us) (take i os)) where
    pub one_vertex : (d : U) → i < length us → length os ≤ i → b ≡ a ++ corner_line g (at (get_or us i d)) → b ≡ s ++ lines (take (i + 1) us) (take (i + 1) os)
    one_vertex d l k e =
        let more : suc i ≡ i + 1 = omega arith in
        then_appended s a b (lines (take i us) (take i os)) (corner_line g (at (get_or us i d))) was e
        ∙ ap (λ r. s ++ r) (sym (alone_by us os i d l k))
        ∙ ap (λ (n : ℕ). s ++ lines (take n us) (take n os)) more

    pub one_stretch : (d : U) (o : O) (m : List ℕ) → i < length us → i < length os → m ≡ a ++ corner_line g (at (get_or us i d)) → b ≡ m ++ stretch_line g (on (get_or os i o)) → b ≡ s ++ lines (take (i + 1) us) (take (i + 1) os)
    one_stretch d o m l k e f =
        let more : suc i ≡ i + 1 = omega arith in
        then_appended s a b (lines (take i us) (take i os)) (corner_line g (at (get_or us i d)) ++ stretch_line g (on (get_or os i o))) was
        (then_appended a m b (corner_line g (at (get_or us i d))) (stretch_line g (on (get_or os i o))) e f)
        ∙ ap (λ r. s ++ r) (sym (both_by us os i d o l k))
        ∙ ap (λ (n : ℕ). s ++ lines (take n us) (take n os)) more

    pub all_lines : length us ≤ i → a ≡ s ++ lines us os
    all_lines l = was ∙ ap (λ r. s ++ r) (all_by us os i l)

-- ---- the whole
pub envelope_put : {T E : Type 0} (r : Result T E) (w : Which) (g : Graph) (o : Outline) (n : ℕ) (s a b c d z : List ℕ) → a ≡ s ++ codes "envelope" → b ≡ a ++ number n → c ≡ b ++ 10 ∷ [] → d ≡ c ++ outline_lines g o.vertices o.between → OnOk r (z ≡ d ++ codes "end\n")
    → n ≡ length o.vertices → o ≡ outline w (skeleton g) → OnOk r (z ≡ s ++ outline_text w g)
unfolding outline_text ended
envelope_put r w g o n s a b c d z e f h k m count is =
    let text : Outline → ℕ → List ℕ = λ x m. ((codes "envelope" ++ number m) ++ 10 ∷ []) ++ (outline_lines g x.vertices x.between ++ codes "end\n") in
    let title : b ≡ s ++ (codes "envelope" ++ number n) = then_appended s a b (codes "envelope") (number n) e f in
    let first : c ≡ s ++ ((codes "envelope" ++ number n) ++ 10 ∷ []) = then_appended s b c (codes "envelope" ++ number n) (10 ∷ []) title h in
    let all = then_appended s c d ((codes "envelope" ++ number n) ++ 10 ∷ []) (outline_lines g o.vertices o.between) first k in
    joined r s d z (((codes "envelope" ++ number n) ++ 10 ∷ []) ++ outline_lines g o.vertices o.between) (codes "end\n") (outline_text w g) all m
    (append_assoc ((codes "envelope" ++ number n) ++ 10 ∷ []) (outline_lines g o.vertices o.between) (codes "end\n")
    ∙ ap (text o) count ∙ ap (λ (x : Outline). text x (length x.vertices)) is)
