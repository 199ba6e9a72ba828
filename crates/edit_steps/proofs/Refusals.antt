-- What a refusal is by the tests that it makes, and what a call answers for want of memory.
use Rattle.std.proofs.Common.{◌≡◌, ℕ, ◌+◌, ◌<◌, ◌≤◌, Bool, true, false, ◌&&◌, arith, length, refl, sym, ap, ◌∙◌}
use Rattle.std.specs.Prelude.{nat_le, nat_lt, Option, Some, None, if◌then◌else◌, Result, Ok, Err, IsErrAnd}
use Rattle.std.specs.List.{list_any}
use Rattle.std.proofs.lemmas.Bool.{le-leb, lt-leb, lt-ltb, le-ltb}
use Rattle.std.proofs.lemmas.Bool.Decides.{nat_tests}
use Rattle.exact_plane.specs.Point.{Point}
use Rattle.plane_graphs.specs.Line.{same_point}
use Rattle.plane_graphs.specs.Graph.{graph, vertices, same_curve, is_at, inside}
use Rattle.edit_steps.specs.Layer.{Layer}
use Rattle.edit_steps.specs.Steps.{with_cut}
use Rattle.edit_steps.specs.Refusals.{Refusal, Full, Spent, Unknown, NoEdge, NotInside, Pinned, NotPinned, NoVertex, NotMergeable, insertion_refusal, drop_refusal, cut_refusal, pin_refusal, unpin_refusal, split_refusal, is_mergeable, merge_refusal, IsAnswerFor}

-- ---- want of memory is no refusal
pub no_memory : {T E : Type 0} (said : E → Option Refusal) (x : E) (o : Option Refusal) (r : Result T E) → IsErrAnd r (λ e. e ≡ x) → said x ≡ None → o ≡ None → IsAnswerFor said o r
no_memory said x o (Err e) m n f = ap said m ∙ n ∙ sym f
no_memory said x o (Ok a) m n f = absurd m

-- ---- one more curve
room : (n limit : ℕ) → nat_lt limit n ≡ false → n ≤ limit
room n limit e = grind (arith, nat_tests)

unspent : (next last : ℕ) → nat_lt last next ≡ false → next ≤ last
unspent next last e = grind (arith, nat_tests)

module _ (sides curves pieces last : ℕ) (l : Layer) where
  allowed_by : (a b c : Bool) → (if a then Some (Full curves) else (if b then Some (Full pieces) else (if c then Some Spent else None))) ≡ None → (b ≡ false) × (c ≡ false)
  allowed_by false false false e = (refl, refl)
  allowed_by false false true e = absurd cc
  allowed_by false true c e = absurd cc
  allowed_by true b c e = absurd cc

  -- what is told of an insertion that isn't refused
  pub insertion_allowed : insertion_refusal sides curves pieces last l ≡ None → (length l.present.pieces + sides ≤ pieces) × (l.next ≤ last)
  insertion_allowed e =
      let k = allowed_by (nat_le curves (length l.names)) (nat_lt pieces (length l.present.pieces + sides)) (nat_lt last l.next) e in
      (room (length l.present.pieces + sides) pieces k.0, unspent l.next last k.1)

-- ---- a drop
module _ (l : Layer) (c : ℕ) where
  drop_by : (a : Bool) → list_any (same_curve c) l.names ≡ a → drop_refusal l c ≡ (if a then None else Some Unknown)
  drop_by a e = λ i. if e i then None else Some Unknown

  pub drop_unknown : list_any (same_curve c) l.names ≡ false → Some Unknown ≡ drop_refusal l c
  drop_unknown e = sym (drop_by false e)

  pub drop_allowed : list_any (same_curve c) l.names ≡ true → drop_refusal l c ≡ None
  drop_allowed e = drop_by true e

-- ---- a cut
module _ (pieces : ℕ) (l : Layer) (p q : Point) where
  abbrev joins : Bool
  joins = list_any (is_at p q) (graph l.present).marks

  abbrev left : ℕ
  left = length (with_cut l.present p q).pieces

  cut_by : (a b : Bool) → joins ≡ a → nat_lt pieces left ≡ b → cut_refusal pieces l p q ≡ (if a then (if b then Some (Full pieces) else None) else Some NoEdge)
  cut_by a b e f = λ i. if e i then (if f i then Some (Full pieces) else None) else Some NoEdge

  pub cut_without : joins ≡ false → Some NoEdge ≡ cut_refusal pieces l p q
  cut_without e = sym (cut_by false (nat_lt pieces left) e refl)

  pub cut_full : joins ≡ true → pieces < left → Some (Full pieces) ≡ cut_refusal pieces l p q
  cut_full e f = sym (cut_by true true e (lt-ltb pieces left f))

  pub cut_allowed : joins ≡ true → left ≤ pieces → cut_refusal pieces l p q ≡ None
  cut_allowed e f = cut_by true false e (le-ltb pieces left f)

-- ---- a pin
module _ (pins : ℕ) (l : Layer) (r : Point) where
  abbrev pinned : Bool
  pinned = list_any (same_point r) l.present.pins

  abbrev many : ℕ
  many = length l.present.pins

  pin_by : (a b : Bool) → pinned ≡ a → nat_le pins many ≡ b → pin_refusal pins l r ≡ (if a then Some Pinned else (if b then Some (Full pins) else None))
  pin_by a b e f = λ i. if e i then Some Pinned else (if f i then Some (Full pins) else None)

  pub pin_again : pinned ≡ true → Some Pinned ≡ pin_refusal pins l r
  pin_again e = sym (pin_by true (nat_le pins many) e refl)

  pub pin_full : pinned ≡ false → pins ≤ many → Some (Full pins) ≡ pin_refusal pins l r
  pin_full e f = sym (pin_by false true e (le-leb pins many f))

  pub pin_allowed : pinned ≡ false → many < pins → pin_refusal pins l r ≡ None
  pin_allowed e f = pin_by false false e (lt-leb pins many f)

-- ---- a pin fewer
module _ (l : Layer) (r : Point) where
  unpin_by : (a : Bool) → list_any (same_point r) l.present.pins ≡ a → unpin_refusal l r ≡ (if a then None else Some NotPinned)
  unpin_by a e = λ i. if e i then None else Some NotPinned

  pub unpin_none : list_any (same_point r) l.present.pins ≡ false → Some NotPinned ≡ unpin_refusal l r
  unpin_none e = sym (unpin_by false e)

  pub unpin_allowed : list_any (same_point r) l.present.pins ≡ true → unpin_refusal l r ≡ None
  unpin_allowed e = unpin_by true e

-- ---- a pin inside an edge
module _ (pins : ℕ) (l : Layer) (p q r : Point) where
  abbrev there : Bool
  there = list_any (is_at p q) (graph l.present).marks

  abbrev holds : Bool
  holds = list_any (λ m. is_at p q m && inside r m) (graph l.present).marks

  abbrev full : Bool
  full = nat_le pins (length l.present.pins)

  split_by : (a b c : Bool) → there ≡ a → holds ≡ b → full ≡ c → split_refusal pins l p q r ≡ (if a then (if b then (if c then Some (Full pins) else None) else Some NotInside) else Some NoEdge)
  split_by a b c e f g = λ i. if e i then (if f i then (if g i then Some (Full pins) else None) else Some NotInside) else Some NoEdge

  pub split_without : there ≡ false → Some NoEdge ≡ split_refusal pins l p q r
  split_without e = sym (split_by false holds full e refl refl)

  pub split_outside : there ≡ true → holds ≡ false → Some NotInside ≡ split_refusal pins l p q r
  split_outside e f = sym (split_by true false full e f refl)

  pub split_full : there ≡ true → holds ≡ true → full ≡ true → Some (Full pins) ≡ split_refusal pins l p q r
  split_full e f g = sym (split_by true true true e f g)

  pub split_allowed : there ≡ true → holds ≡ true → full ≡ false → split_refusal pins l p q r ≡ None
  split_allowed e f g = split_by true true false e f g

-- ---- two edges in one
module _ (l : Layer) (r : Point) where
  abbrev is_vertex : Bool
  is_vertex = list_any (same_point r) (vertices l.present)

  merge_by : (a b : Bool) → is_vertex ≡ a → is_mergeable l.present r ≡ b → merge_refusal l r ≡ (if a then (if b then None else Some NotMergeable) else Some NoVertex)
  merge_by a b e f = λ i. if e i then (if f i then None else Some NotMergeable) else Some NoVertex

  pub merge_without : is_vertex ≡ false → Some NoVertex ≡ merge_refusal l r
  merge_without e = sym (merge_by false (is_mergeable l.present r) e refl)

  pub merge_barred : is_vertex ≡ true → is_mergeable l.present r ≡ false → Some NotMergeable ≡ merge_refusal l r
  merge_barred e f = sym (merge_by true false e f)

  pub merge_allowed : is_vertex ≡ true → is_mergeable l.present r ≡ true → merge_refusal l r ≡ None
  merge_allowed e f = merge_by true true e f
