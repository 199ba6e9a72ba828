-- Names of curves, their pieces, and what is read of a history.
use Rattle.std.proofs.Common.{◌≡◌, ◌≢◌, ◌⊎◌, ◌↔◌, ⊎_elim, inl, inr, ℕ, suc, ◌+◌, ◌≤◌, ◌<◌, ◌^◌, ◌==◌, cond, not, Bool, true, false, List, [], ◌∷◌, ◌++◌, length, map, reverse, Option, Some, None, option_map, IfSome, IsSome, is_some, Contains, refl, sym, ap, subst, ◌∙◌, Less, arith, Fits, w32}
use Rattle.std.specs.List.{filter, AllByRecursion, IsDistinct}
use Rattle.std.specs.List.Retain.{IsFiltered, DiffersFromLast}
use Rattle.std.specs.Ordering.{nat_cmp}
use Rattle.std.proofs.lemmas.Bool.{cases_eq, eq-eqb, false≢true}
use Rattle.std.proofs.lemmas.Cmp.{nat_cmp_total}
use Rattle.std.proofs.lemmas.List.{length-map}
use Rattle.plane_graphs.specs.Ascending.{ascending, Member, IsAscending}
use Rattle.plane_graphs.specs.Piece.{Piece as PieceModel}
use Rattle.plane_graphs.specs.Graph.{same_curve}
use Rattle.plane_graphs.proofs.Ascending.{IsAscending-ascending, All-member, to_member, from_member}
use Rattle.plane_graphs.proofs.Lists.{in_filter, of_filter, in_map, of_map, in_ascending, of_ascending, in_left, in_right, in_either, IsAscending-filter, not_in, not_out, clash, some_of}
use Rattle.plane_graphs.proofs.Order.{curve_out, curve_in}
use Rattle.slab_laws.specs.declared.present.Piece.{Piece as PieceInMemory}
use Rattle.slab_laws.specs.declared.names.DartId.{DartId}
use Rattle.slab_laws.specs.Tables.{row_at, names}
use Rattle.slab_laws.specs.View.{dart_id}
use Rattle.slab_laws.specs.declared.names.CurveId.{CurveId}
use Rattle.slab_laws.specs.FaceLists.{AreOnce}
use Rattle.slab_laws.specs.Pieces.{piece_of}
use Rattle.curve_history.proofs.Descending.{ascends_snoc, map_reverse}
use Rattle.curve_history.proofs.Numbers.{fits}
use Rattle.chain_laws.specs.Links.{trail}
use Rattle.linked_chains.specs.Chains.{Chained, Link, IsWhole, HasKey, entry_at, first_in, after_in, chain}
use Rattle.linked_chains.specs.declared.node.Entry.{Entry}
use Rattle.curve_history.specs.declared.history.History.TheInside.{Inside}
use Rattle.curve_pieces.specs.PieceRows.{Rowed, items, LosesCurve as LosesRowsOf}
use Rattle.curve_history.specs.Past.{Past, curves_on, strands_on, curves_of}
use Rattle.edit_steps.specs.EditLaws.{curve_of}
use Rattle.curve_history.specs.HistoryInMemory.{entry, item_in, items_along, IsDescending, Says, ArePairs, AreFilled, number_of, named_in, pairs_in, IsSoundHistory}
use Rattle.curve_history.proofs.Reading.{listed_from, held_is}
use Rattle.curve_history.proofs.Histories.{IsSeen, has_name, has_of_named, named_of_has, named_from, named_ascend, says_runs, runs_says, same_length, listed_is}
use Rattle.curve_history.specs.Changed.{IsRoomier}
use Rattle.curve_history.proofs.Placing.{ordered_roomier}
use Rattle.curve_history.proofs.Sides.{IsUp, curves_up, kept_once, strands_ascend}
use Rattle.curve_history.proofs.Twins.{beside, beside_back, twins_with_key, twins_with_curve, says_there}
use Rattle.curve_history.proofs.Walking.{apart, node_at, item_is, none_there}
use Rattle.integers.proofs.Tests.{less_nat, nat_exact, nat_tied, not_tied, other_number}

-- ---- lists of numbers

-- numbers that ascend from one bound to another are no more than there is room for
within : (low high : ℕ) (xs : List ℕ) → low ≤ high → IsAscending nat_cmp xs → ((x : ℕ) → Member x xs → (low ≤ x) × (x < high)) → low + length xs ≤ high
within low high [] l a f = omega arith
within low high (x ∷ xs) l a f =
    let b : (low ≤ x) × (x < high) = f x (inl refl) in
    let r : suc x + length xs ≤ high = within (suc x) high xs (omega (arith, b.1)) a.1 (λ y m. (above_suc y (All-member (λ z. nat_cmp x z ≡ Less) y xs a.0 m), (f y (inr m)).1)) in
    omega (arith, b.0, r)
  where
    above_suc : (y : ℕ) → nat_cmp x y ≡ Less → suc x ≤ y
    above_suc y e = let h = less_nat x y e in omega arith

-- ---- names
-- one name more, past all others
pub named_snoc : (c c' : Chained) (n : ℕ) → ((k : ℕ) → HasKey c k → k < n) → ((k : ℕ) → HasKey c' k ↔ (HasKey c k ⊎ (k ≡ n))) → named_in c' ≡ named_in c ++ n ∷ []
named_snoc c c' n f h = named_from c' (named_in c ++ n ∷ []) (ascends_snoc (named_in c) n (named_ascend c) (λ k m. f k (has_of_named c k m)))
    (λ k m. (h k).1 (⊎_elim (λ g. inl (has_of_named c k g)) last (in_either k (named_in c) (n ∷ []) m)))
    (λ k g. ⊎_elim (λ o. in_left k (named_in c) (n ∷ []) (named_of_has c k o)) (λ e. in_right k (named_in c) (n ∷ []) (inl e)) ((h k).0 g))
  where
    last : {k : ℕ} → Member k (n ∷ []) → HasKey c k ⊎ (k ≡ n)
    last (inl e) = inr e
    last (inr m) = absurd m

-- one name fewer
pub named_less : (c c' : Chained) (n : ℕ) → ((k : ℕ) → HasKey c' k ↔ (HasKey c k × (k ≢ n))) → named_in c' ≡ filter (λ k. not (same_curve k n)) (named_in c)
named_less c c' n h = named_from c' (filter (λ k. not (same_curve k n)) (named_in c)) (IsAscending-filter nat_cmp (λ k. not (same_curve k n)) (named_in c) (named_ascend c))
    (λ k m. let f = of_filter (λ k. not (same_curve k n)) k (named_in c) m in (h k).1 (has_of_named c k f.0, λ e. clash (curve_in k n e) (not_out (same_curve k n) f.1)))
    (λ k g. let o = (h k).0 g in in_filter (λ k. not (same_curve k n)) k (named_in c) (named_of_has c k o.0) (not_in (same_curve k n) (λ q. o.1 (curve_out k n q))))

pub named_none : (c : Chained) → c.heads ≡ [] → named_in c ≡ []
unfolding ascending
named_none c h = ap (λ (hs : List (ℕ × Option ℕ)). ascending nat_cmp (names hs)) h

-- how many there are
pub named_length : (c : Chained) → IsDistinct ◌==◌ (names c.heads) → length (named_in c) ≡ length c.heads
named_length c d = same_length (names c.heads) (apart (names c.heads) d) ∙ length-map c.heads (λ r. r.0)

pub few_named : (c : Chained) (n : Option ℕ) → IfSome n (λ n. (1 ≤ n) × (n < 2 ^ 32)) → ((k : ℕ) → HasKey c k → (1 ≤ k) × (k < number_of n)) → length (named_in c) < 2 ^ 32
few_named c n l f =
    let b : (1 ≤ number_of n) × (number_of n ≤ 2 ^ 32) = bounds n l in
    let w : 1 + length (named_in c) ≤ number_of n = within 1 (number_of n) (named_in c) b.0 (named_ascend c) (λ k m. f k (has_of_named c k m)) in
    omega (arith, b.1, w)
  where
    bounds : (n : Option ℕ) → IfSome n (λ n. (1 ≤ n) × (n < 2 ^ 32)) → (1 ≤ number_of n) × (number_of n ≤ 2 ^ 32)
    bounds None l = (omega arith, omega arith)
    bounds (Some n) l = (l.0, omega (arith, l.1))

-- every number that has a name fits
pub number_fits : (n : Option ℕ) (k : ℕ) → IfSome n (λ n. (1 ≤ n) × (n < 2 ^ 32)) → k < number_of n → k < 2 ^ 32
number_fits None k l h = h
number_fits (Some n) k l h = omega (arith, l.1)

-- ---- a curve that runs along no edge
pub chain_free : (i : Inside) (old : Past) (k : ℕ) → IsSeen i old → ArePairs i.by_edge i.by_curve → IsWhole i.by_curve k → ((d : DartId) → ¬ Member k (curves_on old d)) → chain i.by_curve k ≡ []
chain_free i old k v t w f = none_there (chain i.by_curve k) each
  where
    each : (n : ℕ) → Member n (chain i.by_curve k) → ⊥
    each n m =
        let u = node_at i.by_curve k n w m in
        let b = beside_back i.by_edge i.by_curve n k (item_in i.by_curve n) u.0 t u.1 in
        let r : Member (curve_of b.0) (curves_on old (dart_id (item_in i.by_curve n))) = says_runs i old v (dart_id (item_in i.by_curve n)) b.0 (record { node = u.0; twin = n; is = b.2 }) in
        f (dart_id (item_in i.by_curve n)) (subst (λ c. Member c (curves_on old (dart_id (item_in i.by_curve n)))) (sym b.1) r)

-- two tests that agree leave the same
filter_alike : {X : Type 0} (p q : X → Bool) → ((x : X) → p x ≡ q x) → (xs : List X) → filter p xs ≡ filter q xs
filter_alike p q h [] = refl
filter_alike p q h (x ∷ xs) = ap (λ b. cond b (x ∷ filter p xs) (filter p xs)) (h x) ∙ ap (λ ys. cond (q x) (x ∷ ys) ys) (filter_alike p q h xs)

alike : (m n : ℕ) → (m == n) ≡ same_curve m n
alike m n = elim (cases_eq m n) [
  | inl q ↦ eq-eqb m n q ∙ sym (curve_in m n q)
  | inr ne ↦ other_number m n ne ∙ sym (not_out (same_curve m n) (not_in (same_curve m n) (λ e. ne (curve_out m n e))))
]

-- what a filter leaves of what is read
pub filter_map : {X Y : Type 0} (f : X → Y) (p : Y → Bool) (xs : List X) → map f (filter (λ x. p (f x)) xs) ≡ filter p (map f xs)
filter_map f p [] = refl
filter_map f p (x ∷ xs) = step (p (f x)) (filter_map f p xs)
  where
    step : (b : Bool) → map f (filter (λ x. p (f x)) xs) ≡ filter p (map f xs) → map f (cond b (x ∷ filter (λ x. p (f x)) xs) (filter (λ x. p (f x)) xs)) ≡ cond b (f x ∷ filter p (map f xs)) (filter p (map f xs))
    step true h = ap (λ ys. f x ∷ ys) h
    step false h = h

-- ---- nothing
none_at : (c : Chained) (n : ℕ) (e : Entry) → c.nodes ≡ [] → entry_at c n ≡ Some e → ⊥
unfolding row_at
none_at c n e h g = never (sym (ap (λ (rs : List (ℕ × Link)). option_map (λ (l : Link). l.entry) (row_at rs n)) h) ∙ g)
  where
    never : None ≡ Some e → ⊥
    never q = absurd cc

no_key : (c : Chained) (k : ℕ) → c.heads ≡ [] → ¬ HasKey c k
unfolding row_at
no_key c k h g = false≢true (subst (λ (hs : List (ℕ × Option ℕ)). IsSome (row_at hs k)) h g)

no_steps : (after : ℕ → Option ℕ) (o : Option ℕ) → trail after 0 o ≡ []
unfolding trail
no_steps after None = refl
no_steps after (Some n) = refl

no_chain : (c : Chained) (k : ℕ) → c.nodes ≡ [] → chain c k ≡ []
unfolding chain
no_chain c k h = ap (λ s. trail (after_in c) s (first_in c k)) (ap length h) ∙ no_steps (after_in c) (first_in c k)

pub kept_none : (e c : Chained) (p : Rowed) (n : Option ℕ) → e.nodes ≡ [] → c.nodes ≡ [] → e.heads ≡ [] → c.heads ≡ [] → p.rows ≡ [] → IfSome n (λ n. (1 ≤ n) × (n < 2 ^ 32)) → IsSoundHistory e c p n
kept_none e c p n en cn eh ch pe l = record {
  pairs = record {
    forth = record { twin = λ x f h. absurd (none_at e x f en h) };
    back = record { twin = λ x f h. absurd (none_at c x f cn h) };
    once = λ x y k i s t h g. absurd (none_at e x (entry k i s) en h);
  };
  filled = record { key = λ k h. absurd (no_key e k eh h) };
  ordered = λ k. subst (λ xs. IsDescending (map (item_in e) xs)) (sym (no_chain e k en)) tt;
  numbers = λ k h. absurd (no_key c k ch h);
  last = l;
  few = let q : length p.rows ≡ 0 = ap length pe in omega arith;
}

pub held_nothing : (new : Past) (e : Chained) → new.pairs ≡ pairs_in e → e.nodes ≡ [] → (d : DartId) → strands_on new d ≡ []
held_nothing new e h n d = held_is new e d h ∙ listed_from e d.0 [] tt (λ k m. absurd m) (λ k s. absurd (none_at e s.node (entry d.0 k s.twin) n s.is))

-- a filter leaves no more than there was
no_more_left : {X : Type 0} (p : X → Bool) (xs : List X) → length (filter p xs) ≤ length xs
no_more_left p [] = omega arith
no_more_left p (x ∷ xs) = by (p x) (no_more_left p xs)
  where
    by : (b : Bool) → length (filter p xs) ≤ length xs → length (cond b (x ∷ filter p xs) (filter p xs)) ≤ length (x ∷ xs)
    by true h = omega (arith, h)
    by false h = omega (arith, h)

-- a name less, with its pieces, leaves a history
pub kept_less : (e c c' : Chained) (p q : Rowed) (m : ℕ) (n : Option ℕ) → IsSoundHistory e c p n → ((k : ℕ) → HasKey c' k → HasKey c k) → c'.nodes ≡ c.nodes → LosesRowsOf p q m → IsSoundHistory e c' q n
kept_less e c c' p q m n k has nodes lost = record {
  pairs = twins_with_curve e c c' nodes k.pairs;
  filled = k.filled;
  ordered = k.ordered;
  numbers = λ x h. k.numbers x (has x h);
  last = k.last;
  few = let a = ap length lost in let b = no_more_left (λ (r : ℕ × PieceInMemory). not (r.1.curve.0 == m)) p.rows in omega (arith, a, b, k.few);
}

-- more room leaves a history as it is
pub kept_roomier : (e c e' c' : Chained) (p q : Rowed) (n : Option ℕ) → IsSoundHistory e c p n → IsRoomier e e' → IsRoomier c c' → length q.rows < 2 ^ 32 → IsSoundHistory e' c' q n
kept_roomier e c e' c' p q n k a b f = record {
  pairs = twins_with_curve e' c c' b.nodes (twins_with_key e e' c a.nodes k.pairs);
  filled = record { key = λ x h. let s = k.filled.key x (subst (λ (hs : List (ℕ × Option ℕ)). IsSome (row_at hs x)) a.heads h) in (s.0, says_there e e' x s.0 a.nodes s.1) };
  ordered = ordered_roomier e e' a k.ordered;
  numbers = λ x h. k.numbers x (subst (λ (hs : List (ℕ × Option ℕ)). IsSome (row_at hs x)) b.heads h);
  last = k.last;
  few = f;
}

-- a curve along an edge fits
pub curve_fits : (i : Inside) → ArePairs i.by_edge i.by_curve → ((n : ℕ) (x : Entry) → entry_at i.by_curve n ≡ Some x → HasKey i.by_curve x.key) → ((k : ℕ) → HasKey i.by_curve k → (1 ≤ k) × (k < number_of i.next)) → IfSome i.next (λ n. (1 ≤ n) × (n < 2 ^ 32)) → (d z : ℕ) → Says i.by_edge d z → curve_of z < 2 ^ 32
curve_fits i t keys numbers l d z s = number_fits i.next (curve_of z) l (numbers (curve_of z) (keys s.twin (entry (curve_of z) d s.node) (beside i.by_edge i.by_curve s.node d z s.twin t s.is))).1

same_number : {X : Type 0} (f : X → ℕ) (x : X) (ys : List X) → (Member (f x) (map f ys) → ⊥) → AllByRecursion (λ y. (f x == f y) ≡ false) ys
same_number f x [] g = tt
same_number f x (y ∷ ys) g = (other_number (f x) (f y) (λ e. g (inl e)), same_number f x ys (λ m. g (inr m)))

pub differ_by : {X : Type 0} (f : X → ℕ) (xs : List X) → AreOnce (map f xs) → IsDistinct (λ a b. f a == f b) xs
unfolding IsDistinct
differ_by f [] a = tt
differ_by f (x ∷ xs) a = (same_number f x xs a.0, differ_by f xs a.1)

-- the edges of a list, each once
module _ (old new : List DartId) (h : map (λ (d : DartId). d.0) new ≡ ascending nat_cmp (map (λ (d : DartId). d.0) old)) where
  ascends_once : (xs : List ℕ) → IsAscending nat_cmp xs → AreOnce xs
  ascends_once [] a = tt
  ascends_once (x ∷ xs) a = (λ m. not_tied x x (less_nat x x (All-member (λ y. nat_cmp x y ≡ Less) x xs a.0 m)) (nat_tied x x refl), ascends_once xs a.1)

  pub darts_once : IsDistinct (λ a b. a.0 == b.0) new
  darts_once = differ_by (λ (d : DartId). d.0) new (subst AreOnce (sym h) (ascends_once (ascending nat_cmp (map (λ (d : DartId). d.0) old)) (IsAscending-ascending nat_cmp nat_cmp_total (map (λ (d : DartId). d.0) old))))

  named_dart : (d : DartId) (ds : List DartId) → Member d.0 (map (λ (d : DartId). d.0) ds) → Contains ds d
  named_dart d ds m = let x = of_map (λ (d : DartId). d.0) d.0 ds m in from_member ds d (subst (λ (y : DartId). Member y ds) (sym (ap dart_id x.2)) x.1)

  dart_named : (d : DartId) (ds : List DartId) → Contains ds d → Member d.0 (map (λ (d : DartId). d.0) ds)
  dart_named d ds c = in_map (λ (d : DartId). d.0) d ds (to_member ds d c)

  pub darts_same : (d : DartId) → Contains new d ↔ Contains old d
  darts_same d = (
    λ c. named_dart d old (of_ascending nat_cmp nat_cmp_total nat_exact d.0 (map (λ (d : DartId). d.0) old) (subst (λ ns. Member d.0 ns) h (dart_named d new c))),
    λ c. named_dart d new (subst (λ ns. Member d.0 ns) (sym h) (in_ascending nat_cmp nat_cmp_total nat_exact d.0 (map (λ (d : DartId). d.0) old) (dart_named d old c))),
  )

-- the edges that a curve's nodes say
module _ (i : Inside) (old : Past) (v : IsSeen i old) (t : ArePairs i.by_edge i.by_curve) (k : ℕ) (w : IsWhole i.by_curve k) (ds : List DartId) (h : map (λ (d : DartId). d.0) ds ≡ map (item_in i.by_curve) (chain i.by_curve k)) where
  runs : (d : DartId) → Contains ds d → Member k (curves_on old d)
  runs d m =
      let a : Member d.0 (map (item_in i.by_curve) (chain i.by_curve k)) = subst (λ ns. Member d.0 ns) h (in_map (λ (d : DartId). d.0) d ds (to_member ds d m)) in
      let n = of_map (item_in i.by_curve) d.0 (chain i.by_curve k) a in
      let u = node_at i.by_curve k n.0 w n.1 in
      let s : entry_at i.by_curve n.0 ≡ Some (entry k d.0 u.0) = subst (λ j. entry_at i.by_curve n.0 ≡ Some (entry k j u.0)) (sym n.2) u.1 in
      let b = beside_back i.by_edge i.by_curve n.0 k d.0 u.0 t s in
      subst (λ c. Member c (curves_on old d)) (sym b.1) (says_runs i old v d b.0 (record { node = u.0; twin = n.0; is = b.2 }))

  along : (d : DartId) → Member k (curves_on old d) → Contains ds d
  along d m =
      let z = runs_says i old v d k m in
      let s = z.2 in
      let g : entry_at i.by_curve s.twin ≡ Some (entry k d.0 s.node) = subst (λ c. entry_at i.by_curve s.twin ≡ Some (entry c d.0 s.node)) (sym z.1) (beside i.by_edge i.by_curve s.node d.0 z.0 s.twin t s.is) in
      let c : Contains (chain i.by_curve k) s.twin = (w.members s.twin).1 (entry k d.0 s.node, g, refl) in
      let a : Member (item_in i.by_curve s.twin) (map (item_in i.by_curve) (chain i.by_curve k)) = in_map (item_in i.by_curve) s.twin (chain i.by_curve k) (to_member (chain i.by_curve k) s.twin c) in
      let b : Member d.0 (map (λ (d : DartId). d.0) ds) = subst (λ ns. Member d.0 ns) (sym h) (subst (λ j. Member j (map (item_in i.by_curve) (chain i.by_curve k))) (item_is i.by_curve s.twin (entry k d.0 s.node) g) a) in
      let x = of_map (λ (d : DartId). d.0) d.0 ds b in
      from_member ds d (subst (λ (y : DartId). Member y ds) (sym (ap dart_id x.2)) x.1)

  pub edges_are : (es : List DartId) → ((d : DartId) → Contains es d ↔ Contains ds d) → (d : DartId) → Contains es d ↔ Member k (curves_on old d)
  edges_are es same d = (λ c. runs d ((same d).0 c), λ m. (same d).1 (along d m))

-- ---- in the history's words
module _ (i : Inside) (old : Past) (v : IsSeen i old) where
  pub drawn_names : (c' : Chained) (n : ℕ) → i.next ≡ Some n → ((k : ℕ) → HasKey i.by_curve k → (1 ≤ k) × (k < number_of i.next)) → ((k : ℕ) → HasKey c' k ↔ (HasKey i.by_curve k ⊎ (k ≡ n))) → named_in c' ≡ old.names ++ old.next ∷ []
  drawn_names c' n e f h =
      let q : old.next ≡ n = v.next ∙ ap number_of e in
      rw (v.names, q) (named_snoc i.by_curve c' n (λ k g. subst (λ m. k < m) (ap number_of e) (f k g).1) h)

  pub less_names : (c' : Chained) (n : ℕ) → ((k : ℕ) → HasKey c' k ↔ (HasKey i.by_curve k × (k ≢ n))) → named_in c' ≡ filter (λ k. not (same_curve k n)) old.names
  less_names c' n h = rw v.names (named_less i.by_curve c' n h)

  pub less_pieces : (p : Rowed) (n : ℕ) → LosesRowsOf i.pieces p n → map piece_of (items p) ≡ filter (λ k. not (same_curve k.curve n)) old.pieces
  less_pieces p n e =
      rw v.pieces
      (ap (λ rs. map piece_of (map (λ (r : ℕ × PieceInMemory). r.1) rs)) e
      ∙ ap (map piece_of) (filter_map (λ (r : ℕ × PieceInMemory). r.1) (λ k. not (k.curve.0 == n)) i.pieces.rows)
      ∙ filter_map piece_of (λ k. not (k.curve == n)) (items i.pieces)
      ∙ filter_alike (λ (k : PieceModel). not (k.curve == n)) (λ k. not (same_curve k.curve n)) (λ k. ap not (alike k.curve n)) (map piece_of (items i.pieces)))

  pub counted : (count : ℕ) → IsDistinct ◌==◌ (names i.by_curve.heads) → count ≡ length i.by_curve.heads → count ≡ length old.names
  counted count d e = e ∙ sym (named_length i.by_curve d) ∙ ap length (sym v.names)

  -- turned round, and each once, an edge's curves are those of its nodes
  pub curves_are : (d : DartId) → IsWhole i.by_edge d.0 → IsDescending (items_along i.by_edge d.0) → (us vs ws : List CurveId) → map (λ (c : CurveId). c.0) us ≡ map curve_of (items_along i.by_edge d.0) → vs ≡ reverse us → IsFiltered (DiffersFromLast (λ (a b : CurveId). a.0 == b.0)) [] vs ws → map (λ (c : CurveId). c.0) ws ≡ curves_on old d
  unfolding curves_on curves_of
  curves_are d w o us vs ws h r f =
      let turned : map (λ (c : CurveId). c.0) vs ≡ map curve_of (strands_on old d) = ap (map (λ (c : CurveId). c.0)) r ∙ map_reverse (λ (c : CurveId). c.0) us ∙ ap reverse h ∙ sym (map_reverse curve_of (items_along i.by_edge d.0)) ∙ ap (map curve_of) (sym (listed_is i.by_edge d.0 w o) ∙ sym (held_is old i.by_edge d v.pairs)) in
      kept_once vs ws (subst (λ xs. IsUp xs) (sym turned) (curves_up (strands_on old d) (strands_ascend old d))) f ∙ ap (ascending nat_cmp) turned

pub count_fits : (c : Chained) (n : Option ℕ) (count : ℕ) → IsDistinct ◌==◌ (names c.heads) → count ≡ length c.heads → IfSome n (λ n. (1 ≤ n) × (n < 2 ^ 32)) → ((k : ℕ) → HasKey c k → (1 ≤ k) × (k < number_of n)) → Fits w32 count
count_fits c n count d e l f = fits count (subst (λ m. m < 2 ^ 32) (named_length c d ∙ sym e) (few_named c n l f))

-- whether a curve has a name, as the code asks
module _ (i : Inside) (old : Past) (v : IsSeen i old) (k : ℕ) (b : Bool) (h : b ≡ is_some (row_at i.by_curve.heads k)) where
  pub without_name : b ≡ false → ¬ Member k old.names
  without_name f m = false≢true (sym f ∙ h ∙ has_name i old v k m)

  pub with_name : b ≡ true → Member k old.names
  with_name t = subst (Member k) (sym v.names) (named_of_has i.by_curve k (sym h ∙ t))

-- ---- whether there are curves along an edge

module _ (i : Inside) (old : Past) (v : IsSeen i old) (d : DartId) (b : Bool) (h : b ≡ is_some (row_at i.by_edge.heads d.0)) where
  pub told_by_key : AreFilled i.by_edge → ((n : ℕ) (x : Entry) → entry_at i.by_edge n ≡ Some x → HasKey i.by_edge x.key) → (b ≡ true) ↔ (curves_on old d ≢ [])
  told_by_key f keys = (
    λ t e. let s = f.key d.0 (sym h ∙ t) in subst (Member (curve_of s.0)) e (says_runs i old v d s.0 s.1),
    λ g. let m = some_of (curves_on old d) g in let z = runs_says i old v d m.0 m.1 in h ∙ keys z.2.node (entry d.0 z.0 z.2.twin) z.2.is,
  )

-- ---- what is true of all histories
module _ (i : Inside) (old : Past) (v : IsSeen i old) where
  pub held_named : ArePairs i.by_edge i.by_curve → ((n : ℕ) (x : Entry) → entry_at i.by_curve n ≡ Some x → HasKey i.by_curve x.key) → (d : DartId) (k : ℕ) → Member k (curves_on old d) → Member k old.names
  held_named t keys d k m =
      let z = runs_says i old v d k m in
      let s = z.2 in
      subst (Member k) (sym v.names) (named_of_has i.by_curve k (subst (HasKey i.by_curve) (sym z.1) (keys s.twin (entry (curve_of z.0) d.0 s.node) (beside i.by_edge i.by_curve s.node d.0 z.0 s.twin t s.is))))

  pub names_ascend : IsAscending nat_cmp old.names
  names_ascend = subst (IsAscending nat_cmp) (sym v.names) (named_ascend i.by_curve)

  pub names_within : ((k : ℕ) → HasKey i.by_curve k → (1 ≤ k) × (k < number_of i.next)) → (k : ℕ) → Member k old.names → (1 ≤ k) × (k < old.next)
  names_within f k m = subst (λ n. (1 ≤ k) × (k < n)) (sym v.next) (f k (has_name i old v k m))

  pub next_within : IfSome i.next (λ n. (1 ≤ n) × (n < 2 ^ 32)) → old.next ≤ 2 ^ 32
  next_within l = subst (λ n. n ≤ 2 ^ 32) (sym v.next) (most i.next l)
    where
      most : (n : Option ℕ) → IfSome n (λ n. (1 ≤ n) × (n < 2 ^ 32)) → number_of n ≤ 2 ^ 32
      most None l = omega arith
      most (Some n) l = omega (arith, l.1)

  pub pieces_few : length i.pieces.rows < 2 ^ 32 → length old.pieces < 2 ^ 32
  pieces_few h = subst (λ n. n < 2 ^ 32) (sym (ap length v.pieces ∙ length-map (items i.pieces) piece_of ∙ length-map i.pieces.rows (λ (r : ℕ × PieceInMemory). r.1))) h
