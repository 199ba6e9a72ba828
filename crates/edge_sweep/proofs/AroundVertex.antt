-- What a front tells of the next vertex: the lowest edge above it, and the vertical ones that end and start there.
use Rattle.std.proofs.Common.{◌≡◌, ℕ, ◌<◌, Bool, true, false, refl, sym, ap, ◌∙◌, subst, arith, ◌⊎◌, inl, inr, List, [], ◌∷◌, take, drop, Less}
use Rattle.std.specs.Prelude.{pos, Some, None}
use Rattle.std.specs.List.{Contains, prefix_len}
use Rattle.std.specs.List.Sorted.{IsPartitionPoint}
use Rattle.std.proofs.lemmas.Int.{ints}
use Rattle.std.proofs.lemmas.Bool.{false≢true, false_from_ne_true, cases_Bool}
use Rattle.exact_plane.specs.Point.{Point}
use Rattle.plane_graphs.specs.Ascending.{Member, IsAscending}
use Rattle.plane_graphs.specs.Graph.{Edge}
use Rattle.plane_graphs.specs.Line.{IsProper, same_point}
use Rattle.plane_graphs.proofs.Ascending.{All-member}
use Rattle.plane_graphs.proofs.Lists.{clash}
use Rattle.plane_graphs.proofs.Order.{same_out, same_in}
use Rattle.slab_laws.specs.Skeleton.{Skeleton, IsPlaneSkeleton, left_of, lower_than, side, over, under, below, precedes}
use Rattle.slab_faces.proofs.Walls.{side-upper, over-upper, left_of-before}
use Rattle.slab_faces.proofs.OverUnder.{under_not_over, zero_not_over, zero_not_under, under_out}
use Rattle.slab_faces.proofs.Points.{before_asym, before_irrefl, before_on_wall, before_left}
use Rattle.slab_faces.proofs.Along.{upright_right}
use Rattle.edge_predicates.specs.Highest.{IsSpanning}
use Rattle.edge_predicates.proofs.Seen.{slanted}
use Rattle.edge_predicates.proofs.SidesKept.{above_below}
use Rattle.edge_predicates.proofs.Uprights.{above_later, above_fan}
use Rattle.sweep_status.proofs.Parts.{within_take, within_drop, first_parted}
use Rattle.edge_sweep.specs.Around.{IsLowestAbove, none_above, lowest}
use Rattle.edge_sweep.specs.Fronts.{stack_cmp, AreOrdered, IsStackAt, IsProperGraph}
use Rattle.edge_sweep.proofs.Parts.{in_drop, in_take, in_parts, ascends_dropped}
use Rattle.edge_sweep.proofs.Passed.{parted_ends, above_others, low_first}
use Rattle.edge_sweep.proofs.Stacks.{stack_out, stacked_parts, in_graph, beside, spans}

-- a vertical edge's lower end is on the wall of its upper one
upright_low : (g : Skeleton) (e : Edge) → IsPlaneSkeleton g → Contains g.edges e → left_of e.low e.high ≡ false → lower_than e.low e.high ≡ true
upright_low g e plane E up = before_on_wall e.low e.high (low_first g e plane E) up

module _ (g : Skeleton) (ok : IsProperGraph g) (edge : ℕ → Edge) (n : ℕ) (own : (i : ℕ) → i < n → Contains g.edges (edge i)) (all : (e : Edge) → Contains g.edges e → (i : ℕ) × (i < n) × (edge i ≡ e)) (v : Point) (V : Contains g.vertices v) (status : List ℕ) (s : IsStackAt edge n v status) (c : ℕ)
    (cut : IsPartitionPoint (λ i. under (edge i) v ≡ true) (λ i. under (edge i) v ≡ false) status c) (m : ℕ) (counted : m ≡ prefix_len (λ i. same_point (edge i).high v) (drop c status)) where
  abbrev plane : IsPlaneSkeleton g
  plane = ok.plane

  Q : IsProper v
  Q = ok.proper v V

  abbrev ends : ℕ → Bool
  ends i = same_point (edge i).high v

  abbrev rest : List ℕ
  rest = drop c status

  second : IsPartitionPoint (λ i. ends i ≡ true) (λ i. ends i ≡ false) rest m
  second = first_parted ends rest m counted (parted_ends g ok edge n own v V status s c cut)

  old_ends : (i : ℕ) → Member i (take m rest) → (edge i).high ≡ v
  old_ends i k = same_out (edge i).high v (within_take (λ i. ends i ≡ true) rest m (λ j d a b. second.0 j d a b) i k)

  end_level : (i : ℕ) → (edge i).high ≡ v → side (edge i) v ≡ pos 0
  end_level i e = subst (λ t. side (edge i) t ≡ pos 0) e (side-upper (edge i))

  -- where an edge of the status stands
  placed : (i : ℕ) → Member i status → (under (edge i) v ≡ true) ⊎ (((edge i).high ≡ v) ⊎ Member i (drop m rest))
  placed i k = elim (in_parts c status i k) [
    | inl a ↦ inl (within_take (λ i. under (edge i) v ≡ true) status c (λ j d x y. cut.0 j d x y) i a)
    | inr a ↦ inr (elim (in_parts m rest i a) [ inl b ↦ inl (old_ends i b) | inr b ↦ inr b ])
  ]

  waits : (f : Edge) → Contains g.edges f → precedes f.low v ≡ true → precedes f.high v ≡ false → (i : ℕ) × Member i status × (edge i ≡ f)
  waits f F a b = let k = all f F in (k.0, (s.met k.0).1 (k.1, subst (λ (x : Edge). precedes x.low v ≡ true) (sym k.2) a, subst (λ (x : Edge). precedes x.high v ≡ false) (sym k.2) b), k.2)

  -- ---- above
  over_placed : (f : Edge) → Contains g.edges f → IsSpanning f v → over f v ≡ true → (i : ℕ) × Member i (drop m rest) × (edge i ≡ f)
  over_placed f F k o =
      let a = waits f F k.from (before_asym v f.high k.to) in
      let oi : over (edge a.0) v ≡ true = subst (λ (x : Edge). over x v ≡ true) (sym a.2) o in
      elim (placed a.0 a.1) [
        | inl u ↦ absurd (false≢true (sym (under_not_over (edge a.0) v u) ∙ oi))
        | inr b ↦ elim b [
          | inl e ↦ absurd (false≢true (sym (zero_not_over (edge a.0) v (end_level a.0 e)) ∙ oi))
          | inr d ↦ (a.0, d, a.2)
        ]
      ]

  abbrev top : (i : ℕ) → Member i (drop m rest) → Member i status
  top i k = in_drop c status i (in_drop m rest i k)

  goes : (i : ℕ) → Member i (drop m rest) → (edge i).high ≡ v → ⊥
  goes i k e = clash (same_in (edge i).high v e) (within_drop (λ i. ends i ≡ false) rest m (λ j d a b. second.1 j d a b) i k)

  top_over : (i : ℕ) → Member i (drop m rest) → over (edge i) v ≡ true
  top_over i k = above_others g ok edge n own v V status s c cut i (top i k) (within_drop (λ i. under (edge i) v ≡ false) status c (λ j d a b. cut.1 j d a b) i (in_drop m rest i k)) (goes i k)

  pub lowest_none : drop m rest ≡ [] → IsLowestAbove (Contains g.edges) v None
  lowest_none e = none_above (λ f F k. false_from_ne_true _ (λ o. let a = over_placed f F k o in absurd (subst (λ (xs : List ℕ). Member a.0 xs) e a.1)))

  -- the first of them is the lowest
  pub lowest_some : (i : ℕ) (is : List ℕ) → drop m rest ≡ i ∷ is → IsLowestAbove (Contains g.edges) v (Some (edge i))
  lowest_some i is e =
      let mi : Member i (drop m rest) = subst (λ (xs : List ℕ). Member i xs) (sym e) (inl refl) in
      let oi = top_over i mi in
      let off : (j : ℕ) → over (edge j) v ≡ true → side (edge j) v ≡ pos 0 → ⊥ = λ j o z. false≢true (sym (zero_not_over (edge j) v z) ∙ o) in
      let up : IsAscending (stack_cmp edge) (i ∷ is) = subst (λ (xs : List ℕ). IsAscending (stack_cmp edge) xs) e (ascends_dropped (stack_cmp edge) m rest (ascends_dropped (stack_cmp edge) c status s.ascends)) in
      lowest (edge i) (in_graph g ok edge n own v Q status s i (top i mi)) (spans g ok edge n own v Q status s i (top i mi) (off i oi)) oi (λ f F k o.
      let a = over_placed f F k o in
      let given : (edge a.0 ≡ edge i) ⊎ (below (edge i) (edge a.0) ≡ true) = elim (subst (λ (xs : List ℕ). Member a.0 xs) e a.1) [
        | inl same ↦ inl (ap edge same)
        | inr later ↦
            let h = All-member (λ j. stack_cmp edge i j ≡ Less) a.0 is up.0 later in
            let A = in_graph g ok edge n own v Q status s a.0 (top a.0 a.1) in
            let p = plane.proper_edge (edge a.0) A in
            let sa = spans g ok edge n own v Q status s a.0 (top a.0 a.1) (off a.0 (top_over a.0 a.1)) in
            inr (above_below g (edge a.0) (edge i) v (beside g ok edge n own v Q status s a.0 i (top a.0 a.1) (top i mi) (off i oi))
            (slanted (edge a.0) v p.0 p.1 Q.positive sa (off a.0 (top_over a.0 a.1))) (stack_out edge i a.0 h).0)
      ] in
      subst (λ (x : Edge). (x ≡ edge i) ⊎ (below (edge i) x ≡ true)) a.2 given)

  -- ---- the vertical edge that ends at v comes first of those that end there
  upright_first : (i j : ℕ) → Member i status → Member j status → (edge i).high ≡ v → (edge j).high ≡ v → left_of (edge i).low (edge i).high ≡ true → left_of (edge j).low (edge j).high ≡ false → stack_cmp edge i j ≡ Less → ⊥
  upright_first i j mi mj ei ej long up h =
      let E = in_graph g ok edge n own v Q status s i mi in
      let F = in_graph g ok edge n own v Q status s j mj in
      let p = plane.proper_edge (edge i) E in
      let q = plane.proper_edge (edge j) F in
      let back : left_of (edge j).high (edge j).low ≡ false = plane.forward (edge j) F in
      -- the lower end of j is on the wall of i's upper end
      let a : left_of (edge j).low (edge i).high ≡ false = subst (λ t. left_of (edge j).low t ≡ false) (ej ∙ sym ei) up in
      let b : left_of (edge i).high (edge j).low ≡ false = subst (λ t. left_of t (edge j).low ≡ false) (ej ∙ sym ei) back in
      let low : lower_than (edge j).low (edge i).high ≡ true = subst (λ t. lower_than (edge j).low t ≡ true) (ej ∙ sym ei) (upright_low g (edge j) plane F up) in
      let o : over (edge i) (edge j).low ≡ true = over-upper (edge i) (edge j).low p.1 long b a ∙ low in
      let u : under (edge i) (edge j).low ≡ false = false_from_ne_true _ (λ t. false≢true (sym (under_not_over (edge i) (edge j).low t) ∙ o)) in
      let f : precedes (edge i).low (edge j).low ≡ true = before_left (edge i).low (edge j).low (left_of-before (edge i).low (edge i).high (edge j).low p.0 p.1 q.0 long a) in
      false≢true (sym (above_later (edge j) (edge i) f ∙ u) ∙ (stack_out edge i j h).0)

  -- an edge that ends at v is among those that end there
  ending_placed : (e : Edge) → Contains g.edges e → e.high ≡ v → (i : ℕ) × Member i (take m rest) × (edge i ≡ e)
  ending_placed e E h =
      let a = waits e E (subst (λ t. precedes e.low t ≡ true) h (low_first g e plane E)) (subst (λ t. precedes t v ≡ false) (sym h) (before_irrefl v)) in
      let hi : (edge a.0).high ≡ v = ap (λ (x : Edge). x.high) a.2 ∙ h in
      elim (in_parts c status a.0 a.1) [
        | inl b ↦ absurd (false≢true (sym (zero_not_under (edge a.0) v (end_level a.0 hi)) ∙ within_take (λ i. under (edge i) v ≡ true) status c (λ j d x y. cut.0 j d x y) a.0 b))
        | inr b ↦ elim (in_parts m rest a.0 b) [
          | inl d ↦ (a.0, d, a.2)
          | inr d ↦ absurd (goes a.0 d hi)
        ]
      ]

  in_taken : (k : ℕ) (xs : List ℕ) (i : ℕ) → Member i (take k xs) → Member i xs
  in_taken = in_take

  pub no_end : rest ≡ [] → (e : Edge) → Contains g.edges e → e.high ≡ v → ⊥
  no_end z e E h = let a = ending_placed e E h in subst (λ (xs : List ℕ). Member a.0 xs) z (in_taken m rest a.0 a.1)

  -- where the first of the rest doesn't end at v, no edge does
  pub first_goes : (i : ℕ) (is : List ℕ) → rest ≡ i ∷ is → ends i ≡ false → (e : Edge) → Contains g.edges e → e.high ≡ v → ⊥
  first_goes i is z f e E h =
      let a = ending_placed e E h in
      let mz : m ≡ 0 = counted ∙ ap (λ (xs : List ℕ). prefix_len ends xs) z ∙ stop f in
      subst (λ (k : ℕ). Member a.0 (take k rest) → ⊥) (sym mz) (λ x. x) a.1
    where
      stop : ends i ≡ false → prefix_len ends (i ∷ is) ≡ 0
      stop f = rw f refl

  -- where the first ends there and isn't vertical, none that ends there is
  pub first_slanted : (i : ℕ) (is : List ℕ) → rest ≡ i ∷ is → ends i ≡ true → left_of (edge i).low (edge i).high ≡ true → (e : Edge) → Contains g.edges e → e.high ≡ v → left_of e.low e.high ≡ true
  first_slanted i is z f long e E h =
      let a = ending_placed e E h in
      let mi : Member i status = in_drop c status i (subst (λ (xs : List ℕ). Member i xs) (sym z) (inl refl)) in
      let ma = in_taken m rest a.0 a.1 in
      let up : IsAscending (stack_cmp edge) (i ∷ is) = subst (λ (xs : List ℕ). IsAscending (stack_cmp edge) xs) z (ascends_dropped (stack_cmp edge) c status s.ascends) in
      let hi : (edge a.0).high ≡ v = ap (λ (x : Edge). x.high) a.2 ∙ h in
      subst (λ (x : Edge). left_of x.low x.high ≡ true) a.2
      (elim (cases_Bool (left_of (edge a.0).low (edge a.0).high)) [
        | inl l ↦ l
        | inr l ↦ absurd (elim (subst (λ (xs : List ℕ). Member a.0 xs) z ma) [
          | inl same ↦ false≢true (sym (subst (λ k. left_of (edge k).low (edge k).high ≡ false) same l) ∙ long)
          | inr later ↦ upright_first i a.0 mi (in_drop c status a.0 ma) (same_out (edge i).high v f) hi long l (All-member (λ j. stack_cmp edge i j ≡ Less) a.0 is up.0 later)
        ])
      ])

-- ---- the vertical edge that starts at v is the last of those that start there
pub upright_last : (g : Skeleton) (edge : ℕ → Edge) (n : ℕ) (plane : IsPlaneSkeleton g) (own : (i : ℕ) → i < n → Contains g.edges (edge i)) (ordered : AreOrdered edge n) (i j : ℕ) → i < j → j < n → (edge i).low ≡ (edge j).low → left_of (edge i).low (edge i).high ≡ false → left_of (edge j).low (edge j).high ≡ true → ⊥
upright_last g edge n plane own ordered i j l b same up long =
    let E = own i (omega (arith, l, b)) in
    let p = plane.proper_edge (edge i) E in
    let t = (stacked_parts (edge i) (edge j) (ordered.fan i j l b same)).0 in
    let none = before_irrefl (edge i).low in
    let x : precedes (edge i).low (edge j).low ≡ false = subst (λ k. precedes (edge i).low k ≡ false) same none in
    let y : precedes (edge j).low (edge i).low ≡ false = subst (λ k. precedes k (edge i).low ≡ false) same none in
    let u : under (edge i) (edge j).high ≡ true = sym (above_fan (edge j) (edge i) x y) ∙ t in
    let right : left_of (edge i).low (edge j).high ≡ true = subst (λ k. left_of k (edge j).high ≡ true) (sym same) long in
    let w = upright_right (edge i) (edge j).high p.0 up (plane.forward (edge i) E) (upright_low g (edge i) plane E up) right in
    let z = under_out (edge i) (edge j).high u in
    absurd (omega (arith, ints))
