-- What passing a vertex makes of the front: the edges that end there go, those that start there come.
use Rattle.std.proofs.Common.{◌≡◌, ℕ, ◌<◌, ◌≤◌, ◌+◌, Bool, true, false, refl, sym, ap, ◌∙◌, subst, arith, ◌⊎◌, inl, inr, List, [], ◌∷◌, ◌++◌, take, drop, Less, nat_cmp}
use Rattle.std.specs.Prelude.{◌↔◌, pos, not}
use Rattle.std.specs.List.{Contains, prefix_len, splice}
use Rattle.std.specs.List.Sorted.{IsPartitionPoint, IsPartitionedBy}
use Rattle.std.proofs.lemmas.Bool.{false≢true, and_from, false_from_ne_true, cases_Bool, cases_lt}
use Rattle.std.proofs.lemmas.List.{take-append-drop, drop-drop}
use Rattle.exact_plane.specs.Point.{Point}
use Rattle.plane_graphs.specs.Ascending.{Member, IsAscending}
use Rattle.plane_graphs.specs.Graph.{Edge}
use Rattle.plane_graphs.specs.Line.{IsProper, same_point}
use Rattle.plane_graphs.proofs.Lists.{in_left, in_right, in_either, clash}
use Rattle.plane_graphs.proofs.Order.{same_out, same_in}
use Rattle.plane_graphs.proofs.Sorting.{parted}
use Rattle.slab_laws.specs.Skeleton.{Skeleton, IsPlaneSkeleton, left_of, side, over, under, precedes}
use Rattle.slab_faces.proofs.Walls.{side-upper}
use Rattle.slab_faces.proofs.OverUnder.{under_not_over, on_neither, zero_not_over, zero_not_under}
use Rattle.slab_faces.proofs.Points.{before_asym, before_irrefl, before_left, before_lower}
use Rattle.edge_predicates.proofs.Uprights.{above_later, above_earlier, never_inside}
use Rattle.sweep_status.proofs.Parts.{within_take, within_drop, first_parted, append_ascends, ascends_by}
use Rattle.edge_sweep.specs.Fronts.{stack_cmp, AreOrdered, IsStackAt, IsCutAt, IsProperGraph}
use Rattle.edge_sweep.proofs.Parts.{in_drop, in_take, in_parts, ascends_dropped, ascends_taken, ascends_across}
use Rattle.edge_sweep.proofs.Stacks.{stacked_from, stack_in, upper_too, in_graph, goes_on}

-- an edge runs forward in point order
pub low_first : (g : Skeleton) (e : Edge) → IsPlaneSkeleton g → Contains g.edges e → precedes e.low e.high ≡ true
low_first g e plane E = elim (cases_Bool (left_of e.low e.high)) [
  | inl h ↦ before_left e.low e.high h
  | inr h ↦ before_lower e.low e.high (plane.forward e E) (plane.upright e E (and_from _ _ (ap not h) (ap not (plane.forward e E))))
]

module _ (g : Skeleton) (ok : IsProperGraph g) (edge : ℕ → Edge) (n : ℕ) (own : (i : ℕ) → i < n → Contains g.edges (edge i)) (v : Point) (V : Contains g.vertices v) (status : List ℕ) (s : IsStackAt edge n v status) (c : ℕ)
    (cut : IsPartitionPoint (λ i. under (edge i) v ≡ true) (λ i. under (edge i) v ≡ false) status c) where
  abbrev ends : ℕ → Bool
  ends i = same_point (edge i).high v

  Q : IsProper v
  Q = ok.proper v V

  -- one that is neither below v nor ends there is above it
  pub above_others : (i : ℕ) → Member i status → under (edge i) v ≡ false → ((edge i).high ≡ v → ⊥) → over (edge i) v ≡ true
  above_others i m u off = elim (cases_Bool (over (edge i) v)) [
    | inl h ↦ h
    | inr h ↦
        let k = goes_on g ok edge n own v Q status s i m off in
        absurd (never_inside g (edge i) v ok.plane (in_graph g ok edge n own v Q status s i m) V k.from k.to (on_neither (edge i) v h u))
  ]

  after_cut : (i : ℕ) → Member i (drop c status) → under (edge i) v ≡ false
  after_cut = within_drop (λ i. under (edge i) v ≡ false) status c (λ j d a b. cut.1 j d a b)

  end_level : (i : ℕ) → (edge i).high ≡ v → side (edge i) v ≡ pos 0
  end_level i e = subst (λ t. side (edge i) t ≡ pos 0) e (side-upper (edge i))

  -- those that end there come first of the others
  pub parted_ends : IsPartitionedBy ends (drop c status)
  parted_ends = parted (stack_cmp edge) ends (drop c status) (ascends_dropped (stack_cmp edge) c status s.ascends) (λ i j mi mj h t.
      let a = in_drop c status i mi in
      let b = in_drop c status j mj in
      elim (cases_Bool (ends i)) [
        | inl e ↦ e
        | inr e ↦
            let o = above_others i a (after_cut i mi) (λ x. clash (same_in (edge i).high v x) e) in
            absurd (false≢true (sym (zero_not_over (edge j) v (end_level j (same_out (edge j).high v t))) ∙ upper_too g ok edge n own v Q status s i j a b h o))
      ])

  module _ (m : ℕ) (counted : m ≡ prefix_len ends (drop c status)) (run : List ℕ) (run_is : (i : ℕ) → Member i run ↔ ((i < n) × ((edge i).low ≡ v))) (run_ascends : IsAscending nat_cmp run) (ordered : AreOrdered edge n) where
    second : IsPartitionPoint (λ i. ends i ≡ true) (λ i. ends i ≡ false) (drop c status) m
    second = first_parted ends (drop c status) m counted parted_ends

    abbrev low : List ℕ
    low = take c status

    abbrev rest : List ℕ
    rest = drop c status

    abbrev high : List ℕ
    high = drop m rest

    low_below : (i : ℕ) → Member i low → under (edge i) v ≡ true
    low_below = within_take (λ i. under (edge i) v ≡ true) status c (λ j d a b. cut.0 j d a b)

    old_ends : (i : ℕ) → Member i (take m rest) → (edge i).high ≡ v
    old_ends i k = same_out (edge i).high v (within_take (λ i. ends i ≡ true) rest m (λ j d a b. second.0 j d a b) i k)

    high_goes : (i : ℕ) → Member i high → (edge i).high ≡ v → ⊥
    high_goes i k e = clash (same_in (edge i).high v e) (within_drop (λ i. ends i ≡ false) rest m (λ j d a b. second.1 j d a b) i k)

    low_goes : (i : ℕ) → Member i low → (edge i).high ≡ v → ⊥
    low_goes i k e = false≢true (sym (zero_not_under (edge i) v (end_level i e)) ∙ low_below i k)

    high_in : (i : ℕ) → Member i high → Member i status
    high_in i k = in_drop c status i (in_drop m rest i k)

    high_over : (i : ℕ) → Member i high → over (edge i) v ≡ true
    high_over i k = above_others i (high_in i k) (after_cut i (in_drop m rest i k)) (high_goes i k)

    abbrev now : List ℕ
    now = low ++ (run ++ high)

    -- ---- from bottom to top
    from : (i : ℕ) → Member i status → precedes (edge i).low v ≡ true
    from i k = ((s.met i).0 k).1

    low_run : (i j : ℕ) → Member i low → Member j run → stack_cmp edge i j ≡ Less
    low_run i j a b =
        let e = ((run_is j).0 b).1 in
        let f : precedes (edge i).low (edge j).low ≡ true = subst (λ t. precedes (edge i).low t ≡ true) (sym e) (from i (in_take c status i a)) in
        let u = low_below i a in
        stack_in edge i j (stacked_from (edge i) (edge j)
        (above_later (edge j) (edge i) f ∙ subst (λ t. under (edge i) t ≡ true) (sym e) u)
        (above_earlier (edge i) (edge j) (before_asym (edge i).low (edge j).low f) f ∙ subst (λ t. over (edge i) t ≡ false) (sym e) (under_not_over (edge i) v u)))

    run_high : (j i : ℕ) → Member j run → Member i high → stack_cmp edge j i ≡ Less
    run_high j i b a =
        let e = ((run_is j).0 b).1 in
        let f : precedes (edge i).low (edge j).low ≡ true = subst (λ t. precedes (edge i).low t ≡ true) (sym e) (from i (high_in i a)) in
        stack_in edge j i (stacked_from (edge j) (edge i)
        (above_earlier (edge i) (edge j) (before_asym (edge i).low (edge j).low f) f ∙ subst (λ t. over (edge i) t ≡ true) (sym e) (high_over i a))
        (above_later (edge j) (edge i) f ∙ subst (λ t. under (edge i) t ≡ false) (sym e) (after_cut i (in_drop m rest i a))))

    low_high : (i j : ℕ) → Member i low → Member j high → stack_cmp edge i j ≡ Less
    low_high i j a b = ascends_across (stack_cmp edge) low rest (subst (IsAscending (stack_cmp edge)) (sym (take-append-drop c status)) s.ascends) i j a (in_drop m rest j b)

    fanned : IsAscending (stack_cmp edge) run
    fanned = ascends_by nat_cmp (stack_cmp edge) run (λ i j a b h.
        let x = (run_is i).0 a in
        let y = (run_is j).0 b in
        let l : j < n = y.0 in
        stack_in edge i j (ordered.fan i j (smaller i j h) l (x.1 ∙ sym y.1))) run_ascends
      where
        smaller : (i j : ℕ) → nat_cmp i j ≡ Less → i < j
        smaller i j h = grind arith

    pub now_ascends : IsAscending (stack_cmp edge) now
    now_ascends =
        append_ascends (stack_cmp edge) low (run ++ high) (ascends_taken (stack_cmp edge) c status s.ascends)
        (append_ascends (stack_cmp edge) run high fanned (ascends_dropped (stack_cmp edge) m rest (ascends_dropped (stack_cmp edge) c status s.ascends)) run_high)
        (λ i j a b. elim (in_either j run high b) [ inl k ↦ low_run i j a k | inr k ↦ low_high i j a k ])

    -- ---- at a point before which v is the last vertex
    module _ (passed : List Point) (here : IsCutAt g passed v) (q : Point) (then : IsCutAt g (passed ++ v ∷ []) q) where
      low_vertex : (i : ℕ) → i < n → Contains g.vertices (edge i).low
      low_vertex i h = ok.plane.lower_in (edge i) (own i h)

      high_vertex : (i : ℕ) → i < n → Contains g.vertices (edge i).high
      high_vertex i h = ok.plane.upper_in (edge i) (own i h)

      v_before : precedes v q ≡ true
      v_before = (then v V).1 (in_right v passed (v ∷ []) (inl refl))

      sooner : (w : Point) → Contains g.vertices w → precedes w v ≡ true → precedes w q ≡ true
      sooner w W h = (then w W).1 (in_left w passed (v ∷ []) ((here w W).0 h))

      -- what comes before q comes before v, or is v
      split : (w : Point) → Contains g.vertices w → precedes w q ≡ true → (precedes w v ≡ true) ⊎ (w ≡ v)
      split w W h = elim (in_either w passed (v ∷ []) ((then w W).0 h)) [
        | inl a ↦ inl ((here w W).1 a)
        | inr b ↦ elim b [ inl e ↦ inr e | inr z ↦ absurd z ]
      ]

      -- one that goes on beyond v ends after q or there
      still : (i : ℕ) → i < n → precedes (edge i).high v ≡ false → ((edge i).high ≡ v → ⊥) → precedes (edge i).high q ≡ false
      still i h k off = false_from_ne_true _ (λ t. elim (split (edge i).high (high_vertex i h) t) [ inl a ↦ false≢true (sym k ∙ a) | inr e ↦ off e ])

      kept : (i : ℕ) → Member i status → ((edge i).high ≡ v → ⊥) → (i < n) × (precedes (edge i).low q ≡ true) × (precedes (edge i).high q ≡ false)
      kept i k off = let a = (s.met i).0 k in let h = a.0 in (h, sooner (edge i).low (low_vertex i h) a.1, still i h a.2 off)

      come : (i : ℕ) → Member i run → (i < n) × (precedes (edge i).low q ≡ true) × (precedes (edge i).high q ≡ false)
      come i k =
          let a = (run_is i).0 k in
          let h = a.0 in
          let f : precedes v (edge i).high ≡ true = subst (λ t. precedes t (edge i).high ≡ true) a.1 (low_first g (edge i) ok.plane (own i h)) in (
            h,
            subst (λ t. precedes t q ≡ true) (sym a.1) v_before,
            still i h (before_asym v (edge i).high f) (λ e. false≢true (sym (before_irrefl v) ∙ subst (λ t. precedes v t ≡ true) e f)),
          )

      now_met : (i : ℕ) → Member i now → (i < n) × (precedes (edge i).low q ≡ true) × (precedes (edge i).high q ≡ false)
      now_met i k = elim (in_either i low (run ++ high) k) [
        | inl a ↦ kept i (in_take c status i a) (low_goes i a)
        | inr b ↦ elim (in_either i run high b) [ inl a ↦ come i a | inr a ↦ kept i (high_in i a) (high_goes i a) ]
      ]

      met_now : (i : ℕ) → i < n → precedes (edge i).low q ≡ true → precedes (edge i).high q ≡ false → Member i now
      met_now i h a b = elim (split (edge i).low (low_vertex i h) a) [
        | inr e ↦ in_right i low (run ++ high) (in_left i run high ((run_is i).1 (h, e)))
        | inl e ↦
            let f : precedes (edge i).high v ≡ false = false_from_ne_true _ (λ t. false≢true (sym b ∙ sooner (edge i).high (high_vertex i h) t)) in
            elim (in_parts c status i ((s.met i).1 (h, e, f))) [
              | inl k ↦ in_left i low (run ++ high) k
              | inr k ↦ elim (in_parts m rest i k) [
                | inl o ↦ absurd (false≢true (sym b ∙ subst (λ t. precedes t q ≡ true) (sym (old_ends i o)) v_before))
                | inr o ↦ in_right i low (run ++ high) (in_right i run high o)
              ]
            ]
      ]

      -- the front there
      pub stack_now : IsStackAt edge n q now
      stack_now = record { met = λ i. (now_met i, λ h. met_now i h.0 h.1 h.2); ascends = now_ascends }

    -- the same as a splice
    pub now_is : splice status c (c + m) run ≡ now
    now_is = ap (λ zs. low ++ (run ++ zs)) (sym (drop-drop m c status ∙ ap (λ k. drop k status) (omega arith)))

-- ---- how many have begun
module _ (g : Skeleton) (ok : IsProperGraph g) (edge : ℕ → Edge) (n : ℕ) (own : (i : ℕ) → i < n → Contains g.edges (edge i)) (ordered : AreOrdered edge n) (passed : List Point) (v : Point) (V : Contains g.vertices v) (here : IsCutAt g passed v)
    (b : ℕ) (bound : b ≤ n) (begun : (i : ℕ) → i < n → (i < b) ↔ Member (edge i).low passed) where
  v_new : Member v passed → ⊥
  v_new m = false≢true (sym (before_irrefl v) ∙ (here v V).1 m)

  -- of those that haven't begun, one starts at v where a later one does
  pub start_earlier : (i j : ℕ) → b ≤ i → i < j → j < n → (edge j).low ≡ v → (edge i).low ≡ v
  start_earlier i j h l k e =
      let t : i < n = omega (arith, l, k) in
      let W = ok.plane.lower_in (edge i) (own i t) in
      ok.plane.distinct (edge i).low v W V
      (false_from_ne_true _ (λ x. let y = (begun i t).1 ((here (edge i).low W).0 x) in absurd (omega (arith, y, h))))
      (subst (λ t. precedes t (edge i).low ≡ false) e (ordered.climb i j l k))

  pub starts_late : (i : ℕ) → i < n → (edge i).low ≡ v → b ≤ i
  starts_late i h e = elim (cases_lt i b) [
    | inl l ↦ absurd (v_new (subst (λ t. Member t passed) e ((begun i h).0 l)))
    | inr l ↦ l
  ]

  -- where the first b + k have begun once v is passed
  module _ (k : ℕ) (starts : (i : ℕ) → b ≤ i → i < b + k → (edge i).low ≡ v) (others : (i : ℕ) → b + k ≤ i → i < n → (edge i).low ≡ v → ⊥) where
    pub begun_now : (i : ℕ) → i < n → (i < b + k) ↔ Member (edge i).low (passed ++ v ∷ [])
    begun_now i h = (
      (λ l. elim (cases_lt i b) [
        | inl x ↦ in_left (edge i).low passed (v ∷ []) ((begun i h).0 x)
        | inr x ↦ in_right (edge i).low passed (v ∷ []) (inl (starts i x l))
      ]),
      (λ m. elim (in_either (edge i).low passed (v ∷ []) m) [
        | inl x ↦ (let y = (begun i h).1 x in omega (arith, y))
        | inr x ↦ elim x [
          | inl e ↦ elim (cases_lt i (b + k)) [ inl l ↦ l | inr l ↦ absurd (others i l h e) ]
          | inr z ↦ absurd z
        ]
      ]),
    )

    pub run_starts : (i : ℕ) → b + k ≤ n → ((b ≤ i) × (i < b + k)) ↔ ((i < n) × ((edge i).low ≡ v))
    run_starts i t = (
      (λ h. let x = h.0 in let y = h.1 in (omega (arith, y, t), starts i x y)),
      (λ h. let x = h.0 in (starts_late i x h.1, elim (cases_lt i (b + k)) [ inl l ↦ l | inr l ↦ absurd (others i l x h.1) ])),
    )
