-- Walks along a cycle of a sound view by the names of darts: what was met, what is left, and that all was met at the end.
use Rattle.std.proofs.Common.{◌≡◌, ◌≢◌, ℕ, ◌+◌, ◌*◌, ◌<◌, Bool, true, false, cond, arith, refl, sym, ap, ◌∙◌, subst, ◌⊎◌, inl, inr, List, [], ◌∷◌}
use Rattle.std.specs.Prelude.{◌==◌, ◌||◌, ◌&&◌}
use Rattle.std.specs.List.{sum_by, count_by, Contains, AllByRecursion}
use Rattle.std.proofs.lemmas.Bool.{false≢true, true≢false, cases_Bool, eqb-true, eq-eqb, false_from_ne_true, or_cases, or_left, or_right}
use Rattle.std.proofs.lemmas.List.Sums.{sum_by-cons}
use Rattle.plane_graphs.specs.Ascending.{Member as In}
use Rattle.plane_graphs.proofs.Ascending.{to_member, from_member, All-member}
use Rattle.slab_laws.specs.declared.names.DartId.{DartId}
use Rattle.slab_laws.specs.declared.classes.Link.{Link}
use Rattle.slab_laws.specs.FacesSound.{lead_in}
use Rattle.slab_laws.specs.Rotation.{same_dart}
use Rattle.slab_laws.specs.Sound.{IsGraphSound}
use Rattle.slab_laws.specs.Tables.{names, NamesAscend}
use Rattle.slab_laws.specs.View.{View, HasDart, dart_id, next_in}
use Rattle.slab_faces.proofs.Sums.{each, sum_by-same, sum_by-plus, sum_by-cond}
use Rattle.slab_faces.proofs.Shift.{IsSetBy, IsOneToOne, sum_by-map}
use Rattle.slab_faces.proofs.Member.{Member, member_in, in_member, map_out}
use Rattle.slab_faces.proofs.ClassesLemmas.{connected}
use Rattle.slab_faces.proofs.NextLemmas.{darts_exact}
use Rattle.sound_views.proofs.NamedDarts.{names_are_darts, dart_name, named_dart}
use Rattle.sound_views.proofs.NameTables.{names_exact, other_number, has_name}
use Rattle.slab_faces.proofs.CyclesLemmas.{one_cycle}
use Rattle.slab_laws.specs.Rows.{least_dart_of}
use Rattle.slab_laws.specs.Sound.{skeleton_of, dart_in}
use Rattle.arr_notes.specs.CycleNames.{same_name, lower_name, dart_names, name_links, cycle_label}
use Rattle.face_changes.proofs.CycleNames.{names_tell_cycles}
use Rattle.face_changes.proofs.OneToOneMaps.{tally, unlike, closed_back}
use Rattle.boundary_cycles.specs.Counted.{is_on_cycle}
use Rattle.boundary_cycles.proofs.Returns.{way, nearer}

-- ---- names
-- a number that is less than all others stands among none of them
none_later : (n : ℕ) (ns : List ℕ) → AllByRecursion (λ m. n < m) ns → count_by (λ m. n == m) ns ≡ 0
none_later n [] h = refl
none_later n (m ∷ ms) h =
    let a = other_number n m h.0 in
    let b = none_later n ms h.1 in
    let t : cond {A = ℕ} (n == m) 1 0 ≡ 0 = ap (λ q. cond {A = ℕ} q 1 0) a in
    sum_by-cons (λ m. cond (n == m) 1 0) m ms ∙ (λ i. t i + b i)

once_among : (n : ℕ) (ns : List ℕ) → NamesAscend ns → In n ns → count_by (λ m. n == m) ns ≡ 1
once_among n [] a h = absurd h
once_among n (m ∷ ms) a (inl e) =
    let q : (n == m) ≡ true = eq-eqb n m e in
    let b : count_by (λ k. n == k) ms ≡ 0 = subst (λ z. count_by (λ k. z == k) ms ≡ 0) (sym e) (none_later m ms a.0) in
    let c = sum_by-cons (λ k. cond (n == k) 1 0) m ms in
    c ∙ rw (q, b) refl
once_among n (m ∷ ms) a (inr h) =
    let l : m < n = All-member (λ k. m < k) n ms a.0 h in
    let q : (n == m) ≡ false = false_from_ne_true _ (λ t. let e = eqb-true n m t in absurd (omega arith)) in
    let b = once_among n ms a.1 h in
    let t : cond {A = ℕ} (n == m) 1 0 ≡ 0 = ap (λ r. cond {A = ℕ} r 1 0) q in
    sum_by-cons (λ k. cond (n == k) 1 0) m ms ∙ (λ i. t i + b i)

-- how many steps of next are left from x until d comes
unfoldable pub ways : View → DartId → DartId → ℕ
ways v d x = way same_name (next_in v) (dart_names v) d x

-- one more was met
abbrev pub more : DartId → (DartId → Bool) → DartId → Bool
more at seen x = seen x || same_name at x

-- the walk from d stands before the dart `at`, which it hasn't met; those that pass `seen` it has
pub record IsWalked (v : View) (d at : DartId) (seen : DartId → Bool) : Type 0 where
  pub at_there : HasDart v at
  pub at_on : lead_in v at ≡ lead_in v d
  pub there : (x : DartId) → seen x ≡ true → HasDart v x × (lead_in v x ≡ lead_in v d)
  pub behind : (x : DartId) → seen x ≡ true → ways v d (next_in v at) < ways v d (next_in v x)
  pub onward : (x : DartId) → seen x ≡ true → (seen (next_in v x) ≡ true) ⊎ (next_in v x ≡ at)
  pub begun : (seen d ≡ true) ⊎ (at ≡ d)

module _ (v : View) (s : IsGraphSound v) where
  pub listed : (d : DartId) → HasDart v d → Contains (dart_names v) d
  listed d h = from_member (dart_names v) d (dart_name v d h)

  pub of_list : (d : DartId) → Contains (dart_names v) d → HasDart v d
  of_list d m = named_dart v d (to_member (dart_names v) d m)

  once_named : (d : DartId) → HasDart v d → count_by (same_name d) (dart_names v) ≡ 1
  once_named d h =
      sum_by-map (λ x. cond (same_name d x) 1 0) dart_id (names v.darts)
      ∙ once_among d.0 (names v.darts) s.named.darts (member_name d h)
    where
      member_name : (d : DartId) → HasDart v d → In d.0 (names v.darts)
      member_name d h = has_name v.darts d.0 h

  pub names_set : IsSetBy same_name (dart_names v)
  names_set = record { sound = names_exact.path; self = names_exact.itself; once = λ d c. once_named d (of_list d c) }

  names_one : IsOneToOne (next_in v) (dart_names v)
  names_one = record {
    inside = λ d c. listed (next_in v d) (s.linked.has d (of_list d c));
    one = λ d e c k q. s.linked.once d e (of_list d c) (of_list e k) q;
  }

  -- what agrees along next agrees on a cycle
  pub label_agrees : (p : DartId → Bool) → ((x : DartId) → HasDart v x → p x ≡ p (next_in v x)) → (x : DartId) → p x ≡ p (cycle_label v x)
  unfolding cycle_label
  label_agrees p h x =
      connected same_name lower_name names_exact (λ x y. p x ≡ p y) (record { itself = λ x. refl; back = λ x y k. sym k; on = λ x y z k l. k ∙ l }) (name_links v)
      (λ m k. go m (map_out (λ d. record { one = d; other = next_in v d }) (dart_names v) m k)) x
    where
      go : (m : Link DartId) → ((d : DartId) × Member (dart_names v) d × (◌≡◌ {A = Link DartId} (record { one = d; other = next_in v d }) m)) → p m.one ≡ p m.other
      go m w = subst (λ (l : Link DartId). p l.one ≡ p l.other) w.2 (h w.0 (of_list w.0 (member_in (dart_names v) w.0 w.1)))

  pub agrees : (p : DartId → Bool) → ((x : DartId) → HasDart v x → p x ≡ p (next_in v x)) → (x y : DartId) → HasDart v x → HasDart v y → lead_in v x ≡ lead_in v y → p x ≡ p y
  agrees p h x y hx hy e = label_agrees p h x ∙ ap p ((names_tell_cycles v x y s hx hy).1 e) ∙ sym (label_agrees p h y)

  -- and what goes on from each dart to the next is true of a whole cycle, or of none of its darts
  pub along : (p : DartId → Bool) → ((x : DartId) → HasDart v x → p x ≡ true → p (next_in v x) ≡ true) → (x y : DartId) → HasDart v x → HasDart v y → lead_in v x ≡ lead_in v y → p x ≡ p y
  along p h = agrees p (λ y hy. closed_back same_name (next_in v) (dart_names v) names_set names_one p (λ z c. h z (of_list z c)) y (listed y hy))

  pub lead_step : (d : DartId) → HasDart v d → lead_in v (next_in v d) ≡ lead_in v d
  lead_step d h =
      ap (least_dart_of (skeleton_of v)) (names_are_darts.next v d s h)
      ∙ sym (one_cycle (skeleton_of v) (dart_in v d) (in_member _ _ (names_are_darts.known v d s h)))

  module _ (d : DartId) (D : HasDart v d) where
    pub closer : (x : DartId) → HasDart v x → lead_in v x ≡ lead_in v d → x ≢ d → ways v d (next_in v x) < ways v d x
    unfolding ways
    closer x hx q ne =
        nearer same_name (next_in v) (dart_names v) d names_set names_one (listed d D) x (listed x hx)
        (λ p h. agrees p (λ y hy. h y (listed y hy)) (next_in v x) d (s.linked.has x hx) D (lead_step x hx ∙ q)) (unlike same_name names_exact.path x d ne)

    -- ---- the walk
    pub begins : IsWalked v d d (λ x. false)
    begins = record {
      at_there = D;
      at_on = refl;
      there = λ x h. absurd (false≢true h);
      behind = λ x h. absurd (false≢true h);
      onward = λ x h. absurd (false≢true h);
      begun = inr refl;
    }

    module _ (at : DartId) (seen : DartId → Bool) (w : IsWalked v d at seen) where
      pub fresh : seen at ≡ false
      fresh = false_from_ne_true _ (λ h. let l = w.behind at h in absurd (omega arith))

      pub smaller : next_in v at ≢ d → ways v d (next_in v (next_in v at)) < ways v d (next_in v at)
      smaller ne = closer (next_in v at) (s.linked.has at w.at_there) (lead_step at w.at_there ∙ w.at_on) ne

      pub there_more : (x : DartId) → more at seen x ≡ true → HasDart v x × (lead_in v x ≡ lead_in v d)
      there_more x h = elim (or_cases (seen x) (same_name at x) h) [
        | inl t ↦ w.there x t
        | inr t ↦ subst (λ y. HasDart v y × (lead_in v y ≡ lead_in v d)) (names_exact.path at x t) (w.at_there, w.at_on)
      ]

      has_at : more at seen at ≡ true
      has_at = or_right (seen at) _ (names_exact.itself at)

      -- what follows one that was met has been met, or is the next
      closed_more : (x : DartId) → more at seen x ≡ true → (more at seen (next_in v x) ≡ true) ⊎ (next_in v x ≡ next_in v at)
      closed_more x h = elim (or_cases (seen x) (same_name at x) h) [
        | inl t ↦ elim (w.onward x t) [
          | inl k ↦ inl (or_left (seen (next_in v x)) (same_name at (next_in v x)) k)
          | inr k ↦ inl (subst (λ y. more at seen y ≡ true) (sym k) has_at)
        ]
        | inr t ↦ inr (ap (next_in v) (sym (names_exact.path at x t)))
      ]

      begun_more : more at seen d ≡ true
      begun_more = elim w.begun [
        | inl t ↦ or_left (seen d) (same_name at d) t
        | inr t ↦ subst (λ y. more at seen y ≡ true) t has_at
      ]

      pub goes_on : next_in v at ≢ d → IsWalked v d (next_in v at) (more at seen)
      goes_on ne = record {
        at_there = s.linked.has at w.at_there;
        at_on = lead_step at w.at_there ∙ w.at_on;
        there = there_more;
        behind = λ x h. elim (or_cases (seen x) (same_name at x) h) [
          | inl t ↦ (let a = w.behind x t in let b = smaller ne in omega arith)
          | inr t ↦ subst (λ y. ways v d (next_in v (next_in v at)) < ways v d (next_in v y)) (names_exact.path at x t) (smaller ne)
        ];
        onward = closed_more;
        begun = inl begun_more;
      }

      -- back at its start it has met the whole cycle
      pub ends : next_in v at ≡ d → (x : DartId) → HasDart v x → more at seen x ≡ is_on_cycle v d x
      ends e x hx =
          let p = more at seen in
          let closed : (y : DartId) → HasDart v y → p y ≡ true → p (next_in v y) ≡ true = λ y c h.
          elim (closed_more y h) [
            | inl k ↦ k
            | inr k ↦ subst (λ z. p z ≡ true) (sym (k ∙ e)) begun_more
          ] in
          elim (cases_Bool (is_on_cycle v d x)) [
            | inl t ↦ along p closed x d hx D (darts_exact.path _ _ t) ∙ begun_more ∙ sym t
            | inr t ↦ false_from_ne_true _ (λ h. false≢true (sym t ∙ subst (λ z. same_dart z (lead_in v d) ≡ true) (sym ((there_more x h).1)) (darts_exact.itself (lead_in v d)))) ∙ sym t
          ]

      -- ---- counting those that pass a test
      pub counted : (p : DartId → Bool) → count_by (λ x. more at seen x && p x) (dart_names v) ≡ count_by (λ x. seen x && p x) (dart_names v) + tally (p at)
      counted p =
          let a = sum_by-same (λ x. tally (more at seen x && p x)) (λ x. tally (seen x && p x) + cond (same_name at x) (tally (p at)) 0) (dart_names v)
          (each (λ x. tally (more at seen x && p x) ≡ tally (seen x && p x) + cond (same_name at x) (tally (p at)) 0) (dart_names v) (λ x _. one x)) in
          let b = sum_by-plus (λ x. tally (seen x && p x)) (λ x. cond (same_name at x) (tally (p at)) 0) (dart_names v) in
          let c = sum_by-cond (same_name at) (tally (p at)) (dart_names v) in
          let n = once_named at w.at_there in
          let c' : sum_by (λ x. cond (same_name at x) (tally (p at)) 0) (dart_names v) ≡ 1 * tally (p at) = c ∙ ap (λ k. k * tally (p at)) n in
          a ∙ b ∙ ap (λ k. sum_by (λ x. tally (seen x && p x)) (dart_names v) + k) (c' ∙ omega arith)
        where
          split : (b c r : Bool) (n : ℕ) → (b ≡ true → c ≡ false) → (b ≡ true → tally r ≡ n) → tally ((c || b) && r) ≡ tally (c && r) + cond b n 0
          split true true r n h k = absurd (true≢false (h refl))
          split true false r n h k = k refl ∙ omega arith
          split false true r n h k = omega arith
          split false false r n h k = refl

          one : (x : DartId) → tally (more at seen x && p x) ≡ tally (seen x && p x) + cond (same_name at x) (tally (p at)) 0
          one x = split (same_name at x) (seen x) (p x) (tally (p at))
              (λ t. subst (λ y. seen y ≡ false) (names_exact.path at x t) fresh)
              (λ t. ap (λ y. tally (p y)) (sym (names_exact.path at x t)))

      pub counted_all : (p : DartId → Bool) → next_in v at ≡ d → count_by (λ x. more at seen x && p x) (dart_names v) ≡ count_by (λ x. is_on_cycle v d x && p x) (dart_names v)
      counted_all p e =
          sum_by-same (λ x. tally (more at seen x && p x)) (λ x. tally (is_on_cycle v d x && p x)) (dart_names v)
          (each (λ x. tally (more at seen x && p x) ≡ tally (is_on_cycle v d x && p x)) (dart_names v) (λ x c. ap (λ b. tally (b && p x)) (ends e x (of_list x c))))
