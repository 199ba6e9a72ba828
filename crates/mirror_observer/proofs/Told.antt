-- Who follows whom in a table of darts, as functions of names, and what each write makes of them.
use Rattle.std.proofs.Common.{◌≡◌, ◌≢◌, ◌⊎◌, inl, inr, ◌==◌, Bool, true, false, cond, ℕ, List, Option, Some, None, is_some, IsSome, option_map, refl, sym, ap, ◌∙◌}
use Rattle.std.proofs.lemmas.Bool.{false≢true}
use Rattle.slab_laws.specs.declared.names.DartId.{DartId}
use Rattle.slab_laws.specs.declared.names.VertexId.{VertexId}
use Rattle.slab_laws.specs.Tables.{row_at, names, NamesAscend}
use Rattle.slab_laws.specs.View.{HasDart, next_in, next_or}
use Rattle.arr_notes.specs.NamedRows.{put, del, each, edit}
use Rattle.arr_notes.proofs.RowLaws.{row_at-each, row_at-edit}
use Rattle.arr_notes.proofs.Names.{cases_dart}
use Rattle.arr_notes.proofs.Reading.{dart_number, none_there}
use Rattle.arr_notes.proofs.VertexReads.{put_hit, put_miss, del_hit, del_miss}
use Rattle.mirror_observer.specs.declared.tables.DartEntry.{DartEntry}
use Rattle.mirror_observer.specs.Tables.{dart_of, darts_of, previous_or, previous_at, with_follower, with_previous, with_start, diverted}
use Rattle.mirror_observer.specs.Standing.{IsBackLinked}
use Rattle.mirror_observer.proofs.Readers.{next_is, has_is, is_has, has_each}
use Rattle.mirror_observer.proofs.Around.{to, via, to_hit, to_miss}

-- each dart is followed by n, and names p as the one before
abbrev pub IsTold : List (ℕ × DartEntry) → (DartId → DartId) → (DartId → DartId) → Type 0
IsTold ds n p = (z : DartId) → HasDart (darts_of ds) z → (next_in (darts_of ds) z ≡ n z) × (previous_at ds z ≡ p z)

pub told_first : (ds : List (ℕ × DartEntry)) → IsTold ds (next_in (darts_of ds)) (previous_at ds)
told_first ds z h = (refl, refl)

pub back_linked : (ds : List (ℕ × DartEntry)) (n p : DartId → DartId) → IsTold ds n p → ((z : DartId) → HasDart (darts_of ds) z → HasDart (darts_of ds) (next_in (darts_of ds) z)) → ((z : DartId) → HasDart (darts_of ds) z → p (n z) ≡ z) → IsBackLinked ds
back_linked ds n p t c l z h = (t (next_in (darts_of ds) z) (c z h)).1 ∙ ap p (t z h).0 ∙ l z h

-- ---- fields of a row that is written, or not
next_set : (z b : DartId) (k : Bool) (o : Option DartEntry) → IsSome o → next_or z (option_map dart_of (option_map (λ e. cond k (with_follower b e) e) o)) ≡ cond k b (next_or z (option_map dart_of o))
next_set z b k None h = absurd (false≢true h)
next_set z b true (Some e) h = refl
next_set z b false (Some e) h = refl

previous_set : (z b : DartId) (k : Bool) (o : Option DartEntry) → IsSome o → previous_or z (option_map (λ e. cond k (with_previous b e) e) o) ≡ cond k b (previous_or z o)
previous_set z b k None h = absurd (false≢true h)
previous_set z b true (Some e) h = refl
previous_set z b false (Some e) h = refl

next_kept : (z : DartId) (f : DartEntry → DartEntry) → ((e : DartEntry) → (f e).next ≡ e.next) → (k : Bool) (o : Option DartEntry) → next_or z (option_map dart_of (option_map (λ e. cond k (f e) e) o)) ≡ next_or z (option_map dart_of o)
next_kept z f c k None = refl
next_kept z f c true (Some e) = c e
next_kept z f c false (Some e) = refl

previous_kept : (z : DartId) (f : DartEntry → DartEntry) → ((e : DartEntry) → (f e).previous ≡ e.previous) → (k : Bool) (o : Option DartEntry) → previous_or z (option_map (λ e. cond k (f e) e) o) ≡ previous_or z o
previous_kept z f c k None = refl
previous_kept z f c true (Some e) = c e
previous_kept z f c false (Some e) = refl

next_diverted : (z x y : DartId) (o : Option DartEntry) → IsSome o → next_or z (option_map dart_of (option_map (λ e. diverted x y e) o)) ≡ cond ((next_or z (option_map dart_of o)).0 == x.0) y (next_or z (option_map dart_of o))
next_diverted z x y None h = absurd (false≢true h)
next_diverted z x y (Some e) h = pick (e.next.0 == x.0)
  where
    pick : (k : Bool) → (cond k (with_follower y e) e).next ≡ cond k y e.next
    pick true = refl
    pick false = refl

previous_diverted : (z x y : DartId) (o : Option DartEntry) → previous_or z (option_map (λ e. diverted x y e) o) ≡ previous_or z o
previous_diverted z x y None = refl
previous_diverted z x y (Some e) = pick (e.next.0 == x.0)
  where
    pick : (k : Bool) → (cond k (with_follower y e) e).previous ≡ e.previous
    pick true = refl
    pick false = refl

pub previous_after : (x y : DartId) (ds : List (ℕ × DartEntry)) (z : DartId) → previous_at (each (λ k e. diverted x y e) ds) z ≡ previous_at ds z
previous_after x y ds z = ap (previous_or z) (row_at-each (λ k e. diverted x y e) ds z.0) ∙ previous_diverted z x y (row_at ds z.0)

-- ---- writes
module _ (ds : List (ℕ × DartEntry)) (n p : DartId → DartId) (t : IsTold ds n p) where
  pub told_followed : (a b : DartId) → IsTold (edit a.0 (with_follower b) ds) (to a b n) p
  told_followed a b z h =
      let s : HasDart (darts_of ds) z = has_each _ ds z h in
      let r = row_at-edit a.0 (with_follower b) ds z.0 in (
        next_is (edit a.0 (with_follower b) ds) z ∙ ap (λ o. next_or z (option_map dart_of o)) r ∙ next_set z b (z.0 == a.0) (row_at ds z.0) (is_has ds z s) ∙ ap (λ w. cond (z.0 == a.0) b w) (sym (next_is ds z) ∙ (t z s).0),
        ap (previous_or z) r ∙ previous_kept z (with_follower b) (λ e. refl) (z.0 == a.0) (row_at ds z.0) ∙ (t z s).1,
      )

  pub told_preceded : (a b : DartId) → IsTold (edit a.0 (with_previous b) ds) n (to a b p)
  told_preceded a b z h =
      let s : HasDart (darts_of ds) z = has_each _ ds z h in
      let r = row_at-edit a.0 (with_previous b) ds z.0 in (
        next_is (edit a.0 (with_previous b) ds) z ∙ ap (λ o. next_or z (option_map dart_of o)) r ∙ next_kept z (with_previous b) (λ e. refl) (z.0 == a.0) (row_at ds z.0) ∙ sym (next_is ds z) ∙ (t z s).0,
        ap (previous_or z) r ∙ previous_set z b (z.0 == a.0) (row_at ds z.0) (is_has ds z s) ∙ ap (λ w. cond (z.0 == a.0) b w) (t z s).1,
      )

  pub told_started : (a : DartId) (w : VertexId) → IsTold (edit a.0 (with_start w) ds) n p
  told_started a w z h =
      let s : HasDart (darts_of ds) z = has_each _ ds z h in
      let r = row_at-edit a.0 (with_start w) ds z.0 in (
        next_is (edit a.0 (with_start w) ds) z ∙ ap (λ o. next_or z (option_map dart_of o)) r ∙ next_kept z (with_start w) (λ e. refl) (z.0 == a.0) (row_at ds z.0) ∙ sym (next_is ds z) ∙ (t z s).0,
        ap (previous_or z) r ∙ previous_kept z (with_start w) (λ e. refl) (z.0 == a.0) (row_at ds z.0) ∙ (t z s).1,
      )

  pub told_diverted : (x y : DartId) → IsTold (each (λ k e. diverted x y e) ds) (via x y n) p
  told_diverted x y z h =
      let s : HasDart (darts_of ds) z = has_each _ ds z h in
      let r = row_at-each (λ k e. diverted x y e) ds z.0 in (
        next_is (each (λ k e. diverted x y e) ds) z ∙ ap (λ o. next_or z (option_map dart_of o)) r ∙ next_diverted z x y (row_at ds z.0) (is_has ds z s) ∙ ap (λ w. cond (w.0 == x.0) y w) (sym (next_is ds z) ∙ (t z s).0),
        ap (previous_or z) r ∙ previous_diverted z x y (row_at ds z.0) ∙ (t z s).1,
      )

  has_put : (k : DartId) (x : DartEntry) (z : DartId) → z ≢ k → HasDart (darts_of (put k.0 x ds)) z → HasDart (darts_of ds) z
  has_put k x z ne h = has_is ds z (sym (ap is_some (put_miss k.0 x ds z.0 (dart_number z k ne))) ∙ is_has (put k.0 x ds) z h)

  pub told_put : (k : DartId) (x : DartEntry) → IsTold (put k.0 x ds) (to k x.next n) (to k x.previous p)
  told_put k x z h = elim (cases_dart z k) [
    | inl q ↦
        let r : row_at (put k.0 x ds) z.0 ≡ Some x = ap (λ w. row_at (put k.0 x ds) w.0) q ∙ put_hit k.0 x ds in (
          next_is (put k.0 x ds) z ∙ ap (λ o. next_or z (option_map dart_of o)) r ∙ sym (to_hit k x.next n z q),
          ap (previous_or z) r ∙ sym (to_hit k x.previous p z q),
        )
    | inr ne ↦
        let r : row_at (put k.0 x ds) z.0 ≡ row_at ds z.0 = put_miss k.0 x ds z.0 (dart_number z k ne) in
        let s : HasDart (darts_of ds) z = has_put k x z ne h in (
          next_is (put k.0 x ds) z ∙ ap (λ o. next_or z (option_map dart_of o)) r ∙ sym (next_is ds z) ∙ (t z s).0 ∙ sym (to_miss k x.next n z ne),
          ap (previous_or z) r ∙ (t z s).1 ∙ sym (to_miss k x.previous p z ne),
        )
  ]

pub put_or : (ds : List (ℕ × DartEntry)) (k : DartId) (x : DartEntry) (z : DartId) → HasDart (darts_of (put k.0 x ds)) z → (z ≡ k) ⊎ HasDart (darts_of ds) z
put_or ds k x z h = elim (cases_dart z k) [
  | inl q ↦ inl q
  | inr ne ↦ inr (has_is ds z (sym (ap is_some (put_miss k.0 x ds z.0 (dart_number z k ne))) ∙ is_has (put k.0 x ds) z h))
]

-- what is left after one dart is gone
module _ (ds : List (ℕ × DartEntry)) (a : NamesAscend (names ds)) (k z : DartId) (h : HasDart (darts_of (del k.0 ds)) z) where
  pub not_gone : z ≢ k
  not_gone q = none_there _ (ap (λ w. row_at (del k.0 ds) w.0) q ∙ del_hit k.0 ds a) (is_has (del k.0 ds) z h)

  pub was_there : HasDart (darts_of ds) z
  was_there = has_is ds z (sym (ap is_some (del_miss k.0 ds z.0 a (dart_number z k not_gone))) ∙ is_has (del k.0 ds) z h)

pub told_gone : (ds : List (ℕ × DartEntry)) (n p : DartId → DartId) (t : IsTold ds n p) (a : NamesAscend (names ds)) (k : DartId) → IsTold (del k.0 ds) n p
told_gone ds n p t a k z h =
    let r : row_at (del k.0 ds) z.0 ≡ row_at ds z.0 = del_miss k.0 ds z.0 a (dart_number z k (not_gone ds a k z h)) in
    let s : HasDart (darts_of ds) z = was_there ds a k z h in (
      next_is (del k.0 ds) z ∙ ap (λ o. next_or z (option_map dart_of o)) r ∙ sym (next_is ds z) ∙ (t z s).0,
      ap (previous_or z) r ∙ (t z s).1,
    )
