-- The darts of a cycle that goes: they are an orbit, and writes of other darts may come before or after.
use Rattle.std.proofs.Common.{◌≡◌, ◌≢◌, ℕ, ◌==◌, Bool, true, false, cond, Some, is_some, refl, sym, ap, ◌∙◌, inl, inr}
use Rattle.std.proofs.lemmas.Bool.{cases_eq}
use Rattle.slab_laws.specs.declared.names.CycleId.{CycleId}
use Rattle.slab_laws.specs.declared.names.DartId.{DartId}
use Rattle.slab_laws.specs.FacesSound.{IsSound}
use Rattle.slab_laws.specs.Tables.{row_at}
use Rattle.slab_laws.specs.View.{View, Faces, HasDart, dart_id, cycle_id, cycle_in, cycle_or}
use Rattle.arr_notes.specs.CycleNames.{cycle_label}
use Rattle.arr_notes.specs.FaceWriters.{on_cycle, off_cycles, recycled, orbit_on}
use Rattle.arr_notes.specs.NamedRows.{put, each}
use Rattle.arr_notes.proofs.Reading.{dart_number}
use Rattle.face_changes.proofs.CycleNames.{names_tell_cycles}
use Rattle.integers.proofs.Tests.{other_number, same_number}
use Rattle.mirror_observer.proofs.EachRow.{each_put, each_del, each_read, each_still}

pub either_way : (b : Bool) (c : CycleId) → cond b c c ≡ c
either_way true c = refl
either_way false c = refl

module _ (gone kept : CycleId) where
  swapped : ℕ → CycleId → CycleId
  swapped n c = cond (c.0 == gone.0) kept c

  pub recycled_on : (d : DartId) (f : Faces) → recycled gone kept (on_cycle d kept f) ≡ on_cycle d kept (recycled gone kept f)
  unfolding swapped
  recycled_on d f = λ i. record {
    cycle_of = (each_put swapped d.0 kept f.cycle_of ∙ ap (λ c. put d.0 c (each swapped f.cycle_of)) (either_way (kept.0 == gone.0) kept)) i;
    bare = f.bare;
    cycles = f.cycles;
    faces = f.faces;
  }

  pub recycled_off : (d : DartId) (f : Faces) → recycled gone kept (off_cycles d f) ≡ off_cycles d (recycled gone kept f)
  unfolding swapped
  recycled_off d f = λ i. record { cycle_of = each_del swapped d.0 f.cycle_of i; bare = f.bare; cycles = f.cycles; faces = f.faces }

  module _ (v : View) (f : Faces) (s : IsSound v f) where
    has_of : (n : ℕ) (b : CycleId) → row_at f.cycle_of n ≡ Some b → HasDart v (dart_id n)
    has_of n b e = (s.complete.cycle_rows (dart_id n)).1 (ap is_some e)

    hit : (b : CycleId) → b ≡ gone → cond (b.0 == gone.0) kept b ≡ kept
    hit b e = ap (λ t. cond t kept b) (ap (λ (z : CycleId). z.0 == gone.0) e ∙ same_number gone.0)

    miss : (b : CycleId) → b ≢ gone → cond (b.0 == gone.0) kept b ≡ b
    miss b n = ap (λ t. cond t kept b) (other_number b.0 gone.0 (λ q. n (ap cycle_id q)))

    -- the orbit of one of its darts is the cycle
    pub orbit_is_cycle : (x : DartId) → HasDart v x → cycle_in f x ≡ gone → orbit_on v x kept f ≡ recycled gone kept f
    orbit_is_cycle x h e = λ i. record {
      cycle_of = each_read (λ n b. cond ((cycle_label v (dart_id n)).0 == (cycle_label v x).0) kept b) (λ n b. cond (b.0 == gone.0) kept b) f.cycle_of s.complete.cycle_of_ascend agree i;
      bare = f.bare;
      cycles = f.cycles;
      faces = f.faces;
    }
      where
        agree : (n : ℕ) (b : CycleId) → row_at f.cycle_of n ≡ Some b → cond ((cycle_label v (dart_id n)).0 == (cycle_label v x).0) kept b ≡ cond (b.0 == gone.0) kept b
        agree n b r =
            let k : DartId = dart_id n in
            let K : HasDart v k = has_of n b r in
            let at : cycle_in f k ≡ b = ap cycle_or r in
            let o = s.cycled.orbits k x K h in
            let t = names_tell_cycles v k x s.graph K h in
            elim (cases_eq b.0 gone.0) [
              | inl q ↦
                  let g : b ≡ gone = ap cycle_id q in
                  let l : cycle_label v k ≡ cycle_label v x = t.1 (o.0 (at ∙ g ∙ sym e)) in
                  ap (λ z. cond z kept b) (ap (λ (z : DartId). z.0 == (cycle_label v x).0) l ∙ same_number (cycle_label v x).0) ∙ sym (hit b g)
              | inr n ↦
                  ap (λ z. cond z kept b) (other_number (cycle_label v k).0 (cycle_label v x).0 (dart_number (cycle_label v k) (cycle_label v x)
                  (λ l. n (ap (λ (z : CycleId). z.0) (sym at ∙ o.1 (t.0 l) ∙ e))))) ∙ sym (miss b (λ q. n (ap (λ (z : CycleId). z.0) q)))
            ]

    -- a cycle without darts
    pub recycled_none : ((k : DartId) → HasDart v k → cycle_in f k ≢ gone) → recycled gone kept f ≡ f
    recycled_none none = λ i. record {
      cycle_of = (each_read (λ n b. cond (b.0 == gone.0) kept b) (λ n b. b) f.cycle_of s.complete.cycle_of_ascend (λ n b r. miss b (λ q. none (dart_id n) (has_of n b r) (ap cycle_or r ∙ q)))
          ∙ each_still (λ n b. b) (λ n b. refl) f.cycle_of) i;
      bare = f.bare;
      cycles = f.cycles;
      faces = f.faces;
    }
