-- Walked from their least darts, cycles have these for their leads.
use Rattle.std.proofs.Common.{◌≡◌, ℕ, ◌+◌, ◌<◌, ◌≤◌, arith, sym, ap, ◌∙◌, subst, inl, inr, List, length, get_or}
use Rattle.std.specs.List.{range_with_len}
use Rattle.std.proofs.lemmas.Bool.{cases_lt}
use Rattle.slab_laws.specs.declared.classes.Link.{Link}
use Rattle.slab_laws.specs.Darts.{darts}
use Rattle.slab_laws.specs.Rotation.{next}
use Rattle.slab_laws.specs.Rows.{dart_list, dart_at, dart_place, next_places, lead_places}
use Rattle.slab_laws.specs.Skeleton.{Skeleton, IsPlaneSkeleton}
use Rattle.slab_faces.proofs.ClassesLemmas.{IsEquivalence, along_link, connected}
use Rattle.slab_faces.proofs.Member.{Member, map_in, map_out}
use Rattle.slab_faces.proofs.NextLemmas.{next_from, next_one}
use Rattle.dart_orbits.specs.LeastNumbers.{same_number, is_less}
use Rattle.dart_orbits.proofs.LeastTransport.{numbers_exact, least_number, least_number-le}
use Rattle.dart_orbits.specs.CycleLinks.{link_at, place_links}
use Rattle.dart_orbits.proofs.LeadPlaces.{nexts_length, next_at, next_within, leads_are}
use Rattle.dart_orbits.proofs.Listed.{dart_there, dart_at_place, place_of_dart}
use Rattle.dart_orbits.specs.Walks.{ArePermuted, IsMet, AreWhole, IsMarked}
use Rattle.dart_orbits.proofs.Ranges.{numbers_in, numbers_out}

-- ---- numbers
module _ (nexts : List ℕ) where
  least : ℕ → ℕ
  least k = least_number (place_links nexts) k

  link_in : (k : ℕ) → k < length nexts → Member (place_links nexts) (link_at nexts k)
  link_in k l = map_in (link_at nexts) (range_with_len 0 (length nexts)) k (numbers_in (length nexts) k l)

  one_lead : (k : ℕ) → k < length nexts → least (get_or nexts k 0) ≡ least k
  unfolding least
  one_lead k l = sym (along_link same_number is_less numbers_exact (place_links nexts) (link_at nexts k) (link_in k l))

  -- the first numbers have their leads, and whole cycles do
  pub record AreLed (i : ℕ) (leads : List ℕ) : Type 0 where
    pub counted : length leads ≡ length nexts
    pub whole : AreWhole nexts leads
    pub met : (k : ℕ) → k < i → IsMet nexts leads k
    pub right : (k : ℕ) → k < length nexts → IsMet nexts leads k → get_or leads k 0 ≡ least_number (place_links nexts) k

  pub none_led : (leads : List ℕ) → ArePermuted nexts → length leads ≡ length nexts → ((k : ℕ) → k < length nexts → get_or leads k 0 ≡ length nexts) → AreLed 0 leads
  none_led leads perm c f = record {
    counted = c;
    whole = λ k l. ((λ m. absurd (m (f k l))), (λ m. absurd (m (f (get_or nexts k 0) (perm.within k l)))));
    met = λ k l. absurd (omega arith);
    right = λ k l m. absurd (m (f k l));
  }

  module _ (i : ℕ) (old : List ℕ) (h : AreLed i old) (inside : i < length nexts) where
    Together : ℕ → ℕ → Type 0
    Together j k = (IsMet nexts old j → IsMet nexts old k) × (IsMet nexts old k → IsMet nexts old j)

    together : IsEquivalence Together
    unfolding Together
    together = record { itself = λ x. (λ m. m, λ m. m); back = λ x y r. (r.1, r.0); on = λ x y z r s. (λ m. s.0 (r.0 m), λ m. r.1 (s.1 m)) }

    linked : (m : Link ℕ) → Member (place_links nexts) m → Together m.one m.other
    unfolding Together
    linked m mem =
        let w = map_out (link_at nexts) (range_with_len 0 (length nexts)) m mem in
        subst (λ (x : Link ℕ). Together x.one x.other) w.2 (h.whole w.0 (numbers_out (length nexts) w.0 w.1))

    -- a number without a lead, before which all have one, is the least of its cycle
    own_lead : (IsMet nexts old i → ⊥) → least i ≡ i
    unfolding Together least
    own_lead unmet =
        let low = least_number-le (place_links nexts) i in
        elim (cases_lt (least i) i) [
          | inl l ↦ absurd (unmet ((connected same_number is_less numbers_exact Together together (place_links nexts) linked i).1 (h.met (least i) l)))
          | inr l ↦ omega arith
        ]

    pub one_more : (new : List ℕ) → IsMarked nexts i old new → AreLed (i + 1) new
    unfolding least
    one_more new w = record {
      counted = w.counted;
      whole = w.whole;
      met = λ k l. elim (cases_lt k i) [
        | inl a ↦ (let m = h.met k a in λ q. m (sym (w.kept k (omega arith) m) ∙ q))
        | inr b ↦ (let e : i ≡ k = omega arith in subst (IsMet nexts new) e w.met)
      ];
      right = λ k l m. elim (w.marked k l m) [
        | inl a ↦ w.kept k l a ∙ h.right k l a
        | inr b ↦ b.lead ∙ sym (b.on least one_lead ∙ own_lead b.unmet)
      ];
    }

-- ---- darts
module _ (g : Skeleton) (plane : IsPlaneSkeleton g) (nexts : List ℕ) (e : nexts ≡ next_places g) where
  pub permuted : ArePermuted nexts
  permuted = record {
    within = λ k l.
        let n = nexts_length g plane nexts e in
        let K : k < length (dart_list g) = omega arith in
        let a = next_within g plane nexts e k K in
        omega arith;
    one = λ j k l m q.
        let n = nexts_length g plane nexts e in
        let J : j < length (dart_list g) = omega arith in
        let K : k < length (dart_list g) = omega arith in
        let there = λ (i : ℕ) (I : i < length (dart_list g)). dart_at_place g plane (next (darts g) (dart_at g i)) (next_from g (dart_at g i) plane (dart_there g plane i I)).in' in
        let same = sym (there j J) ∙ ap (dart_at g) (sym (next_at g plane nexts e j J) ∙ q ∙ next_at g plane nexts e k K) ∙ there k K in
        sym (place_of_dart g plane j J) ∙ ap (dart_place g) (next_one g (dart_at g j) (dart_at g k) plane (dart_there g plane j J) (dart_there g plane k K) same) ∙ place_of_dart g plane k K;
  }

  pub all_led : (i : ℕ) (leads : List ℕ) → length nexts ≤ i → AreLed nexts i leads → leads ≡ lead_places g
  all_led i leads l h = leads_are g plane nexts e leads h.counted (λ k m. h.right k m (h.met k (omega arith)))
