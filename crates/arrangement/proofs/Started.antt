-- The spots of lower ends, side by side.
use Rattle.std.proofs.Common.{◌≡◌, ℕ, zero, suc, ◌+◌, ◌<◌, ◌≤◌, List, [], ◌∷◌, ◌++◌, true, false, is_eq, Ordering, Less, Equal, Greater, length, take, get_or, set, refl, sym, ap, ◌∙◌, subst, add-one, arith}
use Rattle.std.specs.List.{list_any}
use Rattle.std.proofs.Math.Seq.{take-suc}
use Rattle.std.proofs.Math.ListN.{length-set}
use Rattle.std.proofs.lemmas.List.{length-take-le, take_more_set}
use Rattle.exact_plane.specs.declared.bounds.TheConstants.{MAX_SIDES}
use Rattle.exact_plane.specs.Point.{Point, point_eq}
use Rattle.exact_plane.specs.PointOrder.{point_cmp}
use Rattle.exact_plane.specs.PointOrderLaws.{one_point}
use Rattle.exact_plane.specs.Segment.{Segment}
use Rattle.slab_laws.specs.View.{View, Faces}
use Rattle.dcel_records.specs.declared.spot.Spot.{Spot}
use Rattle.face_location.specs.Spots.{IsSpotOf}
use Rattle.path_zone.specs.PathZone.{has_behind, is_begun, AreStarts, AreStartsAmong}
use Rattle.arrangement.specs.PathStarts.{IsStartAmong}

module _ (v : View) (f : Faces) (all : List Segment) where
  starts_more : (ss : List Segment) (ps : List Spot) (s : Segment) (p : Spot) → AreStartsAmong v f all ss ps → (is_begun all s ≡ false → IsSpotOf v f s.lower p) → AreStartsAmong v f all (ss ++ (s ∷ [])) (ps ++ (p ∷ []))
  starts_more [] [] s p a h = (h, tt)
  starts_more [] (q ∷ ps) s p a h = absurd a
  starts_more (r ∷ ss) [] s p a h = absurd a
  starts_more (r ∷ ss) (q ∷ ps) s p a h = (a.0, starts_more ss ps s p a.1 h)

  start_at : (ss : List Segment) (ps : List Spot) (j : ℕ) (d : Segment) (q : Spot) → AreStartsAmong v f all ss (take (length ss) ps) → j < length ss → is_begun all (get_or ss j d) ≡ false → IsSpotOf v f (get_or ss j d).lower (get_or ps j q)
  start_at [] ps j d q a l n = absurd (omega (arith, l))
  start_at (s ∷ ss) [] j d q a l n = absurd a
  start_at (s ∷ ss) (p ∷ ps) zero d q a l n = a.0 n
  start_at (s ∷ ss) (p ∷ ps) (suc j) d q a l n = start_at ss ps j d q a.1 (omega (arith, l)) n

  -- a side that begins where an earlier one does has its start
  pub start_again : (ss : List Segment) (ps : List Spot) (x : Point) (spot : Spot) → IsStartAmong ss ps x spot → AreStartsAmong v f all ss (take (length ss) ps) → list_any (λ t. has_behind t x) all ≡ false → IsSpotOf v f x spot
  start_again ss ps x spot h a n =
      subst (IsSpotOf v f x) (sym (h.start spot))
      (subst (λ (p : Point). IsSpotOf v f p (get_or ps h.place spot)) same
      (start_at ss ps h.place h.side spot a h.within (ap (λ (p : Point). list_any (λ t. has_behind t p) all) same ∙ n)))
    where
      same : (get_or ss h.place h.side).lower ≡ x
      same = ap (λ (t : Segment). t.lower) (sym h.there) ∙ h.begins

  -- the spots of the sides before a place
  pub record AreStarted (ss : List Segment) (ps : List Spot) (i : ℕ) : Type 0 where
    pub room : length ps ≡ MAX_SIDES
    pub starts : AreStartsAmong v f all (take i ss) (take i ps)

  -- those of the sides before the place, by other words for them
  pub started_before : (ss bs : List Segment) (ps qs : List Spot) (i : ℕ) → i < length ss → bs ≡ take i ss → qs ≡ ps → AreStarted ss ps i → AreStartsAmong v f all bs (take (length bs) qs)
  started_before ss bs ps qs i l e d a =
      subst (λ rs. AreStartsAmong v f all bs (take (length bs) rs)) (sym d)
      (subst (λ n. AreStartsAmong v f all bs (take n ps)) (sym (ap length e ∙ length-take-le i ss (omega (arith, l)))) (subst (λ rs. AreStartsAmong v f all rs (take i ps)) (sym e) a.starts))

  module _ (ss : List Segment) (few : length ss ≤ MAX_SIDES) (ps : List Spot) (i : ℕ) (a : AreStarted ss ps i) where
    pub started_next : (s : Segment) (p : Spot) → i < length ss → s ≡ get_or ss i s → (is_begun all s ≡ false → IsSpotOf v f s.lower p) → AreStarted ss (set ps i p) (i + 1)
    started_next s p l e h = record {
      room = length-set ps i p ∙ a.room;
      starts = subst (AreStartsAmong v f all (take (i + 1) ss)) (sym (take_more_set ps i p (omega (arith, l, few, a.room))))
          (subst (λ rs. AreStartsAmong v f all rs (take i ps ++ (p ∷ []))) (sym (ap (λ n. take n ss) (add-one i) ∙ take-suc ss i s l ∙ ap (λ r. take i ss ++ (r ∷ [])) (sym e)))
          (starts_more (take i ss) (take i ps) s p a.starts h));
    }

-- as many of them as there are sides, by other words for both lists
pub started_as : (v : View) (f : Faces) (ss rs : List Segment) (ps qs : List Spot) → ss ≡ rs → qs ≡ take (length ss) ps → AreStarts v f ss (take (length ss) ps) → AreStarts v f rs qs
started_as v f ss rs ps qs e q a = subst (λ r. AreStarts v f r qs) e (subst (AreStarts v f ss) (sym q) a)
