-- The sides with their starts, one after the other.
use Rattle.std.proofs.Common.{◌≡◌, ℕ, suc, ◌+◌, ◌<◌, ◌≤◌, List, [], ◌∷◌, ◌++◌, false, length, take, drop, get_or, refl, sym, ap, ◌∙◌, subst, inl, inr, ⊎_elim, add-one, arith}
use Rattle.std.proofs.Math.Seq.{drop-cons, take-length, take-suc}
use Rattle.std.proofs.lemmas.Bool.{cases_lt}
use Rattle.std.proofs.lemmas.List.{drop_all, length-map, length-take-le, map-append}
use Rattle.exact_plane.specs.Segment.{Segment}
use Rattle.plane_graphs.specs.Ascending.{Member}
use Rattle.plane_graphs.proofs.Lists.{in_either}
use Rattle.slab_laws.specs.View.{View, Faces}
use Rattle.dcel_records.specs.declared.spot.Spot.{Spot}
use Rattle.dcel_records.specs.declared.spot.Spot.TheVariants.{Vertex}
use Rattle.face_location.specs.Spots.{IsSpotOf}
use Rattle.path_zone.specs.declared.order.BegunSide.{BegunSide}
use Rattle.path_zone.specs.Begun.{sides_of, AreBegun, ArePlaced}
use Rattle.path_zone.specs.PathZone.{is_begun, AreStarts, AreStartsAmong}

placed_more : (j : ℕ) (bs : List BegunSide) (b : BegunSide) → ArePlaced j bs → b.place ≡ j + length bs → ArePlaced j (bs ++ (b ∷ []))
placed_more j [] b p e = (omega (arith, e), tt)
placed_more j (c ∷ bs) b p e = (p.0, placed_more (suc j) bs b p.1 (omega (arith, e)))

module _ (ss : List Segment) (spots : List Spot) where
  -- those before a place were taken
  pub record AreStarted (bs : List BegunSide) (i : ℕ) : Type 0 where
    pub within : i ≤ length ss
    pub sides : sides_of bs ≡ take i ss
    pub places : ArePlaced 0 bs
    pub starts : (v : View) (f : Faces) → AreStarts v f ss spots → (b : BegunSide) → Member b bs → is_begun ss b.side ≡ false → IsSpotOf v f b.side.lower b.start
    pub left : (v : View) (f : Faces) → AreStarts v f ss spots → AreStartsAmong v f ss (drop i ss) (drop i spots)

  started_none : AreStarted [] 0
  started_none = record { within = omega arith; sides = refl; places = tt; starts = λ v f a b n. absurd n; left = λ v f a. a }

  pub started_first : (bs : List BegunSide) → bs ≡ [] → AreStarted bs 0
  started_first bs e = subst (λ cs. AreStarted cs 0) (sym e) started_none

  module _ (bs : List BegunSide) (i : ℕ) (a : AreStarted bs i) (s : Segment) (l : i < length ss) (e : s ≡ get_or ss i s) where
    abbrev rest : List Segment
    rest = drop (i + 1) ss

    ahead : drop i ss ≡ s ∷ rest
    ahead = drop-cons ss i s l ∙ (λ k. sym e k ∷ drop (sym (add-one i) k) ss)

    module _ (v : View) (f : Faces) (h : AreStarts v f ss spots) where
      here : AreStartsAmong v f ss (s ∷ rest) (drop i spots)
      here = subst (λ rs. AreStartsAmong v f ss rs (drop i spots)) ahead (a.left v f h)

      there : i < length spots
      there = ⊎_elim (λ k. k) (λ k. absurd (subst (AreStartsAmong v f ss (s ∷ rest)) (drop_all i spots k) here)) (cases_lt i (length spots))

      parted : (d : Spot) → AreStartsAmong v f ss (s ∷ rest) (get_or spots i d ∷ drop (i + 1) spots)
      parted d = subst (AreStartsAmong v f ss (s ∷ rest)) (drop-cons spots i d there ∙ ap (λ n. get_or spots i d ∷ drop n spots) (sym (add-one i))) here

    pub start_there : (v : View) × (f : Faces) × AreStarts v f ss spots → i < length spots
    start_there (v, f, h) = there v f h

    as_long : length bs ≡ i
    as_long = sym (length-map bs (λ (b : BegunSide). b.side)) ∙ ap length a.sides ∙ length-take-le i ss a.within

    module _ (b : BegunSide) (is : b.side ≡ s) (place : b.place ≡ i) (start : (d : Spot) → b.start ≡ get_or spots i d) (new : List BegunSide) (items : new ≡ bs ++ (b ∷ [])) where
      added : AreStarted (bs ++ (b ∷ [])) (i + 1)
      added = record {
        within = omega (arith, l);
        sides = map-append (λ (c : BegunSide). c.side) bs (b ∷ []) ∙ ap (λ rs. rs ++ (b.side ∷ [])) a.sides ∙ ap (λ r. take i ss ++ (r ∷ [])) (is ∙ e) ∙ sym (ap (λ n. take n ss) (add-one i) ∙ take-suc ss i s l);
        places = placed_more 0 bs b a.places (omega (arith, place, as_long));
        starts = λ v f h c n q. ⊎_elim
            (λ m. a.starts v f h c m q)
            (λ m. one v f h c m q)
            (in_either c bs (b ∷ []) n);
        left = λ v f h. (parted v f h (Vertex (record { 0 = 0 }))).1;
      }
        where
          one : (v : View) (f : Faces) → AreStarts v f ss spots → (c : BegunSide) → Member c (b ∷ []) → is_begun ss c.side ≡ false → IsSpotOf v f c.side.lower c.start
          one v f h c (inl d) q =
              subst (λ (k : BegunSide). IsSpotOf v f k.side.lower k.start) (sym d)
              (subst (λ (t : Segment). IsSpotOf v f t.lower b.start) (sym is)
              (subst (IsSpotOf v f s.lower) (sym (start b.start)) ((parted v f h b.start).0 (subst (λ (t : Segment). is_begun ss t ≡ false) (ap (λ (k : BegunSide). k.side) d ∙ is) q))))
          one v f h c (inr m) q = absurd m

      pub started_next : AreStarted new (i + 1)
      started_next = subst (λ cs. AreStarted cs (i + 1)) (sym items) added

  -- all were taken
  pub started_all : (bs : List BegunSide) (i : ℕ) → AreStarted bs i → length ss ≤ i → (v : View) (f : Faces) → AreStarts v f ss spots → AreBegun v f ss bs
  started_all bs i a l v f h = record {
    sides = a.sides ∙ ap (λ n. take n ss) (i_is a.within) ∙ take-length ss;
    places = a.places;
    starts = a.starts v f h;
  }
    where
      i_is : i ≤ length ss → i ≡ length ss
      i_is k = omega (arith, k, l)
